use Rattle.std.proofs.Common.{◌≡◌, ◌<◌, ◌^◌}
use Rattle.std.proofs.Math.ListN.{drop}
use Rattle.text.specs.Numeral.{numeral}
use Rattle.text.proofs.Numerals.{numeral_from}
use Rattle.text.proofs.numeral.numeral.Given as goal

abbrev pub invariant-loop-byte : goal.invariant-loop-byte
invariant-loop-byte l = record { small : l.n < 2 ^ 64; same : numeral l.base l.text ≡ numeral_from l.base l.n (drop l.byte-index l.text) }
