-- What the code's parts of the writer lay.
use Rattle.std.specs.Prelude.{ℕ, zero, suc, ◌+◌, Bool, true, List, ◌++◌, map, ltb, Option, Some, None}
use Rattle.config.specs.Limits.{max_terms}
use Rattle.network.specs.Graph.{has}
use Rattle.network.specs.declared.units.Term.{Term}
use Rattle.text.specs.Text.{ascii, spelled}
use Rattle.wire.specs.Grammar.{behind_commas, flag_text}

-- what stands in front of flag i: the bracket or a comma
abbrev pub mark : ℕ → List ℕ
mark zero = ascii "["
mark (suc i) = ascii ","

-- flag i with its mark
abbrev pub marked_flag : ℕ → ℕ → List ℕ
marked_flag set i = mark i ++ flag_text (has set i)

-- a digit of a term's data, and all of them
abbrev pub digit_text : ℕ → List ℕ
digit_text d = ascii "," ++ spelled (48 + d)

abbrev pub digits_text : ℕ → List ℕ
digits_text t = behind_commas (map spelled (spelled t))

-- data is that of a term below 64
abbrev pub data_below : Option Term → Bool
data_below None = true
data_below (Some t) = ltb t.0 max_terms
