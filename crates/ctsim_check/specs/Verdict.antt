-- What the program writes of a check (rule 16.6).
use Rattle.std.specs.Prelude.{ℕ, Bool, true, false, List, Result, Ok, Err}
use Rattle.config.specs.declared.refusal.Refusal.{Refusal}
use Rattle.config.specs.Refusals.{number_of}
use Rattle.text.specs.Text.{ascii}
use Rattle.listing.specs.Listing.{refusal_text}

-- `yes`, `no` or `refused N`
abbrev pub verdict_text : Result Bool Refusal → List ℕ
verdict_text (Ok true) = ascii "yes\n"
verdict_text (Ok false) = ascii "no\n"
verdict_text (Err r) = refusal_text (number_of r)
