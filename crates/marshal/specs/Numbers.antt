-- The result of a call: 0, or the number that tells the refusal; and of one that has a number for an answer: the sum of a
-- sweep's rounds, the nodes of a topology, a diameter, the length of a file (rules 7.8 and 9.4). Here and in the other modules
-- `number` says which number tells a refusal.
use Rattle.std.specs.Prelude.{ℕ, List, [], ◌∷◌, Result, Ok, Err}
use Rattle.std.proofs.lemmas.List.Edits.{sets}

abbrev pub done_result : {A R : Type 0} → (R → ℕ) → Result A R → ℕ
done_result number (Ok x) = 0
done_result number (Err r) = number r

-- the result, and the slice that the number is written to
abbrev pub number_result : {R : Type 0} → (R → ℕ) → Result ℕ R → List ℕ → ℕ × List ℕ
number_result number (Ok n) out = (0, sets out 0 (n ∷ []))
number_result number (Err r) out = (number r, out)
