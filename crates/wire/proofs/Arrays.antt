-- Arrays as the code lays them: the flags behind a bracket or a comma each, and the digits of a term's data. Assumes nothing.
use Rattle.std.specs.Prelude.{Some}
use Prim.Native.Nat.{ℕ, zero, suc, ◌+◌, ◌/◌, ◌%◌, ◌≤◌, ◌<◌}
use mathlib.Core.Path.{◌≡◌, refl, sym}
use mathlib.Core.List.{List, [], ◌∷◌, ◌++◌, append_assoc, append-nil}
use native.Mathlib.Omega.{arith}
use Rattle.std.specs.Prelude.{Some}
use Rattle.random.specs.Table.{tabulate}
use Rattle.network.specs.Graph.{has}
use Rattle.text.specs.Text.{ascii, spelled_in, spelled, each}
use Rattle.text.proofs.Spelling.{spelled_low, spelled_high}
use Rattle.network.specs.declared.units.Term.{Term}
use Rattle.wire.specs.Grammar.{array, behind_commas, data_bytes, data_text, flag_text, flags_text}
use Rattle.wire.specs.View.{mark, marked_flag, digit_text, digits_text}

-- f 0, and what f gives from 1 on
each_first : (f : ℕ → List ℕ) (n : ℕ) → each f (suc n) ≡ f 0 ++ each (λ (i : ℕ). f (suc i)) n
unfolding each
each_first f zero = sym (append-nil (f 0))
each_first f (suc n) = rw (each_first f n) (append_assoc (f 0) (each (λ (i : ℕ). f (suc i)) n) (f (suc n)))

-- items behind commas, one after the other
commas : (f : ℕ → List ℕ) (n : ℕ) → behind_commas (tabulate n f) ≡ each (λ (i : ℕ). ascii "," ++ f i) n
unfolding behind_commas tabulate each
commas f zero = refl
commas f (suc n) = rw (commas (λ (i : ℕ). f (suc i)) n) (rw (each_first (λ (i : ℕ). ascii "," ++ f i) n) (simp append_assoc))

-- what stands in front of flag i
pub mark_first : (i : ℕ) → i ≡ 0 → mark i ≡ ascii "["
mark_first zero e = refl
mark_first (suc i) e = absurd (omega arith)

pub mark_other : (i : ℕ) → ¬ (i ≡ 0) → mark i ≡ ascii ","
mark_other zero n = absurd (n refl)
mark_other (suc i) n = refl

-- the flags, one after the other, and the bracket
pub flags_each : (s n : ℕ) → 1 ≤ n → flags_text n s ≡ each (marked_flag s) n ++ ascii "]"
unfolding flags_text array tabulate
flags_each s zero h = absurd (omega arith)
flags_each s (suc n) h =
    rw (commas (λ (i : ℕ). flag_text (has s (suc i))) n)
    (rw (each_first (marked_flag s) n) (simp append_assoc))

-- the digits of a term's data
pub digits_one : (t : ℕ) → t < 10 → digits_text t ≡ digit_text t
unfolding behind_commas ascii
digits_one t h = rw (spelled_low t h) (rw (append-nil (spelled (48 + t))))

pub digits_two : (t : ℕ) → 10 ≤ t → t < 100 → digits_text t ≡ digit_text (t / 10) ++ digit_text (t % 10)
unfolding behind_commas ascii
digits_two t h h' = rw (spelled_high t h, spelled_low (t / 10) (omega arith)) (rw (append-nil (spelled (48 + t % 10))) (simp append_assoc))

-- the bytes of `tx` in decimal
spelled_116 : spelled 116 ≡ 49 ∷ 49 ∷ 54 ∷ []
unfolding spelled spelled_in
spelled_116 = refl

spelled_120 : spelled 120 ≡ 49 ∷ 50 ∷ 48 ∷ []
unfolding spelled spelled_in
spelled_120 = refl

-- the text of a term's data
pub data_text_lem : (t : Term) → data_text (Some t) ≡ ascii "[116,120" ++ digits_text t.0 ++ ascii "]"
unfolding data_text array behind_commas data_bytes ascii
data_text_lem t = simp (spelled_116, spelled_120, append_assoc)
