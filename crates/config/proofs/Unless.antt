-- What a value that may be refused says of the refusal. Assumes nothing.
use Rattle.std.proofs.Common.{◌≡◌, refl, sym, ap, ℕ, Option, Some, None, Result, Ok, Err, arith}
use Rattle.std.specs.Prelude.{IsErrAnd}
use Rattle.config.specs.Refusals.{unless}
use Rattle.config.specs.declared.refusal.Refusal.{Refusal}

module _ {T : Type 0} (x : T) where
  pub refused : (o : Option Refusal) (r : Refusal) → unless o x ≡ Err r → o ≡ Some r
  refused None r e = let z : ◌≡◌ {A = ℕ} 0 1 = cc in absurd (omega arith)
  refused (Some q) r e = cc

  pub passed : (o : Option Refusal) (y : T) → unless o x ≡ Ok y → (o ≡ None) × (x ≡ y)
  passed None y e = (refl, cc)
  passed (Some q) y e = let z : ◌≡◌ {A = ℕ} 0 1 = cc in absurd (omega arith)

-- a refusal of one value is that of any other
pub still_refused : {T U : Type 0} (x : T) (y : U) (o : Option Refusal) (r : Refusal) → Err r ≡ unless o x → Err r ≡ unless o y
still_refused x y o r e = let z : o ≡ Some r = refused x o r (sym e) in rw z refl

-- nothing refuses it
pub not_refused : {T : Type 0} (x : T) (o : Option Refusal) → o ≡ None → Ok x ≡ unless o x
not_refused x o e = rw e refl

-- what the exit of a `?` gives: the refusal that came
pub goes_up : {T : Type 0} {refusal : Refusal} (r : Result T Refusal) → IsErrAnd r (λ y. y ≡ refusal) → r ≡ Err refusal
goes_up (Ok x) h = absurd h
goes_up (Err y) h = ap Err h
