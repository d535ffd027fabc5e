-- Readers of words, one reader behind another, and one or the other: what they find, and what can be said of all that they find.
-- Assumes nothing.
use Prim.Native.Nat.{ℕ}
use mathlib.Core.Path.{◌≡◌, refl, sym, ◌∙◌, subst}
use mathlib.Core.Bool.{Bool, true, false, cond}
use Rattle.std.specs.Prelude.{Option, None, Some}
use Rattle.std.proofs.lemmas.Option.{none-some}
use mathlib.Core.List.{List, [], ◌∷◌, ◌++◌}
use lib.Dec.{eqb}
use borrow.Author.Tests.{eq-eqb, ne_eqb, eqb-true}
use Rattle.wire_reader.specs.Reader.{Reader, behind, give, onward, ◌>>=◌, beyond, behind_word, otherwise, ◌or_else◌}

-- ---- a word at the front

pub behind_word_lem : (word t : List ℕ) → behind word (word ++ t) ≡ Some t
unfolding behind
behind_word_lem [] t = refl
behind_word_lem (b ∷ word) t = simp (eq-eqb b b refl) (behind_word_lem word t)

pub behind_only : (word t u : List ℕ) → behind word t ≡ Some u → t ≡ word ++ u
unfolding behind
behind_only [] t u e = cc
behind_only (b ∷ word) [] u e = cc
behind_only (b ∷ word) (c ∷ t) u e = case (behind_only word t u) (eqb c b) refl e
  where
    case : (behind word t ≡ Some u → t ≡ word ++ u) → (q : Bool) → eqb c b ≡ q → cond q (behind word t) None ≡ Some u → c ∷ t ≡ b ∷ word ++ u
    case ih true q e = let same = eqb-true c b q in let rest = ih e in cc
    case ih false q e = cc

-- the first byte is another
pub behind_other : {b c : ℕ} (word t : List ℕ) → (c ≡ b → ⊥) → behind (b ∷ word) (c ∷ t) ≡ None
unfolding behind
behind_other {b} {c} word t h = simp (ne_eqb c b h)

-- ---- what a reader finds

module _ {A : Type 0} (word : List ℕ) (next : Reader A) (t : List ℕ) where
  pub word_reads : behind_word word next (word ++ t) ≡ next t
  unfolding behind_word
  word_reads = simp behind_word_lem

  pub word_none : behind word t ≡ None → behind_word word next t ≡ None
  unfolding behind_word
  word_none e = simp e

module _ {A B : Type 0} (first : Reader A) (next : A → Reader B) (t : List ℕ) where
  pub bind_reads : {a : A} {u : List ℕ} → first t ≡ Some (a, u) → (first >>= next) t ≡ next a u
  unfolding ◌>>=◌
  bind_reads e = simp e

  pub bind_none : first t ≡ None → (first >>= next) t ≡ None
  unfolding ◌>>=◌
  bind_none e = simp e

-- a word, and a value behind it
pub field_reads : {A B : Type 0} (word : List ℕ) (first : Reader A) (next : A → Reader B) (t : List ℕ) {a : A} {u : List ℕ}
    → first t ≡ Some (a, u) → behind_word word (first >>= next) (word ++ t) ≡ next a u
field_reads word first next t e = word_reads word (first >>= next) t ∙ bind_reads first next t e

module _ {A : Type 0} (first second : Reader A) (t : List ℕ) where
  pub or_first : {z : A × List ℕ} → first t ≡ Some z → (first or_else second) t ≡ Some z
  unfolding ◌or_else◌
  or_first e = simp e

  pub or_second : first t ≡ None → (first or_else second) t ≡ second t
  unfolding ◌or_else◌
  or_second e = simp e

-- ---- what holds of all that a reader finds

-- what is said of a value, the text that it was found in, and what stands behind it there
abbrev pub Claim : Type 0 → Type 1
Claim A = A → List ℕ → List ℕ → Type 0

-- it holds of all that the reader finds
abbrev pub Finds : {A : Type 0} → Reader A → Claim A → Type 0
Finds {A} r Q = (t : List ℕ) (a : A) (u : List ℕ) → r t ≡ Some (a, u) → Q a t u

-- the reader finds only values that fit, and each only where its text is at the front
abbrev pub Only : {A : Type 0} → Reader A → (A → Type 0) → (A → List ℕ) → Type 0
Only r fits text = Finds r (λ a t u. fits a × (t ≡ text a ++ u))

pub give_finds : {A : Type 0} (a : A) (Q : Claim A) → ((t : List ℕ) → Q a t t) → Finds (give a) Q
unfolding give
give_finds {A} a Q h t b u e = let same : ◌≡◌ {A = A × List ℕ} (a, t) (b, u) = cc in subst (λ (z : A × List ℕ). Q z.0 t z.1) same (h t)

pub word_finds : {A : Type 0} (word : List ℕ) (next : Reader A) (Q : Claim A)
    → Finds next (λ a t u. Q a (word ++ t) u) → Finds (behind_word word next) Q
unfolding behind_word
word_finds word next Q h t a u e = case (behind word t) refl e
  where
    case : (o : Option (List ℕ)) → behind word t ≡ o → beyond next o ≡ Some (a, u) → Q a t u
    case None o e = absurd (none-some (a, u) e)
    case (Some v) o e = subst (λ s. Q a s u) (sym (behind_only word t v o)) (h v a u e)

pub bind_finds : {A B : Type 0} (first : Reader A) (next : A → Reader B) (Q : Claim B) {fits : A → Type 0} (text : A → List ℕ)
    → Only first fits text → ((x : A) → fits x → Finds (next x) (λ b t u. Q b (text x ++ t) u))
    → Finds (first >>= next) Q
unfolding ◌>>=◌
bind_finds {A} first next Q text only h t b u e = case (first t) refl e
  where
    case : (o : Option (A × List ℕ)) → first t ≡ o → onward next o ≡ Some (b, u) → Q b t u
    case None o e = absurd (none-some (b, u) e)
    case (Some (x, v)) o e = let found = only t x v o in subst (λ s. Q b s u) (sym found.1) (h x found.0 v b u e)

pub field_finds : {A B : Type 0} (word : List ℕ) (first : Reader A) (next : A → Reader B) (Q : Claim B) {fits : A → Type 0} (text : A → List ℕ)
    → Only first fits text → ((x : A) → fits x → Finds (next x) (λ b t u. Q b (word ++ (text x ++ t)) u))
    → Finds (behind_word word (first >>= next)) Q
field_finds word first next Q text only h = word_finds word (first >>= next) Q (bind_finds first next _ text only h)

pub or_finds : {A : Type 0} (first second : Reader A) (Q : Claim A) → Finds first Q → Finds second Q → Finds (first or_else second) Q
unfolding ◌or_else◌
or_finds {A} first second Q h h' t a u e = case (first t) refl e
  where
    case : (o : Option (A × List ℕ)) → first t ≡ o → otherwise o (second t) ≡ Some (a, u) → Q a t u
    case None o e = h' t a u e
    case (Some found) o e = h t a u (o ∙ e)
