-- What the code finds at the front of a text, and what the readers find there. Assumes nothing.
use Rattle.std.proofs.Common.{◌≡◌, ◌≢◌, ℕ, ◌+◌, ◌*◌, ◌≤◌, Bool, true, false, cond, ◌&&◌, List, [], ◌∷◌, ◌++◌, Option, Some, None, refl, sym, ap, ◌∙◌, arith}
use Rattle.std.specs.Prelude.{MatchOption, option_copied, ltb, eqb}
use Rattle.std.specs.Borrow.{Bor}
use Rattle.std.specs.Bool.{then_some}
use borrow.Author.Tests.{lt-ltb, le-ltb}
use Rattle.text.specs.Numeral.{digit, some_digit}
use Rattle.text.proofs.Numerals.{digit_is, digit_none}
use Rattle.text.specs.Text.{ascii}
use Rattle.phy.specs.declared.packet.Piggyback.{Piggyback}
use Rattle.wire.specs.Grammar.{array, data_text}
use Rattle.wire_reader.specs.Reader.{Reader, behind, behind_word, beyond, otherwise, ◌>>=◌, ◌>>◌, ◌or_else◌, give, decimal_digit, number, second_digit, below, term, data_of, piggyback}
use Rattle.wire_reader.specs.View.{seen}
use Rattle.wire_reader.proofs.Words.{behind_only, behind_word_lem}

-- a word, as `strip_prefix` finds it
pub stripped : (word text : List ℕ) (r : Option (Bor (List ℕ))) → MatchOption r ((rest : List ℕ) → text ≢ word ++ rest) (λ x. text ≡ word ++ x.now)
    → option_copied r ≡ behind word text
stripped word text (Some x) h = sym (rw h (behind_word_lem word x.now))
stripped word text None h = sym (case (behind word text) refl)
  where
    case : (o : Option (List ℕ)) → behind word text ≡ o → behind word text ≡ None
    case None e = e
    case (Some u) e = absurd (h u (behind_only word text u e))

-- a value that is given by a test
pub seen_found : {A : Type 0} (t : Bool) (a : A) (rest : Bor (List ℕ)) → seen (then_some t (a, rest)) ≡ cond t (Some (a, rest.now)) None
seen_found true a rest = refl
seen_found false a rest = refl

-- ---- a digit of base 10

module _ (t u : List ℕ) (b : ℕ) (front : t ≡ b ∷ u) where
  pub digit_shown : {d : ℕ} → Some d ≡ some_digit b → cond (ltb d 10) (Some (d, u)) None ≡ decimal_digit t
  unfolding decimal_digit
  digit_shown e = rw (front, digit_is b e)

  pub digit_other : None ≡ some_digit b → None ≡ decimal_digit t
  unfolding decimal_digit
  digit_other e = rw front (sym (simp (le-ltb (digit b) 10 (omega (arith, digit_none b e)))))

-- ---- a number, by its digits

module _ (bound : ℕ) (t : List ℕ) where
  pub number_none : None ≡ decimal_digit t → number bound t ≡ None
  unfolding number decimal_digit
  number_none e = case t e
    where
      case : (t : List ℕ) → None ≡ decimal_digit t → number bound t ≡ None
      case [] e = refl
      case (b ∷ t) e = test (ltb (digit b) 10) e
        where
          test : (q : Bool) → ◌≡◌ {A = Option (ℕ × List ℕ)} None (cond q (Some (digit b, t)) None) → cond q (second_digit bound (digit b) t) None ≡ None
          test true e = cc
          test false e = refl

  pub number_digit : (d : ℕ) (u : List ℕ) → Some (d, u) ≡ decimal_digit t → number bound t ≡ second_digit bound d u
  unfolding number decimal_digit
  number_digit d u e = case t e
    where
      case : (t : List ℕ) → Some (d, u) ≡ decimal_digit t → number bound t ≡ second_digit bound d u
      case [] e = cc
      case (b ∷ t) e = test (ltb (digit b) 10) e
        where
          test : (q : Bool) → ◌≡◌ {A = Option (ℕ × List ℕ)} (Some (d, u)) (cond q (Some (digit b, t)) None) → cond q (second_digit bound (digit b) t) None ≡ second_digit bound d u
          test true e = let same : ◌≡◌ {A = ℕ × List ℕ} (digit b, t) (d, u) = cc in ap (λ z. second_digit bound z.0 z.1) same
          test false e = cc

-- behind its first digit
module _ (bound d : ℕ) (t : List ℕ) where
  pub second_none : None ≡ decimal_digit t → second_digit bound d t ≡ below bound d t
  unfolding second_digit decimal_digit
  second_none e = case t e
    where
      case : (t : List ℕ) → None ≡ decimal_digit t → second_digit bound d t ≡ below bound d t
      case [] e = refl
      case (b ∷ t) e = test (ltb (digit b) 10) (ltb 0 d) e
        where
          test : (q p : Bool) → ◌≡◌ {A = Option (ℕ × List ℕ)} None (cond q (Some (digit b, t)) None) → cond (p && q) (below bound (10 * d + digit b) t) (below bound d (b ∷ t)) ≡ below bound d (b ∷ t)
          test true p e = cc
          test false true e = refl
          test false false e = refl

  pub second_more : (e : ℕ) (u : List ℕ) → 1 ≤ d → Some (e, u) ≡ decimal_digit t → second_digit bound d t ≡ below bound (10 * d + e) u
  unfolding second_digit decimal_digit
  second_more e u one found = case t found
    where
      case : (t : List ℕ) → Some (e, u) ≡ decimal_digit t → second_digit bound d t ≡ below bound (10 * d + e) u
      case [] found = cc
      case (b ∷ t) found = simp (lt-ltb 0 d one) (test (ltb (digit b) 10) found)
        where
          test : (q : Bool) → ◌≡◌ {A = Option (ℕ × List ℕ)} (Some (e, u)) (cond q (Some (digit b, t)) None) → cond q (below bound (10 * d + digit b) t) (below bound d (b ∷ t)) ≡ below bound (10 * d + e) u
          test true found = let same : ◌≡◌ {A = ℕ × List ℕ} (digit b, t) (e, u) = cc in ap (λ z. below bound (10 * d + z.0) z.1) same
          test false found = cc

-- a number that begins with 0 is 0
pub second_zero : (bound : ℕ) (t : List ℕ) → second_digit bound 0 t ≡ below bound 0 t
unfolding second_digit
second_zero bound [] = refl
second_zero bound (b ∷ t) = refl

-- ---- a piggyback: `null`, the label and no data are one word

two_words : {A : Type 0} (u v : List ℕ) (next : Reader A) (t : List ℕ) → behind_word u (behind_word v next) t ≡ behind_word (u ++ v) next t
unfolding behind_word behind
two_words [] v next t = refl
two_words (b ∷ u) v next [] = refl
two_words (b ∷ u) v next (c ∷ t) = case (two_words u v next t) (eqb c b)
  where
    case : behind_word u (behind_word v next) t ≡ behind_word (u ++ v) next t → (q : Bool)
        → beyond (behind_word v next) (cond q (behind u t) None) ≡ beyond next (cond q (behind (u ++ v) t) None)
    case ih true = ih
    case ih false = refl

-- a term and data
abbrev pub repeated : Reader (Option Piggyback)
repeated = term >>= λ t. ",\"piggyback_data\":" >> (data_of (record { 0 = t }) >>= λ d. give (Some (record { term = record { 0 = t }; «data» = d })))

pub piggyback_words : (t : List ℕ) → piggyback t ≡ (("null,\"piggyback_data\":[]" >> give None) or_else repeated) t
unfolding piggyback ◌or_else◌ ascii data_text array
piggyback_words t = ap (λ o. otherwise o (repeated t)) (two_words _ _ _ t ∙ two_words _ _ _ t)
