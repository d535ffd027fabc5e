-- Reading the last accepted term, a NACK, data and a piggyback: what is written is read, and nothing else is. Assumes nothing.
use Prim.Native.Nat.{ℕ, zero, suc, ◌<◌}
use mathlib.Core.Path.{◌≡◌, refl, ◌∙◌}
use mathlib.Core.Bool.{true, ◌&&◌}
use Rattle.std.specs.Prelude.{Option, None, Some}
use mathlib.Core.List.{List, ◌++◌, append_assoc}
use mathlib.Core.Logic.{⊎_elim}
use native.Mathlib.Omega.{arith}
use lib.Dec.{leb, ltb}
use borrow.Author.Tests.{lt-ltb, ltb-true, ltb-false, le-leb, eq-eqb, eqb-true}
use Rattle.config.specs.Limits.{max_terms}
use Rattle.network.specs.declared.units.Term.{Term}
use Rattle.network.proofs.Sets.{never, and_both, two}
use Rattle.phy.specs.declared.packet.Piggyback.{Piggyback}
use Rattle.text.specs.Text.{ascii, spelled, spelled_in}
use Rattle.text.specs.Numeral.{digit}
use Rattle.text.proofs.Spelling.{spelled_low}
use Rattle.wire.specs.Grammar.{last_accepted_fits, nack_fits, data_fits, piggyback_fits, data_bytes, array, last_accepted_text, nack_number, data_text, piggyback_text}
use Rattle.wire_reader.specs.Reader.{behind, give, last_accepted, data_of, nack, piggyback}
use Rattle.wire_reader.proofs.Words.{behind_other, word_reads, word_none, bind_reads, or_first, or_second, Only, give_finds, word_finds, bind_finds, or_finds}
use Rattle.wire_reader.proofs.Digits.{spelled_two, stops, number_reads, number_only}

-- a number is not `null`
not_null : (n : ℕ) (t : List ℕ) → n < 100 → behind (ascii "null") (spelled n ++ t) ≡ None
unfolding ascii
not_null n t h =
    ⊎_elim
    (λ p. let low = ltb-true n 10 p in rw (spelled_low n low) (behind_other _ _ (λ e. omega arith)))
    (λ p. let high = ltb-false n 10 p in rw (spelled_two n high h) (behind_other _ _ (λ e. omega arith)))
    (two (ltb n 10))

-- ---- the last accepted term

pub last_accepted_reads : (last : Option Term) (t : List ℕ)
    → last_accepted_fits last ≡ true → stops t ≡ true → last_accepted (last_accepted_text last ++ t) ≡ Some (last, t)
unfolding last_accepted give
last_accepted_reads None t fits e = or_first _ _ _ (word_reads _ _ _)
last_accepted_reads (Some n) t fits e =
    let small = ltb-true n.0 max_terms fits in
    or_second _ _ _ (word_none _ _ _ (not_null n.0 t (omega arith))) ∙ bind_reads _ _ _ (number_reads max_terms n.0 t (omega arith) small e)

pub last_accepted_only : Only last_accepted (λ last. last_accepted_fits last ≡ true) last_accepted_text
unfolding last_accepted
last_accepted_only =
    or_finds _ _ _
    (word_finds _ _ _ (give_finds None _ (λ t. (refl, refl))))
    (bind_finds _ _ _ spelled (number_only max_terms) (λ n h. give_finds _ _ (λ t. (lt-ltb n max_terms h, refl))))

-- ---- a NACK

pub nack_number_lem : (asked : Option Term) → nack_fits asked ≡ true → nack (nack_number asked) ≡ asked
nack_number_lem None fits = refl
nack_number_lem (Some t) fits = case t.0 fits
  where
    case : (n : ℕ) → leb 1 n && ltb n max_terms ≡ true → nack n ≡ Some (record { 0 = n })
    case zero fits = never fits refl
    case (suc n) fits = refl

pub nack_fits_lem : (n : ℕ) → n < max_terms → nack_fits (nack n) ≡ true
nack_fits_lem zero h = refl
nack_fits_lem (suc n) h = rw (le-leb 1 (suc n) (omega arith), lt-ltb (suc n) max_terms h)

pub number_nack : (n : ℕ) → nack_number (nack n) ≡ n
number_nack zero = refl
number_nack (suc n) = refl

-- ---- data

-- data of a term is not empty
not_empty : (t : Term) (u : List ℕ) → behind (data_text None) (data_text (Some t) ++ u) ≡ None
unfolding behind data_text array data_bytes ascii spelled spelled_in
not_empty t u = refl

pub data_reads : (t : Term) (d : Option Term) (u : List ℕ) → data_fits t d ≡ true → data_of t (data_text d ++ u) ≡ Some (d, u)
unfolding data_of give
data_reads t None u fits = or_first _ _ _ (word_reads _ _ _)
data_reads t (Some v) u fits =
    let same : v ≡ t = λ i. record { 0 = eqb-true v.0 t.0 fits i } in
    rw same (or_second _ _ _ (word_none _ _ _ (not_empty t u)) ∙ word_reads _ _ _)

pub data_only : (t : Term) → Only (data_of t) (λ d. data_fits t d ≡ true) data_text
unfolding data_of
data_only t =
    or_finds _ _ _
    (word_finds _ _ _ (give_finds None _ (λ u. (refl, refl))))
    (word_finds _ _ _ (give_finds (Some t) _ (λ u. (eq-eqb t.0 t.0 refl, refl))))

-- ---- a piggyback

pub piggyback_reads : (p : Option Piggyback) (t : List ℕ) → piggyback_fits p ≡ true → piggyback (piggyback_text p ++ t) ≡ Some (p, t)
unfolding piggyback piggyback_text give stops ascii digit
piggyback_reads None t fits = simp append_assoc (or_first _ _ _ (word_reads _ _ _ ∙ word_reads _ _ _ ∙ word_reads _ _ _))
piggyback_reads (Some again) t fits =
    let small = ltb-true again.term.0 max_terms (and_both (ltb again.term.0 max_terms) (data_fits again.term again.«data») fits).0 in
    let own = (and_both (ltb again.term.0 max_terms) (data_fits again.term again.«data») fits).1 in
    simp append_assoc
    (or_second _ _ _ (word_none _ _ _ (not_null again.term.0 _ (omega arith)))
    ∙ bind_reads _ _ _ (number_reads max_terms again.term.0 _ (omega arith) small refl)
    ∙ word_reads _ _ _
    ∙ bind_reads _ _ _ (data_reads again.term again.«data» t own))

pub piggyback_only : Only piggyback (λ p. piggyback_fits p ≡ true) piggyback_text
unfolding piggyback piggyback_text
piggyback_only =
    or_finds _ _ _
    (word_finds _ _ _ (word_finds _ _ _ (word_finds _ _ _ (give_finds None _ (λ u. (refl, simp append_assoc))))))
    (bind_finds _ _ _ spelled (number_only max_terms) (λ n h.
    word_finds _ _ _
    (bind_finds _ _ _ data_text (data_only (record { 0 = n })) (λ d own. give_finds _ _ (λ u. (rw (lt-ltb n max_terms h) own, simp append_assoc))))))
