-- `protocol::paxos::PaxosState::detect_gap` meets its contract: the lowest term that is not held, of those after last accepted, is the gap if it is
-- below the end.
-- Assumes nothing.
use Rattle.std.specs.Prelude.{Some, None}
use Prim.Native.Nat.{ℕ, ◌+◌, ◌-◌, ◌/◌, ◌%◌, ◌^◌, ◌≤◌, ◌<◌}
use mathlib.Core.Bool.{Bool, true, false, not, ◌&&◌}
use mathlib.Core.Logic.{⊎_elim}
use mathlib.Core.Path.{◌≡◌, sym, ap, ◌∙◌}
use native.Mathlib.Nat.{le_refl, eq-zero-or-pos, mod-eq_of_lt, lt_of_le_of_lt, div-le_self}
use native.Mathlib.Omega.{arith}
use borrow.Author.Tests.{le-leb, not-true, not-false}
use lib.Bits.{bit_and, bit_or, and_comm, and_mask, or_lt}
use lib.Count.{count_trailing_zeros, trailing_of_zero}
use lib.Dec.{eqb}
use lib.Pow.{shr-shr}
use Rattle.network.specs.Graph.{has}
use Rattle.network.proofs.Lowest.{Lowest, lowest, has_minus, has_zero}
use Rattle.config.specs.Limits.{max_terms}
use Rattle.protocol.specs.Paxos.{held, after_last, detect_gap}
use Rattle.protocol.specs.declared.state.PaxosState.{PaxosState}
use Rattle.protocol.specs.View.{view, Kept}
use Rattle.protocol.proofs.Words.{has_reach, reach_all}
use Rattle.protocol.proofs.Commit.{gap_none, gap_is}
use Rattle.protocol.proofs.Kept.{pending_word, logged_word, held_in}
use Rattle.protocol.proofs.state.PaxosState.detect_gap.Goals as goal

in_word : (t : ℕ) → t < 64 → has (2 ^ 64 - 1) t ≡ true
in_word t h = ap (λ (x : ℕ). has x t) (sym (reach_all 64 63 (le_refl 64))) ∙ has_reach 63 t h ∙ le-leb t 63 (omega arith)

-- the terms of a word that are not in s, from t on
has_free : (s t j : ℕ) → s < 2 ^ 64 → t + j < 64 → has ((2 ^ 64 - 1 - s) / 2 ^ t) j ≡ not (has s (t + j))
unfolding has
has_free s t j h l =
    let all : bit_and (2 ^ 64 - 1) s ≡ s = and_comm (2 ^ 64 - 1) s ∙ and_mask s 64 ∙ mod-eq_of_lt h in
    ap (λ (x : ℕ). eqb (x % 2) 1) (shr-shr (2 ^ 64 - 1 - s) t j) ∙
    ap (λ (x : ℕ). has (2 ^ 64 - 1 - x) (t + j)) (sym all) ∙
    has_minus (2 ^ 64 - 1) s (t + j) ∙
    ap (λ (x : Bool). x && not (has s (t + j))) (in_word (t + j) l)

-- `all` is the set of what is held, and `last` the first term that is looked at
module _
    (s : PaxosState) (all last : ℕ) (k : Kept max_terms s) (all-is : all ≡ bit_or s.pending s.logged) (last_is : last ≡ after_last s.last_accepted) where
  abbrev free : ℕ
  free = (2 ^ 64 - 1 - all) / 2 ^ last

  -- the lowest that is not held
  abbrev gap : ℕ
  gap = last + count_trailing_zeros 64 free

  all_word : all < 2 ^ 64
  all_word = rw all-is (or_lt 64 s.pending s.logged (pending_word k) (logged_word k))

  held_all : (t : ℕ) → held t (view s) ≡ has all t
  held_all t = held_in k t ∙ ap (λ (x : ℕ). has x t) (sym all-is)

  low : (free ≡ 0 → ⊥) → Lowest 64 free (count_trailing_zeros 64 free)
  low = lowest 64 free (lt_of_le_of_lt (div-le_self (2 ^ 64 - 1 - all) (2 ^ last)) (omega arith))

  before_gap : (t : ℕ) → last ≤ t → t < gap → t < 64 → held t (view s) ≡ true
  before_gap t from below h =
      let e : last + (t - last) ≡ t = omega arith in
      let none : has free (t - last) ≡ false =
      ⊎_elim (λ z. ap (λ (x : ℕ). has x (t - last)) z ∙ has_zero (t - last)) (λ p. (low (λ z. omega arith)).below (t - last) (omega arith)) (eq-zero-or-pos free) in
      held_all t ∙ not-false _ (ap (λ (x : ℕ). not (has all x)) (sym e) ∙ sym (has_free all last (t - last) all_word (omega arith)) ∙ none)

  at_gap : gap < 64 → held gap (view s) ≡ false
  at_gap h =
      held_all gap ∙
      not-true _ (sym (has_free all last (count_trailing_zeros 64 free) all_word h) ∙ (low (λ z. omega (arith, ap (count_trailing_zeros 64) z, trailing_of_zero 64))).is)

  none_up_to : (end : ℕ) → end ≤ gap → end ≤ 64 → detect_gap end (view s) ≡ None
  none_up_to end h few = gap_none end (view s) (λ t g l. before_gap t (omega (arith, last_is)) (omega arith) (omega arith))

  one_below : (end : ℕ) → gap < end → end ≤ 64 → detect_gap end (view s) ≡ Some (record { 0 = gap })
  one_below end h few =
      gap_is end gap (view s) (omega (arith, last_is)) h (at_gap (omega arith))
      (λ t g l. before_gap t (omega (arith, last_is)) l (omega arith))

pub returns-then-end-last : goal.returns-then-end-last
returns-then-end-last c =
    let a = c.args in
    sym (gap_none a.up_to_term.0 (view a.self.now) (λ t g h. absurd (omega (arith, c.after_last-last.ensures, c.if-end-last.true))))

pub returns-then-end-t : goal.returns-then-end-t
returns-then-end-t c =
    let a = c.args in
    sym
    (none_up_to a.self.now c.held_set.result c.after_last-last.result c.requires.0 c.held_set.ensures c.after_last-last.ensures a.up_to_term.0
    c.if-end-t.true c.requires.1)

pub returns : goal.returns
returns c =
    let a = c.args in
    sym
    (one_below a.self.now c.held_set.result c.after_last-last.result c.requires.0 c.held_set.ensures c.after_last-last.ensures a.up_to_term.0
    c.if-end-t.false c.requires.1)
