-- The votes that are merged into the pending terms, term by term. Assumes nothing.
use Rattle.std.specs.Prelude.{Option, Some}
use Prim.Native.Nat.{ℕ, suc, ◌+◌, ◌-◌, ◌^◌, ◌<◌, ◌≤◌}
use mathlib.Core.Bool.{Bool, true, false, ◌&&◌}
use mathlib.Core.List.{List}
use mathlib.Core.Logic.{◌⊎◌, inl, inr, ⊎_elim}
use mathlib.Core.Path.{◌≡◌, refl, sym, ap, ap₂, ◌∙◌}
use native.Mathlib.Omega.{arith}
use borrow.Author.Tests.{eqb-false, ltb-true, ltb-false, leb-true, leb-false}
use lib.Bits.{bit_and}
use lib.Dec.{leb, ltb}
use lib.ListN.{length, get_or, set, length-set}
use lib.Seq.{get_or-set_same, get_or-set_other}
use Rattle.network.specs.Graph.{has, set_of}
use Rattle.network.proofs.Sets.{never, and_both, has_below}
use Rattle.phy.proofs.Masks.{has_and}
use Rattle.config.specs.Limits.{max_terms}
use Rattle.protocol.specs.declared.state.PaxosState.{PaxosState}
use Rattle.protocol.specs.Paxos.{Pending, union, voted, merge_votes_up_to}
use Rattle.protocol.specs.View.{votes_at, data_at, log_of, pending_of, view, Kept, Next}
use Rattle.protocol.proofs.Places.{either, same_or}
use Rattle.protocol.proofs.Words.{has_reach}
use Rattle.protocol.proofs.Kept.{state_is, pending_lt, pending_at, pending_none}

-- the state with other votes
abbrev pub with_votes : PaxosState → List ℕ → PaxosState
with_votes s v = record { votes = v; «data» = s.«data»; log = s.log; pending = s.pending; logged = s.logged; last_accepted = s.last_accepted }

-- in v' the votes f are merged into the terms from i up to below t, and the others are those of v
pub record Merged (v : List ℕ) (f i t : ℕ) (v' : List ℕ) : Type 0 where
  pub size : length v' ≡ length v
  pub votes : (j : ℕ) → i ≤ j → j < t → get_or v' j 0 ≡ union (get_or v j 0) f
  pub before : (j : ℕ) → j < i → get_or v' j 0 ≡ get_or v j 0
  pub behind : (j : ℕ) → t ≤ j → get_or v' j 0 ≡ get_or v j 0

pub merged_none : (v : List ℕ) (f i : ℕ) → Merged v f i i v
merged_none v f i = record { size = refl; votes = λ j h g. absurd (omega arith); before = λ k h. refl; behind = λ k h. refl }

pub merged_more : (v : List ℕ) (f i t : ℕ) (v' : List ℕ) (x : ℕ) → Merged v f i t v' → i ≤ t → t < length v → x ≡ union (get_or v' t 0) f → Merged v f i (t + 1) (set v' t x)
merged_more v f i t v' x m h fits q =
    record {
      size = length-set v' t x ∙ m.size;
      votes = λ j g l.
          same_or (λ (y : Bool). get_or (set v' t x) j 0 ≡ union (get_or v j 0) f) j t
          (λ p.
          rw p
          (get_or-set_same v' t x 0 (omega (arith, m.size)) ∙ q ∙ ap (λ (y : ℕ). union y f) (m.behind t (omega arith))))
          (λ p.
          get_or-set_other v' t j x 0 (eqb-false j t p) ∙ m.votes j g (omega (arith, eqb-false j t p)));
      before = λ k g. get_or-set_other v' t k x 0 (λ z. omega arith) ∙ m.before k g;
      behind = λ k g. get_or-set_other v' t k x 0 (λ z. omega arith) ∙ m.behind k (omega arith);
    }

module _ (s : PaxosState) (f i t : ℕ) (v : List ℕ) (m : Merged s.votes f i t v) where
  -- r is the set of the pending terms up to u, and these terms go from its lowest to its highest
  pub merge_next : (u r : ℕ) → Kept max_terms s → t ≤ 64 → r ≡ bit_and s.pending (set_of 64 (λ (k : ℕ). leb k u)) →
      ((j : ℕ) → j < i → has r j ≡ false) → r < 2 ^ t → (i < t → has r (t - 1) ≡ true) →
      Next (λ c. Unit {0}) s (with_votes s v) (merge_votes_up_to u f (view s))
  unfolding merge_votes_up_to log_of
  merge_next u r k room is-r lower above top =
      record {
        kept = λ c p g.
            record {
              room = g.room;
              pending_below = g.pending_below;
              logged_below = g.logged_below;
              last_below = g.last_below;
              pending_data = g.pending_data;
              logged_data = g.logged_data;
              apart = g.apart;
              logged_is = g.logged_is;
              distinct = g.distinct;
            };
        is = state_is refl pending refl;
      }
    where
      has_r : (j : ℕ) → j < 64 → has r j ≡ (has s.pending j && leb j u)
      has_r j h =
          ap (λ (x : ℕ). has x j) is-r ∙ has_and s.pending (set_of 64 (λ (x : ℕ). leb x u)) j ∙
          ap (λ (x : Bool). has s.pending j && x) (has_reach u j h)

      from : (j : ℕ) → has r j ≡ true → i ≤ j
      from j e = ⊎_elim (λ x. never e (lower j (ltb-true j i x))) (λ x. ltb-false j i x) (either (ltb j i))

      most : i < t → t ≤ suc u
      most h =
          let both = and_both (has s.pending (t - 1)) (leb (t - 1) u) (sym (has_r (t - 1) (omega arith)) ∙ top h) in
          omega (arith, leb-true (t - 1) u both.1)

      merged : (j : ℕ) → has s.pending j ≡ true → (leb j u ≡ true) ⊎ (leb j u ≡ false) →
          ◌≡◌ {A = Option Pending} (Some (record { votes = get_or v j 0; «data» = data_at s j })) (voted (leb j u) f (Some (record { votes = votes_at s j; «data» = data_at s j })))
      merged j e (inl l) =
          let h = has_r j (pending_lt k j e) ∙ ap₂ ◌&&◌ e l in
          rw (l, m.votes j (from j h) (has_below above j h))
      merged j e (inr l) = rw (l, same (either (ltb j i)) (either (ltb j t)))
        where
          same : (ltb j i ≡ true) ⊎ (ltb j i ≡ false) → (ltb j t ≡ true) ⊎ (ltb j t ≡ false) → get_or v j 0 ≡ votes_at s j
          same (inl x) y = m.before j (ltb-true j i x)
          same (inr x) (inl y) = absurd (omega (arith, leb-false j u l, ltb-false j i x, ltb-true j t y, most (omega (arith, ltb-false j i x, ltb-true j t y))))
          same (inr x) (inr y) = m.behind j (ltb-false j t y)

      pending : (j : ℕ) → pending_of (with_votes s v) j ≡ voted (leb j u) f (pending_of s j)
      pending j =
          ⊎_elim
          (λ e. rw (pending_at s j e) (pending_at (with_votes s v) j e ∙ merged j e (either (leb j u))))
          (λ e. rw (pending_none s j e) (pending_none (with_votes s v) j e))
          (either (has s.pending j))
