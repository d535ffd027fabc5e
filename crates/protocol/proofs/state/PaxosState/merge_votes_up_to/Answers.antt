-- `protocol::paxos::PaxosState::merge_votes_up_to` meets its contract. The invariant: the terms from the lowest one on that were
-- passed have the votes. Assumes nothing.
use Prim.Native.Nat.{ℕ, ◌+◌, ◌-◌, ◌^◌, ◌<◌, ◌≤◌}
use mathlib.Core.List.{List, ◌++◌}
use mathlib.Core.Path.{◌≡◌, sym, ap, ◌∙◌, subst}
use native.Mathlib.Omega.{arith}
use Rattle.std.proofs.Common.{rules}
use borrow.Rule.Slice.PartMut.{put_mid, post_of, mid_of, mid_len, put_same}
use lib.Bits.{bit_and, and_le_l}
use lib.Count.{count_trailing_zeros, count_leading_zeros}
use lib.ListN.{length, get_or, set, take, length-set}
use Rattle.std.proofs.lemmas.List.{length-take-le, set-append_left, set-append_right, places}
use Rattle.config.specs.Limits.{max_terms}
use Rattle.network.specs.Graph.{has}
use Rattle.network.proofs.Sets.{has_below}
use Rattle.network.proofs.Lowest.{Lowest, Highest, lowest, highest}
use Rattle.protocol.specs.declared.state.PaxosState.{PaxosState}
use Rattle.protocol.specs.Paxos.{union}
use Rattle.protocol.specs.View.{Kept}
use Rattle.protocol.proofs.Kept.{pending_word}
use Rattle.protocol.proofs.Merges.{Merged, merged_none, merged_more, merge_next}
use Rattle.protocol.proofs.state.PaxosState.merge_votes_up_to.Goals as goal

word : (s : PaxosState) (reach : ℕ) → Kept max_terms s → bit_and s.pending reach < 2 ^ 64
word s reach k = omega (arith, and_le_l s.pending reach, pending_word k)

pub returns-then-rest-eq0 : goal.returns-then-rest-eq0
returns-then-rest-eq0 c =
    let a = c.args in
    let s = a.self.now in
    merge_next s a.bitmap 0 0 s.votes (merged_none s.votes a.bitmap 0) a.up_to_term.0
    (bit_and s.pending c.up_to-reach.result) c.requires (omega arith) (ap (bit_and s.pending) c.up_to-reach.ensures)
    (λ j h. absurd (omega arith)) (omega (arith, c.if-rest-eq0.true)) (λ h. absurd (omega arith))

-- the lowest and the highest of the terms to merge into, and that there are some
low_of : (s : PaxosState) (reach : ℕ) → Kept max_terms s → (bit_and s.pending reach ≡ 0 → ⊥) →
    Lowest 64 (bit_and s.pending reach) (count_trailing_zeros 64 (bit_and s.pending reach))
low_of s reach k some = lowest 64 _ (word s reach k) some

top_of : (s : PaxosState) (reach : ℕ) → Kept max_terms s → (bit_and s.pending reach ≡ 0 → ⊥) →
    Highest 64 (bit_and s.pending reach) (count_leading_zeros 64 (bit_and s.pending reach))
top_of s reach k some = highest 64 _ (word s reach k) some

some_terms : (s : PaxosState) (reach : ℕ) → Kept max_terms s → (bit_and s.pending reach ≡ 0 → ⊥) →
    count_trailing_zeros 64 (bit_and s.pending reach) < 64 - count_leading_zeros 64 (bit_and s.pending reach)
some_terms s reach k some = has_below (top_of s reach k some).above _ (low_of s reach k some).is

-- a write at j in the part is a write at a + j in the whole
put_set : (a k j : ℕ) (xs ys : List ℕ) (v : ℕ) → a ≤ length xs → j < length ys → put_mid a k xs (set ys j v) ≡ set (put_mid a k xs ys) (a + j) v
put_set a k j xs ys v room h =
    let at : j ≡ a + j - a = omega arith in
    ap (λ (z : List ℕ). take a xs ++ z) (sym (set-append_left ys (post_of a k xs) j v h) ∙ ap (λ (i : ℕ). set (ys ++ post_of a k xs) i v) at)
    ∙ sym (set-append_right (take a xs) (ys ++ post_of a k xs) a (a + j) v (length-take-le a xs room) (omega arith))

-- the votes at j in the part are those of term a + j in the whole
get_put : (a k j : ℕ) (xs ys : List ℕ) → a ≤ length xs → j < length ys → get_or (put_mid a k xs ys) (a + j) 0 ≡ get_or ys j 0
get_put a k j xs ys room h = search (rules, places)

pub slice_bounds-votes-items-count : goal.slice_bounds-votes-items-count
slice_bounds-votes-items-count c = omega (arith, some_terms c.args.self.now c.up_to-reach.result c.requires c.if-rest-eq0.false)

pub slice_bounds-votes-items-start : goal.slice_bounds-votes-items-start
slice_bounds-votes-items-start c = omega (arith, some_terms c.args.self.now c.up_to-reach.result c.requires c.if-rest-eq0.false)

pub loop-votes-init : goal.loop-votes-init
loop-votes-init c =
    let s = c.args.self.now in
    let r : ℕ = bit_and s.pending c.up_to-reach.result in
    let first : ℕ = count_trailing_zeros 64 r in
    let start : first ≡ first + 0 = omega arith in
    record {
      size = mid_len first (64 - count_leading_zeros 64 r) s.votes (omega arith);
      merged = rw (put_same first (64 - count_leading_zeros 64 r - first) s.votes)
          (subst (λ (t : ℕ). Merged s.votes c.args.bitmap first t s.votes) start (merged_none s.votes c.args.bitmap first));
    }

pub loop-votes-preserved : goal.loop-votes-preserved
loop-votes-preserved c =
    let a = c.args in
    let s = a.self.now in
    let l = c.loop-votes in
    let r : ℕ = bit_and s.pending c.up_to-reach.result in
    let first : ℕ = count_trailing_zeros 64 r in
    let count : ℕ = 64 - count_leading_zeros 64 r - first in
    let some = some_terms s c.up_to-reach.result c.requires c.if-rest-eq0.false in
    let here : l.votes-index < length l.votes-items = omega (arith, l.auto.votes-items, c.loop-votes-test.true) in
    let room : first ≤ length s.votes = omega (arith, some) in
    let term : first + l.votes-index < length s.votes = omega (arith, some, here, l.invariant.size) in
    let next : first + l.votes-index + 1 ≡ first + (l.votes-index + 1) = omega arith in
    record {
      size = length-set l.votes-items l.votes-index c.union_of.result ∙ l.invariant.size;
      merged = rw (put_set first count l.votes-index s.votes l.votes-items c.union_of.result room here)
          (subst (λ (t : ℕ). Merged s.votes a.bitmap first t (set (put_mid first count s.votes l.votes-items) (first + l.votes-index) c.union_of.result)) next
          (merged_more s.votes a.bitmap first (first + l.votes-index) (put_mid first count s.votes l.votes-items) c.union_of.result l.invariant.merged (omega arith) term
          (c.union_of.ensures ∙ ap (λ (v : ℕ). union v a.bitmap) (sym (get_put first count l.votes-index s.votes l.votes-items room here)))));
    }

pub returns : goal.returns
returns c =
    let a = c.args in
    let s = a.self.now in
    let l = c.loop-votes in
    let reach = c.up_to-reach.result in
    let r : ℕ = bit_and s.pending reach in
    let first : ℕ = count_trailing_zeros 64 r in
    let end : ℕ = 64 - count_leading_zeros 64 r in
    let low = low_of s reach c.requires c.if-rest-eq0.false in
    let top = top_of s reach c.requires c.if-rest-eq0.false in
    let some = some_terms s reach c.requires c.if-rest-eq0.false in
    let part : length (mid_of first (end - first) s.votes) ≡ end - first = mid_len first end s.votes (omega arith) in
    let done : end ≡ first + l.votes-index = omega (arith, some, part, c.loop-votes-test.false, l.auto.votes-index-end) in
    let last : first + l.votes-index - 1 ≡ 63 - count_leading_zeros 64 r = omega (arith, done) in
    merge_next s a.bitmap first (first + l.votes-index) (put_mid first (end - first) s.votes l.votes-items) l.invariant.merged a.up_to_term.0 r c.requires (omega (arith, done))
    (ap (bit_and s.pending) c.up_to-reach.ensures) low.below (subst (λ (x : ℕ). r < 2 ^ x) done top.above) (λ h. ap (has r) last ∙ top.is)
