-- `protocol::paxos::PaxosState::greatest_quorum` meets its contract. The invariant: no term from t on has a quorum.
-- Assumes nothing.
use Rattle.std.specs.Prelude.{Some, None}
use Prim.Native.Nat.{ℕ, ◌-◌, ◌*◌, ◌%◌, ◌^◌, ◌≤◌, ◌<◌}
use mathlib.Core.Bool.{Bool, true, false, cond, ◌&&◌, ◌||◌, and-false}
use mathlib.Core.Path.{◌≡◌, refl, sym, ap, ◌∙◌, subst}
use mathlib.Core.Logic.{⊎_elim}
use native.Mathlib.Nat.{eq-or-lt_of_le}
use native.Mathlib.Omega.{arith}
use borrow.Author.Tests.{ltb-true, leb-true, leb-false, lt-leb, eqb-true, not-false}
use lib.Count.{count_trailing_zeros, count_leading_zeros}
use lib.Dec.{eqb, leb, ltb}
use Rattle.config.specs.Limits.{max_terms, set_bits}
use Rattle.network.specs.Graph.{has, all}
use Rattle.network.proofs.Sets.{or_either, all_elim, has_out, has_below, one_shl}
use Rattle.network.proofs.Lowest.{Lowest, Highest, lowest, highest, has_zero}
use Rattle.protocol.specs.declared.state.PaxosState.{PaxosState}
use Rattle.protocol.specs.Paxos.{size, majority, quorum}
use Rattle.protocol.specs.View.{view, Kept, pending_of, votes_at, data_at}
use Rattle.protocol.proofs.Commit.{greatest_none, greatest_is}
use Rattle.protocol.proofs.Kept.{pending_word}
use Rattle.protocol.proofs.Places.{either}
use Rattle.protocol.proofs.Sets.{size_vote}
use Rattle.protocol.proofs.state.PaxosState.greatest_quorum.Goals as goal

-- a quorum is a majority of the votes of a pending term
judged : (s : PaxosState) (n t : ℕ) → quorum n (pending_of s t) ≡ (has s.pending t && leb (majority n) (size (votes_at s t)))
unfolding pending_of
judged s n t = go (has s.pending t)
  where
    go : (x : Bool) → quorum n (cond x (Some (record { votes = votes_at s t; «data» = data_at s t })) None) ≡ (x && leb (majority n) (size (votes_at s t)))
    go true = refl
    go false = refl

module _ (s : PaxosState) (n : ℕ) where
  -- a term that is not pending has none
  no_quorum : (t : ℕ) → has s.pending t ≡ false → quorum n (pending_of s t) ≡ false
  no_quorum t e = judged s n t ∙ ap (λ (x : Bool). x && leb (majority n) (size (votes_at s t))) e

  word : Kept max_terms s → s.pending < 2 ^ 64
  word k = pending_word k

  low : Kept max_terms s → (s.pending ≡ 0 → ⊥) → Lowest 64 s.pending (count_trailing_zeros 64 s.pending)
  low k e = lowest 64 s.pending (word k) e

  top : Kept max_terms s → (s.pending ≡ 0 → ⊥) → Highest 64 s.pending (count_leading_zeros 64 s.pending)
  top k e = highest 64 s.pending (word k) e

  -- nor has a term with the own vote alone
  own_quorum : (own t : ℕ) → leb (majority n) (size own) ≡ false → votes_at s t ≡ own → quorum n (pending_of s t) ≡ false
  own_quorum own t few e =
      judged s n t
      ∙ ap (λ (x : Bool). has s.pending t && x) (ap (λ (v : ℕ). leb (majority n) (size v)) e ∙ few)
      ∙ and-false (has s.pending t)

-- the own vote alone is no majority
own_none : (node n : ℕ) → node < set_bits → 2 ≤ n → leb (majority n) (size (1 * 2 ^ node % 2 ^ 64)) ≡ false
own_none node n small two_more =
    let one = ap size (one_shl 64 node small) ∙ size_vote node small in
    lt-leb (majority n) _ (omega (arith, one, two_more))

pub returns-then-pending-eq0 : goal.returns-then-pending-eq0
returns-then-pending-eq0 c =
    let a = c.args in
    sym
    (greatest_none max_terms a.n (view a.self.now)
    (λ t h. no_quorum a.self.now a.n t (ap (λ (x : ℕ). has x t) c.if-pending-eq0.true ∙ has_zero t)))

pub others_voted-requires : goal.others_voted-requires
others_voted-requires c =
    let a = c.args in
    let low_here = low a.self.now a.n c.requires.0 c.if-pending-eq0.false in
    let top_here = top a.self.now a.n c.requires.0 c.if-pending-eq0.false in
    (omega (arith, has_below top_here.above _ low_here.is), omega (arith, top_here.within))

pub returns-then-not-others_voted : goal.returns-then-not-others_voted
returns-then-not-others_voted c =
    let a = c.args in
    let now = a.self.now in
    let pending = now.pending in
    let own : ℕ = 1 * 2 ^ a.node.0 % 2 ^ 64 in
    let low_here = low now a.n c.requires.0 c.if-pending-eq0.false in
    let top_here = top now a.n c.requires.0 c.if-pending-eq0.false in
    let end : ℕ = 64 - count_leading_zeros 64 pending in
    let alone : ℕ → Bool = λ t. ltb t (count_trailing_zeros 64 pending) || eqb (votes_at now t) own in
    let none : all end alone ≡ true = not-false (all end alone) (sym c.others_voted.ensures ∙ c.if-not-others_voted.true) in
    sym
    (greatest_none max_terms a.n (view now)
    (λ t h.
    ⊎_elim
    (λ out. no_quorum now a.n t (has_out top_here.above t (leb-true end t out)))
    (λ within.
    ⊎_elim (λ early. no_quorum now a.n t (low_here.below t (ltb-true t _ early)))
    (λ own_vote. own_quorum now a.n own t (own_none a.node.0 a.n c.requires.1 c.requires.2) (eqb-true _ own own_vote))
    (or_either _ _ (all_elim end alone none t (leb-false end t within))))
    (either (leb end t))))

pub loop-t-init : goal.loop-t-init
loop-t-init c =
    let a = c.args in
    let top_here = top a.self.now a.n c.requires.0 c.if-pending-eq0.false in
    λ u h. no_quorum a.self.now a.n u (has_out top_here.above u h)

pub is_quorum-requires : goal.is_quorum-requires
is_quorum-requires c = (omega arith, own_none c.args.node.0 c.args.n c.requires.1 c.requires.2)

pub returns-then-is_quorum : goal.returns-then-is_quorum
returns-then-is_quorum c =
    let a = c.args in
    let l = c.loop-t in
    sym
    (greatest_is max_terms a.n (l.t - 1) (view a.self.now) (omega arith)
    (judged a.self.now a.n (l.t - 1) ∙ sym c.is_quorum.ensures ∙ c.if-is_quorum.true)
    (λ u g h. l.invariant u (omega arith)))

pub loop-t-preserved : goal.loop-t-preserved
loop-t-preserved c =
    let a = c.args in
    let l = c.loop-t in
    λ u h.
    ⊎_elim
    (λ e. subst (λ (v : ℕ). quorum a.n (pending_of a.self.now v) ≡ false) e
    (judged a.self.now a.n (l.t - 1) ∙ sym c.is_quorum.ensures ∙ c.if-is_quorum.false))
    (λ g. l.invariant u (omega (arith, g))) (eq-or-lt_of_le h)

pub returns : goal.returns
returns c =
    let a = c.args in
    let l = c.loop-t in
    let low_here = low a.self.now a.n c.requires.0 c.if-pending-eq0.false in
    sym
    (greatest_none max_terms a.n (view a.self.now)
    (λ t h.
    ⊎_elim (λ g. l.invariant t (leb-true l.t t g)) (λ g. no_quorum a.self.now a.n t (low_here.below t (omega (arith, leb-false l.t t g))))
    (either (leb l.t t))))
