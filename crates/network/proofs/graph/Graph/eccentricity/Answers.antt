use Rattle.std.proofs.Common.{◌≡◌, ◌<◌, ◌-◌, ◌^◌, ℕ, suc, List, ◌&&◌, sym, ap, refl, ◌∙◌, bit_or, add-one, arith}
use native.Mathlib.Nat.{le_antisymm}
use lib.Bits.{or_add_and, and_le_r}
use lib.Pow.{pow-lt}
use borrow.Author.Count.{below_none, below_more}
use Rattle.network.specs.Graph.{has, set_of, any, linked}
use Rattle.network.specs.Distance.{spread, reach}
use Rattle.network.proofs.Sets.{one_shl}
use Rattle.network.proofs.Spread.{touches, Latest, latest_spread, latest_next}
use Rattle.network.proofs.Reach.{reach_lt, growing}
use Rattle.network.proofs.Distances.{eccentricity_steps, eccentricity_still, eccentricity_full}
use Rattle.network.proofs.graph.Graph.eccentricity.Goals as goal

pub loop-reached-init : goal.loop-reached-init
unfolding reach
loop-reached-init c =
    let one = one_shl 64 c.args.a.0 (omega arith) in
    (one, below_none _, record { small = rw one (pow-lt c.requires.1.1); holds = λ i j _ _ _ _. refl })

-- what a step reaches, and what it adds
step : {rows : List ℕ} {n a reached latest found : ℕ} (k : ℕ) → a < n → reached ≡ reach rows n a k → Latest rows n reached latest
    → found ≡ set_of n (λ j. any n (λ i. has latest i && linked rows i j))
    → let next = bit_or reached found in (next ≡ reach rows n a (suc k)) × Latest rows n next (next - reached)
unfolding reach touches
step {rows} {n} {a} {reached} k low is latest found =
    let small : reached < 2 ^ n = rw is (reach_lt rows n a low k) in
    (latest_spread rows n small latest found ∙ ap (spread rows n) is, latest_next rows n small latest found)

pub returns-then-next-reached : goal.returns-then-next-reached
returns-then-next-reached c =
    let g = c.args.self.now in
    let p = c.requires.1 in
    let l = c.loop-reached in
    le_antisymm
    (eccentricity_steps g.rows g.nodes p.0 c.args.a.0 l.k p.1 l.invariant.1)
    (eccentricity_still g.rows g.nodes p.0 c.args.a.0 l.k p.1 (sym (step l.k c.requires.1.1 c.loop-reached.invariant.0 c.loop-reached.invariant.2 c.linked_to.ensures).0 ∙ c.if-next-reached.true ∙ l.invariant.0))

pub overflow_sub-latest : goal.overflow_sub-latest
overflow_sub-latest c =
    let r = c.loop-reached.reached in
    omega (arith, or_add_and r c.linked_to.result, and_le_r r c.linked_to.result)

pub overflow_add-k : goal.overflow_add-k
overflow_add-k c = omega (arith, growing c.args.self.now.rows c.args.self.now.nodes c.args.a.0 c.requires.1.1 c.loop-reached.k c.loop-reached.invariant.1)

pub loop-reached-smaller : goal.loop-reached-smaller
loop-reached-smaller c = omega (arith, growing c.args.self.now.rows c.args.self.now.nodes c.args.a.0 c.requires.1.1 c.loop-reached.k c.loop-reached.invariant.1)

pub loop-reached-preserved : goal.loop-reached-preserved
loop-reached-preserved c =
    let g = c.args.self.now in
    let l = c.loop-reached in
    let r = reach g.rows g.nodes c.args.a.0 in
    let s = step l.k c.requires.1.1 l.invariant.0 l.invariant.2 c.linked_to.ensures in (
      s.0 ∙ ap r (sym (add-one l.k)),
      below_more (λ m. r (suc m) ≡ r m → ⊥) l.k l.invariant.1 (λ q. c.if-next-reached.false (s.0 ∙ q ∙ sym l.invariant.0)),
      s.1,
    )

pub returns : goal.returns
returns c =
    let g = c.args.self.now in
    let p = c.requires.1 in
    let l = c.loop-reached in
    le_antisymm
    (eccentricity_steps g.rows g.nodes p.0 c.args.a.0 l.k p.1 l.invariant.1)
    (eccentricity_full g.rows g.nodes p.0 c.args.a.0 l.k p.1 (sym l.invariant.0 ∙ c.loop-reached-test.false ∙ c.full_set-all.ensures))
