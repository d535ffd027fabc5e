-- `protocol::paxos::PaxosState::others_voted` meets its contract. The invariant: `other` is 0 exactly when the terms passed have the own
-- vote alone. Assumes nothing.
use Prim.Native.Nat.{ℕ, ◌+◌, ◌-◌, ◌<◌, ◌≤◌}
use mathlib.Core.Bool.{Bool, ◌&&◌, ◌||◌}
use mathlib.Core.Path.{◌≡◌, sym, ap, ap₂, ◌∙◌}
use native.Mathlib.Numerals.{add-one}
use native.Mathlib.Omega.{arith}
use borrow.Author.Tests.{eqb-true, eq-eqb, lt-ltb, le-ltb}
use borrow.Rule.Slice.PartMut.{mid_of, mid_len}
use lib.Bits.{bit_or, bit_xor, or_zero_l, xor_self, or_add_and, xor_add_and, and_le_l, and_le_r}
use lib.ListN.{length, get_or, drop}
use Rattle.std.proofs.lemmas.List.{get_or-take, get_or-drop}
use lib.Dec.{eqb, ltb}
use Rattle.network.specs.Graph.{all}
use Rattle.network.proofs.Sets.{and_both, same, all_intro}
use Rattle.protocol.specs.declared.state.PaxosState.{PaxosState}
use Rattle.protocol.specs.View.{votes_at}
use Rattle.protocol.proofs.state.PaxosState.others_voted.Goals as goal

-- a term before the first has no other votes that count, and one from it on only if its votes are the own one
abbrev alone : PaxosState → ℕ → ℕ → ℕ → Bool
alone s own first t = ltb t first || eqb (votes_at s t) own

-- no bit of x is set, and v differs from w in none
no_other : (x v w : ℕ) → eqb (bit_or x (bit_xor v w)) 0 ≡ (eqb x 0 && eqb v w)
no_other x v w =
    same
    (λ e.
    let none = eqb-true (bit_or x (bit_xor v w)) 0 e in
    let no-x : x ≡ 0 = omega (arith, none, or_add_and x (bit_xor v w), and_le_l x (bit_xor v w), and_le_r x (bit_xor v w)) in
    let no-bit : bit_xor v w ≡ 0 = omega (arith, none, or_add_and x (bit_xor v w), and_le_l x (bit_xor v w), and_le_r x (bit_xor v w)) in
    ap₂ ◌&&◌ (eq-eqb x 0 no-x) (eq-eqb v w (omega (arith, no-bit, xor_add_and v w, and_le_l v w, and_le_r v w))))
    (λ e.
    let both = and_both (eqb x 0) (eqb v w) e in
    eq-eqb (bit_or x (bit_xor v w)) 0
    (ap₂ bit_or (eqb-true x 0 both.0) (ap (λ (y : ℕ). bit_xor y w) (eqb-true v w both.1) ∙ xor_self w) ∙ or_zero_l 0))

-- the votes at j in the part are those of term a + j
vote_of : (s : PaxosState) (a e j : ℕ) → j < length (mid_of a (e - a) s.votes) → e ≤ length s.votes → get_or (mid_of a (e - a) s.votes) j 0 ≡ votes_at s (a + j)
vote_of s a e j h room = get_or-take (e - a) (drop a s.votes) j 0 (omega (arith, mid_len a e s.votes room)) ∙ get_or-drop a s.votes j 0

pub loop-votes-init : goal.loop-votes-init
loop-votes-init c =
    let a = c.args in
    sym (all_intro (a.first + 0) _ (λ t h. ap (λ (x : Bool). x || eqb (votes_at a.self.now t) a.own) (lt-ltb t a.first (omega arith))))

pub loop-votes-preserved : goal.loop-votes-preserved
unfolding all
loop-votes-preserved c =
    let a = c.args in
    let l = c.loop-votes in
    let t = a.first + l.votes-index in
    let v = votes_at a.self.now t in
    let next : t + 1 ≡ a.first + (l.votes-index + 1) = omega arith in
    let here = vote_of a.self.now a.first a.end l.votes-index (omega arith) (omega (arith, c.requires.1)) in
    ap (λ (x : ℕ). eqb (bit_or l.other (bit_xor x a.own)) 0) here
    ∙ no_other l.other v a.own
    ∙ ap₂ ◌&&◌ l.invariant (ap (λ (x : Bool). x || eqb v a.own) (sym (le-ltb t a.first (omega arith))))
    ∙ ap (λ (k : ℕ). all k (alone a.self.now a.own a.first)) (sym (add-one t) ∙ next)
