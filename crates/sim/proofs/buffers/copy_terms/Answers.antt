use Rattle.std.proofs.Common.{◌≡◌, ℕ, ◌+◌, ◌-◌, ◌<◌, List, length, set, take, drop, refl, sym, ap, ap₂, ◌∙◌, arith}
use Rattle.std.proofs.lemmas.List.{length-take}
use lib.ListN.{length-drop}
use lib.Seq.{sets}
use Rattle.random.specs.Table.{tabulate}
use Rattle.random.proofs.Tables.{length_tabulate}
use Rattle.phy.proofs.Snapshots.{copied}
use Rattle.protocol.specs.View.{term_at}
use Rattle.protocol.proofs.Kept.{log_room, term_logged, logged_lt}
use Rattle.sim.proofs.Copies.{terms_more, sets_all}
use Rattle.sim.proofs.buffers.copy_terms.Goals as goal

pub loop-k-init : goal.loop-k-init
unfolding tabulate
loop-k-init c = refl

pub logged_term-requires : goal.logged_term-requires
logged_term-requires c =
    let a = c.args in
    omega (arith, c.loop-k-test.true, length-take (a.at + a.count - a.at) (drop a.at a.out.now), c.requires.1, log_room c.requires.0)

pub overflow_cast-place : goal.overflow_cast-place
overflow_cast-place c =
    let a = c.args in
    let kept = c.requires.0 in
    let here : c.loop-k.k < a.count = omega (arith, c.loop-k-test.true, length-take (a.at + a.count - a.at) (drop a.at a.out.now)) in
    omega (arith, c.logged_term.ensures, logged_lt kept _ (term_logged kept c.loop-k.k (omega (arith, here, c.requires.1))))

pub loop-k-preserved : goal.loop-k-preserved
loop-k-preserved c =
    let a = c.args in
    ap₂ (λ (l : List ℕ) (t : ℕ). set l c.loop-k.k t) c.loop-k.invariant c.logged_term.ensures
    ∙ terms_more (term_at a.state.now) (take (a.at + a.count - a.at) (drop a.at a.out.now)) c.loop-k.k

pub returns : goal.returns
returns c =
    let a = c.args in
    let f = term_at a.state.now in
    let mid = take (a.at + a.count - a.at) (drop a.at a.out.now) in
    let long : length mid ≡ a.count = omega (arith, c.requires.2, length-take (a.at + a.count - a.at) (drop a.at a.out.now), length-drop a.at a.out.now) in
    let all : c.loop-k.k ≡ a.count = omega (arith, long, c.loop-k-test.false, c.loop-k.auto.k-end) in
    let terms : c.loop-k.place-items ≡ tabulate a.count f =
    c.loop-k.invariant
    ∙ ap (λ (k : ℕ). sets mid 0 (tabulate k f)) all
    ∙ sets_all mid (tabulate a.count f) (length_tabulate a.count f ∙ sym long) in
    copied a.out.now c.loop-k.place-items a.at (a.at + a.count) (omega (arith, c.loop-k.auto.place-items, long)) c.requires.2
    ∙ ap (sets a.out.now a.at) terms
