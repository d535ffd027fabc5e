-- The tests give questions 2 and 4, and the copy of the first n rows is right where the rows are.
use Rattle.std.proofs.Common.{◌≡◌, refl, sym, ap, ◌∙◌, Bool, ℕ, ◌≤◌, List, length, Ok}
use borrow.Author.Tests.{le-leb, lt-leb}
use Rattle.network.specs.Graph.{rows_right, widened}
use Rattle.network.specs.Questions.{question4}
use Rattle.network.proofs.Rows.{get_d_widened, widened_take}
use Rattle.network.proofs.Checks.{right_agree}
use Rattle.network.proofs.topology.checked_graph.Goals as goal

pub returns-then-rows-nodes : goal.returns-then-rows-nodes
unfolding question4
returns-then-rows-nodes c = rw (sym c.lies_in.ensures ∙ c.if-not-lies_in.false, lt-leb _ _ c.if-rows-nodes.true) refl

-- where the rows are enough, the check of the copy is question 4 of the rows
verdict : (rows wide : List ℕ) (n : ℕ) (b : Bool) → n ≤ length rows → wide ≡ widened rows n → b ≡ rows_right wide n → rows_right rows n ≡ b
verdict rows wide n b enough w e =
    right_agree rows (widened rows n) n (λ i h. sym (get_d_widened rows n enough i h)) ∙ ap (λ (l : List ℕ). rows_right l n) (sym w) ∙ sym e

pub returns-then-not-rows_right : goal.returns-then-not-rows_right
unfolding question4
returns-then-not-rows_right c =
    let enough = c.if-rows-nodes.false in
    let wide = c.widen.ensures ∙ widened_take c.args.rows.now c.args.n enough in
    rw (sym c.lies_in.ensures ∙ c.if-not-lies_in.false, le-leb _ _ enough, verdict _ _ _ _ enough wide c.rows_right.ensures ∙ c.if-not-rows_right.true) refl

pub returns : goal.returns
unfolding question4
returns c =
    let enough = c.if-rows-nodes.false in
    let wide = c.widen.ensures ∙ widened_take c.args.rows.now c.args.n enough in
    rw (sym c.lies_in.ensures ∙ c.if-not-lies_in.false, le-leb _ _ enough, verdict _ _ _ _ enough wide c.rows_right.ensures ∙ c.if-not-rows_right.false)
    (ap (λ (w : List ℕ). Ok (record { nodes = c.args.n; rows = w })) wide)
