use Rattle.std.proofs.Common.{◌≡◌, ℕ, ◌+◌, ◌*◌, ◌/◌, ◌%◌, ◌^◌, List, get_or, sym, ap, ◌∙◌, subst, arith}
use Rattle.random.specs.Draws.{block_draws, Keyed, HasBlock}
use Rattle.random.proofs.Stream.{draw_of_block}
use Rattle.random.proofs.draws.Stream.next_draw.Goals as goal
use Rattle.random.proofs.draws.Stream.next_draw.Lts.{then-used-eq0, else-used-eq0}

pub returns : goal.returns
returns c seed b =
    let k = c.args.k in
    let h : Keyed seed c.if-used-eq0.self × HasBlock seed (k / block_draws) c.if-used-eq0.self
    = elim c.if-used-eq0.branch [
      | then-used-eq0 w ↦ rw w.self-is (w.fill.ensures seed b.key)
      | else-used-eq0 w ↦ rw w.self-is (b.key, b.hand w.if-used-eq0.false)
    ] in
    let u = k % block_draws in (
      c.pair.ensures
          ∙ ap (λ (l : List ℕ). get_or l (2 * u) 0 + get_or l (2 * u + 1) 0 * 2 ^ 32) h.1
          ∙ sym (draw_of_block seed k (k / block_draws) u (omega arith) (omega arith)),
      record { key = h.0; hand = λ no. let same : k / block_draws ≡ (k + 1) / block_draws = omega (arith, no) in subst (λ (m : ℕ). HasBlock seed m c.if-used-eq0.self) same h.1 },
    )
