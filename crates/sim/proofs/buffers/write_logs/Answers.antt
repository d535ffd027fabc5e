use Rattle.std.proofs.Common.{◌≡◌, ℕ, ◌+◌, ◌*◌, ◌<◌, List, [], ◌∷◌, length, refl, ap, ◌∙◌, arith}
use Rattle.std.proofs.Math.ListN.{take}
use Rattle.std.proofs.lemmas.List.{length-take, get_or-take}
use lib.Seq.{sets}
use Rattle.config.specs.Limits.{max_terms, log_counts}
use Rattle.protocol.specs.declared.state.PaxosState.{PaxosState}
use Rattle.protocol.specs.View.{log_of}
use Rattle.pipeline.specs.View.{outside, state_in, states_of}
use Rattle.rules.specs.Entries.{terms, logs_with}
use Rattle.sim.proofs.Copies.{logs_more, logs_length}
use Rattle.sim.proofs.buffers.write_logs.Goals as goal

-- a node among the first n
within : (n i : ℕ) (states : List PaxosState) → i < length (take n states) → i < n
within n i states h = omega (arith, length-take n states)

pub loop-i-init : goal.loop-i-init
unfolding logs_with
loop-i-init c = refl

pub write_log-requires : goal.write_log-requires
write_log-requires c =
    let l = c.loop-i in
    let a = c.args in
    let size : length l.logs ≡ length a.logs.now = ap length l.invariant ∙ logs_length a.logs.now (states_of a.n a.states.now) l.i in
    let here = within a.n l.i a.states.now c.loop-i-test.true in (
      rw (get_or-take a.n a.states.now l.i outside here) (c.requires.0.each l.i here),
      omega (arith, here, c.requires.1),
      omega (arith, size, c.requires.2),
    )

pub loop-i-preserved : goal.loop-i-preserved
loop-i-preserved c =
    let l = c.loop-i in
    let a = c.args in
    let here = within a.n l.i a.states.now c.loop-i-test.true in
    let put : List ℕ → PaxosState → List ℕ = λ m state. let log = terms (log_of state) in sets (sets m (max_terms * l.i) log) (log_counts + l.i) (length log ∷ []) in
    c.write_log.ensures
    ∙ ap (put l.logs) (get_or-take a.n a.states.now l.i outside here)
    ∙ ap (λ (m : List ℕ). put m (state_in a.states.now l.i)) l.invariant
    ∙ logs_more a.logs.now a.n l.i a.states.now here
