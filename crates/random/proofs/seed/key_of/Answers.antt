use Rattle.std.proofs.Common.{refl, ap, ◌∙◌, add-one, arith}
use Rattle.random.specs.Seed.{next_state, key_word, state_after, key_of}
use Rattle.random.proofs.Tables.{filled_none, filled_more, filled_all}
use Rattle.random.proofs.seed.key_of.Goals as goal

pub loop-word-init : goal.loop-word-init
unfolding state_after
loop-word-init c = (filled_none _ 8 _ refl, refl)

pub loop-word-preserved : goal.loop-word-preserved
unfolding state_after
loop-word-preserved c =
    let state = c.next_state-s.ensures ∙ ap next_state c.loop-word.invariant.1 in
    (filled_more c.key_word.result c.loop-word.invariant.0 (omega arith) (c.key_word.ensures ∙ ap key_word state), rw add-one state)

pub returns : goal.returns
unfolding key_of
returns c = filled_all c.loop-word.invariant.0 (omega arith)
