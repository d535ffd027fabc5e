-- The first i key words are there, and s is the state after i steps.
use Rattle.std.proofs.Common.{◌≡◌, ℕ, suc}
use Rattle.random.specs.Seed.{key_word, state_after}
use Rattle.random.proofs.Tables.{Filled}
use Rattle.random.proofs.seed.key_of.Given as goal

abbrev pub invariant-loop-word : goal.invariant-loop-word
invariant-loop-word l = Filled (λ (k : ℕ). key_word (state_after l.fn.seed (suc k))) 8 l.word-items l.word-index × (l.s ≡ state_after l.fn.seed l.word-index)
