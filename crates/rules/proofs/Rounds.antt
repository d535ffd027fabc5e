-- Bounds of a round. Assumes nothing.
use Prim.Native.Nat.{ℕ, ◌+◌, ◌*◌, ◌≤◌, ◌<◌}
use mathlib.Core.Path.{◌≡◌}
use mathlib.Core.Bool.{true}
use native.Mathlib.Nat.{mul-le-mul}
use native.Mathlib.Omega.{arith}
use lib.ListN.{length, length-append}
use borrow.Author.Tests.{leb-true}
use Rattle.network.proofs.Sets.{count_le}
use Rattle.config.specs.Limits.{max_nodes, max_repeats, max_round_slots}
use Rattle.std.specs.Prelude.{Option, Some, None}
use Rattle.phy.specs.Round.{Flooded, took_part_of, length_limit}
use Rattle.rules.specs.Questions.{slots_allowed}
use Rattle.rules.specs.Run.{Given, Running, run_round}

-- a round has at most 4,096 slots
pub longest_few : (slots : Option ℕ) (d repeats : ℕ) → slots_allowed slots ≡ true → d < max_nodes → repeats ≤ max_repeats → length_limit slots d repeats ≤ max_round_slots
longest_few (Some s) d repeats ok near few = leb-true s max_round_slots ok
longest_few None d repeats ok near few =
    let most : (d + 2) * repeats ≤ 33 * 64 = mul-le-mul {n₁ = d + 2} {m₁ = repeats} {n₂ = 33} {m₂ = 64} (omega arith) (omega arith) in
    omega (arith, most)

-- no more nodes take part than there are
pub took_part_few : (n : ℕ) (r : Flooded) → took_part_of n r ≤ n
took_part_few n r = count_le n _

-- a round more was run
pub rounds_more : (g : Given) (k : ℕ) (r : Running) → length (run_round g k r).rounds ≡ length r.rounds + 1
unfolding run_round
rounds_more g k r = length-append r.rounds _
