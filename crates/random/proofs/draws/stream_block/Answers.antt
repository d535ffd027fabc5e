use Rattle.std.proofs.Common.{◌≡◌, ◌/◌, ◌%◌, ◌^◌, mod-eq_of_lt, arith}
use Rattle.random.specs.ChaCha.{stream_block, counter_words}
use Rattle.random.proofs.draws.stream_block.Goals as goal

pub returns : goal.returns
unfolding stream_block counter_words
returns c =
    let counter = c.args.counter in
    let high : counter / 2 ^ 32 % 2 ^ 32 ≡ counter / 2 ^ 32 = mod-eq_of_lt (omega arith) in
    rw high c.block.ensures
