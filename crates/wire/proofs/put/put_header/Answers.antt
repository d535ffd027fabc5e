use Rattle.std.proofs.Common.{arith}
use Rattle.text.specs.Text.{ascii}
use Rattle.text.proofs.Overlays.{◌then◌, reach}
use Rattle.wire.specs.Grammar.{header_text}
use Rattle.wire.proofs.Fitting.{fitting, nack_low}
use Rattle.wire.proofs.put.put_header.Goals as goal

pub put_small-requires : goal.put_small-requires
put_small-requires c =
    let f = fitting c.args.flags c.args.packet c.requires.0 in
    (omega (arith, f.1.current), omega (arith, reach c.put_word.ensures))

pub put_last_accepted-requires : goal.put_last_accepted-requires
put_last_accepted-requires c =
    let f = fitting c.args.flags c.args.packet c.requires.0 in
    (f.1.last, omega (arith, reach c.put_word.ensures, reach c.put_small.ensures, reach c.put_word-2.ensures))

pub put_flags-requires : goal.put_flags-requires
put_flags-requires c =
    let f = (fitting c.args.flags c.args.packet c.requires.0).0 in (
      omega (arith, f.least),
      f.most,
      omega (arith, reach c.put_word.ensures, reach c.put_small.ensures, reach c.put_word-2.ensures, reach c.put_last_accepted.ensures, reach c.put_word-3.ensures),
    )

pub put_small-requires-2 : goal.put_small-requires-2
put_small-requires-2 c =
    let f = fitting c.args.flags c.args.packet c.requires.0 in (
      omega (arith, c.nack_number.ensures, nack_low c.args.packet.nack_term f.1.nack),
      omega (arith, reach c.put_word.ensures, reach c.put_small.ensures, reach c.put_word-2.ensures, reach c.put_last_accepted.ensures, reach c.put_word-3.ensures, reach c.put_flags.ensures, reach c.put_word-4.ensures),
    )

pub put_small-requires-3 : goal.put_small-requires-3
put_small-requires-3 c =
    let f = (fitting c.args.flags c.args.packet c.requires.0).0 in (
      omega (arith, f.sender, f.most),
      omega (arith, reach c.put_word.ensures, reach c.put_small.ensures, reach c.put_word-2.ensures, reach c.put_last_accepted.ensures, reach c.put_word-3.ensures, reach c.put_flags.ensures, reach c.put_word-4.ensures, reach c.put_small-2.ensures, reach c.put_word-5.ensures),
    )

pub returns : goal.returns
unfolding ascii header_text
returns c =
    c.put_word.ensures then c.put_small.ensures then c.put_word-2.ensures then c.put_last_accepted.ensures
    then c.put_word-3.ensures then c.put_flags.ensures then c.put_word-4.ensures then rw c.nack_number.ensures at c.put_small-2.ensures
    then c.put_word-5.ensures then c.put_small-3.ensures
