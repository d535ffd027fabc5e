use Rattle.std.proofs.Common.{rules}
use Rattle.text.proofs.Overlays.{◌then◌}
use Rattle.network.proofs.Sets.{and_both}
use Rattle.wire.specs.Grammar.{flags_fit, has_text, packet_text, terms_fit}
use Rattle.wire.proofs.put.put_packet.Goals as goal

pub put_body-requires : goal.put_body-requires
unfolding has_text
put_body-requires c =
    ((and_both (flags_fit c.args.flags c.args.packet) (terms_fit c.args.packet) c.requires.0).1, search rules)

pub returns : goal.returns
unfolding packet_text
returns c = c.put_header.ensures then c.put_body.ensures
