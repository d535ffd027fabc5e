use Rattle.std.proofs.Common.{ap, ◌∙◌, arith}
use Rattle.listing.specs.Listing.{refusal_text}
use Rattle.program.proofs.Texts.{line_text_lem, same_text}
use Rattle.program.proofs.answer_line.Goals as goal

pub returns-in-Ok : goal.returns-in-Ok
returns-in-Ok c =
    same_text (omega arith) (line_text_lem c.args.line c.from-config.result _ _ _ _ c.from-config.ensures c.in-Ok.ensures) c.write_listing.ensures

pub returns-in-Err : goal.returns-in-Err
returns-in-Err c =
    let text = line_text_lem c.args.line c.from-config.result _ _ _ _ c.from-config.ensures c.in-Err.ensures in
    same_text (omega arith) (ap refusal_text c.number.ensures ∙ text) c.write_refusal.ensures
