use Rattle.std.proofs.Common.{ap, ◌∙◌, arith}
use Rattle.listing.specs.Listing.{refusal_text}
use Rattle.program.specs.Printed.{read_text, printed}
use Rattle.program.proofs.Texts.{same_text}
use Rattle.program.proofs.answer.Goals as goal

pub returns-in-Ok : goal.returns-in-Ok
unfolding printed
returns-in-Ok c = same_text (omega arith) (ap read_text c.in-Ok.ensures) c.answer_line.ensures

pub returns-in-Err : goal.returns-in-Err
unfolding printed
returns-in-Err c = same_text (omega arith) (ap refusal_text c.number.ensures ∙ ap read_text c.in-Err.ensures) c.write_refusal.ensures
