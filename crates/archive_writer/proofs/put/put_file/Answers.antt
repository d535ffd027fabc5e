use Rattle.std.proofs.Common.{◌∙◌, rules}
use Rattle.archive_writer.proofs.Lays.{file_laid}
use Rattle.archive_writer.proofs.put.put_file.Goals as goal

pub returns : goal.returns
returns c =
    file_laid c.requires c.min-stored.ensures c.put_head.ensures c.put_inputs.ensures c.put_totals.ensures
    c.put_numbers.ensures c.put_numbers-2.ensures (search rules ∙ c.put_word.ensures.contents) c.put_word.ensures.place
