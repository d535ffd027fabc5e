use Rattle.std.proofs.Common.{rules}
use Rattle.text.specs.Text.{ascii}
use Rattle.wire_reader.specs.Reader.{◌or_else◌, behind_word, give, flags}
use Rattle.wire_reader.proofs.fields.flags.Goals as goal

pub returns-in_err-word : goal.returns-in_err-word
unfolding flags behind_word ◌or_else◌ give ascii
returns-in_err-word c = search rules

pub returns : goal.returns
unfolding flags behind_word ◌or_else◌ give ascii
returns c = search rules
