use Rattle.std.proofs.Common.{rules}
use Rattle.text.specs.Text.{ascii}
use Rattle.wire_reader.specs.Reader.{◌>>=◌, ◌or_else◌, behind_word, give, flag}
use Rattle.wire_reader.proofs.fields.flag.Goals as goal

pub returns-in-Some : goal.returns-in-Some
unfolding flag behind_word ◌or_else◌ ◌>>=◌ give ascii
returns-in-Some c = search rules

pub returns-in_err-rest : goal.returns-in_err-rest
unfolding flag behind_word ◌or_else◌ ◌>>=◌ give ascii
returns-in_err-rest c = search rules

pub returns : goal.returns
unfolding flag behind_word ◌or_else◌ ◌>>=◌ give ascii
returns c = search rules
