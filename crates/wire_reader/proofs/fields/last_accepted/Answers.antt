use Rattle.std.proofs.Common.{rules}
use Rattle.text.specs.Text.{ascii}
use Rattle.wire_reader.specs.Reader.{◌>>=◌, ◌or_else◌, behind_word, give, last_accepted}
use Rattle.wire_reader.proofs.fields.last_accepted.Goals as goal

pub returns-in-Some : goal.returns-in-Some
unfolding last_accepted behind_word ◌or_else◌ ◌>>=◌ give ascii
returns-in-Some c = search rules

pub returns-in_err-t : goal.returns-in_err-t
unfolding last_accepted behind_word ◌or_else◌ ◌>>=◌ give ascii
returns-in_err-t c = search rules

pub returns : goal.returns
unfolding last_accepted behind_word ◌or_else◌ ◌>>=◌ give ascii
returns c = search rules
