use Rattle.text.specs.Text.{ascii}
use Rattle.wire.proofs.put.put_last_accepted.Goals as goal

pub returns-in-None : goal.returns-in-None
unfolding ascii
returns-in-None c = rw c.in-None.is c.put_word.ensures
