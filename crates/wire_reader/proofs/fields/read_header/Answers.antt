use Rattle.std.proofs.Common.{sym}
use Rattle.text.specs.Text.{ascii}
use Rattle.wire_reader.specs.Reader.{◌>>=◌, behind_word, give, header}
use Rattle.wire_reader.proofs.Digits.{number_only}
use Rattle.wire_reader.proofs.fields.read_header.Goals as goal

pub returns-in_err-word-clause-reads : goal.returns-in_err-word-clause-reads
unfolding header behind_word ◌>>=◌ ascii
returns-in_err-word-clause-reads c =
    simp (c.from_residual.ensures, sym c.in_err-word.ensures)

pub returns-in_err-current-clause-reads : goal.returns-in_err-current-clause-reads
unfolding header behind_word ◌>>=◌ ascii
returns-in_err-current-clause-reads c =
    simp (c.from_residual-in_err-current.ensures, sym c.in_ok-word.ensures, sym c.in_err-current.ensures)

pub returns-in_err-word-2-clause-reads : goal.returns-in_err-word-2-clause-reads
unfolding header behind_word ◌>>=◌ ascii
returns-in_err-word-2-clause-reads c =
    simp (c.from_residual-in_err-word-2.ensures, sym c.in_ok-word.ensures, sym c.in_ok-current.ensures, sym c.in_err-word-2.ensures)

pub returns-in_err-last-clause-reads : goal.returns-in_err-last-clause-reads
unfolding header behind_word ◌>>=◌ ascii
returns-in_err-last-clause-reads c =
    simp (c.from_residual-in_err-last.ensures, sym c.in_ok-word.ensures, sym c.in_ok-current.ensures, sym c.in_ok-word-2.ensures, sym c.in_err-last.ensures)

pub returns-in_err-word-3-clause-reads : goal.returns-in_err-word-3-clause-reads
unfolding header behind_word ◌>>=◌ ascii
returns-in_err-word-3-clause-reads c =
    simp (c.from_residual-in_err-word-3.ensures, sym c.in_ok-word.ensures, sym c.in_ok-current.ensures, sym c.in_ok-word-2.ensures, sym c.in_ok-last.ensures, sym c.in_err-word-3.ensures)

pub returns-in_err-set-clause-reads : goal.returns-in_err-set-clause-reads
unfolding header behind_word ◌>>=◌ ascii
returns-in_err-set-clause-reads c =
    simp (c.from_residual-in_err-set.ensures, sym c.in_ok-word.ensures, sym c.in_ok-current.ensures, sym c.in_ok-word-2.ensures, sym c.in_ok-last.ensures, sym c.in_ok-word-3.ensures, sym c.in_err-set.ensures)

pub returns-in_err-word-4-clause-reads : goal.returns-in_err-word-4-clause-reads
unfolding header behind_word ◌>>=◌ ascii
returns-in_err-word-4-clause-reads c =
    simp (c.from_residual-in_err-word-4.ensures, sym c.in_ok-word.ensures, sym c.in_ok-current.ensures, sym c.in_ok-word-2.ensures, sym c.in_ok-last.ensures, sym c.in_ok-word-3.ensures, sym c.in_ok-set.ensures, sym c.in_err-word-4.ensures)

pub returns-in_err-asked-clause-reads : goal.returns-in_err-asked-clause-reads
unfolding header behind_word ◌>>=◌ ascii
returns-in_err-asked-clause-reads c =
    simp (c.from_residual-in_err-asked.ensures, sym c.in_ok-word.ensures, sym c.in_ok-current.ensures, sym c.in_ok-word-2.ensures, sym c.in_ok-last.ensures, sym c.in_ok-word-3.ensures, sym c.in_ok-set.ensures, sym c.in_ok-word-4.ensures, sym c.in_err-asked.ensures)

pub returns-in_err-word-5-clause-reads : goal.returns-in_err-word-5-clause-reads
unfolding header behind_word ◌>>=◌ ascii
returns-in_err-word-5-clause-reads c =
    simp (c.from_residual-in_err-word-5.ensures, sym c.in_ok-word.ensures, sym c.in_ok-current.ensures, sym c.in_ok-word-2.ensures, sym c.in_ok-last.ensures, sym c.in_ok-word-3.ensures, sym c.in_ok-set.ensures, sym c.in_ok-word-4.ensures, sym c.in_ok-asked.ensures, sym c.in_err-word-5.ensures)

pub returns-in_err-sender-clause-reads : goal.returns-in_err-sender-clause-reads
unfolding header behind_word ◌>>=◌ ascii
returns-in_err-sender-clause-reads c =
    simp (c.from_residual-in_err-sender.ensures, sym c.in_ok-word.ensures, sym c.in_ok-current.ensures, sym c.in_ok-word-2.ensures, sym c.in_ok-last.ensures, sym c.in_ok-word-3.ensures, sym c.in_ok-set.ensures, sym c.in_ok-word-4.ensures, sym c.in_ok-asked.ensures, sym c.in_ok-word-5.ensures, sym c.in_err-sender.ensures)

pub returns-clause-reads : goal.returns-clause-reads
unfolding header behind_word ◌>>=◌ give ascii
returns-clause-reads c =
    simp (c.nack.ensures, sym c.in_ok-word.ensures, sym c.in_ok-current.ensures, sym c.in_ok-word-2.ensures, sym c.in_ok-last.ensures, sym c.in_ok-word-3.ensures, sym c.in_ok-set.ensures, sym c.in_ok-word-4.ensures, sym c.in_ok-asked.ensures, sym c.in_ok-word-5.ensures, sym c.in_ok-sender.ensures)

pub returns-clause-small : goal.returns-clause-small
returns-clause-small c = (number_only _ _ _ _ (sym c.in_ok-current.ensures)).0
