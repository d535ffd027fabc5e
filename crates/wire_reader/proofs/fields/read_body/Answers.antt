use Rattle.std.proofs.Common.{sym}
use Rattle.text.specs.Text.{ascii}
use Rattle.wire_reader.specs.Reader.{◌>>=◌, behind_word, give, body}
use Rattle.wire_reader.proofs.fields.read_body.Goals as goal

pub returns-in_err-word : goal.returns-in_err-word
unfolding body behind_word ascii
returns-in_err-word c = simp (c.from_residual.ensures, sym c.in_err-word.ensures)

pub returns-in_err-own : goal.returns-in_err-own
unfolding body behind_word ◌>>=◌ ascii
returns-in_err-own c = simp (c.from_residual-in_err-own.ensures, sym c.in_ok-word.ensures, sym c.in_err-own.ensures)

pub returns-in_err-word-2 : goal.returns-in_err-word-2
unfolding body behind_word ◌>>=◌ ascii
returns-in_err-word-2 c = simp (c.from_residual-in_err-word-2.ensures, sym c.in_ok-word.ensures, sym c.in_ok-own.ensures, sym c.in_err-word-2.ensures)

pub returns-in_err-again : goal.returns-in_err-again
unfolding body behind_word ◌>>=◌ ascii
returns-in_err-again c =
    simp (c.from_residual-in_err-again.ensures, sym c.in_ok-word.ensures, sym c.in_ok-own.ensures, sym c.in_ok-word-2.ensures, sym c.in_err-again.ensures)

pub returns-in_err-rest : goal.returns-in_err-rest
unfolding body behind_word ◌>>=◌ ascii
returns-in_err-rest c =
    simp (c.from_residual-in_err-rest.ensures, sym c.in_ok-word.ensures, sym c.in_ok-own.ensures, sym c.in_ok-word-2.ensures, sym c.in_ok-again.ensures, sym c.in_err-rest.ensures)

pub returns : goal.returns
unfolding body behind_word ◌>>=◌ give ascii
returns c =
    simp (sym c.in_ok-word.ensures, sym c.in_ok-own.ensures, sym c.in_ok-word-2.ensures, sym c.in_ok-again.ensures, sym c.in_ok-rest.ensures)
