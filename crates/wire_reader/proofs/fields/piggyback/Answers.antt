use Rattle.std.proofs.Common.{sym}
use Rattle.text.specs.Text.{ascii}
use Rattle.wire_reader.specs.Reader.{◌>>=◌, ◌or_else◌, behind_word, give}
use Rattle.wire_reader.proofs.Digits.{number_only}
use Rattle.wire_reader.proofs.Fronts.{piggyback_words}
use Rattle.wire_reader.proofs.fields.piggyback.Goals as goal

pub returns-in-Some : goal.returns-in-Some
unfolding behind_word ◌or_else◌ give ascii
returns-in-Some c = rw piggyback_words (simp (sym c.in-Some.ensures))

pub returns-in_err-t : goal.returns-in_err-t
unfolding behind_word ◌or_else◌ ◌>>=◌ ascii
returns-in_err-t c = rw piggyback_words (simp (c.from_residual.ensures, sym c.in_default.ensures, sym c.in_err-t.ensures))

pub returns-in_err-word : goal.returns-in_err-word
unfolding behind_word ◌or_else◌ ◌>>=◌ ascii
returns-in_err-word c =
    rw piggyback_words (simp (c.from_residual-in_err-word.ensures, sym c.in_default.ensures, sym c.in_ok-t.ensures, sym c.in_err-word.ensures))

pub data-requires : goal.data-requires
data-requires c = (number_only _ _ _ _ (sym c.in_ok-t.ensures)).0

pub returns-in_err-d : goal.returns-in_err-d
unfolding behind_word ◌or_else◌ ◌>>=◌ ascii
returns-in_err-d c =
    rw piggyback_words
    (simp (c.from_residual-in_err-d.ensures, sym c.in_default.ensures, sym c.in_ok-t.ensures, sym c.in_ok-word.ensures, sym c.in_err-d.ensures))

pub returns : goal.returns
unfolding behind_word ◌or_else◌ ◌>>=◌ give ascii
returns c = rw piggyback_words (simp (sym c.in_default.ensures, sym c.in_ok-t.ensures, sym c.in_ok-word.ensures, sym c.in_ok-d.ensures))
