use Rattle.std.proofs.Common.{◌≡◌, Some, None, sym, refl, subst, rules}
use Rattle.text.specs.Text.{ascii}
use Rattle.text.proofs.Overlays.{whole, written_text}
use Rattle.wire.specs.Grammar.{array, data_text}
use Rattle.wire_reader.specs.Reader.{◌or_else◌, behind, behind_word, data_of, give}
use Rattle.wire_reader.proofs.fields.data.Goals as goal

pub returns-in-Some : goal.returns-in-Some
unfolding data_of behind_word ◌or_else◌ give data_text array ascii
returns-in-Some c = simp (sym c.in-Some.ensures)

-- the last word is the text of the term's data
pub returns-in_err-rest : goal.returns-in_err-rest
unfolding data_of behind_word ◌or_else◌ give data_text array ascii
returns-in_err-rest c =
    let laid = c.put_data.ensures in
    let none : None ≡ behind (data_text (Some c.args.term)) c.args.text.now =
    subst (λ w. None ≡ behind w c.args.text.now) (written_text (whole laid refl (search rules)) laid.at_most) c.in_err-rest.ensures in
    simp (c.from_residual.ensures, sym c.in_default.ensures, sym none)

pub returns : goal.returns
unfolding data_of behind_word ◌or_else◌ give data_text array ascii
returns c =
    let laid = c.put_data.ensures in
    let found : Some c.in_ok-rest.rest.now ≡ behind (data_text (Some c.args.term)) c.args.text.now =
    subst (λ w. Some c.in_ok-rest.rest.now ≡ behind w c.args.text.now) (written_text (whole laid refl (search rules)) laid.at_most) c.in_ok-rest.ensures in
    simp (sym c.in_default.ensures, sym found)
