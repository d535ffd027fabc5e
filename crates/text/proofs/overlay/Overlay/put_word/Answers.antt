use Rattle.std.proofs.Common.{◌+◌, length, refl, ap, ◌∙◌, arith}
use Rattle.std.proofs.lemmas.List.Edits.{sets}
use Rattle.text.proofs.Overlays.{part_sets}
use Rattle.text.proofs.overlay.Overlay.put_word.Goals as goal

pub returns : goal.returns
returns c =
    let a = c.args in
    let o = a.self.now in
    let put = c.copy_from_slice.ensures.after in
    record {
      contents = part_sets o.out.now c.copy_from_slice.new.self o.at (o.at + length a.word.now) (omega (arith, ap length put)) c.if-self-end.false ∙ ap (sets o.out.now o.at) put;
      place = refl;
      at_most = omega arith;
      same_buffer = refl;
    }
