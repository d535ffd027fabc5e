use Rattle.std.proofs.Common.{ℕ, ◌+◌, List, sym, ap, ◌∙◌}
use mathlib.Core.Path.{ap₂}
use Rattle.std.proofs.lemmas.List.Edits.{sets}
use Rattle.phy.proofs.Snapshots.{sets_append}
use Rattle.archive.specs.Bytes.{bytes_of}
use Rattle.archive.specs.Layout.{offset_size}
use Rattle.archive.proofs.ByteLaws.{length_bytes}
use Rattle.archive_writer.specs.Working.{pair_of}
use Rattle.archive_writer.proofs.put.put_pair.Goals as goal

pub returns : goal.returns
returns c =
    let a = c.args in
    let at = c.pair_at-at.result in
    c.put_bytes-2.ensures
    ∙ ap₂ (λ (l : List ℕ) (n : ℕ). sets l (at + n) (bytes_of offset_size a.size)) c.put_bytes.ensures (sym (length_bytes offset_size a.offset))
    ∙ sym (sets_append a.file.now at (bytes_of offset_size a.offset) (bytes_of offset_size a.size))
    ∙ ap (λ (n : ℕ). sets a.file.now n (pair_of a.offset a.size)) c.pair_at-at.ensures
