use Rattle.std.proofs.Common.{ℕ, ◌≡◌, ◌*◌, List, length, sym, ap, ◌∙◌, take, arith}
use mathlib.Core.Path.{ap₂}
use Rattle.config.specs.Limits.{record_size}
use Rattle.random.proofs.Tables.{length_tabulate}
use Rattle.pipeline.specs.declared.records.History.{History}
use Rattle.pipeline.specs.View.{records_of, record_at}
use Rattle.archive.specs.Bytes.{numbers_bytes, same_bytes}
use Rattle.archive_check.proofs.Alike.{first_records}
use Rattle.archive_check.proofs.again.same_records.Goals as goal

-- a history's first records are as many
as_many : (count : ℕ) (history : History) → length (records_of count history) ≡ count
unfolding records_of
as_many count history = length_tabulate count (record_at history)

pub returns : goal.returns
returns c =
    let a = c.args in
    let rs = records_of a.count a.history.now in
    let many = as_many a.count a.history.now in
    let first = ap (λ (k : ℕ). record_size * k) (sym many) in
    c.are_numbers.ensures
    ∙ ap (λ (l : List ℕ). same_bytes a.section.now (numbers_bytes l)) (ap₂ take first c.write_records.ensures ∙ first_records rs (omega (arith, many, c.requires)))
