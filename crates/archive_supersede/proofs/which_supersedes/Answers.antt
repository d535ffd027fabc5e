use Rattle.std.proofs.Common.{◌≡◌, ℕ, List, sym, ◌∙◌, arith}
use mathlib.Core.Path.{ap₂}
use Rattle.std.specs.Borrow.{Bor}
use Rattle.archive.specs.declared.layout.Filed.{Filed}
use Rattle.archive.proofs.Orders.{kept_as}
use Rattle.archive_supersede.specs.Supersede.{which_supersedes}
use Rattle.archive_supersede.proofs.Pairs.{Paired, first_broken, second_broken, fields_differ_lem, first_supersedes, second_supersedes}
use Rattle.config.proofs.Unless.{goes_up}
use Rattle.archive_supersede.proofs.which_supersedes.Goals as goal

pub returns-in_err-first : goal.returns-in_err-first
returns-in_err-first c =
    let told = c.in_err-first.ensures in
    rw (goes_up c.from_residual.result c.from_residual.ensures.1, told.1) (first_broken c.args.first.now c.args.second.now told.0)

pub returns-in_err-second : goal.returns-in_err-second
returns-in_err-second c =
    let told = c.in_err-second.ensures in
    rw (goes_up c.from_residual-in_err-second.result c.from_residual-in_err-second.ensures.1, told.1) (second_broken c.args.first.now c.args.second.now (kept_as c.in_ok-first.first c.in_ok-first.ensures) told.0)

-- the files that keep the layout are these two
of_these : (f s : Filed) {first second : Bor (List ℕ)} → f.bytes ≡ first → s.bytes ≡ second →
    which_supersedes f.bytes.now s.bytes.now ≡ which_supersedes first.now second.now
of_these f s one two = ap₂ (λ (a b : Bor (List ℕ)). which_supersedes a.now b.now) one two

pub returns-then-not-same_other_fields : goal.returns-then-not-same_other_fields
returns-then-not-same_other_fields c =
    let f = c.in_ok-first.first in
    let s = c.in_ok-second.second in
    fields_differ_lem f.bytes.now s.bytes.now f.kept s.kept (sym c.same_other_fields.ensures ∙ c.if-not-same_other_fields.true)
    ∙ of_these f s c.in_ok-first.ensures c.in_ok-second.ensures

pub returns-then-limit_in : goal.returns-then-limit_in
returns-then-limit_in c =
    let f = c.in_ok-first.first in
    let s = c.in_ok-second.second in
    let pair : Paired f.bytes.now s.bytes.now =
    record { first_kept = f.kept; second_kept = s.kept; agree = sym c.same_other_fields.ensures ∙ c.if-not-same_other_fields.false } in
    rw c.records_place.ensures
    (second_supersedes f.bytes.now s.bytes.now pair (omega (arith, c.if-limit_in.true, c.limit_in.ensures, c.limit_in-2.ensures)))
    ∙ of_these f s c.in_ok-first.ensures c.in_ok-second.ensures

pub returns-else-limit_in : goal.returns-else-limit_in
returns-else-limit_in c =
    let f = c.in_ok-first.first in
    let s = c.in_ok-second.second in
    let pair : Paired f.bytes.now s.bytes.now =
    record { first_kept = f.kept; second_kept = s.kept; agree = sym c.same_other_fields.ensures ∙ c.if-not-same_other_fields.false } in
    rw c.records_place-else-limit_in.ensures
    (first_supersedes f.bytes.now s.bytes.now pair (omega (arith, c.if-limit_in.false, c.limit_in.ensures, c.limit_in-2.ensures)))
    ∙ of_these f s c.in_ok-first.ensures c.in_ok-second.ensures
