use Rattle.std.proofs.Common.{Result, sym, ap, ◌∙◌, subst, arith}
use Rattle.config.specs.declared.refusal.Refusal.{Refusal}
use Rattle.line.specs.declared.read.Line.{Line}
use Rattle.ctsim_file.specs.Filed.{read_filing, filed_for}
use Rattle.ctsim_file.proofs.Filings.{Sized, line_within}
use Rattle.config.proofs.Unless.{goes_up}
use Rattle.ctsim_file.proofs.file_input.Goals as goal

pub returns-clause-filed : goal.returns-clause-filed
unfolding filed_for
returns-clause-filed c = c.file_line.ensures ∙ ap (λ (x : Result Line Refusal). read_filing x c.args.file.now) c.in_ok-line.ensures

pub returns-clause-within : goal.returns-clause-within
returns-clause-within c = subst Sized (sym c.file_line.ensures) (line_within _ c.args.file.now)

pub returns-in_err-line-clause-filed : goal.returns-in_err-line-clause-filed
unfolding filed_for
returns-in_err-line-clause-filed c =
    rw (goes_up c.from_residual.result c.from_residual.ensures.1) (ap (λ (x : Result Line Refusal). read_filing x c.args.file.now) c.in_err-line.ensures)

pub returns-in_err-line-clause-within : goal.returns-in_err-line-clause-within
returns-in_err-line-clause-within c =
    rw (goes_up c.from_residual.result c.from_residual.ensures.1) (omega arith)
