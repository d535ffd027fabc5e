-- What the program writes for a line, and texts within another bound. Assumes nothing.
use Prim.Native.Nat.{ℕ, ◌≤◌}
use mathlib.Core.Path.{◌≡◌, ap, ◌∙◌, subst}
use mathlib.Core.List.{List}
use native.Mathlib.Omega.{arith}
use lib.ListN.{replicate}
use Rattle.config.specs.Limits.{log_size, records_size}
use Rattle.config.specs.declared.Config.{Config}
use Rattle.line.specs.declared.read.Line.{Line}
use Rattle.line.specs.Configured.{config_of}
use Rattle.text.specs.Overlay.{Written}
use Rattle.std.specs.Prelude.{Result}
use Rattle.config.specs.declared.refusal.Refusal.{Refusal}
use Rattle.metrics.specs.declared.summary.Summary.{Summary}
use Rattle.rules.specs.Answers.{outcome}
use Rattle.rules.specs.Entries.{run_of_topology}
use Rattle.program.specs.Printed.{answer_text, outcome_text, line_text}

-- what the program writes for a line
pub line_text_lem : (l : Line) (c : Config) (a : Result Summary Refusal) (logs records snapshots : List ℕ) → c ≡ config_of l →
    outcome a logs records snapshots ≡ run_of_topology l.topology l.first l.second c (replicate log_size 0) (replicate records_size 0) (replicate 5000 0) →
    answer_text a logs records snapshots ≡ line_text l
unfolding line_text
line_text_lem l c a logs records snapshots p e =
    ap outcome_text (e ∙ ap (λ (x : Config). run_of_topology l.topology l.first l.second x (replicate log_size 0) (replicate records_size 0) (replicate 5000 0)) p)

-- the same text, within another bound
pub same_text : {m most : ℕ} {s t before after : List ℕ} {size : ℕ} → m ≤ most → s ≡ t → Written m s before after size → Written most t before after size
same_text {m} {most} {s} {t} {before} {after} {size} h e w =
    subst (λ (x : List ℕ). Written most x before after size) e (record { contents = w.contents; sized = w.sized; at_most = omega (arith, w.at_most) })
