-- What the program files for a line, and that it lies within the lent bytes. Assumes nothing.
use Prim.Native.Nat.{ℕ, ◌≤◌}
use mathlib.Core.Path.{◌≡◌, refl, ap, ◌∙◌}
use mathlib.Core.List.{List, [], ◌++◌}
use Rattle.std.specs.Prelude.{Option, None, Some}
use Rattle.config.specs.declared.refusal.Refusal.{Refusal}
use native.Mathlib.Omega.{arith}
use borrow.Author.Tests.{leb-true}
use lib.Dec.{leb}
use lib.ListN.{length, replicate}
use lib.Seq.{length-sets}
use Rattle.config.specs.Limits.{log_size, records_size, listed_size}
use Rattle.config.specs.declared.Config.{Config}
use Rattle.line.specs.declared.read.Line.{Line}
use Rattle.line.specs.Configured.{config_of}
use Rattle.network.proofs.Within.{first_yes}
use Rattle.phy.specs.Snapshots.{snapshot_room}
use Rattle.rules.specs.Networks.{network_questions}
use Rattle.rules.specs.Questions.{run_questions}
use Rattle.rules.proofs.FirstNo.{both_none}
use Rattle.archive.specs.declared.inputs.Inputs.{Inputs}
use Rattle.archive_writer.specs.Filed.{network_in, made}
use Rattle.archive_writer.specs.Filing.{file_questions, filing, filing_refusal, filing_unless, filing_for}
use Rattle.ctsim_file.specs.Filed.{Answer, inputs_of, answered, line_filing, size_of}

-- the filing of the run that a line asks for
pub line_filed : (l : Line) (c : Config) (a : Answer) (logs records snapshots file after : List ℕ) → c ≡ config_of l →
    filing a logs records snapshots after ≡ filing_for (record { topology = l.topology; first = l.first; second = l.second; config = c }) (replicate log_size 0) (replicate records_size 0) (replicate listed_size 0) file →
    ◌≡◌ {A = Answer × List ℕ} (a, after) (line_filing l file)
unfolding line_filing
line_filed l c a logs records snapshots file after p e =
    ap answered
    (e ∙ ap (λ (x : Config). filing_for (record { topology = l.topology; first = l.first; second = l.second; config = x }) (replicate log_size 0) (replicate records_size 0) (replicate listed_size 0) file) p)

-- a file is no longer than the lent bytes
abbrev pub Sized : Answer × List ℕ → Type 0
Sized p = size_of p.0 ≤ length p.1

module _ (x : Inputs) (logs records snapshots file : List ℕ) where
  abbrev refusal : Option Refusal
  refusal = filing_refusal x (made x (snapshot_room snapshots)) (length logs) (length records) (length file)

  short : refusal ≡ None → length (made x (snapshot_room snapshots)) ≤ length file
  unfolding filing_refusal
  short e =
      let size : ℕ = length (made x (snapshot_room snapshots)) in
      leb-true size (length file)
      (first_yes (leb size (length file), Refusal.ShortFile) []
      (both_none (network_questions (network_in x) ++ run_questions x.config (length logs) (length records)) (file_questions (made x (snapshot_room snapshots)) (length file)) e).1).0

  within_unless : (o : Option Refusal) → refusal ≡ o → Sized (answered (filing_unless o x logs records snapshots file))
  within_unless None e = omega (arith, short e, length-sets file 0 (made x (snapshot_room snapshots)))
  within_unless (Some r) e = omega arith

  within_lent : Sized (answered (filing_for x logs records snapshots file))
  unfolding filing_for
  within_lent = within_unless refusal refl

pub line_within : (l : Line) (file : List ℕ) → Sized (line_filing l file)
unfolding line_filing
line_within l file = within_lent (inputs_of l) (replicate log_size 0) (replicate records_size 0) (replicate listed_size 0) file
