-- A run that was played again to its end gives the file's other sections, or does not. Assumes nothing.
use Prim.Native.Nat.{ℕ}
use mathlib.Core.Path.{◌≡◌, refl, sym, ap, ◌∙◌}
use mathlib.Core.Bool.{Bool, true, false, ◌&&◌}
use mathlib.Core.List.{List}
use lib.Dec.{leb}
use lib.ListN.{length, replicate}
use Rattle.config.specs.Limits.{log_size}
use Rattle.metrics.specs.Totals.{totals}
use Rattle.pipeline.specs.View.{records_of, states_of}
use Rattle.rules.specs.Accepted.{Accepted}
use Rattle.rules.specs.Run.{Given}
use Rattle.rules.specs.Entries.{logs_with, record_numbers}
use Rattle.rules.proofs.Taken.{fives_run}
use Rattle.rounds.specs.declared.run.Plan.{Plan}
use Rattle.rounds.specs.declared.run.Stopped.{Stopped}
use Rattle.rounds.specs.Going.{planned, Contents}
use Rattle.sim.specs.Filling.{summary_from}
use Rattle.sim.proofs.Filled.{summary_is, logs_are, records_are}
use Rattle.archive.specs.Bytes.{numbers_bytes, same_bytes}
use Rattle.archive.specs.Layout.{layout, section_in}
use Rattle.archive_check.specs.Again.{totals_of, records_of as recordsOfRun, snapshots_of, logs_of, gives_again}
use Rattle.archive_check.specs.Check.{stored_in}
use Rattle.archive_check.specs.Working.{agrees, shots_in, Alike}
use Rattle.archive_check.proofs.Agreeing.{agrees_all}
use Rattle.archive_check.proofs.Alike.{regroup}

no_more : (a b c d : Bool) → (a && b && (c && false) && d) ≡ false
no_more true true true d = refl
no_more true true false d = refl
no_more true false c d = refl
no_more false b c d = refl

module _ (p : Plan) (file : List ℕ) (ok : Accepted (planned p)) (kept : layout file ≡ true) where
  abbrev g : Given
  g = planned p

  snapshots_told : same_bytes (section_in file 3) (snapshots_of (stored_in file) g) ≡ (leb (stored_in file) (length (shots_in p)) && agrees file (shots_in p))
  snapshots_told = agrees_all file kept (fives_run g)

  abbrev rest : Bool → Bool
  rest b = same_bytes (section_in file 1) (totals_of g) && same_bytes (section_in file 2) (recordsOfRun g) && b && same_bytes (section_in file 4) (logs_of g)

  pub differing : agrees file (shots_in p) ≡ false → gives_again g file ≡ false
  unfolding gives_again
  differing e =
      ap rest (snapshots_told ∙ ap (λ (b : Bool). leb (stored_in file) (length (shots_in p)) && b) e)
      ∙ no_more (same_bytes (section_in file 1) (totals_of g)) (same_bytes (section_in file 2) (recordsOfRun g)) (leb (stored_in file) (length (shots_in p))) (same_bytes (section_in file 4) (logs_of g))

  pub alike : {r : Stopped} {w : Contents} → Alike p file r w
      → (leb (stored_in file) r.run.flood.snapshots
      && same_bytes (section_in file 1) (numbers_bytes (totals (summary_from p.network.graph.nodes r)))
      && same_bytes (section_in file 2) (numbers_bytes (record_numbers (records_of r.run.carry.recorded.count w.history)))
      && same_bytes (section_in file 4) (logs_with (replicate log_size 0) (states_of p.network.graph.nodes w.states) p.network.graph.nodes))
      ≡ gives_again g file
  unfolding gives_again
  alike {r} {w} a =
      let o = a.over in
      (λ i.
      leb (stored_in file) (o.shows.standing.shots.number i)
      && same_bytes (section_in file 1) (numbers_bytes (totals (summary_is o i)))
      && same_bytes (section_in file 2) (numbers_bytes (records_are o i))
      && same_bytes (section_in file 4) (logs_are o (replicate log_size 0) i))
      ∙ regroup (leb (stored_in file) (length (shots_in p))) (same_bytes (section_in file 1) (totals_of g)) (same_bytes (section_in file 2) (recordsOfRun g)) (same_bytes (section_in file 4) (logs_of g))
      ∙ ap rest (ap (λ (b : Bool). leb (stored_in file) (length (shots_in p)) && b) (sym a.alike) ∙ sym snapshots_told)
