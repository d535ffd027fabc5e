-- The file of an accepted run: its length, its layout, and how much room for snapshots it needs. Assumes nothing.
use Prim.Native.Nat.{ℕ, zero, suc, ◌+◌, ◌-◌, ◌*◌, ◌/◌, ◌≤◌, ◌<◌, min}
use mathlib.Core.Path.{◌≡◌, sym, ap, subst⁻¹, ◌∙◌}
use mathlib.Core.Bool.{true}
use mathlib.Core.List.{List, [], ◌∷◌, flatten}
use Rattle.std.specs.Prelude.{None}
use native.Mathlib.Nat.{div-lt_iff_lt-mul, mul-le-mul_right, zero-min}
use native.Mathlib.Omega.{arith}
use lib.ListN.{length, take, replicate}
use lib.Seq.{take-nil}
use Rattle.config.specs.Limits.{log_size}
use Rattle.metrics.specs.declared.summary.Summary.{Summary}
use Rattle.metrics.specs.Totals.{totals}
use Rattle.phy.proofs.Fives.{length_fives}
use Rattle.rules.specs.Questions.{refusal_for}
use Rattle.rules.specs.Run.{Given, Ended, run}
use Rattle.rules.specs.RunBounds.{Bounds}
use Rattle.rules.specs.Entries.{record_numbers, logs_with, given_for}
use Rattle.rules.proofs.Admitted.{accepted_for}
use Rattle.rules.proofs.Taken.{fives_run}
use Rattle.rules.proofs.ExactBuffers.{length_numbers as length-recorded}
use Rattle.sim.proofs.Copies.{logs_length}
use Rattle.archive.specs.declared.inputs.Inputs.{Inputs}
use Rattle.archive.specs.Bytes.{numbers_bytes}
use Rattle.archive.specs.Inputs.{input_numbers}
use Rattle.archive.specs.Layout.{inputs_size, totals_size, record_bytes, snapshot_bytes, layout}
use Rattle.archive.specs.File.{file_of}
use Rattle.archive.specs.Laws.{Fit, five}
use Rattle.archive.proofs.ByteLaws.{length_numbers}
use Rattle.archive.proofs.Sections.{length_file, handed_back}
use Rattle.archive_writer.specs.Filed.{network_in, made}
use Rattle.archive_writer.specs.Working.{file_of_run, summary_in, length_with, Low}
use Rattle.archive_writer.proofs.Made.{bounded, made_run}

-- ---- the sections' lengths

pub length_inputs : (x : Inputs) → length (numbers_bytes (input_numbers x)) ≡ inputs_size
length_inputs x = length_numbers (input_numbers x)

pub length_totals : (s : Summary) → length (numbers_bytes (totals s)) ≡ totals_size
length_totals s = length_numbers (totals s)

module _ (g : Given) where
  length_records : length (numbers_bytes (record_numbers (run g).running.shared.records)) ≡ record_bytes * (summary_in g).records
  length_records = omega (arith, length_numbers (record_numbers (run g).running.shared.records), length-recorded (run g).running.shared.records)

  pub length_snapshots : (room : ℕ) → length (numbers_bytes (flatten (take room (run g).running.standing.shots.taken))) ≡ snapshot_bytes * min room (summary_in g).snapshots
  length_snapshots room =
      let taken : List (List ℕ) = (run g).running.standing.shots.taken in
      omega (arith, length_numbers (flatten (take room taken)), length_fives room (fives_run g))

  length_logs : length (logs_with (replicate log_size 0) (run g).running.shared.states g.nodes) ≡ log_size
  length_logs = logs_length (replicate log_size 0) (run g).running.shared.states g.nodes

  -- so the file's length goes by two counts of the summary
  pub length_run : (x : Inputs) (room : ℕ) → length (file_of_run x g room) ≡ length_with (summary_in g) room
  length_run x room =
      let e : Ended = run g in
      omega (
        arith,
        length_file (numbers_bytes (input_numbers x)) (numbers_bytes (totals (summary_in g))) (numbers_bytes (record_numbers e.running.shared.records))
            (numbers_bytes (flatten (take room e.running.standing.shots.taken))) (logs_with (replicate log_size 0) e.running.shared.states g.nodes),
        length_inputs x,
        length_totals (summary_in g),
        length_records,
        length_snapshots room,
        length_logs,
      )

-- ---- an accepted run

-- rounded up, slots over interval are at most the slots
shots_few : (slots interval : ℕ) → 1 ≤ interval → (slots + interval - 1) / interval ≤ slots
shots_few slots interval pos =
    let below : (slots + interval - 1) / interval < slots + 1
    = (div-lt_iff_lt-mul {k = interval} {x = slots + interval - 1} {y = slots + 1} pos).1 (omega (arith, mul-le-mul_right slots pos)) in
    omega arith

bounds_low : {g : Given} {s : Summary} → 1 ≤ g.interval → Bounds g s → Low s
bounds_low {g} {s} pos b =
    record { few_records = b.records; few_snapshots = omega (arith, b.slots_most, b.snapshots, shots_few s.slots g.interval pos) }

-- as many snapshots as there are
take_min : {A : Type 0} (n : ℕ) (l : List A) → take n l ≡ take (min n (length l)) l
take_min zero l = rw zero-min
take_min (suc n) [] = sym (take-nil (min (suc n) 0))
take_min {A} (suc n) (a ∷ l) =
    let more : min (suc n) (suc (length l)) ≡ suc (min n (length l)) = omega arith in
    rw more (ap (λ (r : List A). a ∷ r) (take_min n l))

module _ (x : Inputs) (passes : refusal_for (network_in x) x.config ≡ None) where
  abbrev asked : Given
  asked = given_for (network_in x) x.config

  pub low : Low (summary_in asked)
  low = bounds_low (accepted_for (network_in x) x.config passes).interval (bounded x passes)

  -- Its sections fit into a file,
  pub sections_fit : (room : ℕ) →
      Fit (numbers_bytes (input_numbers x)) (numbers_bytes (totals (summary_in asked))) (numbers_bytes (record_numbers (run asked).running.shared.records))
      (numbers_bytes (flatten (take room (run asked).running.standing.shots.taken))) (logs_with (replicate log_size 0) (run asked).running.shared.states asked.nodes)
  sections_fit room =
      let records = length_records asked in
      let snapshots = length_snapshots asked room in
      record {
        inputs_size = length_inputs x;
        totals_size = length_totals (summary_in asked);
        records_size = omega arith;
        snapshots_size = omega arith;
        logs_size = length_logs asked;
        small = omega (arith, length_inputs x, length_totals (summary_in asked), length_logs asked, low.few_records, low.few_snapshots);
      }

  -- so the file that is made of it keeps the layout.
  pub made_kept : (room : ℕ) → layout (made x room) ≡ true
  made_kept room = subst⁻¹ (λ (f : List ℕ). layout f ≡ true) (made_run x passes room) (handed_back _ _ _ _ _ (sections_fit room)).kept

  -- The file is the same with room for just as many snapshots as it holds.
  pub made_least : (room : ℕ) → made x room ≡ made x (min room (summary_in asked).snapshots)
  made_least room =
      let e : Ended = run asked in
      made_run x passes room
      ∙ ap
      (λ (shots : List (List ℕ)). file_of (five (numbers_bytes (input_numbers x)) (numbers_bytes (totals (summary_in asked))) (numbers_bytes (record_numbers e.running.shared.records))
      (numbers_bytes (flatten shots)) (logs_with (replicate log_size 0) e.running.shared.states asked.nodes)))
      (take_min room e.running.standing.shots.taken)
      ∙ sym (made_run x passes (min room (summary_in asked).snapshots))
