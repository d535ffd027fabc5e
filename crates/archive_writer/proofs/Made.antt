-- The file that is made of the inputs of an accepted run, from what the run itself gives. Assumes nothing.
use Prim.Native.Nat.{ℕ, ◌+◌, ◌*◌, ◌/◌, ◌≤◌, min}
use mathlib.Core.Path.{◌≡◌, ap, ap₂, ◌∙◌}
use mathlib.Core.List.{List, [], flatten}
use Rattle.std.specs.Prelude.{None}
use native.Mathlib.Nat.{le_refl}
use native.Mathlib.Omega.{arith}
use lib.ListN.{length, take, drop, replicate, length-replicate}
use lib.Seq.{sets, sets-eq, take_at}
use Rattle.config.specs.Limits.{max_terms, record_size, records_size, snapshot_size, log_size}
use Rattle.metrics.specs.Totals.{totals}
use Rattle.phy.specs.Snapshots.{snapshot_room, snapshots_with}
use Rattle.phy.proofs.Fives.{Fives, length_fives}
use Rattle.phy.proofs.Snapshots.{length_with_lem}
use Rattle.pipeline.specs.Round.{Record}
use Rattle.rules.specs.Questions.{refusal_for}
use Rattle.rules.specs.Run.{Given, Ended, run}
use Rattle.rules.specs.RunBounds.{Bounds}
use Rattle.rules.specs.Entries.{summary_of, logs_with, record_numbers, ran_with, given_for, outcome_for}
use Rattle.rules.proofs.Admitted.{Roomy, admitted, admits}
use Rattle.rules.proofs.ExactBuffers.{length_numbers}
use Rattle.rules.proofs.RunBounds.{all_bounded}
use Rattle.rules.proofs.Taken.{fives_run}
use Rattle.archive.specs.declared.inputs.Inputs.{Inputs}
use Rattle.archive.specs.Bytes.{numbers_bytes}
use Rattle.archive.specs.Inputs.{input_numbers}
use Rattle.archive.specs.File.{file_of}
use Rattle.archive.specs.Laws.{five}
use Rattle.archive_writer.specs.Filed.{network_in, sections_of, filed, blank_outcome, made}
use Rattle.archive_writer.specs.Working.{sections_over, file_over, file_of_run}

-- ---- what a run has used of its buffers

-- what was laid over the start of a list
take_sets : (l v : List ℕ) (n : ℕ) → length v ≡ n → n ≤ length l → take n (sets l 0 v) ≡ v
take_sets l v n e h = ap (take n) (sets-eq v l 0 (omega arith)) ∙ take_at v (drop (0 + length v) l) n e

records_used : (out : List ℕ) (rs : List Record) → length rs ≤ max_terms → records_size ≤ length out
    → take (record_size * length rs) (sets out 0 (record_numbers rs)) ≡ record_numbers rs
records_used out rs few long = take_sets out (record_numbers rs) (record_size * length rs) (length_numbers rs) (omega arith)

snapshots_used : (b : List ℕ) (shots : List (List ℕ)) → Fives shots
    → take (snapshot_size * min (snapshot_room (snapshots_with b shots)) (length shots)) (snapshots_with b shots) ≡ flatten (take (snapshot_room b) shots)
unfolding snapshots_with
snapshots_used b shots five =
    let room : snapshot_room (snapshots_with b shots) ≡ snapshot_room b = ap (λ (n : ℕ). n / snapshot_size) (length_with_lem b shots) in
    ap (λ (n : ℕ). take (snapshot_size * min n (length shots)) (snapshots_with b shots)) room
    ∙ take_sets b (flatten (take (snapshot_room b) shots)) (snapshot_size * min (snapshot_room b) (length shots)) (length_fives (snapshot_room b) five) (omega arith)

-- the sections of a run, and its file, from the buffers as it leaves them
module _ (x : Inputs) (g : Given) (logs records snapshots : List ℕ) (few : length (run g).running.shared.records ≤ max_terms) (long : records_size ≤ length records) where
  sections_run : sections_of x (summary_of g (run g)) (ran_with g logs records snapshots) ≡ sections_over logs x g (snapshot_room snapshots)
  unfolding ran_with
  sections_run =
      let e : Ended = run g in
      ap₂ (λ (r s : List ℕ). five (numbers_bytes (input_numbers x)) (numbers_bytes (totals (summary_of g e))) (numbers_bytes r) (numbers_bytes s) (logs_with logs e.running.shared.states g.nodes))
      (records_used records e.running.shared.records few long)
      (snapshots_used snapshots e.running.standing.shots.taken (fives_run g))

  pub filed_run : filed x (ran_with g logs records snapshots) ≡ file_over logs x g (snapshot_room snapshots)
  unfolding filed ran_with
  filed_run = ap file_of sections_run

-- ---- an accepted run

pub roomy : Roomy (replicate log_size 0) (replicate records_size 0)
roomy = record { for_logs = le_refl log_size; for_records = le_refl records_size }

room_is : (room : ℕ) → snapshot_room (replicate (snapshot_size * room) 0) ≡ room
room_is room = omega (arith, length-replicate {A = ℕ} (snapshot_size * room) 0)

module _ (x : Inputs) (passes : refusal_for (network_in x) x.config ≡ None) where
  abbrev asked : Given
  asked = given_for (network_in x) x.config

  -- it runs into whatever buffers suffice
  module _ (logs records snapshots : List ℕ) (long : Roomy logs records) where
    pub ran_into : outcome_for (network_in x) x.config logs records snapshots ≡ ran_with asked logs records snapshots
    ran_into = (admitted (network_in x) x.config logs records snapshots _ (admits (network_in x) x.config logs records snapshots passes long)).ran

    bounded_so : Bounds asked (summary_of asked (run asked))
    bounded_so = all_bounded (network_in x) x.config logs records snapshots _ (admits (network_in x) x.config logs records snapshots passes long)

    filed_so : filed x (outcome_for (network_in x) x.config logs records snapshots) ≡ file_over logs x asked (snapshot_room snapshots)
    filed_so = ap (filed x) ran_into ∙ filed_run x asked logs records snapshots bounded_so.records long.for_records

  -- its counts are bounded
  pub bounded : Bounds asked (summary_of asked (run asked))
  bounded = bounded_so (replicate log_size 0) (replicate records_size 0) [] roomy

  -- The file that is made of its inputs, in plain form.
  pub made_run : (room : ℕ) → made x room ≡ file_of_run x asked room
  made_run room =
      filed_so (replicate log_size 0) (replicate records_size 0) (replicate (snapshot_size * room) 0) roomy
      ∙ ap (file_of_run x asked) (room_is room)

  -- and so its sections
  pub sections_are : (room : ℕ) → sections_of x (summary_of asked (run asked)) (blank_outcome x room) ≡ sections_over (replicate log_size 0) x asked room
  sections_are room =
      ap (sections_of x (summary_of asked (run asked))) (ran_into (replicate log_size 0) (replicate records_size 0) (replicate (snapshot_size * room) 0) roomy)
      ∙ sections_run x asked (replicate log_size 0) (replicate records_size 0) (replicate (snapshot_size * room) 0) bounded.records roomy.for_records
      ∙ ap (sections_over (replicate log_size 0) x asked) (room_is room)
