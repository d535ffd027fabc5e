-- Bounds on the counts of every accepted run. Assumes nothing.
use Prim.Native.Nat.{ℕ, suc, ◌+◌, ◌-◌, ◌*◌, ◌/◌, ◌≤◌, ◌<◌, zero-le}
use mathlib.Core.List.{[], ◌∷◌}
use mathlib.Core.Path.{◌≡◌, refl, sym, ap, ◌∙◌, subst}
use native.Mathlib.Nat.{mul-le-mul, mul-le-mul_right, div-le_of_le-mul}
use native.Mathlib.Omega.{arith}
use lib.ListN.{length, length-append, get_or-replicate}
use Rattle.network.proofs.Sets.{count_le}
use Rattle.phy.specs.Node.{new, total}
use Rattle.phy.specs.Slot.{Setup, at}
use Rattle.phy.specs.Round.{Flooded, round}
use Rattle.phy.proofs.Counts.{all_slots_lem, round_most, counted_round}
use Rattle.phy.proofs.Due.{Due, due_none, due_round, due_count}
use Rattle.phy.proofs.Tries.{Tallied, tallied_none, tallied_then, successes_most}
use Rattle.metrics.specs.declared.summary.Summary.{Summary}
use Rattle.pipeline.specs.Round.{Prepared, recorded, initiator_of, prepare_round, process_round}
use Rattle.pipeline.proofs.Sharing.{all_new}
use Rattle.rules.specs.Accepted.{Accepted}
use Rattle.config.specs.Limits.{most_rounds}
use Rattle.rules.specs.Run.{run_for, Given, Past, Running, begin, setup_of, run_round, run}
use Rattle.rules.specs.Entries.{given_for, summary_of}
use Rattle.rules.specs.RunBounds.{longest, Bounds, AllBounded}
use Rattle.rules.proofs.Rounds.{longest_few, took_part_few}
use Rattle.rules.proofs.Coverage.{same_counts}
use Rattle.rules.proofs.Ends.{Through, along_rounds, tallied_next}
use Rattle.rules.proofs.Admitted.{admitted}
use Rattle.rules.proofs.ShortRounds.{slept_in}
use Rattle.rules.proofs.Tallies.{Low, Few, few_prepared, few_processed, low_packet}

-- ---- after k rounds

record Within (g : Given) (k : ℕ) (r : Running) : Type 0 where
  rounds : length r.rounds ≡ k
  slots_least : k * g.repeats ≤ r.standing.slot
  slots : r.standing.slot ≤ k * longest g
  counted : (j : ℕ) → j < g.nodes → total (at r.standing.nodes j) ≡ r.standing.slot
  tallied : Tallied g.nodes g.heard (begin g).standing r.standing
  took_part : r.took_part ≤ g.nodes * k
  few : Few k (g.nodes * k) r.shared
  due : Due g.interval r.standing.slot r.standing.shots

module _ (g : Given) (a : Accepted g) where
  within_none : Within g 0 (begin g)
  within_none =
      record {
        rounds = refl;
        slots_least = omega arith;
        slots = zero-le;
        counted = λ j h. ap total (get_or-replicate g.nodes j new new h);
        tallied = tallied_none g.nodes g.heard (begin g).standing;
        took_part = zero-le;
        few = record { nacks = zero-le; piggybacks = zero-le; filed = zero-le; low = all_new Low tt g.nodes };
        due = due_none g.interval (begin g).standing.shots a.interval refl refl;
      }

  within_next : (k : ℕ) (r : Running) → Within g k r → Within g (suc k) (run_round g k r)
  unfolding run_round
  within_next k r now =
      record {
        rounds = length-append r.rounds (this ∷ []) ∙ omega (arith, now.rounds);
        slots_least = omega (arith, now.slots_least, (slept_in g a k r).length);
        slots = omega (arith, now.slots, round_most setup (longest g) i ready.packet r.standing);
        counted = λ j h. omega (arith, now.counted j h, counted_round setup (longest g) i ready.packet r.standing j h);
        tallied = tallied_then now.tallied (tallied_next g k r);
        took_part = omega (arith, now.took_part, took_part_few g.nodes flooded);
        few = record { nacks = omega (arith, few.nacks); piggybacks = omega (arith, few.piggybacks); filed = few.filed; low = few.low };
        due = due_round setup (longest g) i ready.packet r.standing a.interval now.due;
      }
    where
      i : ℕ
      i = initiator_of g.nodes k

      setup : Setup
      setup = setup_of g r.shared

      ready : Prepared
      ready = prepare_round g.nodes g.proposals i r.standing.slot r.shared

      flooded : Flooded
      flooded = round setup (longest g) i ready.packet r.standing

      this : Past
      this = record { initiator = i; before = r.standing; packet = ready.packet; flooded = flooded }

      few : Few (k + 1) (g.nodes * k + g.nodes) (process_round g.nodes ready.packet flooded.after.slot flooded.part ready.shared)
      few =
          few_processed ready.packet flooded.after.slot flooded.part (low_packet g.nodes g.proposals i r.standing.slot r.shared now.few.low)
          g.nodes (k + 1) (g.nodes * k) ready.shared (few_prepared g.nodes g.proposals i r.standing.slot k (g.nodes * k) r.shared now.few)

  within_run : Through (Within g) (most_rounds g.proposals) 0 (run g).running
  unfolding run_for
  within_run = along_rounds g (Within g) within_next (most_rounds g.proposals) 0 (begin g) within_none

-- ---- the summary

-- rounding up gives at most one more
shots_few : (slots interval : ℕ) → 1 ≤ interval → (slots + interval - 1) / interval ≤ slots + 1
shots_few slots interval pos = div-le_of_le-mul interval (omega (arith, mul-le-mul_right slots pos))

bounds_of : (g : Given) → Accepted g → Bounds g (summary_of g (run g))
bounds_of g a =
    let s : Summary = summary_of g (run g) in
    let w = within_run g a in
    let now = w.holds in
    let most : longest g ≤ 4096 = longest_few g.round_slots g.diameter g.repeats a.round_slots a.diameter_low a.repeats_high in
    let rounds : s.rounds ≤ most_rounds g.proposals = omega (arith, now.rounds, w.few) in
    let slots : s.slots ≤ s.rounds * longest g = subst (λ (k : ℕ). s.slots ≤ k * longest g) (sym now.rounds) now.slots in
    let slots_least : s.rounds * g.repeats ≤ s.slots = subst (λ (k : ℕ). k * g.repeats ≤ s.slots) (sym now.rounds) now.slots_least in
    let slots_most : s.slots ≤ 1066 * 4096
    = omega (arith, slots, mul-le-mul {n₁ = s.rounds} {m₁ = longest g} {n₂ = 1066} {m₂ = 4096} (omega (arith, rounds, a.proposals)) most) in
    let each_slot : s.listen + s.flood + s.sleep ≡ g.nodes * s.slots
    = omega (
      arith,
      all_slots_lem (run g).running.standing.nodes g.nodes s.slots now.counted,
    ) in
    let successes : s.successes ≤ s.attempts = successes_most now.tallied zero-le in
    let attempts : s.attempts ≤ g.nodes * g.nodes * s.slots = omega (arith, now.tallied.few) in
    let took_part : s.took_part ≤ g.nodes * s.rounds = subst (λ (k : ℕ). s.took_part ≤ g.nodes * k) (sym now.rounds) now.took_part in
    let covered : s.covered ≡ s.took_part = same_counts g (most_rounds g.proposals) in
    let nacks : s.nacks ≤ s.rounds = omega (arith, now.few.nacks, now.rounds) in
    let piggybacks : s.piggybacks ≤ g.nodes * s.rounds = subst (λ (k : ℕ). s.piggybacks ≤ g.nodes * k) (sym now.rounds) now.few.piggybacks in
    let filed : s.records ≤ 64 = omega (arith, now.few.filed, count_le 64 (λ (t : ℕ). recorded t (run g).running.shared.records)) in
    let snapshots : s.snapshots ≡ (s.slots + g.interval - 1) / g.interval = due_count g.interval s.slots (run g).running.standing.shots a.interval now.due in
    -- the products, in numbers
    let by_slots : g.nodes * s.slots ≤ 32 * (1066 * 4096) = mul-le-mul {n₁ = g.nodes} {m₁ = s.slots} {n₂ = 32} {m₂ = 1066 * 4096} a.few slots_most in
    let squared : g.nodes * g.nodes ≤ 32 * 32 = mul-le-mul {n₁ = g.nodes} {m₁ = g.nodes} {n₂ = 32} {m₂ = 32} a.few a.few in
    let by-pairs : g.nodes * g.nodes * s.slots ≤ 32 * 32 * (1066 * 4096) = mul-le-mul {n₁ = g.nodes * g.nodes} {m₁ = s.slots} {n₂ = 32 * 32} {m₂ = 1066 * 4096} squared slots_most in
    let by-rounds : g.nodes * s.rounds ≤ 32 * 1066 = mul-le-mul {n₁ = g.nodes} {m₁ = s.rounds} {n₂ = 32} {m₂ = 1066} a.few (omega (arith, rounds, a.proposals)) in
    record {
      nodes = refl;
      rounds = rounds;
      slots_least = slots_least;
      slots = slots;
      round_slots = most;
      slots_most = slots_most;
      each_slot = each_slot;
      successes = successes;
      attempts = attempts;
      flood_rounds = refl;
      flood_nodes = refl;
      took_part = took_part;
      covered = covered;
      nacks = nacks;
      piggybacks = piggybacks;
      records = filed;
      snapshots = snapshots;
      small = omega (
        arith,
        a.few,
        a.proposals,
        rounds,
        slots_most,
        each_slot,
        successes,
        attempts,
        took_part,
        covered,
        nacks,
        piggybacks,
        filed,
        snapshots,
        shots_few s.slots g.interval a.interval,
        by_slots,
        by-pairs,
        by-rounds,
      );
    }

pub all_bounded : AllBounded
all_bounded q c logs records snapshots s e =
    let a = admitted q c logs records snapshots s e in
    subst (Bounds (given_for q c)) a.summary (bounds_of (given_for q c) a.accepted)
