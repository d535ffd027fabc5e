-- A run that is played again beside a file: its first round, one round more, and its ends. Assumes nothing.
use Prim.Native.Nat.{ℕ, ◌+◌, ◌-◌, ◌*◌, ◌≤◌, ◌<◌}
use mathlib.Core.Path.{◌≡◌, refl, sym, ap, ap₂, subst, subst⁻¹, ◌∙◌}
use mathlib.Core.Bool.{Bool, true, false}
use mathlib.Core.List.{List, flatten}
use mathlib.Core.Logic.{⊎_elim}
use native.Mathlib.Omega.{arith}
use lib.Dec.{eqb}
use lib.ListN.{length, take, drop, length-append}
use lib.Seq.{sets, sets-eq, take_all, take-append_seam, drop-append_seam}
use borrow.Author.Tests.{eqb-true, eqb-false}
use Rattle.config.specs.Limits.{snapshot_size, most_rounds}
use Rattle.phy.specs.Snapshots.{snapshot_room, snapshots_with}
use Rattle.phy.proofs.Due.{Grown, grown_none}
use Rattle.phy.proofs.Fives.{Fives, none, fives_behind}
use Rattle.phy.proofs.Snapshots.{scheduled_anew}
use Rattle.rules.specs.Accepted.{Accepted}
use Rattle.rules.specs.declared.answer.End.{End}
use Rattle.rules.specs.Answers.{end_number}
use Rattle.rules.specs.Run.{Given, Running, Ended, begin, run, run_round}
use Rattle.rules.proofs.Taken.{DueIn, due_begin, due_next, grown_next, few_next, grown_through, fives_next, fives_run, end_in_time}
use Rattle.rounds.specs.declared.run.Plan.{Plan}
use Rattle.rounds.specs.declared.run.Run.{Run}
use Rattle.rounds.specs.declared.run.Next.{Next}
use Rattle.std.specs.Prelude.{Some, None}
use Rattle.rounds.specs.declared.run.Stopped.{Stopped}
use Rattle.rounds.specs.Going.{planned, Contents, Shows, Steady, Going, MovesOn, Underway, NewRun}
use Rattle.rounds.proofs.Underway.{underway_new, same_size, limit_is, run_is, goes_on}
use Rattle.archive.specs.Bytes.{numbers_bytes, same_bytes}
use Rattle.archive.specs.Layout.{snapshot_bytes, layout, section_in}
use Rattle.archive.proofs.ByteLaws.{two}
use Rattle.archive_check.specs.Check.{stored_in}
use Rattle.archive_check.specs.Working.{taken, agrees, shots_in, CanReplay, Alike}
use Rattle.archive_check.proofs.Agreeing.{and_yes, agrees_none, agrees_more, differs_on}

-- ---- from here on, snapshots are stored from the buffer's start

abbrev pub anew : Run → Run
anew x =
    record {
      flood = record {
        awake = x.flood.awake;
        slots_listen = x.flood.slots_listen;
        slots_flood = x.flood.slots_flood;
        slots_sleep = x.flood.slots_sleep;
        attempts = x.flood.attempts;
        successes = x.flood.successes;
        slot = x.flood.slot;
        next_snapshot = x.flood.next_snapshot;
        snapshots = x.flood.snapshots;
        first_stored = x.flood.snapshots;
      };
      carry = x.carry;
      took_part = x.took_part;
      progress = x.progress;
    }

shows_anew : {p : Plan} {x : Run} {w : Contents} {b₀ : List ℕ} {s : Running} → Shows p x w b₀ s → Shows p (anew x) w w.snapshots s
shows_anew u =
    let st = u.standing in
    record {
      standing = record {
        listening = st.listening;
        flooding = st.flooding;
        listens = st.listens;
        floods = st.floods;
        sleeps = st.sleeps;
        counted = st.counted;
        attempts = st.attempts;
        successes = st.successes;
        slot = st.slot;
        shots = scheduled_anew st.shots;
      };
      shared = u.shared;
      took_part = u.took_part;
    }

steady_anew : {heard : ℕ → Bool} {p : Plan} {k : ℕ} {x : Run} {w : Contents} → Steady heard p k x w → Steady heard p k (anew x) w
steady_anew u =
    let s = u.sound in
    record {
      sound = record { few = s.few; repeats = s.repeats; interval = s.interval; attempts = s.attempts; successes = s.successes; next = s.next; stored = omega arith };
      sharing = u.sharing;
      source = u.source;
      room = u.room;
      slots = u.slots;
      took_part = u.took_part;
      nacks = u.nacks;
      piggybacks = u.piggybacks;
    }

underway_anew : {p : Plan} {most k : ℕ} {x : Run} {w : Contents} {b₀ : List ℕ} {here : Running}
    → Underway p most k x w b₀ here → Underway p most k (anew x) w w.snapshots here
underway_anew u =
    record {
      going = record { shows = shows_anew u.going.shows; steady = steady_anew u.going.steady; rounds = u.going.rounds; progress = u.going.progress };
      rest = u.rest;
      in_time = u.in_time;
    }

-- ---- k rounds are played, and what they took agrees with the file
pub record Comparing (p : Plan) (file : List ℕ) (k : ℕ) (x : Run) (w : Contents) (size : ℕ) : Type 0 where
  pub first : List ℕ
  pub here : Running
  pub underway : Underway p (most_rounds p.config.num_proposals) k x w first here
  pub due : DueIn (planned p) here
  pub fresh : x.flood.first_stored ≡ x.flood.snapshots
  pub fives : Fives here.standing.shots.taken
  pub alike : agrees file here.standing.shots.taken ≡ true
  pub sized : length w.snapshots ≡ size

pub comparing_new : {p : Plan} {file : List ℕ} {x : Run} {w : Contents} → layout file ≡ true → CanReplay p w → NewRun p.network.graph.nodes x
    → Comparing p file 0 x w (length w.snapshots)
comparing_new {p} {file} {x} {w} kept can new =
    let u = underway_new p (most_rounds p.config.num_proposals) x w can.go new in
    record {
      first = w.snapshots;
      here = begin (planned p);
      underway = u;
      due = due_begin (planned p) can.go.begins.accepted;
      fresh = new.flood.all ∙ sym u.going.shows.standing.shots.number;
      fives = none;
      alike = agrees_none file kept;
      sized = refl;
    }

module _ {p : Plan} {file : List ℕ} {w₀ : Contents} (kept : layout file ≡ true) (can : CanReplay p w₀) {k : ℕ} {x : Run} {w : Contents}
    (c : Comparing p file k x w (length w₀.snapshots)) (more : k < most_rounds p.config.num_proposals) where
  abbrev g : Given
  g = planned p

  abbrev ok : Accepted g
  ok = can.go.begins.accepted

  -- the run that ends here
  ends_as : {r : Stopped} {v : Contents} {b : List ℕ} {s : Running} → run g ≡ record { running = s; ended = end_number r.ended } → Shows p r.run v b s
      → Steady g.heard p r.rounds r.run v → length s.rounds ≡ r.rounds → r.rounds ≤ most_rounds p.config.num_proposals
      → agrees file s.standing.shots.taken ≡ true → Alike p file r v
  ends_as {r} {v} {b} {s} e shows steady rounds few alike =
      record {
        first = b;
        over = record {
          shows = subst⁻¹ (λ (y : Ended). Shows p r.run v b y.running) e shows;
          rounds = ap (λ (y : Ended). length y.running.rounds) e ∙ rounds;
          ended = sym (ap (λ (y : Ended). y.ended) e);
        };
        steady = steady;
        few = few;
        alike = ap (λ (y : Ended). agrees file y.running.standing.shots.taken) e ∙ alike;
      }

  -- the slot limit is reached
  pub limit_reached : p.config.max_slots ≤ x.flood.slot.0 → Alike p file (record { run = x; rounds = k; last = None; ended = Some End.SlotLimit }) w
  limit_reached h =
      ends_as (limit_is c.underway more h) c.underway.going.shows c.underway.going.steady c.underway.going.rounds (omega arith) c.alike

  -- one round more
  module _ (below : x.flood.slot.0 < p.config.max_slots) {r : Next} {w' : Contents} (m : MovesOn p k x w r w') where
    abbrev next : Running
    next = run_round g k c.here

    going : Going p (k + 1) r.played.run w' c.first next
    going = m.going c.first c.here c.underway.going

    abbrev grown : Grown c.here.standing next.standing
    grown = grown_next g ok k c.here c.due

    abbrev before : List (List ℕ)
    before = c.here.standing.shots.taken

    from_is : x.flood.snapshots ≡ length before
    from_is = c.underway.going.shows.standing.shots.number

    to_is : r.played.run.flood.snapshots ≡ length before + length grown.more
    to_is = going.shows.standing.shots.number ∙ ap length grown.grows ∙ length-append before grown.more

    pub size_now : length w'.snapshots ≡ length w₀.snapshots
    size_now = same_size going.shows ∙ sym (same_size c.underway.going.shows) ∙ c.sized

    -- what the round took stands at the buffer's start
    stand : take (snapshot_size * length grown.more) w'.snapshots ≡ flatten grown.more
    unfolding snapshots_with
    stand =
        let b₀ = c.first in
        let shots = going.shows.standing.shots in
        let first_is : r.played.run.flood.first_stored ≡ length before = m.first ∙ c.fresh ∙ from_is in
        let new : drop r.played.run.flood.first_stored next.standing.shots.taken ≡ grown.more
        = ap₂ (λ (n : ℕ) (l : List (List ℕ)). drop n l) first_is grown.grows ∙ drop-append_seam before grown.more in
        let few : length grown.more ≤ snapshot_room b₀ = omega (arith, few_next g ok k c.here c.due, can.shots_room, size_now, same_size going.shows) in
        let whole : length (flatten grown.more) ≡ snapshot_size * length grown.more
        = subst (λ (l : List (List ℕ)). length (flatten l) ≡ snapshot_size * length l) new shots.whole in
        let stored : w'.snapshots ≡ sets b₀ 0 (flatten grown.more)
        = shots.stored ∙ ap (λ (l : List (List ℕ)). sets b₀ 0 (flatten (take (snapshot_room b₀) l))) new ∙ ap (λ (l : List (List ℕ)). sets b₀ 0 (flatten l)) (take_all (snapshot_room b₀) grown.more few) in
        ap₂ take (sym whole) (stored ∙ sets-eq (flatten grown.more) b₀ 0 (omega (arith, whole, few)))
        ∙ take-append_seam (flatten grown.more) _

    pub can_compare : (x.flood.snapshots ≤ r.played.run.flood.snapshots) × (snapshot_size * (r.played.run.flood.snapshots - x.flood.snapshots) ≤ length w'.snapshots)
    can_compare =
        (omega (arith, from_is, to_is), omega (arith, from_is, to_is, few_next g ok k c.here c.due, can.shots_room, size_now))

    -- what comparing it tells
    module _ {same : Bool}
        (told : same ≡ same_bytes (take (snapshot_bytes * taken (stored_in file) x.flood.snapshots r.played.run.flood.snapshots) (drop (snapshot_bytes * x.flood.snapshots) (section_in file 3)))
        (numbers_bytes (take (snapshot_size * taken (stored_in file) x.flood.snapshots r.played.run.flood.snapshots) w'.snapshots))) where
      agrees_now : agrees file next.standing.shots.taken ≡ same
      agrees_now =
          ap (agrees file) grown.grows
          ∙ agrees_more file kept c.fives (fives_behind before (subst Fives grown.grows (fives_next g k c.here c.fives))) w'.snapshots stand
          ∙ and_yes (agrees file before) _ c.alike
          ∙ sym (told ∙ ap₂ (λ (a b : ℕ). same_bytes (take (snapshot_bytes * taken (stored_in file) a b) (drop (snapshot_bytes * a) (section_in file 3)))
          (numbers_bytes (take (snapshot_size * taken (stored_in file) a b) w'.snapshots))) from_is to_is)

      fives_now : Fives next.standing.shots.taken
      fives_now = fives_next g k c.here c.fives

      due_now : DueIn g next
      due_now = due_next g ok k c.here c.due

      -- no end came, so it was not the last round that a run may have
      in_time : end_number r.ended ≡ 0 → k + 1 ≡ most_rounds p.config.num_proposals → ⊥
      in_time z e = end_in_time g k next (omega (arith, e)) (sym (m.ended c.first c.here c.underway.going) ∙ z)

      -- what was taken so far stays to the run's end
      grown_on : Grown next.standing (run g).running.standing
      grown_on =
          ⊎_elim
          (λ z.
          let none_came : end_number r.ended ≡ 0 = eqb-true (end_number r.ended) 0 z in
          let u = goes_on c.underway more below m none_came (in_time none_came) in
          subst (λ (y : Ended). Grown next.standing y.running.standing) u.rest (grown_through g ok (most_rounds p.config.num_proposals - (k + 1)) (k + 1) next due_now))
          (λ z. subst⁻¹ (λ (y : Ended). Grown next.standing y.running.standing) (run_is c.underway more below m (eqb-false (end_number r.ended) 0 z))
          (grown_none next.standing))
          (two (eqb (end_number r.ended) 0))

      pub differs : same ≡ false → agrees file (shots_in p) ≡ false
      differs e =
          ap (agrees file) grown_on.grows ∙ differs_on file kept fives_now (fives_behind next.standing.shots.taken (subst Fives grown_on.grows (fives_run g))) (agrees_now ∙ e)

      pub end_reached : same ≡ true → (end_number r.ended ≡ 0 → ⊥) → Alike p file (record { run = anew r.played.run; rounds = k + 1; last = None; ended = r.ended }) w'
      end_reached e q =
          ends_as (run_is c.underway more below m q) (shows_anew going.shows) (steady_anew going.steady) going.rounds (omega (arith, more)) (agrees_now ∙ e)

      pub compares_on : same ≡ true → end_number r.ended ≡ 0 → Comparing p file (k + 1) (anew r.played.run) w' (length w₀.snapshots)
      compares_on e z =
          record {
            first = w'.snapshots;
            here = next;
            underway = underway_anew (goes_on c.underway more below m z (in_time z));
            due = due_now;
            fresh = refl;
            fives = fives_now;
            alike = agrees_now ∙ e;
            sized = size_now;
          }
