-- A run of the code between rounds: its first round, one round more, and its ends. Assumes nothing.
use Prim.Native.Nat.{ℕ, suc, ◌+◌, ◌-◌, ◌*◌, ◌≤◌, ◌<◌}
use mathlib.Core.Path.{◌≡◌, refl, sym, ap, subst⁻¹, ◌∙◌}
use mathlib.Core.Bool.{Bool, true, false, cond, ◌&&◌, true≢false}
use mathlib.Core.List.{List}
use mathlib.Core.Logic.{◌⊎◌, ⊎_elim}
use native.Mathlib.Nat.{le_refl}
use native.Mathlib.Numerals.{add-one}
use native.Mathlib.Omega.{arith}
use lib.Dec.{leb, eqb, ltb}
use lib.ListN.{length, get_elem?}
use borrow.Author.Tests.{le-leb, lt-leb, eqb-true, eqb-false, eq-eqb, ne_eqb}
use Rattle.config.specs.Limits.{max_terms, extra_rounds}
use Rattle.random.specs.Reception.{Source}
use Rattle.random.proofs.Stream.{source_begins}
use Rattle.random.proofs.Tables.{length_tabulate}
use Rattle.phy.proofs.Snapshots.{length_with_lem}
use Rattle.protocol.specs.Paxos.{State}
use Rattle.protocol.proofs.Kept.{kept_mono}
use Rattle.pipeline.specs.Round.{Shared, shortest_log}
use Rattle.pipeline.specs.View.{AllKept, states_of, records_of, record_at, shared_of}
use Rattle.rules.specs.declared.answer.End.{End}
use Rattle.rules.specs.Answers.{end_number}
use Rattle.rules.specs.Run.{Given, Running, Ended, begin, run_round, complete, end_after, rounds_from, run_for}
use Rattle.rules.proofs.Ends.{from_limit, from_next, from_end, shortest_new}
use Rattle.network.proofs.Sets.{two}
use Rattle.rules.proofs.FirstRounds.{elem_beyond, newest}
use Rattle.rules.proofs.Rounds.{rounds_more}
use Rattle.rounds.specs.declared.run.Plan.{Plan}
use Rattle.rounds.specs.declared.run.Run.{Run}
use Rattle.rounds.specs.declared.run.Played.{Played}
use Rattle.rounds.specs.declared.run.Next.{Next}
use Rattle.std.specs.Prelude.{Option, Some, None, is_some}
use Rattle.std.specs.Bool.{then_some}
use Rattle.rounds.specs.declared.run.Stopped.{Stopped}
use Rattle.rounds.specs.declared.run.Workspace.{Workspace}
use Rattle.rounds.specs.declared.survey.Surveyed.{Surveyed}
use Rattle.rounds.specs.Going.{planned, settings_of, Contents, Shows, Steady, Going, Plays, MovesOn, Surveys, CanGo, last_round, Underway, Goes, NewRun, SameTables}

-- ---- what the code shows

module _ {p : Plan} {x : Run} {w : Contents} {b₀ : List ℕ} {s : Running} (u : Shows p x w b₀ s) where
  pub states_are : states_of p.network.graph.nodes w.states ≡ s.shared.states
  unfolding shared_of
  states_are = ap (λ (y : Shared). y.states) u.shared

  pub count_is : x.carry.recorded.count ≡ length s.shared.records
  unfolding records_of shared_of
  count_is =
      sym (length_tabulate x.carry.recorded.count (record_at w.history)) ∙ ap (λ (y : Shared). length y.records) u.shared

  -- the snapshots' buffer is as long as it was
  pub same_size : length w.snapshots ≡ length b₀
  same_size = ap length u.standing.shots.stored ∙ length_with_lem _ _

pub kept_all : {heard : ℕ → Bool} {p : Plan} {k : ℕ} {x : Run} {w : Contents} → Steady heard p k x w → AllKept max_terms p.network.graph.nodes w.states
kept_all u = record { room = u.sharing.kept.room; each = λ j h. kept_mono u.sharing.few (le_refl max_terms) (u.sharing.kept.each j h) }

-- the progress is what snapshots show, and no more
abbrev pub showing : ℕ → Run → Run
showing m x = record { flood = x.flood; carry = x.carry; took_part = x.took_part; progress = m }

module _ {p : Plan} {x : Run} {w : Contents} {m : ℕ} where
  shows_as : {b₀ : List ℕ} {s : Running} → Shows p x w b₀ s → Shows p (showing m x) w b₀ s
  shows_as u = record { standing = u.standing; shared = u.shared; took_part = u.took_part }

  steady_as : {heard : ℕ → Bool} {k : ℕ} → Steady heard p k x w → Steady heard p k (showing m x) w
  steady_as u =
      record {
        sound = u.sound;
        sharing = u.sharing;
        source = u.source;
        room = u.room;
        slots = u.slots;
        took_part = u.took_part;
        nacks = u.nacks;
        piggybacks = u.piggybacks;
      }

-- ---- before the first round

pub underway_new : (p : Plan) (most : ℕ) (x : Run) (w : Contents) → CanGo p most w → NewRun p.network.graph.nodes x
    → Underway p most 0 x w w.snapshots (begin (planned p))
unfolding run_for
underway_new p most x w can new =
    let g : Given = planned p in
    let ok = can.begins.accepted in
    let c = p.config in
    let all : most - 0 ≡ most = omega arith in
    record {
      going = record {
        shows = record {
          standing = new.flood.stands g w.snapshots refl;
          shared = new.shared g w.states w.history refl can.begins.blank;
          took_part = new.took_part;
        };
        steady = record {
          sound = new.flood.sound (settings_of p 0) refl ok.repeats_low ok.repeats_high ok.interval;
          sharing = new.sharing w.states w.history can.begins.blank;
          source = subst⁻¹ (λ (k : ℕ). Source c.loss_rate g.heard k w.stream) new.flood.untried
              (source_begins c.loss_rate c.seed w.stream can.stream);
          room = can.room;
          slots = omega (arith, new.flood.first);
          took_part = omega (arith, new.took_part);
          nacks = omega (arith, new.nacks);
          piggybacks = omega (arith, new.piggybacks);
        };
        rounds = refl;
        progress = new.progress ∙ sym (shortest_new p.network.graph.nodes);
      };
      rest = ap (λ (m : ℕ). rounds_from g m 0 (begin g)) all;
      in_time = omega arith;
    }

-- ---- one round more

-- the round as it was played, with what the survey of the logs saw
module _ {p : Plan} {k : ℕ} {x : Run} {w : Contents} {r : Played} {w' : Contents} (pl : Plays p k x w r w')
    {logs : Surveyed} (seen : Surveys p.network.graph.nodes p.config.num_proposals w'.states logs) where
  abbrev told : ℕ
  told = cond logs.complete 1 (cond (eqb r.run.carry.recorded.count p.config.num_proposals && ltb (p.config.num_proposals + 5 * p.network.diameter) k) 2 (cond (ltb (p.config.num_proposals + extra_rounds) k) 3 0))

  pub moves_on : {end : Option End} → end_number end ≡ told → MovesOn p k x w (record { played = record { run = showing logs.shortest r.run; round = r.round }; ended = end }) w'
  unfolding end_after
  moves_on e =
      record {
        going = λ b₀ s g.
            let shown = pl.shows b₀ s g in
            record {
              shows = shows_as shown;
              steady = steady_as pl.steady;
              rounds = rounds_more (planned p) k s ∙ ap (λ (m : ℕ). m + 1) g.rounds;
              progress = seen.shortest ∙ ap (λ (y : List State). shortest_log y p.network.graph.nodes) (states_are shown);
            };
        round = pl.round;
        ended = λ b₀ s g.
            let shown = pl.shows b₀ s g in
            e ∙ λ i.
            cond ((seen.complete ∙ ap (complete p.network.graph.nodes p.config.num_proposals) (states_are shown)) i) 1
            (cond (eqb (count_is shown i) p.config.num_proposals && ltb (p.config.num_proposals + 5 * p.network.diameter) k) 2 (cond (ltb (p.config.num_proposals + extra_rounds) k) 3 0));
        first = pl.first;
      }

-- the tables after a round more are those that were lent
pub still_same : {a b c : Workspace} → SameTables a b → SameTables b c → SameTables a c
still_same x y = record { states = y.states ∙ x.states; history = y.history ∙ x.history; snapshots = y.snapshots ∙ x.snapshots }

-- ---- the ends

-- an end that has come has a number of its own
pub end_came : (e : Option End) → is_some e ≡ true → end_number e ≡ 0 → ⊥
end_came None h z = true≢false (sym h)
end_came (Some End.LogsComplete) h z = omega (arith, z)
end_came (Some End.AllRecorded) h z = omega (arith, z)
end_came (Some End.RoundLimit) h z = omega (arith, z)
end_came (Some End.SlotLimit) h z = omega (arith, z)

-- and 0 stands for none
pub no_end_came : (e : Option End) → is_some e ≡ false → end_number e ≡ 0
no_end_came None h = refl
no_end_came (Some e) h = absurd (true≢false h)

module _ {p : Plan} {most : ℕ} {b₀ : List ℕ} where
  -- the run of the definitions came to e, and so did the code
  goes_as : {r : Stopped} {w : Contents} (e : Ended) → run_for (planned p) most ≡ e → Shows p r.run w b₀ e.running → Steady (planned p).heard p r.rounds r.run w
      → length e.running.rounds ≡ r.rounds → r.last ≡ last_round (get_elem? e.running.rounds (most - 1)) → end_number r.ended ≡ e.ended → r.rounds ≤ most → Goes p most r b₀ w
  goes_as {r} {w} e q shows steady rounds last ended few =
      record {
        shows = subst⁻¹ (λ (y : Ended). Shows p r.run w b₀ y.running) q shows;
        steady = steady;
        rounds = ap (λ (y : Ended). length y.running.rounds) q ∙ rounds;
        last = last ∙ sym (ap (λ (y : Ended). last_round (get_elem? y.running.rounds (most - 1))) q);
        ended = ended ∙ sym (ap (λ (y : Ended). y.ended) q);
        few = few;
      }

  module _ {k : ℕ} {x : Run} {w : Contents} {here : Running} (u : Underway p most k x w b₀ here) where
    -- a round that was not run
    unrun : (r : Running) (m : ℕ) → length r.rounds ≡ m → m ≤ most - 1 → None ≡ last_round (get_elem? r.rounds (most - 1))
    unrun r m e h = sym (ap last_round (elem_beyond r.rounds (most - 1) (omega (arith, e))))

    -- no round is left
    pub used_up : most ≤ k → Goes p most (record { run = x; rounds = k; last = None; ended = None }) b₀ w
    unfolding rounds_from
    used_up h =
        let none : most - k ≡ 0 = omega arith in
        goes_as (record { running = here; ended = 0 }) (sym u.rest ∙ ap (λ (m : ℕ). rounds_from (planned p) m k here) none)
        u.going.shows u.going.steady u.going.rounds (unrun here k u.going.rounds u.in_time) refl (omega (arith, u.in_time))

    module _ (more : k < most) where
      from_here : rounds_from (planned p) (suc (most - (k + 1))) k here ≡ run_for (planned p) most
      from_here = let left : most - k ≡ suc (most - (k + 1)) = omega arith in ap (λ (m : ℕ). rounds_from (planned p) m k here) (sym left) ∙ u.rest

      -- the slot limit is reached
      pub limit_is : p.config.max_slots ≤ x.flood.slot.0 → run_for (planned p) most ≡ record { running = here; ended = 4 }
      limit_is h =
          sym from_here
          ∙ from_limit (planned p) (most - (k + 1)) k here (le-leb (planned p).limit here.standing.slot (omega (arith, u.going.shows.standing.slot)))

      pub at_limit : p.config.max_slots ≤ x.flood.slot.0 → Goes p most (record { run = x; rounds = k; last = None; ended = Some End.SlotLimit }) b₀ w
      at_limit h =
          goes_as (record { running = here; ended = 4 }) (limit_is h)
          u.going.shows u.going.steady u.going.rounds (unrun here k u.going.rounds u.in_time) refl (omega (arith, u.in_time))

      -- after one round more
      module _ (below : x.flood.slot.0 < p.config.max_slots) {r : Next} {w' : Contents} (m : MovesOn p k x w r w') where
        abbrev next : Running
        next = run_round (planned p) k here

        going : Going p (k + 1) r.played.run w' b₀ next
        going = m.going b₀ here u.going

        under : leb (planned p).limit here.standing.slot ≡ false
        under = lt-leb (planned p).limit here.standing.slot (omega (arith, u.going.shows.standing.slot))

        end_is : end_number r.ended ≡ end_after (planned p) k next
        end_is = m.ended b₀ here u.going

        -- the round that was run
        ran : k ≡ most - 1 → Some r.played.round ≡ last_round (get_elem? next.rounds (most - 1))
        ran e =
            ap Some (m.round b₀ here u.going)
            ∙ sym (ap (λ (i : ℕ). last_round (get_elem? next.rounds i)) (sym (u.going.rounds ∙ e)) ∙ ap last_round (newest (planned p) k here))

        -- an end came
        pub run_is : (end_number r.ended ≡ 0 → ⊥) → run_for (planned p) most ≡ record { running = next; ended = end_number r.ended }
        run_is q =
            sym from_here
            ∙ from_end (planned p) (most - (k + 1)) k here under (ap (λ (e : ℕ). eqb e 0) (sym end_is) ∙ ne_eqb (end_number r.ended) 0 q)
            ∙ ap (λ (e : ℕ). record { running = next; ended = e }) (sym end_is)

        -- and it was not the last round that might be run
        at_end : (end_number r.ended ≡ 0 → ⊥) → (k + 1 ≡ most → ⊥) → Goes p most (record { run = r.played.run; rounds = k + 1; last = None; ended = r.ended }) b₀ w'
        at_end q other =
            goes_as (record { running = next; ended = end_number r.ended }) (run_is q) going.shows going.steady going.rounds
            (unrun next (k + 1) going.rounds (omega (arith, more, other))) refl (omega (arith, more))

        -- it was, whether an end came or not
        at_last : k + 1 ≡ most → Goes p most (record { run = r.played.run; rounds = k + 1; last = Some r.played.round; ended = r.ended }) b₀ w'
        unfolding rounds_from
        at_last used =
            let none_left : most - (k + 1) ≡ 0 = omega (arith, used) in
            goes_as (record { running = next; ended = end_number r.ended })
            (⊎_elim
            (λ z. sym from_here
            ∙ from_next (planned p) (most - (k + 1)) k here under (eq-eqb (end_after (planned p) k next) 0 (sym end_is ∙ eqb-true (end_number r.ended) 0 z))
            ∙ ap (λ (m : ℕ). rounds_from (planned p) m (suc k) next) none_left
            ∙ ap (λ (e : ℕ). record { running = next; ended = e }) (sym (eqb-true (end_number r.ended) 0 z)))
            (λ z. run_is (eqb-false (end_number r.ended) 0 z))
            (two (eqb (end_number r.ended) 0)))
            going.shows going.steady going.rounds (ran (omega (arith, used))) refl (omega (arith, more))

        -- an end came, or no round is left
        pub at_stop : (end_number r.ended ≡ 0 → ⊥) ⊎ (k + 1 ≡ most) → Goes p most (record { run = r.played.run; rounds = k + 1; last = then_some (eqb (k + 1) most) r.played.round; ended = r.ended }) b₀ w'
        at_stop h = go (eqb (k + 1) most) refl
          where
            go : (b : Bool) → eqb (k + 1) most ≡ b → Goes p most (record { run = r.played.run; rounds = k + 1; last = then_some b r.played.round; ended = r.ended }) b₀ w'
            go true e = at_last (eqb-true (k + 1) most e)
            go false e = let other = eqb-false (k + 1) most e in at_end (⊎_elim (λ q. q) (λ used. absurd (other used)) h) other

        pub goes_on : end_number r.ended ≡ 0 → (k + 1 ≡ most → ⊥) → Underway p most (k + 1) r.played.run w' b₀ next
        goes_on z other =
            record {
              going = going;
              rest =
                  ap (λ (m : ℕ). rounds_from (planned p) (most - (k + 1)) m next) (add-one k)
                  ∙ sym (from_next (planned p) (most - (k + 1)) k here under (eq-eqb _ 0 (sym end_is ∙ z)))
                  ∙ from_here;
              in_time = omega (arith, more, other);
            }
