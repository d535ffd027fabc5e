-- One round of the code beside one of the definitions. Assumes nothing.
use Prim.Native.Nat.{ℕ, ◌+◌, ◌*◌, ◌%◌, ◌≤◌, ◌<◌}
use mathlib.Core.Path.{◌≡◌, sym, ap, ap₂, subst, ◌∙◌}
use mathlib.Core.List.{List}
use native.Mathlib.Nat.{mod-lt}
use native.Mathlib.Omega.{arith}
use lib.Count.{ones}
use Rattle.config.specs.Limits.{max_terms, max_nodes, most_rounds}
use Rattle.network.proofs.Sets.{has_set_of}
use Rattle.phy.specs.declared.ci.Round.{Round}
use Rattle.phy.specs.declared.slot.Radios.{Radios}
use Rattle.phy.specs.declared.slot.Settings.{Settings}
use Rattle.phy.specs.Round.{Flooded, length_limit, participants, took_part_of, round}
use Rattle.phy.specs.View.{Tables, Sound, Stands, Rounded, as_setup}
use Rattle.phy.proofs.Nodes.{count_cong, ones_set_of}
use Rattle.protocol.specs.declared.state.PaxosState.{PaxosState}
use Rattle.pipeline.specs.declared.records.History.{History}
use Rattle.pipeline.specs.declared.carry.Carry.{Carry}
use Rattle.pipeline.specs.declared.round.PreparedRound.{PreparedRound}
use Rattle.pipeline.specs.Round.{Prepared, prepare_round, process_round}
use Rattle.pipeline.specs.View.{shared_of, Prepares, Processes}
use Rattle.rules.specs.Accepted.{Accepted}
use Rattle.rules.specs.Run.{Given, Running, prepared_in, flooded_in, run_round}
use Rattle.rules.proofs.Rounds.{longest_few, took_part_few}
use Rattle.rounds.specs.declared.run.Plan.{Plan}
use Rattle.rounds.specs.declared.run.Run.{Run}
use Rattle.rounds.specs.Going.{planned, settings_of, Contents, contents_of, lent_of, Shows, Steady, Going, Plays}

-- how many nodes took part, counted in the word
ones_part : (g : Given) (k : ℕ) (r : Running) → ones (flooded_in g k r).part ≡ took_part_of g.nodes (flooded_in g k r)
unfolding round participants
ones_part g k r = ones_set_of g.nodes _ ∙ count_cong g.nodes _ _ (λ j h. sym (has_set_of g.nodes _ j h))

-- what holds between slots does not speak of the progress
sound_as : (p : Plan) (m q : ℕ) {x : Radios} → Sound (settings_of p m) x → Sound (settings_of p q) x
sound_as p m q s =
    record { few = s.few; repeats = s.repeats; interval = s.interval; attempts = s.attempts; successes = s.successes; next = s.next; stored = s.stored }

module _ {p : Plan} {k : ℕ} {x : Run} {w : Contents} {b₀ : List ℕ} {s₀ : Running}
    (ok : Accepted (planned p)) (early : k < most_rounds max_terms) (g₀ : Going p k x w b₀ s₀) where
  abbrev given : Given
  given = planned p

  initiator_in : k % p.network.graph.nodes < p.network.graph.nodes
  initiator_in = mod-lt k (omega (arith, ok.two))

  abbrev longest : ℕ
  longest = length_limit p.config.round_slots p.network.diameter p.config.flood_repeats

  -- what the four calls of a round give
  module _ {prepared : PreparedRound} {b : List PaxosState} {t : History}
      (pr : Prepares p.network.graph.nodes p.config.num_proposals (record { 0 = k % p.network.graph.nodes }) x.flood.slot x.carry w.states w.history prepared b t)
    where
      module _ {y : Settings} {most : ℕ} {flooded : Round} {l : Tables} {carry : Carry} {b' : List PaxosState} {t' : History} (q : y ≡ settings_of p x.progress) (e : most ≡ longest)
          (fl₀ : Rounded y p.network.graph.rows most (k % p.network.graph.nodes) x.flood (lent_of w) flooded l)
          (pc : Processes p.network.graph.nodes prepared.packet flooded.flood.slot flooded.part prepared.carry b t carry b' t')
          {size : ℕ} (sized : size ≡ ones flooded.part) where
        fl : Rounded (settings_of p x.progress) p.network.graph.rows most (k % p.network.graph.nodes) x.flood (lent_of w) flooded l
        fl = subst (λ (z : Settings). Rounded z p.network.graph.rows most (k % p.network.graph.nodes) x.flood (lent_of w) flooded l) q fl₀

        abbrev after : Run
        after = record { flood = flooded.flood; carry = carry; took_part = x.took_part + size; progress = x.progress }

        abbrev then : Contents
        then = contents_of l.queue l.stream b' t' l.snapshots

        -- beside the round of the definitions
        module _ {b₁ : List ℕ} {s : Running} (g : Going p k x w b₁ s) where
          abbrev mine : Prepared
          mine = prepare_round p.network.graph.nodes p.config.num_proposals (k % p.network.graph.nodes) x.flood.slot.0 (shared_of p.network.graph.nodes x.carry w.states w.history)

          same : mine ≡ prepared_in given k s
          same = ap₂ (prepare_round p.network.graph.nodes p.config.num_proposals (k % p.network.graph.nodes)) g.shows.standing.slot g.shows.shared

          packet_is : prepared.packet ≡ (prepared_in given k s).packet
          packet_is = ◌∙◌ {b = mine.packet} pr.packet (ap (λ (q : Prepared). q.packet) same)

          abbrev here : Flooded
          here = round (as_setup (settings_of p x.progress) p.network.graph.rows given.heard) most (k % p.network.graph.nodes) prepared.packet s.standing

          flood_is : here ≡ flooded_in given k s
          flood_is = λ j.
              round
              (record { rows = p.network.graph.rows; nodes = p.network.graph.nodes; repeats = p.config.flood_repeats; interval = p.config.snapshot_interval; progress = g.progress j; heard = given.heard })
              (e j) (k % p.network.graph.nodes) (packet_is j) s.standing

          stood : Stands p.network.graph.nodes flooded.flood b₁ l.snapshots here.after × (flooded.part ≡ here.part)
          stood = fl.stands given.heard g.steady.source prepared.packet b₁ s.standing g.shows.standing

          part_is : flooded.part ≡ (flooded_in given k s).part
          part_is = ◌∙◌ {b = here.part} stood.1 (ap (λ (f : Flooded). f.part) flood_is)

          took_part_is : size ≡ took_part_of p.network.graph.nodes (flooded_in given k s)
          took_part_is = sized ∙ ap ones part_is ∙ ones_part given k s

          shows : Shows p after then b₁ (run_round given k s)
          unfolding run_round
          shows =
              let standing : Stands p.network.graph.nodes flooded.flood b₁ l.snapshots (flooded_in given k s).after
              = subst (λ (f : Flooded). Stands p.network.graph.nodes flooded.flood b₁ l.snapshots f.after) flood_is stood.0 in
              let before : shared_of p.network.graph.nodes prepared.carry b t ≡ (prepared_in given k s).shared
              = ◌∙◌ {b = mine.shared} pr.shared (ap (λ (q : Prepared). q.shared) same) in
              record {
                standing = standing;
                shared = pc.shared ∙ (λ j. process_round p.network.graph.nodes (packet_is j) (standing.slot j) (part_is j) (before j));
                took_part = ap₂ ◌+◌ g.shows.took_part took_part_is;
              }

        took_part_fits : x.took_part + size ≤ max_nodes * (k + 1)
        took_part_fits = omega (arith, took_part_is g₀, took_part_few p.network.graph.nodes (flooded_in given k s₀), ok.few, g₀.steady.took_part)

        steady : Steady given.heard p (k + 1) after then
        steady =
            let few = longest_few p.config.round_slots p.network.diameter p.config.flood_repeats ok.round_slots ok.diameter_low ok.repeats_high in
            record {
              sound = sound_as p x.progress 0 fl.sound;
              sharing = pc.sharing;
              source = fl.source given.heard g₀.steady.source;
              room = fl.room;
              slots = omega (arith, fl.slots, g₀.steady.slots, e, few);
              took_part = took_part_fits;
              nacks = omega (arith, pc.nacks, pr.nacks, g₀.steady.nacks);
              piggybacks = omega (arith, pc.piggybacks, pr.piggybacks, g₀.steady.piggybacks, ok.few);
            }

        pub round_plays : Plays p k x w (record { run = after; round = record { packet = prepared.packet; part = flooded.part } }) then
        round_plays = record { steady = steady; shows = λ b₁ s g. shows g; round = λ b₁ s g i. record { packet = packet_is g i; part = part_is g i }; first = fl.first }
