-- The values that the code's structs stand for, and what its functions promise of them.
use Rattle.std.specs.Prelude.{ℕ, suc, ◌+◌, ◌-◌, ◌*◌, ◌^◌, ◌≤◌, ◌<◌, Bool, true, cond, ◌&&◌, ◌≡◌, eqb, ltb, length, get_or, set, drop, Float}
use mathlib.Core.List.{List, [], ◌∷◌, flatten}
use Rattle.std.specs.Int.Bits.{bit_and, bit_or}
use Rattle.std.specs.Int.Count.{ones}
use Rattle.std.proofs.lemmas.List.Edits.{sets}
use Rattle.config.specs.Limits.{max_nodes, max_repeats, snapshot_size, count_bound}
use Rattle.network.specs.Graph.{has, set_of, all}
use Rattle.random.specs.Reception.{Source}
use Rattle.random.specs.declared.draws.Stream.{Stream}
use Rattle.phy.specs.declared.slot.Settings.{Settings}
use Rattle.phy.specs.declared.slot.Tried.{Tried}
use Rattle.phy.specs.declared.slot.Awake.{Awake}
use Rattle.phy.specs.declared.slot.Radios.{Radios}
use Rattle.phy.specs.declared.snapshot.Shown.{Shown}
use Rattle.phy.specs.declared.snapshot.Schedule.{Schedule}
use Rattle.phy.specs.declared.ci.Round.{Round}
use Rattle.phy.specs.declared.packet.Packet.{Packet}
use Rattle.phy.specs.declared.node.Node.{Node}
use Rattle.phy.specs.Limits.{slot_attempts}
use Rattle.phy.specs.Node.{total, is_listening, is_flooding}
use Rattle.phy.specs.Slot.{Setup, Tries, Shots, Standing, at, sum_of, receivers, attempt_all, take_while, slot_step}
use Rattle.phy.specs.Snapshots.{snapshots_with}
use Rattle.phy.specs.Round.{slots as slotsOfRound, round}

-- ---- the lent tables
-- what a round is lent: the queue of the flooding nodes, the stream of the draws, and the buffer of the snapshots
pub record Tables : Type 0 where
  pub queue : List ℕ
  pub stream : Stream
  pub snapshots : List ℕ

abbrev pub tables : List ℕ → Stream → List ℕ → Tables
tables queue stream snapshots = record { queue = queue; stream = stream; snapshots = snapshots }

-- ---- attempts
-- the setup of a run with these receptions
abbrev pub as_setup : Settings → List ℕ → (ℕ → Bool) → Setup
as_setup x rows heard =
    record { rows = rows; nodes = x.nodes; repeats = x.repeats; interval = x.interval; progress = x.progress; heard = heard }

abbrev pub tries_of : Tried → Tries
tries_of t = record { attempts = t.attempts; successes = t.successes; reached = t.reached }

-- r is t after attempts at the receivers js, of which there are at most k; the stream of the draws was w, and is w'
pub record TriedOn (rate : Float) (k : ℕ) (js : List ℕ) (t : Tried) (w : Stream) (r : Tried) (w' : Stream) : Type 0 where
  pub attempts : r.attempts ≤ t.attempts + k
  pub successes : r.successes ≤ t.successes + k
  pub tried : (heard : ℕ → Bool) → Source rate heard t.attempts w → tries_of r ≡ attempt_all heard (tries_of t) js
  pub source : (heard : ℕ → Bool) → Source rate heard t.attempts w → Source rate heard r.attempts w'

-- the receivers of the nodes that flood among those that listen
abbrev pub receivers_of : List ℕ → ℕ → Awake → List ℕ
receivers_of rows n awake = receivers rows (has awake.flooding) (has awake.listening) n n

-- a slot's attempts have room in the counters
pub record CanTry (n : ℕ) (awake : Awake) (t : Tried) : Type 0 where
  pub few : n ≤ max_nodes
  pub listeners : awake.listening < 2 ^ n
  pub flooders : awake.flooding < 2 ^ n
  pub attempts : t.attempts + slot_attempts < 2 ^ 64
  pub successes : t.successes + slot_attempts < 2 ^ 64

-- ---- snapshots
-- the five numbers of a snapshot of this slot
abbrev pub shot_of : Shown → ℕ → List ℕ
shot_of x slot = slot ∷ x.progress ∷ x.listening ∷ x.flooding ∷ x.sleeping ∷ []

abbrev pub shown_of : ℕ → ℕ → Awake → Shown
shown_of n progress awake =
    let listening : ℕ = ones awake.listening in
    let flooding : ℕ = ones awake.flooding in
    record { progress = progress; listening = listening; flooding = flooding; sleeping = n - listening - flooding }

-- a snapshot is stored after `count` others, if it fits whole
pub record Stores (count : ℕ) (shot b b' : List ℕ) : Type 0 where
  pub fits : snapshot_size * count + snapshot_size ≤ length b → b' ≡ sets b (snapshot_size * count) shot
  pub full : length b < snapshot_size * count + snapshot_size → b' ≡ b

-- The slot of the next snapshot and the count are those of the definitions. The buffer is b, and was b₀ before the snapshots from the number
-- `first` on were stored.
pub record Scheduled (first next count : ℕ) (b₀ b : List ℕ) (x : Shots) : Type 0 where
  pub due : next ≡ x.next
  pub number : count ≡ length x.taken
  pub stored : b ≡ snapshots_with b₀ (drop first x.taken)
  pub whole : length (flatten (drop first x.taken)) ≡ snapshot_size * length (drop first x.taken)

-- the snapshots that are due by this slot are taken, those at the multiples of the interval
pub record TakesDue (interval slot : ℕ) (seen : Shown) (first : ℕ) (y : Schedule) (b : List ℕ) (r : Schedule) (b' : List ℕ) : Type 0 where
  pub multiple : r.next.0 ≡ r.count * interval
  pub more : y.count ≤ r.count
  pub scheduled : (b₀ : List ℕ) (x : Shots) → Scheduled first y.next.0 y.count b₀ b x
      → Scheduled first r.next.0 r.count b₀ b' (take_while interval (shot_of seen) slot (suc slot) x)

-- ---- a slot
-- the nodes after a slot in which the nodes of a set heard, and after which the nodes of another have no repeats left
abbrev pub awake_after : ℕ → ℕ → Awake → Awake
awake_after done reached x =
    record {
      listening = x.listening - bit_and x.listening reached;
      flooding = bit_or (x.flooding - bit_and x.flooding done) (bit_and x.listening reached);
    }

-- the nodes at this place of the queue have no repeats left, and those that heard take their place
pub record Advances (place reached : ℕ) (x : Awake) (e : List ℕ) (r : Awake) (e' : List ℕ) : Type 0 where
  pub awake : r ≡ awake_after (get_or e place 0) reached x
  pub queue : e' ≡ set e place (bit_and x.listening reached)

-- the i-th place after p in a queue of so many places, whose first follows its last
abbrev pub place_after : ℕ → ℕ → ℕ → ℕ
place_after all p i = cond (ltb (p + i) all) (p + i) (p + i - all)

-- The queue of the flooding nodes, from place p on, has a place for each repeat: who floods and has i + 1 repeats left stands at the i-th.
pub record Queued (n repeats : ℕ) (e : List ℕ) (p : ℕ) (nodes : List Node) : Type 0 where
  pub place : p < repeats
  pub room : repeats ≤ length e
  pub left : (j : ℕ) → j < n → is_flooding (at nodes j) ≡ true → (1 ≤ (at nodes j).flood_remaining) × ((at nodes j).flood_remaining ≤ repeats)
  pub stand : (i j : ℕ) → i < repeats → j < n → has (get_or e (place_after repeats p i) 0) j ≡ is_flooding (at nodes j) && eqb (at nodes j).flood_remaining (i + 1)

-- The code stands at x, with the snapshots b, where the definitions stand at s. Before the first that is stored the buffer was b₀.
pub record Stands (n : ℕ) (x : Radios) (b₀ b : List ℕ) (s : Standing) : Type 0 where
  pub listening : x.awake.listening ≡ set_of n (λ (j : ℕ). is_listening (at s.nodes j))
  pub flooding : x.awake.flooding ≡ set_of n (λ (j : ℕ). is_flooding (at s.nodes j))
  -- the slots of all nodes in each state
  pub listens : x.slots_listen ≡ sum_of (λ (v : Node). v.slots_listen) s.nodes n
  pub floods : x.slots_flood ≡ sum_of (λ (v : Node). v.slots_flood) s.nodes n
  pub sleeps : x.slots_sleep ≡ sum_of (λ (v : Node). v.slots_sleep) s.nodes n
  -- every node has counted each slot once
  pub counted : (j : ℕ) → j < n → total (at s.nodes j) ≡ s.slot
  pub attempts : x.attempts ≡ s.attempts
  pub successes : x.successes ≡ s.successes
  pub slot : x.slot.0 ≡ s.slot
  pub shots : Scheduled x.first_stored x.next_snapshot.0 x.snapshots b₀ b s.shots

-- so it stands in a slot, with the queue from place p on
pub record InSlot (g : Settings) (p : ℕ) (x : Radios) (t : Tables) (b₀ : List ℕ) (s : Standing) : Type 0 where
  pub stands : Stands g.nodes x b₀ t.snapshots s
  pub queued : Queued g.nodes g.repeats t.queue p s.nodes

-- the stream is a source of some receptions, and the definitions stand somewhere
pub record Meets (g : Settings) (p : ℕ) (x : Radios) (t : Tables) : Type 0 where
  pub heard : ℕ → Bool
  pub source : Source g.rate heard x.attempts t.stream
  pub first : List ℕ
  pub standing : Standing
  pub here : InSlot g p x t first standing

-- What holds between slots: the counters have room, and the snapshots taken are those at the multiples of the interval.
pub record Sound (g : Settings) (x : Radios) : Type 0 where
  pub few : g.nodes ≤ max_nodes
  pub repeats : (1 ≤ g.repeats) × (g.repeats ≤ max_repeats)
  pub interval : 1 ≤ g.interval
  pub attempts : x.attempts ≤ slot_attempts * x.slot.0
  pub successes : x.successes ≤ slot_attempts * x.slot.0
  pub next : x.next_snapshot.0 ≡ x.snapshots * g.interval
  pub stored : x.first_stored ≤ x.snapshots

-- From x, with the queue from place p on, the code came to r in one slot, and what held between slots holds again. For all receptions that
-- the stream is a source of, it still is one, and the code stands where the slot of the definitions leads.
pub record Stepped (g : Settings) (rows : List ℕ) (p : ℕ) (x : Radios) (t : Tables) (r : Radios) (t' : Tables) : Type 0 where
  pub sound : Sound g r
  pub slots : r.slot.0 ≡ x.slot.0 + 1
  pub first : r.first_stored ≡ x.first_stored
  pub source : (heard : ℕ → Bool) → Source g.rate heard x.attempts t.stream → Source g.rate heard r.attempts t'.stream
  pub stands : (heard : ℕ → Bool) → Source g.rate heard x.attempts t.stream
      → (b₀ : List ℕ) (s : Standing) → InSlot g p x t b₀ s
      → InSlot g (place_after g.repeats p 1) r t' b₀ (slot_step (as_setup g rows heard) s)

-- The same of the slots of a round, of which there are at most so many; the queue begins at place 0.
pub record Slotted (g : Settings) (rows : List ℕ) (longest : ℕ) (x : Radios) (t : Tables) (r : Radios) (t' : Tables) : Type 0 where
  pub sound : Sound g r
  pub slots : r.slot.0 ≤ x.slot.0 + longest
  pub first : r.first_stored ≡ x.first_stored
  pub room : g.repeats ≤ length t'.queue
  pub source : (heard : ℕ → Bool) → Source g.rate heard x.attempts t.stream → Source g.rate heard r.attempts t'.stream
  pub stands : (heard : ℕ → Bool) → Source g.rate heard x.attempts t.stream
      → (b₀ : List ℕ) (s : Standing) → InSlot g 0 x t b₀ s
      → Stands g.nodes r b₀ t'.snapshots (slotsOfRound (as_setup g rows heard) longest s)

-- ---- a round
-- all nodes listen but the initiator
abbrev pub begun_flood : ℕ → ℕ → Radios → Radios
begun_flood n first x =
    record {
      awake = record { listening = 2 ^ n - 1 - 2 ^ first; flooding = 2 ^ first };
      slots_listen = x.slots_listen;
      slots_flood = x.slots_flood;
      slots_sleep = x.slots_sleep;
      attempts = x.attempts;
      successes = x.successes;
      slot = x.slot;
      next_snapshot = x.next_snapshot;
      snapshots = x.snapshots;
      first_stored = x.first_stored;
    }

-- what beginning a round needs
pub record CanBegin (g : Settings) (first : ℕ) : Type 0 where
  pub few : g.nodes ≤ max_nodes
  pub node : first < g.nodes
  pub repeats : (1 ≤ g.repeats) × (g.repeats ≤ max_repeats)

-- the initiator stands at the last place of the queue
pub record Begins (g : Settings) (first : ℕ) (x : Radios) (e : List ℕ) (r : Radios) (e' : List ℕ) : Type 0 where
  pub flood : r ≡ begun_flood g.nodes first x
  pub queue : e' ≡ set e (g.repeats - 1) (2 ^ first)

-- the first places of a queue are empty
pub record Emptied (count : ℕ) (e e' : List ℕ) : Type 0 where
  pub size : length e' ≡ length e
  pub empty : (i : ℕ) → i < count → get_or e' i 0 ≡ 0

-- what a round is given: the stream is a source of some receptions, and the definitions stand somewhere
pub record CanFlood (g : Settings) (longest initiator : ℕ) (x : Radios) (t : Tables) : Type 0 where
  pub sound : Sound g x
  pub node : initiator < g.nodes
  pub early : x.slot.0 + longest < count_bound
  pub room : g.repeats ≤ length t.queue
  pub heard : ℕ → Bool
  pub source : Source g.rate heard x.attempts t.stream
  pub first : List ℕ
  pub standing : Standing
  pub stands : Stands g.nodes x first t.snapshots standing

-- From x the code came to r in a round, of at most so many slots. For all receptions that the stream is a source of, it still is one, and the
-- code stands where the round of the definitions leads, whichever packet it floods.
pub record Rounded (g : Settings) (rows : List ℕ) (longest initiator : ℕ) (x : Radios) (t : Tables) (r : Round) (t' : Tables) : Type 0 where
  pub sound : Sound g r.flood
  pub slots : r.flood.slot.0 ≤ x.slot.0 + longest
  pub first : r.flood.first_stored ≡ x.first_stored
  pub room : g.repeats ≤ length t'.queue
  pub source : (heard : ℕ → Bool) → Source g.rate heard x.attempts t.stream → Source g.rate heard r.flood.attempts t'.stream
  pub stands : (heard : ℕ → Bool) → Source g.rate heard x.attempts t.stream
      → (packet : Packet) (b₀ : List ℕ) (s : Standing) → Stands g.nodes x b₀ t.snapshots s
      → Stands g.nodes r.flood b₀ t'.snapshots (round (as_setup g rows heard) longest initiator packet s).after
      × (r.part ≡ (round (as_setup g rows heard) longest initiator packet s).part)
