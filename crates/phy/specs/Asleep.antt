-- Who reaches sleep in a round, by its length limit (rules 4.3 to 4.11 and 12.5), whatever is lost in it.
use Rattle.std.specs.Prelude.{ℕ, ◌+◌, ◌^◌, ◌≤◌, ◌<◌, ◌≡◌, true, false}
use Rattle.phy.specs.declared.packet.Packet.{Packet}
use Rattle.phy.specs.Node.{is_sleeping}
use Rattle.phy.specs.Slot.{Setup, Standing, at}
use Rattle.phy.specs.Round.{Flooded, round}

-- In the round r from s on its initiator a floods in as many slots as the repeats say, listens in none and sleeps at the end; so the round
-- has at least so many slots.
pub record InitiatorSlept (repeats a : ℕ) (s : Standing) (r : Flooded) : Type 0 where
  pub asleep : is_sleeping (at r.after.nodes a) ≡ true
  pub listened : (at r.after.nodes a).slots_listen ≡ (at s.nodes a).slots_listen
  pub flooded : (at r.after.nodes a).slots_flood ≡ (at s.nodes a).slots_flood + repeats
  pub length : s.slot + repeats ≤ r.after.slot

-- It is so in every round whose limit is at least the repeats.
abbrev pub InitiatorSleeps : Type 0
InitiatorSleeps =
    (g : Setup) (longest a : ℕ) (packet : Packet) (s : Standing) →
    a < g.nodes → 1 ≤ g.repeats → g.repeats ≤ longest →
    InitiatorSlept g.repeats a s (round g longest a packet s)

-- In the round r from s on none of n nodes reaches sleep or sleeps in a slot; its initiator a alone took part, and it goes on to its limit.
pub record NobodySlept (n longest a : ℕ) (s : Standing) (r : Flooded) : Type 0 where
  pub awake : (j : ℕ) → j < n → is_sleeping (at r.after.nodes j) ≡ false
  pub slept : (j : ℕ) → j < n → (at r.after.nodes j).slots_sleep ≡ (at s.nodes j).slots_sleep
  pub part : r.part ≡ 2 ^ a
  pub length : r.after.slot ≡ s.slot + longest

-- It is so in every round whose limit is below the repeats.
abbrev pub NobodySleeps : Type 0
NobodySleeps =
    (g : Setup) (longest a : ℕ) (packet : Packet) (s : Standing) →
    a < g.nodes → longest < g.repeats →
    NobodySlept g.nodes longest a s (round g longest a packet s)
