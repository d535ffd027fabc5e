-- A run before its first round: every node listens, and nothing is held, logged or recorded. Assumes nothing.
use Rattle.std.specs.Prelude.{None}
use Prim.Native.Nat.{ℕ, zero, suc, ◌+◌, ◌-◌, ◌^◌, ◌≤◌, ◌<◌}
use mathlib.Core.Path.{◌≡◌, refl, sym, ap, subst⁻¹, ◌∙◌}
use mathlib.Core.Bool.{Bool, false, cond}
use mathlib.Core.List.{List, []}
use native.Mathlib.Nat.{zero-mul, le_refl}
use native.Mathlib.Omega.{arith}
use lib.Pow.{pow_pos}
use lib.ListN.{replicate, length-replicate, get_or-replicate}
use Rattle.config.specs.Limits.{max_nodes, max_terms}
use Rattle.random.specs.Table.{tabulate}
use Rattle.network.specs.Graph.{has, set_of}
use Rattle.network.proofs.Lowest.{has_zero}
use Rattle.random.proofs.Tables.{is_tabulate}
use Rattle.phy.specs.declared.node.Node.{Node}
use Rattle.phy.specs.declared.slot.Radios.{Radios}
use Rattle.phy.specs.Node.{new, total, is_listening, is_flooding}
use Rattle.phy.specs.Slot.{at, Standing}
use Rattle.phy.specs.View.{Stands}
use Rattle.phy.proofs.Count.{count_none}
use Rattle.phy.proofs.Snapshots.{scheduled_none}
use Rattle.protocol.specs.declared.state.PaxosState.{PaxosState}
use Rattle.protocol.specs.Paxos.{empty}
use Rattle.protocol.specs.View.{NoTerm, no_terms}
use Rattle.protocol.proofs.Kept.{first_view, first_kept, no_terms_none}
use Rattle.pipeline.proofs.Recordings.{starts_none_made}
use Rattle.pipeline.specs.declared.carry.Carry.{Carry}
use Rattle.pipeline.specs.Round.{recorded}
use Rattle.pipeline.specs.declared.records.History.{History}
use Rattle.pipeline.specs.View.{no_history, state_in, Blank, Recording, Sharing, states_of, records_of, shared_of, table_size}
use Rattle.rules.specs.Run.{Given, begin}
use Rattle.rules.proofs.Sums.{sum_new}
use Rattle.rounds.specs.Going.{NewRadios, NewRun}
use Rattle.rounds.proofs.Full.{full_set}

-- ---- sets

empty_set : (n : ℕ) (f : ℕ → Bool) → ((j : ℕ) → j < n → f j ≡ false) → set_of n f ≡ 0
unfolding set_of
empty_set zero f h = refl
empty_set (suc n) f h =
    ap (λ (b : Bool). set_of n f + cond b (2 ^ n) 0) (h n (omega arith))
    ∙ omega (arith, empty_set n f (λ j b. h j (omega arith)))

-- ---- the flood's part

new_at : (n j : ℕ) → j < n → at (replicate n new) j ≡ new
new_at n j h = get_or-replicate n j new new h

module _ (n listening : ℕ) (few : n ≤ max_nodes) (all : listening ≡ 2 ^ n - 1) where
  abbrev new_radios : Radios
  new_radios =
      record {
        awake = record { listening = listening; flooding = 0 };
        slots_listen = 0;
        slots_flood = 0;
        slots_sleep = 0;
        attempts = 0;
        successes = 0;
        slot = record { 0 = 0 };
        next_snapshot = record { 0 = 0 };
        snapshots = 0;
        first_stored = 0;
      }

  abbrev new_standing : ℕ → Standing
  new_standing m = record { nodes = replicate m new; attempts = 0; successes = 0; slot = 0; shots = record { next = 0; taken = [] } }

  stands : (b : List ℕ) → Stands n new_radios b b (new_standing n)
  stands b =
      record {
        listening = omega (arith, all, pow_pos n, full_set n (λ (j : ℕ). is_listening (at (replicate n new) j)) (λ j h. ap is_listening (new_at n j h)));
        flooding = sym (empty_set n (λ (j : ℕ). is_flooding (at (replicate n new) j)) (λ j h. ap is_flooding (new_at n j h)));
        listens = sym (sum_new (λ (v : Node). v.slots_listen) n n refl (le_refl n));
        floods = sym (sum_new (λ (v : Node). v.slots_flood) n n refl (le_refl n));
        sleeps = sym (sum_new (λ (v : Node). v.slots_sleep) n n refl (le_refl n));
        counted = λ j h. ap total (new_at n j h);
        attempts = refl;
        successes = refl;
        slot = refl;
        shots = scheduled_none b;
      }

  pub new_radios_lem : NewRadios n new_radios
  new_radios_lem =
      record {
        stands = λ g b e. subst⁻¹ (λ (m : ℕ). Stands n new_radios b b (new_standing m)) e (stands b);
        sound = λ g e low high i. record { few = omega (arith, e); repeats = (low, high); interval = i; attempts = omega arith; successes = omega arith; next = sym (zero-mul g.interval); stored = omega arith };
        first = refl;
        untried = refl;
        all = refl;
      }

-- ---- the nodes' part

-- a table of empty states, and an empty history, are blank
pub zeros_blank : (n : ℕ) {b : List PaxosState} → b ≡ replicate (table_size n) no_terms → Blank n b no_history
zeros_blank n e =
    subst⁻¹ (λ (b : List PaxosState). Blank n b no_history) e
    (record {
      room = length-replicate (table_size n) no_terms;
      each = λ j h. no_term (table_size n) j;
      started = record { unused = λ t h. starts_none_made max_terms t };
    })
  where
    no_term : (m j : ℕ) → NoTerm (state_in (replicate m no_terms) j)
    no_term zero j = record { pending = refl; logged = refl; last = refl }
    no_term (suc m) zero = no_terms_none
    no_term (suc m) (suc j) = no_term m j

module _ (n : ℕ) (few : n ≤ max_nodes) where
  abbrev new_carry : Carry
  new_carry = record { counter = 0; recorded = record { count = 0; terms = 0 }; piggyback = None; nacks = 0; piggybacks = 0 }

  module _ {b : List PaxosState} {t : History} (blank : Blank n b t) where
    recording : Recording new_carry.recorded t
    unfolding records_of recorded tabulate
    recording = record { few = sym (count_none max_terms (has 0) (λ t h. has_zero t)); known = λ t h. has_zero t }

    states_new : states_of n b ≡ replicate n empty
    unfolding states_of
    states_new =
        sym (is_tabulate n _ empty (replicate n empty) (length-replicate n empty)
        (λ j h. get_or-replicate n j empty empty h ∙ sym (first_view (blank.each j h))))

    new_shared : (g : Given) → g.nodes ≡ n → shared_of n new_carry b t ≡ (begin g).shared
    unfolding shared_of records_of tabulate
    new_shared g e = λ j. record {
      states = (states_new ∙ ap (λ (k : ℕ). replicate k empty) (sym e)) j;
      counter = 0;
      starts = [];
      records = [];
      piggyback = None;
      nacks = 0;
      piggybacks = 0;
    }

    new_sharing : Sharing n new_carry b t
    new_sharing =
        record {
          few = omega arith;
          kept = record { room = blank.room; each = λ j h. first_kept (blank.each j h) };
          started = blank.started;
          recording = recording;
          back = tt;
        }

  pub new_run : {flood : Radios} → NewRadios n flood → NewRun n (record { flood = flood; carry = new_carry; took_part = 0; progress = 0 })
  new_run f =
      record {
        flood = f;
        shared = λ g b t e blank. new_shared blank g e;
        sharing = λ b t blank. new_sharing blank;
        took_part = refl;
        progress = refl;
        nacks = refl;
        piggybacks = refl;
      }
