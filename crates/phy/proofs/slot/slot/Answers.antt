use Rattle.std.proofs.Common.{refl, arith}
use Rattle.phy.specs.View.{tables}
use Rattle.phy.proofs.Slots.{awake_few, listening_lt, flooding_lt}
use Rattle.phy.proofs.Steps.{few_slots, slot_stands}
use Rattle.phy.proofs.slot.slot.Goals as goal

pub shown-seen-requires : goal.shown-seen-requires
shown-seen-requires c =
    let met = c.requires.2 in
    awake_few c.args.settings.nodes met.standing.nodes c.args.x.awake met.here.stands.listening met.here.stands.flooding

pub attempts-tried-requires : goal.attempts-tried-requires
attempts-tried-requires c =
    let sound = c.requires.0 in
    let nodes = c.requires.2.standing.nodes in
    let stands = c.requires.2.here.stands in
    let x = c.args.x in
    let n = c.args.settings.nodes in
    record {
      few = sound.few;
      listeners = listening_lt n nodes x.awake stands.listening stands.flooding;
      flooders = flooding_lt n nodes x.awake stands.listening stands.flooding;
      attempts = omega (arith, sound.attempts);
      successes = omega (arith, sound.successes);
    }

-- the slots of all nodes in each state have room for one more
pub overflow_add-result : goal.overflow_add-result
overflow_add-result c = record { fits = (few_slots c.args.settings.nodes c.requires.0.few c.requires.1 c.requires.2.here.stands c.shown-seen.ensures).0 }

pub overflow_add-result-2 : goal.overflow_add-result-2
overflow_add-result-2 c = record { fits = (few_slots c.args.settings.nodes c.requires.0.few c.requires.1 c.requires.2.here.stands c.shown-seen.ensures).1 }

pub overflow_add-result-3 : goal.overflow_add-result-3
overflow_add-result-3 c = record { fits = (few_slots c.args.settings.nodes c.requires.0.few c.requires.1 c.requires.2.here.stands c.shown-seen.ensures).2 }

pub returns : goal.returns
returns c =
    let a = c.args in
    let sound = c.requires.0 in
    let tried = c.attempts-tried in
    let taken = c.take_snapshots-taken in
    let adv = c.advance-awake in
    record {
      sound = record {
        few = sound.few;
        repeats = sound.repeats;
        interval = sound.interval;
        attempts = omega (arith, sound.attempts, sound.few, tried.ensures.attempts);
        successes = omega (arith, sound.successes, sound.few, tried.ensures.successes);
        next = taken.ensures.multiple;
        stored = omega (arith, sound.stored, taken.ensures.more);
      };
      slots = refl;
      first = refl;
      source = tried.ensures.source;
      stands = λ heard source b₀ s here.
          slot_stands a.settings a.rows.now heard a.place a.x (tables a.queue.now a.stream.now a.snapshots.now) b₀ s here c.shown-seen.result c.shown-seen.ensures
          taken.result _ taken.ensures tried.result (tried.ensures.tried heard source) adv.result _ adv.ensures _;
    }
