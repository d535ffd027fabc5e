use Rattle.std.proofs.Common.{ℕ, Bool, ap, ◌∙◌, None, arith}
use Rattle.random.specs.Reception.{Source}
use Rattle.phy.specs.declared.packet.Packet.{Packet}
use Rattle.phy.specs.declared.slot.Radios.{Radios}
use Rattle.phy.specs.Round.{round}
use Rattle.phy.specs.View.{CanBegin}
use Rattle.phy.proofs.RoundEnds.{opens, delivered_stands, delivered_part}
use Rattle.phy.proofs.ci.flood_identical_round.Goals as goal

-- the flood is that of any packet; so of this one
abbrev no_packet : Packet
no_packet =
    record {
      current_term = record { 0 = 0 };
      last_accepted_term = None;
      flags_bitmap = 0;
      nack_term = None;
      sender = record { 0 = 0 };
      proposal_data = None;
      piggyback = None;
    }

pub slots-ended-requires : goal.slots-ended-requires
slots-ended-requires c =
    let a = c.args in
    let pre = c.requires in
    let sound = pre.sound in
    let opened = c.begin_round-x.ensures in
    let can : CanBegin a.settings a.initiator.0 = record { few = sound.few; node = pre.node; repeats = sound.repeats } in (
      rw opened.flood (record { few = sound.few; repeats = sound.repeats; interval = sound.interval; attempts = sound.attempts; successes = sound.successes; next = sound.next; stored = sound.stored }),
      rw opened.flood pre.early,
      record {
        heard = pre.heard;
        source = rw opened.flood pre.source;
        first = pre.first;
        standing = _;
        here = opens a.settings a.initiator.0 no_packet can pre.room c.empty_queue.ensures opened pre.stands;
      },
    )

pub returns : goal.returns
unfolding round
returns c =
    let a = c.args in
    let pre = c.requires in
    let run = c.slots-ended.ensures in
    let n = a.settings.nodes in
    let first = a.initiator.0 in
    let opened = c.begin_round-x.ensures in
    let can : CanBegin a.settings first = record { few = pre.sound.few; node = pre.node; repeats = pre.sound.repeats } in
    -- attempts and slots are as they were
    let source : (heard : ℕ → Bool) → Source a.settings.rate heard a.flood.attempts a.stream.now → Source a.settings.rate heard c.begin_round-x.result.attempts a.stream.now
    = λ heard s. rw opened.flood s in
    record {
      sound = run.sound;
      slots = omega (arith, run.slots, ap (λ (z : Radios). z.slot.0) opened.flood);
      first = run.first ∙ ap (λ (z : Radios). z.first_stored) opened.flood;
      room = run.room;
      source = λ heard s. run.source heard (source heard s);
      stands = λ heard s packet b₀ standing st.
          let there = opens a.settings first packet can pre.room c.empty_queue.ensures opened st in
          let here = run.stands heard (source heard s) b₀ _ there in
          (delivered_stands n first packet _ b₀ _ _ here, c.participants.ensures ∙ delivered_part n first packet _ b₀ _ _ here);
    }
