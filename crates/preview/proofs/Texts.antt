-- Every packet that a look ahead shows has a text. Assumes nothing.
use Prim.Native.Nat.{ℕ, ◌≤◌}
use mathlib.Core.Bool.{true}
use mathlib.Core.Option as maybe
use Rattle.std.specs.Prelude.{Option, Some, None, Ok}
use mathlib.Core.Path.{◌≡◌, refl, subst}
use native.Mathlib.Omega.{arith}
use borrow.Author.Tests.{eq-eqb, le-leb, lt-ltb}
use lib.ListN.{get_elem?}
use Rattle.config.specs.Limits.{min_nodes, max_nodes, max_terms}
use Rattle.network.specs.declared.units.Term.{Term}
use Rattle.config.specs.declared.refusal.Refusal.{Refusal}
use Rattle.phy.specs.declared.packet.Packet.{Packet}
use Rattle.phy.specs.declared.packet.Piggyback.{Piggyback}
use Rattle.protocol.specs.Growth.{own_data, own_back}
use Rattle.protocol.specs.View.{last_below, back_below}
use Rattle.rules.specs.Accepted.{Accepted}
use Rattle.rules.specs.Entries.{given_for}
use Rattle.rules.specs.Questions.{refusal_for}
use Rattle.rules.specs.Run.{Given, Past, run}
use Rattle.rules.specs.SentPackets.{nack_below, SentPacket}
use Rattle.rules.proofs.Admitted.{accepted_for}
use Rattle.rules.proofs.SentPackets.{all_sent}
use Rattle.wire.specs.Grammar.{last_accepted_fits, nack_fits, data_fits, piggyback_fits, has_text}
use Rattle.wire.proofs.Fitting.{has_text_lem}
use Rattle.preview.specs.Preview.{preview_as, preview_in, preview_unless, preview_for, SeenHaveTexts}

-- ---- a packet that a run of n nodes may send has a text

last_fits : (last : Option Term) → last_below max_terms last → last_accepted_fits last ≡ true
last_fits None h = refl
last_fits (Some t) h = lt-ltb t.0 max_terms h

nack_fits_lem : (asked : Option Term) → nack_below max_terms asked → nack_fits asked ≡ true
nack_fits_lem None h = refl
nack_fits_lem (Some t) h = rw (le-leb 1 t.0 h.0, lt-ltb t.0 max_terms h.1)

own_fits : (t : Term) (d : Option Term) → own_data t.0 d → data_fits t d ≡ true
own_fits t None h = refl
own_fits t (Some u) h = eq-eqb u.0 t.0 h

back_fits : (back : Option Piggyback) → back_below max_terms back → own_back back → piggyback_fits back ≡ true
back_fits None h own = refl
back_fits (Some again) h own = rw (lt-ltb again.term.0 max_terms h.0, own) (eq-eqb again.term.0 again.term.0 refl)

sent_text : {n : ℕ} {p : Packet} → min_nodes ≤ n → n ≤ max_nodes → SentPacket n p → has_text n p ≡ true
sent_text {n} {p} least most s =
    has_text_lem n p (record { least = least; most = most; set = s.flags; sender = s.sender })
    (record {
      current = s.current;
      last = last_fits p.last_accepted_term s.last;
      nack = nack_fits_lem p.nack_term s.nack;
      own = own_fits p.current_term p.proposal_data s.own.proposal;
      again = back_fits p.piggyback s.back s.own.back;
    })

-- ---- and so has every packet that is seen

pub seen_have_texts : SeenHaveTexts
unfolding preview_for preview_in
seen_have_texts q c k seen e = asked (refusal_for q c) refl e
  where
    g : Given
    g = given_for q c

    found : Accepted g → (o : maybe.Option Past) → get_elem? (run g).running.rounds k ≡ o → preview_as o ≡ Ok seen → has_text g.nodes seen.packet ≡ true
    found a maybe.none w e = absurd (let z : ◌≡◌ {A = ℕ} 0 1 = cc in omega arith)
    found a (maybe.some p) w e =
        let packet : p.packet ≡ seen.packet = cc in
        subst (λ (x : Packet). has_text g.nodes x ≡ true) packet (sent_text a.two a.few (all_sent g a k p w))

    asked : (o : Option Refusal) → refusal_for q c ≡ o → preview_unless o g k ≡ Ok seen → has_text g.nodes seen.packet ≡ true
    asked None passes e = found (accepted_for q c passes) (get_elem? (run g).running.rounds k) refl e
    asked (Some question) passes e = absurd (let z : ◌≡◌ {A = ℕ} 0 1 = cc in omega arith)
