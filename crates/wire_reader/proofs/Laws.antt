-- How the writer and the reader of packets belong together: what is written is read, what is read is written, and texts tell packets apart.
-- Assumes nothing.
use Prim.Native.Nat.{ℕ, ◌^◌, ◌≤◌, ◌<◌}
use mathlib.Core.Path.{◌≡◌, refl, sym, ap, ◌∙◌}
use mathlib.Core.Bool.{Bool, true, false, cond, ◌&&◌}
use Rattle.std.specs.Prelude.{Option, None, Some, Result, Ok, Err}
use mathlib.Core.List.{List, [], ◌∷◌, ◌++◌, append_assoc, append-nil}
use native.Mathlib.Omega.{arith}
use lib.Dec.{leb}
use lib.ListN.{length, take}
use lib.Seq.{sets}
use borrow.Author.Tests.{le-leb, leb-true}
use Rattle.config.specs.declared.refusal.Refusal.{Refusal}
use Rattle.config.specs.Limits.{min_nodes, max_nodes, max_terms}
use Rattle.network.specs.Graph.{set_of}
use Rattle.network.proofs.Sets.{and_both}
use Rattle.phy.specs.declared.packet.Packet.{Packet}
use Rattle.text.proofs.Overlays.{front_is}
use Rattle.text.specs.Text.{ascii, spelled, spelled_in}
use Rattle.text.specs.Numeral.{digit}
use Rattle.wire.specs.Grammar.{last_accepted_fits, nack_fits, data_fits, piggyback_fits, has_text, data_bytes, behind_commas, array, flags_text, last_accepted_text, nack_number, data_text, piggyback_text, header_text, body_text, packet_text}
use Rattle.wire_reader.specs.Reader.{behind, give, ◌>>=◌, behind_word, ◌or_else◌, below, second_digit, number, last_accepted, flag, flags_in, counted, flags, data_of, piggyback, header, body, packet_of, packet}
use Rattle.wire.specs.Writing.{writing}
use Rattle.wire_reader.specs.Reading.{nothing_behind, reading, ExactlyTheTexts, WhatIsWrittenIsRead, WhatIsReadIsWritten, TextsTellApart}
use Rattle.wire_reader.specs.declared.fields.Header.{Header}
use Rattle.wire_reader.specs.declared.fields.Body.{Body}
use Rattle.wire.proofs.Fitting.{fitting, has_text_lem, nack_low}
use Rattle.wire_reader.proofs.Words.{word_reads, bind_reads, field_reads, Only, give_finds, word_finds, bind_finds, field_finds}
use Rattle.wire_reader.proofs.Digits.{stops, number_reads, number_only}
use Rattle.wire_reader.proofs.Flags.{flags_read, flags_only}
use Rattle.wire_reader.proofs.Parts.{last_accepted_reads, last_accepted_only, nack_number_lem, nack_fits_lem, number_nack, data_reads, data_only, piggyback_reads, piggyback_only}

-- ---- which packets have a text, as facts

record HeaderFits (h : Header) : Type 0 where
  least : min_nodes ≤ h.flags
  most : h.flags ≤ max_nodes
  set : h.flags_bitmap < 2 ^ h.flags
  from : h.sender.0 < h.flags
  current : h.current_term.0 < max_terms
  last : last_accepted_fits h.last_accepted_term ≡ true
  asked : nack_fits h.nack_term ≡ true

-- the body of a packet whose header is h
record BodyFits (h : Header) (b : Body) : Type 0 where
  own : data_fits h.current_term b.proposal_data ≡ true
  again : piggyback_fits b.piggyback ≡ true

fits_both : (h : Header) (b : Body) → has_text h.flags (packet_of h b) ≡ true → HeaderFits h × BodyFits h b
fits_both h b e =
    let (flags, terms) = fitting h.flags (packet_of h b) e in (
      record {
        least = flags.least;
        most = flags.most;
        set = flags.set;
        from = flags.sender;
        current = terms.current;
        last = terms.last;
        asked = terms.nack;
      },
      record { own = terms.own; again = terms.again },
    )

both_fit : (h : Header) (b : Body) → HeaderFits h → BodyFits h b → has_text h.flags (packet_of h b) ≡ true
both_fit h b f g =
    has_text_lem h.flags (packet_of h b) (record { least = f.least; most = f.most; set = f.set; sender = f.from })
    (record { current = f.current; last = f.last; nack = f.asked; own = g.own; again = g.again })

-- ---- the header

-- its text, which does not depend on the body
abbrev text_of : Header → List ℕ
text_of h = header_text h.flags (packet_of h (record { proposal_data = None; piggyback = None }))

-- the same, read from the front
regroup : (current last flags asked sender t : List ℕ)
    → ascii "{\"current_term\":" ++ current ++ ascii ",\"last_accepted_term\":" ++ last ++ ascii ",\"flags_bitmap\":" ++ flags
    ++ ascii ",\"nack_term\":" ++ asked ++ ascii ",\"sender\":" ++ sender ++ t
    ≡ ascii "{\"current_term\":" ++ (current ++ (ascii ",\"last_accepted_term\":" ++ (last ++ (ascii ",\"flags_bitmap\":" ++ (flags
    ++ (ascii ",\"nack_term\":" ++ (asked ++ (ascii ",\"sender\":" ++ (sender ++ t)))))))))
regroup current last flags asked sender t = simp append_assoc

header_reads : (h : Header) (t : List ℕ) → HeaderFits h → stops t ≡ true → header (text_of h ++ t) ≡ Some (h, t)
unfolding header header_text give stops ascii digit
header_reads h t f e =
    ap header
    (regroup (spelled h.current_term.0) (last_accepted_text h.last_accepted_term) (flags_text h.flags h.flags_bitmap)
    (spelled (nack_number h.nack_term)) (spelled h.sender.0) t)
    ∙ field_reads _ _ _ _ (number_reads max_terms _ _ (omega arith) f.current refl)
    ∙ field_reads _ _ _ _ (last_accepted_reads h.last_accepted_term _ f.last refl)
    ∙ field_reads _ _ _ _ (flags_read _ _ _ f.least f.most f.set)
    ∙ field_reads _ _ _ _ (number_reads max_terms _ _ (omega arith) (nack_low h.nack_term f.asked) refl)
    ∙ field_reads _ _ _ _ (number_reads h.flags h.sender.0 t (omega arith) f.from e)
    ∙ rw (nack_number_lem h.nack_term f.asked)

header_only : Only header HeaderFits text_of
unfolding header header_text
header_only =
    field_finds _ _ _ _ spelled (number_only max_terms) (λ current c.
    field_finds _ _ _ _ last_accepted_text last_accepted_only (λ last l.
    field_finds _ _ _ _ (λ (s, n). flags_text n s) flags_only (λ (s, n) f.
    field_finds _ _ _ _ spelled (number_only max_terms) (λ asked a.
    field_finds _ _ _ _ spelled (number_only n) (λ sender b.
    give_finds _ _ (λ t. (
      record { least = f.0; most = f.1; set = f.2; from = b; current = c; last = l; asked = nack_fits_lem asked a },
      rw (number_nack asked) (sym (regroup (spelled current) (last_accepted_text last) (flags_text n s) (spelled asked) (spelled sender) t)),
    )))))))

-- ---- the body

body_reads : (h : Header) (b : Body) (t : List ℕ) → BodyFits h b → body h.current_term (body_text (packet_of h b) ++ t) ≡ Some (b, t)
unfolding body body_text give
body_reads h b t f =
    simp append_assoc
    (field_reads _ _ _ _ (data_reads _ _ _ f.own)
    ∙ field_reads _ _ _ _ (piggyback_reads _ _ f.again)
    ∙ word_reads _ _ _)

body_only : (h : Header) → Only (body h.current_term) (BodyFits h) (λ b. body_text (packet_of h b))
unfolding body body_text
body_only h =
    field_finds _ _ _ _ data_text (data_only h.current_term) (λ own o.
    field_finds _ _ _ _ piggyback_text piggyback_only (λ again a.
    word_finds _ _ _ (give_finds _ _ (λ t. (record { own = o; again = a }, simp append_assoc)))))

body_stops : (p : Packet) (t : List ℕ) → stops (body_text p ++ t) ≡ true
unfolding body_text stops ascii digit
body_stops p t = refl

-- ---- the packet

parts_read : (h : Header) (b : Body) (t : List ℕ)
    → HeaderFits h → BodyFits h b → packet (packet_text h.flags (packet_of h b) ++ t) ≡ Some ((packet_of h b, h.flags), t)
unfolding packet packet_text header_text give
parts_read h b t f g =
    let p = packet_of h b in
    ap packet (append_assoc (text_of h) (body_text p) t)
    ∙ bind_reads _ _ _ (header_reads h (body_text p ++ t) f (body_stops p t))
    ∙ bind_reads _ _ _ (body_reads h b t g)

packet_reads : (p : Packet) (n : ℕ) (t : List ℕ) → has_text n p ≡ true → packet (packet_text n p ++ t) ≡ Some ((p, n), t)
packet_reads p n t e = let (f, g) = fits_both h b e in parts_read h b t f g
  where
    h : Header
    h = record {
      current_term = p.current_term;
      last_accepted_term = p.last_accepted_term;
      flags_bitmap = p.flags_bitmap;
      flags = n;
      nack_term = p.nack_term;
      sender = p.sender;
    }

    b : Body
    b = record { proposal_data = p.proposal_data; piggyback = p.piggyback }

packet_only : Only packet (λ (p, n). has_text n p ≡ true) (λ (p, n). packet_text n p)
unfolding packet packet_text header_text
packet_only =
    bind_finds _ _ _ text_of header_only (λ h f.
    bind_finds _ _ _ (λ b. body_text (packet_of h b)) (body_only h) (λ b g.
    give_finds _ _ (λ t. (both_fit h b f g, simp append_assoc))))

-- ---- the laws

-- a packet's text is read as the packet
text_reads : (p : Packet) (n : ℕ) → has_text n p ≡ true → reading (packet_text n p) ≡ Ok (p, n)
unfolding reading
text_reads p n e = ap nothing_behind (ap packet (sym (append-nil (packet_text n p))) ∙ packet_reads p n [] e)

-- and nothing else is read
reading_only : (t : List ℕ) (p : Packet) (n : ℕ) → reading t ≡ Ok (p, n) → (has_text n p ≡ true) × (t ≡ packet_text n p)
unfolding reading
reading_only t p n e =
    let found = packet_only t (p, n) [] (case (packet t) e) in
    (found.0, found.1 ∙ append-nil (packet_text n p))
  where
    case : (o : Option ((Packet × ℕ) × List ℕ)) → nothing_behind o ≡ Ok (p, n) → o ≡ Some ((p, n), [])
    case None e = cc
    case (Some ((q, m), [])) e = cc
    case (Some ((q, m), b ∷ u)) e = cc

pub exactly_the_texts : ExactlyTheTexts
exactly_the_texts t p n = (reading_only t p n, λ both. ap reading both.1 ∙ text_reads p n both.0)

pub what_is_written_is_read : WhatIsWrittenIsRead
unfolding writing
what_is_written_is_read p n out size e = case (has_text n p && leb (length text) (length out)) refl e
  where
    text : List ℕ
    text = packet_text n p

    answer : Bool → Result ℕ Refusal × List ℕ
    answer q = cond q (Ok (length text), sets out 0 text) (Err Refusal.NoText, out)

    case : (q : Bool) → has_text n p && leb (length text) (length out) ≡ q → (answer q).0 ≡ Ok size
        → reading (take size (answer q).1) ≡ Ok (p, n)
    case true q e =
        let (fits, room) = and_both (has_text n p) (leb (length text) (length out)) q in
        let whole-text : length text ≡ size = cc in
        rw (← whole-text, front_is out text (leb-true (length text) (length out) room)) (text_reads p n fits)
    case false q e = cc

pub what_is_read_is_written : WhatIsReadIsWritten
unfolding writing
what_is_read_is_written t p n e out room =
    let (fits, text) = reading_only t p n e in
    rw (← text, fits, le-leb (length t) (length out) room)

pub texts_tell_apart : TextsTellApart
texts_tell_apart p q n m e e' same =
    let read = text_reads p n e in
    let read' = text_reads q m e' in
    let both : ◌≡◌ {A = Packet × ℕ} (p, n) (q, m) = cc in
    (ap (λ z. z.0) both, ap (λ z. z.1) both)

-- ---- an example, by computation

pub the_example : reading
    (ascii "{\"current_term\":0,\"last_accepted_term\":null,\"flags_bitmap\":[true,false],\"nack_term\":0,\"sender\":0,\"proposal_data\":[116,120,48],\"piggyback_term\":null,\"piggyback_data\":[]}")
    ≡ Ok (
      record {
        current_term = record { 0 = 0 };
        last_accepted_term = None;
        flags_bitmap = 1;
        nack_term = None;
        sender = record { 0 = 0 };
        proposal_data = Some (record { 0 = 0 });
        piggyback = None;
      },
      2,
    )
unfolding reading packet header body piggyback data_of flags counted flags_in flag last_accepted number second_digit below ◌or_else◌ behind_word ◌>>=◌
    give behind set_of data_text data_bytes array behind_commas ascii spelled spelled_in digit
the_example = refl
