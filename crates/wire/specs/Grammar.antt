-- Which packets have a text, and what it is (rules 15.1 to 15.4). A packet goes with its number of flags n.
use Rattle.std.specs.Prelude.{ℕ, ◌+◌, ◌*◌, ◌^◌, Bool, true, false, ◌&&◌, List, [], ◌∷◌, ◌++◌, map, leb, ltb, eqb, Option, Some, None}
use Rattle.config.specs.Limits.{min_nodes, max_nodes, max_terms}
use Rattle.random.specs.Table.{tabulate}
use Rattle.network.specs.Graph.{has}
use Rattle.network.specs.declared.units.Term.{Term}
use Rattle.phy.specs.declared.packet.Piggyback.{Piggyback}
use Rattle.phy.specs.declared.packet.Packet.{Packet}
use Rattle.text.specs.Text.{ascii, spelled}

-- ---- which packets have a text

-- the last accepted term is none, or below 64
abbrev pub last_accepted_fits : Option Term → Bool
last_accepted_fits None = true
last_accepted_fits (Some t) = ltb t.0 max_terms

-- a NACK is none, or a term above 0 and below 64
abbrev pub nack_fits : Option Term → Bool
nack_fits None = true
nack_fits (Some t) = leb 1 t.0 && ltb t.0 max_terms

-- data is empty, or that of the term
abbrev pub data_fits : Term → Option Term → Bool
data_fits t None = true
data_fits t (Some u) = eqb u.0 t.0

-- a piggyback is none, or a term below 64 and data that is empty or that of its own term
abbrev pub piggyback_fits : Option Piggyback → Bool
piggyback_fits None = true
piggyback_fits (Some again) = ltb again.term.0 max_terms && data_fits again.term again.«data»

-- n is 2 to 32, no flag stands at or above n, and the sender is below n
abbrev pub flags_fit : ℕ → Packet → Bool
flags_fit n p = leb min_nodes n && leb n max_nodes && ltb p.flags_bitmap (2 ^ n) && ltb p.sender.0 n

-- every term is below 64, a NACK is none or above 0, and data is empty or that of its term
abbrev pub terms_fit : Packet → Bool
terms_fit p =
    ltb p.current_term.0 max_terms && last_accepted_fits p.last_accepted_term && nack_fits p.nack_term
    && data_fits p.current_term p.proposal_data && piggyback_fits p.piggyback

unfoldable pub has_text : ℕ → Packet → Bool
has_text n p = flags_fit n p && terms_fit p

-- ---- the text

-- the data of a term: `tx` and the term in decimal
unfoldable pub data_bytes : ℕ → List ℕ
data_bytes t = ascii "tx" ++ spelled t

-- items behind the first, each with a comma in front of it
unfoldable pub behind_commas : List (List ℕ) → List ℕ
behind_commas [] = []
behind_commas (item ∷ items) = ascii "," ++ item ++ behind_commas items

-- items in brackets, with commas between them
unfoldable pub array : List (List ℕ) → List ℕ
array [] = ascii "[]"
array (item ∷ items) = ascii "[" ++ item ++ behind_commas items ++ ascii "]"

abbrev pub flag_text : Bool → List ℕ
flag_text true = ascii "true"
flag_text false = ascii "false"

-- the flags of nodes 0 to n - 1
unfoldable pub flags_text : ℕ → ℕ → List ℕ
flags_text n s = array (tabulate n (λ i. flag_text (has s i)))

-- a term, or `null`
abbrev pub last_accepted_text : Option Term → List ℕ
last_accepted_text None = ascii "null"
last_accepted_text (Some t) = spelled t.0

-- the term of a NACK, or 0 where there is none
abbrev pub nack_number : Option Term → ℕ
nack_number None = 0
nack_number (Some t) = t.0

-- the bytes of the data, each in decimal
unfoldable pub data_text : Option Term → List ℕ
data_text None = array []
data_text (Some t) = array (map spelled (data_bytes t.0))

-- a piggyback's term and data, or `null` and no data
unfoldable pub piggyback_text : Option Piggyback → List ℕ
piggyback_text None = ascii "null" ++ ascii ",\"piggyback_data\":" ++ data_text None
piggyback_text (Some again) = spelled again.term.0 ++ ascii ",\"piggyback_data\":" ++ data_text again.«data»

-- the fields up to the sender
unfoldable pub header_text : ℕ → Packet → List ℕ
header_text n p =
    ascii "{\"current_term\":" ++ spelled p.current_term.0
    ++ ascii ",\"last_accepted_term\":" ++ last_accepted_text p.last_accepted_term
    ++ ascii ",\"flags_bitmap\":" ++ flags_text n p.flags_bitmap
    ++ ascii ",\"nack_term\":" ++ spelled (nack_number p.nack_term)
    ++ ascii ",\"sender\":" ++ spelled p.sender.0

-- the fields behind the sender, and the closing brace
unfoldable pub body_text : Packet → List ℕ
body_text p =
    ascii ",\"proposal_data\":" ++ data_text p.proposal_data
    ++ ascii ",\"piggyback_term\":" ++ piggyback_text p.piggyback ++ ascii "}"

-- the text of a packet with n flags
unfoldable pub packet_text : ℕ → Packet → List ℕ
packet_text n p = header_text n p ++ body_text p

-- How many bytes each part has at most. A number of the text is below 100; the bare numbers are the lengths of the words in between.
abbrev pub small_most : ℕ
small_most = 2

abbrev pub null_most : ℕ
null_most = 4

-- a flag, and the bracket or comma in front of it
abbrev pub flag_most : ℕ
flag_most = 6

abbrev pub flags_most : ℕ
flags_most = max_nodes * flag_most + 1

-- a digit of a term's data, with a comma in front of it
abbrev pub digit_most : ℕ
digit_most = 1 + small_most

-- `[116,120`, two digits and the bracket
abbrev pub data_most : ℕ
data_most = 8 + small_most * digit_most + 1

abbrev pub piggyback_most : ℕ
piggyback_most = small_most + 18 + data_most

abbrev pub header_most : ℕ
header_most = 16 + small_most + 22 + null_most + 16 + flags_most + 13 + small_most + 10 + small_most

abbrev pub body_most : ℕ
body_most = 17 + data_most + 18 + piggyback_most + 1

-- the longest text
abbrev pub text_most : ℕ
text_most = header_most + body_most
