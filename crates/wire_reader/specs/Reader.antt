-- Reading a packet from its text, field by field (rule 15.5).
use Rattle.std.specs.Prelude.{ℕ, zero, suc, ◌+◌, ◌*◌, Bool, true, false, cond, ◌&&◌, List, [], ◌∷◌, leb, ltb, eqb, length, get_or, Option, Some, None}
use Prim.Native.String.{String}
use Rattle.config.specs.Limits.{min_nodes, max_nodes, max_terms}
use Rattle.network.specs.Graph.{set_of}
use Rattle.network.specs.declared.units.Term.{Term}
use Rattle.phy.specs.declared.packet.Piggyback.{Piggyback}
use Rattle.phy.specs.declared.packet.Packet.{Packet}
use Rattle.text.specs.Text.{ascii}
use Rattle.text.specs.Numeral.{digit}
use Rattle.wire.specs.Grammar.{data_text}
use Rattle.wire_reader.specs.declared.fields.Header.{Header}
use Rattle.wire_reader.specs.declared.fields.Body.{Body}

-- A reader finds a value at the front of a text, and what stands behind it; or it finds none.
abbrev pub Reader : Type 0 → Type 0
Reader A = List ℕ → Option (A × List ℕ)

-- what stands behind the word, where the word is at the front
unfoldable pub behind : List ℕ → List ℕ → Option (List ℕ)
behind [] t = Some t
behind (b ∷ word) [] = None
behind (b ∷ word) (c ∷ t) = cond (eqb c b) (behind word t) None

-- ---- readers one after the other

-- this value, and nothing is taken
unfoldable pub give : {A : Type 0} → A → Reader A
give a t = Some (a, t)

-- read on behind a value
abbrev pub onward : {A B : Type 0} → (A → Reader B) → Option (A × List ℕ) → Option (B × List ℕ)
onward next None = None
onward next (Some (a, t)) = next a t

unfoldable pub ◌>>=◌ : {A B : Type 0} → Reader A → (A → Reader B) → Reader B
(first >>= next) t = onward next (first t)

-- read on behind a word
abbrev pub beyond : {A : Type 0} → Reader A → Option (List ℕ) → Option (A × List ℕ)
beyond next None = None
beyond next (Some t) = next t

unfoldable pub behind_word : {A : Type 0} → List ℕ → Reader A → Reader A
behind_word word next t = beyond next (behind word t)

abbrev pub ◌>>◌ : {A : Type 0} → String → Reader A → Reader A
word >> next = behind_word (ascii word) next

-- the first reader that finds a value
abbrev pub otherwise : {A : Type 0} → Option (A × List ℕ) → Option (A × List ℕ) → Option (A × List ℕ)
otherwise None other = other
otherwise (Some found) other = Some found

unfoldable pub ◌or_else◌ : {A : Type 0} → Reader A → Reader A → Reader A
(first or_else second) t = otherwise (first t) (second t)

infixl 10 ◌>>=◌
infixr 10 ◌>>◌
infixr 5 ◌or_else◌
-- ---- the values

-- a digit of base 10
unfoldable pub decimal_digit : Reader ℕ
decimal_digit [] = None
decimal_digit (b ∷ t) = cond (ltb (digit b) 10) (Some (digit b, t)) None

-- n, where it is below the bound
unfoldable pub below : ℕ → ℕ → Reader ℕ
below bound n t = cond (ltb n bound) (Some (n, t)) None

-- behind a number's first digit d: a second digit, but for a number that begins with 0
unfoldable pub second_digit : ℕ → ℕ → Reader ℕ
second_digit bound d [] = below bound d []
second_digit bound d (b ∷ t) = cond (ltb 0 d && ltb (digit b) 10) (below bound (10 * d + digit b) t) (below bound d (b ∷ t))

-- A number below the bound in decimal, which has at most two digits and no 0 in front.
unfoldable pub number : ℕ → Reader ℕ
number bound [] = None
number bound (a ∷ t) = cond (ltb (digit a) 10) (second_digit bound (digit a) t) None

-- a term
abbrev pub term : Reader ℕ
term = number max_terms

-- the last accepted term, or `null`
unfoldable pub last_accepted : Reader (Option Term)
last_accepted = ("null" >> give None) or_else (term >>= λ t. give (Some (record { 0 = t })))

unfoldable pub flag : Reader Bool
flag = ("true" >> give true) or_else ("false" >> give false)

-- one to `most` flags, as far as the closing bracket
unfoldable pub flags_in : ℕ → Reader (List Bool)
flags_in zero t = None
flags_in (suc most) t = (flag >>= λ f. ("]" >> give (f ∷ [])) or_else ("," >> (flags_in most >>= λ fs. give (f ∷ fs)))) t

-- the set of the nodes whose flag is true, and how many flags there are: two at least
unfoldable pub counted : List Bool → Reader (ℕ × ℕ)
counted fs t = cond (leb min_nodes (length fs)) (Some ((set_of (length fs) (λ i. get_or fs i false), length fs), t)) None

-- 2 to 32 flags in brackets
unfoldable pub flags : Reader (ℕ × ℕ)
flags = "[" >> (flags_in max_nodes >>= counted)

-- data: empty, or that of the term
unfoldable pub data_of : Term → Reader (Option Term)
data_of t = behind_word (data_text None) (give None) or_else behind_word (data_text (Some t)) (give (Some t))

-- a NACK of 0 is none
abbrev pub nack : ℕ → Option Term
nack zero = None
nack (suc t) = Some (record { 0 = suc t })

-- a piggyback's term and data, or `null` and no data
unfoldable pub piggyback : Reader (Option Piggyback)
piggyback =
    ("null" >> ",\"piggyback_data\":" >> behind_word (data_text None) (give None))
    or_else (term >>= λ t. ",\"piggyback_data\":" >> (data_of (record { 0 = t }) >>= λ d. give (Some (record { term = record { 0 = t }; «data» = d }))))

-- ---- the packet, field by field: a quoted word has to stand there, and `x ← r` is what r reads

-- up to the sender
unfoldable pub header : Reader Header
header = do
  "{\"current_term\":"
  current ← term
  ",\"last_accepted_term\":"
  last ← last_accepted
  ",\"flags_bitmap\":"
  (set, n) ← flags
  ",\"nack_term\":"
  asked ← term
  ",\"sender\":"
  sender ← number n
  give (record {
    current_term = record { 0 = current };
    last_accepted_term = last;
    flags_bitmap = set;
    flags = n;
    nack_term = nack asked;
    sender = record { 0 = sender };
  })

-- the data of the current term, and the piggyback
unfoldable pub body : Term → Reader Body
body current = do
  ",\"proposal_data\":"
  own ← data_of current
  ",\"piggyback_term\":"
  again ← piggyback
  "}"
  give (record { proposal_data = own; piggyback = again })

abbrev pub packet_of : Header → Body → Packet
packet_of h b =
    record {
      current_term = h.current_term;
      last_accepted_term = h.last_accepted_term;
      flags_bitmap = h.flags_bitmap;
      nack_term = h.nack_term;
      sender = h.sender;
      proposal_data = b.proposal_data;
      piggyback = b.piggyback;
    }

-- a packet at the front of a text, and its number of flags
unfoldable pub packet : Reader (Packet × ℕ)
packet = do
  h ← header
  b ← body h.current_term
  give (packet_of h b, h.flags)
