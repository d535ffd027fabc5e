-- The program's line (rules 10.1 to 10.4): topology, first, second, repeats, round slots or `-`, loss as 16 hexadecimal digits, seed, P,
-- interval and slot limit, with single spaces between them. It ends at the first newline or the end of the input.
use Rattle.std.specs.Prelude.{ℕ, ◌+◌, Bool, cond, ◌&&◌, List, [], ◌∷◌, eqb, length, get_or, Option, Some, None, Result, Err}
use Rattle.std.specs.Option.{ok_or}
use Rattle.config.specs.declared.refusal.Refusal.{Refusal}
use Rattle.text.specs.Numeral.{decimal, hexadecimal}
use Rattle.line.specs.declared.read.Line.{Line}

-- how many fields a line has
abbrev pub line_fields : ℕ
line_fields = 10

abbrev pub newline : ℕ
newline = 10

abbrev pub space : ℕ
space = 32

abbrev pub dash : ℕ
dash = 45

-- the bytes before the first `stop`, or all of them
unfoldable pub bytes_before : ℕ → List ℕ → List ℕ
bytes_before stop [] = []
bytes_before stop (b ∷ bs) = cond (eqb b stop) [] (b ∷ bytes_before stop bs)

-- a byte in front of the first field; there always is one
unfoldable pub prefixed : ℕ → List (List ℕ) → List (List ℕ)
prefixed b [] = []
prefixed b (f ∷ fs) = (b ∷ f) ∷ fs

-- the fields of a line: what stands between its single spaces, so one more than it has spaces
unfoldable pub fields : List ℕ → List (List ℕ)
fields [] = [] ∷ []
fields (b ∷ bs) = cond (eqb b space) ([] ∷ fields bs) (prefixed b (fields bs))

-- a text is `-`
unfoldable pub is_dash : List ℕ → Bool
is_dash t = eqb (length t) 1 && eqb (get_or t 0 0) dash

abbrev pub slots_present : Option ℕ → Option (Option ℕ)
slots_present None = None
slots_present (Some n) = Some (Some n)

-- `-` where the round slots are absent, else a decimal
unfoldable pub round_slots_of : List ℕ → Option (Option ℕ)
round_slots_of t = cond (is_dash t) (Some None) (slots_present (decimal t))

-- go on with a field that is readable
abbrev pub ◌>>=◌ : {A : Type 0} → Option A → (A → Option Line) → Option Line
None >>= k = None
Some a >>= k = k a

infixl 10 ◌>>=◌
-- four decimals from field k on, and what is made of them
unfoldable pub four_decimals : List (List ℕ) → ℕ → (ℕ → ℕ → ℕ → ℕ → Option Line) → Option Line
four_decimals fs k next = do
  a ← decimal (get_or fs k [])
  b ← decimal (get_or fs (k + 1) [])
  c ← decimal (get_or fs (k + 2) [])
  d ← decimal (get_or fs (k + 3) [])
  next a b c d

-- the ten fields, each of its kind
unfoldable pub read_fields : List (List ℕ) → Option Line
read_fields fs =
    four_decimals fs 0 λ topology first second repeats.
    round_slots_of (get_or fs 4 []) >>= λ slots.
    hexadecimal (get_or fs 5 []) >>= λ loss.
    four_decimals fs 6 λ seed proposals interval limit.
    Some (record {
      topology = topology;
      first = first;
      second = second;
      repeats = repeats;
      round_slots = slots;
      loss = loss;
      seed = seed;
      proposals = proposals;
      interval = interval;
      limit = limit;
    })

-- what the input asks for
unfoldable pub read_line : List ℕ → Result Line Refusal
read_line input =
    let fs = fields (bytes_before newline input) in
    cond (eqb (length fs) line_fields) (ok_or (read_fields fs) Refusal.UnreadableLine) (Err Refusal.UnreadableLine)
