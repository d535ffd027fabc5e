-- The bytes before a stop, and the fields of a line, from a place on. Assumes nothing.
use Prim.Native.Nat.{ℕ, zero, suc, ◌+◌, ◌≤◌, min}
use mathlib.Core.Path.{◌≡◌, refl, ap, subst, ◌∙◌}
use mathlib.Core.Bool.{Bool, true, false, cond}
use mathlib.Core.List.{List, [], ◌∷◌}
use native.Mathlib.Omega.{arith}
use lib.Dec.{eqb}
use lib.ListN.{length, get_or, take, drop, drop_of_length-le}
use Rattle.std.specs.List.{onto_first, slice_get, slice_split, sum_by}
use Rattle.std.specs.Iterator.{AlwaysYields}
use Rattle.std.specs.Option.{option_map, unwrap_or}
use Rattle.std.proofs.lemmas.Option.{unwrap_or-slice_get}
use Rattle.std.specs.Prelude.{Option, Some, None}
use Rattle.std.proofs.lemmas.Iterator.{YieldsList}
use Rattle.std.proofs.lemmas.List.{drop_min}
use Rattle.std.proofs.lemmas.List.Sums.{sum_by_from}
use Rattle.line.specs.Line.{bytes_before, fields, prefixed}

-- the first part by std's `split` is what stands before the first stop
parts_first : (stop : ℕ) (l : List ℕ) → (parts : List (List ℕ)) × (slice_split (λ b. eqb b stop) l ≡ bytes_before stop l ∷ parts)
unfolding bytes_before
parts_first stop [] = ([], refl)
parts_first stop (b ∷ bs) = case (parts_first stop bs) (eqb b stop)
  where
    case : (parts : List (List ℕ)) × (slice_split (λ b. eqb b stop) bs ≡ bytes_before stop bs ∷ parts) → (t : Bool)
        → (parts : List (List ℕ))
        × (cond t ([] ∷ slice_split (λ b. eqb b stop) bs) (onto_first b (slice_split (λ b. eqb b stop) bs)) ≡ cond t [] (b ∷ bytes_before stop bs) ∷ parts)
    case e true = (slice_split (λ b. eqb b stop) bs, refl)
    case e false = (e.0, ap (onto_first b) e.1)

-- it is what the first call of `next` gives
pub part_given : {S A : Type 0} (steps : S → Option A → S → Type 0) (now : A → List ℕ) (stop : ℕ) (l : List ℕ) {s u : S} (r : Option A) (d : A)
    → steps s r u → YieldsList steps now s (slice_split (λ b. eqb b stop) l) → now (unwrap_or r d) ≡ bytes_before stop l
part_given {S} {A} steps now stop l {s} {u} r d p e =
    let first = parts_first stop l in case r p (subst (λ parts. YieldsList steps now s parts) first.1 e).runs
  where
    case : (r : Option A) → steps s r u → AlwaysYields steps now s (bytes_before stop l ∷ (parts_first stop l).0) → now (unwrap_or r d) ≡ bytes_before stop l
    case None p g = absurd (g.0 u p)
    case (Some x) p g = (g.1 x u p).0

-- the first field is what stands before the first space
pub fields_first : (l : List ℕ) → (fs : List (List ℕ)) × (fields l ≡ bytes_before 32 l ∷ fs)
unfolding fields bytes_before prefixed
fields_first [] = ([], refl)
fields_first (b ∷ bs) = case (fields_first bs) (eqb b 32)
  where
    case : (fs : List (List ℕ)) × (fields bs ≡ bytes_before 32 bs ∷ fs)
        → (t : Bool) → (fs : List (List ℕ)) × (cond t ([] ∷ fields bs) (prefixed b (fields bs)) ≡ cond t [] (b ∷ bytes_before 32 bs) ∷ fs)
    case e true = (fields bs, refl)
    case e false = (e.0, ap (prefixed b) e.1)

onto_prefixed : (b : ℕ) (l : List ℕ) → onto_first b (fields l) ≡ prefixed b (fields l)
unfolding prefixed
onto_prefixed b l = rw (fields_first l).1

-- the fields are what std's `split` gives
pub fields_split : (l : List ℕ) → slice_split (λ b. eqb b 32) l ≡ fields l
unfolding fields
fields_split [] = refl
fields_split (b ∷ bs) = case (fields_split bs) (eqb b 32)
  where
    case : slice_split (λ b. eqb b 32) bs ≡ fields bs → (t : Bool)
        → cond t ([] ∷ slice_split (λ b. eqb b 32) bs) (onto_first b (slice_split (λ b. eqb b 32) bs)) ≡ cond t ([] ∷ fields bs) (prefixed b (fields bs))
    case e true = ap (λ fs. [] ∷ fs) e
    case e false = ap (onto_first b) e ∙ onto_prefixed b bs

-- a field by what std's `nth` gives of the parts
pub part_at : {A : Type 0} (now : A → List ℕ) (r : Option A) (d : A) (l : List ℕ) (k : ℕ)
    → option_map now r ≡ slice_get (slice_split (λ b. eqb b 32) l) k → now d ≡ [] → now (unwrap_or r d) ≡ get_or (fields l) k []
part_at {A = A} now r d l k e n =
    read r ∙ rw (e, n) (unwrap_or-slice_get _ k []) ∙ ap (λ fs. get_or fs k []) (fields_split l)
  where
    read : (r : Option A) → now (unwrap_or r d) ≡ unwrap_or (option_map now r) (now d)
    read None = refl
    read (Some x) = refl

pub first_field : (l : List ℕ) → bytes_before 32 l ≡ get_or (fields l) 0 []
first_field l = rw (fields_first l).1

-- the bytes of fields, each with one more for the space or the end behind it
abbrev pub weight : List (List ℕ) → ℕ
weight [] = 0
weight (f ∷ fs) = suc (length f) + weight fs

pub weight_fields : (l : List ℕ) → weight (fields l) ≡ suc (length l)
unfolding fields prefixed
weight_fields [] = refl
weight_fields (b ∷ bs) = case (weight_fields bs) (eqb b 32)
  where
    case : weight (fields bs) ≡ suc (length bs) → (t : Bool) → weight (cond t ([] ∷ fields bs) (prefixed b (fields bs))) ≡ suc (suc (length bs))
    case e true = omega (arith, e)
    case e false = let first = fields_first bs in rw first.1 (omega (arith, e, ap weight first.1))

weight_take : (k : ℕ) (fs : List (List ℕ)) → weight (take k fs) ≤ weight fs
weight_take zero fs = omega arith
weight_take (suc k) [] = omega arith
weight_take (suc k) (f ∷ fs) = omega (arith, weight_take k fs)

weight_sum : (fs : List (List ℕ)) → sum_by (λ f. length f + 1) fs ≡ weight fs
weight_sum [] = refl
weight_sum (f ∷ fs) = omega (arith, sum_by_from (λ (f : List ℕ). length f + 1) (0 + (length f + 1)) fs, weight_sum fs)

-- the fields in front of field k, by std's words
abbrev pub in_front : List ℕ → ℕ → List (List ℕ)
in_front l k = take k (slice_split (λ b. eqb b 32) l)

pub front_short : (l : List ℕ) (k : ℕ) → sum_by (λ f. length f + 1) (in_front l k) ≤ suc (length l)
front_short l k = rw (weight_sum, fields_split) (omega (arith, weight_take k (fields l), weight_fields l))

-- a place behind the first byte is one less in the other bytes
further : (b : ℕ) (bs : List ℕ) {n m : ℕ} {x : List ℕ} → n ≡ suc m → bytes_before 32 (drop m bs) ≡ x → bytes_before 32 (drop n (b ∷ bs)) ≡ x
further b bs e h = ap (λ (i : ℕ). bytes_before 32 (drop i (b ∷ bs))) e ∙ h

-- behind them is field k, or the end
field_behind : (l : List ℕ) (k : ℕ) → bytes_before 32 (drop (weight (take k (fields l))) l) ≡ get_or (fields l) k []
unfolding fields bytes_before prefixed
field_behind l zero = first_field l
field_behind [] (suc k) = rw (drop_of_length-le {A = ℕ} [] (let some : 0 ≤ weight (take (suc k) ([] ∷ [])) = omega arith in some))
field_behind (b ∷ bs) (suc k) = case (field_behind bs k) (field_behind bs (suc k)) (fields_first bs) (eqb b 32)
  where
    case : bytes_before 32 (drop (weight (take k (fields bs))) bs) ≡ get_or (fields bs) k []
        → bytes_before 32 (drop (weight (take (suc k) (fields bs))) bs) ≡ get_or (fields bs) (suc k) []
        → (fs : List (List ℕ)) × (fields bs ≡ bytes_before 32 bs ∷ fs) → (t : Bool)
        → bytes_before 32 (drop (weight (take (suc k) (cond t ([] ∷ fields bs) (prefixed b (fields bs))))) (b ∷ bs)) ≡ get_or (cond t ([] ∷ fields bs) (prefixed b (fields bs))) (suc k) []
    case here later first true = further b bs (omega arith) here
    case here later first false = rw first.1 (further b bs (omega arith) (rw first.1 at later))

pub front_start : (l : List ℕ) (k : ℕ) {n m : ℕ} → n ≡ min m (length l) → m ≡ sum_by (λ f. length f + 1) (in_front l k)
    → (n ≤ length l) × (bytes_before 32 (drop n l) ≡ get_or (fields l) k [])
front_start l k {n} {m} e sum =
    let same : m ≡ weight (take k (fields l)) = sum ∙ weight_sum (in_front l k) ∙ ap (λ fs. weight (take k fs)) (fields_split l) in
    (omega (arith, e), rw (e, drop_min m l, same) (field_behind l k))
