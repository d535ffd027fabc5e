-- Reading the flags: a set's flags are read as the set and their number, and nothing else is. Assumes nothing.
use Prim.Native.Nat.{ℕ, zero, suc, ◌^◌, ◌≤◌, ◌<◌}
use mathlib.Core.Path.{◌≡◌, refl, sym, ap, ◌∙◌}
use mathlib.Core.Bool.{Bool, true, false, cond}
use Rattle.std.specs.Prelude.{None, Some}
use Rattle.std.proofs.lemmas.Option.{none-some}
use mathlib.Core.List.{List, [], ◌∷◌, ◌++◌, map, append_assoc}
use native.Mathlib.Omega.{arith}
use lib.Dec.{leb}
use lib.ListN.{length, get_or}
use borrow.Author.Tests.{le-leb, leb-true}
use Rattle.config.specs.Limits.{min_nodes, max_nodes}
use Rattle.random.specs.Table.{tabulate}
use Rattle.random.proofs.Tables.{length_tabulate, get_d_tabulate, tabulate_cong, by_places}
use Rattle.network.specs.Graph.{has, set_of}
use Rattle.network.proofs.Sets.{set_of_lt, has_set_of, set_of_cong, set_of_has}
use Rattle.text.specs.Text.{ascii}
use Rattle.wire.specs.Grammar.{behind_commas, array, flag_text, flags_text}
use Rattle.wire_reader.specs.Reader.{Reader, behind, give, ◌>>=◌, ◌>>◌, behind_word, ◌or_else◌, flag, flags_in, counted, flags}
use Rattle.wire_reader.proofs.Words.{word_reads, bind_reads, Claim, Finds, Only, give_finds, word_finds, bind_finds, or_finds}

-- ---- one flag

flag_reads : (f : Bool) (t : List ℕ) → flag (flag_text f ++ t) ≡ Some (f, t)
unfolding flag ◌or_else◌ behind_word behind give ascii
flag_reads true t = refl
flag_reads false t = refl

flag_only : Only flag (λ f. Unit) flag_text
unfolding flag
flag_only = or_finds _ _ _ (word_finds _ _ _ (give_finds true _ (λ t. (tt, refl)))) (word_finds _ _ _ (give_finds false _ (λ t. (tt, refl))))

-- ---- flags with commas between them, and the closing bracket

-- of one flag at least
abbrev items_text : List Bool → List ℕ
items_text [] = []
items_text (f ∷ fs) = flag_text f ++ behind_commas (map flag_text fs) ++ ascii "]"

-- what reads on behind the flag f, where at most so many more may follow
abbrev after : ℕ → Bool → Reader (List Bool)
after most f = ("]" >> give (f ∷ [])) or_else ("," >> (flags_in most >>= λ fs. give (f ∷ fs)))

after_last_lem : (most : ℕ) (f : Bool) (t : List ℕ) → after most f (ascii "]" ++ t) ≡ Some (f ∷ [], t)
unfolding ◌or_else◌ behind_word behind give ascii
after_last_lem most f t = refl

after_more : (most : ℕ) (f : Bool) (t : List ℕ) {fs : List Bool} {u : List ℕ}
    → flags_in most t ≡ Some (fs, u) → after most f (ascii "," ++ t) ≡ Some (f ∷ fs, u)
unfolding ◌or_else◌ behind_word behind give ascii
after_more most f t e = bind_reads _ _ t e

items_read : (most : ℕ) (fs : List Bool) (t : List ℕ) → 1 ≤ length fs → length fs ≤ most → flags_in most (items_text fs ++ t) ≡ Some (fs, t)
unfolding flags_in behind_commas
items_read zero fs t h h' = absurd (omega arith)
items_read (suc most) [] t h h' = absurd (omega arith)
items_read (suc most) (f ∷ []) t h h' = simp append_assoc (bind_reads _ _ _ (flag_reads f _) ∙ after_last_lem most f t)
items_read (suc most) (f ∷ g ∷ fs) t h h' =
    simp append_assoc
    (bind_reads _ _ _ (flag_reads f _) ∙ after_more most f _ (simp append_assoc at (items_read most (g ∷ fs) t (omega arith) (omega arith))))

items_only : (most : ℕ) → Only (flags_in most) (λ fs. (1 ≤ length fs) × (length fs ≤ most)) items_text
unfolding flags_in behind_commas
items_only zero = λ t fs u e. absurd (none-some (fs, u) e)
items_only (suc most) = bind_finds flag (after most) _ flag_text flag_only (λ f _. behind_flag f (items_only most))
  where
    more : (f : Bool) (fs : List Bool) → (1 ≤ length fs) × (length fs ≤ most) → (t : List ℕ)
        → ((1 ≤ length (f ∷ fs)) × (length (f ∷ fs) ≤ suc most)) × (flag_text f ++ (ascii "," ++ (items_text fs ++ t)) ≡ items_text (f ∷ fs) ++ t)
    more f [] few t = absurd (omega arith)
    more f (g ∷ fs) few t = (omega arith, simp append_assoc)

    behind_flag : (f : Bool) → Only (flags_in most) (λ fs. (1 ≤ length fs) × (length fs ≤ most)) items_text
        → Finds (after most f) (λ fs t u. ((1 ≤ length fs) × (length fs ≤ suc most)) × (flag_text f ++ t ≡ items_text fs ++ u))
    behind_flag f ih =
        or_finds _ _ _
        (word_finds _ _ _ (give_finds (f ∷ []) _ (λ t. (omega arith, simp append_assoc))))
        (word_finds _ _ _ (bind_finds _ _ _ items_text ih (λ fs few. give_finds (f ∷ fs) _ (more f fs few))))

-- ---- the set

map_tabulate : (n : ℕ) (f : ℕ → Bool) → tabulate n (λ i. flag_text (f i)) ≡ map flag_text (tabulate n f)
unfolding tabulate
map_tabulate zero f = refl
map_tabulate (suc n) f = ap (λ l. flag_text (f 0) ∷ l) (map_tabulate n (λ i. f (suc i)))

-- the flags of a set in brackets
flags_text_items : (n s : ℕ) → 1 ≤ n → flags_text n s ≡ ascii "[" ++ items_text (tabulate n (has s))
unfolding flags_text array tabulate
flags_text_items zero s h = absurd (omega arith)
flags_text_items (suc n) s h = rw (map_tabulate n (λ i. has s (suc i))) (simp append_assoc)

counted_reads : (n s : ℕ) (t : List ℕ) → min_nodes ≤ n → s < 2 ^ n → counted (tabulate n (has s)) t ≡ Some ((s, n), t)
unfolding counted
counted_reads n s t least h =
    let set : set_of n (λ i. get_or (tabulate n (has s)) i false) ≡ s = set_of_cong n (λ i b. get_d_tabulate n (has s) i false b) ∙ set_of_has n s h in
    rw (length_tabulate n (has s), le-leb min_nodes n least, set)

pub flags_read : (n s : ℕ) (t : List ℕ) → min_nodes ≤ n → n ≤ max_nodes → s < 2 ^ n → flags (flags_text n s ++ t) ≡ Some ((s, n), t)
unfolding flags
flags_read n s t least most h =
    let size = length_tabulate n (has s) in
    let items = items_read max_nodes (tabulate n (has s)) t (omega arith) (omega arith) in
    rw (flags_text_items n s (omega arith)) (simp append_assoc (word_reads _ _ _ ∙ bind_reads _ _ _ items ∙ counted_reads n s t least h))

-- the set of the nodes whose flag is true
abbrev set_in : List Bool → ℕ
set_in fs = set_of (length fs) (λ i. get_or fs i false)

counted_finds : (fs : List Bool) (Q : Claim (ℕ × ℕ)) → ((t : List ℕ) → min_nodes ≤ length fs → Q (set_in fs, length fs) t t) → Finds (counted fs) Q
unfolding counted give
counted_finds fs Q h t x u e = case (leb min_nodes (length fs)) refl e
  where
    case : (q : Bool) → leb min_nodes (length fs) ≡ q → cond q (give (set_in fs, length fs) t) None ≡ Some (x, u) → Q x t u
    case true q e = give_finds (set_in fs, length fs) Q (λ v. h v (leb-true min_nodes (length fs) q)) t x u e
    case false q e = absurd (none-some (x, u) e)

-- the flags of the set are the flags
flags_set_in : (fs : List Bool) → tabulate (length fs) (has (set_in fs)) ≡ fs
flags_set_in fs = tabulate_cong (length fs) _ _ (has_set_of (length fs) (λ i. get_or fs i false)) ∙ sym (by_places (length fs) false fs refl)

pub flags_only : Only flags (λ (s, n). (min_nodes ≤ n) × (n ≤ max_nodes) × (s < 2 ^ n)) (λ (s, n). flags_text n s)
unfolding flags
flags_only = word_finds _ _ _ (bind_finds _ _ _ items_text (items_only max_nodes) (λ fs few. counted_finds fs _ (found fs few)))
  where
    found : (fs : List Bool) → (1 ≤ length fs) × (length fs ≤ max_nodes) → (t : List ℕ) → min_nodes ≤ length fs
        → ((min_nodes ≤ length fs) × (length fs ≤ max_nodes) × (set_in fs < 2 ^ length fs))
        × (ascii "[" ++ (items_text fs ++ t) ≡ flags_text (length fs) (set_in fs) ++ t)
    found fs few t least = (
      (least, few.1, set_of_lt (length fs) (λ i. get_or fs i false)),
      rw (flags_text_items (length fs) (set_in fs) few.0, flags_set_in fs) (simp append_assoc),
    )
