-- The flags that a loop has read so far, and those that are still to be read. Assumes nothing.
use Prim.Native.Nat.{ℕ, zero, suc, ◌+◌, ◌^◌, ◌≤◌, ◌<◌}
use mathlib.Core.Path.{◌≡◌, refl, sym, ap, ap₂, ◌∙◌}
use mathlib.Core.Bool.{Bool, false, cond}
use Rattle.std.specs.Prelude.{Option, None, Some}
use mathlib.Core.List.{List, [], ◌∷◌, ◌++◌, append_assoc}
use native.Mathlib.Numerals.{add-one}
use native.Mathlib.Omega.{arith}
use lib.Dec.{leb}
use lib.ListN.{length, get_or, length-append, get_or-append}
use lib.Seq.{get_or_at}
use Rattle.config.specs.Limits.{max_nodes, min_nodes}
use Rattle.network.specs.Graph.{set_of}
use Rattle.network.proofs.Sets.{set_of_cong, set_of_lt}
use Rattle.text.specs.Text.{ascii}
use Rattle.wire_reader.specs.Reader.{Reader, behind, behind_word, give, onward, ◌>>=◌, ◌or_else◌, flag, flags_in, counted}
use Rattle.wire_reader.proofs.Words.{bind_reads, bind_none}

-- flags in front of those that are found
abbrev onto : List Bool → Option (List Bool × List ℕ) → Option (List Bool × List ℕ)
onto seen None = None
onto seen (Some (fs, t)) = Some (seen ++ fs, t)

-- After i flags of a text: their set, and at most `left` flags in the rest of it.
pub record Seen (text : List ℕ) (i set : ℕ) (rest : List ℕ) : Type 0 where
  pub seen : List Bool
  pub left : ℕ
  pub size : length seen ≡ i
  pub few : i + left ≡ max_nodes
  pub is : set ≡ set_of i (λ j. get_or seen j false)
  pub goes_on : flags_in max_nodes text ≡ onto seen (flags_in left rest)

pub none_seen : (text : List ℕ) → Seen text 0 0 text
unfolding set_of
none_seen text = record { seen = []; left = max_nodes; size = refl; few = refl; is = refl; goes_on = same (flags_in max_nodes text) }
  where
    same : (o : Option (List Bool × List ℕ)) → o ≡ onto [] o
    same None = refl
    same (Some (fs, t)) = refl

-- the set of the flags, with one more
pub set_more : (seen : List Bool) (f : Bool) (i set : ℕ) → length seen ≡ i → set ≡ set_of i (λ j. get_or seen j false)
    → set + cond f (2 ^ i) 0 ≡ set_of (i + 1) (λ j. get_or (seen ++ f ∷ []) j false)
unfolding set_of
set_more seen f i set size is =
    rw (add-one i)
    (ap₂ (λ (s : ℕ) (g : Bool). s + cond g (2 ^ i) 0)
    (is ∙ set_of_cong i (λ j h. sym (get_or-append seen (f ∷ []) false j (omega arith))))
    (sym (get_or_at seen f [] false i size)))

pub set_below : {text : List ℕ} {i set : ℕ} {rest : List ℕ} → Seen text i set rest → set < 2 ^ i
set_below {i = i} {set = set} s = rw s.is (set_of_lt i (λ j. get_or s.seen j false))

-- ---- one flag of those that are still to be read

flag_none : (left : ℕ) (t : List ℕ) → None ≡ flag t → flags_in left t ≡ None
unfolding flags_in
flag_none zero t e = refl
flag_none (suc left) t e = bind_none _ _ _ (sym e)

-- behind it the bracket, or none
module _ (left : ℕ) (rest : List ℕ) {end : List ℕ} {f : Bool} (e : Some (f, end) ≡ flag rest) where
  flag_last : {t : List ℕ} → Some t ≡ behind (ascii "]") end → flags_in (suc left) rest ≡ Some (f ∷ [], t)
  unfolding flags_in behind_word ◌or_else◌ ◌>>=◌ give
  flag_last bracket = simp (sym e, sym bracket)

  flag_alone : None ≡ behind (ascii "]") end → None ≡ behind (ascii ",") end → flags_in (suc left) rest ≡ None
  unfolding flags_in behind_word ◌or_else◌ ◌>>=◌
  flag_alone bracket comma = simp (sym e, sym bracket, sym comma)

  flag_before : {t : List ℕ} → None ≡ behind (ascii "]") end → Some t ≡ behind (ascii ",") end
      → flags_in (suc left) rest ≡ (flags_in left >>= λ fs. give (f ∷ fs)) t
  unfolding flags_in behind_word ◌or_else◌ ◌>>=◌
  flag_before bracket comma = simp (sym e, sym bracket, sym comma)

-- in front of the others
onto_more : (seen : List Bool) (f : Bool) (r : Reader (List Bool)) (t : List ℕ) → onto seen ((r >>= λ fs. give (f ∷ fs)) t) ≡ onto (seen ++ f ∷ []) (r t)
unfolding ◌>>=◌ give
onto_more seen f r t = case (r t)
  where
    case : (o : Option (List Bool × List ℕ)) → onto seen (onward (λ fs. give (f ∷ fs)) o) ≡ onto (seen ++ f ∷ []) o
    case None = refl
    case (Some (fs, u)) = ap (λ l. Some (l, u)) (sym (append_assoc seen (f ∷ []) fs))

-- ---- what the loop makes of it

module _ {text : List ℕ} {i set : ℕ} {rest : List ℕ} (s : Seen text i set rest) where
  -- what reads on finds none
  reads_none : flags_in s.left rest ≡ None → None ≡ (flags_in max_nodes >>= counted) text
  reads_none e = sym (bind_none _ _ _ (s.goes_on ∙ ap (onto s.seen) e))

  pub flag_missing : None ≡ flag rest → None ≡ (flags_in max_nodes >>= counted) text
  flag_missing e = reads_none (flag_none s.left rest e)

  -- after the most flags no other may follow
  pub flags_full : max_nodes ≤ i → None ≡ (flags_in max_nodes >>= counted) text
  unfolding flags_in
  flags_full h = reads_none (let full : s.left ≡ 0 = omega (arith, s.few) in ap (λ (left : ℕ). flags_in left rest) full)

  -- one flag fewer is left
  fewer : i < max_nodes → (left : ℕ) × (s.left ≡ suc left)
  fewer h = case s.left s.few
    where
      case : (left : ℕ) → i + left ≡ max_nodes → (l : ℕ) × (left ≡ suc l)
      case zero e = absurd (omega arith)
      case (suc l) e = (l, refl)

  known : (l : ℕ) → s.left ≡ suc l → {o : Option (List Bool × List ℕ)} → flags_in (suc l) rest ≡ o → flags_in s.left rest ≡ o
  known l p q = ap (λ (left : ℕ). flags_in left rest) p ∙ q

  module _ (more : i < max_nodes) {f : Bool} {end : List ℕ} (e : Some (f, end) ≡ flag rest) where
    -- neither the bracket nor a comma stands behind it
    pub flag_ends : None ≡ behind (ascii "]") end → None ≡ behind (ascii ",") end → None ≡ (flags_in max_nodes >>= counted) text
    flag_ends bracket comma = let l = fewer more in reads_none (known l.0 l.1 (flag_alone l.0 rest e bracket comma))

    -- a comma, and the next flag
    pub flag_follows : {set' : ℕ} {t : List ℕ} → set' ≡ set + cond f (2 ^ i) 0 → None ≡ behind (ascii "]") end → Some t ≡ behind (ascii ",") end
        → Seen text (i + 1) set' t
    flag_follows {t = t} grown bracket comma =
        let l = fewer more in
        record {
          seen = s.seen ++ f ∷ [];
          left = l.0;
          size = length-append s.seen (f ∷ []) ∙ ap (λ (n : ℕ). n + 1) s.size;
          few = omega (arith, s.few, l.1);
          is = grown ∙ set_more s.seen f i set s.size s.is;
          goes_on = s.goes_on ∙ ap (onto s.seen) (known l.0 l.1 (flag_before l.0 rest e bracket comma)) ∙ onto_more s.seen f (flags_in l.0) t;
        }

    -- the bracket: all flags are read, and counted
    pub flags_end : {set' : ℕ} {t : List ℕ} → set' ≡ set + cond f (2 ^ i) 0 → Some t ≡ behind (ascii "]") end
        → ◌≡◌ {A = Option ((ℕ × ℕ) × List ℕ)} (cond (leb min_nodes (i + 1)) (Some ((set', i + 1), t)) None) ((flags_in max_nodes >>= counted) text)
    unfolding counted
    flags_end {set'} {t} grown bracket = sym (all ∙ counts)
      where
        all : (flags_in max_nodes >>= counted) text ≡ counted (s.seen ++ f ∷ []) t
        all = let l = fewer more in bind_reads _ _ _ (s.goes_on ∙ ap (onto s.seen) (known l.0 l.1 (flag_last l.0 rest e bracket)))

        counts : counted (s.seen ++ f ∷ []) t ≡ cond (leb min_nodes (i + 1)) (Some ((set', i + 1), t)) None
        counts =
            let size : length (s.seen ++ f ∷ []) ≡ i + 1 = length-append s.seen (f ∷ []) ∙ ap (λ (n : ℕ). n + 1) s.size in
            rw size (ap (λ (x : ℕ). cond (leb min_nodes (i + 1)) (Some ((x, i + 1), t)) None) (sym (grown ∙ set_more s.seen f i set s.size s.is)))
