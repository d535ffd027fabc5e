-- The snapshots of a file beside those of a run: what agreeing comes to as more are taken, and of all of them. Assumes nothing.
use Prim.Native.Nat.{ℕ, ◌+◌, ◌-◌, ◌*◌, ◌≤◌, ◌<◌, min}
use mathlib.Core.Path.{◌≡◌, sym, ap, ap₂, ◌∙◌}
use mathlib.Core.Bool.{Bool, true, false, ◌&&◌}
use mathlib.Core.List.{List, [], ◌++◌, flatten, append-nil}
use mathlib.Core.Logic.{⊎_elim, ◌⊎◌, inl, inr}
use native.Mathlib.Nat.{div-add-mod'}
use native.Mathlib.Omega.{arith}
use lib.Dec.{leb}
use lib.ListN.{length, take, drop, length-append, length-take}
use lib.Seq.{take_all, take-nil, take-add, take-take, take-append-le, take-append-add}
use borrow.Author.Tests.{leb-true, leb-false}
use Rattle.config.specs.Limits.{snapshot_size}
use Rattle.phy.proofs.Fives.{Fives, flatten_both, length_flat, length_fives, take_flat}
use Rattle.archive.specs.Bytes.{numbers_bytes, same_bytes}
use Rattle.archive.specs.Layout.{snapshot_bytes, layout, length_in, section_in}
use Rattle.archive.proofs.ByteLaws.{two, length_numbers, numbers_append, same_append, same_sizes}
use Rattle.archive.proofs.Orders.{keeps, length_section}
use Rattle.archive_check.specs.Check.{stored_in}
use Rattle.archive_check.specs.Working.{taken, agrees}

and_no : (a b : Bool) → a ≡ false → (a && b) ≡ false
and_no a b e = ap (λ (c : Bool). c && b) e

pub and_yes : (a b : Bool) → a ≡ true → (a && b) ≡ b
and_yes a b e = ap (λ (c : Bool). c && b) e

-- how many bytes the first snapshots have
length_bytes_of : {l : List (List ℕ)} → Fives l → (i : ℕ) → length (numbers_bytes (flatten (take i l))) ≡ snapshot_bytes * min i (length l)
length_bytes_of {l} f i = omega (arith, length_numbers (flatten (take i l)), length_fives i f)

-- ---- a file that keeps the layout
module _ (file : List ℕ) (kept : layout file ≡ true) where
  abbrev m : ℕ
  m = stored_in file

  abbrev section : List ℕ
  section = section_in file 3

  pub section_size : length section ≡ snapshot_bytes * m
  section_size =
      length_section file (keeps file kept) 3 (omega arith)
      ∙ omega (arith, div-add-mod' (length_in file 3) snapshot_bytes, (keeps file kept).in_size.snapshots)

  pub agrees_none : agrees file [] ≡ true
  unfolding agrees same_bytes numbers_bytes flatten
  agrees_none =
      let nothing : snapshot_bytes * min m 0 ≡ 0 = omega arith in
      let first : take (snapshot_bytes * min m 0) section ≡ [] = ap (λ (k : ℕ). take k section) nothing in
      ap₂ same_bytes first (ap (λ (l : List (List ℕ)). numbers_bytes (flatten l)) (take-nil m))

  -- more are taken, and stand at the start of a buffer
  module _ {l more : List (List ℕ)} (fl : Fives l) (fm : Fives more) (buffer : List ℕ) (stand : take (snapshot_size * length more) buffer ≡ flatten more) where
    abbrev j : ℕ
    j = length l

    abbrev c : ℕ
    c = taken m j (j + length more)

    parts : take (snapshot_bytes * min m (length (l ++ more))) section ≡ take (snapshot_bytes * min m j) section ++ take (snapshot_bytes * c) (drop (snapshot_bytes * j) section)
    parts =
        let all : snapshot_bytes * min m (length (l ++ more)) ≡ snapshot_bytes * min m j + snapshot_bytes * c = omega (arith, length-append l more) in
        ap (λ (k : ℕ). take k section) all
        ∙ take-add (snapshot_bytes * min m j) (snapshot_bytes * c) section
        ∙ ap (λ (x : List ℕ). take (snapshot_bytes * min m j) section ++ x) (go (two (leb m j)))
      where
        go : (leb m j ≡ true) ⊎ (leb m j ≡ false) → take (snapshot_bytes * c) (drop (snapshot_bytes * min m j) section) ≡ take (snapshot_bytes * c) (drop (snapshot_bytes * j) section)
        go (inl e) =
            let nothing : snapshot_bytes * c ≡ 0 = omega (arith, leb-true m j e) in
            ap (λ (k : ℕ). take k (drop (snapshot_bytes * min m j) section)) nothing ∙ sym (ap (λ (k : ℕ). take k (drop (snapshot_bytes * j) section)) nothing)
        go (inr e) =
            let same : snapshot_bytes * min m j ≡ snapshot_bytes * j = omega (arith, leb-false m j e) in
            ap (λ (k : ℕ). take (snapshot_bytes * c) (drop k section)) same

    firsts : take m (l ++ more) ≡ take m l ++ take c more
    firsts = go (two (leb m j))
      where
        rest : (m - j ≤ length more) ⊎ (length more < m - j) → j < m → take (m - j) more ≡ take c more
        rest (inl h) g = let as_many : m - j ≡ c = omega (arith, h, g) in ap (λ (k : ℕ). take k more) as_many
        rest (inr h) g = take_all (m - j) more (omega (arith, h)) ∙ sym (take_all c more (omega (arith, h, g)))

        either : (x y : ℕ) → (x ≤ y) ⊎ (y < x)
        either x y = ⊎_elim (λ e. inl (leb-true x y e)) (λ e. inr (leb-false x y e)) (two (leb x y))

        go : (leb m j ≡ true) ⊎ (leb m j ≡ false) → take m (l ++ more) ≡ take m l ++ take c more
        go (inl e) =
            let nothing : c ≡ 0 = omega (arith, leb-true m j e) in
            take-append-le m l more (leb-true m j e) ∙ sym (ap (λ (k : ℕ). take m l ++ take k more) nothing ∙ append-nil (take m l))
        go (inr e) =
            let less : j < m = leb-false m j e in
            let whole : m ≡ length l + (m - j) = omega arith in
            ap (λ (k : ℕ). take k (l ++ more)) whole
            ∙ take-append-add l more (m - j)
            ∙ ap₂ ◌++◌ (sym (take_all m l (omega arith))) (rest (either (m - j) (length more)) less)

    front : flatten (take c more) ≡ take (snapshot_size * c) buffer
    front =
        sym (take_flat fm c) ∙ ap (take (snapshot_size * c)) (sym stand)
        ∙ take-take (snapshot_size * c) (snapshot_size * length more) buffer (omega arith)

    pub agrees_more : agrees file (l ++ more)
        ≡ (agrees file l && same_bytes (take (snapshot_bytes * c) (drop (snapshot_bytes * j) section)) (numbers_bytes (take (snapshot_size * c) buffer)))
    unfolding agrees
    agrees_more =
        let bytes : numbers_bytes (flatten (take m (l ++ more))) ≡ numbers_bytes (flatten (take m l)) ++ numbers_bytes (take (snapshot_size * c) buffer)
        = ap (λ (k : List (List ℕ)). numbers_bytes (flatten k)) firsts
        ∙ ap numbers_bytes (flatten_both (take m l) (take c more))
        ∙ numbers_append (flatten (take m l)) (flatten (take c more))
        ∙ ap (λ (x : List ℕ). numbers_bytes (flatten (take m l)) ++ numbers_bytes x) front in
        ap₂ same_bytes parts bytes
        ∙ same_append (take (snapshot_bytes * min m j) section) _ (numbers_bytes (flatten (take m l))) _
        (omega (arith, length-take (snapshot_bytes * min m j) section, section_size, length_bytes_of fl m))

  -- once they differ, they do so whatever is taken after
  pub differs_on : {l more : List (List ℕ)} → Fives l → Fives more → agrees file l ≡ false → agrees file (l ++ more) ≡ false
  differs_on {l} {more} fl fm e =
      agrees_more fl fm (flatten more) (take_all (snapshot_size * length more) (flatten more) (omega (arith, length_flat fm)))
      ∙ and_no (agrees file l) _ e

  -- the section is that of all of them where they agree and there are as many as the file has
  pub agrees_all : {l : List (List ℕ)} → Fives l → same_bytes section (numbers_bytes (flatten (take m l))) ≡ (leb m (length l) && agrees file l)
  unfolding agrees
  agrees_all {l} fl = go (two (leb m (length l)))
    where
      go : (leb m (length l) ≡ true) ⊎ (leb m (length l) ≡ false) → same_bytes section (numbers_bytes (flatten (take m l))) ≡ (leb m (length l) && agrees file l)
      go (inl e) =
          let whole : take (snapshot_bytes * min m (length l)) section ≡ section = take_all (snapshot_bytes * min m (length l)) section (omega (arith, section_size, leb-true m (length l) e)) in
          ap (λ (x : List ℕ). same_bytes x (numbers_bytes (flatten (take m l)))) (sym whole) ∙ ap (λ (b : Bool). b && agrees file l) (sym e)
      go (inr e) =
          same_sizes section (numbers_bytes (flatten (take m l)))
          (λ q. absurd (omega (arith, q, section_size, length_bytes_of fl m, leb-false m (length l) e)))
          ∙ ap (λ (b : Bool). b && agrees file l) (sym e)
