-- Rows, links and paths (rules 1.3, 3.1, 3.3 and 3.4), and the row check (rule 9.2). A set of nodes is a number: node j is in it when its
-- binary digit j is 1. A node's row is the set of its neighbours, and a graph is the list of its rows.
use Rattle.std.specs.Prelude.{◌≡◌, Bool, true, false, not, cond, ◌&&◌, ◌||◌, List, ◌++◌, ℕ, zero, suc, ◌+◌, ◌-◌, ◌/◌, ◌%◌, ◌^◌, ◌≤◌, ◌<◌, eqb, ltb, length, get_or, take, replicate}
use Rattle.std.specs.Bool.{beq}
use Rattle.config.specs.Limits.{max_nodes}

-- Node j is in the set s.
unfoldable pub has : ℕ → ℕ → Bool
has s j = eqb (s / 2 ^ j % 2) 1

-- The set of the nodes j below n with f j.
unfoldable pub set_of : ℕ → (ℕ → Bool) → ℕ
set_of zero f = 0
set_of (suc n) f = set_of n f + cond (f n) (2 ^ n) 0

-- Some number below n has f.
unfoldable pub any : ℕ → (ℕ → Bool) → Bool
any zero f = false
any (suc n) f = any n f || f n

-- Every number below n has f.
unfoldable pub all : ℕ → (ℕ → Bool) → Bool
all zero f = true
all (suc n) f = all n f && f n

-- How many numbers below n have f.
unfoldable pub count : ℕ → (ℕ → Bool) → ℕ
count zero f = 0
count (suc n) f = count n f + cond (f n) 1 0

-- Node j is in the row of node i.
unfoldable pub linked : List ℕ → ℕ → ℕ → Bool
unfolding has
linked rows i j = has (get_or rows i 0) j

-- The first n rows, and empty ones up to the most nodes.
unfoldable pub widened : List ℕ → ℕ → List ℕ
widened rows n = take n rows ++ replicate (max_nodes - n) 0

-- A path of k links from a to b.
pub data Path (rows : List ℕ) (a : ℕ) : ℕ → ℕ → Type 0 where
  here : Path rows a 0 a
  on : {k b c : ℕ} → Path rows a k b → linked rows b c ≡ true → Path rows a (suc k) c

-- Each j below n is in row i exactly when i is in row j.
unfoldable pub mirrored : List ℕ → ℕ → ℕ → Bool
unfolding linked all
mirrored rows n i = all n (λ j. beq (linked rows i j) (linked rows j i))

-- What question 4 asks of node i's row, for n nodes: no bit at or above n, no own bit, and j in row i exactly when i in row j.
unfoldable pub row_right : List ℕ → ℕ → ℕ → Bool
unfolding linked mirrored
row_right rows n i = ltb (get_or rows i 0) (2 ^ n) && not (linked rows i i) && mirrored rows n i

unfoldable pub rows_right : List ℕ → ℕ → Bool
unfolding row_right all
rows_right rows n = all n (row_right rows n)

-- Node i is in the row of each node of its own row.
unfoldable pub backed : List ℕ → ℕ → ℕ → Bool
unfolding linked all
backed rows n i = all n (λ j. not (linked rows i j) || linked rows j i)

-- `row_right` with `backed` for `mirrored`, which the code asks: put to all n rows, the two agree.
unfoldable pub row_backed : List ℕ → ℕ → ℕ → Bool
unfolding linked backed
row_backed rows n i = ltb (get_or rows i 0) (2 ^ n) && not (linked rows i i) && backed rows n i

-- Question 4 as facts: what a law assumes of a graph of n nodes.
pub record Checked (rows : List ℕ) (n : ℕ) : Type 0 where
  pub enough : n ≤ length rows
  pub narrow : (i : ℕ) → i < n → get_or rows i 0 < 2 ^ n
  pub loopless : (i : ℕ) → i < n → linked rows i i ≡ false
  pub symmetric : (i j : ℕ) → i < n → j < n → linked rows i j ≡ linked rows j i
