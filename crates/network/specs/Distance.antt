-- Distance, eccentricity and diameter (rules 3.4, 3.5 and 9.3) of the graph whose n nodes have the given rows. A distance is a number of
-- links, or none where no path joins the two nodes.
use Rattle.std.specs.Prelude.{◌≡◌, cond, ◌&&◌, ◌||◌, List, [], ◌∷◌, ℕ, zero, suc, ◌^◌, ◌<◌, max, Result}
use Rattle.std.proofs.Math.Option.{Option, none, some, map}
use Rattle.network.specs.Graph.{has, set_of, any, linked, Path}
use Rattle.network.specs.Questions.{first_no, question4, rows_questions}
use Rattle.config.specs.Refusals.{unless}
use Rattle.config.specs.declared.refusal.Refusal.{Refusal}

-- The set s with every node that a link joins to a node of s.
unfoldable pub spread : List ℕ → ℕ → ℕ → ℕ
unfolding has set_of any linked
spread rows n s = set_of n (λ j. has s j || any n (λ i. has s i && linked rows i j))

-- The nodes at most k links from node a.
unfoldable pub reach : List ℕ → ℕ → ℕ → ℕ → ℕ
unfolding spread
reach rows n a zero = 2 ^ a
reach rows n a (suc k) = spread rows n (reach rows n a k)

-- The sets s, spread s, .., k of them: from the set of a alone they are its `reach` at 0 to k - 1.
unfoldable pub reaches : List ℕ → ℕ → ℕ → ℕ → List ℕ
unfolding spread
reaches rows n s zero = []
reaches rows n s (suc k) = s ∷ reaches rows n (spread rows n s) k

-- The place of the first set that has node b.
unfoldable pub first_with : ℕ → List ℕ → Option ℕ
unfolding has
first_with b [] = none
first_with b (s ∷ rest) = cond (has s b) (some 0) (map suc (first_with b rest))

-- The distance from a to b: the least number of links. It is below n, so n sets are enough.
unfoldable pub distance : List ℕ → ℕ → ℕ → ℕ → Option ℕ
unfolding reaches first_with
distance rows n a b = first_with b (reaches rows n (2 ^ a) n)

-- k is the least number of links of a path from a to b: what `distance` is shown to give.
pub record IsDistance (rows : List ℕ) (a b k : ℕ) : Type 0 where
  pub path : Path rows a k b
  pub least : (m : ℕ) → m < k → Path rows a m b → ⊥

-- A finite distance's number of links; 0 where there is none, which raises no maximum.
unfoldable pub links : Option ℕ → ℕ
links none = 0
links (some k) = k

-- The greatest of f 0 to f (n - 1).
unfoldable pub greatest : ℕ → (ℕ → ℕ) → ℕ
greatest zero f = 0
greatest (suc n) f = max (greatest n f) (f n)

-- The greatest finite distance from a.
unfoldable pub eccentricity : List ℕ → ℕ → ℕ → ℕ
unfolding reaches first_with links greatest
eccentricity rows n a = let sets : List ℕ = reaches rows n (2 ^ a) n in greatest n (λ b. links (first_with b sets))

-- The greatest finite distance.
unfoldable pub diameter : List ℕ → ℕ → ℕ
unfolding eccentricity greatest
diameter rows n = greatest n (eccentricity rows n)

-- Paths join all nodes: any two have a distance.
unfoldable pub Joined : List ℕ → ℕ → Type 0
Joined rows n = (a b : ℕ) → a < n → b < n → (k : ℕ) × (distance rows n a b ≡ some k)

-- Questions 2 and 4, then the diameter.
unfoldable pub measured : List ℕ → ℕ → Result ℕ Refusal
unfolding question4 diameter
measured rows n = unless (first_no (rows_questions rows n)) (diameter rows n)
