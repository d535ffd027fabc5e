-- What the sets of listening and flooding nodes tell of a slot. Assumes nothing.
use Prim.Native.Nat.{ℕ, ◌+◌, ◌-◌, ◌^◌, ◌≤◌, ◌<◌}
use mathlib.Core.Path.{◌≡◌, sym, ap, subst, ◌∙◌}
use mathlib.Core.Bool.{Bool}
use mathlib.Core.List.{List, [], ◌∷◌}
use native.Mathlib.Omega.{arith}
use lib.Count.{ones}
use Rattle.network.specs.Graph.{has, set_of}
use Rattle.network.proofs.Sets.{has_set_of, set_of_lt}
use Rattle.phy.specs.declared.node.Node.{Node}
use Rattle.phy.specs.declared.node.NodeState.{NodeState}
use Rattle.phy.specs.declared.slot.Awake.{Awake}
use Rattle.phy.specs.Node.{listens, floods, is_listening, is_flooding, is_sleeping}
use Rattle.phy.specs.Slot.{at, how_many, ticked, snapshot, receivers, tries_in, Setup, attempt_all}
use Rattle.phy.specs.View.{shot_of, shown_of}
use Rattle.phy.proofs.Attempts.{receivers_cong}
use Rattle.phy.proofs.Nodes.{state_ticked, count_cong, ones_set_of, three_states}

module _ (n : ℕ) (nodes : List Node) (x : Awake)
    (who-listens : x.listening ≡ set_of n (λ (j : ℕ). is_listening (at nodes j)))
    (who-floods : x.flooding ≡ set_of n (λ (j : ℕ). is_flooding (at nodes j))) where
  -- a state's test is the same before and after the nodes have counted their slot
  ticked_same : (p : NodeState → Bool) (j : ℕ) → j < n → p (at nodes j).state ≡ p (at (ticked n nodes) j).state
  ticked_same p j h = ap p (sym (state_ticked n nodes j h))

  -- how many are in a set of nodes
  size_of : (p : NodeState → Bool) (s : ℕ) → s ≡ set_of n (λ (j : ℕ). p (at nodes j).state) → ones s ≡ how_many (λ (v : Node). p v.state) (ticked n nodes) n
  size_of p s e = ap ones e ∙ ones_set_of n (λ (j : ℕ). p (at nodes j).state) ∙ count_cong n _ _ (ticked_same p)

  pub listening_size : ones x.listening ≡ how_many is_listening (ticked n nodes) n
  listening_size = size_of listens x.listening who-listens

  pub flooding_size : ones x.flooding ≡ how_many is_flooding (ticked n nodes) n
  flooding_size = size_of floods x.flooding who-floods

  pub awake_few : ones x.listening + ones x.flooding ≤ n
  awake_few = omega (arith, listening_size, flooding_size, three_states n (ticked n nodes))

  pub listening_lt : x.listening < 2 ^ n
  listening_lt = subst (λ (s : ℕ). s < 2 ^ n) (sym who-listens) (set_of_lt n _)

  pub flooding_lt : x.flooding < 2 ^ n
  flooding_lt = subst (λ (s : ℕ). s < 2 ^ n) (sym who-floods) (set_of_lt n _)

  -- the snapshot's numbers
  pub shot_is : (progress : ℕ) → shot_of (shown_of n progress x) ≡ snapshot n progress (ticked n nodes)
  unfolding snapshot
  shot_is progress =
      let sleeping : n - ones x.listening - ones x.flooding ≡ how_many is_sleeping (ticked n nodes) n
      = omega (arith, listening_size, flooding_size, three_states n (ticked n nodes)) in
      λ i slot. slot ∷ progress ∷ listening_size i ∷ flooding_size i ∷ sleeping i ∷ []

  member_of : (p : NodeState → Bool) (s : ℕ) → s ≡ set_of n (λ (j : ℕ). p (at nodes j).state) → (j : ℕ) → j < n → has s j ≡ p (at (ticked n nodes) j).state
  member_of p s e j h = ap (λ (k : ℕ). has k j) e ∙ has_set_of n _ j h ∙ ticked_same p j h

  -- the slot's attempts
  pub tries_are : (g : Setup) (attempts successes : ℕ) → g.nodes ≡ n
      → attempt_all g.heard (record { attempts = attempts; successes = successes; reached = 0 }) (receivers g.rows (has x.flooding) (has x.listening) n n)
      ≡ tries_in g (ticked n nodes) attempts successes
  unfolding tries_in
  tries_are g attempts successes e =
      ap (attempt_all g.heard (record { attempts = attempts; successes = successes; reached = 0 }))
      (receivers_cong g.rows _ (λ (j : ℕ). is_flooding (at (ticked n nodes) j)) _ (λ (j : ℕ). is_listening (at (ticked n nodes) j)) n n (omega arith)
      (member_of floods x.flooding who-floods) (member_of listens x.listening who-listens)
      ∙ ap (λ (k : ℕ). receivers g.rows (λ (j : ℕ). is_flooding (at (ticked n nodes) j)) (λ (j : ℕ). is_listening (at (ticked n nodes) j)) k k) (sym e))
