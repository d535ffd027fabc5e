-- The rounds of a run one by one: a run of fewer rounds has the first of them, and each is what the rules make of where the run stands
-- before it. Assumes nothing.
use Prim.Native.Nat.{ℕ, zero, suc, ◌+◌, ◌≤◌, ◌<◌}
use mathlib.Core.Bool.{true, false}
use mathlib.Core.List.{List, [], ◌∷◌, ◌++◌}
use mathlib.Core.Logic.{⊎_elim}
use mathlib.Core.Option.{Option, none, some}
use mathlib.Core.Path.{◌≡◌, refl, sym, ap, ap₂, subst, ◌∙◌}
use native.Mathlib.Nat.{le_of_suc-le-suc}
use native.Mathlib.Omega.{arith}
use lib.Dec.{leb, eqb}
use lib.ListN.{length, get_elem?}
use Rattle.network.proofs.Sets.{two}
use Rattle.config.specs.Limits.{most_rounds}
use Rattle.rules.specs.Run.{Given, Past, Running, Ended, begin, past_in, run_round, end_after, rounds_from, run_for, run}
use Rattle.rules.proofs.Ends.{from_limit, from_next, from_end, along_rounds}
use Rattle.rules.proofs.Rounds.{rounds_more}

-- ---- lists

-- behind the last element there is none
pub elem_beyond : {A : Type 0} (l : List A) (i : ℕ) → length l ≤ i → get_elem? l i ≡ none
elem_beyond [] i h = refl
elem_beyond (x ∷ l) zero h = absurd (omega arith)
elem_beyond (x ∷ l) (suc i) h = elem_beyond l i (le_of_suc-le-suc h)

none_there : {A : Type 0} (l : List A) (i : ℕ) (x : A) → length l ≤ i → get_elem? l i ≡ some x → ⊥
none_there l i x h e = let o = sym (elem_beyond l i h) ∙ e in let z : ◌≡◌ {A = ℕ} 0 1 = cc in omega arith

-- up to it there is one
pub elem_within : {A : Type 0} (l : List A) (i : ℕ) → i < length l → (x : A) × (get_elem? l i ≡ some x)
elem_within [] i h = absurd (omega arith)
elem_within (x ∷ l) zero h = (x, refl)
elem_within (x ∷ l) (suc i) h = elem_within l i (le_of_suc-le-suc h)

elem_front : {A : Type 0} (l m : List A) (i : ℕ) → i < length l → get_elem? (l ++ m) i ≡ get_elem? l i
elem_front [] m i h = absurd (omega arith)
elem_front (x ∷ l) m zero h = refl
elem_front (x ∷ l) m (suc i) h = elem_front l m i (le_of_suc-le-suc h)

elem_last : {A : Type 0} (l : List A) (x : A) → get_elem? (l ++ x ∷ []) (length l) ≡ some x
elem_last [] x = refl
elem_last (y ∷ l) x = elem_last l x

-- ---- what was played stays

module _ (g : Given) where
  -- the round that was just played
  pub newest : (k : ℕ) (r : Running) → get_elem? (run_round g k r).rounds (length r.rounds) ≡ some (past_in g k r)
  unfolding run_round
  newest k r = elem_last r.rounds (past_in g k r)

  record Keeps (l : List Past) (i : ℕ) (r : Running) : Type 0 where
    played : i < length r.rounds
    same : get_elem? r.rounds i ≡ get_elem? l i

  keeps_next : (l : List Past) (i k : ℕ) (r : Running) → Keeps l i r → Keeps l i (run_round g k r)
  unfolding run_round
  keeps_next l i k r now =
      record {
        played = omega (arith, now.played, rounds_more g k r);
        same = elem_front r.rounds (past_in g k r ∷ []) i now.played ∙ now.same;
      }

  stays : (most k : ℕ) (r : Running) (i : ℕ) → i < length r.rounds → get_elem? (rounds_from g most k r).running.rounds i ≡ get_elem? r.rounds i
  stays most k r i h =
      (along_rounds g (λ _ x. Keeps r.rounds i x) (λ j x now. keeps_next r.rounds i j x now) most k r (record { played = h; same = refl })).holds.same

  abbrev nth : Ended → ℕ → Option Past
  nth x i = get_elem? x.running.rounds i

  at : {x y : Ended} (i : ℕ) → x ≡ y → nth x i ≡ nth y i
  at i q = ap (λ (x : Ended). nth x i) q

  long : (k : ℕ) (r : Running) → length r.rounds ≡ k → length (run_round g k r).rounds ≡ suc k
  long k r e = rounds_more g k r ∙ omega (arith, e)

  -- ---- fewer rounds and more

  -- Of two runs from round k on, both with room for i rounds more, the i-th is the same.
  same_from : (fewer more k : ℕ) (r : Running) (i : ℕ) → length r.rounds ≡ k → i < fewer → i < more →
      get_elem? (rounds_from g fewer k r).running.rounds (k + i) ≡ get_elem? (rounds_from g more k r).running.rounds (k + i)
  same_from zero more k r i e h l = absurd (omega arith)
  same_from (suc fewer) zero k r i e h l = absurd (omega arith)
  same_from (suc fewer) (suc more) k r i e h l =
      ⊎_elim
      (λ b. at (k + i) (from_limit g fewer k r b ∙ sym (from_limit g more k r b)))
      (λ b.
      ⊎_elim
      (λ f. at (k + i) (from_next g fewer k r b f) ∙ onward i (λ j. same_from fewer more (suc k) next j (long k r e)) h l ∙ sym (at (k + i) (from_next g more k r b f)))
      (λ f. at (k + i) (from_end g fewer k r b f ∙ sym (from_end g more k r b f)))
      (two (eqb (end_after g k next) 0)))
      (two (leb g.limit r.standing.slot))
    where
      next : Running
      next = run_round g k r

      onward : (j : ℕ) →
          ((m : ℕ) → m < fewer → m < more → nth (rounds_from g fewer (suc k) next) (suc k + m) ≡ nth (rounds_from g more (suc k) next) (suc k + m)) →
          j < suc fewer → j < suc more → nth (rounds_from g fewer (suc k) next) (k + j) ≡ nth (rounds_from g more (suc k) next) (k + j)
      onward zero later h l = let q : k + 0 < length next.rounds = omega (arith, long k r e) in stays fewer (suc k) next (k + 0) q ∙ sym (stays more (suc k) next (k + 0) q)
      onward (suc j) later h l =
          let q : k + suc j ≡ suc k + j = omega arith in
          subst (λ (m : ℕ). nth (rounds_from g fewer (suc k) next) m ≡ nth (rounds_from g more (suc k) next) m) (sym q)
          (later j (le_of_suc-le-suc h) (le_of_suc-le-suc l))

  -- a run of at most m rounds has the first m of the run
  pub first_rounds : (m k : ℕ) → k < m → k < most_rounds g.proposals → get_elem? (run_for g m).running.rounds k ≡ get_elem? (run g).running.rounds k
  unfolding run_for
  first_rounds m k h l =
      let q : 0 + k ≡ k = omega arith in
      subst (λ (i : ℕ). nth (rounds_from g m 0 (begin g)) i ≡ nth (rounds_from g (most_rounds g.proposals) 0 (begin g)) i) q
      (same_from m (most_rounds g.proposals) 0 (begin g) k refl h l)

  -- and no more than m
  pub few_rounds : (m : ℕ) → length (run_for g m).running.rounds ≤ m
  unfolding run_for
  few_rounds m =
      let w = along_rounds g (λ k r. length r.rounds ≡ k) (λ k r e. rounds_more g k r ∙ omega (arith, e)) m 0 (begin g) refl in
      omega (arith, w.few, w.holds)

  -- ---- each round

  -- Of a run from round k on, the i-th round is made of where i rounds led.
  made_from : (most k : ℕ) (r : Running) (i : ℕ) (p : Past) → length r.rounds ≡ k → nth (rounds_from g most k r) (k + i) ≡ some p →
      p ≡ past_in g (k + i) (rounds_from g i k r).running
  unfolding rounds_from
  made_from zero k r i p e q = absurd (none_there r.rounds (k + i) p (omega (arith, e)) q)
  made_from (suc most) k r i p e q =
      ⊎_elim
      (λ b. absurd (none_there r.rounds (k + i) p (omega (arith, e)) (sym (at (k + i) (from_limit g most k r b)) ∙ q)))
      (λ b.
      ⊎_elim (λ f. onward i (λ j. made_from most (suc k) next j p (long k r e)) b f (sym (at (k + i) (from_next g most k r b f)) ∙ q)) (λ f. ends i (sym (at (k + i) (from_end g most k r b f)) ∙ q))
      (two (eqb (end_after g k next) 0)))
      (two (leb g.limit r.standing.slot))
    where
      next : Running
      next = run_round g k r

      -- the round just played
      this : get_elem? next.rounds (k + 0) ≡ some p → p ≡ past_in g (k + 0) r
      this s =
          let z : k + 0 ≡ length r.rounds = omega (arith, e) in
          let o : some p ≡ some (past_in g k r) = sym s ∙ ap (get_elem? next.rounds) z ∙ newest k r in
          let is : p ≡ past_in g k r = cc in
          let y : k ≡ k + 0 = omega arith in
          is ∙ ap (λ (m : ℕ). past_in g m r) y

      ends : (i : ℕ) → get_elem? next.rounds (k + i) ≡ some p → p ≡ past_in g (k + i) (rounds_from g i k r).running
      ends zero s = this s
      ends (suc j) s = absurd (none_there next.rounds (k + suc j) p (omega (arith, long k r e)) s)

      onward : (i : ℕ) → ((j : ℕ) → nth (rounds_from g most (suc k) next) (suc k + j) ≡ some p → p ≡ past_in g (suc k + j) (rounds_from g j (suc k) next).running) →
          leb g.limit r.standing.slot ≡ false → eqb (end_after g k next) 0 ≡ true → nth (rounds_from g most (suc k) next) (k + i) ≡ some p →
          p ≡ past_in g (k + i) (rounds_from g i k r).running
      onward zero later b f s = this (sym (stays most (suc k) next (k + 0) (omega (arith, long k r e))) ∙ s)
      onward (suc j) later b f s =
          let y : k + suc j ≡ suc k + j = omega arith in
          later j (ap (nth (rounds_from g most (suc k) next)) (sym y) ∙ s)
          ∙ ap₂ (λ (m : ℕ) (x : Ended). past_in g m x.running) (sym y) (sym (from_next g j k r b f))

  -- round k of a run is made of where the run of k rounds stands
  pub made_of : (most k : ℕ) (p : Past) → get_elem? (run_for g most).running.rounds k ≡ some p → p ≡ past_in g k (run_for g k).running
  unfolding run_for
  made_of most k p e =
      let q : 0 + k ≡ k = omega arith in
      made_from most 0 (begin g) k p refl (ap (nth (rounds_from g most 0 (begin g))) q ∙ e) ∙ ap (λ (m : ℕ). past_in g m (rounds_from g k 0 (begin g)).running) q
