-- The lines of a sweep, one behind the other. Assumes nothing.
use Prim.Native.Nat.{ℕ, zero, suc, ◌+◌, ◌*◌, ◌≤◌, ◌<◌}
use mathlib.Core.Path.{◌≡◌, refl, sym, ap, ap₂, subst, ◌∙◌}
use mathlib.Core.List.{List, [], ◌∷◌, ◌++◌, map}
use mathlib.Core.Option.{some}
use native.Mathlib.Nat.{suc-mul}
use native.Mathlib.Numerals.{add-one}
use native.Mathlib.Omega.{arith}
use lib.ListN.{length, get_or, get_elem?, take, drop}
use lib.Seq.{sets, length-take-le, take_all, take-suc, drop-drop}
use Rattle.config.specs.Limits.{max_terms, most_rounds}
use Rattle.metrics.specs.declared.summary.Summary.{Summary}
use Rattle.phy.proofs.Snapshots.{sets_append}
use Rattle.protocol.specs.declared.state.PaxosState.{PaxosState}
use Rattle.pipeline.specs.declared.records.History.{History}
use Rattle.pipeline.specs.View.{Blank}
use Rattle.rounds.specs.declared.run.Plan.{Plan}
use Rattle.sweep.specs.Sweep.{swept_size, swept_line, swept_lines, rounds_of}
use Rattle.sweep.specs.Working.{summary_with, Sweeps, SweptTo}
use Rattle.sweep.specs.Laws.{rounds_shown}

-- ---- one run more

lines_snoc : (runs : List Summary) (s : Summary) → swept_lines (runs ++ (s ∷ [])) ≡ swept_lines runs ++ swept_line s
unfolding swept_lines
lines_snoc [] s = refl
lines_snoc (x ∷ runs) s = ap (λ (l : List ℕ). swept_line x ++ l) (lines_snoc runs s)

rounds_snoc : (runs : List Summary) (s : Summary) → rounds_of (runs ++ (s ∷ [])) ≡ rounds_of runs + s.rounds
unfolding rounds_of
rounds_snoc [] s = omega arith
rounds_snoc (x ∷ runs) s = omega (arith, rounds_snoc runs s)

map_snoc : (f : ℕ → Summary) (seeds : List ℕ) (seed : ℕ) → map f (seeds ++ (seed ∷ [])) ≡ map f seeds ++ (f seed ∷ [])
map_snoc f [] seed = refl
map_snoc f (x ∷ seeds) seed = ap (λ (l : List Summary). f x ∷ l) (map_snoc f seeds seed)

-- the runs of one seed more
runs_more : (f : ℕ → Summary) (seeds : List ℕ) (i : ℕ) → i < length seeds → map f (take (i + 1) seeds) ≡ map f (take i seeds) ++ (f (get_or seeds i 0) ∷ [])
runs_more f seeds i h =
    ap (λ (k : ℕ). map f (take k seeds)) (add-one i) ∙ ap (map f) (take-suc seeds i 0 h) ∙ map_snoc f (take i seeds) (get_or seeds i 0)

pub length_lines : (f : ℕ → Summary) (seeds : List ℕ) → length (swept_lines (map f seeds)) ≡ swept_size * length seeds
unfolding swept_lines
length_lines f [] = refl
length_lines f (x ∷ seeds) = omega (arith, length_lines f seeds)

-- ---- what is swept so far

module _ {p : Plan} {seeds table : List ℕ} where
  pub swept_none : {states : List PaxosState} {history : History} → Blank p.network.graph.nodes states history → SweptTo p seeds table 0 0 states history table
  unfolding rounds_of swept_lines
  swept_none blank = record { within = omega arith; few = omega arith; sweeps = record { sum = refl; lines = refl }; blank = blank }

  pub swept_more : {i rounds : ℕ} {states states' : List PaxosState} {history history' : History} {table' table'' : List ℕ} {s : Summary} → SweptTo p seeds table i rounds states history table' → i < length seeds
      → s ≡ summary_with p (get_or seeds i 0) → s.rounds ≤ most_rounds max_terms → Blank p.network.graph.nodes states' history' → table'' ≡ sets table' (swept_size * i) (swept_line s)
      → SweptTo p seeds table (i + 1) (rounds + s.rounds) states' history' table''
  swept_more {i} {rounds} {s = s} done h e few blank put =
      let f = summary_with p in
      let runs = map f (take i seeds) in
      let more : map f (take (i + 1) seeds) ≡ runs ++ (s ∷ []) = runs_more f seeds i h ∙ ap (λ (x : Summary). runs ++ (x ∷ [])) (sym e) in
      let place : swept_size * i ≡ 0 + length (swept_lines runs) = omega (arith, length_lines f (take i seeds), length-take-le i seeds done.within) in
      record {
        within = omega arith;
        few = omega (arith, done.few, few);
        sweeps = record {
          sum = ap (λ (m : ℕ). m + s.rounds) done.sweeps.sum ∙ sym (ap rounds_of more ∙ rounds_snoc runs s);
          lines =
              put
              ∙ ap₂ (λ (l : List ℕ) (k : ℕ). sets l k (swept_line s)) done.sweeps.lines place
              ∙ sym (sets_append table 0 (swept_lines runs) (swept_line s))
              ∙ sym (ap (λ (l : List Summary). sets table 0 (swept_lines l)) more ∙ ap (sets table 0) (lines_snoc runs s));
        };
        blank = blank;
      }

  -- the table is as long as it was
  pub swept_all : {i rounds : ℕ} {states : List PaxosState} {history : History} {table' : List ℕ} → SweptTo p seeds table i rounds states history table' → length seeds ≤ i → Sweeps p seeds table rounds table'
  swept_all {i} {rounds} {states} {history} {table'} done h =
      subst (λ (l : List ℕ). Sweeps p l table rounds table') (take_all i seeds h) done.sweeps

-- ---- a table whose first lines are these

-- line i
pub line_at : (runs : List Summary) (rest : List ℕ) (i : ℕ) (s : Summary) → get_elem? runs i ≡ some s → take swept_size (drop (swept_size * i) (swept_lines runs ++ rest)) ≡ swept_line s
unfolding swept_lines
line_at [] rest i s e = absurd (let z : ◌≡◌ {A = ℕ} 0 1 = cc in omega arith)
line_at (x ∷ runs) rest zero s e = let same : x ≡ s = cc in ap swept_line same
line_at (x ∷ runs) rest (suc i) s e =
    let place : swept_size * suc i ≡ swept_size + swept_size * i = omega arith in
    let all = swept_lines (x ∷ runs) ++ rest in
    ap (λ (k : ℕ). take swept_size (drop k all)) place
    ∙ ap (take swept_size) (sym (drop-drop (swept_size * i) swept_size all))
    ∙ line_at runs rest i s e

-- the sum of the rounds
pub rounds_shown_lem : (runs : List Summary) (rest : List ℕ) → rounds_of runs ≡ rounds_shown (length runs) (swept_lines runs ++ rest)
unfolding swept_lines rounds_of rounds_shown
rounds_shown_lem [] rest = refl
rounds_shown_lem (x ∷ runs) rest = ap (λ (m : ℕ). x.rounds + m) (rounds_shown_lem runs rest)

pub rounds_most : (f : ℕ → Summary) (most : ℕ) → ((seed : ℕ) → (f seed).rounds ≤ most) → (seeds : List ℕ) → rounds_of (map f seeds) ≤ length seeds * most
unfolding rounds_of
rounds_most f most few [] = omega arith
rounds_most f most few (x ∷ seeds) = omega (arith, few x, rounds_most f most few seeds, suc-mul (length seeds) most)
