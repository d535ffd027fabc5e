-- Laws of commits and of the searches: a term at a time, and what is newly committed. Assumes nothing.
use Rattle.std.specs.Prelude.{Option, Some, None}
use Prim.Native.Nat.{ℕ, zero, suc, ◌+◌, ◌-◌, ◌/◌, ◌%◌, ◌^◌, ◌<◌, ◌≤◌}
use mathlib.Core.Bool.{Bool, true, false, cond, ◌||◌, or-false}
use mathlib.Core.List.{List, [], ◌∷◌, ◌++◌, append-nil}
use mathlib.Core.Path.{◌≡◌, refl, sym, ap, ◌∙◌}
use mathlib.Core.Logic.{◌⊎◌, inl, inr}
use native.Mathlib.Nat.{pow-suc, lt_of_lt_of_le}
use native.Mathlib.Numerals.{add-one}
use native.Mathlib.Omega.{arith}
use borrow.Author.Tests.{eqb-true, eqb-false, ne_eqb, lt-ltb, le-ltb, ltb-true, ltb-false}
use lib.Dec.{eqb, ltb}
use lib.Pow.{pow_mono}
use Rattle.protocol.specs.Paxos.{LogEntry, Pending, State, logged, held, updated, log_entry, raise, quorum, greatest_quorum, commit_term, commit_below, newly_below, term_set, after_last, gap_in, detect_gap}
use Rattle.protocol.proofs.Places.{either}
use Rattle.protocol.proofs.Sets.{add_high, low_bit, own_bit}
use Rattle.protocol.proofs.Logs.{logged_append}

-- ---- one term more

pub commit_next : (k : ℕ) (x : State) → commit_below (k + 1) x ≡ commit_term k (commit_below k x)
unfolding commit_below
commit_next k x = rw add-one

pub newly_next : (k : ℕ) (l : List LogEntry) → newly_below (k + 1) l ≡ newly_below k l ++ cond (logged k l) [] (k ∷ [])
unfolding newly_below
newly_next k l = rw add-one

set_append : (l : List ℕ) (t : ℕ) → term_set (l ++ t ∷ []) ≡ term_set l + 2 ^ t
unfolding term_set
set_append [] t = omega arith
set_append (x ∷ l) t = omega (arith, set_append l t)

pub newly_more : (k : ℕ) (l : List LogEntry) → logged k l ≡ false → term_set (newly_below (k + 1) l) ≡ term_set (newly_below k l) + 2 ^ k
newly_more k l e = rw (newly_next k l, e) (set_append (newly_below k l) k)

pub newly_same : (k : ℕ) (l : List LogEntry) → logged k l ≡ true → newly_below (k + 1) l ≡ newly_below k l
newly_same k l e = rw (newly_next k l, e) (append-nil (newly_below k l))

-- a set of terms below k is below 2 ^ k
pub newly_lt : (k : ℕ) (l : List LogEntry) → term_set (newly_below k l) < 2 ^ k
unfolding newly_below term_set
newly_lt zero l = omega arith
newly_lt (suc k) l = go (newly_lt k l) (logged k l)
  where
    go : term_set (newly_below k l) < 2 ^ k → (b : Bool) → term_set (newly_below k l ++ cond b [] (k ∷ [])) < 2 ^ suc k
    go h true = rw (append-nil (newly_below k l)) (omega (arith, pow-suc 2 k))
    go h false = rw (set_append (newly_below k l) k) (omega (arith, pow-suc 2 k))

-- ---- what a commit leaves alone

pub one_logged : (j t : ℕ) (p : Option Pending) → eqb j t ≡ false → logged j (log_entry t p) ≡ false
unfolding logged
one_logged j t None e = refl
one_logged j t (Some p) e = rw e

-- a commit of t changes nothing of what is logged but t
pub term_other : (j t : ℕ) (x : State) → eqb j t ≡ false → logged j (commit_term t x).log ≡ logged j x.log
unfolding commit_term
term_other j t x e = go (logged t x.log)
  where
    go : (b : Bool) → logged j (cond b x (record { log = x.log ++ log_entry t (x.pending t); pending = updated t None x.pending; last = raise t x.last })).log ≡ logged j x.log
    go true = refl
    go false = logged_append j x.log (log_entry t (x.pending t)) ∙ ap (λ (b : Bool). logged j x.log || b) (one_logged j t (x.pending t) e) ∙ or-false (logged j x.log)

pub below_other : (k j : ℕ) (x : State) → k ≤ j → logged j (commit_below k x).log ≡ logged j x.log
unfolding commit_below
below_other zero j x h = refl
below_other (suc k) j x h = term_other j k (commit_below k x) (ne_eqb j k (λ q. omega arith)) ∙ below_other k j x (omega arith)

-- ---- a commit past terms that are all logged

pub commit_skip : (k : ℕ) (x : State) → ((t : ℕ) → t < k → logged t x.log ≡ true) → commit_below k x ≡ x
unfolding commit_below commit_term
commit_skip zero x h = refl
commit_skip (suc k) x h =
    ap (commit_term k) (commit_skip k x (λ t g. h t (omega arith))) ∙ rw (h k (omega arith))

-- a commit past terms that were logged before it
pub commit_past : (d t : ℕ) (x : State) → ((j : ℕ) → t ≤ j → j < t + d → logged j x.log ≡ true) → commit_below (t + d) x ≡ commit_below t x
unfolding commit_below commit_term
commit_past zero t x h =
    let e : t + zero ≡ t = omega arith in
    rw e
commit_past (suc d) t x h =
    let e : t + suc d ≡ suc (t + d) = omega arith in
    let l : logged (t + d) (commit_below (t + d) x).log ≡ true =
    below_other (t + d) (t + d) x (omega arith) ∙ h (t + d) (omega arith) (omega arith) in
    rw (e, l) (commit_past d t x (λ j a b. h j a (omega arith)))

pub newly_skip : (k : ℕ) (l : List LogEntry) → ((t : ℕ) → t < k → logged t l ≡ true) → newly_below k l ≡ []
unfolding newly_below
newly_skip zero l h = refl
newly_skip (suc k) l h = rw (newly_skip k l (λ t g. h t (omega arith)), h k (omega arith))

-- ---- what is newly committed, term by term

newly_past : (k t : ℕ) (l : List LogEntry) → k ≤ t → term_set (newly_below k l) / 2 ^ t % 2 ≡ 0
newly_past k t l h = low_bit t (term_set (newly_below k l)) (lt_of_lt_of_le (newly_lt k l) (pow_mono h))

-- bit t of the set says whether t is below k and not logged
pub newly_bit : (k t : ℕ) (l : List LogEntry) → term_set (newly_below k l) / 2 ^ t % 2 ≡ cond (ltb t k) (cond (logged t l) 0 1) 0
newly_bit zero t l = rw (le-ltb t 0 (omega arith)) (newly_past zero t l (omega arith))
newly_bit (suc k) t l = go (newly_bit k t l) (either (ltb t k)) (either (eqb t k)) (either (logged k l))
  where
    as_logged : logged k l ≡ true → newly_below (suc k) l ≡ newly_below k l
    as_logged e = ap (λ (j : ℕ). newly_below j l) (sym (add-one k)) ∙ newly_same k l e

    as_new : logged k l ≡ false → term_set (newly_below (suc k) l) ≡ term_set (newly_below k l) + 2 ^ k
    as_new e = ap (λ (j : ℕ). term_set (newly_below j l)) (sym (add-one k)) ∙ newly_more k l e

    go : term_set (newly_below k l) / 2 ^ t % 2 ≡ cond (ltb t k) (cond (logged t l) 0 1) 0 →
        (ltb t k ≡ true) ⊎ (ltb t k ≡ false) → (eqb t k ≡ true) ⊎ (eqb t k ≡ false) → (logged k l ≡ true) ⊎ (logged k l ≡ false) →
        term_set (newly_below (suc k) l) / 2 ^ t % 2 ≡ cond (ltb t (suc k)) (cond (logged t l) 0 1) 0
    go ih (inl a) b (inl e) = rw (lt-ltb t (suc k) (omega (arith, ltb-true t k a)), as_logged e) (rw a at ih)
    go ih (inl a) b (inr e) =
        rw (lt-ltb t (suc k) (omega (arith, ltb-true t k a)), as_new e)
        (add_high t k (term_set (newly_below k l)) (ltb-true t k a) ∙ (rw a at ih))
    go ih (inr a) (inl b) (inl e) =
        let q = eqb-true t k b in
        rw (lt-ltb t (suc k) (omega arith), as_logged e, q, e) (newly_past k k l (omega arith))
    go ih (inr a) (inl b) (inr e) =
        let q = eqb-true t k b in
        rw (lt-ltb t (suc k) (omega arith), as_new e, q, e) (own_bit k (term_set (newly_below k l)) (newly_lt k l))
    go ih (inr a) (inr b) e =
        let h : suc k ≤ t = omega (arith, ltb-false t k a, eqb-false t k b) in
        rw (le-ltb t (suc k) h) (newly_past (suc k) t l h)

-- ---- what the searches find

pub greatest_none : (k n : ℕ) (x : State) → ((t : ℕ) → t < k → quorum n (x.pending t) ≡ false) → greatest_quorum k n x ≡ None
unfolding greatest_quorum
greatest_none zero n x h = refl
greatest_none (suc k) n x h = rw (h k (omega arith)) (greatest_none k n x (λ t g. h t (omega arith)))

-- t has a quorum, and no greater term has one
pub greatest_is : (k n t : ℕ) (x : State) → t < k → quorum n (x.pending t) ≡ true →
    ((u : ℕ) → t < u → u < k → quorum n (x.pending u) ≡ false) → greatest_quorum k n x ≡ Some (record { 0 = t })
unfolding greatest_quorum
greatest_is zero n t x h q g = absurd (omega arith)
greatest_is (suc k) n t x h q g = go (greatest_is k n t x) (either (eqb t k))
  where
    go : (t < k → quorum n (x.pending t) ≡ true → ((u : ℕ) → t < u → u < k → quorum n (x.pending u) ≡ false) → greatest_quorum k n x ≡ Some (record { 0 = t })) →
        (eqb t k ≡ true) ⊎ (eqb t k ≡ false) →
        cond (quorum n (x.pending k)) (Some (record { 0 = k })) (greatest_quorum k n x) ≡ Some (record { 0 = t })
    go ih (inl e) = rw (← eqb-true t k e, q)
    go ih (inr e) =
        let lt : t < k = omega (arith, eqb-false t k e) in
        rw (g k lt (omega arith)) (ih lt q (λ u a b. g u a (omega arith)))

gap_in_none : (k t : ℕ) (x : State) → ((u : ℕ) → t ≤ u → u < t + k → held u x ≡ true) → gap_in k t x ≡ None
unfolding gap_in
gap_in_none zero t x h = refl
gap_in_none (suc k) t x h = rw (h t (omega arith) (omega arith)) (gap_in_none k (suc t) x (λ u a b. h u (omega arith) (omega arith)))

-- there is no gap where each term after last accepted is held
pub gap_none : (c : ℕ) (x : State) → ((t : ℕ) → after_last x.last ≤ t → t < c → held t x ≡ true) → detect_gap c x ≡ None
unfolding detect_gap
gap_none c x h = gap_in_none (c - after_last x.last) (after_last x.last) x (λ u a b. h u a (omega arith))

gap_in_is : (k t g : ℕ) (x : State) → t ≤ g → g < t + k → held g x ≡ false → ((u : ℕ) → t ≤ u → u < g → held u x ≡ true) → gap_in k t x ≡ Some (record { 0 = g })
unfolding gap_in
gap_in_is zero t g x l b e h = absurd (omega arith)
gap_in_is (suc k) t g x l b e h = go (gap_in_is k (suc t) g x) (either (eqb t g))
  where
    go : (suc t ≤ g → g < suc t + k → held g x ≡ false → ((u : ℕ) → suc t ≤ u → u < g → held u x ≡ true) → gap_in k (suc t) x ≡ Some (record { 0 = g })) →
        (eqb t g ≡ true) ⊎ (eqb t g ≡ false) → cond (held t x) (gap_in k (suc t) x) (Some (record { 0 = t })) ≡ Some (record { 0 = g })
    go ih (inl q) = rw (eqb-true t g q, e)
    go ih (inr q) =
        let lt : t < g = omega (arith, eqb-false t g q) in
        rw (h t (omega arith) lt) (ih lt (omega arith) e (λ u a. h u (omega arith)))

-- g is not held, and each term before it after last accepted is
pub gap_is : (c g : ℕ) (x : State) → after_last x.last ≤ g → g < c → held g x ≡ false → ((t : ℕ) → after_last x.last ≤ t → t < g → held t x ≡ true) →
    detect_gap c x ≡ Some (record { 0 = g })
unfolding detect_gap
gap_is c g x l b e h = gap_in_is (c - after_last x.last) (after_last x.last) g x l (omega arith) e h
