-- A node's state in a run that loses nothing: the terms below c are logged, those from c to below m are pending. Assumes nothing.
use Rattle.std.specs.Prelude.{Option, Some, None}
use Prim.Native.Nat.{ℕ, zero, suc, ◌+◌, ◌-◌, ◌<◌, ◌≤◌, max}
use mathlib.Core.Bool.{Bool, true, false, cond, ◌&&◌, ◌||◌}
use mathlib.Core.List.{List, [], ◌∷◌, ◌++◌}
use mathlib.Core.Logic.{◌⊎◌, inl, inr, ⊎_elim}
use mathlib.Core.Path.{◌≡◌, refl, sym, ap, ap₂, ◌∙◌, subst}
use native.Mathlib.Omega.{arith}
use borrow.Author.Tests.{eqb-true, eqb-false, lt-ltb, le-ltb, ltb-true, ltb-false, le-leb, lt-leb}
use lib.Dec.{leb, ltb, eqb}
use Rattle.network.specs.declared.units.Term.{Term}
use Rattle.protocol.specs.Paxos.{LogEntry, Pending, State, union, logged, is_some, held, updated, hold, voted, merge_votes_up_to, majority, size, quorum, greatest_quorum, log_entry, raise, after_last, commit_term, commit_below, commit_to, gap_in, detect_gap}
use Rattle.protocol.specs.Growth.{data_for}
use Rattle.protocol.proofs.Places.{either, same_or}
use Rattle.protocol.proofs.Logs.{logged_append}
use Rattle.protocol.proofs.Kept.{state_is}

-- the log of the terms below c, each with its data
abbrev pub entry_of : ℕ → LogEntry
entry_of t = record { term = t; «data» = data_for t }

unfoldable pub entries : ℕ → List LogEntry
entries zero = []
entries (suc c) = entries c ++ (entry_of c ∷ [])

-- term t with the votes v
abbrev pub waiting : ℕ → ℕ → Option Pending
waiting t v = Some (record { votes = v; «data» = data_for t })

unfoldable pub waits : ℕ → ℕ → (ℕ → ℕ) → ℕ → Option Pending
waits c m v t = cond (leb c t && ltb t m) (waiting t (v t)) None

-- last accepted where the terms below c are
abbrev pub last_of : ℕ → Option Term
last_of zero = None
last_of (suc t) = Some (record { 0 = t })

-- the terms below c are logged, those from c to below m are pending, term t with the votes v t
abbrev pub state_with : ℕ → ℕ → (ℕ → ℕ) → State
state_with c m v = record { log = entries c; pending = waits c m v; last = last_of c }

-- ---- what is pending

module _ (c m : ℕ) (v : ℕ → ℕ) (t : ℕ) where
  pub waits_in : c ≤ t → t < m → waits c m v t ≡ waiting t (v t)
  unfolding waits
  waits_in h l = rw (le-leb c t h, lt-ltb t m l)

  pub waits_low : t < c → waits c m v t ≡ None
  unfolding waits
  waits_low h = rw (lt-leb c t h)

  pub waits_high : m ≤ t → waits c m v t ≡ None
  unfolding waits
  waits_high h = rw (le-ltb t m h) (go (leb c t))
    where
      go : (b : Bool) → cond (b && false) (waiting t (v t)) None ≡ None
      go true = refl
      go false = refl

  -- the three places that a term can have
  pub place : (P : Option Pending → Type 0) → (t < c → P None) → (c ≤ t → t < m → P (waiting t (v t))) → (m ≤ t → P None) → P (waits c m v t)
  place P low mid high =
      ⊎_elim (λ e. let h = ltb-true t c e in rw (waits_low h) (low h))
      (λ e. let h = ltb-false t c e in ⊎_elim (λ f. let l = ltb-true t m f in rw (waits_in h l) (mid h l)) (λ f. let l = ltb-false t m f in rw (waits_high l) (high l)) (either (ltb t m)))
      (either (ltb t c))

-- only the votes of pending terms count
pub node_votes : (c m : ℕ) (v w : ℕ → ℕ) → ((t : ℕ) → c ≤ t → t < m → v t ≡ w t) → state_with c m v ≡ state_with c m w
node_votes c m v w h =
    state_is refl
    (λ t. place c m v t (λ (o : Option Pending). o ≡ waits c m w t) (λ l. sym (waits_low c m w t l)) (λ a b. ap (waiting t) (h t a b) ∙ sym (waits_in c m w t a b)) (λ l. sym (waits_high c m w t l)))
    refl

-- ---- what is logged

pub logged_entries : (t c : ℕ) → logged t (entries c) ≡ ltb t c
unfolding entries logged
logged_entries t zero = sym (le-ltb t 0 (omega arith))
logged_entries t (suc c) =
    logged_append t (entries c) (entry_of c ∷ [])
    ∙ ap (λ (b : Bool). b || (eqb t c || false)) (logged_entries t c)
    ∙ go (either (ltb t c)) (either (eqb t c))
  where
    go : (ltb t c ≡ true) ⊎ (ltb t c ≡ false) → (eqb t c ≡ true) ⊎ (eqb t c ≡ false) → (ltb t c || (eqb t c || false)) ≡ ltb t (suc c)
    go (inl p) q = rw (p, lt-ltb t (suc c) (omega (arith, ltb-true t c p)))
    go (inr p) (inl q) = rw (p, q, lt-ltb t (suc c) (omega (arith, eqb-true t c q)))
    go (inr p) (inr q) = rw (p, q, le-ltb t (suc c) (omega (arith, ltb-false t c p, eqb-false t c q)))

pub is_logged : (t c : ℕ) → t < c → logged t (entries c) ≡ true
is_logged t c h = logged_entries t c ∙ lt-ltb t c h

pub entry_free : (t c : ℕ) → c ≤ t → logged t (entries c) ≡ false
entry_free t c h = logged_entries t c ∙ le-ltb t c h

-- ---- what is held

module _ (c m : ℕ) (v : ℕ → ℕ) where
  -- it is not held before
  pub not_held : c ≤ m → held m (state_with c m v) ≡ false
  not_held h = ap₂ ◌||◌ (entry_free m c h) (ap is_some (waits_high c m v m (omega arith)))

  -- a pending term is held
  pub is_held : (t : ℕ) → c ≤ t → t < m → held t (state_with c m v) ≡ true
  is_held t h l = ap₂ ◌||◌ (entry_free t c h) (ap is_some (waits_in c m v t h l))

-- ---- commits

-- the next term is committed
pub commit_one : (c m : ℕ) (v : ℕ → ℕ) → c < m → commit_term c (state_with c m v) ≡ state_with (suc c) m v
unfolding commit_term entries
commit_one c m v h =
    ap (λ (b : Bool). cond b (state_with c m v) (record { log = entries c ++ log_entry c (waits c m v c); pending = updated c None (waits c m v); last = raise c (last_of c) })) (entry_free c c (omega arith))
    ∙ state_is (ap (λ (o : Option Pending). entries c ++ log_entry c o) (waits_in c m v c (omega arith) h)) left (raised c)
  where
    left : (t : ℕ) → updated c None (waits c m v) t ≡ waits (suc c) m v t
    left t =
        same_or (λ (b : Bool). cond b None (waits c m v t) ≡ waits (suc c) m v t) t c (λ q. sym (waits_low (suc c) m v t (omega arith)))
        (λ q.
        let ne : t ≡ c → ⊥ = eqb-false t c q in
        place c m v t (λ (o : Option Pending). o ≡ waits (suc c) m v t) (λ l. sym (waits_low (suc c) m v t (omega arith)))
        (λ a b. sym (waits_in (suc c) m v t (omega (arith, ne)) b)) (λ l. sym (waits_high (suc c) m v t l)))

    raised : (c : ℕ) → raise c (last_of c) ≡ last_of (suc c)
    raised zero = refl
    raised (suc c) = ap (λ (x : ℕ). Some (record { 0 = x })) (omega arith)

commit_old : (j c m : ℕ) (v : ℕ → ℕ) → j < c → commit_term j (state_with c m v) ≡ state_with c m v
unfolding commit_term
commit_old j c m v l = rw (is_logged j c l)

-- a commit of the terms below j
pub commit_below_lem : (j c m : ℕ) (v : ℕ → ℕ) → j ≤ m → commit_below j (state_with c m v) ≡ state_with (max c j) m v
unfolding commit_below
commit_below_lem zero c m v h = ap (λ (x : ℕ). state_with x m v) (omega arith)
commit_below_lem (suc j) c m v h =
    ap (commit_term j) (commit_below_lem j c m v (omega arith)) ∙ ⊎_elim (λ e. old (ltb-true j c e)) (λ e. next (ltb-false j c e)) (either (ltb j c))
  where
    old : j < c → commit_term j (state_with (max c j) m v) ≡ state_with (max c (suc j)) m v
    old l =
        let a : max c j ≡ c = omega arith in
        let b : max c (suc j) ≡ c = omega arith in
        rw (a, b) (commit_old j c m v l)

    next : c ≤ j → commit_term j (state_with (max c j) m v) ≡ state_with (max c (suc j)) m v
    next l =
        let a : max c j ≡ j = omega arith in
        let b : max c (suc j) ≡ suc j = omega arith in
        rw (a, b) (commit_one j m v (omega arith))

pub commit_last : (d c m : ℕ) (v : ℕ → ℕ) → c ≤ d → d ≤ m → commit_to (last_of d) (state_with c m v) ≡ state_with d m v
unfolding commit_to
commit_last zero c m v l h = ap (λ (x : ℕ). state_with x m v) (omega arith)
commit_last (suc d) c m v l h = commit_below_lem (suc d) c m v h ∙ ap (λ (x : ℕ). state_with x m v) (omega arith)

-- ---- no gap

no_gap_in : (k t m c : ℕ) (v : ℕ → ℕ) → c ≤ t → t + k ≤ m → gap_in k t (state_with c m v) ≡ None
unfolding gap_in
no_gap_in zero t m c v l h = refl
no_gap_in (suc k) t m c v l h = ap (λ (b : Bool). cond b (gap_in k (suc t) (state_with c m v)) (Some (record { 0 = t }))) (is_held c m v t l (omega arith)) ∙ no_gap_in k (suc t) m c v (omega arith) (omega arith)

pub no_gap : (c m : ℕ) (v : ℕ → ℕ) → c ≤ m → detect_gap m (state_with c m v) ≡ None
unfolding detect_gap
no_gap c m v h = go c h
  where
    go : (d : ℕ) → d ≤ m → gap_in (m - after_last (last_of d)) (after_last (last_of d)) (state_with d m v) ≡ None
    go zero l = no_gap_in (m - 0) 0 m 0 v (omega arith) (omega arith)
    go (suc d) l = no_gap_in (m - (d + 1)) (d + 1) m (suc d) v (omega arith) (omega arith)

-- ---- a new proposal, and votes

module _ (c m : ℕ) (v : ℕ → ℕ) where
  -- term m becomes pending
  pub hold_claimed : (w : ℕ → ℕ) (x : ℕ) → c ≤ m → ((t : ℕ) → t < m → v t ≡ w t) → x ≡ w m → hold m x (data_for m) (state_with c m v) ≡ state_with c (suc m) w
  unfolding hold
  hold_claimed w x l same own = state_is refl there refl
    where
      there : (t : ℕ) → updated m (waiting m x) (waits c m v) t ≡ waits c (suc m) w t
      there t =
          same_or (λ (b : Bool). cond b (waiting m x) (waits c m v t) ≡ waits c (suc m) w t) t m
          (λ q. subst (λ (y : ℕ). waiting m x ≡ waits c (suc m) w y) (sym q) (ap (waiting m) own ∙ sym (waits_in c (suc m) w m l (omega arith))))
          (λ q.
          let ne : t ≡ m → ⊥ = eqb-false t m q in
          place c m v t (λ (o : Option Pending). o ≡ waits c (suc m) w t) (λ a. sym (waits_low c (suc m) w t a))
          (λ a b. ap (waiting t) (same t b) ∙ sym (waits_in c (suc m) w t a (omega arith))) (λ a. sym (waits_high c (suc m) w t (omega (arith, ne)))))

  -- votes for every pending term
  pub merge_all : (u f : ℕ) → m ≤ suc u → merge_votes_up_to u f (state_with c m v) ≡ state_with c m (λ t. union (v t) f)
  unfolding merge_votes_up_to
  merge_all u f h = state_is refl there refl
    where
      there : (t : ℕ) → voted (leb t u) f (waits c m v t) ≡ waits c m (λ t. union (v t) f) t
      there t =
          place c m v t (λ (o : Option Pending). voted (leb t u) f o ≡ waits c m (λ t. union (v t) f) t) (λ l. sym (waits_low c m (λ t. union (v t) f) t l))
          (λ a b. rw (le-leb t u (omega arith)) (sym (waits_in c m (λ t. union (v t) f) t a b))) (λ l. sym (waits_high c m (λ t. union (v t) f) t l))

  -- ---- quorums

  -- the greatest pending quorum below k when only term t has one
  pub quorum_none : (n k : ℕ) → ((t : ℕ) → c ≤ t → t < m → size (v t) < majority n) → greatest_quorum k n (state_with c m v) ≡ None
  unfolding greatest_quorum
  quorum_none n zero few = refl
  quorum_none n (suc k) few =
      place c m v k (λ (o : Option Pending). cond (quorum n o) (Some (record { 0 = k })) (greatest_quorum k n (state_with c m v)) ≡ None)
      (λ l. quorum_none n k few) (λ a b. rw (lt-leb (majority n) (size (v k)) (few k a b)) (quorum_none n k few)) (λ l. quorum_none n k few)

  pub quorum_one : (n k q : ℕ) → c ≤ q → q < m → q < k → majority n ≤ size (v q) → ((t : ℕ) → q < t → t < m → size (v t) < majority n)
      → greatest_quorum k n (state_with c m v) ≡ Some (record { 0 = q })
  unfolding greatest_quorum
  quorum_one n zero q a b l many few = absurd (omega arith)
  quorum_one n (suc k) q a b l many few =
      ⊎_elim (λ e. is (eqb-true q k e)) (λ e. on (quorum_one n k q a b) (eqb-false q k e)) (either (eqb q k))
    where
      P : Option Pending → Type 0
      P o = cond (quorum n o) (Some (record { 0 = k })) (greatest_quorum k n (state_with c m v)) ≡ Some (record { 0 = q })

      is : q ≡ k → P (waits c m v k)
      is e = subst (λ (x : ℕ). cond (quorum n (waits c m v x)) (Some (record { 0 = x })) (greatest_quorum x n (state_with c m v)) ≡ Some (record { 0 = q })) e
          (rw (waits_in c m v q a b, le-leb (majority n) (size (v q)) many))

      on : (q < k → majority n ≤ size (v q) → ((t : ℕ) → q < t → t < m → size (v t) < majority n) → greatest_quorum k n (state_with c m v) ≡ Some (record { 0 = q })) → (q ≡ k → ⊥) → P (waits c m v k)
      on ih ne =
          let less : q < k = omega (arith, ne) in
          let done = ih less many few in
          place c m v k P (λ x. done) (λ x y. rw (lt-leb (majority n) (size (v k)) (few k less y)) done) (λ x. done)
