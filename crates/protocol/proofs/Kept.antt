-- What a kept state says, the first state, and each step on the struct: the state that it gives, and what it keeps.
-- Assumes nothing.
use Rattle.std.specs.Prelude.{Option, Some, None}
use Prim.Native.Nat.{ℕ, ◌+◌, ◌-◌, ◌^◌, ◌<◌, ◌≤◌}
use mathlib.Core.Bool.{Bool, true, false, cond, ◌||◌, or-true, or-false, true≢false}
use mathlib.Core.List.{List, [], ◌∷◌, ◌++◌}
use mathlib.Core.Logic.{⊎_elim}
use mathlib.Core.Path.{◌≡◌, refl, sym, ap, ap₂, ◌∙◌, subst}
use native.Mathlib.Nat.{le_trans}
use native.Mathlib.Omega.{arith}
use borrow.Author.Tests.{ne_eqb}
use lib.Bits.{bit_or, or_lt}
use lib.Count.{ones, ones-le}
use lib.Dec.{eqb}
use lib.ListN.{length, set}
use lib.Pow.{pow-lt}
use lib.Seq.{get_or-set_same, get_or-set_other}
use Rattle.network.specs.Graph.{has}
use Rattle.network.proofs.Sets.{has_or, has_below}
use Rattle.network.proofs.Lowest.{has_less, has_zero}
use Rattle.random.specs.Table.{tabulate}
use Rattle.random.proofs.Tables.{tabulate_cong, tabulate_snoc}
use Rattle.network.specs.declared.units.Term.{Term}
use Rattle.protocol.specs.declared.state.PaxosState.{PaxosState}
use Rattle.protocol.specs.Paxos.{LogEntry, State, empty, logged, held, is_some, updated, log_entry, raise}
use Rattle.protocol.specs.View.{term_of, no_terms, votes_at, data_at, term_at, entry_at, log_of, pending_of, view, last_below, data_below, Distinct, Kept, NoTerm}
use Rattle.protocol.proofs.Places.{either, get_d_set, same_or}
use Rattle.protocol.proofs.Logs.{logged_append, logged_each, distinct_append}
use Rattle.protocol.proofs.Words.{in_word, has_with, ones_with}

-- two states are the same field by field
pub state_is : {x y : State} → x.log ≡ y.log → ((t : ℕ) → x.pending t ≡ y.pending t) → x.last ≡ y.last → x ≡ y
state_is p q l = λ i. record { log = p i; pending = λ t. q t i; last = l i }

-- ---- terms below a counter are below a greater one

pub last_mono : (l : Option Term) {c d : ℕ} → c ≤ d → last_below c l → last_below d l
last_mono None h k = tt
last_mono (Some u) h k = le_trans k h

pub kept_mono : {c d : ℕ} {s : PaxosState} → c ≤ d → d ≤ 64 → Kept c s → Kept d s
kept_mono {s} h r k =
    record {
      room = r;
      pending_below = λ t g. k.pending_below t (le_trans h g);
      logged_below = λ t g. k.logged_below t (le_trans h g);
      last_below = last_mono s.last_accepted h k.last_below;
      pending_data = k.pending_data;
      logged_data = k.logged_data;
      apart = k.apart;
      logged_is = k.logged_is;
      distinct = k.distinct;
    }

-- ---- what a kept state says

module _ {c : ℕ} {s : PaxosState} (k : Kept c s) where
  pub logged_word : s.logged < 2 ^ 64
  logged_word = in_word 64 s.logged (λ t h. k.logged_below t (le_trans k.room h))

  pub pending_word : s.pending < 2 ^ 64
  pending_word = in_word 64 s.pending (λ t h. k.pending_below t (le_trans k.room h))

  pub log_room : ones s.logged ≤ 64
  log_room = ones-le 64 s.logged logged_word

  -- a term of the log is one of its set
  pub term_logged : (j : ℕ) → j < ones s.logged → has s.logged (term_at s j) ≡ true
  unfolding log_of
  term_logged j h = sym (k.logged_is (term_at s j)) ∙ logged_each (ones s.logged) (entry_at s) j h

  pub logged_lt : (t : ℕ) → has s.logged t ≡ true → t < 64
  logged_lt t e = has_below logged_word t e

  pub pending_lt : (t : ℕ) → has s.pending t ≡ true → t < 64
  pending_lt t e = has_below pending_word t e

pub pending_at : (s : PaxosState) (t : ℕ) → has s.pending t ≡ true → pending_of s t ≡ Some (record { votes = votes_at s t; «data» = data_at s t })
unfolding pending_of
pending_at s t e = rw e

pub pending_none : (s : PaxosState) (t : ℕ) → has s.pending t ≡ false → pending_of s t ≡ None
unfolding pending_of
pending_none s t e = rw e

module _ {c : ℕ} {s : PaxosState} (k : Kept c s) (t : ℕ) where
  -- a term is held if it is in one of the two sets
  pub held_is : held t (view s) ≡ (has s.logged t || has s.pending t)
  unfolding pending_of
  held_is = rw (k.logged_is t) (ap (λ (x : Bool). has s.logged t || x) (go (has s.pending t)))
    where
      go : (x : Bool) → is_some (cond x (Some (record { votes = votes_at s t; «data» = data_at s t })) None) ≡ x
      go true = refl
      go false = refl

  -- that is, in their union
  pub held_in : held t (view s) ≡ has (bit_or s.pending s.logged) t
  held_in = held_is ∙ or_comm (has s.logged t) (has s.pending t) ∙ sym (has_or s.pending s.logged t)
    where
      or_comm : (x y : Bool) → (x || y) ≡ (y || x)
      or_comm true true = refl
      or_comm true false = refl
      or_comm false true = refl
      or_comm false false = refl

  -- a pending term is not logged
  pub not_logged : has s.pending t ≡ true → has s.logged t ≡ false
  not_logged e = ⊎_elim (λ w. absurd (true≢false (sym e ∙ k.apart t w))) (λ w. w) (either (has s.logged t))

  -- no term from 64 on is pending
  pub pending_out : 64 ≤ t → pending_of s t ≡ None
  pending_out h = pending_none s t (k.pending_below t (le_trans k.room h))

  -- a term from the counter on is not held
  pub held_free : c ≤ t → held t (view s) ≡ false
  held_free h = held_is ∙ ap₂ ◌||◌ (k.logged_below t h) (k.pending_below t h)

-- ---- the first state

module _ {s : PaxosState} (no : NoTerm s) where
  none_logged : log_of s ≡ []
  unfolding log_of tabulate ones
  none_logged = rw no.logged

  pub first_view : view s ≡ empty
  unfolding pending_of
  first_view = state_is none_logged (λ t. rw (no.pending, has_zero t)) no.last

  pub first_kept : Kept 0 s
  unfolding logged Distinct
  first_kept =
      record {
        room = omega arith;
        pending_below = λ t g. rw no.pending (has_zero t);
        logged_below = λ t g. rw no.logged (has_zero t);
        last_below = rw no.last tt;
        pending_data = λ t g. absurd (true≢false (sym g ∙ ap (λ (x : ℕ). has x t) no.pending ∙ has_zero t));
        logged_data = λ t g. absurd (true≢false (sym g ∙ ap (λ (x : ℕ). has x t) no.logged ∙ has_zero t));
        apart = λ t g. rw no.pending (has_zero t);
        logged_is = λ t. rw (none_logged, no.logged, has_zero t);
        distinct = rw none_logged tt;
      }

pub no_terms_none : NoTerm no_terms
no_terms_none = record { pending = refl; logged = refl; last = refl }

-- ---- last accepted rises

pub raise_below : (c t : ℕ) (l : Option Term) → t < c → last_below c l → last_below c (raise t l)
raise_below c t None h k = h
raise_below c t (Some u) h k = omega (arith, h, k)

module _ (s : PaxosState) (m : Option Term) where
  abbrev pub risen : PaxosState
  risen = record { votes = s.votes; «data» = s.«data»; log = s.log; pending = s.pending; logged = s.logged; last_accepted = m }

  pub risen_log : log_of risen ≡ log_of s
  unfolding log_of
  risen_log = refl

  pub risen_pending : (t : ℕ) → pending_of risen t ≡ pending_of s t
  unfolding pending_of
  risen_pending t = refl

  pub risen_kept : {c : ℕ} → Kept c s → last_below c m → Kept c risen
  unfolding log_of
  risen_kept k h =
      record {
        room = k.room;
        pending_below = k.pending_below;
        logged_below = k.logged_below;
        last_below = h;
        pending_data = k.pending_data;
        logged_data = k.logged_data;
        apart = k.apart;
        logged_is = k.logged_is;
        distinct = k.distinct;
      }

-- ---- a pending term enters the log

module _ (s : PaxosState) (u : Term) (e p l : ℕ) where
  abbrev pub entered : PaxosState
  entered = record { votes = s.votes; «data» = s.«data»; log = set s.log e u; pending = p; logged = l; last_accepted = s.last_accepted }

module _
    (c : ℕ) (s : PaxosState) (u : Term) (e p l : ℕ) (k : Kept c s) (is_pending : has s.pending u.0 ≡ true) (h : u.0 < c)
    (end : e ≡ ones s.logged) (rest : p ≡ s.pending - 2 ^ u.0) (more : l ≡ bit_or s.logged (2 ^ u.0)) (room : length s.log ≡ 64) where
  free : has s.logged u.0 ≡ false
  free = not_logged k u.0 is_pending

  longer : ones l ≡ e + 1
  longer = ap ones more ∙ ones_with s.logged u.0 (logged_word k) (omega (arith, k.room)) free ∙ ap (λ (x : ℕ). x + 1) (sym end)

  pub entered_room : e < 64
  entered_room =
      let inside : u.0 < 64 = omega (arith, k.room) in
      omega (arith, longer, ones-le 64 l (rw more (or_lt 64 s.logged (2 ^ u.0) (logged_word k) (pow-lt inside))))

  entry : Term → LogEntry
  entry v = record { term = v.0; «data» = data_at s v.0 }

  entered_log : log_of (entered s u e p l) ≡ log_of s ++ (record { term = u.0; «data» = data_at s u.0 } ∷ [])
  unfolding log_of entry
  entered_log =
      let r = entered_room in
      ap (λ (n : ℕ). tabulate n (entry_at (entered s u e p l))) longer ∙
      tabulate_snoc e (entry_at (entered s u e p l)) ∙
      ap₂ (λ (m : List LogEntry) (x : LogEntry). m ++ (x ∷ []))
      (tabulate_cong e (entry_at (entered s u e p l)) (entry_at s) (λ j g. ap entry (get_or-set_other s.log e j u (term_of 0) (λ q. omega arith))) ∙
      ap (λ (n : ℕ). tabulate n (entry_at s)) end)
      (ap entry (get_or-set_same s.log e u (term_of 0) (omega arith)))

  pub entered_view : log_of (entered s u e p l) ≡ log_of s ++ log_entry u.0 (pending_of s u.0)
  entered_view = rw (pending_at s u.0 is_pending) entered_log

  has_rest : (j : ℕ) → has p j ≡ cond (eqb j u.0) false (has s.pending j)
  has_rest j = ap (λ (x : ℕ). has x j) rest ∙ has_less s.pending u.0 j is_pending

  has_more : (j : ℕ) → has l j ≡ (has s.logged j || eqb j u.0)
  has_more j = ap (λ (x : ℕ). has x j) more ∙ has_with s.logged u.0 j

  pub entered_pending : (j : ℕ) → pending_of (entered s u e p l) j ≡ updated u.0 None (pending_of s) j
  unfolding pending_of
  entered_pending j =
      same_or
      (λ (x : Bool). has p j ≡ cond x false (has s.pending j) → pending_of (entered s u e p l) j ≡ cond x None (pending_of s j))
      j u.0 (λ q y. rw y) (λ q y. rw y) (has_rest j)

  pub entered_kept : Kept c (entered s u e p l)
  unfolding logged
  entered_kept =
      record {
        room = k.room;
        pending_below = λ j g. has_rest j ∙ rw (ne_eqb j u.0 (λ q. omega arith)) (k.pending_below j g);
        logged_below = λ j g. has_more j ∙ rw (ne_eqb j u.0 (λ q. omega arith), k.logged_below j g);
        last_below = k.last_below;
        pending_data = λ j g.
            same_or (λ (x : Bool). cond x false (has s.pending j) ≡ true → data_below (data_at s j)) j u.0
            (λ q y. absurd (true≢false (sym y))) (λ q y. k.pending_data j y) (sym (has_rest j) ∙ g);
        logged_data = λ j g.
            same_or (λ (x : Bool). (has s.logged j || x) ≡ true → data_below (data_at s j)) j u.0
            (λ q y. rw q (k.pending_data u.0 is_pending)) (λ q y. k.logged_data j (sym (or-false (has s.logged j)) ∙ y)) (sym (has_more j) ∙ g);
        apart = λ j g.
            has_rest j ∙
            same_or (λ (x : Bool). (has s.logged j || x) ≡ true → cond x false (has s.pending j) ≡ false)
            j u.0 (λ q y. refl) (λ q y. k.apart j (sym (or-false (has s.logged j)) ∙ y))
            (sym (has_more j) ∙ g);
        logged_is = λ j.
            ap (logged j) entered_log ∙
            logged_append j (log_of s) (record { term = u.0; «data» = data_at s u.0 } ∷ []) ∙
            ap₂ ◌||◌ (k.logged_is j) (or-false (eqb j u.0)) ∙ sym (has_more j);
        distinct = rw entered_log
            (distinct_append (log_of s) (record { term = u.0; «data» = data_at s u.0 }) k.distinct (k.logged_is u.0 ∙ free));
      }

-- ---- a term becomes pending

module _ (s : PaxosState) (t v p : ℕ) (d : Option Term) where
  abbrev pub held_at : PaxosState
  held_at = record { votes = set s.votes t v; «data» = set s.«data» t d; log = s.log; pending = p; logged = s.logged; last_accepted = s.last_accepted }

module _
    (c : ℕ) (s : PaxosState) (t v p : ℕ) (d : Option Term) (k : Kept c s) (absent : has s.logged t ≡ false) (h : t < c)
    (more : p ≡ bit_or s.pending (2 ^ t)) (low : data_below d) (room : length s.votes ≡ 64) (room' : length s.«data» ≡ 64) where
  inside : t < 64
  inside = omega (arith, k.room)

  -- a logged term has its data as before
  logged_data_at : (j : ℕ) → has s.logged j ≡ true → data_at (held_at s t v p d) j ≡ data_at s j
  logged_data_at j y = get_or-set_other s.«data» t j d None (λ q. true≢false (sym y ∙ ap (has s.logged) q ∙ absent))

  pub held_log : log_of (held_at s t v p d) ≡ log_of s
  unfolding log_of
  held_log =
      tabulate_cong (ones s.logged) (entry_at (held_at s t v p d)) (entry_at s)
      (λ j g. ap (λ (x : Option Term). record { term = term_at s j; «data» = x }) (logged_data_at (term_at s j) (term_logged k j g)))

  has_held : (j : ℕ) → has p j ≡ (has s.pending j || eqb j t)
  has_held j = ap (λ (x : ℕ). has x j) more ∙ has_with s.pending t j

  pub held_pending : (j : ℕ) → pending_of (held_at s t v p d) j ≡ updated t (Some (record { votes = v; «data» = d })) (pending_of s) j
  unfolding pending_of
  held_pending j =
      let r = inside in
      rw (get_d_set s.votes t j v 0 (omega (arith, r)), get_d_set s.«data» t j d None (omega (arith, r)))
      (same_or
      (λ (x : Bool). has p j ≡ (has s.pending j || x) →
      cond (has p j) (Some (record { votes = cond x v (votes_at s j); «data» = cond x d (data_at s j) })) None ≡
      cond x (Some (record { votes = v; «data» = d })) (pending_of s j))
      j t (λ q y. rw (y, or-true (has s.pending j))) (λ q y. rw (y, or-false (has s.pending j)))
      (has_held j))

  pub held_kept : Kept c (held_at s t v p d)
  held_kept =
      record {
        room = k.room;
        pending_below = λ j g. has_held j ∙ rw (ne_eqb j t (λ q. omega arith), k.pending_below j g);
        logged_below = k.logged_below;
        last_below = k.last_below;
        pending_data = λ j g.
            let r = inside in
            rw (get_d_set s.«data» t j d None (omega (arith, r)))
            (same_or (λ (x : Bool). (has s.pending j || x) ≡ true → data_below (cond x d (data_at s j))) j t
            (λ q y. low) (λ q y. k.pending_data j (sym (or-false (has s.pending j)) ∙ y)) (sym (has_held j) ∙ g));
        logged_data = λ j g. rw (logged_data_at j g) (k.logged_data j g);
        apart = λ j g.
            let ne : j ≡ t → ⊥ = λ q. true≢false (sym g ∙ ap (has s.logged) q ∙ absent) in
            has_held j ∙ rw (ne_eqb j t ne, k.apart j g);
        logged_is = λ j. ap (logged j) held_log ∙ k.logged_is j;
        distinct = subst Distinct (sym held_log) k.distinct;
      }
