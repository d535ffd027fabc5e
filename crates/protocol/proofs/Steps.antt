-- Each function's step as the definition has it: the state that the struct then stands for, and that what held is kept.
-- Assumes nothing.
use Rattle.std.specs.Prelude.{Option, Some, None}
use Prim.Native.Nat.{ℕ, suc, ◌+◌, ◌-◌, ◌^◌, ◌<◌, ◌≤◌}
use native.Mathlib.Nat.{le_refl, lt_of_lt_of_le}
use mathlib.Core.Bool.{Bool, true, false, cond, not, ◌&&◌, ◌||◌, true≢false}
use mathlib.Core.List.{append-nil}
use mathlib.Core.Logic.{◌⊎◌, inl, inr}
use mathlib.Core.Path.{◌≡◌, refl, sym, ap, ◌∙◌}
use native.Mathlib.Omega.{arith}
use borrow.Author.Tests.{lt-ltb, le-ltb, leb-true, leb-false, le-leb, not-true}
use lib.Bits.{bit_and, bit_or}
use lib.Count.{ones}
use lib.Dec.{eqb, leb, ltb}
use lib.ListN.{length}
use lib.Pow.{pow_pos, pow_mono}
use Rattle.network.specs.Graph.{has, set_of}
use Rattle.network.proofs.Sets.{set_ext, and_both}
use Rattle.network.proofs.Lowest.{has_minus}
use Rattle.network.specs.declared.units.Term.{Term}
use Rattle.config.specs.Limits.{max_terms}
use Rattle.protocol.specs.declared.state.PaxosState.{PaxosState}
use Rattle.protocol.specs.Paxos.{Pending, State, logged, held, hold, hold_new, is_some, raise, commit_term, commit_below, newly_up_to, term_set, data_in, reply, recovery}
use Rattle.protocol.specs.View.{votes_at, data_at, entry_at, log_of, pending_of, view, data_below, Kept, Next}
use Rattle.protocol.proofs.Places.{either, same_or}
use Rattle.protocol.proofs.Logs.{or_left_false, find_by_term}
use Rattle.protocol.proofs.Words.{has_reach, reach_is}
use Rattle.protocol.proofs.Commit.{commit_next, commit_past, newly_bit, newly_lt, below_other}
use Rattle.protocol.proofs.Kept.{state_is, held_is, pending_none, raise_below, risen, risen_kept, risen_log, risen_pending, entered, entered_room, entered_view, entered_pending, entered_kept, held_at, held_log, held_pending, held_kept}

pub next_same : {P : ℕ → Type 0} {s : PaxosState} {x : State} → view s ≡ x → Next P s s x
next_same e = record { kept = λ c p k. k; is = e }

-- the same for fewer counters
pub next_if : {P Q : ℕ → Type 0} {s s' : PaxosState} {x : State} → ((c : ℕ) → Q c → P c) → Next P s s' x → Next Q s s' x
next_if f n = record { kept = λ c q k. n.kept c (f c q) k; is = n.is }

-- ---- a commit of one term

module _ (s : PaxosState) (u : Term) (m : Option Term) (k : Kept max_terms s) (free : has s.logged u.0 ≡ false) (is_last : m ≡ raise u.0 s.last_accepted) where
  raised_kept : (c : ℕ) → u.0 < c → Kept c s → Kept c (risen s m)
  raised_kept c h g = risen_kept s m g (rw is_last (raise_below c u.0 s.last_accepted h g.last_below))

  pub commit_absent : has s.pending u.0 ≡ false → Next (λ c. u.0 < c) s (risen s m) (commit_term u.0 (view s))
  unfolding commit_term
  commit_absent out =
      let absent : pending_of s u.0 ≡ None = pending_none s u.0 out in
      record {
        kept = raised_kept;
        is =
            rw (k.logged_is u.0, free)
            (state_is
            (risen_log s m ∙ rw absent (sym (append-nil (log_of s))))
            (λ j. risen_pending s m j ∙ same_or (λ (x : Bool). pending_of s j ≡ cond x None (pending_of s j)) j u.0 (λ q. rw q absent) (λ q. refl))
            is_last);
      }

  pub commit_room : u.0 < 64 → length s.log ≡ 64 → has s.pending u.0 ≡ true → ones s.logged < 64
  commit_room lt room here =
      entered_room 64 s u (ones s.logged) (s.pending - 2 ^ u.0) (bit_or s.logged (2 ^ u.0)) k here lt refl refl refl room

  pub commit_pending : (e p l : ℕ) → u.0 < 64 → length s.log ≡ 64 → has s.pending u.0 ≡ true → e ≡ ones s.logged →
      p ≡ s.pending - 2 ^ u.0 → l ≡ bit_or s.logged (2 ^ u.0) →
      Next (λ c. u.0 < c) s (risen (entered s u e p l) m) (commit_term u.0 (view s))
  unfolding commit_term
  commit_pending e p l lt room here is-e is-p is-l =
      record {
        kept = λ c h g.
            risen_kept (entered s u e p l) m (entered_kept c s u e p l g here h is-e is-p is-l room)
            (rw is_last (raise_below c u.0 s.last_accepted h g.last_below));
        is =
            rw (k.logged_is u.0, free)
            (state_is
            (risen_log (entered s u e p l) m ∙ entered_view 64 s u e p l k here lt is-e is-p is-l room)
            (λ j. risen_pending (entered s u e p l) m j ∙ entered_pending 64 s u e p l k here lt is-e is-p is-l room j)
            is_last);
      }

-- ---- a commit up to u

-- the terms up to u that are not logged
abbrev pub newly_set : ℕ → ℕ → ℕ
newly_set u s = set_of 64 (λ (t : ℕ). leb t u) - bit_and (set_of 64 (λ (t : ℕ). leb t u)) s

pub newly_word : (u s : ℕ) → u < 64 → newly_set u s < 2 ^ suc u
newly_word u s h = omega (arith, reach_is u h, pow_pos (suc u))

pub has_newly : (u s t : ℕ) → t < 64 → has (newly_set u s) t ≡ (leb t u && not (has s t))
has_newly u s t h =
    has_minus (set_of 64 (λ (k : ℕ). leb k u)) s t ∙ ap (λ (b : Bool). b && not (has s t)) (has_reach u t h)

pub newly_is : {s : PaxosState} (u : ℕ) → Kept max_terms s → u < 64 → newly_set u s.logged ≡ term_set (newly_up_to u (log_of s))
unfolding has
newly_is {s} u k h =
    set_ext 64 (lt_of_lt_of_le (newly_word u s.logged h) (pow_mono {i = suc u} {j = 64} h))
    (lt_of_lt_of_le (newly_lt (suc u) (log_of s)) (pow_mono {i = suc u} {j = 64} h))
    (λ t g.
    has_newly u s.logged t g ∙
    ap (λ (x : Bool). leb t u && not x) (sym (k.logged_is t)) ∙
    bits t (logged t (log_of s)) (either (leb t u)) ∙
    ap (λ (x : ℕ). eqb x 1) (sym (newly_bit (suc u) t (log_of s))))
  where
    bit : (x : Bool) → not x ≡ eqb (cond x 0 1) 1
    bit true = refl
    bit false = refl

    bits : (t : ℕ) (x : Bool) → (leb t u ≡ true) ⊎ (leb t u ≡ false) → (leb t u && not x) ≡ eqb (cond (ltb t (suc u)) (cond x 0 1) 0) 1
    bits t x (inl e) = rw (e, lt-ltb t (suc u) (omega (arith, leb-true t u e))) (bit x)
    bits t x (inr e) = rw (e, le-ltb t (suc u) (omega (arith, leb-false t u e)))

-- The terms below t are committed.
module _
    (s₀ s : PaxosState) (u t : ℕ) (k₀ : Kept max_terms s₀) (lt : u < 64)
    (so_far : Next (λ c. u < c) s₀ s (commit_below t (view s₀))) where
  pub turn_kept : Kept max_terms s
  turn_kept = so_far.kept 64 lt k₀

  -- t was logged at the start exactly if it is now
  was_logged : has s.logged t ≡ has s₀.logged t
  was_logged =
      sym (turn_kept.logged_is t) ∙ ap (λ (x : State). logged t x.log) so_far.is ∙
      below_other t t (view s₀) (le_refl t) ∙ k₀.logged_is t

  pub turn_free : t ≤ u → has (newly_set u s₀.logged) t ≡ true → has s.logged t ≡ false
  turn_free h e =
      was_logged ∙ not-true _ (and_both (leb t u) (not (has s₀.logged t)) (sym (has_newly u s₀.logged t (omega arith)) ∙ e)).1

  pub turn_new : (r : PaxosState) → t ≤ u → Next (λ c. t < c) s r (commit_term t (view s)) →
      Next (λ c. u < c) s₀ r (commit_below (t + 1) (view s₀))
  turn_new r h e =
      record {
        kept = λ c p g. e.kept c (omega arith) (so_far.kept c p g);
        is = e.is ∙ ap (commit_term t) so_far.is ∙ sym (commit_next t (view s₀));
      }

  -- no term from t up to below v is new
  pub turn_past : (v : ℕ) → t ≤ v → v ≤ suc u → ((j : ℕ) → t ≤ j → j < v → has (newly_set u s₀.logged) j ≡ false) →
      Next (λ c. u < c) s₀ s (commit_below v (view s₀))
  turn_past v from h none-new =
      let d = v - t in
      let e : t + d ≡ v = omega arith in
      record {
        kept = so_far.kept;
        is =
            so_far.is ∙
            sym (commit_past d t (view s₀) (λ j g l. k₀.logged_is j ∙ in_log j g (omega arith))) ∙
            ap (λ (n : ℕ). commit_below n (view s₀)) e;
      }
    where
      was_in : (x : Bool) → (true && not x) ≡ false → x ≡ true
      was_in true q = refl
      was_in false q = absurd (true≢false q)

      in_log : (j : ℕ) → t ≤ j → j < v → has s₀.logged j ≡ true
      in_log j g l =
          was_in (has s₀.logged j)
          (ap (λ (x : Bool). x && not (has s₀.logged j)) (sym (le-leb j u (omega arith))) ∙
          sym (has_newly u s₀.logged j (omega arith)) ∙ none-new j g l)

-- ---- a term becomes pending

-- a term that is not held is in neither set
pub free_logged : {c : ℕ} {s : PaxosState} (t : ℕ) → Kept c s → held t (view s) ≡ false → has s.logged t ≡ false
free_logged {c} {s} t k e = or_left_false (has s.logged t) (has s.pending t) (sym (held_is k t) ∙ e)

pub hold_next : (s : PaxosState) (t v p : ℕ) (d : Option Term) → Kept max_terms s → t < 64 → data_below d → held t (view s) ≡ false →
    p ≡ bit_or s.pending (2 ^ t) → length s.votes ≡ 64 → length s.«data» ≡ 64 → Next (λ c. t < c) s (held_at s t v p d) (hold t v d (view s))
unfolding hold
hold_next s t v p d k lt low e more room room' =
    let absent = free_logged t k e in
    record {
      kept = λ c h g. held_kept c s t v p d g absent h more low room room';
      is =
          state_is (held_log 64 s t v p d k absent lt more low room room') (held_pending 64 s t v p d k absent lt more low room room') refl;
    }

pub hold_held : (t v : ℕ) (d : Option Term) (x : State) → held t x ≡ true → x ≡ hold_new t v d x
unfolding hold_new
hold_held t v d x e = rw e

pub hold_free : (t v : ℕ) (d : Option Term) (x : State) → held t x ≡ false → hold t v d x ≡ hold_new t v d x
unfolding hold_new
hold_free t v d x e = rw e

-- ---- recovery

pub recovery_view : (s : PaxosState) (u : Term) →
    recovery (Some u) (view s) ≡ cond (held u.0 (view s)) (Some (record { term = u; «data» = (data_at s u.0) })) None
unfolding recovery log_of pending_of
recovery_view s u =
    rw (find_by_term (data_at s) u.0 (ones s.logged) (entry_at s) (λ j. refl))
    (go (logged u.0 (log_of s)) (has s.pending u.0))
  where
    one : Pending
    one = record { votes = votes_at s u.0; «data» = data_at s u.0 }

    go : (x y : Bool) → reply u.0 (data_in (cond x (Some (data_at s u.0)) None) (cond y (Some one) None)) ≡
        cond (x || is_some (cond y (Some one) None)) (Some (record { term = u; «data» = (data_at s u.0) })) None
    go true y = refl
    go false true = refl
    go false false = refl
