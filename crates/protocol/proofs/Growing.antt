-- A commit lets logs and last accepted only grow. Assumes nothing.
use Rattle.std.specs.Prelude.{Option, Some, None}
use Prim.Native.Nat.{ℕ}
use mathlib.Core.Bool.{Bool, true, false, cond, ◌||◌}
use mathlib.Core.List.{List, [], ◌++◌, append-nil, append_assoc}
use mathlib.Core.Path.{◌≡◌, refl, sym, ap, ◌∙◌}
use native.Mathlib.Nat.{le_trans, le_refl}
use native.Mathlib.Omega.{arith}
use Rattle.network.specs.declared.units.Term.{Term}
use Rattle.protocol.specs.Paxos.{LogEntry, State, logged, updated, log_entry, raise, commit_term}
use Rattle.protocol.specs.Growth.{Extends, Continues, Rises}
use Rattle.protocol.proofs.Logs.{logged_append}

-- ---- last accepted rises

pub rises_refl : (l : Option Term) → Rises l l
rises_refl None = tt
rises_refl (Some u) = le_refl u.0

pub rises_trans : (a b c : Option Term) → Rises a b → Rises b c → Rises a c
rises_trans None b c h g = tt
rises_trans (Some u) None c h g = absurd h
rises_trans (Some u) (Some v) None h g = absurd g
rises_trans (Some u) (Some v) (Some w) h g = le_trans h g

pub rises_raise : (t : ℕ) (l : Option Term) → Rises l (raise t l)
rises_raise t None = tt
rises_raise t (Some u) = omega arith

-- ---- a log only grows

pub continues_refl : {A : Type 0} (l : List A) → Continues l l
continues_refl l = ([], sym (append-nil l))

pub continues_trans : {A : Type 0} (a b c : List A) → Continues a b → Continues b c → Continues a c
continues_trans {A} a b c p q = (p.0 ++ q.0, q.1 ∙ ap (λ (l : List A). l ++ q.0) p.1 ∙ append_assoc a p.0 q.0)

pub extends_refl : (l : List LogEntry) → Extends l l
extends_refl l = continues_refl l

pub extends_trans : (a b c : List LogEntry) → Extends a b → Extends b c → Extends a c
extends_trans a b c p q = continues_trans a b c p q

pub extends_logged : (t : ℕ) (l m : List LogEntry) → Extends l m → logged t l ≡ true → logged t m ≡ true
extends_logged t l m p e = ap (logged t) p.1 ∙ logged_append t l p.0 ∙ ap (λ (b : Bool). b || logged t p.0) e

-- by whether t is logged
pub by_log : (P : State → Type 0) (t : ℕ) (s : State) →
    (logged t s.log ≡ true → P s) →
    (logged t s.log ≡ false → P (record { log = s.log ++ log_entry t (s.pending t); pending = updated t None s.pending; last = raise t s.last })) →
    P (commit_term t s)
unfolding commit_term
by_log P t s f g = go (logged t s.log) refl
  where
    go : (b : Bool) → logged t s.log ≡ b → P (cond b s (record { log = s.log ++ log_entry t (s.pending t); pending = updated t None s.pending; last = raise t s.last }))
    go true e = f e
    go false e = g e

pub term_extends : (t : ℕ) (s : State) → Extends s.log (commit_term t s).log
term_extends t s =
    by_log (λ (x : State). Extends s.log x.log) t s (λ e. extends_refl s.log) (λ e. (log_entry t (s.pending t), refl))

pub term_rises : (t : ℕ) (s : State) → Rises s.last (commit_term t s).last
term_rises t s =
    by_log (λ (x : State). Rises s.last x.last) t s (λ e. rises_refl s.last) (λ e. rises_raise t s.last)
