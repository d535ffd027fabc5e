-- What the buffers hold: the terms of a log, the logs, and the numbers of the records. Assumes nothing.
use Prim.Native.Nat.{ℕ, zero, suc, ◌+◌, ◌*◌, ◌<◌}
use mathlib.Core.Path.{◌≡◌, refl, sym, ap, ◌∙◌}
use mathlib.Core.List.{List, [], ◌∷◌, ◌++◌, append-nil}
use native.Mathlib.Numerals.{add-one}
use native.Mathlib.Omega.{arith}
use lib.ListN.{length, set, drop, drop_of_length-le}
use lib.Seq.{sets, sets-eq, length-sets}
use Rattle.config.specs.Limits.{record_size}
use Rattle.random.specs.Table.{tabulate}
use Rattle.random.proofs.Tables.{length_tabulate, tabulate_snoc, get_d_tabulate}
use Rattle.phy.proofs.Snapshots.{sets_append}
use Rattle.protocol.specs.declared.state.PaxosState.{PaxosState}
use Rattle.protocol.specs.Paxos.{State, empty}
use Rattle.protocol.specs.View.{log_of, view}
use Rattle.pipeline.specs.Round.{record_triple, state_of}
use Rattle.rules.specs.Entries.{terms, logs_with, record_numbers}
use Rattle.pipeline.specs.declared.records.History.{History}
use Rattle.pipeline.specs.View.{state_in, record_at, records_of, states_of}
use Rattle.rules.proofs.ExactBuffers.{length_numbers, record_numbers_append}

-- ---- the terms of a log, one after the other
-- a list written over another of its length
pub sets_all : (l ys : List ℕ) → length ys ≡ length l → sets l 0 ys ≡ ys
sets_all l ys e =
    let none : drop (0 + length ys) l ≡ [] = drop_of_length-le l {i = 0 + length ys} (omega arith) in
    sets-eq ys l 0 (omega arith) ∙ ap (λ (rest : List ℕ). ys ++ rest) none ∙ append-nil ys

pub terms_more : (f : ℕ → ℕ) (out : List ℕ) (k : ℕ) → set (sets out 0 (tabulate k f)) k (f k) ≡ sets out 0 (tabulate (k + 1) f)
terms_more f out k =
    let place : k ≡ 0 + length (tabulate k f) = omega (arith, length_tabulate k f) in
    ap (λ (i : ℕ). set (sets out 0 (tabulate k f)) i (f k)) place
    ∙ sym (sets_append out 0 (tabulate k f) (f k ∷ []))
    ∙ ap (sets out 0) (sym (tabulate_snoc k f))

-- ---- the logs, one node after the other
pub logs_more : (old : List ℕ) (n i : ℕ) (x : List PaxosState) → i < n →
    let log = terms (log_of (state_in x i)) in
    sets (sets (logs_with old (states_of n x) i) (64 * i) log) (2048 + i) (length log ∷ []) ≡ logs_with old (states_of n x) (i + 1)
unfolding logs_with states_of
logs_more old n i x h =
    ap (λ (v : State). let log = terms v.log in sets (sets (logs_with old (states_of n x) i) (64 * i) log) (2048 + i) (length log ∷ []))
    (sym (get_d_tabulate n (λ (j : ℕ). view (state_in x j)) i empty h))
    ∙ ap (logs_with old (states_of n x)) (sym (add-one i))

pub logs_length : (old : List ℕ) (states : List State) (i : ℕ) → length (logs_with old states i) ≡ length old
unfolding logs_with
logs_length old states zero = refl
logs_length old states (suc i) =
    let log = terms (state_of states i).log in
    length-sets (sets (logs_with old states i) (64 * i) log) (2048 + i) (length log ∷ [])
    ∙ length-sets (logs_with old states i) (64 * i) log
    ∙ logs_length old states i

-- ---- the numbers of the records, one record after the other
pub numbers_more : (history : History) (out : List ℕ) (k : ℕ)
    → sets (sets out 0 (record_numbers (records_of k history))) (record_size * k) (record_triple (record_at history k)) ≡ sets out 0 (record_numbers (records_of (k + 1) history))
unfolding records_of record_numbers
numbers_more history out k =
    let done = record_numbers (tabulate k (record_at history)) in
    let three = record_triple (record_at history k) in
    let place : record_size * k ≡ 0 + length done = omega (arith, length_numbers (tabulate k (record_at history)), length_tabulate k (record_at history)) in
    ap (λ (i : ℕ). sets (sets out 0 done) i three) place
    ∙ sym (sets_append out 0 done three)
    ∙ ap (sets out 0) (sym (ap record_numbers (tabulate_snoc k (record_at history)) ∙ record_numbers_append (tabulate k (record_at history)) (record_at history k ∷ [])))
