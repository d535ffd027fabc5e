-- The two turns of a node in round k of a run that loses nothing. Assumes nothing.
use Rattle.std.specs.Prelude.{Option, None}
use Prim.Native.Nat.{ℕ, suc, ◌+◌, ◌-◌, ◌/◌, ◌%◌, ◌^◌, ◌<◌, ◌≤◌, min}
use mathlib.Core.Bool.{Bool, true, false, cond}
use mathlib.Core.List.{List}
use mathlib.Core.Logic.{⊎_elim}
use mathlib.Core.Path.{◌≡◌, refl, sym, ap, ap₂, ◌∙◌}
use native.Mathlib.Nat.{mod-lt}
use native.Mathlib.Omega.{arith}
use borrow.Author.Tests.{lt-ltb, le-ltb, ltb-true, ltb-false}
use lib.Dec.{ltb}
use Rattle.network.specs.declared.units.Term.{Term}
use Rattle.phy.specs.declared.packet.Packet.{Packet}
use Rattle.protocol.specs.Paxos.{Pending, State, union, vote, size, hold_new, merge_votes_up_to, commit_to, newly_to, detect_gap, recovery}
use Rattle.protocol.specs.Turns.{Initiated, Participated, propose, current_term_of, proposal_data_of, nack, votes_of, quorum_term, packet_of, announce, initiator_turn, take_data, take_piggyback, take_votes, participant_turn}
use Rattle.protocol.specs.Growth.{data_for}
use Rattle.protocol.proofs.Places.{either}
use Rattle.protocol.proofs.Sets.{union_lt, union_assoc}
use Rattle.rules.proofs.Votes.{union_same, union_none, union_twice, union_swap, vote_lt, starters, starters_lt, starters_split, size_starters}
use Rattle.rules.proofs.Claimed.{last_of, entries, waits, state_with, waits_in, node_votes, not_held, is_held, commit_last, no_gap, hold_claimed, merge_all, quorum_none, quorum_one}

-- Round k is one of the P + n / 2 rounds of a run of n nodes with P proposals.
pub record Fits (n P k : ℕ) : Type 0 where
  pub two : 2 ≤ n
  pub narrow : n ≤ 64
  pub few : P ≤ 64
  pub early : k < P + n / 2

-- ---- what is claimed

-- after k rounds node i's votes for a pending term are those of the initiators since its proposal, and its own
unfoldable pub votes_after : ℕ → ℕ → ℕ → ℕ → ℕ
votes_after n k i t = union (starters n t (k - t)) (vote i)

-- after k rounds the terms below k - n / 2 are logged, and the others of min k P are pending
unfoldable pub claimed : ℕ → ℕ → ℕ → ℕ → State
claimed n P k i = state_with (k - n / 2) (min k P) (votes_after n k i)

-- the votes of round k's initiator for a pending term
unfoldable pub own_votes : ℕ → ℕ → ℕ → ℕ
own_votes n k t = starters n t (suc k - t)

-- its state after its turn, and its packet
unfoldable pub announced : ℕ → ℕ → ℕ → State
announced n P k = state_with (suc k - n / 2) (min (suc k) P) (own_votes n k)

abbrev pub proposes_at : ℕ → ℕ → Bool
proposes_at P k = ltb (min k P) P

abbrev pub term_in : ℕ → ℕ → ℕ
term_in P k = current_term_of (proposes_at P k) (min k P)

unfoldable pub sent : ℕ → ℕ → ℕ → Packet
sent n P k = packet_of (k % n) (term_in P k) None (proposal_data_of (proposes_at P k) (min k P)) None (announced n P k)

-- ---- votes

-- one round more
pub starters_next : (n t k : ℕ) → t ≤ k → starters n t (suc k - t) ≡ union (starters n t (k - t)) (vote (k % n))
unfolding starters
starters_next n t k h =
    let e : suc k - t ≡ suc (k - t) = omega arith in
    let f : t + (k - t) ≡ k = omega arith in
    rw (e, f)

-- the initiators from a later round on add the last one at most
pub starters_join : (n t u k : ℕ) → t ≤ u → u ≤ k → union (starters n t (k - t)) (starters n u (suc k - u)) ≡ starters n t (suc k - t)
starters_join n t u k h l =
    let from : ℕ → ℕ = starters n u in
    let a : ℕ = starters n t (u - t) in
    let b : ℕ = starters n u (k - u) in
    let v : ℕ = vote (k % n) in
    let e : k - t ≡ u - t + (k - u) = omega arith in
    let f : t + (u - t) ≡ u = omega arith in
    let early : starters n t (k - t) ≡ union a b = ap (starters n t) e ∙ starters_split n t (u - t) (k - u) ∙ ap (λ (x : ℕ). union a (starters n x (k - u))) f in
    ap₂ union early (starters_next n u k l)
    ∙ union_assoc a b (union b v)
    ∙ ap (union a) (sym (union_assoc b b v) ∙ ap (λ (x : ℕ). union x v) (union_same b (starters_lt n u (k - u))))
    ∙ sym (union_assoc a b v)
    ∙ ap (λ (x : ℕ). union x v) (sym early)
    ∙ sym (starters_next n t k (omega arith))

-- data of a term that is held, and no data
take_held : (c m : ℕ) (v : ℕ → ℕ) (t x : ℕ) → c ≤ t → t < m → take_data t x (data_for t) (state_with c m v) ≡ state_with c m v
unfolding take_data hold_new
take_held c m v t x h l = rw (is_held c m v t h l)

take_none : (t x : ℕ) (s : State) → take_data t x None s ≡ s
unfolding take_data
take_none t x s = refl

module _ {n P k : ℕ} (f : Fits n P k) where
  starter_lt : vote (k % n) < 2 ^ 64
  starter_lt = vote_lt (k % n) (omega (arith, mod-lt k {m = n} (omega arith)))

  -- the initiator's own votes
  own_next : (t : ℕ) → t < k → votes_after n k (k % n) t ≡ own_votes n k t
  unfolding votes_after own_votes
  own_next t h = sym (starters_next n t k (omega arith))

  own_first : vote (k % n) ≡ own_votes n k k
  unfolding own_votes starters
  own_first =
      let e : k - k ≡ 0 = omega arith in
      sym (starters_next n k k (omega arith) ∙ ap (λ (x : ℕ). union (starters n k x) (vote (k % n))) e ∙ union_none (vote (k % n)) starter_lt)

  -- ---- the initiator's turn

  proposed : propose (proposes_at P k) (k % n) (min k P) (claimed n P k (k % n)) ≡ state_with (k - n / 2) (min (suc k) P) (own_votes n k)
  unfolding claimed
  proposed = ⊎_elim (λ e. new (ltb-true k P e)) (λ e. old (ltb-false k P e)) (either (ltb k P))
    where
      new : k < P → propose (proposes_at P k) (k % n) (min k P) (state_with (k - n / 2) (min k P) (votes_after n k (k % n))) ≡ state_with (k - n / 2) (min (suc k) P) (own_votes n k)
      new h =
          let a : min k P ≡ k = omega arith in
          let b : min (suc k) P ≡ suc k = omega arith in
          rw (a, b, lt-ltb k P h) (hold_claimed (k - n / 2) k (votes_after n k (k % n)) (own_votes n k) (vote (k % n)) (omega arith) own_next own_first)

      old : P ≤ k → propose (proposes_at P k) (k % n) (min k P) (state_with (k - n / 2) (min k P) (votes_after n k (k % n))) ≡ state_with (k - n / 2) (min (suc k) P) (own_votes n k)
      old h =
          let a : min k P ≡ P = omega arith in
          let b : min (suc k) P ≡ P = omega arith in
          rw (a, b, le-ltb P P (omega arith)) (node_votes (k - n / 2) P (votes_after n k (k % n)) (own_votes n k) (λ t c m. own_next t (omega arith)))

  -- as many votes as rounds since the proposal
  votes_many : (t : ℕ) → k - n / 2 ≤ t → t < min (suc k) P → size (own_votes n k t) ≡ suc k - t
  unfolding own_votes
  votes_many t h l = size_starters n t (suc k - t) (omega arith) f.narrow (omega arith)

  accepts : quorum_term n (state_with (k - n / 2) (min (suc k) P) (own_votes n k)) ≡ last_of (suc k - n / 2)
  accepts = ⊎_elim (λ e. early (ltb-true k (n / 2) e)) (λ e. late (ltb-false k (n / 2) e)) (either (ltb k (n / 2)))
    where
      early : k < n / 2 → quorum_term n (state_with (k - n / 2) (min (suc k) P) (own_votes n k)) ≡ last_of (suc k - n / 2)
      early h =
          let a : suc k - n / 2 ≡ 0 = omega arith in
          rw a (quorum_none (k - n / 2) (min (suc k) P) (own_votes n k) n 64 (λ t c m. omega (arith, votes_many t c m)))

      late : n / 2 ≤ k → quorum_term n (state_with (k - n / 2) (min (suc k) P) (own_votes n k)) ≡ last_of (suc k - n / 2)
      late h =
          let a : suc k - n / 2 ≡ suc (k - n / 2) = omega arith in
          let q : k - n / 2 < min (suc k) P = omega arith in
          rw a
          (quorum_one (k - n / 2) (min (suc k) P) (own_votes n k) n 64 (k - n / 2) (omega arith) q (omega arith)
          (omega (arith, votes_many (k - n / 2) (omega arith) q)) (λ t c m. omega (arith, votes_many t (omega arith) m)))

  pub initiated : initiator_turn (k % n) n (min k P) (proposes_at P k) None (claimed n P k (k % n))
      ≡ record { state = announced n P k; packet = sent n P k; newly = newly_to (last_of (suc k - n / 2)) (entries (k - n / 2)) }
  unfolding initiator_turn announce announced sent
  initiated =
      let i : ℕ = k % n in
      let t : ℕ = term_in P k in
      let d : Option Term = proposal_data_of (proposes_at P k) (min k P) in
      let x : State = state_with (k - n / 2) (min (suc k) P) (own_votes n k) in
      ap₂ (λ (g : Option Term) (s : State). announce i n t (nack g) d None s) gap proposed
      ∙ ap (λ (l : Option Term). said i t d (commit_to l x) (newly_to l (entries (k - n / 2)))) accepts
      ∙ ap (λ (s : State). said i t d s (newly_to (last_of (suc k - n / 2)) (entries (k - n / 2)))) (commit_last (suc k - n / 2) (k - n / 2) (min (suc k) P) (own_votes n k) (omega arith) (omega arith))
    where
      said : ℕ → ℕ → Option Term → State → List ℕ → Initiated
      said i t d s newly = record { state = s; packet = packet_of i t None d None s; newly = newly }

      gap : detect_gap (min k P) (claimed n P k (k % n)) ≡ None
      gap = unfold claimed in no_gap (k - n / 2) (min k P) (votes_after n k (k % n)) (omega arith)

  -- ---- a participant's turn

  -- the current term is the last proposal's
  term_is : term_in P k ≡ min k (P - 1)
  term_is = ⊎_elim (λ e. new (ltb-true k P e)) (λ e. old (ltb-false k P e)) (either (ltb k P))
    where
      new : k < P → term_in P k ≡ min k (P - 1)
      new h =
          let a : min k P ≡ k = omega arith in
          let b : min k (P - 1) ≡ k = omega arith in
          rw (a, b, lt-ltb k P h)

      old : P ≤ k → term_in P k ≡ min k (P - 1)
      old h =
          let a : min k P ≡ P = omega arith in
          let b : min k (P - 1) ≡ P - 1 = omega arith in
          rw (a, b, le-ltb P P (omega arith))

  flags : ℕ
  unfolding sent
  flags = (sent n P k).flags_bitmap

  flags_lt : flags < 2 ^ 64
  unfolding flags sent
  flags_lt = union_lt _ _

  -- the packet's flags, where its term is still pending
  flags_are : (u : ℕ) → u ≡ term_in P k → suc k - n / 2 ≤ u → u < min (suc k) P → flags ≡ own_votes n k u
  unfolding flags sent announced
  flags_are u e h l =
      ap (λ (x : ℕ). union (votes_of (waits (suc k - n / 2) (min (suc k) P) (own_votes n k) x)) (vote (k % n))) (sym e)
      ∙ ap (λ (o : Option Pending). union (votes_of o) (vote (k % n))) (waits_in (suc k - n / 2) (min (suc k) P) (own_votes n k) u h l)
      ∙ unfold own_votes in (ap (λ (x : ℕ). union x (vote (k % n))) (starters_next n u k (omega arith)) ∙ union_twice (starters n u (k - u)) (vote (k % n)) starter_lt ∙ sym (starters_next n u k (omega arith)))

  -- votes that come to those claimed
  merged : (i : ℕ) (v : ℕ → ℕ)
      → ((t : ℕ) → suc k - n / 2 ≤ t → t < min (suc k) P → union (union (v t) flags) (vote i) ≡ votes_after n (suc k) i t)
      → merge_votes_up_to (term_in P k) (vote i) (merge_votes_up_to (term_in P k) flags (state_with (suc k - n / 2) (min (suc k) P) v)) ≡ claimed n P (suc k) i
  unfolding claimed
  merged i v same =
      let c : ℕ = suc k - n / 2 in
      let m : ℕ = min (suc k) P in
      let most : min (suc k) P ≤ suc (term_in P k) = omega (arith, term_is) in
      ap (merge_votes_up_to (term_in P k) (vote i)) (merge_all c m v (term_in P k) flags most)
      ∙ merge_all c m (λ t. union (v t) flags) (term_in P k) (vote i) most
      ∙ node_votes c m (λ t. union (union (v t) flags) (vote i)) (votes_after n (suc k) i) same

  data_at_lem : Option Term
  data_at_lem = proposal_data_of (proposes_at P k) (min k P)

  -- the votes' part of a turn
  took : (i : ℕ) (s : State) → take_votes i (sent n P k) s
      ≡ merge_votes_up_to (term_in P k) (vote i) (merge_votes_up_to (term_in P k) flags (take_data (term_in P k) flags data_at_lem (commit_to (last_of (suc k - n / 2)) s)))
  unfolding take_votes sent announced flags data_at_lem
  took i s = refl

  taking : (v : ℕ → ℕ) → take_data (term_in P k) flags data_at_lem (state_with (suc k - n / 2) (min k P) v)
      ≡ state_with (suc k - n / 2) (min (suc k) P) (λ t. cond (ltb t k) (v t) flags)
  unfolding data_at_lem take_data hold_new
  taking v = ⊎_elim (λ e. new (ltb-true k P e)) (λ e. old (ltb-false k P e)) (either (ltb k P))
    where
      next : ℕ → ℕ
      next t = cond (ltb t k) (v t) flags

      new : k < P → take_data (term_in P k) flags (proposal_data_of (proposes_at P k) (min k P)) (state_with (suc k - n / 2) (min k P) v) ≡ state_with (suc k - n / 2) (min (suc k) P) next
      new h =
          let a : min k P ≡ k = omega arith in
          let b : min (suc k) P ≡ suc k = omega arith in
          rw (a, b, lt-ltb k P h)
          (rw (not_held (suc k - n / 2) k v (omega arith))
          (hold_claimed (suc k - n / 2) k v next flags (omega arith) (λ t l. sym (rw (lt-ltb t k l))) (sym (rw (le-ltb k k (omega arith))))))

      old : P ≤ k → take_data (term_in P k) flags (proposal_data_of (proposes_at P k) (min k P)) (state_with (suc k - n / 2) (min k P) v) ≡ state_with (suc k - n / 2) (min (suc k) P) next
      old h =
          let a : min k P ≡ P = omega arith in
          let b : min (suc k) P ≡ P = omega arith in
          rw (a, b, le-ltb P P (omega arith)) (node_votes (suc k - n / 2) P v next (λ t c m. let l : t < k = omega arith in sym (rw (lt-ltb t k l))))

  -- a node that is not the initiator
  votes_other : (i : ℕ) → i < n → take_votes i (sent n P k) (claimed n P k i) ≡ claimed n P (suc k) i
  votes_other i h =
      took i (claimed n P k i)
      ∙ ap (λ (s : State). merge_votes_up_to (term_in P k) (vote i) (merge_votes_up_to (term_in P k) flags (take_data (term_in P k) flags data_at_lem s))) committed
      ∙ ap (λ (s : State). merge_votes_up_to (term_in P k) (vote i) (merge_votes_up_to (term_in P k) flags s)) (taking (votes_after n k i))
      ∙ merged i (λ t. cond (ltb t k) (votes_after n k i t) flags) (λ t c m. ⊎_elim (earlier t c m) (own t c m) (either (ltb t k)))
    where
      committed : commit_to (last_of (suc k - n / 2)) (claimed n P k i) ≡ state_with (suc k - n / 2) (min k P) (votes_after n k i)
      committed = unfold claimed in commit_last (suc k - n / 2) (k - n / 2) (min k P) (votes_after n k i) (omega arith) (omega arith)

      earlier : (t : ℕ) → suc k - n / 2 ≤ t → t < min (suc k) P → ltb t k ≡ true → union (union (cond (ltb t k) (votes_after n k i t) flags) flags) (vote i) ≡ votes_after n (suc k) i t
      earlier t c m e =
          let x : ℕ = starters n t (k - t) in
          let u : ℕ = min k (P - 1) in
          let l : t < k = ltb-true t k e in
          let small : vote i < 2 ^ 64 = vote_lt i (omega arith) in
          rw e
          (unfold votes_after in
          (ap (λ (y : ℕ). union y (vote i)) (union_swap x (vote i) flags)
          ∙ union_twice (union x flags) (vote i) small
          ∙ ap (λ (y : ℕ). union (union x y) (vote i)) (flags_are u (sym term_is) (omega arith) (omega arith))
          ∙ ap (λ (y : ℕ). union y (vote i)) (unfold own_votes in starters_join n t u k (omega arith) (omega arith))))

      own : (t : ℕ) → suc k - n / 2 ≤ t → t < min (suc k) P → ltb t k ≡ false → union (union (cond (ltb t k) (votes_after n k i t) flags) flags) (vote i) ≡ votes_after n (suc k) i t
      own t c m e =
          let l : k ≤ t = ltb-false t k e in
          rw e
          (ap (λ (y : ℕ). union y (vote i)) (union_same flags flags_lt ∙ flags_are t (omega (arith, term_is)) c m) ∙ (unfold votes_after own_votes in refl))

  -- the initiator
  votes_own : take_votes (k % n) (sent n P k) (announced n P k) ≡ claimed n P (suc k) (k % n)
  votes_own =
      took (k % n) (announced n P k)
      ∙ ap (λ (s : State). merge_votes_up_to (term_in P k) (vote (k % n)) (merge_votes_up_to (term_in P k) flags (take_data (term_in P k) flags data_at_lem s))) committed
      ∙ ap (λ (s : State). merge_votes_up_to (term_in P k) (vote (k % n)) (merge_votes_up_to (term_in P k) flags s)) holds
      ∙ merged (k % n) (own_votes n k) same
    where
      committed : commit_to (last_of (suc k - n / 2)) (announced n P k) ≡ state_with (suc k - n / 2) (min (suc k) P) (own_votes n k)
      committed = unfold announced in commit_last (suc k - n / 2) (suc k - n / 2) (min (suc k) P) (own_votes n k) (omega arith) (omega arith)

      new : k < P → take_data (term_in P k) flags (proposal_data_of (proposes_at P k) (min k P)) (state_with (suc k - n / 2) (min (suc k) P) (own_votes n k)) ≡ state_with (suc k - n / 2) (min (suc k) P) (own_votes n k)
      new h =
          let a : min k P ≡ k = omega arith in
          let b : min (suc k) P ≡ suc k = omega arith in
          rw (a, b, lt-ltb k P h) (take_held (suc k - n / 2) (suc k) (own_votes n k) k flags (omega arith) (omega arith))

      old : P ≤ k → take_data (term_in P k) flags (proposal_data_of (proposes_at P k) (min k P)) (state_with (suc k - n / 2) (min (suc k) P) (own_votes n k)) ≡ state_with (suc k - n / 2) (min (suc k) P) (own_votes n k)
      old h =
          let a : min k P ≡ P = omega arith in
          rw (a, le-ltb P P (omega arith)) (take_none (P - 1) flags (state_with (suc k - n / 2) (min (suc k) P) (own_votes n k)))

      holds : take_data (term_in P k) flags data_at_lem (state_with (suc k - n / 2) (min (suc k) P) (own_votes n k)) ≡ state_with (suc k - n / 2) (min (suc k) P) (own_votes n k)
      holds = unfold data_at_lem in ⊎_elim (λ e. new (ltb-true k P e)) (λ e. old (ltb-false k P e)) (either (ltb k P))

      same : (t : ℕ) → suc k - n / 2 ≤ t → t < min (suc k) P → union (union (own_votes n k t) flags) (vote (k % n)) ≡ votes_after n (suc k) (k % n) t
      same t c m =
          let u : ℕ = min k (P - 1) in
          let x : ℕ = starters n t (k - t) in
          let all : own_votes n k t ≡ union x flags = unfold own_votes in sym (starters_join n t u k (omega arith) (omega arith)) ∙ ap (union x) (sym (flags_are u (sym term_is) (omega arith) (omega arith))) in
          ap (λ (y : ℕ). union y (vote (k % n))) (ap (λ (y : ℕ). union y flags) all ∙ union_twice x flags flags_lt ∙ sym all)
          ∙ unfold votes_after own_votes in refl

  -- a node that is not the initiator
  pub participated : (i : ℕ) → i < n → participant_turn i (sent n P k) (claimed n P k i)
      ≡ record { state = claimed n P (suc k) i; newly = newly_to (last_of (suc k - n / 2)) (entries (k - n / 2)); recovered = None }
  unfolding participant_turn take_piggyback recovery sent announced claimed
  participated i h = ap (λ (s : State). done s) (votes_other i h)
    where
      done : State → Participated
      done s = record { state = s; newly = newly_to (last_of (suc k - n / 2)) (entries (k - n / 2)); recovered = None }

  -- the initiator
  pub participated_own : participant_turn (k % n) (sent n P k) (announced n P k)
      ≡ record { state = claimed n P (suc k) (k % n); newly = newly_to (last_of (suc k - n / 2)) (entries (suc k - n / 2)); recovered = None }
  unfolding participant_turn take_piggyback recovery sent announced
  participated_own = ap (λ (s : State). done s) votes_own
    where
      done : State → Participated
      done s = record { state = s; newly = newly_to (last_of (suc k - n / 2)) (entries (suc k - n / 2)); recovered = None }
