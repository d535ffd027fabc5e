-- Every sweep: its lines, each that of a run alone, and the sum of their rounds. Assumes nothing.
use Prim.Native.Nat.{ℕ, zero, suc, ◌+◌, ◌*◌}
use mathlib.Core.Path.{◌≡◌, refl, sym, ap, ◌∙◌}
use mathlib.Core.List.{List, [], ◌∷◌, ◌++◌, map}
use mathlib.Core.Logic.{⊎_elim}
use mathlib.Core.Option.{some}
use Rattle.std.specs.Prelude.{Option, Some, None, Result, Ok, Err}
use native.Mathlib.Omega.{arith}
use borrow.Author.Tests.{le-leb}
use lib.ListN.{length, get_elem?, take, drop, length-map}
use lib.Seq.{sets, length-sets, sets-eq, drop_at}
use Rattle.config.specs.Limits.{most_rounds}
use Rattle.config.specs.declared.refusal.Refusal.{Refusal}
use Rattle.metrics.specs.declared.summary.Summary.{Summary}
use Rattle.network.specs.Questions.{first_no}
use Rattle.network.proofs.Within.{first_no_lem, all_yes}
use Rattle.rules.specs.Networks.{network_questions}
use Rattle.rules.specs.Questions.{config_questions, refusal_for}
use Rattle.rules.specs.Entries.{given_for}
use Rattle.rules.proofs.Admitted.{admits, refused_for}
use Rattle.rules.proofs.FirstNo.{both_none, either_no}
use Rattle.rules.proofs.FirstRounds.{few_rounds}
use Rattle.sweep.specs.Sweep.{swept_size, with_seed, summary_in, summary_for, swept_lines, rounds_of, table_questions, sweep_questions, sweep_refusal_for, swept_unless, sweep_for}
use Rattle.sweep.specs.Laws.{rounds_shown, AllSwept, LinesAlone, OwnSeedUnused, NoSeeds, RefusalsSwept}
use Rattle.sweep.proofs.Asked.{table_facts, network_refuses, network_passes, refused}
use Rattle.sweep.proofs.Lines.{length_lines, line_at, rounds_shown_lem, rounds_most}

swept_so : (o : Option Refusal) (runs : List Summary) (table : List ℕ) (rounds : ℕ) (after : List ℕ) → ◌≡◌ {A = Result ℕ Refusal × List ℕ} (swept_unless o runs table) (Ok rounds, after)
    → (o ≡ None) × (rounds_of runs ≡ rounds) × (sets table 0 (swept_lines runs) ≡ after)
swept_so None runs table rounds after e =
    let answer : ◌≡◌ {A = Result ℕ Refusal} (Ok (rounds_of runs)) (Ok rounds) = ap (λ (p : Result ℕ Refusal × List ℕ). p.0) e in
    (refl, cc, ap (λ (p : Result ℕ Refusal × List ℕ). p.1) e)
swept_so (Some question) runs table rounds after e =
    let answer : ◌≡◌ {A = Result ℕ Refusal} (Err question) (Ok rounds) = ap (λ (p : Result ℕ Refusal × List ℕ). p.0) e in
    absurd (let z : ◌≡◌ {A = ℕ} 0 1 = cc in omega arith)

elem_map : (f : ℕ → Summary) (seeds : List ℕ) (i seed : ℕ) → get_elem? seeds i ≡ some seed → get_elem? (map f seeds) i ≡ some (f seed)
elem_map f [] i seed e = absurd (let z : ◌≡◌ {A = ℕ} 0 1 = cc in omega arith)
elem_map f (x ∷ seeds) zero seed e = let same : x ≡ seed = cc in ap (λ (k : ℕ). some (f k)) same
elem_map f (x ∷ seeds) (suc i) seed e = elem_map f seeds i seed e

pub all_swept : AllSwept
unfolding sweep_for sweep_refusal_for summary_in refusal_for
all_swept q c seeds table rounds after e =
    let f = summary_for q c in
    let runs = map f seeds in
    let so = swept_so (sweep_refusal_for q c (length seeds) (length table)) runs table rounds after e in
    let yes = both_none (network_questions q) (sweep_questions c (length seeds) (length table)) so.0 in
    let pass = both_none (config_questions c) (table_questions (length seeds) (length table)) yes.1 in
    let long = length_lines f seeds in
    let fits = table_facts (length seeds) (length table) pass.1 in
    let rest = drop (0 + length (swept_lines runs)) table in
    let is : after ≡ swept_lines runs ++ rest = sym so.2 ∙ sets-eq (swept_lines runs) table 0 (omega (arith, long, fits.1)) in
    let end : 0 + length (swept_lines runs) ≡ swept_size * length seeds = omega (arith, long) in
    record {
      lines = λ i seed at. ap (λ (l : List ℕ). take swept_size (drop (swept_size * i) l)) is ∙ line_at runs rest i (f seed) (elem_map f seeds i seed at);
      alone = λ seed logs records snapshots l r.
          admits q (with_seed c seed) logs records snapshots (all_yes (network_questions q) (config_questions c) yes.0 ∙ pass.0) (record { for_logs = l; for_records = r });
      size = ap length (sym so.2) ∙ length-sets table 0 (swept_lines runs);
      behind = ap (drop (swept_size * length seeds)) is ∙ drop_at (swept_lines runs) rest (swept_size * length seeds) long ∙ ap (λ (k : ℕ). drop k table) end;
      sum = sym so.1 ∙ rounds_shown_lem runs rest ∙ (λ i. rounds_shown (length-map seeds f i) (sym is i));
      bound = omega (arith, so.1, rounds_most f (most_rounds c.num_proposals) (λ seed. few_rounds (given_for q (with_seed c seed)) (most_rounds c.num_proposals)) seeds);
    }

pub lines_alone : LinesAlone
lines_alone q c seeds table rounds after seeds' table' rounds' after' e e' i j seed at at' =
    (all_swept q c seeds table rounds after e).lines i seed at ∙ sym ((all_swept q c seeds' table' rounds' after' e').lines j seed at')

pub own_seed_unused : OwnSeedUnused
unfolding sweep_for sweep_refusal_for
own_seed_unused q c own seeds table = refl

pub no_seeds : NoSeeds
unfolding sweep_for sweep_refusal_for refusal_for swept_lines rounds_of
no_seeds q c table e =
    let yes = both_none (network_questions q) (config_questions c) e in
    let rest = table_questions 0 (length table) in
    let room : first_no rest ≡ None = rw (le-leb 0 (length table) (omega arith)) in
    ap (λ (o : Option Refusal). swept_unless o [] table)
    (all_yes (network_questions q) (sweep_questions c 0 (length table)) yes.0 ∙ all_yes (config_questions c) rest yes.1 ∙ room)

pub refusals_swept : RefusalsSwept
unfolding refusal_for
refusals_swept q c seed logs records snapshots question e other seeds table =
    let rest = table_questions (length seeds) (length table) in
    sym
    (refused q c seeds table question
    (⊎_elim (network_refuses q c seeds table question) (λ h. network_passes q c seeds table h.0 ∙ first_no_lem (config_questions c) rest question h.1)
    (either_no (network_questions q) (config_questions c) question (refused_for q (with_seed c seed) logs records snapshots question e other))))
