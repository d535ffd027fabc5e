use Rattle.std.proofs.Common.{◌≡◌, ℕ, List, ◌+◌, ◌*◌, ◌-◌, min, length, take, drop, get_or, ap, ◌∙◌}
use Rattle.std.proofs.lemmas.List.{drop_min, get_or-drop, take_rest}
use Rattle.config.specs.Limits.{max_terms}
use Rattle.text.specs.Text.{ascii, each}
use Rattle.listing.specs.Listing.{labelled, log_line, term_in, term_text}
use Rattle.text.proofs.Overlays.{◌then◌}
use Rattle.listing.proofs.write.put_log_line.Goals as goal

-- the terms of node i's log, where it starts
log_terms : (logs : List ℕ) (i n start : ℕ) → start ≡ min (max_terms * i) (length logs)
    → each (term_in (take (length logs - start) (drop start logs))) n ≡ each (term_text logs i) n
unfolding term_in term_text
log_terms logs i n start e = ap (λ f. each f n) (λ j k. labelled " " (here k j))
  where
    here : (k : ℕ) → get_or (take (length logs - start) (drop start logs)) k 0 ≡ get_or logs (max_terms * i + k) 0
    here k =
        ap (λ (s : List ℕ). get_or s k 0) (take_rest logs start ∙ ap (λ (j : ℕ). drop j logs) e ∙ drop_min (max_terms * i) logs)
        ∙ get_or-drop (max_terms * i) logs k 0

pub returns : goal.returns
unfolding log_line labelled ascii
returns c =
    let count = c.min-n.ensures ∙ ap (λ k. min k max_terms) c.byte_at.ensures in
    let terms = log_terms c.args.logs.now c.args.i c.min-n.result _ c.min-start.ensures in
    c.put_labelled.ensures then rw (terms, count) at c.put_terms.ensures then c.put.ensures
