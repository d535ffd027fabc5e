-- The fifteen numbers of a summary that the listing's first three lines show (rules 7.5 and 11.3), line by line and in their order.
use Rattle.std.specs.Prelude.{ℕ, List, [], ◌∷◌, ◌++◌}
use Rattle.metrics.specs.declared.summary.Summary.{Summary}

-- the run: nodes, rounds, slots and its end number
abbrev pub run_totals : Summary → List ℕ
run_totals s = s.nodes ∷ s.rounds ∷ s.slots ∷ s.ended ∷ []

-- the slots of all nodes: listen, flood, sleep
abbrev pub radio_totals : Summary → List ℕ
radio_totals s = s.listen ∷ s.flood ∷ s.sleep ∷ []

-- links: attempts, successes; floods: rounds, nodes, covered, took part; recovery: NACKs, piggybacks
abbrev pub link_totals : Summary → List ℕ
link_totals s =
    s.attempts ∷ s.successes
    ∷ s.flood_rounds ∷ s.flood_nodes ∷ s.covered ∷ s.took_part
    ∷ s.nacks ∷ s.piggybacks ∷ []

-- all fifteen
abbrev pub totals : Summary → List ℕ
totals s = run_totals s ++ radio_totals s ++ link_totals s
