-- The program's listing (rules 11.1 to 11.7).
use Rattle.std.specs.Prelude.{ℕ, ◌+◌, ◌-◌, ◌*◌, ◌/◌, min, List, [], ◌∷◌, ◌++◌, length, get_or}
use Prim.Native.String.{String}
use Rattle.config.specs.Limits.{max_nodes, max_terms, max_listed, record_size, snapshot_size, log_counts}
use Rattle.text.specs.Text.{ascii, spelled, each, number_most}
use Rattle.metrics.specs.declared.summary.Summary.{Summary}
use Rattle.metrics.specs.Totals.{run_totals, radio_totals, link_totals}
use Rattle.listing.specs.declared.write.Lines.{Lines}

-- a word with a number behind it
unfoldable pub labelled : String → ℕ → List ℕ
labelled word n = ascii word ++ spelled n

-- a line: each word with its number behind it, up to the end of either list
unfoldable pub line_with : List String → List ℕ → List ℕ
line_with [] numbers = ascii "\n"
line_with (word ∷ words) [] = ascii "\n"
line_with (word ∷ words) (n ∷ numbers) = labelled word n ++ line_with words numbers

-- the run: how many nodes, rounds and slots, and its end number
unfoldable pub run_line : Summary → List ℕ
run_line s = line_with ("nodes " ∷ " rounds " ∷ " slots " ∷ " ended " ∷ []) (run_totals s)

-- the slots of all nodes
unfoldable pub radio_line : Summary → List ℕ
radio_line s = line_with ("listen " ∷ " flood " ∷ " sleep " ∷ []) (radio_totals s)

-- links: attempts, successes; floods: rounds, nodes, covered, took part; recovery: NACKs, piggybacks
unfoldable pub link_line : Summary → List ℕ
link_line s = line_with ("links " ∷ " " ∷ " floods " ∷ " " ∷ " " ∷ " " ∷ " recovery " ∷ " " ∷ []) (link_totals s)

-- record i of the buffer: id, start, end, latency
unfoldable pub proposal_line : List ℕ → ℕ → List ℕ
proposal_line records i =
    let start = get_or records (record_size * i + 1) 0 in
    let end = get_or records (record_size * i + 2) 0 in
    line_with ("proposal " ∷ " " ∷ " " ∷ " " ∷ []) (get_or records (record_size * i) 0 ∷ start ∷ end ∷ (end - start) ∷ [])

-- snapshot i of the buffer: slot, progress, listening, flooding, sleeping
unfoldable pub snapshot_line : List ℕ → ℕ → List ℕ
snapshot_line snapshots i =
    let place : ℕ = snapshot_size * i in
    line_with ("snapshot " ∷ " " ∷ " " ∷ " " ∷ " " ∷ [])
    (get_or snapshots place 0 ∷ get_or snapshots (place + 1) 0 ∷ get_or snapshots (place + 2) 0 ∷ get_or snapshots (place + 3) 0 ∷ get_or snapshots (place + 4) 0 ∷ [])

-- term k of node i's log
unfoldable pub term_text : List ℕ → ℕ → ℕ → List ℕ
term_text logs i k = labelled " " (get_or logs (max_terms * i + k) 0)

-- term k of a log
unfoldable pub term_in : List ℕ → ℕ → List ℕ
term_in log k = labelled " " (get_or log k 0)

-- node i's log: its number, and its terms
unfoldable pub log_line : List ℕ → ℕ → List ℕ
log_line logs i = labelled "log " i ++ each (term_text logs i) (min (get_or logs (log_counts + i) 0) max_terms) ++ ascii "\n"

-- line i of a list: of the records, of the snapshots or of the logs
abbrev pub line_of : Lines → List ℕ → List ℕ → List ℕ → ℕ → List ℕ
line_of Lines.Proposals records snapshots logs = proposal_line records
line_of Lines.Snapshots records snapshots logs = snapshot_line snapshots
line_of Lines.Logs records snapshots logs = log_line logs

-- how many lines of it are listed at most
abbrev pub most_lines : Lines → ℕ
most_lines Lines.Proposals = max_terms
most_lines Lines.Snapshots = max_listed
most_lines Lines.Logs = max_nodes

-- The listing: three lines of totals, the records, the stored snapshots and the logs. At most 64 records and 32 logs of 64 terms are
-- listed, as many as a run can have, and the first 1,000 snapshots. A snapshot is stored where it fits whole. A place past a buffer's end reads as 0.
unfoldable pub listing : Summary → List ℕ → List ℕ → List ℕ → List ℕ
listing s records snapshots logs =
    run_line s ++ radio_line s ++ link_line s
    ++ each (proposal_line records) (min s.records max_terms)
    ++ each (snapshot_line snapshots) (min (min s.snapshots (length snapshots / snapshot_size)) max_listed)
    ++ each (log_line logs) (min s.nodes max_nodes)

-- the refusal of a number
unfoldable pub refusal_text : ℕ → List ℕ
refusal_text n = line_with ("refused " ∷ []) (n ∷ [])

-- How many bytes each part of a listing has at most: a word of the listing has at most 10 bytes; the bounds of the lines follow.
abbrev pub word_most : ℕ
word_most = 10

abbrev pub labelled_most : ℕ
labelled_most = word_most + number_most

-- a space and a number
abbrev pub spaced_most : ℕ
spaced_most = 1 + number_most

abbrev pub run_line_most : ℕ
run_line_most = 4 * labelled_most + 1

abbrev pub radio_line_most : ℕ
radio_line_most = 3 * labelled_most + 1

abbrev pub link_line_most : ℕ
link_line_most = 3 * labelled_most + 5 * spaced_most + 1

abbrev pub proposal_line_most : ℕ
proposal_line_most = labelled_most + 3 * spaced_most + 1

abbrev pub snapshot_line_most : ℕ
snapshot_line_most = labelled_most + 4 * spaced_most + 1

abbrev pub term_most : ℕ
term_most = spaced_most

abbrev pub log_line_most : ℕ
log_line_most = labelled_most + max_terms * term_most + 1

-- a line of a list
abbrev pub line_most : Lines → ℕ
line_most Lines.Proposals = proposal_line_most
line_most Lines.Snapshots = snapshot_line_most
line_most Lines.Logs = log_line_most

abbrev pub listing_most : ℕ
listing_most = run_line_most + radio_line_most + link_line_most + max_terms * proposal_line_most + max_listed * snapshot_line_most + max_nodes * log_line_most

abbrev pub refusal_most : ℕ
refusal_most = labelled_most + 1
