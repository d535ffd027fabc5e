-- What each entry for C returns, and the final contents of the lent slices (rules 7.5 to 7.8, 9.4, 12.7 and 15.9). The result is 0 or the refusal's
-- number; a refusal leaves every slice as it was. `short` is these entries' own and asked first: has the slice of a summary, of a packet
-- or of a single result its places?
use Rattle.std.specs.Prelude.{ℕ, ◌≤◌, ◌≡◌, cond, ◌&&◌, List, leb, Float, length, Option, Result}
use Rattle.network.specs.Topology.{built_rows}
use Rattle.network.specs.Distance.{measured}
use Rattle.config.specs.Refusals.{number_of}
use Rattle.config.specs.declared.refusal.Refusal.{Refusal}
use Rattle.metrics.specs.declared.summary.Summary.{Summary}
use Rattle.config.specs.declared.Config.{Config}
use Rattle.rules.specs.Networks.{RowsOrTopology}
use Rattle.rules.specs.Entries.{Outcome, given_for, run_of_rows, run_of_topology}
use Rattle.metrics.specs.Ratio.{ratio_of}
use Rattle.rules.specs.declared.answer.SeenRound.{SeenRound}
use Rattle.preview.specs.Preview.{preview_for}
use Rattle.sweep.specs.Sweep.{sweep_for}
use Rattle.marshal.specs.Convert.{summary_size, ratio_result, summary_at, result_of, with_summary}
use Rattle.marshal.specs.Packets.{packet_size}
use Rattle.marshal.specs.Previews.{preview_result}
use Rattle.marshal.specs.Numbers.{number_result}
use Rattle.marshal.specs.Texts.{reading_result, written_from}
use Rattle.wire.specs.Grammar.{text_most}
use Rattle.phy.specs.declared.packet.Packet.{Packet}

-- the slice of a summary, of a packet or of a single result is too short
abbrev pub short : ℕ
short = 100

-- of a call that fills a slice and has a number for an answer: the result, the slice, and that of the number
abbrev pub filled_result : Result ℕ Refusal × List ℕ → List ℕ → ℕ × List ℕ × List ℕ
filled_result (answer, out) number = let r = number_result number_of answer number in (r.0, out, r.1)

-- rows of a topology
unfoldable pub returned_rows : ℕ → ℕ → ℕ → List ℕ → List ℕ → ℕ × List ℕ × List ℕ
returned_rows topology first second out nodes =
    cond (leb 1 (length nodes)) (filled_result (built_rows topology first second out) nodes) (short, out, nodes)

-- diameter of rows
unfoldable pub returned_diameter : List ℕ → ℕ → List ℕ → ℕ × List ℕ
returned_diameter rows n links = cond (leb 1 (length links)) (number_result number_of (measured rows n) links) (short, links)

-- ratio
unfoldable pub returned_ratio : ℕ → ℕ → List Float → ℕ × List Float
returned_ratio part whole out = cond (leb 1 (length out)) (ratio_result number_of (ratio_of part whole) out) (short, out)

-- the two ratios of a run: successes over attempts, and covered nodes over the nodes of all floods
abbrev pub link_pdr : Summary → Result (Option Float) Refusal
link_pdr s = ratio_of s.successes s.attempts

abbrev pub flood_coverage : Summary → Result (Option Float) Refusal
flood_coverage s = ratio_of s.covered s.flood_nodes

unfoldable pub returned_of : (Summary → Result (Option Float) Refusal) → List ℕ → List Float → ℕ × List Float
returned_of f summary out = cond (leb summary_size (length summary) && leb 1 (length out)) (ratio_result number_of (f (summary_at summary)) out) (short, out)

-- the result of a run, and what the slices hold afterwards
pub record Returned : Type 0 where
  pub result : ℕ
  pub summary : List ℕ
  pub logs : List ℕ
  pub records : List ℕ
  pub snapshots : List ℕ

abbrev pub returned : ℕ → List ℕ → List ℕ → List ℕ → List ℕ → Returned
returned k s l r p = record { result = k; summary = s; logs = l; records = r; snapshots = p }

abbrev pub returned_outcome : List ℕ → Outcome → Returned
returned_outcome summary o = returned (result_of number_of o.answer) (with_summary o.answer summary) o.logs o.records o.snapshots

-- what a run with this outcome returns
unfoldable pub returned_run : Outcome → List ℕ → List ℕ → List ℕ → List ℕ → Returned
returned_run o summary logs records snapshots =
    cond (leb summary_size (length summary)) (returned_outcome summary o) (returned short summary logs records snapshots)

-- run of a topology, and run of rows
abbrev pub returned_run_of_topology : ℕ → ℕ → ℕ → Config → List ℕ → List ℕ → List ℕ → List ℕ → Returned
returned_run_of_topology topology first second c summary logs records snapshots =
    returned_run (run_of_topology topology first second c logs records snapshots) summary logs records snapshots

abbrev pub returned_run_of_rows : List ℕ → ℕ → Config → List ℕ → List ℕ → List ℕ → List ℕ → Returned
returned_run_of_rows rows n c summary logs records snapshots = returned_run (run_of_rows rows n c logs records snapshots) summary logs records snapshots

-- the results of the entries that take or give a packet: the packet's slice has its places, and that for a number has one
unfoldable pub if_room : List ℕ → List ℕ → ℕ × List ℕ × List ℕ → ℕ × List ℕ × List ℕ → ℕ × List ℕ × List ℕ
if_room packet number done refused = cond (leb packet_size (length packet) && leb 1 (length number)) done refused

-- look ahead: the result, the packet's slice and that of the set
abbrev pub returned_preview : Result SeenRound Refusal → List ℕ → List ℕ → ℕ × List ℕ × List ℕ
returned_preview answer packet part = if_room packet part (preview_result number_of answer packet part) (short, packet, part)

-- a packet's text: the result, the text's slice and that of its length
abbrev pub returned_text : List ℕ → ℕ → List ℕ → List ℕ → ℕ × List ℕ × List ℕ
returned_text packet n text written = if_room packet written (written_from packet n text written) (short, text, written)

-- the packet of a text: the result, the packet's slice and that of its number of flags
abbrev pub returned_packet : Result (Packet × ℕ) Refusal → List ℕ → List ℕ → ℕ × List ℕ × List ℕ
returned_packet answer packet flags = if_room packet flags (reading_result number_of answer packet flags) (short, packet, flags)

-- a sweep's seeds are a list, and its configuration has none of its own
abbrev pub no_seed : ℕ
no_seed = 0

-- sweep
unfoldable pub returned_sweep : RowsOrTopology → Config → List ℕ → List ℕ → List ℕ → ℕ × List ℕ × List ℕ
returned_sweep q c seeds table rounds = cond (leb 1 (length rounds)) (filled_result (sweep_for q c seeds table) rounds) (short, table, rounds)

-- What a look ahead shows is written: where the one entry has returned 0, the other returns 0 for the slice that it has left, with as many flags as
-- the run has nodes and room for any text.
abbrev pub SeenIsWritten : Type 0
SeenIsWritten =
    (q : RowsOrTopology) (c : Config) (k : ℕ) (packet part text written : List ℕ) →
    (returned_preview (preview_for q c k) packet part).0 ≡ 0 →
    text_most ≤ length text →
    1 ≤ length written →
    (returned_text (returned_preview (preview_for q c k) packet part).1 (given_for q c).nodes text written).0 ≡ 0
