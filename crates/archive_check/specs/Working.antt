-- What the functions of the check promise.
use Rattle.std.specs.Prelude.{ℕ, ◌-◌, ◌*◌, ◌≤◌, min, ◌≡◌, Bool, true, false, length, take, Option, Some, None}
use mathlib.Core.List.{List, flatten}
use Rattle.config.specs.Limits.{snapshot_size, most_rounds}
use Rattle.random.specs.declared.draws.Stream.{Stream}
use Rattle.protocol.specs.declared.state.PaxosState.{PaxosState}
use Rattle.pipeline.specs.declared.records.History.{History}
use Rattle.rules.specs.Run.{run}
use Rattle.rules.specs.RunBounds.{longest}
use Rattle.rounds.specs.declared.run.Plan.{Plan}
use Rattle.rounds.specs.declared.run.Stopped.{Stopped}
use Rattle.rounds.specs.Going.{planned, Contents, contents_of, CanStart, CanGo, Steady}
use Rattle.sim.specs.Filling.{Over}
use Rattle.archive.specs.Bytes.{numbers_bytes, same_bytes}
use Rattle.archive.specs.Layout.{snapshot_bytes, section_in}
use Rattle.archive_check.specs.Check.{stored_in}

-- how many of the snapshots from a number up to another a file has, of which so many are stored
abbrev pub taken : ℕ → ℕ → ℕ → ℕ
taken stored from to = min stored to - from

-- the file's snapshots, as far as these were taken, are these
unfoldable pub agrees : List ℕ → List (List ℕ) → Bool
agrees file shots =
    same_bytes (take (snapshot_bytes * min (stored_in file) (length shots)) (section_in file 3)) (numbers_bytes (flatten (take (stored_in file) shots)))

-- the snapshots of the run of a graph that a plan asks for
abbrev pub shots_in : Plan → List (List ℕ)
shots_in p = (run (planned p)).running.standing.shots.taken

-- a run can be played again: the snapshots of any round have room
pub record CanReplay (p : Plan) (w : Contents) : Type 0 where
  pub go : CanGo p (most_rounds p.config.num_proposals) w
  pub shots_room : snapshot_size * longest (planned p) ≤ length w.snapshots

-- The run has stopped, and the code shows it; the snapshots agree.
pub record Alike (p : Plan) (file : List ℕ) (r : Stopped) (w : Contents) : Type 0 where
  pub first : List ℕ
  pub over : Over p r first w
  pub steady : Steady (planned p).heard p r.rounds r.run w
  pub few : r.rounds ≤ most_rounds p.config.num_proposals
  pub alike : agrees file (shots_in p) ≡ true

-- by cases; where one differs, nothing is said of the tables
abbrev pub Replays : Plan → List ℕ → Option Stopped → Contents → Type 0
Replays p file (Some r) w = Alike p file r w
Replays p file None w = agrees file (shots_in p) ≡ false

-- A run can be played again over blank tables.
pub record MayReplay (p : Plan) (states : List PaxosState) (history : History) (shots : List ℕ) : Type 0 where
  pub start : CanStart p (most_rounds p.config.num_proposals) states history
  pub shots_room : snapshot_size * longest (planned p) ≤ length shots

-- and it was, with these states and this history
pub record ReplaysOver (p : Plan) (file : List ℕ) (r : Option Stopped) (states : List PaxosState) (history : History) : Type 0 where
  pub queue : List ℕ
  pub stream : Stream
  pub snapshots : List ℕ
  pub replays : Replays p file r (contents_of queue stream states history snapshots)
