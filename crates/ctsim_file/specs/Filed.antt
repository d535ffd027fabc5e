-- What the program files for what it reads (rules 10.1 and 16.5).
use Rattle.std.specs.Prelude.{ℕ, List, replicate, Result, Ok, Err}
use Rattle.config.specs.declared.refusal.Refusal.{Refusal}
use Rattle.config.specs.Limits.{log_size, records_size, listed_size}
use Rattle.line.specs.declared.read.Line.{Line}
use Rattle.line.specs.Configured.{config_of}
use Rattle.line.specs.Line.{read_line}
use Rattle.archive.specs.declared.inputs.Inputs.{Inputs}
use Rattle.archive_writer.specs.Filing.{Filing, filing_for}

-- what a line asks for
abbrev pub inputs_of : Line → Inputs
inputs_of l = record { topology = l.topology; first = l.first; second = l.second; config = config_of l }

-- how many bytes are filed, or the refusal
abbrev pub Answer : Type 0
Answer = Result ℕ Refusal

-- the answer of a filing, and what the bytes that were lent for the file then hold
abbrev pub answered : Filing → Answer × List ℕ
answered f = (f.answer, f.file)

-- the filing of the run that a line asks for, with buffers of zeros; at most 1,000 snapshots are stored
unfoldable pub line_filing : Line → List ℕ → Answer × List ℕ
line_filing l file = answered (filing_for (inputs_of l) (replicate log_size 0) (replicate records_size 0) (replicate listed_size 0) file)

-- question 12: is the line readable?
abbrev pub read_filing : Result Line Refusal → List ℕ → Answer × List ℕ
read_filing (Ok l) file = line_filing l file
read_filing (Err r) file = (Err r, file)

-- the answer to these bytes of input
unfoldable pub filed_for : List ℕ → List ℕ → Answer × List ℕ
filed_for input file = read_filing (read_line input) file

-- how many bytes are filed
abbrev pub size_of : Answer → ℕ
size_of (Ok n) = n
size_of (Err r) = 0
