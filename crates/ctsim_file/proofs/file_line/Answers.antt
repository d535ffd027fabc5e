use Rattle.ctsim_file.proofs.Filings.{line_filed}
use Rattle.ctsim_file.proofs.file_line.Goals as goal

pub returns : goal.returns
returns c = line_filed c.args.line c.from.result c.file_topology.result _ _ _ _ _ c.from.ensures c.file_topology.ensures
