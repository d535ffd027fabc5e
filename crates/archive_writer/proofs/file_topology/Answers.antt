use Rattle.std.proofs.Common.{length, sym, ◌∙◌, arith}
use borrow.Author.Tests.{leb-true}
use Rattle.rules.specs.Questions.{run_questions}
use Rattle.rules.proofs.FirstNo.{let_pass}
use Rattle.rules.proofs.Found.{network_found}
use Rattle.archive_writer.specs.Filed.{network_in}
use Rattle.archive_writer.proofs.Filings.{network_refuses, run_refuses, long, rate_is, counts, too_short, was_filed}
use Rattle.config.proofs.Unless.{goes_up}
use Rattle.archive_writer.proofs.file_topology.Goals as goal

pub returns-in_err-network : goal.returns-in_err-network
returns-in_err-network c =
    let a = c.args in
    rw (goes_up c.from_residual.result c.from_residual.ensures.1) (network_refuses a.inputs a.logs.now a.records.now a.snapshots.now a.file.now _ c.in_err-network.ensures)

pub returns-in_err-ask_run : goal.returns-in_err-ask_run
returns-in_err-ask_run c =
    let a = c.args in
    let found = network_found (network_in a.inputs) c.in_ok-network.network c.in_ok-network.ensures in
    rw (goes_up c.from_residual-in_err-ask_run.result c.from_residual-in_err-ask_run.ensures.1) (run_refuses a.inputs a.logs.now a.records.now a.snapshots.now a.file.now c.in_ok-network.network found _ c.in_err-ask_run.ensures)

pub fits-requires : goal.fits-requires
fits-requires c =
    let a = c.args in
    let found = network_found (network_in a.inputs) c.in_ok-network.network c.in_ok-network.ensures in
    let passed = let_pass (run_questions a.inputs.config (length a.logs.now) (length a.records.now)) c.in_ok-ask_run.ensures in
    (counts a.inputs a.logs.now a.records.now a.snapshots.now a.file.now c.in_ok-network.network found passed, omega arith)

pub returns-then-not-fits : goal.returns-then-not-fits
returns-then-not-fits c =
    let a = c.args in
    let found = network_found (network_in a.inputs) c.in_ok-network.network c.in_ok-network.ensures in
    let passed = let_pass (run_questions a.inputs.config (length a.logs.now) (length a.records.now)) c.in_ok-ask_run.ensures in
    too_short a.inputs a.logs.now a.records.now a.snapshots.now a.file.now c.in_ok-network.network found passed (sym c.fits.ensures ∙ c.if-not-fits.true)

pub file_run-requires : goal.file_run-requires
file_run-requires c =
    let a = c.args in
    let found = network_found (network_in a.inputs) c.in_ok-network.network c.in_ok-network.ensures in
    let passed = let_pass (run_questions a.inputs.config (length a.logs.now) (length a.records.now)) c.in_ok-ask_run.ensures in
    let room = long a.inputs a.logs.now a.records.now a.snapshots.now a.file.now c.in_ok-network.network found passed in
    record {
      counts = counts a.inputs a.logs.now a.records.now a.snapshots.now a.file.now c.in_ok-network.network found passed;
      rate = rate_is a.inputs a.logs.now a.records.now a.snapshots.now a.file.now c.in_ok-network.network found passed;
      logs_long = room.for_logs;
      records_long = room.for_records;
      file_long = leb-true _ _ (sym c.fits.ensures ∙ c.if-not-fits.false);
    }

pub returns : goal.returns
returns c =
    let a = c.args in
    let found = network_found (network_in a.inputs) c.in_ok-network.network c.in_ok-network.ensures in
    let passed = let_pass (run_questions a.inputs.config (length a.logs.now) (length a.records.now)) c.in_ok-ask_run.ensures in
    was_filed a.inputs a.logs.now a.records.now a.snapshots.now a.file.now c.in_ok-network.network found passed (sym c.fits.ensures ∙ c.if-not-fits.false) c.file_run.ensures
