use Rattle.std.proofs.Common.{◌++◌, ◌∷◌, []}
use Rattle.csv.specs.Records.{fields_of}
use Rattle.dw_groups.specs.Batches.{rows_records}
use Rattle.datawave.specs.Groups.{full_ingests}
use Rattle.datawave.specs.Outside.{seen}
use Rattle.datawave.proofs.Grouped.{row_stopped}
use Rattle.datawave.proofs.Results.{on_err_always, on_ok_then, on_err_then}
use Rattle.datawave.proofs.record_table.take_row.Goals as goal

pub returns-in_err-request-clause-lacks : goal.returns-in_err-request-clause-lacks
returns-in_err-request-clause-lacks g c =
    on_err_always c.from_residual.result (λ w before rows x puts.
    row_stopped g.U.UidMaker.digest w before (seen (g.K.Keeper.told c.args.keeper.now) (g.K.Keeper.faults c.args.keeper.now) (g.O.Sink.taken c.args.output.now)) c.args.desk.now rows (fields_of c.args.row) puts)

pub returns-clause-put : goal.returns-clause-put
returns-clause-put g c =
    on_ok_then c.exchange_next.result (λ put w before rows x puts.
    let asks = c.in_ok-request.ensures rows x in
    (asks.0, put w before (full_ingests (rows_records rows)) (full_ingests (rows_records (rows ++ fields_of c.args.row ∷ []))) asks.1 puts)) c.exchange_next.ensures.put

pub returns-clause-lacks : goal.returns-clause-lacks
returns-clause-lacks g c =
    on_err_then c.exchange_next.result (λ lacks w before rows x puts.
    let asks = c.in_ok-request.ensures rows x in
    lacks w before (full_ingests (rows_records rows)) (full_ingests (rows_records (rows ++ fields_of c.args.row ∷ []))) asks.1 puts) c.exchange_next.ensures.lacks
