use Rattle.std.proofs.Common.{inl}
use Rattle.dw_http.proofs.tests.TellerService.reply.Goals as goal

pub returns-in-Err-clause-err : goal.returns-in-Err-clause-err
returns-in-Err-clause-err c = inl tt
