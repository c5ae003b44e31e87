use Rattle.dw_scan.proofs.shard_tests.bound_query.Goals as goal

pub returns-in-Ok-bind : goal.returns-in-Ok-bind
returns-in-Ok-bind c = c.bound_are_ruled.ensures c.args.dict.now c.in-Ok.query c.in-Ok-bind.query c.in-Ok-bind.ensures.ok
