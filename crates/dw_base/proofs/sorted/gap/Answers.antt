use Rattle.dw_base.proofs.Search.{insert_key_found, insert_key_new, searchable}
use Rattle.dw_base.proofs.sorted.gap.Goals as goal

pub returns-in-Ok : goal.returns-in-Ok
returns-in-Ok g c = insert_key_found g.met.T.Ord.total c.args.items.now c.args.item.now c.in-Ok._at c.requires c.in-Ok.ensures.bound c.in-Ok.ensures.ok

pub returns-in-Err : goal.returns-in-Err
returns-in-Err g c = record {
  within = c.in-Err.ensures.bound;
  placed = insert_key_new g.met.T.Ord.total c.args.items.now c.args.item.now c.in-Err.at c.in-Err.ensures.bound (c.in-Err.ensures.position (searchable g.met.T.Ord.total c.args.items.now c.args.item.now c.requires));
}
