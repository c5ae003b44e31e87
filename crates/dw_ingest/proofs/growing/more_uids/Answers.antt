use Rattle.std.proofs.Common.{subst, sym}
use Rattle.dw_derive.specs.UidLists.{FitsForm}
use Rattle.dw_ingest.proofs.Lists.{added_fits}
use Rattle.dw_ingest.proofs.growing.more_uids.Goals as goal

pub encode_list-requires : goal.encode_list-requires
encode_list-requires c = subst (FitsForm c.in-Ok.form) (sym c.in_ok-add-in-Ok.ensures) (added_fits c.in-Ok.form c.in-Ok.list c.args.uid.now)
