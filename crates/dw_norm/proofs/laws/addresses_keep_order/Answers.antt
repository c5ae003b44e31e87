use Rattle.dw_norm.proofs.Addresses.{slice_cmp-addresses}
use Rattle.dw_norm.proofs.laws.addresses_keep_order.Goals as goal

pub returns : goal.returns
returns c = slice_cmp-addresses
