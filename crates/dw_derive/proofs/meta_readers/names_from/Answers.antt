use Rattle.std.proofs.Common.{ap, sym, ◌∙◌}
use Rattle.dw_derive.specs.UidLists.{ascend}
use Rattle.dw_derive.proofs.UidListLemmas.{is_ascending}
use Rattle.dw_derive.proofs.meta_readers.names_from.Goals as goal

pub from_ascending-requires : goal.from_ascending-requires
from_ascending-requires c = is_ascending c.in-Some.names.items (ap ascend (sym c.as_slice.ensures.value) ∙ sym c.ascend.ensures ∙ c.if-not-ascend.false)
