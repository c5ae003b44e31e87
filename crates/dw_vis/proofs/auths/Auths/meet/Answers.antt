use Rattle.std.proofs.lemmas.List.Kept.{IsStrictlySortedBy-filter}
use Rattle.dw_vis.specs.Names.{name_cmp, has}
use Rattle.dw_vis.proofs.Order.{common_members}
use Rattle.dw_vis.proofs.auths.Auths.meet.Goals as goal

pub from_ascending-requires : goal.from_ascending-requires
from_ascending-requires c =
    rw (c.in_ok-names.ensures, c.as_slice.ensures.same)
    (IsStrictlySortedBy-filter name_cmp (λ n. has c.args.other.now n) c.self.inside.names c.as_slice.ensures.ascending)

pub returns-clause-members : goal.returns-clause-members
returns-clause-members c name =
    rw (c.from_ascending.ensures, c.in_ok-names.ensures, c.as_slice.ensures.same, c.self.view_is)
    (common_members c.args.self.now c.args.other.now name)
