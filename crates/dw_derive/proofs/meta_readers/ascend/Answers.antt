use Rattle.std.proofs.Common.{rules, refl}
use Rattle.std.specs.Ordering.{is_lt}
use Rattle.std.proofs.lemmas.Fn.{always_returns_same}
use Rattle.dw_derive.specs.UidLists.{uid_cmp}
use Rattle.dw_derive.proofs.UidListLemmas.{ascends}
use Rattle.dw_derive.proofs.meta_readers.ascend.Goals as goal

pub returns : goal.returns
returns c =
    ascends c.args.names.now c.is_sorted_by.result
    (c.is_sorted_by.ensures.cases (λ x y. is_lt (uid_cmp x y)) (always_returns_same _ _ _ (λ a r f' k. (search rules, refl))))
