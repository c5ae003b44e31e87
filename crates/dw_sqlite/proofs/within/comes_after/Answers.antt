use Rattle.std.proofs.Common.{◌≡◌, ap, sym, ◌∙◌, true}
use Rattle.std.specs.Ordering.{nat_cmp, is_lt}
use Rattle.std.specs.Cmp.Lexicographic.{slice_cmp}
use Rattle.dw_sqlite.proofs.Following.{above_last, above_none, ascending_more, less_is}
use Rattle.dw_sqlite.proofs.within.comes_after.Goals as goal

pub returns-in-None : goal.returns-in-None
returns-in-None c _ up = ascending_more c.args.cells.now c.args.key.now (above_none c.args.cells.now c.args.key.now c.in-None.ensures.value) up

pub returns-in-Some : goal.returns-in-Some
returns-in-Some c below up =
    let last = c.in-Some.last.now in
    let key = c.args.key.now in
    let less : is_lt (slice_cmp nat_cmp last.key key) ≡ true =
    sym (c.is_lt.ensures ∙ ap is_lt (c.cmp.ensures ∙ ap (λ k. slice_cmp nat_cmp k key) c.as_slice.ensures)) ∙ below in
    ascending_more c.args.cells.now key (above_last c.args.cells.now last key c.in-Some.ensures.value (less_is (slice_cmp nat_cmp last.key key) less)) up
