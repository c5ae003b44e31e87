use Rattle.std.proofs.Common.{sym, subst, ℕ, List}
use Rattle.std.specs.BTreeMap.{BTreeMap}
use Rattle.dw_desk.specs.declared.caller.Caller.{Caller}
use Rattle.dw_desk.specs.Accounts.{marked}
use Rattle.dw_desk.specs.Desk.{Changes}
use Rattle.dw_desk.proofs.CallerLemmas.{changes_written, none_marked}
use Rattle.dw_desk.proofs.callers.set_mark.Goals as goal

pub returns-in-None : goal.returns-in-None
returns-in-None c =
    let P : BTreeMap (List ℕ) Caller → Type 0 = λ m. Changes c.args.callers.now m c.args.name.now (marked c.args.number c.args.mark) in
    subst P (sym c.get_mut.follows.holds-at-none) (none_marked c.args.callers.now c.args.name.now c.args.number c.args.mark (sym c.in-None.ensures.value))

pub returns-in-Some : goal.returns-in-Some
returns-in-Some c =
    changes_written c.args.callers.now (c.get_mut.follows.lender c.set_mark.new.self) c.args.name.now c.in-Some.caller.now c.set_mark.new.self (marked c.args.number c.args.mark)
    (sym c.in-Some.ensures.value) (c.get_mut.follows.holds c.set_mark.new.self).0 c.set_mark.ensures
