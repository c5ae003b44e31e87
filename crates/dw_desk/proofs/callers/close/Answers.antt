use Rattle.std.proofs.Common.{sym, subst, ℕ, List}
use Rattle.std.specs.BTreeMap.{BTreeMap}
use Rattle.dw_desk.specs.declared.caller.Caller.{Caller}
use Rattle.dw_desk.specs.Accounts.{closed}
use Rattle.dw_desk.specs.Desk.{Changes}
use Rattle.dw_desk.proofs.CallerLemmas.{none_closed}
use Rattle.dw_desk.proofs.callers.close.Goals as goal

pub returns-in-None-clause-closed : goal.returns-in-None-clause-closed
returns-in-None-clause-closed c =
    let P : BTreeMap (List ℕ) Caller → Type 0 = λ m. Changes c.args.callers.now m c.args.name.now (closed c.args.number) in
    subst P (sym c.get_mut.follows.holds-at-none) (none_closed c.args.callers.now c.args.name.now c.args.number (sym c.in-None.ensures.value))
