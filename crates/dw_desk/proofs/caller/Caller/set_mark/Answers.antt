use Rattle.std.proofs.Common.{◌≡◌, sym, ap, ◌∙◌, subst, ℕ}
use Rattle.std.specs.Ordering.{nat_cmp}
use Rattle.std.specs.BTreeMap.{BTreeMap, get, is_at}
use Rattle.std.specs.Map.{set_value}
use Rattle.dw_desk.specs.declared.kept_query.KeptQuery.{KeptQuery}
use Rattle.dw_desk.specs.Accounts.{entry_account, marked}
use Rattle.dw_desk.proofs.Entries.{mark_written, none_marked_in}
use Rattle.dw_desk.proofs.caller.Caller.set_mark.Goals as goal

pub returns-in-None : goal.returns-in-None
returns-in-None c =
    let d = c.args.self.now in
    subst (λ (m : BTreeMap ℕ KeptQuery). record { given = d.given; queries = get nat_cmp m } ≡ marked c.args.number c.args.mark (entry_account d)) (sym c.get_mut.follows.holds-at-none)
    (sym (none_marked_in c.args.number c.args.mark (entry_account d) (sym c.in-None.ensures.value)))

pub returns-in-Some : goal.returns-in-Some
returns-in-Some c =
    let d = c.args.self.now in
    let m = c.get_mut.follows.lender c.set_mark.new.self in
    mark_written d.queries m d.given c.args.number c.args.mark c.in-Some.query.now (sym c.in-Some.ensures.value)
    ((c.get_mut.follows.holds c.set_mark.new.self).0 ∙ ap (λ l. set_value (is_at (nat_cmp c.args.number)) d.queries.entries l) c.set_mark.ensures)
