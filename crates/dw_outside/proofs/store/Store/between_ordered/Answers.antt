use Rattle.std.proofs.Common.{◌≡◌, ◌≤◌, ℕ, List, ap, sym, subst, ◌∙◌, map, length, arith}
use Rattle.std.specs.Prelude.{◌⊎◌}
use Rattle.std.proofs.lemmas.List.{length-map}
use Rattle.std.specs.FinMap.{entries}
use Rattle.std.specs.BTreeMap.Range.{entries_between}
use Rattle.std.specs.declared.ops.Bound.TheVariants.{Included, Excluded}
use Rattle.dw_outside.specs.declared.slot.Slot.{Slot}
use Rattle.dw_outside.specs.Tables.{slot_cmp, cell_pair}
use Rattle.dw_outside.specs.Spans.{cells_between}
use Rattle.dw_outside.proofs.CellMaps.{entries_are, limited_all, limited_cut}
use Rattle.dw_outside.proofs.store.Store.between_ordered.Goals as goal
use Rattle.dw_outside.proofs.store.Store.between_ordered.Goals.{in-None, in-Some+then-limit-ne0+then-len-limit}

abbrev pair_of : Slot × List ℕ → List ℕ × List ℕ
pair_of e = (e.0.key, e.1)

pub returns : goal.returns
returns c =
    let inv = c.loop-slot.invariant in
    let cells = map cell_pair c.loop-slot.cells.items in
    let left = map pair_of c.loop-slot.slot-iterator in
    let range = c.range-slot-items.ensures in
    let long : length cells ≡ length c.loop-slot.cells.items = length-map c.loop-slot.cells.items cell_pair in
    let few : (c.args.limit ≡ 0) ⊎ (length cells ≤ c.args.limit) = subst (λ n. (c.args.limit ≡ 0) ⊎ (n ≤ c.args.limit)) (sym long) inv.1 in
    let between = λ (es : List (Slot × List ℕ)). map pair_of (entries_between slot_cmp (Included c.args.lo) (Excluded c.args.hi) es) in
    let whole : map pair_of c.into_iter-slot-iterator.result ≡ cells_between c.args.lo c.args.hi c.args.self.now =
    ap (map pair_of) (c.into_iter-slot-iterator.ensures.into_iter_gives ∙ range.between tt)
    ∙ ap between (sym (entries_are c.self.inside.cells.entries range.ordered) ∙ ap entries c.self.view_is) in
    elim c.match-next.branch [
      | in-None w ↦ limited_all c.args.limit cells left _ (inv.0 ∙ whole) few (ap (map pair_of) w.in-None.ensures.steps.0)
      | in-Some+then-limit-ne0+then-len-limit w ↦ limited_cut c.args.limit cells left _ (inv.0 ∙ whole) few w.if-limit-ne0.true (omega (arith, w.if-len-limit.true, w.len.ensures, long, c.loop-slot.cells.ok.0))
    ]
