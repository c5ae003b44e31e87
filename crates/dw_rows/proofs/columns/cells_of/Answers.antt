use Rattle.std.proofs.Common.{List, ℕ, ◌∷◌, ◌++◌, [], map, sym, ap, ◌∙◌, Bor}
use Rattle.std.proofs.lemmas.List.{map-append}
use Rattle.csv.specs.Records.{fields_of}
use Rattle.dw_rows.proofs.ColumnSteps.{one_more}
use Rattle.dw_rows.proofs.columns.cells_of.Goals as goal

pub loop-i-preserved : goal.loop-i-preserved
loop-i-preserved c =
    let now = λ (s : Bor (List ℕ)). s.now in
    ap (map now) c.in_ok-push.ensures.items
    ∙ (map-append now c.loop-i.cells.items (c.in-Some.cell ∷ [])
    ∙ (ap (λ xs. xs ++ c.in-Some.cell.now ∷ []) c.loop-i.invariant
    ∙ one_more (fields_of c.args.row.now) c.loop-i.i c.in-Some.cell.now (sym c.in-Some.ensures.value)))
