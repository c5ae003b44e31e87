use Rattle.std.proofs.Common.{◌≡◌, List, [], ◌∷◌, ap, refl, ◌∙◌, map, ℕ}
use Rattle.dw_outside.specs.declared.cell.Cell.{Cell}
use Rattle.dw_outside.specs.Tables.{cell_pair, span_of}
use Rattle.dw_derive.specs.Documents.{document_start, document_end, cells_from}
use Rattle.dw_derive.proofs.documents.document.Goals as goal

keys_twice : (cells : List Cell) → map (λ c. c.key) cells ≡ map (λ p. p.0) (map cell_pair cells)
keys_twice [] = refl
keys_twice (c ∷ cells) = ap (λ ks. c.key ∷ ks) (keys_twice cells)

pub returns-clause-cells : goal.returns-clause-cells
returns-clause-cells g c t is =
    let start : c.as_slice.result.now ≡ document_start c.args.place.now = c.as_slice.ensures ∙ c.in_ok-start.ensures.0 in
    let end : c.as_slice-2.result.now ≡ document_end c.args.place.now = c.as_slice-2.ensures ∙ c.in_ok-start.ensures.1 in
    c.in_ok-said.ensures
    ∙ ap (λ (xs : List Cell). cells_from (map (λ c. c.key) xs)) c.as_slice-3.ensures.value
    ∙ ap cells_from (keys_twice c.in_ok-cells.cells.items ∙ ap (map (λ (p : List ℕ × List ℕ). p.0)) (c.in_ok-cells.ensures.cells t is ∙ (λ i. span_of 0 (start i) (end i) t)))
