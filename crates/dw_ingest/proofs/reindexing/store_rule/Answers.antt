use Rattle.std.proofs.Common.{◌≡◌, ◌≤◌, ◌++◌, ◌∷◌, [], ℕ, List, Option, Some, None, length, ap, sym, refl, subst, ◌∙◌, arith}
use Rattle.std.specs.Prelude.{All}
use Rattle.std.specs.Option.{option_map}
use Rattle.std.specs.FinMap.{entries, insert, len-entries}
use Rattle.std.proofs.lemmas.List.{length-map}
use Rattle.dw_outside.specs.declared.slot.Slot.{Slot}
use Rattle.dw_outside.specs.declared.cell.Put.{Put}
use Rattle.dw_outside.specs.Tables.{Tables, applied, over, puts_from}
use Rattle.dw_derive.specs.Meta.{put_at, field_slot, rule_bytes}
use Rattle.dw_ingest.proofs.EntryTables.{puts_fit}
use Rattle.dw_ingest.proofs.Ending.{with_cell}
use Rattle.dw_ingest.proofs.reindexing.store_rule.Goals as goal

pub apply-requires : goal.apply-requires
apply-requires g c =
    let P : List Put → Type 0 = All (λ p. p.table ≤ 3) in
    let table : c.in_ok-field_cell.field-0.table ≡ 3 = ap (λ (p : Put). p.table) c.in_ok-field_cell.ensures in
    subst P (sym c.as_slice-2.ensures.value) (c.in_ok-keep.ensures.fits (subst P (sym c.in_ok-puts.ensures) (puts_fit c.args.batch.now c.requires)) (omega (arith, table)))

mapped : (f h : Tables → Tables) → ((t : Tables) → f t ≡ h t) → (o : Option Tables) → option_map f o ≡ option_map h o
mapped f h e None = refl
mapped f h e (Some t) = ap (λ x. Some x) (e t)

pub returns-clause-ok : goal.returns-clause-ok
returns-clause-ok g c =
    let all : c.as_slice-2.result.now ≡ puts_from c.args.batch.now ++ put_at (field_slot c.args.field.now) (rule_bytes c.args.rule) ∷ [] =
    c.as_slice-2.ensures.value ∙ c.in_ok-keep.ensures.kept ∙ (λ i. c.in_ok-puts.ensures i ++ c.in_ok-field_cell.ensures i ∷ []) in
    c.in_ok-apply.ensures.ok
    ∙ mapped (applied c.as_slice-2.result.now) (λ t. insert (over c.args.batch.now t) (field_slot c.args.field.now) (rule_bytes c.args.rule)) (λ t. with_cell c.as_slice-2.result.now c.args.batch.now (field_slot c.args.field.now) (rule_bytes c.args.rule) t all) (g.K.Keeper.told c.args.keeper.now)

pub returns-clause-count : goal.returns-clause-count
returns-clause-count g c =
    ap length (c.as_slice.ensures.value ∙ c.in_ok-puts.ensures)
    ∙ length-map (entries c.args.batch.now) (λ (e : Slot × List ℕ). record { table = e.0.table; key = e.0.key; content = e.1 })
    ∙ sym (len-entries c.args.batch.now)
