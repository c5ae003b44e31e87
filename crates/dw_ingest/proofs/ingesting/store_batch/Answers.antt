use Rattle.std.proofs.Common.{◌≡◌, ◌≤◌, ◌++◌, ◌∷◌, [], List, Option, Some, None, ap, sym, refl, subst, ◌∙◌, arith}
use Rattle.std.specs.Prelude.{All, OnOk}
use Rattle.std.specs.Option.{option_map}
use Rattle.std.specs.FinMap.{insert}
use Rattle.dw_outside.specs.declared.cell.Put.{Put}
use Rattle.dw_outside.specs.Tables.{Tables, applied, over, puts_from}
use Rattle.dw_derive.specs.Meta.{put_at, commit_slot, commit_bytes}
use Rattle.dw_ingest.proofs.EntryTables.{puts_fit}
use Rattle.dw_ingest.proofs.Ending.{with_cell}
use Rattle.dw_ingest.proofs.ingesting.store_batch.Goals as goal

pub apply-requires : goal.apply-requires
apply-requires g c =
    let P : List Put → Type 0 = All (λ p. p.table ≤ 3) in
    let table : c.in_ok-commit_cell.field-0.table ≡ 3 = ap (λ (p : Put). p.table) c.in_ok-commit_cell.ensures in
    subst P (sym c.as_slice.ensures.value) (c.in_ok-keep.ensures.fits (subst P (sym c.in_ok-puts.ensures) (puts_fit c.args.batch.now c.requires.fits)) (omega (arith, table)))

mapped : (f h : Tables → Tables) → ((t : Tables) → f t ≡ h t) → (o : Option Tables) → option_map f o ≡ option_map h o
mapped f h e None = refl
mapped f h e (Some t) = ap (λ x. Some x) (e t)

pub returns-clause-ok : goal.returns-clause-ok
returns-clause-ok g c =
    let all : c.as_slice.result.now ≡ puts_from c.args.batch.now ++ put_at commit_slot (commit_bytes c.args.number) ∷ [] =
    c.as_slice.ensures.value ∙ c.in_ok-keep.ensures.kept ∙ (λ i. c.in_ok-puts.ensures i ++ c.in_ok-commit_cell.ensures i ∷ []) in
    let P : Option Tables → Type 0 = λ o. OnOk c.apply.result (g.K.Keeper.told c.apply.new.self ≡ o) in
    subst P (mapped (applied c.as_slice.result.now) (λ t. insert (over c.args.batch.now t) commit_slot (commit_bytes c.args.number)) (λ t. with_cell c.as_slice.result.now c.args.batch.now commit_slot (commit_bytes c.args.number) t all) (g.K.Keeper.told c.args.keeper.now)) c.apply.ensures.ok
