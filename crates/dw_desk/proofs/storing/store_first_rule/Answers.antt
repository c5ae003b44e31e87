use Rattle.std.proofs.Common.{◌≡◌, ap, ◌∙◌, refl, subst, arith, Option, Some}
use Rattle.std.specs.Prelude.{OnOk}
use Rattle.std.specs.Option.{option_map}
use Rattle.std.specs.FinMap as map
use Rattle.dw_outside.specs.declared.cell.Put.{Put}
use Rattle.dw_outside.specs.Tables.{Tables}
use Rattle.dw_derive.specs.Meta.{field_slot, rule_bytes, put_at}
use Rattle.dw_desk.proofs.StoredCells.{one_fits, one_applied}
use Rattle.dw_desk.proofs.storing.store_first_rule.Goals as goal

pub apply-requires : goal.apply-requires
apply-requires g c =
    let table : c.in_ok-put.put.table ≡ 3 = ap (λ (p : Put). p.table) c.in_ok-put.ensures in
    one_fits _ c.in_ok-put.put refl (omega (arith, table))

pub returns-clause-ok : goal.returns-clause-ok
returns-clause-ok g c = λ w world none told.
    let field = c.args.field.now in
    let rule = c.args.rule in
    let put : c.in_ok-put.put ≡ put_at (field_slot field) (rule_bytes rule) = c.in_ok-put.ensures ∙ ap (λ f. put_at (field_slot f) (rule_bytes rule)) c.as_str.ensures.same in
    subst (λ (o : Option Tables). OnOk c.apply.result (g.K.Keeper.told c.apply.new.self ≡ o))
    (one_applied _ c.in_ok-put.put (field_slot field) (rule_bytes rule) (g.K.Keeper.told c.args.keeper.now) refl put
    ∙ ap (option_map (λ t. map.insert t (field_slot field) (rule_bytes rule))) told
    ∙ ap Some (c.rules_are_cells.ensures w field rule (world.none.0 none)))
    c.apply.ensures.ok

pub returns-clause-lawful : goal.returns-clause-lawful
returns-clause-lawful g c = λ w world none fits. c.rules_keep_worlds.ensures w c.args.field.now c.args.rule (world.none.0 none) world fits
