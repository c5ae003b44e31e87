use Rattle.std.proofs.Common.{◌≡◌, List, ℕ, ap, map, sym, subst, false, None, ◌∙◌}
use Rattle.std.specs.Prelude.{filter_map}
use Rattle.std.specs.FinMap.{empty}
use Rattle.dw_dict.specs.declared.rule.FieldRule.{FieldRule}
use Rattle.dw_dict.specs.Dictionary.{Dictionary, rule_of}
use Rattle.dw_dict.specs.Rules.{Widens}
use Rattle.dw_event.specs.Take.{Event}
use Rattle.dw_derive.specs.EventsRead.{code_says, held_after}
use Rattle.dw_derive.specs.Indexing.{slots_added, all_stepped}
use Rattle.dw_derive.specs.Tables.{tables}
use Rattle.dw_ingest.proofs.NewIndexes.{keys_of_pairs, none_stepped, same_events}
use Rattle.dw_ingest.specs.Reindexed.{adds_cells}
use Rattle.dw_outside.specs.Tables.{Tables, HasFourTables}
use Rattle.dw_outside.proofs.FourTables.{empty_fits}
use Rattle.dw_ingest.proofs.reindexing.added.Goals as goal

pub returns-clause-added : goal.returns-clause-added
returns-clause-added g c w has dict wide told =
    let cells = c.in_ok-cells.cells.items in
    let keys = keys_of_pairs cells ∙ ap (map (λ (c : List ℕ × List ℕ). c.0)) (c.in_ok-cells.ensures.cells (tables w) told) in
    let events : c.in_ok-events.events.entries ≡ w.events =
    same_events c.in_ok-events.events.entries w.events c.in_ok-events.ensures.ordered has.ascend
    (λ p. c.in_ok-events.ensures.held p ∙ ap (λ ks. held_after p None (filter_map code_says ks)) (ap (map _) c.as_slice.ensures.value ∙ keys) ∙ c.events_are_gathered.ensures w has p) in
    let same : c.look-old.result ≡ rule_of w.dict c.args.field.now = c.look-old.ensures ∙ ap (λ (d : Dictionary). rule_of d c.args.field.now) (sym dict) in
    let P : Dictionary → Type 0 = λ d. Widens c.args.rule (rule_of d c.args.field.now) in
    c.in_ok-batch.ensures.batch
    ∙ ap (λ (r : FieldRule). all_stepped (slots_added c.args.field.now r c.args.rule) c.in_ok-events.events.entries empty) same
    ∙ ap (λ (es : List Event). all_stepped (slots_added c.args.field.now (rule_of w.dict c.args.field.now) c.args.rule) es empty) events
    ∙ c.indexes_are_steps.ensures w c.args.field.now c.args.rule has (subst P (sym dict) wide)

pub returns-then-not-adds-clause-added : goal.returns-then-not-adds-clause-added
returns-then-not-adds-clause-added g c w has dict wide told =
    let field = c.args.field.now in
    let same : c.look-old.result ≡ rule_of w.dict field = c.look-old.ensures ∙ ap (λ (d : Dictionary). rule_of d field) (sym dict) in
    let P : Dictionary → Type 0 = λ d. Widens c.args.rule (rule_of d field) in
    let none : adds_cells (rule_of w.dict field) c.args.rule ≡ false = ap (λ (r : FieldRule). adds_cells r c.args.rule) (sym same) ∙ sym c.adds.ensures ∙ c.if-not-adds.true in
    c.new.ensures
    ∙ sym (none_stepped field (rule_of w.dict field) c.args.rule none w.events empty)
    ∙ c.indexes_are_steps.ensures w field c.args.rule has (subst P (sym dict) wide)

pub returns-then-not-adds-clause-fits : goal.returns-then-not-adds-clause-fits
returns-then-not-adds-clause-fits g c = let P : Tables → Type 0 = HasFourTables in subst P (sym c.new.ensures) empty_fits
