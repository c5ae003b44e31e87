use Rattle.std.proofs.Common.{ap, ap₂, ◌∙◌, List, ℕ}
use Rattle.std.specs.Option.{option_copied}
use Rattle.dw_dict.specs.Dictionary.{Dictionary}
use Rattle.dw_derive.specs.World.{Grants}
use Rattle.dw_event.specs.declared.days.Days.{Days}
use Rattle.dw_event.specs.declared.types.Types.{Types}
use Rattle.dw_eval.specs.declared.open_query.OpenQuery.{OpenQuery}
use Rattle.dw_desk.specs.State.{granted_to}
use Rattle.dw_desk.specs.Stands.{grants_of}
use Rattle.dw_desk.specs.Step.{allowed}
use Rattle.dw_desk.proofs.desk.Desk.query_now.Goals as goal

pub returns-clause-query : goal.returns-clause-query
returns-clause-query c = λ w rules.
    let made : ℕ → Dictionary → List (List ℕ) → Days → Types → OpenQuery = λ last d a y t. record { query = c.args.query; dict = d; auths = a; snapshot = last; days = y; types = t; size = c.args.size } in
    let held = c.args.self.now.dict in
    let days = c.args.days.now in
    let types = c.args.types.now in
    ap (λ t. made c.args.self.now.last c.in_ok-copy.field-0 c.in_ok-names_for.field-0 c.in_ok-copy-3.field-0 t) c.in_ok-copy-2.ensures
    ∙ ap (λ y. made c.args.self.now.last c.in_ok-copy.field-0 c.in_ok-names_for.field-0 y types) c.in_ok-copy-3.ensures
    ∙ ap (λ d. made c.args.self.now.last d c.in_ok-names_for.field-0 days types) c.in_ok-copy.ensures
    ∙ ap (λ a. made c.args.self.now.last held a days types) c.in_ok-names_for.ensures
    ∙ ap (λ n. made n held (allowed (granted_to (grants_of c.args.self.now.grants) c.args.caller.now) (option_copied c.args.asked)) days types) rules.last
    ∙ ap₂ (λ d (gs : Grants). made w.last d (allowed (granted_to gs c.args.caller.now) (option_copied c.args.asked)) days types) rules.dict rules.grants
