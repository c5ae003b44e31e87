use Rattle.std.proofs.Common.{◌≡◌, sym, ap, ◌∙◌, unwrap_or}
use Rattle.std.specs.FinMap as map
use Rattle.dw_dict.specs.Dictionary.{rule_of, of_entries}
use Rattle.dw_dict.proofs.Entries.{get_text}
use Rattle.dw_dict.proofs.dict.Dict.look.Goals as goal

pub returns : goal.returns
returns c =
    let found : c.copied.result ≡ map.get (of_entries c.self.inside.rules.entries) c.args.field.now =
    c.copied.ensures ∙ c.get.ensures.value ∙ sym (get_text c.self.inside.rules c.args.field.now) in
    c.unwrap_or.ensures ∙ (λ i. unwrap_or (found i) (c.undefined.ensures i)) ∙ ap (λ d. rule_of d c.args.field.now) c.self.view_is
