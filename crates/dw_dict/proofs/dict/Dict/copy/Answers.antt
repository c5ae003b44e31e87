use Rattle.std.proofs.Common.{ap, ◌∙◌}
use Rattle.std.specs.FinMap as map
use Rattle.dw_dict.proofs.Entries.{same_clone}
use Rattle.dw_dict.proofs.dict.Dict.copy.Goals as goal

pub returns : goal.returns
returns c =
    ap map.from_entries (same_clone _ _ (λ _ _ h. h) (λ _ _ h. h) c.self.inside.rules.entries c.in_ok-rules.rules.entries c.in_ok-rules.ensures.cases)
    ∙ c.self.view_is
