use Rattle.std.proofs.Common.{◌≡◌, sym, ap, ◌∙◌}
use Rattle.std.specs.Bool.{Decides}
use Rattle.std.specs.Cmp.Lexicographic.{pointwise_decides}
use Rattle.std.proofs.lemmas.Map.Views.{tells_apart}
use Rattle.dw_base.specs.contracts.sorted.Sorted.is_same.{T-type}
use Rattle.dw_base.proofs.sorted.Sorted.is_same.Goals as goal

pub returns : goal.returns
returns g c =
    let one : (x y : T-type g.row.T) → Decides (g.T.PartialEq.eq x y) (x ≡ y) = λ x y. (
      (λ t. tells_apart g.met.T.Exact.exact x y (sym (g.met.T.Ord.matches_eq x y) ∙ t)),
      (λ e. sym (ap (λ z. g.T.PartialEq.eq x z) e) ∙ g.met.T.Eq.laws.refl x),
    ) in
    let all = pointwise_decides one c.self.inside.inner.items c.other.inside.inner.items in (
      (λ t. sym c.self.view_is ∙ (all.0 (sym c.eq.ensures ∙ t) ∙ c.other.view_is)),
      (λ e. c.eq.ensures ∙ all.1 (c.self.view_is ∙ (e ∙ sym c.other.view_is))),
    )
