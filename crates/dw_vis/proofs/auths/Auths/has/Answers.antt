use Rattle.std.proofs.Common.{◌≡◌, ℕ, List, subst}
use Rattle.dw_vis.specs.Names.{has}
use Rattle.dw_base.proofs.Memberships.{found_named}
use Rattle.dw_vis.proofs.auths.Auths.has.Goals as goal

pub returns-clause-value : goal.returns-clause-value
returns-clause-value c =
    subst (λ (names : List (List ℕ)). c.has_name.result ≡ has names c.args.name.now) c.self.view_is (found_named c.self.inside.names c.args.name.now c.has_name.result c.has_name.ensures)
