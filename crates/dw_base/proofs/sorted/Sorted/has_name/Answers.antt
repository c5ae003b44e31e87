use Rattle.std.proofs.Common.{◌≡◌, rules}
use Rattle.std.specs.Ordering.{nat_cmp}
use Rattle.std.specs.Cmp.Lexicographic.{slice_cmp}
use Rattle.std.proofs.lemmas.Fn.{always_returns_same}
use Rattle.dw_base.proofs.Members.{found_name}
use Rattle.dw_base.proofs.sorted.Sorted.has_name.Goals as goal

pub returns : goal.returns
returns g c =
    let position = c.binary_search_by.ensures.position (λ x. slice_cmp nat_cmp (g.T.Named.name x) c.args.name.now)
    (always_returns_same _ (λ a r. r ≡ slice_cmp nat_cmp (g.T.Named.name a.0.now) c.args.name.now) _ (λ a r q k. search rules)) in
    rw (c.is_ok.ensures.value, ← c.self.view_is, ← c.deref.ensures.value)
    (found_name g.met.T.Ord.total g.met.T.Exact.exact g.T.Named.name g.met.T.Named.by_name c.deref.result.now c.args.name.now c.binary_search_by.result
    (rw c.deref.ensures.value c.self.invariant) c.binary_search_by.ensures.bound position)
