use Rattle.std.proofs.Common.{◌≡◌, sym, ◌∙◌}
use Rattle.std.specs.Prelude.{true}
use Rattle.std.proofs.lemmas.List.Filters.{dedup_is}
use Rattle.std.proofs.lemmas.List.Kept.{Contains-dedup, Contains-from_dedup, IsStrictlySortedBy-dedup}
use Rattle.std.proofs.lemmas.List.Sorted.{Contains-permutation, IsPermutation-sym}
use Rattle.std.proofs.lemmas.Map.Views.{tells_apart}
use Rattle.dw_base.proofs.Search.{ascending_none}
use Rattle.dw_base.specs.contracts.sorted.Sorted.from_vec.{T-type}
use Rattle.dw_base.proofs.Members.{set_of_members}
use Rattle.dw_base.proofs.sorted.Sorted.from_vec.Goals as goal

pub invariant_of-result : goal.invariant_of-result
invariant_of-result g c =
    rw (dedup_is _ _ _ c.dedup.ensures.filtered)
    (IsStrictlySortedBy-dedup g.met.T.Ord.total g.met.T.Ord.matches_eq _ c.sort_unstable.ensures.sorted)

pub returns-clause-ascending : goal.returns-clause-ascending
returns-clause-ascending g c = invariant_of-result g c

pub returns-clause-members : goal.returns-clause-members
returns-clause-members g c x =
    let moved = c.sort_unstable.ensures.permutation in
    let is = dedup_is _ _ _ c.dedup.ensures.filtered in
    let exact = λ (y : T-type g.row.T) (z : T-type g.row.T) (e : g.T.PartialEq.eq y z ≡ true). tells_apart g.met.T.Exact.exact y z (sym (g.met.T.Ord.matches_eq y z) ∙ e) in (
      λ h. Contains-permutation _ _ x (IsPermutation-sym _ _ moved) (Contains-from_dedup _ _ x (rw is at h)),
      λ h. rw is (Contains-dedup g.met.T.Eq.laws exact _ x (Contains-permutation _ _ x moved h)),
    )

pub returns-clause-value : goal.returns-clause-value
returns-clause-value g c =
    set_of_members g.met.T.Ord.total g.met.T.Exact.exact c.args.items.items c.dedup.new.self.items (ascending_none g.T.Ord.cmp) (invariant_of-result g c) (returns-clause-members g c)
