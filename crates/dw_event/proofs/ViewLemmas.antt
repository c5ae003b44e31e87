-- What stands in a view.
use Rattle.std.proofs.Common.{◌≡◌, ◌⊎◌, ◌↔◌, ℕ, Bool, true, false, cond, List, [], ◌∷◌, refl, ap, ◌∙◌, subst, inl, inr, rules}
use Rattle.std.specs.Prelude.{map, filter}
use Rattle.std.specs.List.{Contains}
use Rattle.std.specs.Cmp.{IsTotalOrder}
use Rattle.std.specs.Cmp.Rules.{comparing}
use Rattle.dw_base.proofs.Search.{ascending_none}
use Rattle.dw_base.proofs.Members.{StandsIn, stands_from, from_stands, members_of_set, ascending_with_items}
use Rattle.dw_vis.specs.Sight.{sees}
use Rattle.dw_vis.specs.Laws.{SeesByTheGrammar}
use Rattle.dw_event.specs.declared.cells.EventCell.{EventCell}
use Rattle.dw_event.specs.declared.views.Pair.{Pair}
use Rattle.dw_event.specs.Views.{pair_cmp, exact_pairs, pair_of, seen_pairs, view_of, IsShown, ViewsAreExact}

pairs_total : IsTotalOrder pair_cmp
pairs_total = search (comparing, rules)

-- a cell of the pair that is seen
abbrev SeenCell : List (List ℕ) → List EventCell → Pair → Type 0
SeenCell names cells p = (c : EventCell) × StandsIn cells c × (sees c.vis names ≡ true) × (pair_of c ≡ p)

-- the pairs of cells that are seen are those of a cell that is
seen_cell : (names : List (List ℕ)) (cells : List EventCell) (p : Pair) → StandsIn (seen_pairs names cells) p → SeenCell names cells p
seen_cell names [] p h = absurd h
seen_cell names (c ∷ cs) p h = at (sees c.vis names) refl (λ k. seen_cell names cs p k) h
  where
    later : SeenCell names cs p → SeenCell names (c ∷ cs) p
    later k = (k.0, inr k.1, k.2, k.3)

    first : (StandsIn (seen_pairs names cs) p → SeenCell names cs p) → sees c.vis names ≡ true → (pair_of c ≡ p) ⊎ StandsIn (seen_pairs names cs) p → SeenCell names (c ∷ cs) p
    first ih e (inl is) = (c, inl refl, e, is)
    first ih e (inr k) = later (ih k)

    at : (b : Bool) → sees c.vis names ≡ b → (StandsIn (seen_pairs names cs) p → SeenCell names cs p)
        → StandsIn (map pair_of (cond b (c ∷ filter (λ d. sees d.vis names) cs) (filter (λ d. sees d.vis names) cs))) p → SeenCell names (c ∷ cs) p
    at true e ih k = first ih e k
    at false e ih k = later (ih k)

-- and the other way
cell_seen : (names : List (List ℕ)) (cells : List EventCell) (c : EventCell) → StandsIn cells c → sees c.vis names ≡ true → StandsIn (seen_pairs names cells) (pair_of c)
cell_seen names [] c h s = absurd h
cell_seen names (d ∷ ds) c (inl is) s = at (sees d.vis names) (ap (λ (x : EventCell). sees x.vis names) is ∙ s)
  where
    at : (b : Bool) → b ≡ true → StandsIn (map pair_of (cond b (d ∷ filter (λ x. sees x.vis names) ds) (filter (λ x. sees x.vis names) ds))) (pair_of c)
    at true e = inl (ap pair_of is)
    at false e = cc
cell_seen names (d ∷ ds) c (inr h) s = at (sees d.vis names) (cell_seen names ds c h s)
  where
    at : (b : Bool) → StandsIn (seen_pairs names ds) (pair_of c)
        → StandsIn (map pair_of (cond b (d ∷ filter (λ x. sees x.vis names) ds) (filter (λ x. sees x.vis names) ds))) (pair_of c)
    at true k = inr k
    at false k = k

module _ (grammar : SeesByTheGrammar) where
  shown : (names : List (List ℕ)) (cells : List EventCell) (p : Pair) → Contains (seen_pairs names cells) p → IsShown names cells p
  shown names cells p h =
      let c = seen_cell names cells p (stands_from (seen_pairs names cells) p h) in
      (c.0, from_stands cells c.0 c.1, (grammar c.0.vis names).0 c.2, c.3)

  from_shown : (names : List (List ℕ)) (cells : List EventCell) (p : Pair) → IsShown names cells p → Contains (seen_pairs names cells) p
  from_shown names cells p h =
      subst (Contains (seen_pairs names cells)) h.3
      (from_stands (seen_pairs names cells) (pair_of h.0) (cell_seen names cells h.0 (stands_from cells h.0 h.1) ((grammar h.0.vis names).1 h.2)))

  pub views_are_exact : ViewsAreExact
  views_are_exact names cells = (
    ascending_with_items pairs_total exact_pairs [] (seen_pairs names cells) (ascending_none pair_cmp),
    λ p. (
      (λ h. shown names cells p ((members_of_set pairs_total exact_pairs (seen_pairs names cells) p).0 h)),
      (λ h. (members_of_set pairs_total exact_pairs (seen_pairs names cells) p).1 (from_shown names cells p h)),
    ),
  )
