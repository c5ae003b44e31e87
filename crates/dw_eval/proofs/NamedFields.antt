-- The fields that a query does not name do not matter to it.
use Rattle.std.proofs.Common.{◌≡◌, ℕ, suc, ◌+◌, ◌<◌, Bool, true, false, cond, not, ◌&&◌, ◌||◌, List, [], ◌∷◌, ◌++◌, length, drop, get_or, map, filter, refl, ap, sym, subst, ◌∙◌, add-one, drop-cons}
use denote.Hole.Carrier.{roll}
use Rattle.std.specs.Prelude.{Option, Some, None, option_map, option_to_list}
use Rattle.std.specs.List.{AllByRecursion, list_all, list_any, cons_option}
use Rattle.std.specs.List.Sorted.{IsStrictlySortedBy}
use Rattle.std.specs.Ordering.{nat_cmp, is_eq}
use Rattle.std.specs.declared.cmp.Ordering.TheVariants.{Less}
use Rattle.std.specs.Cmp.{tied_itself}
use Rattle.std.specs.Cmp.Lexicographic.{slice_cmp, nat_list_cmp_total, bytes_decides, texts_ties}
use Rattle.dw_norm.specs.Normal.{norm}
use Rattle.dw_dict.specs.Dictionary.{Dictionary, rule_of}
use Rattle.dw_event.specs.Texts.{is_same}
use Rattle.dw_event.specs.Views as views
use Rattle.dw_event.specs.declared.views.Pair.{Pair}
use Rattle.dw_eval.specs.declared.nview.Formed.{Formed}
use Rattle.dw_eval.specs.declared.nquery.NQuery.{NQuery, map-NQuery}
use Rattle.dw_eval.specs.declared.nquery.NQuery.TheOpen.{NQuery-F}
use Rattle.dw_eval.specs.declared.nquery.NQuery.TheOpen as layer
use Rattle.dw_eval.specs.declared.nquery.NQuery.TheViews.{roll-NQuery}
use Rattle.dw_eval.specs.declared.nquery.NQuery.TheFolds.{fold-roll-NQuery, ind-NQuery}
use Rattle.dw_eval.specs.Values.{pair_form, normal_view, values_of}
use Rattle.dw_eval.specs.Leaves.{some_value, some_equal, is_below, is_above, holds}
use Rattle.dw_eval.specs.Named.{names, names_step, named_pairs, named_form}
use Rattle.dw_eval.specs.Sat.{sat, sat_step}
use Rattle.dw_eval.specs.Laws.{NamedFieldsDecide}
use Rattle.std.specs.List.{starts_with, ends_with}
use Rattle.std.specs.Prelude.{nat_eq}

same_itself : (field : List ℕ) → is_same field field ≡ true
same_itself field = ap is_eq (tied_itself nat_list_cmp_total field)

same_bytes : (a b : List ℕ) → is_same a b ≡ true → a ≡ b
same_bytes a b e = (bytes_decides a b).0 (texts_ties a b ∙ e)

-- ---- one pair after another

named_first : (dict : Dictionary) (q : NQuery) (p : Pair) (ps : List Pair) → normal_view dict (named_pairs q (p ∷ ps)) ≡ named_form dict q p ++ normal_view dict (named_pairs q ps)
named_first dict q p ps = at (names p.field q)
  where
    formed : (o : Option Formed) (xs : List Formed) → cons_option o xs ≡ option_to_list o ++ xs
    formed None xs = refl
    formed (Some x) xs = refl

    at : (b : Bool) → normal_view dict (cond b (p ∷ named_pairs q ps) (named_pairs q ps)) ≡ cond b (option_to_list (pair_form dict p)) [] ++ normal_view dict (named_pairs q ps)
    at true = formed (pair_form dict p) (normal_view dict (named_pairs q ps))
    at false = refl

pub named_step : (dict : Dictionary) (q : NQuery) (ps : List Pair) (i : ℕ) (p : Pair) → i < length ps → p ≡ get_or ps i p
    → normal_view dict (named_pairs q (drop i ps)) ≡ named_form dict q p ++ normal_view dict (named_pairs q (drop (i + 1) ps))
named_step dict q ps i p h is =
    rw add-one
    (ap (λ xs. normal_view dict (named_pairs q xs)) (drop-cons ps i p h ∙ ap (λ x. x ∷ drop (suc i) ps) (sym is)) ∙ named_first dict q p (drop (suc i) ps))

-- ---- a view that ascends does so with pairs left out

module _ (keep : Pair → Bool) where
  above_kept : (p : Pair) (ps : List Pair) → AllByRecursion (λ q. views.pair_cmp p q ≡ Less) ps → AllByRecursion (λ q. views.pair_cmp p q ≡ Less) (filter keep ps)
  above_kept p [] h = tt
  above_kept p (q ∷ qs) h = at (keep q) (above_kept p qs h.1)
    where
      at : (b : Bool) → AllByRecursion (λ q. views.pair_cmp p q ≡ Less) (filter keep qs) → AllByRecursion (λ q. views.pair_cmp p q ≡ Less) (cond b (q ∷ filter keep qs) (filter keep qs))
      at true later = (h.0, later)
      at false later = later

  pub kept_ascend : (ps : List Pair) → views.IsAscending ps → views.IsAscending (filter keep ps)
  unfolding IsStrictlySortedBy
  kept_ascend [] h = tt
  kept_ascend (p ∷ ps) h = at (keep p) (kept_ascend ps h.1)
    where
      at : (b : Bool) → views.IsAscending (filter keep ps) → views.IsAscending (cond b (p ∷ filter keep ps) (filter keep ps))
      at true later = (above_kept p ps h.0, later)
      at false later = later

pub named_ascend : (q : NQuery) (ps : List Pair) → views.IsAscending ps → views.IsAscending (named_pairs q ps)
named_ascend q ps h = kept_ascend (λ p. names p.field q) ps h

-- ---- the values of a field that is kept

module _ (dict : Dictionary) (keep : List ℕ → Bool) where
  abbrev cut : List Pair → List Formed
  cut view = normal_view dict (filter (λ p. keep p.field) view)

  module _ (field : List ℕ) (kept : keep field ≡ true) where
    both : (o : Option Formed) (xs ys : List Formed) → values_of field xs ≡ values_of field ys → values_of field (cons_option o xs) ≡ values_of field (cons_option o ys)
    both None xs ys h = h
    both (Some x) xs ys h = ap (λ vs. cond (is_same x.field field) (x ∷ vs) vs) h

    other : (p : Pair) (o : Option (List ℕ)) (ys : List Formed) → is_same p.field field ≡ false
        → values_of field ys ≡ values_of field (cons_option (option_map (λ form. record { field = p.field; form = form }) o) ys)
    other p None ys e = refl
    other p (Some form) ys e = sym (ap (λ b. cond b (record { field = p.field; form = form } ∷ values_of field ys) (values_of field ys)) e)

    apart : (p : Pair) → keep p.field ≡ false → (b : Bool) → is_same p.field field ≡ b → is_same p.field field ≡ false
    apart p e true s = let f : true ≡ false = sym kept ∙ sym (ap keep (same_bytes p.field field s)) ∙ e in absurd (cc)
    apart p e false s = s

    values_kept : (view : List Pair) → values_of field (cut view) ≡ values_of field (normal_view dict view)
    values_kept [] = refl
    values_kept (p ∷ ps) = at (values_kept ps) (keep p.field) refl
      where
        at : values_of field (cut ps) ≡ values_of field (normal_view dict ps) → (b : Bool) → keep p.field ≡ b → values_of field (normal_view dict (cond b (p ∷ filter (λ x. keep x.field) ps) (filter (λ x. keep x.field) ps))) ≡ values_of field (normal_view dict (p ∷ ps))
        at later true e = both (pair_form dict p) (cut ps) (normal_view dict ps) later
        at later false e = later ∙ other p (norm (rule_of dict p.field).kind p.raw) (normal_view dict ps) (apart p e (is_same p.field field) refl)

  -- ---- the whole query

  module _ (view : List Pair) where
    abbrev old : List Formed
    old = normal_view dict view

    abbrev new : List Formed
    new = cut view

    abbrev IsAlike : NQuery → Type 0
    IsAlike q = ((f : List ℕ) → names f q ≡ true → keep f ≡ true) → sat new q ≡ sat old q

    abbrev Child : Type 0
    Child = (q : NQuery) × IsAlike q

    abbrev those : List Child → List NQuery
    those es = map (λ e. e.0) es

    sat_of : (v : List Formed) (y : NQuery-F NQuery) → sat v (roll-NQuery y) ≡ sat_step v (map-NQuery NQuery Bool (sat v) y)
    sat_of v y = fold-roll-NQuery Bool (sat_step v) y

    names_of : (f : List ℕ) (y : NQuery-F NQuery) → names f (roll-NQuery y) ≡ names_step f (map-NQuery NQuery Bool (names f) y)
    names_of f y = fold-roll-NQuery Bool (names_step f) y

    at_leaf : (y : NQuery-F NQuery) (field : List ℕ) (test : List ℕ → Bool)
        → ((v : List Formed) → sat_step v (map-NQuery NQuery Bool (sat v) y) ≡ some_value v field test)
        → names_step field (map-NQuery NQuery Bool (names field) y) ≡ is_same field field → IsAlike (roll-NQuery y)
    at_leaf y field test s n h =
        let k : keep field ≡ true = h field (names_of field y ∙ n ∙ same_itself field) in
        sat_of new y ∙ s new ∙ ap (λ vs. list_any (λ p. test p.form) vs) (values_kept field k view) ∙ sym (s old) ∙ sym (sat_of old y)

    or_left : (a b : Bool) → a ≡ true → (a || b) ≡ true
    or_left true b e = refl
    or_left false b e = absurd (cc)

    or_right : (a b : Bool) → b ≡ true → (a || b) ≡ true
    or_right true b e = refl
    or_right false b e = e

    abbrev NamesKept : List Child → Type 0
    NamesKept es = (f : List ℕ) → list_any (λ b. b) (map (names f) (those es)) ≡ true → keep f ≡ true

    children_alike : (es : List Child) → NamesKept es → map (sat new) (those es) ≡ map (sat old) (those es)
    children_alike [] h = refl
    children_alike (e ∷ es) h =
        ap (λ b. b ∷ map (sat new) (those es)) (e.1 (λ f n. h f (or_left (names f e.0) (list_any (λ b. b) (map (names f) (those es))) n)))
        ∙ ap (λ bs. sat old e.0 ∷ bs) (children_alike es (λ f n. h f (or_right (names f e.0) (list_any (λ b. b) (map (names f) (those es))) n)))

    layer_alike : (y : NQuery-F Child) → IsAlike (roll-NQuery (map-NQuery Child NQuery (λ e. e.0) y))
    layer_alike (layer.Equal f r v) = at_leaf (layer.Equal f r v) f (λ form. is_same form v) (λ w. refl) refl
    layer_alike (layer.Below f r v e) = at_leaf (layer.Below f r v e) f (λ form. is_below form v e) (λ w. refl) refl
    layer_alike (layer.Above f r v e) = at_leaf (layer.Above f r v e) f (λ form. is_above form v e) (λ w. refl) refl
    layer_alike (layer.Between f r l e h g) = at_leaf (layer.Between f r l e h g) f (λ form. is_above form l e && is_below form h g) (λ w. refl) refl
    layer_alike (layer.Starts f r t) = at_leaf (layer.Starts f r t) f (λ form. starts_with nat_eq form t) (λ w. refl) refl
    layer_alike (layer.Ends f r t) = at_leaf (layer.Ends f r t) f (λ form. ends_with nat_eq form t) (λ w. refl) refl
    layer_alike (layer.Holds f r t) = at_leaf (layer.Holds f r t) f (λ form. holds form t) (λ w. refl) refl
    layer_alike (layer.Not e) = λ h.
        sat_of new (layer.Not e.0) ∙ ap not (e.1 (λ f n. h f (names_of f (layer.Not e.0) ∙ n))) ∙ sym (sat_of old (layer.Not e.0))
    layer_alike (layer.And es) = λ h.
        sat_of new (layer.And (those es)) ∙ ap (λ bs. list_all (λ b. b) bs) (children_alike es (λ f n. h f (names_of f (layer.And (those es)) ∙ n))) ∙ sym (sat_of old (layer.And (those es)))
    layer_alike (layer.Or es) = λ h.
        sat_of new (layer.Or (those es)) ∙ ap (λ bs. list_any (λ b. b) bs) (children_alike es (λ f n. h f (names_of f (layer.Or (those es)) ∙ n))) ∙ sym (sat_of old (layer.Or (those es)))

    pub query_alike : (q : NQuery) → IsAlike q
    query_alike = ind-NQuery IsAlike (λ x y is. subst (λ z. IsAlike (roll-NQuery z)) is (layer_alike y))

pub named_decide : NamedFieldsDecide
named_decide dict view q = query_alike dict (λ f. names f q) view q (λ f n. n)
