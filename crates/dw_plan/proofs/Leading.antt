-- Values that satisfy an anchored query meet one of its anchors.
use Rattle.std.proofs.Common.{◌≡◌, Bool, true, false, not, ◌&&◌, ◌||◌, List, [], ◌∷◌, map, refl, ap, sym, subst, ◌∙◌}
use Rattle.std.specs.List.{list_all, list_any}
use Rattle.std.proofs.lemmas.Bool.{and_parts, and_from}
use Rattle.dw_eval.specs.declared.nview.Formed.{Formed}
use Rattle.dw_eval.specs.declared.nquery.NQuery.{NQuery, map-NQuery}
use Rattle.dw_eval.specs.declared.nquery.NQuery.TheOpen.{NQuery-F}
use Rattle.dw_eval.specs.declared.nquery.NQuery.TheOpen as layer
use Rattle.dw_eval.specs.declared.nquery.NQuery.TheViews.{roll-NQuery}
use Rattle.dw_eval.specs.declared.nquery.NQuery.TheFolds.{fold-roll-NQuery, ind-NQuery}
use Rattle.dw_eval.specs.Leaves.{some_equal, some_between, some_starts, some_ends}
use Rattle.dw_eval.specs.Sat.{sat, sat_step}
use Rattle.dw_plan.specs.Anchored.{Place, anchored_at, anchored_step, led, led_step, AnchorsLead}

module _ (view : List Formed) where
  -- the values decide the query at its place, and it is anchored there: then they meet an anchor
  abbrev Leads : NQuery → Type 0
  Leads q = (place : Place) → anchored_at q place ≡ true → sat view q ≡ place → led view q ≡ true

  abbrev Child : Type 0
  Child = (q : NQuery) × Leads q

  abbrev those : List Child → List NQuery
  those es = map (λ e. e.0) es

  anchored_of : (y : NQuery-F NQuery) (place : Place) → anchored_at (roll-NQuery y) place ≡ anchored_step (map-NQuery NQuery (Place → Bool) anchored_at y) place
  anchored_of y place = ap (λ f. f place) (fold-roll-NQuery (Place → Bool) anchored_step y)

  sat_of : (y : NQuery-F NQuery) → sat view (roll-NQuery y) ≡ sat_step view (map-NQuery NQuery Bool (sat view) y)
  sat_of y = fold-roll-NQuery Bool (sat_step view) y

  led_of : (y : NQuery-F NQuery) → led view (roll-NQuery y) ≡ led_step view (map-NQuery NQuery Bool (led view) y)
  led_of y = fold-roll-NQuery Bool (led_step view) y

  abbrev any_led : List Child → Bool
  any_led es = list_any (λ c. c) (map (led view) (those es))

  or_left : (a b : Bool) → a ≡ true → (a || b) ≡ true
  or_left true b e = refl
  or_left false b e = absurd (cc)

  or_right : (a b : Bool) → b ≡ true → (a || b) ≡ true
  or_right true b e = refl
  or_right false b e = e

  and_left_false : (a b : Bool) → a ≡ true → (a && b) ≡ false → b ≡ false
  and_left_false true b e h = h
  and_left_false false b e h = absurd (cc)

  or_left_false : (a b : Bool) → a ≡ false → (a || b) ≡ true → b ≡ true
  or_left_false true b e h = absurd (cc)
  or_left_false false b e h = h

  all_true : (es : List Child) → list_any (λ c. c true) (map anchored_at (those es)) ≡ true → list_all (λ b. b) (map (sat view) (those es)) ≡ true → any_led es ≡ true
  all_true [] h k = absurd (cc)
  all_true (e ∷ es) h k =
      let p = and_parts (sat view e.0) (list_all (λ b. b) (map (sat view) (those es))) k in
      at (λ a. all_true es a p.1) (anchored_at e.0 true) refl p.0
    where
      at : (list_any (λ c. c true) (map anchored_at (those es)) ≡ true → any_led es ≡ true) → (b : Bool) → anchored_at e.0 true ≡ b → sat view e.0 ≡ true → any_led (e ∷ es) ≡ true
      at later true a s = or_left (led view e.0) (any_led es) (e.1 true a s)
      at later false a s = or_right (led view e.0) (any_led es) (later (or_left_false (anchored_at e.0 true) (list_any (λ c. c true) (map anchored_at (those es))) a h))

  all_false : (es : List Child) → list_any (λ c. c false) (map anchored_at (those es)) ≡ true → list_any (λ b. b) (map (sat view) (those es)) ≡ false → any_led es ≡ true
  all_false [] h k = absurd (cc)
  all_false (e ∷ es) h k = at (λ a b. all_false es a b) (sat view e.0) refl (anchored_at e.0 false) refl
    where
      at : (list_any (λ c. c false) (map anchored_at (those es)) ≡ true → list_any (λ b. b) (map (sat view) (those es)) ≡ false → any_led es ≡ true)
          → (b : Bool) → sat view e.0 ≡ b → (a : Bool) → anchored_at e.0 false ≡ a → any_led (e ∷ es) ≡ true
      at later true s a i = let f : true ≡ false = sym (or_left (sat view e.0) (list_any (λ b. b) (map (sat view) (those es))) s) ∙ k in absurd (cc)
      at later false s true i = or_left (led view e.0) (any_led es) (e.1 false i s)
      at later false s false i =
          or_right (led view e.0) (any_led es)
          (later (or_left_false (anchored_at e.0 false) (list_any (λ c. c false) (map anchored_at (those es))) i h)
          (sym (ap (λ b. b || list_any (λ b. b) (map (sat view) (those es))) s) ∙ k))

  some_true : (es : List Child) → list_all (λ c. c true) (map anchored_at (those es)) ≡ true → list_any (λ b. b) (map (sat view) (those es)) ≡ true → any_led es ≡ true
  some_true [] h k = absurd (cc)
  some_true (e ∷ es) h k =
      let p = and_parts (anchored_at e.0 true) (list_all (λ c. c true) (map anchored_at (those es))) h in
      at (λ m. some_true es p.1 m) (sat view e.0) refl p.0
    where
      at : (list_any (λ b. b) (map (sat view) (those es)) ≡ true → any_led es ≡ true) → (b : Bool) → sat view e.0 ≡ b → anchored_at e.0 true ≡ true → any_led (e ∷ es) ≡ true
      at later true s a = or_left (led view e.0) (any_led es) (e.1 true a s)
      at later false s a = or_right (led view e.0) (any_led es) (later (or_left_false (sat view e.0) (list_any (λ b. b) (map (sat view) (those es))) s k))

  some_false : (es : List Child) → list_all (λ c. c false) (map anchored_at (those es)) ≡ true → list_all (λ b. b) (map (sat view) (those es)) ≡ false → any_led es ≡ true
  some_false [] h k = absurd (cc)
  some_false (e ∷ es) h k =
      let p = and_parts (anchored_at e.0 false) (list_all (λ c. c false) (map anchored_at (those es))) h in
      at (λ m. some_false es p.1 m) (sat view e.0) refl p.0
    where
      at : (list_all (λ b. b) (map (sat view) (those es)) ≡ false → any_led es ≡ true) → (b : Bool) → sat view e.0 ≡ b → anchored_at e.0 false ≡ true → any_led (e ∷ es) ≡ true
      at later false s a = or_left (led view e.0) (any_led es) (e.1 false a s)
      at later true s a = or_right (led view e.0) (any_led es) (later (and_left_false (sat view e.0) (list_all (λ b. b) (map (sat view) (those es))) s k))

  not_place : (b place : Bool) → not b ≡ place → b ≡ not place
  not_place true place e = ap not e
  not_place false place e = ap not e

  -- a leaf that is anchored at a place and has its value there
  at_leaf : (y : NQuery-F NQuery) (indexed met : Bool) → ((place : Place) → anchored_step (map-NQuery NQuery (Place → Bool) anchored_at y) place ≡ (place && indexed))
      → sat_step view (map-NQuery NQuery Bool (sat view) y) ≡ met → led_step view (map-NQuery NQuery Bool (led view) y) ≡ (indexed && met) → Leads (roll-NQuery y)
  at_leaf y indexed met a s l true h k =
      led_of y ∙ l ∙ and_from indexed met (sym (a true) ∙ sym (anchored_of y true) ∙ h) (sym s ∙ sym (sat_of y) ∙ k)
  at_leaf y indexed met a s l false h k = let f : false ≡ true = sym (a false) ∙ sym (anchored_of y false) ∙ h in absurd (cc)

  no_leaf : (y : NQuery-F NQuery) → ((place : Place) → anchored_step (map-NQuery NQuery (Place → Bool) anchored_at y) place ≡ false) → Leads (roll-NQuery y)
  no_leaf y a place h k = let f : false ≡ true = sym (a place) ∙ sym (anchored_of y place) ∙ h in absurd (cc)

  layer_leads : (y : NQuery-F Child) → Leads (roll-NQuery (map-NQuery Child NQuery (λ e. e.0) y))
  layer_leads (layer.Equal f r v) = at_leaf (layer.Equal f r v) r.indexed (some_equal view f v) (λ p. refl) refl refl
  layer_leads (layer.Below f r v e) = no_leaf (layer.Below f r v e) (λ p. refl)
  layer_leads (layer.Above f r v e) = no_leaf (layer.Above f r v e) (λ p. refl)
  layer_leads (layer.Between f r l e h g) = at_leaf (layer.Between f r l e h g) r.indexed (some_between view f l e h g) (λ p. refl) refl refl
  layer_leads (layer.Starts f r t) = at_leaf (layer.Starts f r t) r.indexed (some_starts view f t) (λ p. refl) refl refl
  layer_leads (layer.Ends f r t) = at_leaf (layer.Ends f r t) r.reversed (some_ends view f t) (λ p. refl) refl refl
  layer_leads (layer.Holds f r t) = no_leaf (layer.Holds f r t) (λ p. refl)
  layer_leads (layer.Not e) = λ place h k.
      led_of (layer.Not e.0)
      ∙ e.1 (not place) (sym (anchored_of (layer.Not e.0) place) ∙ h) (not_place (sat view e.0) place (sym (sat_of (layer.Not e.0)) ∙ k))
  layer_leads (layer.And es) = at
    where
      at : Leads (roll-NQuery (layer.And (those es)))
      at true h k = led_of (layer.And (those es)) ∙ all_true es (sym (anchored_of (layer.And (those es)) true) ∙ h) (sym (sat_of (layer.And (those es))) ∙ k)
      at false h k = led_of (layer.And (those es)) ∙ some_false es (sym (anchored_of (layer.And (those es)) false) ∙ h) (sym (sat_of (layer.And (those es))) ∙ k)
  layer_leads (layer.Or es) = at
    where
      at : Leads (roll-NQuery (layer.Or (those es)))
      at true h k = led_of (layer.Or (those es)) ∙ some_true es (sym (anchored_of (layer.Or (those es)) true) ∙ h) (sym (sat_of (layer.Or (those es))) ∙ k)
      at false h k = led_of (layer.Or (those es)) ∙ all_false es (sym (anchored_of (layer.Or (those es)) false) ∙ h) (sym (sat_of (layer.Or (those es))) ∙ k)

  query_leads : (q : NQuery) → Leads q
  query_leads = ind-NQuery Leads (λ x y is. subst (λ z. Leads (roll-NQuery z)) is (layer_leads y))

pub anchors_lead : AnchorsLead
anchors_lead view q a s = query_leads view q true a s
