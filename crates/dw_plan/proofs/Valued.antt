-- For which shards a query is looked for, by its anchors and by its value.
use Rattle.std.proofs.Common.{◌≡◌, ℕ, Bool, true, false, not, ◌&&◌, ◌||◌, ◌==◌, nat_eq, List, [], ◌∷◌, map, Option, Some, None, refl, sym, ap, subst, ◌∙◌}
use Rattle.std.specs.List.{list_any, starts_with, ends_with}
use Rattle.std.specs.Option.{option_map_or}
use Rattle.std.specs.FinMap.{keys}
use Rattle.std.proofs.lemmas.Bool.{and_parts}
use denote.Hole.Carrier.{roll}
use Rattle.dw_key.specs.declared.key.Key.{Key}
use Rattle.dw_norm.specs.Reversal.{rev}
use Rattle.dw_event.specs.Texts.{is_same}
use Rattle.dw_event.specs.Wanted.{is_type_wanted}
use Rattle.dw_event.specs.declared.types.Types.{Types}
use Rattle.dw_outside.specs.declared.slot.Slot.{Slot}
use Rattle.dw_outside.specs.Tables.{Tables}
use Rattle.dw_derive.specs.Readers.{GlobalReading}
use Rattle.dw_derive.specs.Decoded.{key_from, has_key}
use Rattle.dw_nest.specs.Kleene.{swapped, least_of_two, most_of_two}
use Rattle.dw_nest.specs.declared.truth.Truth.{Truth}
use Rattle.dw_nest.specs.declared.truth.Truth.TheVariants.{No, Unknown, Yes}
use Rattle.dw_dict.specs.declared.rule.FieldRule.{FieldRule}
use Rattle.dw_eval.specs.Leaves.{is_above, is_below}
use Rattle.dw_eval.specs.Kleene.{least, greatest}
use Rattle.dw_eval.specs.declared.nquery.NQuery.{NQuery, map-NQuery}
use Rattle.dw_eval.specs.declared.nquery.NQuery.TheOpen.{NQuery-F}
use Rattle.dw_eval.specs.declared.nquery.NQuery.TheOpen as layer
use Rattle.dw_eval.specs.declared.nquery.NQuery.TheVariants as nquery
use Rattle.dw_eval.specs.declared.nquery.NQuery.TheViews.{roll-NQuery}
use Rattle.dw_eval.specs.declared.nquery.NQuery.TheFolds.{fold-roll-NQuery, ind-NQuery}
use Rattle.dw_plan.specs.Anchored.{Place, anchored_at, anchored_step}
use Rattle.dw_plan.specs.Hit.{told_by, some_cell, says_value, forward, backward, leaf_truth, truth_at, truth_step, is_no}
use Rattle.dw_plan.specs.Staying.{joined, all_joined, holds_leaf, stays, stay_step}
use Rattle.dw_plan.proofs.Gathering.{led, and_led, or_led}

anchored_of : (y : NQuery-F NQuery) (place : Place) → anchored_at (roll-NQuery y) place ≡ anchored_step (map-NQuery NQuery (Place → Bool) anchored_at y) place
anchored_of y place = ap (λ f. f place) (fold-roll-NQuery (Place → Bool) anchored_step y)

or_left : (a b : Bool) → a ≡ true → (a || b) ≡ true
or_left true b e = refl
or_left false b e = cc

or_right : (a b : Bool) → b ≡ true → (a || b) ≡ true
or_right true b e = refl
or_right false b e = e

or_first : (a b : Bool) → (a || b) ≡ false → a ≡ false
or_first true b e = cc
or_first false b e = refl

or_second : (a b : Bool) → (a || b) ≡ false → b ≡ false
or_second true b e = cc
or_second false b e = e

-- a test that another follows from
pub any_weaker : {A : Type 0} (p q : A → Bool) → ((x : A) → p x ≡ true → q x ≡ true) → (xs : List A) → list_any p xs ≡ true → list_any q xs ≡ true
any_weaker p q f [] h = cc
any_weaker p q f (x ∷ xs) h = at (p x) refl h (any_weaker p q f xs)
  where
    at : (b : Bool) → p x ≡ b → (b || list_any p xs) ≡ true → (list_any p xs ≡ true → list_any q xs ≡ true) → (q x || list_any q xs) ≡ true
    at true e k r = or_left (q x) (list_any q xs) (f x e)
    at false e k r = or_right (q x) (list_any q xs) (r k)

pub cell_weaker : (t : Tables) (names : List (List ℕ)) (table : ℕ) (p q : GlobalReading → Bool) → ((r : GlobalReading) → p r ≡ true → q r ≡ true) → some_cell t names table p ≡ true → some_cell t names table q ≡ true
cell_weaker t names table p q f h = any_weaker (has_key table (λ k. option_map_or p (told_by names k) false)) (has_key table (λ k. option_map_or q (told_by names k) false)) (λ (s : Slot) e. at (s.table == table) (key_from s.key) e) (keys t) h
  where
    told : (o : Option GlobalReading) → option_map_or p o false ≡ true → option_map_or q o false ≡ true
    told None e = cc
    told (Some r) e = f r e

    at : (b : Bool) (o : Option Key) → (b && option_map_or (λ k. option_map_or p (told_by names k) false) o false) ≡ true → (b && option_map_or (λ k. option_map_or q (told_by names k) false) o false) ≡ true
    at true None e = cc
    at true (Some k) e = told (told_by names k) e
    at false o e = cc

module _ (t : Tables) (names : List (List ℕ)) (types : Types) (s : List ℕ) where
  stays_of : (y : NQuery-F NQuery) (place : Place) → stays t names types s (roll-NQuery y) place ≡ stay_step t names types s (map-NQuery NQuery (Place → Bool) (stays t names types s) y) place
  stays_of y place = ap (λ f. f place) (fold-roll-NQuery (Place → Bool) (stay_step t names types s) y)

  truth_of : (y : NQuery-F NQuery) (place : Place) → truth_at t names types s (roll-NQuery y) place ≡ truth_step t names types s (map-NQuery NQuery (Place → Truth) (truth_at t names types s) y) place
  truth_of y place = ap (λ f. f place) (fold-roll-NQuery (Place → Truth) (truth_step t names types s) y)

  -- ---- a query that is no anchor stays

  abbrev Open : NQuery → Type 0
  Open q = (place : Place) → anchored_at q place ≡ false → stays t names types s q place ≡ true

  abbrev OpenChild : Type 0
  OpenChild = (q : NQuery) × Open q

  abbrev opened : List OpenChild → List NQuery
  opened es = map (λ e. e.0) es

  abbrev rest : Bool → Place → List NQuery → Bool
  rest both place qs = all_joined both (map (λ (c : Place → Bool). c place) (map (stays t names types s) qs))

  led_open : (both : Bool) (place : Place) (es : List OpenChild) → led both (map anchored_at (opened es)) place ≡ false → rest both place (opened es) ≡ true
  led_open true place [] h = refl
  led_open true place (e ∷ es) h =
      ap (λ b. b && rest true place (opened es)) (e.1 place (or_first (anchored_at e.0 place) (led true (map anchored_at (opened es)) place) h))
      ∙ led_open true place es (or_second (anchored_at e.0 place) (led true (map anchored_at (opened es)) place) h)
  led_open false place [] h = cc
  led_open false place (e ∷ es) h = at (anchored_at e.0 place) refl h (led_open false place es)
    where
      at : (b : Bool) → anchored_at e.0 place ≡ b → (b && led false (map anchored_at (opened es)) place) ≡ false → (led false (map anchored_at (opened es)) place ≡ false → rest false place (opened es) ≡ true) → rest false place (opened (e ∷ es)) ≡ true
      at true a k r = or_right (stays t names types s e.0 place) (rest false place (opened es)) (r k)
      at false a k r = or_left (stays t names types s e.0 place) (rest false place (opened es)) (e.1 place a)

  open_leaf : (y : NQuery-F NQuery) (place : Place) (anchor met : Bool) → anchored_step (map-NQuery NQuery (Place → Bool) anchored_at y) place ≡ anchor
      → stay_step t names types s (map-NQuery NQuery (Place → Bool) (stays t names types s) y) place ≡ holds_leaf anchor met → anchored_at (roll-NQuery y) place ≡ false → stays t names types s (roll-NQuery y) place ≡ true
  open_leaf y place anchor met a m h = stays_of y place ∙ m ∙ ap (λ b. holds_leaf b met) (sym a ∙ sym (anchored_of y place) ∙ h)

  layer_open : (y : NQuery-F OpenChild) → Open (roll-NQuery (map-NQuery OpenChild NQuery (λ e. e.0) y))
  layer_open (layer.Equal f r v) = λ place h. open_leaf (layer.Equal f r v) place (place && r.indexed) _ refl refl h
  layer_open (layer.Below f r v e) = λ place h. stays_of (layer.Below f r v e) place
  layer_open (layer.Above f r v e) = λ place h. stays_of (layer.Above f r v e) place
  layer_open (layer.Between f r l e h g) = λ place k. open_leaf (layer.Between f r l e h g) place (place && r.indexed) _ refl refl k
  layer_open (layer.Starts f r x) = λ place h. open_leaf (layer.Starts f r x) place (place && r.indexed) _ refl refl h
  layer_open (layer.Ends f r x) = λ place h. open_leaf (layer.Ends f r x) place (place && r.reversed) _ refl refl h
  layer_open (layer.Holds f r x) = λ place h. stays_of (layer.Holds f r x) place
  layer_open (layer.Not e) = λ place h. stays_of (layer.Not e.0) place ∙ e.1 (not place) (sym (anchored_of (layer.Not e.0) place) ∙ h)
  layer_open (layer.And es) = λ place h.
      stays_of (layer.And (opened es)) place
      ∙ led_open place place es (sym (and_led (map anchored_at (opened es)) place) ∙ sym (anchored_of (layer.And (opened es)) place) ∙ h)
  layer_open (layer.Or es) = λ place h.
      stays_of (layer.Or (opened es)) place
      ∙ led_open (not place) place es (sym (or_led (map anchored_at (opened es)) place) ∙ sym (anchored_of (layer.Or (opened es)) place) ∙ h)

  pub open_stays : (q : NQuery) → Open q
  open_stays = ind-NQuery Open (λ x y is. subst (λ z. Open (roll-NQuery z)) is (layer_open y))

  -- ---- an anchored query stays only where a cell names the shard

  abbrev pub is_named : Bool
  is_named = some_cell t names 1 (λ r. is_same s r.shard) || some_cell t names 2 (λ r. is_same s r.shard)

  abbrev Named : NQuery → Type 0
  Named q = (place : Place) → anchored_at q place ≡ true → stays t names types s q place ≡ true → is_named ≡ true

  abbrev NamedChild : Type 0
  NamedChild = (q : NQuery) × Named q

  abbrev those : List NamedChild → List NQuery
  those es = map (λ e. e.0) es

  led_named : (both : Bool) (place : Place) (es : List NamedChild) → led both (map anchored_at (those es)) place ≡ true → rest both place (those es) ≡ true → is_named ≡ true
  led_named true place [] h k = cc
  led_named true place (e ∷ es) h k =
      let p = and_parts (stays t names types s e.0 place) (rest true place (those es)) k in
      at (anchored_at e.0 place) refl h p.0 (λ g. led_named true place es g p.1)
    where
      at : (b : Bool) → anchored_at e.0 place ≡ b → (b || led true (map anchored_at (those es)) place) ≡ true → stays t names types s e.0 place ≡ true → (led true (map anchored_at (those es)) place ≡ true → is_named ≡ true) → is_named ≡ true
      at true a g m r = e.1 place a m
      at false a g m r = r g
  led_named false place [] h k = cc
  led_named false place (e ∷ es) h k =
      let p = and_parts (anchored_at e.0 place) (led false (map anchored_at (those es)) place) h in
      at (stays t names types s e.0 place) refl k p.0 (λ g. led_named false place es p.1 g)
    where
      at : (b : Bool) → stays t names types s e.0 place ≡ b → (b || rest false place (those es)) ≡ true → anchored_at e.0 place ≡ true → (rest false place (those es) ≡ true → is_named ≡ true) → is_named ≡ true
      at true m g a r = e.1 place a m
      at false m g a r = r g

  says_shard : (field : List ℕ) (meets : List ℕ → Bool) (r : GlobalReading) → says_value types s field meets r ≡ true → is_same s r.shard ≡ true
  says_shard field meets r h =
      (and_parts (is_same s r.shard) (is_type_wanted types r.dtype) (and_parts (is_same s r.shard && is_type_wanted types r.dtype) (is_same field r.field) (and_parts (is_same s r.shard && is_type_wanted types r.dtype && is_same field r.field) (meets r.value) h).0).0).0

  named_leaf : (y : NQuery-F NQuery) (place : Place) (anchor met : Bool) → anchored_step (map-NQuery NQuery (Place → Bool) anchored_at y) place ≡ anchor
      → stay_step t names types s (map-NQuery NQuery (Place → Bool) (stays t names types s) y) place ≡ holds_leaf anchor met → (met ≡ true → is_named ≡ true) → anchored_at (roll-NQuery y) place ≡ true → stays t names types s (roll-NQuery y) place ≡ true → is_named ≡ true
  named_leaf y place anchor met a m f h k =
      let lead : anchor ≡ true = sym a ∙ sym (anchored_of y place) ∙ h in
      f (sym (ap (λ b. holds_leaf b met) lead) ∙ sym m ∙ sym (stays_of y place) ∙ k)

  by_forward : (field : List ℕ) (meets : List ℕ → Bool) → forward t names types s field meets ≡ true → is_named ≡ true
  by_forward field meets h = or_left _ (some_cell t names 2 (λ r. is_same s r.shard)) (cell_weaker t names 1 (says_value types s field meets) (λ r. is_same s r.shard) (says_shard field meets) h)

  by_backward : (field : List ℕ) (meets : List ℕ → Bool) → backward t names types s field meets ≡ true → is_named ≡ true
  by_backward field meets h = or_right (some_cell t names 1 (λ r. is_same s r.shard)) _ (cell_weaker t names 2 (says_value types s field (λ v. meets (rev v))) (λ r. is_same s r.shard) (says_shard field (λ v. meets (rev v))) h)

  no_anchor : {A : Type 0} (y : NQuery-F NQuery) (place : Place) → anchored_step (map-NQuery NQuery (Place → Bool) anchored_at y) place ≡ false → anchored_at (roll-NQuery y) place ≡ true → A
  no_anchor y place a h = let f : false ≡ true = sym a ∙ sym (anchored_of y place) ∙ h in cc

  layer_named : (y : NQuery-F NamedChild) → Named (roll-NQuery (map-NQuery NamedChild NQuery (λ e. e.0) y))
  layer_named (layer.Equal f r v) = λ place h k. named_leaf (layer.Equal f r v) place (place && r.indexed) _ refl refl (by_forward f _) h k
  layer_named (layer.Below f r v e) = λ place h k. no_anchor (layer.Below f r v e) place refl h
  layer_named (layer.Above f r v e) = λ place h k. no_anchor (layer.Above f r v e) place refl h
  layer_named (layer.Between f r l e u g) = λ place h k. named_leaf (layer.Between f r l e u g) place (place && r.indexed) _ refl refl (by_forward f _) h k
  layer_named (layer.Starts f r x) = λ place h k. named_leaf (layer.Starts f r x) place (place && r.indexed) _ refl refl (by_forward f _) h k
  layer_named (layer.Ends f r x) = λ place h k. named_leaf (layer.Ends f r x) place (place && r.reversed) _ refl refl (by_backward f (λ form. ends_with nat_eq form x)) h k
  layer_named (layer.Holds f r x) = λ place h k. no_anchor (layer.Holds f r x) place refl h
  layer_named (layer.Not e) = λ place h k. e.1 (not place) (sym (anchored_of (layer.Not e.0) place) ∙ h) (sym (stays_of (layer.Not e.0) place) ∙ k)
  layer_named (layer.And es) = λ place h k.
      led_named place place es (sym (and_led (map anchored_at (those es)) place) ∙ sym (anchored_of (layer.And (those es)) place) ∙ h) (sym (stays_of (layer.And (those es)) place) ∙ k)
  layer_named (layer.Or es) = λ place h k.
      led_named (not place) place es (sym (or_led (map anchored_at (those es)) place) ∙ sym (anchored_of (layer.Or (those es)) place) ∙ h) (sym (stays_of (layer.Or (those es)) place) ∙ k)

  pub stays_named : (q : NQuery) → Named q
  stays_named = ind-NQuery Named (λ x y is. subst (λ z. Named (roll-NQuery z)) is (layer_named y))

  -- ---- by its value

  abbrev is_yes : Truth → Bool
  is_yes No = false
  is_yes Unknown = false
  is_yes Yes = true

  -- at a positive place what is not No is looked for, at a negative one what is not Yes
  abbrev pub passes : Place → Truth → Bool
  passes true v = not (is_no v)
  passes false v = not (is_yes v)

  abbrev Valued : NQuery → Type 0
  Valued q = (place : Place) → passes place (truth_at t names types s q place) ≡ stays t names types s q place

  abbrev ValuedChild : Type 0
  ValuedChild = (q : NQuery) × Valued q

  abbrev these : List ValuedChild → List NQuery
  these es = map (λ e. e.0) es

  abbrev truths : Place → List NQuery → List Truth
  truths place qs = map (λ (c : Place → Truth). c place) (map (truth_at t names types s) qs)

  pass_two : (place : Place) (a b : Truth) → passes place (least_of_two a b) ≡ joined place (passes place a) (passes place b)
  pass_two true No b = refl
  pass_two true Yes b = refl
  pass_two true Unknown No = refl
  pass_two true Unknown Yes = refl
  pass_two true Unknown Unknown = refl
  pass_two false No b = refl
  pass_two false Yes b = refl
  pass_two false Unknown No = refl
  pass_two false Unknown Yes = refl
  pass_two false Unknown Unknown = refl

  pass_either : (place : Place) (a b : Truth) → passes place (most_of_two a b) ≡ joined (not place) (passes place a) (passes place b)
  pass_either true No b = refl
  pass_either true Yes b = refl
  pass_either true Unknown No = refl
  pass_either true Unknown Yes = refl
  pass_either true Unknown Unknown = refl
  pass_either false No b = refl
  pass_either false Yes b = refl
  pass_either false Unknown No = refl
  pass_either false Unknown Yes = refl
  pass_either false Unknown Unknown = refl

  pass_least : (place : Place) (es : List ValuedChild) → passes place (least (truths place (these es))) ≡ rest place place (these es)
  pass_least true [] = refl
  pass_least false [] = refl
  pass_least place (e ∷ es) =
      pass_two place (truth_at t names types s e.0 place) (least (truths place (these es)))
      ∙ (λ i. joined place (e.1 place i) (pass_least place es i))

  pass_greatest : (place : Place) (es : List ValuedChild) → passes place (greatest (truths place (these es))) ≡ rest (not place) place (these es)
  pass_greatest true [] = refl
  pass_greatest false [] = refl
  pass_greatest place (e ∷ es) =
      pass_either place (truth_at t names types s e.0 place) (greatest (truths place (these es)))
      ∙ (λ i. joined (not place) (e.1 place i) (pass_greatest place es i))

  turned : (place : Place) (v : Truth) → passes place (swapped v) ≡ passes (not place) v
  turned true No = refl
  turned true Unknown = refl
  turned true Yes = refl
  turned false No = refl
  turned false Unknown = refl
  turned false Yes = refl

  leaf_passes : (place : Place) (indexed met : Bool) → passes place (leaf_truth (place && indexed) met) ≡ holds_leaf (place && indexed) met
  leaf_passes true true true = refl
  leaf_passes true true false = refl
  leaf_passes true false true = refl
  leaf_passes true false false = refl
  leaf_passes false indexed true = refl
  leaf_passes false indexed false = refl

  unknown_passes : (place : Place) → passes place Unknown ≡ true
  unknown_passes true = refl
  unknown_passes false = refl

  valued_leaf : (y : NQuery-F NQuery) (place : Place) (indexed met : Bool) → truth_step t names types s (map-NQuery NQuery (Place → Truth) (truth_at t names types s) y) place ≡ leaf_truth (place && indexed) met
      → stay_step t names types s (map-NQuery NQuery (Place → Bool) (stays t names types s) y) place ≡ holds_leaf (place && indexed) met → passes place (truth_at t names types s (roll-NQuery y) place) ≡ stays t names types s (roll-NQuery y) place
  valued_leaf y place indexed met a m = ap (passes place) (truth_of y place ∙ a) ∙ leaf_passes place indexed met ∙ sym (stays_of y place ∙ m)

  valued_unknown : (y : NQuery-F NQuery) (place : Place) → truth_step t names types s (map-NQuery NQuery (Place → Truth) (truth_at t names types s) y) place ≡ Unknown
      → stay_step t names types s (map-NQuery NQuery (Place → Bool) (stays t names types s) y) place ≡ true → passes place (truth_at t names types s (roll-NQuery y) place) ≡ stays t names types s (roll-NQuery y) place
  valued_unknown y place a m = ap (passes place) (truth_of y place ∙ a) ∙ unknown_passes place ∙ sym (stays_of y place ∙ m)

  layer_valued : (y : NQuery-F ValuedChild) → Valued (roll-NQuery (map-NQuery ValuedChild NQuery (λ e. e.0) y))
  layer_valued (layer.Equal f r v) = λ place. valued_leaf (layer.Equal f r v) place r.indexed _ refl refl
  layer_valued (layer.Below f r v e) = λ place. valued_unknown (layer.Below f r v e) place refl refl
  layer_valued (layer.Above f r v e) = λ place. valued_unknown (layer.Above f r v e) place refl refl
  layer_valued (layer.Between f r l e u g) = λ place. valued_leaf (layer.Between f r l e u g) place r.indexed _ refl refl
  layer_valued (layer.Starts f r x) = λ place. valued_leaf (layer.Starts f r x) place r.indexed _ refl refl
  layer_valued (layer.Ends f r x) = λ place. valued_leaf (layer.Ends f r x) place r.reversed _ refl refl
  layer_valued (layer.Holds f r x) = λ place. valued_unknown (layer.Holds f r x) place refl refl
  layer_valued (layer.Not e) = λ place.
      ap (passes place) (truth_of (layer.Not e.0) place) ∙ turned place (truth_at t names types s e.0 (not place)) ∙ e.1 (not place) ∙ sym (stays_of (layer.Not e.0) place)
  layer_valued (layer.And es) = λ place. ap (passes place) (truth_of (layer.And (these es)) place) ∙ pass_least place es ∙ sym (stays_of (layer.And (these es)) place)
  layer_valued (layer.Or es) = λ place. ap (passes place) (truth_of (layer.Or (these es)) place) ∙ pass_greatest place es ∙ sym (stays_of (layer.Or (these es)) place)

  pub valued : (q : NQuery) → Valued q
  valued = ind-NQuery Valued (λ x y is. subst (λ z. Valued (roll-NQuery z)) is (layer_valued y))

  -- ---- a leaf that is an anchor, by its cells

  abbrev Leaf : NQuery → Place → Bool → Bool → Type 0
  Leaf q place anchor met = (anchored_at q place ≡ anchor) × (stays t names types s q place ≡ holds_leaf anchor met)

  met_leaf : (q v : NQuery) (place : Place) (anchor met : Bool) → q ≡ v → Leaf v place anchor met → anchored_at q place ≡ true → met ≡ stays t names types s q place
  met_leaf q v place anchor met e leaf a =
      let lead : anchor ≡ true = sym leaf.0 ∙ ap (λ z. anchored_at z place) (sym e) ∙ a in
      sym (ap (λ z. stays t names types s z place) e ∙ leaf.1 ∙ ap (λ b. holds_leaf b met) lead)

  equal_leaf : (f : List ℕ) (r : FieldRule) (v : List ℕ) (place : Place) → Leaf (nquery.Equal f r v) place (place && r.indexed) (forward t names types s f (λ form. is_same form v))
  unfolding roll-NQuery roll
  equal_leaf f r v place = (anchored_of (layer.Equal f r v) place, stays_of (layer.Equal f r v) place)

  between_leaf : (f : List ℕ) (r : FieldRule) (l : List ℕ) (e : Bool) (h : List ℕ) (g : Bool) (place : Place)
      → Leaf (nquery.Between f r l e h g) place (place && r.indexed) (forward t names types s f (λ form. is_above form l e && is_below form h g))
  unfolding roll-NQuery roll
  between_leaf f r l e h g place = (anchored_of (layer.Between f r l e h g) place, stays_of (layer.Between f r l e h g) place)

  starts_leaf : (f : List ℕ) (r : FieldRule) (x : List ℕ) (place : Place) → Leaf (nquery.Starts f r x) place (place && r.indexed) (forward t names types s f (λ form. starts_with nat_eq form x))
  unfolding roll-NQuery roll
  starts_leaf f r x place = (anchored_of (layer.Starts f r x) place, stays_of (layer.Starts f r x) place)

  ends_leaf : (f : List ℕ) (r : FieldRule) (x : List ℕ) (place : Place) → Leaf (nquery.Ends f r x) place (place && r.reversed) (backward t names types s f (λ form. ends_with nat_eq form x))
  unfolding roll-NQuery roll
  ends_leaf f r x place = (anchored_of (layer.Ends f r x) place, stays_of (layer.Ends f r x) place)

  pub equal_stays : (q : NQuery) (place : Place) (f : List ℕ) (r : FieldRule) (v x : List ℕ) → q ≡ nquery.Equal f r v → x ≡ v → anchored_at q place ≡ true → forward t names types s f (λ form. is_same form x) ≡ stays t names types s q place
  equal_stays q place f r v x e k a = ap (λ z. forward t names types s f (λ form. is_same form z)) k ∙ met_leaf q (nquery.Equal f r v) place (place && r.indexed) _ e (equal_leaf f r v place) a

  pub between_stays : (q : NQuery) (place : Place) (f : List ℕ) (r : FieldRule) (l : List ℕ) (d : Bool) (h : List ℕ) (g : Bool) (x y : List ℕ) → q ≡ nquery.Between f r l d h g → x ≡ l → y ≡ h → anchored_at q place ≡ true
      → forward t names types s f (λ form. is_above form x d && is_below form y g) ≡ stays t names types s q place
  between_stays q place f r l d h g x y e k m a =
      (λ i. forward t names types s f (λ form. is_above form (k i) d && is_below form (m i) g)) ∙ met_leaf q (nquery.Between f r l d h g) place (place && r.indexed) _ e (between_leaf f r l d h g place) a

  pub starts_stays : (q : NQuery) (place : Place) (f : List ℕ) (r : FieldRule) (v x : List ℕ) → q ≡ nquery.Starts f r v → x ≡ v → anchored_at q place ≡ true → forward t names types s f (λ form. starts_with nat_eq form x) ≡ stays t names types s q place
  starts_stays q place f r v x e k a = ap (λ z. forward t names types s f (λ form. starts_with nat_eq form z)) k ∙ met_leaf q (nquery.Starts f r v) place (place && r.indexed) _ e (starts_leaf f r v place) a

  pub ends_stays : (q : NQuery) (place : Place) (f : List ℕ) (r : FieldRule) (v : List ℕ) → q ≡ nquery.Ends f r v → anchored_at q place ≡ true → backward t names types s f (λ form. ends_with nat_eq form v) ≡ stays t names types s q place
  ends_stays q place f r v e a = met_leaf q (nquery.Ends f r v) place (place && r.reversed) _ e (ends_leaf f r v place) a

  pub not_stays : (q c : NQuery) (place : Place) → q ≡ nquery.Not c → stays t names types s c (not place) ≡ stays t names types s q place
  unfolding roll-NQuery roll
  not_stays q c place e = sym (ap (λ z. stays t names types s z place) e ∙ stays_of (layer.Not c) place)
