-- On the world that tables stand for: it keeps the rules of a world.
use Rattle.std.proofs.Common.{◌≡◌, ◌↔◌, ◌≤◌, ◌<◌, ◌-◌, ◌^◌, ◌&&◌, ℕ, Bool, true, false, nat_le, nat_lt, List, [], ◌∷◌, refl, sym, ap, ◌∙◌, arith}
use Rattle.std.specs.Prelude.{filter}
use Rattle.std.specs.List.{list_any, flat_map, AllByRecursion}
use Rattle.std.specs.FinSet.{contains, contains-from_list}
use Rattle.std.proofs.lemmas.Bool.Decides.{nat_tests}
use Rattle.dw_dict.specs.Dictionary.{Dictionary}
use Rattle.dw_event.specs.Take.{Event}
use Rattle.dw_outside.specs.declared.slot.Slot.{Slot}
use Rattle.dw_outside.specs.Tables.{Tables, is_slot}
use Rattle.dw_outside.proofs.CellMaps.{slots_total, same_slot}
use Rattle.dw_derive.specs.Entries.{slots_of}
use Rattle.dw_derive.specs.Tables.{gives}
use Rattle.dw_derive.specs.MetaTables.{last_of, dict_of}
use Rattle.dw_derive.proofs.Lists.{any_flat, any_alike}
use Rattle.dw_derive.proofs.Sets.{any_filtered}
use Rattle.dw_derive.proofs.Shards.{left, right}
use Rattle.dw_audit.specs.WorldOf.{is_older, older_slots, is_batch, is_kept, stored_events, greatest_batch, last_for, world_of}
use Rattle.dw_audit.specs.Laws.{TablesStandForWorlds}
use Rattle.dw_audit.proofs.Passing.{all_weaker}
use Rattle.dw_audit.proofs.KeptEvents.{stored_lawful, stored_ascend, stored_kept}
use Rattle.dw_audit.proofs.ReadMeta.{fields_keep, grants_keep, last_below}

-- ---- the lists of the older form

module _ (t : Tables) where
  -- the test on a slot says the same of each that is the slot
  older_alike : (s x : Slot) → (is_older t x && is_slot s x) ≡ (is_older t s && is_slot s x)
  older_alike s x = at (is_slot s x) refl
    where
      none : (a : Bool) → (a && false) ≡ false
      none true = refl
      none false = refl

      at : (b : Bool) → is_slot s x ≡ b → (is_older t x && b) ≡ (is_older t s && b)
      at true e = ap (λ y. is_older t y && true) (sym (same_slot s x e))
      at false e = none (is_older t x) ∙ sym (none (is_older t s))

  and_any : (b : Bool) (p : Slot → Bool) (xs : List Slot) → list_any (λ x. b && p x) xs ≡ (b && list_any p xs)
  and_any true p xs = refl
  and_any false p xs = nothing xs
    where
      nothing : (xs : List Slot) → list_any (λ _. false) xs ≡ false
      nothing [] = refl
      nothing (x ∷ xs) = nothing xs

  -- which slots have lists of the older form
  pub contains_older : (dict : Dictionary) (events : List Event) (s : Slot) → contains (older_slots t dict events) s ≡ (is_older t s && list_any (gives (slots_of dict) s) events)
  contains_older dict events s =
      contains-from_list slots_total (filter (is_older t) (flat_map (slots_of dict) events)) s
      ∙ any_filtered (is_slot s) (is_older t) (flat_map (slots_of dict) events)
      ∙ any_alike _ _ (older_alike s) (flat_map (slots_of dict) events)
      ∙ and_any (is_older t s) (is_slot s) (flat_map (slots_of dict) events)
      ∙ ap (λ b. is_older t s && b) (any_flat (is_slot s) (slots_of dict) events)

-- ---- the last number

abbrev UpTo : ℕ → Event → Type 0
UpTo n e = e.1.batch ≤ n

up_to_greatest : (es : List Event) → AllByRecursion (UpTo (greatest_batch es)) es
up_to_greatest [] = tt
up_to_greatest (e ∷ es) = (omega arith, all_weaker (UpTo (greatest_batch es)) (UpTo (greatest_batch (e ∷ es))) (λ d h. omega (arith, h)) es (up_to_greatest es))

up_to_last : (said : ℕ) (es : List Event) → AllByRecursion (UpTo (last_for said es)) es
up_to_last said [] = tt
up_to_last said (e ∷ es) = all_weaker (UpTo (greatest_batch (e ∷ es))) (UpTo (last_for said (e ∷ es))) (λ d h. omega (arith, h)) (e ∷ es) (up_to_greatest (e ∷ es))

abbrev Numbered : Event → Type 0
Numbered e = (1 ≤ e.1.batch) × (e.1.batch < 2 ^ 63)

greatest_below : (es : List Event) → AllByRecursion Numbered es → greatest_batch es < 2 ^ 63
greatest_below [] h = omega arith
greatest_below (e ∷ es) h = let r = greatest_below es h.1 in let b = h.0.1 in omega (arith, r, b)

last_most : (said : ℕ) (es : List Event) → said < 2 ^ 63 → AllByRecursion Numbered es → last_for said es ≤ 2 ^ 63 - 1
last_most said [] low h = omega arith
last_most said (e ∷ es) low h = let g = greatest_below (e ∷ es) h in omega (arith, g, low)

none_last : (said : ℕ) (es : List Event) → AllByRecursion Numbered es → (last_for said es ≡ 0) ↔ (es ≡ [])
none_last said [] h = ((λ z. refl), λ e. refl)
none_last said (e ∷ es) h = ((λ z. let b = h.0.0 in absurd (omega (arith, b, z))), λ i. cc)

numbered : (n : ℕ) → is_batch n ≡ true → (1 ≤ n) × (n < 2 ^ 63)
numbered n h =
    let low : nat_le 1 n ≡ true = left (nat_le 1 n) (nat_lt n (2 ^ 63)) h in
    let high : nat_lt n (2 ^ 63) ≡ true = right (nat_le 1 n) (nat_lt n (2 ^ 63)) h in
    (grind (arith, nat_tests), grind (arith, nat_tests))

kept_numbered : (e : Event) → is_kept e ≡ true → Numbered e
kept_numbered e h = numbered e.1.batch (left (is_batch e.1.batch) _ (left _ _ (left _ _ h)))

pub stored_numbered : (t : Tables) → AllByRecursion Numbered (stored_events t)
stored_numbered t = all_weaker (λ e. is_kept e ≡ true) Numbered kept_numbered (stored_events t) (stored_kept t)

-- ---- the world

given : (a b c : Bool) → c ≡ (a && b) → c ≡ true → b ≡ true
given true b c e h = sym e ∙ h
given false b c e h = cc

pub world_is : TablesStandForWorlds
unfolding world_of
world_is t = record {
  events = record {
    ascend = stored_ascend t;
    lawful = stored_lawful t;
    old = λ s h. given (is_older t s) _ _ (contains_older t (dict_of t) (stored_events t) s) h;
  };
  fields = fields_keep t;
  grants = grants_keep t;
  batches = up_to_last (last_of t) (stored_events t);
  none = none_last (last_of t) (stored_events t) (stored_numbered t);
  most = last_most (last_of t) (stored_events t) (last_below t) (stored_numbered t);
}
