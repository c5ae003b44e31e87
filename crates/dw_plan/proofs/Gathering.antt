-- On gathering the shards of the children of an And or an Or.
use Rattle.std.proofs.Common.{◌≡◌, ℕ, suc, ◌+◌, ◌<◌, ◌≤◌, Bool, true, false, not, ◌&&◌, ◌||◌, List, [], ◌∷◌, length, drop, get_or, map, Option, Some, None, refl, sym, ap, subst, ◌∙◌, drop-cons, add-one, zero, arith}
use Rattle.std.specs.List.{list_all, list_any}
use Rattle.std.proofs.lemmas.Bool.{and_parts}
use Rattle.std.proofs.lemmas.List.{drop_all}
use denote.Hole.Carrier.{roll}
use Rattle.dw_event.specs.declared.days.Days.{Days}
use Rattle.dw_event.specs.declared.types.Types.{Types}
use Rattle.dw_outside.specs.Tables.{Tables}
use Rattle.dw_eval.specs.declared.nquery.NQuery.{NQuery}
use Rattle.dw_eval.specs.declared.nquery.NQuery.TheVariants as nquery
use Rattle.dw_eval.specs.declared.nquery.NQuery.TheOpen as layer
use Rattle.dw_eval.specs.declared.nquery.NQuery.TheViews.{roll-NQuery}
use Rattle.dw_eval.specs.declared.nquery.NQuery.TheFolds.{fold-roll-NQuery}
use Rattle.dw_plan.specs.Anchored.{Place, anchored_at, and_at, or_at}
use Rattle.dw_plan.specs.Hit.{is_in_days}
use Rattle.dw_plan.specs.Joins.{has, has_found, all_found}
use Rattle.dw_plan.specs.Staying.{joined, all_joined, stays, stay_step}
use Rattle.dw_plan.proofs.Walking.{from}

-- all that have to be anchored are, or one is
abbrev pub led : Bool → List (Place → Bool) → Place → Bool
led true cs place = list_any (λ c. c place) cs
led false cs place = list_all (λ c. c place) cs

pub and_led : (cs : List (Place → Bool)) (place : Place) → and_at cs place ≡ led place cs place
and_led cs true = refl
and_led cs false = refl

pub or_led : (cs : List (Place → Bool)) (place : Place) → or_at cs place ≡ led (not place) cs place
or_led cs true = refl
or_led cs false = refl

module _ (t : Tables) (names : List (List ℕ)) (days : Days) (types : Types) where
  -- the children from a place on, joined
  abbrev pub rest : Bool → Place → List NQuery → List ℕ → Bool
  rest both place qs s = all_joined both (map (λ (c : Place → Bool). c place) (map (stays t names types s) qs))

  abbrev pub AreGood : Option (List (List ℕ)) → Type 0
  AreGood None = Unit {0}
  AreGood (Some shards) = (s : List ℕ) → has shards s ≡ (is_in_days days s && has shards s)

  abbrev pub IsNone : Option (List (List ℕ)) → Type 0
  IsNone None = Unit {0}
  IsNone (Some shards) = ⊥

  -- what was found joined with the children left is all children, for shards of days in range; what was found is of those days; and where nothing was, a child that is anchored is left
  pub record Gathered (both : Bool) (place : Place) (qs : List NQuery) (i : ℕ) (found : Option (List (List ℕ))) : Type 0 where
    pub hits : (s : List ℕ) → (is_in_days days s && joined both (has_found both found s) (rest both place (drop i qs) s)) ≡ (is_in_days days s && rest both place qs s)
    pub good : AreGood found
    pub anchor : both ≡ true → IsNone found → led both (from i qs) place ≡ true

  pub none_gathered : (both : Bool) (place : Place) (qs : List NQuery) → led both (map anchored_at qs) place ≡ true → Gathered both place qs 0 None
  none_gathered both place qs h = record { hits = λ s. ap (λ b. is_in_days days s && b) (at both (rest both place qs s)); good = tt; anchor = λ _ _. h }
    where
      at : (b r : Bool) → joined b b r ≡ r
      at true r = refl
      at false r = refl

  -- a child that is read
  with_child : (g both f st r : Bool) → (g && joined both (joined both f (g && st)) r) ≡ (g && joined both f (joined both st r))
  with_child false both f st r = refl
  with_child true true true st r = refl
  with_child true true false st r = refl
  with_child true false true st r = refl
  with_child true false false st r = refl

  cut : (both : Bool) (place : Place) (qs : List NQuery) (i : ℕ) (q : NQuery) (s : List ℕ) → i < length qs → q ≡ get_or qs i q
      → rest both place (drop i qs) s ≡ joined both (stays t names types s q place) (rest both place (drop (i + 1) qs) s)
  cut both place qs i q s h is = rw add-one (ap (λ zs. rest both place zs s) (drop-cons qs i q h ∙ ap (λ p. p ∷ drop (suc i) qs) (sym is)))

  more_good : (g both f st : Bool) → f ≡ (g && f) → joined both f (g && st) ≡ (g && joined both f (g && st))
  more_good true both f st h = refl
  more_good false true true st h = refl
  more_good false true false st h = refl
  more_good false false f st h = ap (λ b. b || false) h

  first_good : (g both st : Bool) → joined both both (g && st) ≡ (g && joined both both (g && st))
  first_good true both st = refl
  first_good false true st = refl
  first_good false false st = refl

  all_good : (both : Bool) (found : Option (List (List ℕ))) (s : List ℕ) (st : Bool) → AreGood found → joined both (has_found both found s) (is_in_days days s && st) ≡ (is_in_days days s && joined both (has_found both found s) (is_in_days days s && st))
  all_good both None s st h = first_good (is_in_days days s) both st
  all_good both (Some shards) s st h = more_good (is_in_days days s) both (has shards s) st (h s)

  pub child_gathered : (both : Bool) (place : Place) (qs : List NQuery) (i : ℕ) (q : NQuery) (found : Option (List (List ℕ))) (more new : List (List ℕ)) → Gathered both place qs i found → i < length qs → q ≡ get_or qs i q
      → ((s : List ℕ) → has more s ≡ (is_in_days days s && stays t names types s q place))
      → ((s : List ℕ) → has new s ≡ joined both (has_found both found s) (has more s))
      → Gathered both place qs (i + 1) (Some new)
  child_gathered both place qs i q found more new old h is child join =
      let now : (s : List ℕ) → has new s ≡ joined both (has_found both found s) (is_in_days days s && stays t names types s q place) = λ s. join s ∙ ap (joined both (has_found both found s)) (child s) in
      record {
        hits = λ s.
            ap (λ b. is_in_days days s && joined both b (rest both place (drop (i + 1) qs) s)) (now s)
            ∙ with_child (is_in_days days s) both (has_found both found s) (stays t names types s q place) (rest both place (drop (i + 1) qs) s)
            ∙ ap (λ b. is_in_days days s && joined both (has_found both found s) b) (sym (cut both place qs i q s h is))
            ∙ old.hits s;
        good = λ s. now s ∙ all_good both found s (stays t names types s q place) old.good ∙ ap (λ b. is_in_days days s && b) (sym (now s));
        anchor = λ _ none. absurd none;
      }

  skipped : (b : Bool) (cs : List (Place → Bool)) (c : Place → Bool) (place : Place) → b ≡ true → c place ≡ false → led b (c ∷ cs) place ≡ led b cs place
  skipped true cs c place e h = ap (λ x. x || list_any (λ d. d place) cs) h
  skipped false cs c place e h = cc

  -- a child that is not: it is no anchor, where all have to stay
  pub child_skipped : (both : Bool) (place : Place) (qs : List NQuery) (i : ℕ) (q : NQuery) (found : Option (List (List ℕ))) → Gathered both place qs i found → i < length qs → q ≡ get_or qs i q
      → both ≡ true → anchored_at q place ≡ false → ((s : List ℕ) → stays t names types s q place ≡ true) → Gathered both place qs (i + 1) found
  child_skipped both place qs i q found old h is narrow open_child stay =
      let behind : from i qs ≡ anchored_at q ∷ from (i + 1) qs = rw add-one (ap (map anchored_at) (drop-cons qs i q h ∙ ap (λ p. p ∷ drop (suc i) qs) (sym is))) in
      record {
        hits = λ s.
            ap (λ b. is_in_days days s && joined both (has_found both found s) b) (left both (rest both place (drop (i + 1) qs) s) narrow ∙ ap (λ b. joined both b (rest both place (drop (i + 1) qs) s)) (sym (stay s)) ∙ sym (cut both place qs i q s h is))
            ∙ old.hits s;
        good = old.good;
        anchor = λ e none. sym (skipped both (from (i + 1) qs) (anchored_at q) place e open_child) ∙ ap (λ cs. led both cs place) (sym behind) ∙ old.anchor e none;
      }
    where
      left : (b r : Bool) → b ≡ true → r ≡ joined b true r
      left true r e = refl
      left false r e = cc

  -- where none has to be missed and nothing was found, nothing will be
  pub settled : (both : Bool) (place : Place) (qs : List NQuery) (i : ℕ) (found : Option (List (List ℕ))) (s : List ℕ) → Gathered both place qs i found → both ≡ true → found ≡ Some [] → false ≡ (is_in_days days s && rest both place qs s)
  settled both place qs i found s old narrow none = sym (ap (λ f. is_in_days days s && joined both (has_found both f s) (rest both place (drop i qs) s)) none ∙ at both (rest both place (drop i qs) s) narrow) ∙ old.hits s
    where
      at : (b r : Bool) → b ≡ true → (is_in_days days s && joined b false r) ≡ false
      at true r e = over (is_in_days days s)
        where
          over : (g : Bool) → (g && false) ≡ false
          over true = refl
          over false = refl
      at false r e = cc

  -- at the end all is found
  pub gathered : (both : Bool) (place : Place) (qs : List NQuery) (i : ℕ) (found : Option (List (List ℕ))) (s : List ℕ) → Gathered both place qs i found → length qs ≤ i → has (all_found found) s ≡ (is_in_days days s && rest both place qs s)
  gathered both place qs i found s old over = at found old
    where
      none_left : drop i qs ≡ []
      none_left = drop_all i qs over

      ended : (b f : Bool) → joined b f b ≡ f
      ended true true = refl
      ended true false = refl
      ended false true = refl
      ended false false = refl

      by_hits : (f : Option (List (List ℕ))) → Gathered both place qs i f → (is_in_days days s && has_found both f s) ≡ (is_in_days days s && rest both place qs s)
      by_hits f o = ap (λ b. is_in_days days s && b) (sym (ap (λ zs. joined both (has_found both f s) (rest both place zs s)) none_left ∙ ended both (has_found both f s))) ∙ o.hits s

      no_anchor : (b : Bool) → (b ≡ true → led b (from i qs) place ≡ true) → (is_in_days days s && b) ≡ (is_in_days days s && rest both place qs s) → false ≡ (is_in_days days s && rest both place qs s)
      no_anchor true h e = let f : led true [] place ≡ true = ap (λ zs. led true (map anchored_at zs) place) (sym none_left) ∙ h refl in cc
      no_anchor false h e = sym (nothing (is_in_days days s)) ∙ e
        where
          nothing : (g : Bool) → (g && false) ≡ false
          nothing true = refl
          nothing false = refl

      at : (f : Option (List (List ℕ))) → Gathered both place qs i f → has (all_found f) s ≡ (is_in_days days s && rest both place qs s)
      at None o = no_anchor both (λ e. subst (λ b. led b (from i qs) place ≡ true) refl (o.anchor e tt)) (by_hits None o)
      at (Some shards) o = o.good s ∙ by_hits (Some shards) o

  pub and_stays : (qs : List NQuery) (place : Place) (s : List ℕ) → rest place place qs s ≡ stays t names types s (nquery.And qs) place
  unfolding roll-NQuery roll
  and_stays qs place s = sym (ap (λ f. f place) (fold-roll-NQuery (Place → Bool) (stay_step t names types s) (layer.And qs)))

  pub or_stays : (qs : List NQuery) (place : Place) (s : List ℕ) → rest (not place) place qs s ≡ stays t names types s (nquery.Or qs) place
  unfolding roll-NQuery roll
  or_stays qs place s = sym (ap (λ f. f place) (fold-roll-NQuery (Place → Bool) (stay_step t names types s) (layer.Or qs)))

-- each child of those that all have to be anchored is
pub child_led : (both : Bool) (place : Place) (qs : List NQuery) (i : ℕ) (q : NQuery) → led both (map anchored_at qs) place ≡ true → both ≡ false → i < length qs → q ≡ get_or qs i q → anchored_at q place ≡ true
child_led true place qs i q h e within is = cc
child_led false place [] i q h e within is = absurd (omega arith)
child_led false place (p ∷ ps) zero q h e within is = ap (λ z. anchored_at z place) is ∙ (and_parts (anchored_at p place) (list_all (λ c. c place) (map anchored_at ps)) h).0
child_led false place (p ∷ ps) (suc i) q h e within is = child_led false place ps i q (and_parts (anchored_at p place) (list_all (λ c. c place) (map anchored_at ps)) h).1 e (omega arith) is

-- a child that is no anchor stands only where one has to be
pub child_open : (both : Bool) (place : Place) (qs : List NQuery) (i : ℕ) (q : NQuery) → led both (map anchored_at qs) place ≡ true → i < length qs → q ≡ get_or qs i q → anchored_at q place ≡ false → both ≡ true
child_open true place qs i q h within is e = refl
child_open false place qs i q h within is e = let f : false ≡ true = sym e ∙ child_led false place qs i q h refl within is in cc
