-- One round over the children: each child leaps to the greatest key so far.
use Rattle.std.proofs.Common.{ℕ, ◌≡◌, ◌<◌, ◌+◌, Bool, true, false, cond, List, length, refl, sym, subst, arith}
use Rattle.std.proofs.Math.Decide.{dec_lt}
use Rattle.std.proofs.Math.Logic.{dite}
use Rattle.dw_key.specs.declared.doc_key.DocKey.{DocKey}
use Rattle.dw_nest.specs.declared.bound.Bound.{Bound}
use Rattle.dw_nest.specs.declared.bound.Bound.TheVariants.{From}
use Rattle.dw_nest.specs.declared.bound.Found.{Found}
use Rattle.dw_nest.specs.declared.bound.Found.TheVariants.{Key, End, Missing}
use Rattle.dw_nest.specs.declared.leap.Leap.{Leap}
use Rattle.dw_nest.specs.declared.leap.Leap.TheVariants.{Nowhere, Agreed, Ahead, Ended, Unknown}
use Rattle.dw_nest.specs.declared.place.Place.{Place}
use Rattle.dw_nest.specs.declared.place.Need.TheVariants.{All}
use Rattle.dw_nest.specs.declared.tree.Tree.{Tree}
use Rattle.dw_nest.specs.Bounds.{meets, is_before}
use Rattle.dw_nest.specs.Places.{passes}
use Rattle.dw_nest.specs.Search.{Held, NonePasses, NonePassesBefore, IsLeast, ChildrenStand, children_pass, IsAgreed, IsAhead, IsLeap, leap_bound, leap_after, is_over}
use Rattle.dw_nest.specs.Shapes.{shapes, value, Alike, is_enumerable}
use Rattle.dw_nest.proofs.Choices.{all_not}
use Rattle.dw_nest.proofs.Left.{beyond_from}
use Rattle.dw_nest.proofs.Order.{upward, before_trans, not_itself, from_itself, from_later, placed, earlier, same, later, met_from}

-- what is not true is false
pub denied : (b : Bool) → (b ≡ true → ⊥) → b ≡ false
denied true h = absurd (h refl)
denied false h = refl

-- a fact of each below a place and of that place is one of each below the next
pub one_more : (P : ℕ → Type 0) (i : ℕ) → ((j : ℕ) → j < i → P j) → P i → (j : ℕ) → j < i + 1 → P j
one_more P i below here j h = dite (dec_lt j i) (λ l. below j l) (λ no. let e : i ≡ j = omega arith in subst P e here)

module _ {L : Type 0} (stands : L → List DocKey → Type 0) (keys : L → List DocKey) (place : Place) (before : List (Tree L)) (bound : Bound) where
  -- a child that cannot be enumerated is passed over
  pub round_over : (i : ℕ) (leap : Leap) → is_enumerable place (shapes before i) ≡ false → IsLeap stands keys place before i bound leap → IsLeap stands keys place before (i + 1) bound leap
  round_over i Nowhere e h = one_more (λ j. is_enumerable place (shapes before j) ≡ false) i h e
  round_over i (Agreed key) e h = record {
    met = h.met;
    held = h.held;
    passing = λ lists f. one_more (λ j. is_enumerable place (shapes before j) ≡ true → passes place (value (lists j) key) ≡ true) i (h.passing lists f) (λ t. absurd (cc));
    least = h.least;
  }
  round_over i (Ahead key) e h = h
  round_over i Ended e h = h
  round_over i Unknown e h = h

  -- the answer of a child at its place
  abbrev pub ChildLeast : ℕ → Bound → Found → Type 0
  ChildLeast i from found = IsLeast (Alike stands (shapes before i)) (λ lists key. passes place (value lists key)) (Held keys (shapes before i)) from found

  -- where the keys before an old one fail, and a child fails from there to the new one, the keys before the new one fail
  pub least_on : (i : ℕ) (old key : DocKey) → i < length before
      → NonePassesBefore (ChildrenStand stands before) (children_pass All place (length before)) bound old
      → NonePassesBefore (Alike stands (shapes before i)) (λ lists key. passes place (value lists key)) (From old) key
      → NonePassesBefore (ChildrenStand stands before) (children_pass All place (length before)) bound key
  least_on i old key at h c lists f other m b =
      let fails = λ (q : meets (From old) other ≡ true). all_not (length before) i (λ j. passes place (value (lists j) other)) at (c (lists i) (f i at) other q b) in
      elim (placed old other) [ earlier q ↦ fails (from_later old other q) | same q ↦ fails (subst (λ x. meets (From old) x ≡ true) q (from_itself old)) | later q ↦ h lists f other m q ]

  none_on : (i : ℕ) (old : DocKey) → i < length before
      → NonePassesBefore (ChildrenStand stands before) (children_pass All place (length before)) bound old
      → NonePasses (Alike stands (shapes before i)) (λ lists key. passes place (value lists key)) (From old)
      → NonePasses (ChildrenStand stands before) (children_pass All place (length before)) bound
  none_on i old at h c lists f other m =
      let fails = λ (q : meets (From old) other ≡ true). all_not (length before) i (λ j. passes place (value (lists j) other)) at (c (lists i) (f i at) other q) in
      elim (placed old other) [ earlier q ↦ fails (from_later old other q) | same q ↦ fails (subst (λ x. meets (From old) x ≡ true) q (from_itself old)) | later q ↦ h lists f other m q ]

  agreed_on : (i : ℕ) (old key : DocKey) → i < length before → IsAgreed stands keys place before i bound old → ChildLeast i (From old) (Key key) → IsLeap stands keys place before (i + 1) bound (cond (is_before old key) (Ahead key) (Agreed key))
  agreed_on i old key at h c = elim (placed old key) [
    | earlier l ↦ subst (λ b. IsLeap stands keys place before (i + 1) bound (cond b (Ahead key) (Agreed key))) (sym l) (ahead l)
    | same e ↦ subst (λ b. IsLeap stands keys place before (i + 1) bound (cond b (Ahead key) (Agreed key))) (sym (denied (is_before old key) (λ l. not_itself old (subst (λ x. is_before old x ≡ true) (sym e) l)))) (agreed e)
    | later l ↦ absurd (met_from old key c.met l)
  ]
    where
      ahead : is_before old key ≡ true → IsAhead stands keys place before bound key
      ahead l = record {
        met = upward bound old key h.met l;
        held = (i, at, c.held);
        low = old;
        low_met = h.met;
        low_held = h.held;
        passed = l;
        least = least_on i old key at h.least c.least;
      }

      agreed : old ≡ key → IsAgreed stands keys place before (i + 1) bound key
      agreed e = record {
        met = subst (λ x. meets bound x ≡ true) e h.met;
        held = (i, at, c.held);
        passing = λ lists f. one_more (λ j. is_enumerable place (shapes before j) ≡ true → passes place (value (lists j) key) ≡ true) i (λ j l t. subst (λ x. passes place (value (lists j) x) ≡ true) e (h.passing lists f j l t)) (λ t. c.passing (lists i) (f i at));
        least = least_on i old key at h.least c.least;
      }

  -- a child that can be enumerated moves the round on
  pub round_on : (i : ℕ) (leap : Leap) (found : Found) → i < length before → is_over leap ≡ false → IsLeap stands keys place before i bound leap → ChildLeast i (leap_bound leap bound) found → IsLeap stands keys place before (i + 1) bound (leap_after leap found)
  round_on i Nowhere (Key key) at o h c = record {
    met = c.met;
    held = (i, at, c.held);
    passing = λ lists f. one_more (λ j. is_enumerable place (shapes before j) ≡ true → passes place (value (lists j) key) ≡ true) i (λ j l t. absurd (let n = h j l in cc)) (λ t. c.passing (lists i) (f i at));
    least = λ lists f other m b. all_not (length before) i (λ j. passes place (value (lists j) other)) at (c.least (lists i) (f i at) other m b);
  }
  round_on i (Agreed old) (Key key) at o h c = agreed_on i old key at h c
  round_on i (Ahead old) (Key key) at o h c = record {
    met = beyond_from bound old h.met key c.met;
    held = (i, at, c.held);
    low = h.low;
    low_met = h.low_met;
    low_held = h.low_held;
    passed = elim (placed old key) [ earlier l ↦ before_trans h.low old key h.passed l | same e ↦ subst (λ x. is_before h.low x ≡ true) e h.passed | later l ↦ absurd (met_from old key c.met l) ];
    least = least_on i old key at h.least c.least;
  }
  round_on i Ended (Key key) at o h c = absurd (cc)
  round_on i Unknown (Key key) at o h c = absurd (cc)
  round_on i Nowhere End at o h c = λ lists f other m. all_not (length before) i (λ j. passes place (value (lists j) other)) at (c (lists i) (f i at) other m)
  round_on i (Agreed old) End at o h c = none_on i old at h.least c
  round_on i (Ahead old) End at o h c = none_on i old at h.least c
  round_on i Ended End at o h c = absurd (cc)
  round_on i Unknown End at o h c = absurd (cc)
  round_on i leap Missing at o h c = tt
