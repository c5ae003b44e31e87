-- The answers of the children, as answers of the node.
use Rattle.std.proofs.Common.{ℕ, zero, suc, ◌≡◌, ◌≢◌, ◌<◌, ◌+◌, Bool, true, false, ◌&&◌, ◌||◌, cond, List, [], length, refl, ap, sym, subst, ◌∙◌, arith}
use Rattle.dw_key.specs.declared.doc_key.DocKey.{DocKey}
use Rattle.dw_nest.specs.declared.bound.Bound.{Bound}
use Rattle.dw_nest.specs.declared.bound.Found.{Found}
use Rattle.dw_nest.specs.declared.bound.Found.TheVariants.{Key, End, Missing}
use Rattle.dw_nest.specs.declared.place.Place.{Place}
use Rattle.dw_nest.specs.declared.place.Place.TheVariants.{Positive, Negative}
use Rattle.dw_nest.specs.declared.tree.Tree.{Tree}
use Rattle.dw_nest.specs.declared.truth.Truth.{Truth}
use Rattle.dw_nest.specs.declared.truth.Truth.TheVariants.{No, Unknown, Yes}
use Rattle.dw_nest.specs.Bounds.{meets, is_before, has}
use Rattle.dw_nest.specs.Kleene.{swapped, least_of, most_of, least_of_two, most_of_two}
use Rattle.dw_nest.specs.Places.{passes, other_place}
use Rattle.dw_nest.specs.Search.{Held, IsLeast, ChildrenStand, children_pass, enough, enough_enumerable, need_of_and, need_of_or, sooner_of, IfFound}
use Rattle.dw_nest.specs.Shapes.{Shape, leaf, unknown, opposite, and, or, shapes, value, Alike, is_enumerable, any_of}
use Rattle.dw_nest.proofs.Choices.{any_more, any_by}
use Rattle.dw_nest.proofs.Order.{before_trans, not_both, not_itself, placed, earlier, same, later}
use Rattle.dw_nest.proofs.Rounds.{denied}

pub passes_swapped : (place : Place) (t : Truth) → passes place (swapped t) ≡ passes (other_place place) t
passes_swapped Positive No = refl
passes_swapped Positive Unknown = refl
passes_swapped Positive Yes = refl
passes_swapped Negative No = refl
passes_swapped Negative Unknown = refl
passes_swapped Negative Yes = refl

least_positive : (a b : Truth) → passes Positive (least_of_two a b) ≡ passes Positive a && passes Positive b
least_positive No b = refl
least_positive Yes b = refl
least_positive Unknown No = refl
least_positive Unknown Yes = refl
least_positive Unknown Unknown = refl

least_negative : (a b : Truth) → passes Negative (least_of_two a b) ≡ passes Negative a || passes Negative b
least_negative No b = refl
least_negative Yes b = refl
least_negative Unknown No = refl
least_negative Unknown Yes = refl
least_negative Unknown Unknown = refl

most_positive : (a b : Truth) → passes Positive (most_of_two a b) ≡ passes Positive a || passes Positive b
most_positive No b = refl
most_positive Yes b = refl
most_positive Unknown No = refl
most_positive Unknown Yes = refl
most_positive Unknown Unknown = refl

most_negative : (a b : Truth) → passes Negative (most_of_two a b) ≡ passes Negative a && passes Negative b
most_negative No b = refl
most_negative Yes b = refl
most_negative Unknown No = refl
most_negative Unknown Yes = refl
most_negative Unknown Unknown = refl

pub passes_least : (place : Place) (n : ℕ) (v : ℕ → Truth) → passes place (least_of n v) ≡ enough (need_of_and place) n (λ i. passes place (v i))
passes_least Positive zero v = refl
passes_least Negative zero v = refl
passes_least Positive (suc n) v = least_positive (least_of n v) (v n) ∙ ap (λ b. b && passes Positive (v n)) (passes_least Positive n v)
passes_least Negative (suc n) v = least_negative (least_of n v) (v n) ∙ ap (λ b. b || passes Negative (v n)) (passes_least Negative n v)

pub passes_most : (place : Place) (n : ℕ) (v : ℕ → Truth) → passes place (most_of n v) ≡ enough (need_of_or place) n (λ i. passes place (v i))
passes_most Positive zero v = refl
passes_most Negative zero v = refl
passes_most Positive (suc n) v = most_positive (most_of n v) (v n) ∙ ap (λ b. b || passes Positive (v n)) (passes_most Positive n v)
passes_most Negative (suc n) v = most_negative (most_of n v) (v n) ∙ ap (λ b. b && passes Negative (v n)) (passes_most Negative n v)

pub enumerable_not : {X : Type 0} (place : Place) (a : Shape X) → is_enumerable place (opposite a) ≡ is_enumerable (other_place place) a
enumerable_not Positive a = refl
enumerable_not Negative a = refl

pub enumerable_and : {X : Type 0} (place : Place) (n : ℕ) (f : ℕ → Shape X) → is_enumerable place (and n f) ≡ enough_enumerable (need_of_and place) n (λ i. is_enumerable place (f i))
enumerable_and Positive n f = refl
enumerable_and Negative n f = refl

pub enumerable_or : {X : Type 0} (place : Place) (n : ℕ) (f : ℕ → Shape X) → is_enumerable place (or n f) ≡ enough_enumerable (need_of_or place) n (λ i. is_enumerable place (f i))
enumerable_or Positive n f = refl
enumerable_or Negative n f = refl

-- an answer by some readings is one by others that give the same
pub least_map : {A B : Type 0} (FitsA : A → Type 0) (passA : A → DocKey → Bool) (HeldA : DocKey → Type 0) (FitsB : B → Type 0) (passB : B → DocKey → Bool) (HeldB : DocKey → Type 0)
    → (f : B → A) → ((b : B) → FitsB b → FitsA (f b)) → ((b : B) → FitsB b → (k : DocKey) → passB b k ≡ passA (f b) k) → ((k : DocKey) → HeldA k → HeldB k)
    → (bound : Bound) (found : Found) → IsLeast FitsA passA HeldA bound found → IsLeast FitsB passB HeldB bound found
least_map FitsA passA HeldA FitsB passB HeldB f fits passing held bound (Key key) h = record {
  met = h.met;
  held = held key h.held;
  passing = λ b t. passing b t key ∙ h.passing (f b) (fits b t);
  least = λ b t other m l. passing b t other ∙ h.least (f b) (fits b t) other m l;
}
least_map FitsA passA HeldA FitsB passB HeldB f fits passing held bound End h = λ b t other m. passing b t other ∙ h (f b) (fits b t) other m
least_map FitsA passA HeldA FitsB passB HeldB f fits passing held bound Missing h = tt

abbrev pub parts : {X : Type 0} → Shape X → ℕ → Shape X
parts (leaf x) i = unknown
parts unknown i = unknown
parts (opposite a) i = unknown
parts (and n f) i = f i
parts (or n f) i = f i

abbrev pub part : {X : Type 0} → Shape X → Shape X
part (leaf x) = unknown
part unknown = unknown
part (opposite a) = a
part (and n f) = unknown
part (or n f) = unknown

abbrev pub list_of : Shape (List DocKey) → List DocKey
list_of (leaf all) = all
list_of unknown = []
list_of (opposite a) = []
list_of (and n f) = []
list_of (or n f) = []

-- a list that holds a key is Yes there, and at a positive place passes
pub passes_in : (b : Bool) → passes Positive (cond b Yes No) ≡ b
passes_in true = refl
passes_in false = refl

module _ {L : Type 0} (stands : L → List DocKey → Type 0) (keys : L → List DocKey) (bound : Bound) (found : Found) where
  pub of_leaf : (x : L) → IsLeast (stands x) has (Held keys (leaf x)) bound found → IsLeast (Alike stands (leaf x)) (λ lists key. passes Positive (value lists key)) (Held keys (leaf x)) bound found
  of_leaf x h = least_map (stands x) has (Held keys (leaf x)) (Alike stands (leaf x)) (λ lists key. passes Positive (value lists key)) (Held keys (leaf x)) list_of fits gives (λ k t. t) bound found h
    where
      fits : (b : Shape (List DocKey)) → Alike stands (leaf x) b → stands x (list_of b)
      fits (leaf all) t = t
      fits unknown t = absurd t
      fits (opposite a) t = absurd t
      fits (and n f) t = absurd t
      fits (or n f) t = absurd t

      gives : (b : Shape (List DocKey)) → Alike stands (leaf x) b → (k : DocKey) → passes Positive (value b k) ≡ has (list_of b) k
      gives (leaf all) t k = passes_in (has all k)
      gives unknown t k = absurd t
      gives (opposite a) t k = absurd t
      gives (and n f) t k = absurd t
      gives (or n f) t k = absurd t

module _ {L : Type 0} (stands : L → List DocKey → Type 0) (keys : L → List DocKey) (place : Place) (bound : Bound) (found : Found) where
  pub of_not : (a : Shape L) → IsLeast (Alike stands a) (λ lists key. passes (other_place place) (value lists key)) (Held keys a) bound found → IsLeast (Alike stands (opposite a)) (λ lists key. passes place (value lists key)) (Held keys (opposite a)) bound found
  of_not a h = least_map (Alike stands a) (λ lists key. passes (other_place place) (value lists key)) (Held keys a) (Alike stands (opposite a)) (λ lists key. passes place (value lists key)) (Held keys (opposite a)) part fits gives (λ k t. t) bound found h
    where
      fits : (b : Shape (List DocKey)) → Alike stands (opposite a) b → Alike stands a (part b)
      fits (leaf all) t = absurd t
      fits unknown t = absurd t
      fits (opposite b) t = t
      fits (and n f) t = absurd t
      fits (or n f) t = absurd t

      gives : (b : Shape (List DocKey)) → Alike stands (opposite a) b → (k : DocKey) → passes place (value b k) ≡ passes (other_place place) (value (part b) k)
      gives (leaf all) t k = absurd t
      gives unknown t k = absurd t
      gives (opposite b) t k = passes_swapped place (value b k)
      gives (and n f) t k = absurd t
      gives (or n f) t k = absurd t

  module _ (children : List (Tree L)) where
    pub of_and : IsLeast (ChildrenStand stands children) (children_pass (need_of_and place) place (length children)) (Held keys (and (length children) (shapes children))) bound found
        → IsLeast (Alike stands (and (length children) (shapes children))) (λ lists key. passes place (value lists key)) (Held keys (and (length children) (shapes children))) bound found
    of_and h = least_map (ChildrenStand stands children) (children_pass (need_of_and place) place (length children)) (Held keys (and (length children) (shapes children))) (Alike stands (and (length children) (shapes children))) (λ lists key. passes place (value lists key)) (Held keys (and (length children) (shapes children))) parts fits gives (λ k t. t) bound found h
      where
        fits : (b : Shape (List DocKey)) → Alike stands (and (length children) (shapes children)) b → ChildrenStand stands children (parts b)
        fits (leaf all) t = absurd t
        fits unknown t = absurd t
        fits (opposite b) t = absurd t
        fits (and n f) t = t.1
        fits (or n f) t = absurd t

        gives : (b : Shape (List DocKey)) → Alike stands (and (length children) (shapes children)) b → (k : DocKey) → passes place (value b k) ≡ children_pass (need_of_and place) place (length children) (parts b) k
        gives (leaf all) t k = absurd t
        gives unknown t k = absurd t
        gives (opposite b) t k = absurd t
        gives (and n f) t k = passes_least place n (λ i. value (f i) k) ∙ ap (λ c. enough (need_of_and place) c (λ i. passes place (value (f i) k))) (sym t.0)
        gives (or n f) t k = absurd t

    pub of_or : IsLeast (ChildrenStand stands children) (children_pass (need_of_or place) place (length children)) (Held keys (and (length children) (shapes children))) bound found
        → IsLeast (Alike stands (or (length children) (shapes children))) (λ lists key. passes place (value lists key)) (Held keys (or (length children) (shapes children))) bound found
    of_or h = least_map (ChildrenStand stands children) (children_pass (need_of_or place) place (length children)) (Held keys (and (length children) (shapes children))) (Alike stands (or (length children) (shapes children))) (λ lists key. passes place (value lists key)) (Held keys (or (length children) (shapes children))) parts fits gives (λ k t. t) bound found h
      where
        fits : (b : Shape (List DocKey)) → Alike stands (or (length children) (shapes children)) b → ChildrenStand stands children (parts b)
        fits (leaf all) t = absurd t
        fits unknown t = absurd t
        fits (opposite b) t = absurd t
        fits (and n f) t = absurd t
        fits (or n f) t = t.1

        gives : (b : Shape (List DocKey)) → Alike stands (or (length children) (shapes children)) b → (k : DocKey) → passes place (value b k) ≡ children_pass (need_of_or place) place (length children) (parts b) k
        gives (leaf all) t k = absurd t
        gives unknown t k = absurd t
        gives (opposite b) t k = absurd t
        gives (and n f) t k = absurd t
        gives (or n f) t k = passes_most place n (λ i. value (f i) k) ∙ ap (λ c. enough (need_of_or place) c (λ i. passes place (value (f i) k))) (sym t.0)

-- one child more, where any may pass
module _ {L : Type 0} (stands : L → List DocKey → Type 0) (keys : L → List DocKey) (place : Place) (before : List (Tree L)) (bound : Bound) (i : ℕ) (at : i < length before) where
  abbrev pub AnyLeast : ℕ → Found → Type 0
  AnyLeast n found = IsLeast (ChildrenStand stands before) (λ lists key. any_of n (λ j. passes place (value (lists j) key))) (Held keys (and (length before) (shapes before))) bound found

  any_fails : (lists : ℕ → Shape (List DocKey)) (k : DocKey) → any_of i (λ j. passes place (value (lists j) k)) ≡ false → passes place (value (lists i) k) ≡ false → any_of (i + 1) (λ j. passes place (value (lists j) k)) ≡ false
  any_fails lists k a b = any_more i (λ j. passes place (value (lists j) k)) ∙ ap (λ c. c || passes place (value (lists i) k)) a ∙ b

  any_passes : (lists : ℕ → Shape (List DocKey)) (k : DocKey) → any_of i (λ j. passes place (value (lists j) k)) ≡ true → any_of (i + 1) (λ j. passes place (value (lists j) k)) ≡ true
  any_passes lists k a = any_more i (λ j. passes place (value (lists j) k)) ∙ ap (λ c. c || passes place (value (lists i) k)) a

  pub any_on : (least found : Found) → AnyLeast i least → IsLeast (Alike stands (shapes before i)) (λ lists key. passes place (value lists key)) (Held keys (shapes before i)) bound found → AnyLeast (i + 1) (sooner_of least found)
  any_on Missing found h c = tt
  any_on End Missing h c = tt
  any_on End End h c = λ lists f other m. any_fails lists other (h lists f other m) (c (lists i) (f i at) other m)
  any_on End (Key key) h c = record {
    met = c.met;
    held = (i, at, c.held);
    passing = λ lists f. any_by (i + 1) i (λ j. passes place (value (lists j) key)) (omega arith) (c.passing (lists i) (f i at));
    least = λ lists f other m l. any_fails lists other (h lists f other m) (c.least (lists i) (f i at) other m l);
  }
  any_on (Key old) Missing h c = tt
  any_on (Key old) End h c = record {
    met = h.met;
    held = h.held;
    passing = λ lists f. any_passes lists old (h.passing lists f);
    least = λ lists f other m l. any_fails lists other (h.least lists f other m l) (c (lists i) (f i at) other m);
  }
  any_on (Key old) (Key key) h c = elim (placed key old) [
    | earlier l ↦ subst (λ b. AnyLeast (i + 1) (Key (cond b key old))) (sym l) (new l)
    | same e ↦ subst (λ b. AnyLeast (i + 1) (Key (cond b key old))) (sym (denied (is_before key old) (λ l. not_itself key (subst (λ x. is_before key x ≡ true) (sym e) l)))) (kept (λ other l. subst (λ x. is_before other x ≡ true) (sym e) l))
    | later l ↦ subst (λ b. AnyLeast (i + 1) (Key (cond b key old))) (sym (denied (is_before key old) (λ k. not_both key old k l))) (kept (λ other k. before_trans other old key k l))
  ]
    where
      new : is_before key old ≡ true → AnyLeast (i + 1) (Key key)
      new l = record {
        met = c.met;
        held = (i, at, c.held);
        passing = λ lists f. any_by (i + 1) i (λ j. passes place (value (lists j) key)) (omega arith) (c.passing (lists i) (f i at));
        least = λ lists f other m b. any_fails lists other (h.least lists f other m (before_trans other key old b l)) (c.least (lists i) (f i at) other m b);
      }

      kept : ((other : DocKey) → is_before other old ≡ true → is_before other key ≡ true) → AnyLeast (i + 1) (Key old)
      kept up = record {
        met = h.met;
        held = h.held;
        passing = λ lists f. any_passes lists old (h.passing lists f);
        least = λ lists f other m b. any_fails lists other (h.least lists f other m b) (c.least (lists i) (f i at) other m (up other b));
      }

-- what the search from a positive place says of No
pub not_no : (t : Truth) → passes Positive t ≡ true → t ≢ No
not_no No h = absurd (cc)
not_no Unknown h = λ e. absurd (cc)
not_no Yes h = λ e. absurd (cc)

pub is_no : (t : Truth) → passes Positive t ≡ false → t ≡ No
is_no No h = refl
is_no Unknown h = absurd (cc)
is_no Yes h = absurd (cc)

-- the answer at a positive place, in the words of the values
module _ {L : Type 0} (stands : L → List DocKey → Type 0) (keys : L → List DocKey) (a : Shape L) (bound : Bound) where
  abbrev pub PositiveLeast : Found → Type 0
  PositiveLeast found = IsLeast (Alike stands a) (λ lists key. passes Positive (value lists key)) (Held keys a) bound found

  pub met_of : (found : Found) → PositiveLeast found → IfFound found (λ key. meets bound key ≡ true)
  met_of (Key key) h = h.met
  met_of End h = tt
  met_of Missing h = tt

  pub candidate_of : (found : Found) → PositiveLeast found → IfFound found (λ key. (lists : Shape (List DocKey)) → Alike stands a lists → value lists key ≢ No)
  candidate_of (Key key) h = λ lists f. not_no (value lists key) (h.passing lists f)
  candidate_of End h = tt
  candidate_of Missing h = tt

  pub least_of_found : (found : Found) → PositiveLeast found → IfFound found (λ key. (lists : Shape (List DocKey)) → Alike stands a lists → (other : DocKey) → meets bound other ≡ true → is_before other key ≡ true → value lists other ≡ No)
  least_of_found (Key key) h = λ lists f other m b. is_no (value lists other) (h.least lists f other m b)
  least_of_found End h = tt
  least_of_found Missing h = tt

  pub none_of : (found : Found) → PositiveLeast found → found ≡ End → (lists : Shape (List DocKey)) → Alike stands a lists → (other : DocKey) → meets bound other ≡ true → value lists other ≡ No
  none_of (Key key) h e = absurd (cc)
  none_of End h e = λ lists f other m. is_no (value lists other) (h lists f other m)
  none_of Missing h e = absurd (cc)
