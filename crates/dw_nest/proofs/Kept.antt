-- What is said of children that have moved holds of the children as they were.
use Rattle.std.proofs.Common.{ℕ, zero, suc, ◌≡◌, ◌≢◌, ◌<◌, Bool, true, false, ◌&&◌, ◌||◌, List, length, refl, ap, sym, subst, ◌∙◌, arith}
use Rattle.std.specs.Prelude.{Contains}
use Rattle.dw_key.specs.declared.doc_key.DocKey.{DocKey}
use Rattle.dw_nest.specs.declared.bound.Bound.{Bound}
use Rattle.dw_nest.specs.declared.bound.Bound.TheVariants.{From, After}
use Rattle.dw_nest.specs.declared.bound.Found.{Found}
use Rattle.dw_nest.specs.declared.bound.Found.TheVariants.{Key, End, Missing}
use Rattle.dw_nest.specs.declared.place.Place.{Place}
use Rattle.dw_nest.specs.declared.place.Place.TheVariants.{Positive, Negative}
use Rattle.dw_nest.specs.declared.place.Need.TheVariants.{All}
use Rattle.dw_nest.specs.declared.tree.Tree.{Tree}
use Rattle.dw_nest.specs.Bounds.{meets}
use Rattle.dw_nest.specs.Places.{passes}
use Rattle.dw_nest.specs.Search.{Held, NonePasses, NonePassesBefore, IsLeastKey, ChildrenStand, children_pass, IsAgreed, IsAhead, sooner_of}
use Rattle.dw_nest.specs.Shapes.{Shape, leaf, unknown, opposite, and, or, shapes, value, Alike, Stays, is_enumerable, any_of, all_of}
use Rattle.dw_nest.proofs.Alike.{stands_on}
use Rattle.dw_nest.proofs.Choices.{all_true, any_false}
use Rattle.dw_nest.proofs.Left.{left, beyond_from, less_after, less_from}
use Rattle.dw_nest.proofs.Order.{upward, missed_from, placed, earlier, same, later}

pub any_same : (n : ℕ) (f g : ℕ → Bool) → ((i : ℕ) → i < n → f i ≡ g i) → any_of n f ≡ any_of n g
any_same zero f g h = refl
any_same (suc n) f g h = ap (λ b. b || f n) (any_same n f g (λ i l. h i (omega arith))) ∙ ap (λ b. any_of n g || b) (h n (omega arith))

pub all_same : (n : ℕ) (f g : ℕ → Bool) → ((i : ℕ) → i < n → f i ≡ g i) → all_of n f ≡ all_of n g
all_same zero f g h = refl
all_same (suc n) f g h = ap (λ b. b && f n) (all_same n f g (λ i l. h i (omega arith))) ∙ ap (λ b. all_of n g && b) (h n (omega arith))

pub enumerable-alike : {X Y : Type 0} (R : X → Y → Type 0) (a : Shape X) (b : Shape Y) → Alike R a b → (place : Place) → is_enumerable place a ≡ is_enumerable place b
enumerable-alike R (leaf x) (leaf y) h Positive = refl
enumerable-alike R (leaf x) (leaf y) h Negative = refl
enumerable-alike R unknown unknown h Positive = refl
enumerable-alike R unknown unknown h Negative = refl
enumerable-alike R (opposite a) (opposite b) h Positive = enumerable-alike R a b h Negative
enumerable-alike R (opposite a) (opposite b) h Negative = enumerable-alike R a b h Positive
enumerable-alike R (and m a) (and n b) h Positive = any_same m (λ i. is_enumerable Positive (a i)) (λ i. is_enumerable Positive (b i)) (λ i l. enumerable-alike R (a i) (b i) (h.1 i l) Positive) ∙ ap (λ c. any_of c (λ i. is_enumerable Positive (b i))) h.0
enumerable-alike R (and m a) (and n b) h Negative = all_same m (λ i. is_enumerable Negative (a i)) (λ i. is_enumerable Negative (b i)) (λ i l. enumerable-alike R (a i) (b i) (h.1 i l) Negative) ∙ ap (λ c. all_of c (λ i. is_enumerable Negative (b i))) h.0
enumerable-alike R (or m a) (or n b) h Positive = all_same m (λ i. is_enumerable Positive (a i)) (λ i. is_enumerable Positive (b i)) (λ i l. enumerable-alike R (a i) (b i) (h.1 i l) Positive) ∙ ap (λ c. all_of c (λ i. is_enumerable Positive (b i))) h.0
enumerable-alike R (or m a) (or n b) h Negative = any_same m (λ i. is_enumerable Negative (a i)) (λ i. is_enumerable Negative (b i)) (λ i l. enumerable-alike R (a i) (b i) (h.1 i l) Negative) ∙ ap (λ c. any_of c (λ i. is_enumerable Negative (b i))) h.0
enumerable-alike R _ _ h place = absurd h

pub held-alike : {L M : Type 0} (stands : L → List DocKey → Type 0) (keys : L → List DocKey) (made : L → M) (a b : Shape L) (k : DocKey) → Alike (Stays stands keys made) a b → Held keys b k → Held keys a k
held-alike stands keys made (leaf x) (leaf y) k h t = subst (λ ks. Contains ks k) h.1 t
held-alike stands keys made unknown unknown k h t = t
held-alike stands keys made (opposite a) (opposite b) k h t = held-alike stands keys made a b k h t
held-alike stands keys made (and m a) (and n b) k h t = (t.0, omega (arith, h.0, t.1), held-alike stands keys made (a t.0) (b t.0) k (h.1 t.0 (omega (arith, h.0, t.1))) t.2)
held-alike stands keys made (or m a) (or n b) k h t = (t.0, omega (arith, h.0, t.1), held-alike stands keys made (a t.0) (b t.0) k (h.1 t.0 (omega (arith, h.0, t.1))) t.2)
held-alike stands keys made _ _ k h t = absurd h

-- a fact by cases of a test
pub decide : {G : Type 0} (b : Bool) → (b ≡ true → G) → (b ≡ false → G) → G
decide true t f = t refl
decide false t f = f refl

pub sooner_missing : (a b : Found) → sooner_of a b ≡ Missing → a ≢ Missing → b ≡ Missing
sooner_missing (Key k) (Key l) h n = absurd (cc)
sooner_missing (Key k) End h n = absurd (cc)
sooner_missing (Key k) Missing h n = refl
sooner_missing End b h n = h
sooner_missing Missing b h n = absurd (n refl)

module _ {L M : Type 0} (stands : L → List DocKey → Type 0) (keys : L → List DocKey) (made : L → M) (place : Place) (before now : List (Tree L)) (kept : Alike (Stays stands keys made) (and (length before) (shapes before)) (and (length now) (shapes now))) where
  pub fits_on : (lists : ℕ → Shape (List DocKey)) → ChildrenStand stands before lists → ChildrenStand stands now lists
  fits_on lists f i h = stands_on stands keys made (shapes before i) (shapes now i) (lists i) (kept.1 i (omega (arith, kept.0))) (f i (omega (arith, kept.0)))

  pub held_back : (k : DocKey) → Held keys (and (length now) (shapes now)) k → Held keys (and (length before) (shapes before)) k
  held_back k t = held-alike stands keys made (and (length before) (shapes before)) (and (length now) (shapes now)) k kept t

  pub pass_same : (lists : ℕ → Shape (List DocKey)) (k : DocKey) → children_pass All place (length before) lists k ≡ children_pass All place (length now) lists k
  pass_same lists k = ap (λ n. all_of n (λ i. passes place (value (lists i) k))) kept.0

  pub others_back : (key : DocKey)
      → ((lists : ℕ → Shape (List DocKey)) → ChildrenStand stands now lists → (i : ℕ) → i < length now → is_enumerable place (shapes now i) ≡ false → passes place (value (lists i) key) ≡ true)
      → (lists : ℕ → Shape (List DocKey)) → ChildrenStand stands before lists → (i : ℕ) → i < length before → is_enumerable place (shapes before i) ≡ false → passes place (value (lists i) key) ≡ true
  others_back key h lists f i l e = h lists (fits_on lists f) i (omega (arith, kept.0)) (sym (enumerable-alike (Stays stands keys made) (shapes before i) (shapes now i) (kept.1 i l) place) ∙ e)

  pub fails_back : (key : DocKey)
      → ((lists : ℕ → Shape (List DocKey)) → ChildrenStand stands now lists → children_pass All place (length now) lists key ≡ false)
      → (lists : ℕ → Shape (List DocKey)) → ChildrenStand stands before lists → children_pass All place (length before) lists key ≡ false
  fails_back key h lists f = pass_same lists key ∙ h lists (fits_on lists f)

  -- some child can be enumerated, so a round does not come to nothing
  pub not_nowhere : any_of (length before) (λ i. is_enumerable place (shapes before i)) ≡ true → ((i : ℕ) → i < length now → is_enumerable place (shapes now i) ≡ false) → ⊥
  not_nowhere some none =
      let e = any_false (length before) (λ i. is_enumerable place (shapes before i)) (λ i l. enumerable-alike (Stays stands keys made) (shapes before i) (shapes now i) (kept.1 i l) place ∙ none i (omega (arith, kept.0))) in cc

  module _ (bound at : Bound) (onward : (k : DocKey) → meets at k ≡ true → meets bound k ≡ true)
      (none : (lists : ℕ → Shape (List DocKey)) → ChildrenStand stands before lists → (other : DocKey) → meets bound other ≡ true → meets at other ≡ false → children_pass All place (length before) lists other ≡ false) where
    least_back : (key : DocKey) → NonePassesBefore (ChildrenStand stands now) (children_pass All place (length now)) at key → NonePassesBefore (ChildrenStand stands before) (children_pass All place (length before)) bound key
    least_back key h lists f other m b = decide (meets at other) (λ t. pass_same lists other ∙ h lists (fits_on lists f) other t b) (λ n. none lists f other m n)

    -- all agree and the others pass
    pub found_key : (key : DocKey) → IsAgreed stands keys place now (length now) at key
        → ((lists : ℕ → Shape (List DocKey)) → ChildrenStand stands now lists → (i : ℕ) → i < length now → is_enumerable place (shapes now i) ≡ false → passes place (value (lists i) key) ≡ true)
        → IsLeastKey (ChildrenStand stands before) (children_pass All place (length before)) (Held keys (and (length before) (shapes before))) bound key
    found_key key h others = record {
      met = onward key h.met;
      held = held_back key h.held;
      passing = λ lists f. all_true (length before) (λ i. passes place (value (lists i) key)) (λ i l.
          let m : i < length now = omega (arith, kept.0) in
          decide (is_enumerable place (shapes now i)) (λ t. h.passing lists (fits_on lists f) i m t) (λ n. others lists (fits_on lists f) i m n));
      least = least_back key h.least;
    }

    pub none_end : NonePasses (ChildrenStand stands now) (children_pass All place (length now)) at → NonePasses (ChildrenStand stands before) (children_pass All place (length before)) bound
    none_end h lists f other m = decide (meets at other) (λ t. pass_same lists other ∙ h lists (fits_on lists f) other t) (λ n. none lists f other m n)

    -- one of the others fails, and the search goes on after the key
    pub onward_after : (key : DocKey) → meets at key ≡ true → (k : DocKey) → meets (After key) k ≡ true → meets bound k ≡ true
    onward_after key m k l = onward k (upward at key k m l)

    pub none_after : (key : DocKey) → IsAgreed stands keys place now (length now) at key
        → ((lists : ℕ → Shape (List DocKey)) → ChildrenStand stands now lists → children_pass All place (length now) lists key ≡ false)
        → (lists : ℕ → Shape (List DocKey)) → ChildrenStand stands before lists → (other : DocKey) → meets bound other ≡ true → meets (After key) other ≡ false → children_pass All place (length before) lists other ≡ false
    none_after key h fails lists f other m n = elim (placed other key) [
      | earlier b ↦ least_back key h.least lists f other m b
      | same e ↦ subst (λ x. children_pass All place (length before) lists x ≡ false) (sym e) (pass_same lists key ∙ fails lists (fits_on lists f))
      | later b ↦ absurd (cc)
    ]

    -- one is ahead, and the search goes on from there
    pub onward_from : (key : DocKey) → meets at key ≡ true → (k : DocKey) → meets (From key) k ≡ true → meets bound k ≡ true
    onward_from key m k l = onward k (beyond_from at key m k l)

    pub none_from : (key : DocKey) → IsAhead stands keys place now at key
        → (lists : ℕ → Shape (List DocKey)) → ChildrenStand stands before lists → (other : DocKey) → meets bound other ≡ true → meets (From key) other ≡ false → children_pass All place (length before) lists other ≡ false
    none_from key h lists f other m n = least_back key h.least lists f other m (missed_from key other n)

    pub smaller_after : (key : DocKey) → IsAgreed stands keys place now (length now) at key → left keys (After key) (and (length before) (shapes before)) < left keys at (and (length before) (shapes before))
    smaller_after key h = less_after keys at key (and (length before) (shapes before)) h.met (held_back key h.held)

    pub smaller_from : (key : DocKey) → IsAhead stands keys place now at key → left keys (From key) (and (length before) (shapes before)) < left keys at (and (length before) (shapes before))
    smaller_from key h = less_from keys at h.low key (and (length before) (shapes before)) h.low_met (held_back h.low h.low_held) h.passed
