-- The value of a tree by those of its children, and the leaves among those of its children.
use Rattle.std.proofs.Common.{ℕ, zero, suc, ◌≡◌, ◌<◌, ◌≤◌, ◌+◌, Bool, true, false, ◌||◌, List, length, refl, ap, sym, subst, ◌∙◌, arith, add-one, slice_index_or, slice_set}
use Rattle.std.specs.List.{list_any}
use Rattle.std.proofs.Math.Decide.{dec_lt}
use Rattle.std.proofs.Math.Logic.{dite}
use Rattle.std.proofs.lemmas.List.{length-set}
use Rattle.std.proofs.lemmas.List.Folds.{list_any-append}
use Rattle.dw_key.specs.declared.doc_key.DocKey.{DocKey}
use Rattle.dw_nest.specs.declared.truth.Truth.{Truth}
use Rattle.dw_nest.specs.declared.tree.Tree.{Tree}
use Rattle.dw_nest.specs.Kleene.{least_of, most_of, least_of_two, most_of_two}
use Rattle.dw_nest.specs.Shapes.{Shape, leaf, unknown, opposite, and, or, shape, shapes, value, Alike, leaves, joined}
use Rattle.dw_nest.proofs.Trees.{shapes_at, shapes_set}

module _ {L : Type 0} (stands : L → List DocKey → Type 0) where
  pub and_value : (n : ℕ) (child : ℕ → Shape L) (key : DocKey) (t : Truth)
      → ((lists : ℕ → Shape (List DocKey)) → ((i : ℕ) → i < n → Alike stands (child i) (lists i)) → t ≡ least_of n (λ i. value (lists i) key))
      → (lists : Shape (List DocKey)) → Alike stands (and n child) lists → t ≡ value lists key
  and_value n child key t h (leaf x) k = absurd k
  and_value n child key t h unknown k = absurd k
  and_value n child key t h (opposite a) k = absurd k
  and_value n child key t h (and m lists) k = h lists k.1 ∙ ap (λ c. least_of c (λ i. value (lists i) key)) k.0
  and_value n child key t h (or m lists) k = absurd k

  pub or_value : (n : ℕ) (child : ℕ → Shape L) (key : DocKey) (t : Truth)
      → ((lists : ℕ → Shape (List DocKey)) → ((i : ℕ) → i < n → Alike stands (child i) (lists i)) → t ≡ most_of n (λ i. value (lists i) key))
      → (lists : Shape (List DocKey)) → Alike stands (or n child) lists → t ≡ value lists key
  or_value n child key t h (leaf x) k = absurd k
  or_value n child key t h unknown k = absurd k
  or_value n child key t h (opposite a) k = absurd k
  or_value n child key t h (and m lists) k = absurd k
  or_value n child key t h (or m lists) k = h lists k.1 ∙ ap (λ c. most_of c (λ i. value (lists i) key)) k.0

pub least_more : (i : ℕ) (values : ℕ → Truth) → least_of (i + 1) values ≡ least_of_two (least_of i values) (values i)
least_more i values = ap (λ n. least_of n values) (add-one i)

pub most_more : (i : ℕ) (values : ℕ → Truth) → most_of (i + 1) values ≡ most_of_two (most_of i values) (values i)
most_more i values = ap (λ n. most_of n values) (add-one i)

or_right : (a : Bool) → a || true ≡ true
or_right true = refl
or_right false = refl

-- what a child has among its leaves, the parent has among its own
pub among : {X : Type 0} (test : X → Bool) (n i : ℕ) (part : ℕ → List X) → i < n → list_any test (part i) ≡ true → list_any test (joined n part) ≡ true
among test zero i part h k = absurd (omega arith)
among test (suc n) i part h k =
    list_any-append test (joined n part) (part n)
    ∙ dite (dec_lt i n) (λ l. ap (λ b. b || list_any test (part n)) (among test n i part l k)) (λ no.
    let same : i ≡ n = omega arith in
    ap (λ b. list_any test (joined n part) || b) (subst (λ j. list_any test (part j) ≡ true) same k) ∙ or_right (list_any test (joined n part)))

-- a leaf that a child has just found stuck
pub stuck_child : {L : Type 0} (stuck : L → Bool) (children : List (Tree L)) (i : ℕ) (new : Tree L) → i < length children → list_any stuck (leaves (shape new)) ≡ true
    → list_any stuck (joined (length (slice_set children i new)) (λ j. leaves (shapes (slice_set children i new) j))) ≡ true
stuck_child stuck children i new at h =
    among stuck (length (slice_set children i new)) i (λ j. leaves (shapes (slice_set children i new) j)) (omega (arith, length-set children i new))
    (ap (λ s. list_any stuck (leaves s)) (shapes_set children i new at) ∙ h)

-- the child at hand is still as it was
pub at_hand : {L : Type 0} (before now : List (Tree L)) (i : ℕ) (d : Tree L) → i < length before
    → ((length now ≡ length before) × ((k : ℕ) (d : Tree L) → i ≤ k → slice_index_or now k d ≡ slice_index_or before k d))
    → shape (slice_index_or now i d) ≡ shapes before i
at_hand before now i d at unv = ap shape (unv.1 i d (omega arith)) ∙ sym (shapes_at before i d at)

-- one turn of a loop over the children
module _ {L : Type 0} (stands : L → List DocKey → Type 0) (of : ℕ → (ℕ → Truth) → Truth) (two : Truth → Truth → Truth) (more : (i : ℕ) (values : ℕ → Truth) → of (i + 1) values ≡ two (of i values) (values i)) (key : DocKey) where
  pub turn : (before now : List (Tree L)) (i : ℕ) (d : Tree L) (acc t next : Truth) → i < length before
      → ((length now ≡ length before) × ((k : ℕ) (d : Tree L) → i ≤ k → slice_index_or now k d ≡ slice_index_or before k d))
      → ((lists : ℕ → Shape (List DocKey)) → ((j : ℕ) → j < i → Alike stands (shapes before j) (lists j)) → acc ≡ of i (λ j. value (lists j) key))
      → ((lists : Shape (List DocKey)) → Alike stands (shape (slice_index_or now i d)) lists → t ≡ value lists key)
      → next ≡ two acc t
      → (lists : ℕ → Shape (List DocKey)) → ((j : ℕ) → j < i + 1 → Alike stands (shapes before j) (lists j)) → next ≡ of (i + 1) (λ j. value (lists j) key)
  turn before now i d acc t next at unv so_far here is lists h =
      is ∙ ap (λ a. two a t) (so_far lists (λ j k. h j (omega arith)))
      ∙ ap (λ b. two (of i (λ j. value (lists j) key)) b) (here (lists i) (subst (λ s. Alike stands s (lists i)) (sym (at_hand before now i d at unv)) (h i (omega arith))))
      ∙ sym (more i (λ j. value (lists j) key))
