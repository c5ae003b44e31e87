-- Trees of one shape.
use Rattle.std.proofs.Common.{ℕ, zero, suc, ◌≡◌, ◌≢◌, ◌<◌, ◌≤◌, ◌+◌, List, [], ◌∷◌, ◌++◌, length, map, refl, ap, sym, subst, ◌∙◌, arith, slice_index_or, slice_set}
use Rattle.std.proofs.Math.Decide.{dec_lt}
use Rattle.std.proofs.Math.Logic.{dite}
use Rattle.std.proofs.lemmas.List.{length-set, get_or-set_other, map-append}
use Rattle.dw_key.specs.declared.doc_key.DocKey.{DocKey}
use Rattle.dw_nest.specs.declared.tree.Tree.{Tree}
use Rattle.dw_nest.specs.Shapes.{Shape, leaf, unknown, opposite, and, or, shape, shapes, Alike, Stays, joined, leaves}
use Rattle.dw_nest.proofs.Trees.{shapes_set, shapes_other}

-- a fact of each leaf with itself is one of the tree with itself
pub alike_itself : {X : Type 0} (R : X → X → Type 0) → ((x : X) → R x x) → (a : Shape X) → Alike R a a
alike_itself R r (leaf x) = r x
alike_itself R r unknown = tt
alike_itself R r (opposite a) = alike_itself R r a
alike_itself R r (and n f) = (refl, λ i h. alike_itself R r (f i))
alike_itself R r (or n f) = (refl, λ i h. alike_itself R r (f i))

-- facts along two steps
pub alike_then : {X Y Z : Type 0} (R : X → Y → Type 0) (S : Y → Z → Type 0) (T : X → Z → Type 0) → ((x : X) (y : Y) (z : Z) → R x y → S y z → T x z)
    → (a : Shape X) (b : Shape Y) (c : Shape Z) → Alike R a b → Alike S b c → Alike T a c
alike_then R S T t (leaf x) (leaf y) (leaf z) h k = t x y z h k
alike_then R S T t (leaf x) (leaf y) unknown h k = absurd k
alike_then R S T t (leaf x) (leaf y) (opposite c) h k = absurd k
alike_then R S T t (leaf x) (leaf y) (and n c) h k = absurd k
alike_then R S T t (leaf x) (leaf y) (or n c) h k = absurd k
alike_then R S T t unknown unknown (leaf z) h k = absurd k
alike_then R S T t unknown unknown unknown h k = tt
alike_then R S T t unknown unknown (opposite c) h k = absurd k
alike_then R S T t unknown unknown (and n c) h k = absurd k
alike_then R S T t unknown unknown (or n c) h k = absurd k
alike_then R S T t (opposite a) (opposite b) (leaf z) h k = absurd k
alike_then R S T t (opposite a) (opposite b) unknown h k = absurd k
alike_then R S T t (opposite a) (opposite b) (opposite c) h k = alike_then R S T t a b c h k
alike_then R S T t (opposite a) (opposite b) (and n c) h k = absurd k
alike_then R S T t (opposite a) (opposite b) (or n c) h k = absurd k
alike_then R S T t (and l a) (and m b) (leaf z) h k = absurd k
alike_then R S T t (and l a) (and m b) unknown h k = absurd k
alike_then R S T t (and l a) (and m b) (opposite c) h k = absurd k
alike_then R S T t (and l a) (and m b) (and n c) h k = (h.0 ∙ k.0, λ i j. alike_then R S T t (a i) (b i) (c i) (h.1 i j) (k.1 i (omega (arith, h.0))))
alike_then R S T t (and l a) (and m b) (or n c) h k = absurd k
alike_then R S T t (or l a) (or m b) (leaf z) h k = absurd k
alike_then R S T t (or l a) (or m b) unknown h k = absurd k
alike_then R S T t (or l a) (or m b) (opposite c) h k = absurd k
alike_then R S T t (or l a) (or m b) (and n c) h k = absurd k
alike_then R S T t (or l a) (or m b) (or n c) h k = (h.0 ∙ k.0, λ i j. alike_then R S T t (a i) (b i) (c i) (h.1 i j) (k.1 i (omega (arith, h.0))))
alike_then R S T t _ _ _ h k = absurd h

pub alike_back : {X Y : Type 0} (R : X → Y → Type 0) (S : Y → X → Type 0) → ((x : X) (y : Y) → R x y → S y x) → (a : Shape X) (b : Shape Y) → Alike R a b → Alike S b a
alike_back R S s (leaf x) (leaf y) h = s x y h
alike_back R S s unknown unknown h = tt
alike_back R S s (opposite a) (opposite b) h = alike_back R S s a b h
alike_back R S s (and m a) (and n b) h = (sym h.0, λ i j. alike_back R S s (a i) (b i) (h.1 i (omega (arith, h.0))))
alike_back R S s (or m a) (or n b) h = (sym h.0, λ i j. alike_back R S s (a i) (b i) (h.1 i (omega (arith, h.0))))
alike_back R S s _ _ h = absurd h

pub alike_between : {X Y : Type 0} (R : X → Y → Type 0) (a a' : Shape X) (b b' : Shape Y) → a ≡ a' → b ≡ b' → Alike R a b → Alike R a' b'
alike_between R a a' b b' e f h = subst (λ s. Alike R s b') e (subst (λ s. Alike R a s) f h)

module _ {L M : Type 0} (stands : L → List DocKey → Type 0) (keys : L → List DocKey) (made : L → M) where
  pub stays_itself : (a : Shape L) → Alike (Stays stands keys made) a a
  stays_itself a = alike_itself (Stays stands keys made) (λ x. (λ all. (λ h. h, λ h. h), refl, refl)) a

  pub stays_then : (a b c : Shape L) → Alike (Stays stands keys made) a b → Alike (Stays stands keys made) b c → Alike (Stays stands keys made) a c
  stays_then a b c h k = alike_then (Stays stands keys made) (Stays stands keys made) (Stays stands keys made) (λ x y z r s. (λ all. (λ q. (r.0 all).0 ((s.0 all).0 q), λ q. (s.0 all).1 ((r.0 all).1 q)), s.1 ∙ r.1, s.2 ∙ r.2)) a b c h k

  pub stays_back : (a b : Shape L) → Alike (Stays stands keys made) a b → Alike (Stays stands keys made) b a
  stays_back a b h = alike_back (Stays stands keys made) (Stays stands keys made) (λ x y r. (λ all. ((r.0 all).1, (r.0 all).0), sym r.1, sym r.2)) a b h

  -- what stood for some lists before stands for them after
  pub stands_on : (a b : Shape L) (lists : Shape (List DocKey)) → Alike (Stays stands keys made) a b → Alike stands a lists → Alike stands b lists
  stands_on a b lists h k = alike_then (Stays stands keys made) stands stands (λ x y z r s. (r.0 z).0 s) b a lists (stays_back a b h) k

  -- one child of many has moved
  pub step : (before now : List (Tree L)) (i : ℕ) (old : Shape L) (new : Tree L) → i < length before
      → old ≡ shapes before i
      → Alike (Stays stands keys made) old (shape new)
      → Alike (Stays stands keys made) (and (length before) (shapes before)) (and (length now) (shapes now))
      → Alike (Stays stands keys made) (and (length before) (shapes before)) (and (length (slice_set now i new)) (shapes (slice_set now i new)))
  step before now i old new at is moved so_far = (
    so_far.0 ∙ sym (length-set now i new),
    λ j h.
        let other = λ (n : j ≢ i). subst (λ s. Alike (Stays stands keys made) (shapes before j) s) (sym (shapes_other now i j new (omega (arith, so_far.0)) n)) (so_far.1 j h) in
        dite (dec_lt j i) (λ l. other (λ e. omega arith)) (λ a. dite (dec_lt i j) (λ l. other (λ e. omega arith)) (λ b.
        let same : i ≡ j = omega arith in
        subst (λ k. Alike (Stays stands keys made) (shapes before k) (shapes (slice_set now i new) k)) same
        (subst (λ s. Alike (Stays stands keys made) (shapes before i) s) (sym (shapes_set now i new (omega (arith, so_far.0))))
        (subst (λ s. Alike (Stays stands keys made) s (shape new)) is moved)))),
  )

-- the leaves of so many, seen by f, where those of each are the same
map_joined : {L M : Type 0} (f : L → M) (count : ℕ) (a b : ℕ → List L) → ((i : ℕ) → i < count → map f (b i) ≡ map f (a i)) → map f (joined count b) ≡ map f (joined count a)
map_joined f zero a b h = refl
map_joined f (suc count) a b h =
    map-append f (joined count b) (b count)
    ∙ ap (λ xs. xs ++ map f (b count)) (map_joined f count a b (λ i l. h i (omega arith)))
    ∙ ap (λ xs. map f (joined count a) ++ xs) (h count (omega arith))
    ∙ sym (map-append f (joined count a) (a count))

-- the leaves of a tree that stays are made as they were
pub leaves_made : {L M : Type 0} (stands : L → List DocKey → Type 0) (keys : L → List DocKey) (made : L → M) (a b : Shape L) → Alike (Stays stands keys made) a b → map made (leaves b) ≡ map made (leaves a)
leaves_made stands keys made (leaf x) (leaf y) h = ap (λ m. m ∷ []) h.2
leaves_made stands keys made unknown unknown h = refl
leaves_made stands keys made (opposite a) (opposite b) h = leaves_made stands keys made a b h
leaves_made stands keys made (and m a) (and n b) h =
    ap (λ k. map made (joined k (λ i. leaves (b i)))) (sym h.0)
    ∙ map_joined made m (λ i. leaves (a i)) (λ i. leaves (b i)) (λ i l. leaves_made stands keys made (a i) (b i) (h.1 i l))
leaves_made stands keys made (or m a) (or n b) h =
    ap (λ k. map made (joined k (λ i. leaves (b i)))) (sym h.0)
    ∙ map_joined made m (λ i. leaves (a i)) (λ i. leaves (b i)) (λ i l. leaves_made stands keys made (a i) (b i) (h.1 i l))
leaves_made stands keys made _ _ h = absurd h

-- the children from a place on are as they were
abbrev pub Waiting : {A : Type 0} → List A → List A → ℕ → Type 0
Waiting {A} before now i = (length now ≡ length before) × ((k : ℕ) (d : A) → i ≤ k → slice_index_or now k d ≡ slice_index_or before k d)

-- the later ones still have not
pub waiting : {A : Type 0} (before now : List A) (i : ℕ) (new : A) → (length now ≡ length before) × ((k : ℕ) (d : A) → i ≤ k → slice_index_or now k d ≡ slice_index_or before k d)
    → (length (slice_set now i new) ≡ length before) × ((k : ℕ) (d : A) → i + 1 ≤ k → slice_index_or (slice_set now i new) k d ≡ slice_index_or before k d)
waiting before now i new unv = (length-set now i new ∙ unv.0, λ k d h. get_or-set_other now i k new d (λ e. omega arith) ∙ unv.1 k d (omega arith))
