-- So many children, taken from the front.
use Rattle.std.proofs.Common.{ℕ, zero, suc, ◌≡◌, Bool, true, false, ◌&&◌, ◌||◌, List, [], ◌∷◌, length, map, refl, ap, sym, ◌∙◌, slice_index_or}
use Rattle.std.specs.List.{list_all, list_any}
use Rattle.dw_nest.specs.Kleene.{least_of_two, most_of_two, least_of, most_of}
use Rattle.dw_nest.specs.declared.truth.Truth.{Truth}
use Rattle.dw_nest.specs.declared.truth.Truth.TheVariants.{No, Unknown, Yes}
use Rattle.dw_nest.specs.Shapes.{Shape, unknown, any_of, all_of}
use Rattle.dw_eval.specs.Kleene.{least, greatest}

least_unit : (a : Truth) → least_of_two a Yes ≡ a
least_unit No = refl
least_unit Unknown = refl
least_unit Yes = refl

least_assoc : (a b c : Truth) → least_of_two (least_of_two a b) c ≡ least_of_two a (least_of_two b c)
least_assoc No b c = refl
least_assoc Yes b c = refl
least_assoc Unknown No c = refl
least_assoc Unknown Yes c = refl
least_assoc Unknown Unknown No = refl
least_assoc Unknown Unknown Unknown = refl
least_assoc Unknown Unknown Yes = refl

most_unit : (a : Truth) → most_of_two a No ≡ a
most_unit No = refl
most_unit Unknown = refl
most_unit Yes = refl

most_assoc : (a b c : Truth) → most_of_two (most_of_two a b) c ≡ most_of_two a (most_of_two b c)
most_assoc No b c = refl
most_assoc Yes b c = refl
most_assoc Unknown No c = refl
most_assoc Unknown Yes c = refl
most_assoc Unknown Unknown No = refl
most_assoc Unknown Unknown Unknown = refl
most_assoc Unknown Unknown Yes = refl

or_unit : (a : Bool) → a || false ≡ a
or_unit true = refl
or_unit false = refl

or_assoc : (a b c : Bool) → (a || b) || c ≡ a || (b || c)
or_assoc true b c = refl
or_assoc false b c = refl

and_unit : (a : Bool) → a && true ≡ a
and_unit true = refl
and_unit false = refl

and_assoc : (a b c : Bool) → (a && b) && c ≡ a && (b && c)
and_assoc true b c = refl
and_assoc false b c = refl

least_front : (n : ℕ) (f : ℕ → Truth) → least_of (suc n) f ≡ least_of_two (f zero) (least_of n (λ i. f (suc i)))
least_front zero f = sym (least_unit (f zero))
least_front (suc n) f = ap (λ t. least_of_two t (f (suc n))) (least_front n f) ∙ least_assoc (f zero) (least_of n (λ i. f (suc i))) (f (suc n))

most_front : (n : ℕ) (f : ℕ → Truth) → most_of (suc n) f ≡ most_of_two (f zero) (most_of n (λ i. f (suc i)))
most_front zero f = sym (most_unit (f zero))
most_front (suc n) f = ap (λ t. most_of_two t (f (suc n))) (most_front n f) ∙ most_assoc (f zero) (most_of n (λ i. f (suc i))) (f (suc n))

any_front : (n : ℕ) (f : ℕ → Bool) → any_of (suc n) f ≡ f zero || any_of n (λ i. f (suc i))
any_front zero f = sym (or_unit (f zero))
any_front (suc n) f = ap (λ b. b || f (suc n)) (any_front n f) ∙ or_assoc (f zero) (any_of n (λ i. f (suc i))) (f (suc n))

all_front : (n : ℕ) (f : ℕ → Bool) → all_of (suc n) f ≡ f zero && all_of n (λ i. f (suc i))
all_front zero f = sym (and_unit (f zero))
all_front (suc n) f = ap (λ b. b && f (suc n)) (all_front n f) ∙ and_assoc (f zero) (all_of n (λ i. f (suc i))) (f (suc n))

module _ {X : Type 0} where
  pub least_at : (f : Shape X → Truth) (cs : List (Shape X)) → least_of (length cs) (λ i. f (slice_index_or cs i unknown)) ≡ least (map f cs)
  least_at f [] = refl
  least_at f (c ∷ cs) = least_front (length cs) (λ i. f (slice_index_or (c ∷ cs) i unknown)) ∙ ap (λ t. least_of_two (f c) t) (least_at f cs)

  pub most_at : (f : Shape X → Truth) (cs : List (Shape X)) → most_of (length cs) (λ i. f (slice_index_or cs i unknown)) ≡ greatest (map f cs)
  most_at f [] = refl
  most_at f (c ∷ cs) = most_front (length cs) (λ i. f (slice_index_or (c ∷ cs) i unknown)) ∙ ap (λ t. most_of_two (f c) t) (most_at f cs)

  pub any_at : (f : Shape X → Bool) (cs : List (Shape X)) → any_of (length cs) (λ i. f (slice_index_or cs i unknown)) ≡ list_any f cs
  any_at f [] = refl
  any_at f (c ∷ cs) = any_front (length cs) (λ i. f (slice_index_or (c ∷ cs) i unknown)) ∙ ap (λ b. f c || b) (any_at f cs)

  pub all_at : (f : Shape X → Bool) (cs : List (Shape X)) → all_of (length cs) (λ i. f (slice_index_or cs i unknown)) ≡ list_all f cs
  all_at f [] = refl
  all_at f (c ∷ cs) = all_front (length cs) (λ i. f (slice_index_or (c ∷ cs) i unknown)) ∙ ap (λ b. f c && b) (all_at f cs)
