-- What holds of a value, where there is one, through the steps of reading; and sets with one item more.
use Rattle.std.proofs.Common.{◌≡◌, suc, ◌≤◌, Bool, true, false, cond, List, [], ◌∷◌, length, refl, arith, Option, Some, None, IfSome, option_and_then, option_map}
use Rattle.std.specs.List.{list_all}
use Rattle.std.specs.Ordering.{match_ordering}
use Rattle.std.specs.BTreeSet.{insert_key}
use Rattle.std.specs.declared.cmp.Ordering.{Ordering}
use Rattle.std.specs.declared.cmp.Ordering.TheVariants.{Less, Equal, Greater}
use Rattle.std.proofs.lemmas.Bool.{and_parts, and_from}
use Rattle.dw_rows.specs.Values.{guarded}

-- what holds of the value, where there is one
pub record Gives {A : Type 0} (o : Option A) (P : A → Type 0) : Type 0 where
  pub holds : IfSome o P

pub nothing : {A : Type 0} {P : A → Type 0} → Gives None P
nothing = record { holds = tt }

pub just : {A : Type 0} {P : A → Type 0} (a : A) → P a → Gives (Some a) P
just a h = record { holds = h }

pub guarded_known : {A : Type 0} {P : A → Type 0} (b : Bool) (o : Option A) → (b ≡ true → Gives o P) → Gives (guarded b o) P
guarded_known true o h = h refl
guarded_known false o h = nothing

pub guarded_some : {A : Type 0} {P : A → Type 0} (b : Bool) (a : A) → (b ≡ true → P a) → Gives (guarded b (Some a)) P
guarded_some true a h = just a (h refl)
guarded_some false a h = nothing

pub then_known : {A B : Type 0} {P : A → Type 0} {Q : B → Type 0} (x : Option A) (f : A → Option B) → Gives x P → ((a : A) → P a → Gives (f a) Q)
    → Gives (option_and_then f x) Q
then_known None f h k = nothing
then_known (Some a) f h k = k a h.holds

pub map_known : {A B : Type 0} {P : A → Type 0} {Q : B → Type 0} (x : Option A) (g : A → B) → Gives x P → ((a : A) → P a → Q (g a))
    → Gives (option_map g x) Q
map_known None g h k = nothing
map_known (Some a) g h k = just (g a) (k a h.holds)

pub cond_known : {A : Type 0} {P : A → Type 0} (b : Bool) (x y : Option A) → Gives x P → Gives y P → Gives (cond b x y) P
cond_known true x y h k = h
cond_known false x y h k = k

-- of any value
pub any_known : {A : Type 0} (x : Option A) → Gives x (λ _. Unit {0})
any_known None = nothing
any_known (Some a) = just a tt

module _ {K : Type 0} (R : K → K → Ordering) where
  -- each item passes, with one more that passes
  pub all_put : (test : K → Bool) (x : K) (ys : List K) → test x ≡ true → list_all test ys ≡ true → list_all test (insert_key R ys x) ≡ true
  all_put test x [] h k = and_from (test x) true h refl
  all_put test x (y ∷ ys) h k =
      elim (R x y) as (λ r. list_all test (match_ordering r (x ∷ y ∷ ys) (y ∷ ys) (y ∷ insert_key R ys x)) ≡ true) [
        | Less ↦ and_from (test x) (list_all test (y ∷ ys)) h k
        | Equal ↦ k
        | Greater ↦ and_from (test y) (list_all test (insert_key R ys x)) (and_parts (test y) (list_all test ys) k).0 (all_put test x ys h (and_parts (test y) (list_all test ys) k).1)
      ]

  -- at most one item more
  pub put_few : (x : K) (ys : List K) → length (insert_key R ys x) ≤ suc (length ys)
  put_few x [] = omega arith
  put_few x (y ∷ ys) = at (R x y) (put_few x ys)
    where
      at : (r : Ordering) → length (insert_key R ys x) ≤ suc (length ys) → length (match_ordering r (x ∷ y ∷ ys) (y ∷ ys) (y ∷ insert_key R ys x)) ≤ suc (length (y ∷ ys))
      at Less h = omega arith
      at Equal h = omega arith
      at Greater h = omega arith

  -- at least one
  pub put_some : (x : K) (ys : List K) → 1 ≤ length (insert_key R ys x)
  put_some x [] = omega arith
  put_some x (y ∷ ys) = at (R x y)
    where
      at : (r : Ordering) → 1 ≤ length (match_ordering r (x ∷ y ∷ ys) (y ∷ ys) (y ∷ insert_key R ys x))
      at Less = omega arith
      at Equal = omega arith
      at Greater = omega arith
