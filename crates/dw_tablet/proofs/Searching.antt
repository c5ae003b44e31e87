-- What a binary search in ascending keys finds.
use Rattle.std.proofs.Common.{◌≡◌, ℕ, ◌<◌, ◌≤◌, List, [], ◌∷◌, ◌++◌, refl, sym, ap, ◌∙◌, Bool, true, false, not, cond, ◌&&◌, length, take, drop, get_or, arith, zero, suc}
use Rattle.std.specs.Prelude.{filter, ◌-◌}
use Rattle.std.proofs.lemmas.List.{take_all, length-drop}
use Rattle.std.specs.List.{AllByRecursion}
use Rattle.std.specs.List.Sorted.{IsPartitionedBy, IsPartitionPoint}
use Rattle.dw_tablet.specs.Places.{below, Ascends, onward, between, with_run}
use Rattle.dw_tablet.proofs.Order.{past, clash}

at_index : (P : List ℕ → Type 0) (xs : List (List ℕ)) → AllByRecursion P xs → (i : ℕ) (d : List ℕ) → i < length xs → P (get_or xs i d)
at_index P [] h i d k = absurd (omega (arith, k))
at_index P (x ∷ xs) h zero d k = h.0
at_index P (x ∷ xs) h (suc i) d k = at_index P xs h.1 i d (omega (arith, k))

-- no key before a place comes after one that is not
parted_at : (keys : List (List ℕ)) (a : List ℕ) → Ascends keys → (i j : ℕ) (d : List ℕ) → i ≤ j → j < length keys → below (get_or keys j d) a ≡ true → below (get_or keys i d) a ≡ true
parted_at [] a up i j d h k e = absurd (omega (arith, k))
parted_at (k ∷ ks) a up zero zero d h l e = e
parted_at (k ∷ ks) a up zero (suc j) d h l e = past k (get_or ks j d) a (at_index (λ x. below k x ≡ true) ks up.0 j d (omega (arith, l))) e
parted_at (k ∷ ks) a up (suc i) zero d h l e = absurd (omega (arith, h))
parted_at (k ∷ ks) a up (suc i) (suc j) d h l e = parted_at ks a up.1 i j d (omega (arith, h)) (omega (arith, l)) e

pub parted : (keys : List (List ℕ)) (a : List ℕ) → Ascends keys → IsPartitionedBy (λ k. below k a) keys
parted keys a up = λ i j d h l e. parted_at keys a up i j d h l e

pub record IsCut (f : List ℕ → Bool) (keys : List (List ℕ)) (i : ℕ) : Type 0 where
  pub front : take i keys ≡ filter f keys
  pub back : drop i keys ≡ filter (λ k. not (f k)) keys

kept : (f : List ℕ → Bool) (k : List ℕ) (ks : List (List ℕ)) (i : ℕ) → f k ≡ true → IsCut f ks i → IsCut f (k ∷ ks) (suc i)
kept f k ks i h c = record {
  front = ap (λ l. k ∷ l) c.front ∙ sym (ap (λ b. cond b (k ∷ filter f ks) (filter f ks)) h);
  back = c.back ∙ sym (ap (λ b. cond (not b) (k ∷ filter (λ x. not (f x)) ks) (filter (λ x. not (f x)) ks)) h);
}

left : (f : List ℕ → Bool) (k : List ℕ) (ks : List (List ℕ)) → f k ≡ false → IsCut f ks 0 → IsCut f (k ∷ ks) 0
left f k ks h c = record {
  front = c.front ∙ sym (ap (λ b. cond b (k ∷ filter f ks) (filter f ks)) h);
  back = ap (λ l. k ∷ l) c.back ∙ sym (ap (λ b. cond (not b) (k ∷ filter (λ x. not (f x)) ks) (filter (λ x. not (f x)) ks)) h);
}

pub cut : (f : List ℕ → Bool) (keys : List (List ℕ)) (i : ℕ) → i ≤ length keys
    → ((j : ℕ) (d : List ℕ) → j < i → f (get_or keys j d) ≡ true) → ((j : ℕ) (d : List ℕ) → i ≤ j → j < length keys → f (get_or keys j d) ≡ false) → IsCut f keys i
cut f [] zero h p q = record { front = refl; back = refl }
cut f [] (suc i) h p q = absurd (omega (arith, h))
cut f (k ∷ ks) zero h p q = left f k ks (q 0 k (omega arith) (omega arith)) (cut f ks 0 (omega arith) (λ j d l. absurd (omega (arith, l))) (λ j d l m. q (suc j) d (omega arith) (omega (arith, m))))
cut f (k ∷ ks) (suc i) h p q = kept f k ks i (p 0 k (omega arith)) (cut f ks i (omega (arith, h)) (λ j d l. p (suc j) d (omega (arith, l))) (λ j d l m. q (suc j) d (omega (arith, l)) (omega (arith, m))))

pub cut_at : (keys : List (List ℕ)) (a : List ℕ) (i : ℕ) → i ≤ length keys → IsPartitionPoint (λ k. below k a ≡ true) (λ k. below k a ≡ false) keys i → IsCut (λ k. below k a) keys i
cut_at keys a i h p = cut (λ k. below k a) keys i h (λ j d l. p.0 j d (omega arith) l) (λ j d l m. p.1 j d l m)

fewer : (p q : List ℕ → Bool) (xs : List (List ℕ)) → ((x : List ℕ) → p x ≡ true → q x ≡ true) → length (filter p xs) ≤ length (filter q xs)
fewer p q [] h = omega arith
fewer p q (x ∷ xs) h = at (p x) (q x) (h x) (fewer p q xs h)
  where
    at : (b d : Bool) → (b ≡ true → d ≡ true) → length (filter p xs) ≤ length (filter q xs) → length (cond b (x ∷ filter p xs) (filter p xs)) ≤ length (cond d (x ∷ filter q xs) (filter q xs))
    at true true g k = omega (arith, k)
    at true false g k = absurd (clash (g refl) refl)
    at false true g k = omega (arith, k)
    at false false g k = k

take_short : (i : ℕ) (xs : List (List ℕ)) → i ≤ length xs → length (take i xs) ≡ i
take_short zero xs h = refl
take_short (suc i) [] h = absurd (omega (arith, h))
take_short (suc i) (x ∷ xs) h = ap suc (take_short i xs (omega (arith, h)))

take_twice : (i j : ℕ) (xs : List (List ℕ)) → i ≤ j → take i (take j xs) ≡ take i xs
take_twice zero j xs h = refl
take_twice (suc i) zero xs h = absurd (omega (arith, h))
take_twice (suc i) (suc j) [] h = refl
take_twice (suc i) (suc j) (x ∷ xs) h = ap (λ l. x ∷ l) (take_twice i j xs (omega (arith, h)))

joined_on : (xs ys zs : List (List ℕ)) → (xs ++ ys) ++ zs ≡ xs ++ (ys ++ zs)
joined_on [] ys zs = refl
joined_on (x ∷ xs) ys zs = ap (λ l. x ∷ l) (joined_on xs ys zs)

-- the keys before a run, the run, and those behind it
pub run_put : (keys run : List (List ℕ)) (from upto : List ℕ) (low high : ℕ) → below from upto ≡ true → low ≤ length keys → high ≤ length keys
    → take low keys ≡ filter (λ k. below k from) keys → take high keys ≡ filter (λ k. below k upto) keys → drop high keys ≡ onward upto keys
    → (take low (take high keys) ++ run) ++ drop high keys ≡ with_run from upto run keys
run_put keys run from upto low high long l h e f g =
    let fits : low ≤ high =
    omega (arith, fewer (λ k. below k from) (λ k. below k upto) keys (λ x k. past x from upto k long), ap length e, ap length f, take_short low keys l, take_short high keys h) in
    ap (λ xs. (xs ++ run) ++ drop high keys) (take_twice low high keys fits ∙ e)
    ∙ (ap (λ ys. (filter (λ k. below k from) keys ++ run) ++ ys) g
    ∙ joined_on (filter (λ k. below k from) keys) run (onward upto keys))

-- the keys from one place on among those before another
pub in_both : (a b : List ℕ) (xs : List (List ℕ)) → filter (λ k. not (below k a)) (filter (λ k. below k b) xs) ≡ between a b xs
in_both a b [] = refl
in_both a b (x ∷ xs) = at (below x a) refl (below x b) (in_both a b xs)
  where
    at : (c : Bool) → below x a ≡ c → (d : Bool) → onward a (filter (λ k. below k b) xs) ≡ between a b xs → onward a (cond d (x ∷ filter (λ k. below k b) xs) (filter (λ k. below k b) xs)) ≡ cond (not c && d) (x ∷ between a b xs) (between a b xs)
    at true e true k = ap (λ f. cond (not f) (x ∷ onward a (filter (λ k. below k b) xs)) (onward a (filter (λ k. below k b) xs))) e ∙ k
    at false e true k = ap (λ f. cond (not f) (x ∷ onward a (filter (λ k. below k b) xs)) (onward a (filter (λ k. below k b) xs))) e ∙ ap (λ l. x ∷ l) k
    at true e false k = k
    at false e false k = k

-- what a slice lends from a place on
pub rest_of : (i : ℕ) (xs : List (List ℕ)) → take (length xs - i) (drop i xs) ≡ drop i xs
rest_of i xs = take_all (length xs - i) (drop i xs) (omega (arith, length-drop i xs))
