-- What a cursor shows of each content that agrees with its tablet.
use Rattle.std.proofs.Common.{◌≡◌, ℕ, List, [], ◌∷◌, ◌++◌, refl, sym, ap, ◌∙◌, Bool, true, false, not, cond, ◌&&◌, drop}
use Rattle.std.specs.Prelude.{filter, filter_map, slice_get, Option, Some, None, is_some, IfSome}
use Rattle.std.specs.List.{AllByRecursion, cons_option}
use Rattle.std.proofs.lemmas.Bool.{cond_both, and_parts}
use Rattle.dw_tablet.specs.Places.{below, Ascends, IsApart, IsGap, between, onward, gap}
use Rattle.dw_tablet.specs.Held.{Held, Agrees}
use Rattle.dw_tablet.specs.Values.{Value}
use Rattle.dw_tablet.specs.Cursors.{known_upto, known_keys, gap_before, from_first, says, FirstIs}
use Rattle.dw_tablet.proofs.Order.{not_itself, back, below_upto, upto, clash}
use Rattle.dw_tablet.proofs.Gap.{filter_twice, same_between, gap_is}
use Rattle.dw_tablet.proofs.Cut.{filter_up, before_next}
use Rattle.dw_tablet.proofs.Searching.{in_both}
use Rattle.dw_tablet.proofs.Known.{none_between, parted, known_le, known_covered}
use Rattle.dw_tablet.proofs.Firsts.{values_first, head_says, first_then, none_then, after_first, first_among}

pub known_end : (t : Held) (p e : List ℕ) → below e (known_upto t p e) ≡ false
known_end t p e = cond_both (below (gap t.spans p) e) (gap t.spans p) e (λ q. below e q ≡ false) (λ h. back (gap t.spans p) e h) (λ _. not_itself e)

-- keys between two places, cut at one in between
in_two : (p q e : List ℕ) (xs : List (List ℕ)) → Ascends xs → below q p ≡ false → below e q ≡ false → between p e xs ≡ between p q xs ++ between q e xs
in_two p q e xs up h k =
    let ys = filter (λ x. below x e) xs in
    sym (in_both p e xs)
    ∙ (parted p q ys (filter_up (λ x. below x e) xs up) h
    ∙ (ap (λ l. l ++ onward q ys) (filter_twice (λ x. below x e) (λ x. not (below x p) && below x q) xs (λ x g. below_upto x q e (and_parts (not (below x p)) (below x q) g).1 k))
    ∙ ap (λ l. between p q xs ++ l) (in_both q e xs)))

-- from a later place on
pub in_later : (p a e : List ℕ) (xs : List (List ℕ)) → below a p ≡ false → between a e xs ≡ onward a (between p e xs)
in_later p a e [] h = refl
in_later p a e (x ∷ xs) h = at (below x a) refl (below x p) refl (below x e) (in_later p a e xs h)
  where
    at : (b : Bool) → below x a ≡ b → (c : Bool) → below x p ≡ c → (d : Bool) → between a e xs ≡ onward a (between p e xs)
        → cond (not b && d) (x ∷ between a e xs) (between a e xs) ≡ onward a (cond (not c && d) (x ∷ between p e xs) (between p e xs))
    at true g true f d k = k
    at true g false f true k = k ∙ sym (ap (λ s. cond (not s) (x ∷ onward a (between p e xs)) (onward a (between p e xs))) g)
    at true g false f false k = k
    at false g true f d k = absurd (clash f (upto p a x h g))
    at false g false f true k = ap (λ l. x ∷ l) k ∙ sym (ap (λ s. cond (not s) (x ∷ onward a (between p e xs)) (onward a (between p e xs))) g)
    at false g false f false k = k

from_all : (p e : List ℕ) (xs : List (List ℕ)) → AllByRecursion (λ x. below x p ≡ false) (between p e xs)
from_all p e [] = tt
from_all p e (x ∷ xs) = at (below x p) refl (below x e) (from_all p e xs)
  where
    at : (b : Bool) → below x p ≡ b → (d : Bool) → AllByRecursion (λ y. below y p ≡ false) (between p e xs) → AllByRecursion (λ y. below y p ≡ false) (cond (not b && d) (x ∷ between p e xs) (between p e xs))
    at true g d k = k
    at false g true k = (g, k)
    at false g false k = k

all_before : (p e : List ℕ) (xs : List (List ℕ)) → AllByRecursion (λ x. below x e ≡ true) (between p e xs)
all_before p e [] = tt
all_before p e (x ∷ xs) = at (below x p) (below x e) refl (all_before p e xs)
  where
    at : (b d : Bool) → below x e ≡ d → AllByRecursion (λ y. below y e ≡ true) (between p e xs) → AllByRecursion (λ y. below y e ≡ true) (cond (not b && d) (x ∷ between p e xs) (between p e xs))
    at true d g k = k
    at false true g k = (g, k)
    at false false g k = k

-- the value at the top stands before the end
pub shown_before : (t : Held) (p e : List ℕ) (f : List ℕ → Option Value) (k : List ℕ) (ks : List (List ℕ)) → from_first f (known_keys t p e) ≡ k ∷ ks → below k e ≡ true
shown_before t p e f k ks is =
    below_upto k (known_upto t p e) e (first_among (λ x. below x (known_upto t p e) ≡ true) f (known_keys t p e) ks k is (all_before p (known_upto t p e) t.keys)) (known_end t p e)

module _ (t : Held) (content : List (List ℕ)) (p e : List ℕ) (f : List ℕ → Option Value) (apart : IsApart t.spans) (agrees : Agrees t content) (long : below p e ≡ true) where
  abbrev known : List (List ℕ)
  known = known_keys t p e

  abbrev rest : List (List ℕ)
  rest = between (known_upto t p e) e content

  pub known_rest : between p e content ≡ known ++ rest
  known_rest =
      in_two p (known_upto t p e) e content agrees.is.ascends (known_le t p e apart long) (known_end t p e)
      ∙ ap (λ l. l ++ rest) (same_between p (known_upto t p e) t.spans t.keys content agrees.same (known_covered t p e apart))

  -- a value at the top is the first of all
  pub shown_first : (keys : List (List ℕ)) (v : Value) → keys ≡ from_first f known → FirstIs f keys v → slice_get (filter_map f (between p e content)) 0 ≡ Some v
  shown_first [] v is first = absurd first
  shown_first (k ∷ ks) v is first =
      ap (λ xs. slice_get (filter_map f xs) 0) known_rest
      ∙ (ap (λ vs. slice_get vs 0) (sym (values_first f (known ++ rest)) ∙ ap (filter_map f) (first_then f known rest ks k (sym is)))
      ∙ at (f k) first)
    where
      at : (o : Option Value) → o ≡ Some v → slice_get (cons_option o (filter_map f (ks ++ rest))) 0 ≡ Some v
      at (Some w) e = e
      at None e = cc

  none_behind : gap_before t p e ≡ None → rest ≡ []
  none_behind h = at (below (gap t.spans p) e) refl h
    where
      some_none : Some (gap t.spans p) ≡ None → ⊥
      some_none w = cc

      at : (b : Bool) → below (gap t.spans p) e ≡ b → cond b (Some (gap t.spans p)) None ≡ None → between (cond b (gap t.spans p) e) e content ≡ []
      at true g w = absurd (some_none w)
      at false g w = none_between e content

  -- nothing at the top, and all is known
  pub shown_none : from_first f known ≡ [] → gap_before t p e ≡ None → filter_map f (between p e content) ≡ []
  shown_none is none =
      ap (filter_map f) known_rest
      ∙ (none_then f known rest is
      ∙ ap (filter_map f) (none_behind none))

  -- after the value at the top
  pub shown_next : (k : List ℕ) (ks : List (List ℕ)) → from_first f known ≡ k ∷ ks → filter_map f (between (k ++ 0 ∷ []) e content) ≡ drop 1 (filter_map f (between p e content))
  shown_next k ks is =
      let all = between p e content in
      let first : from_first f all ≡ k ∷ (ks ++ rest) = ap (from_first f) known_rest ∙ first_then f known rest ks k is in
      let up : Ascends all = filter_up (λ x. not (below x p) && below x e) content agrees.is.ascends in
      let from_p : below k p ≡ false = first_among (λ x. below x p ≡ false) f all (ks ++ rest) k first (from_all p e content) in
      let later : below (k ++ 0 ∷ []) p ≡ false = upto p k (k ++ 0 ∷ []) from_p (back k (k ++ 0 ∷ []) (before_next k)) in
      ap (filter_map f) (in_later p (k ++ 0 ∷ []) e content later ∙ after_first f all (ks ++ rest) k up first)
      ∙ sym (ap (drop 1) (sym (values_first f all) ∙ ap (filter_map f) first) ∙ dropped k (ks ++ rest) (head_says f all (ks ++ rest) k first))
    where
      dropped : (y : List ℕ) (ys : List (List ℕ)) → says f y ≡ true → drop 1 (filter_map f (y ∷ ys)) ≡ filter_map f ys
      dropped y ys h = at (f y) h
        where
          at : (o : Option Value) → is_some o ≡ true → drop 1 (cons_option o (filter_map f ys)) ≡ filter_map f ys
          at (Some v) g = refl
          at None g = cc

  -- where all is covered, the keys that are known are those of the content
  pub whole : gap_before t p e ≡ None → known ≡ between p e content
  whole none = sym (known_rest ∙ (ap (λ l. known ++ l) (none_behind none) ∙ nothing_more known))
    where
      nothing_more : (xs : List (List ℕ)) → xs ++ [] ≡ xs
      nothing_more [] = refl
      nothing_more (x ∷ xs) = ap (λ l. x ∷ l) (nothing_more xs)

-- a place that is shown as missing is the first one that is not covered
pub gap_first : (t : Held) (p e : List ℕ) (shows : Bool) → IsApart t.spans → IfSome (cond shows None (gap_before t p e)) (λ q. IsGap t.spans p q × (below q e ≡ true))
gap_first t p e true apart = tt
gap_first t p e false apart = at (below (gap t.spans p) e) refl
  where
    at : (b : Bool) → below (gap t.spans p) e ≡ b → IfSome (cond b (Some (gap t.spans p)) None) (λ q. IsGap t.spans p q × (below q e ≡ true))
    at true h = (gap_is t.spans p apart, h)
    at false h = tt
