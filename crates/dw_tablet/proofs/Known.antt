-- What is known from a place on.
use Rattle.std.proofs.Common.{◌≡◌, ℕ, List, [], ◌∷◌, ◌++◌, refl, sym, ap, ◌∙◌, subst, Bool, true, false, not, cond, ◌&&◌}
use Rattle.std.specs.Prelude.{filter, filter_map, Option, Some, None, unwrap_or}
use Rattle.std.specs.List.{AllByRecursion}
use Rattle.std.proofs.lemmas.Bool.{cond_both}
use Rattle.dw_tablet.specs.Places.{below, Ascends, IsApart, CoversAll, IsGap, covered_upto, gap, between, onward}
use Rattle.dw_tablet.specs.Held.{Held, Agrees}
use Rattle.dw_tablet.specs.Cursors.{known_upto, known_keys, gap_before}
use Rattle.dw_tablet.specs.Values.{Value}
use Rattle.dw_tablet.proofs.Order.{not_itself, past, back, upto, upto_below, below_upto, clash}
use Rattle.dw_tablet.proofs.Gap.{gap_is, same_between, covers_before}

pub none_between : (p : List ℕ) (xs : List (List ℕ)) → between p p xs ≡ []
none_between p [] = refl
none_between p (x ∷ xs) = at (below x p) (none_between p xs)
  where
    at : (b : Bool) → between p p xs ≡ [] → cond (not b && b) (x ∷ between p p xs) (between p p xs) ≡ []
    at true k = k
    at false k = k

-- where the place itself is not covered, nothing is
pub nothing_known : (t : Held) (p e : List ℕ) → covered_upto t.spans p ≡ None → below p e ≡ true → [] ≡ known_keys t p e
nothing_known t p e h k =
    sym (ap (λ o. between p (cond (below (unwrap_or o p) e) (unwrap_or o p) e) t.keys) h
    ∙ (ap (λ b. between p (cond b p e) t.keys) k
    ∙ none_between p t.keys))

-- no key behind one that is not before a place is before it
none_left : (a b x : List ℕ) (xs : List (List ℕ)) → below x b ≡ false → AllByRecursion (λ j. below x j ≡ true) xs → between a b xs ≡ []
none_left a b x [] h l = refl
none_left a b x (y ∷ xs) h l = at (below y a) (below y b) (upto b x y h (back x y l.0)) (none_left a b x xs h l.1)
  where
    at : (c d : Bool) → d ≡ false → between a b xs ≡ [] → cond (not c && d) (y ∷ between a b xs) (between a b xs) ≡ []
    at true d e k = k
    at false true e k = absurd (clash refl e)
    at false false e k = k

-- keys from a place on are those before another, and those from there on
head_step : (a b x : List ℕ) (xs : List (List ℕ)) → below b a ≡ false → AllByRecursion (λ j. below x j ≡ true) xs → (c d : Bool) → below x a ≡ c → below x b ≡ d
    → onward a xs ≡ between a b xs ++ onward b xs
    → cond (not c) (x ∷ onward a xs) (onward a xs) ≡ cond (not c && d) (x ∷ between a b xs) (between a b xs) ++ cond (not d) (x ∷ onward b xs) (onward b xs)
head_step a b x xs h l true true e f k = k
head_step a b x xs h l true false e f k = absurd (clash (below_upto x a b e h) f)
head_step a b x xs h l false true e f k = ap (λ ys. x ∷ ys) k
head_step a b x xs h l false false e f k =
    let none = none_left a b x xs f l in
    ap (λ ys. x ∷ ys) (k ∙ ap (λ m. m ++ onward b xs) none) ∙ sym (ap (λ m. m ++ (x ∷ onward b xs)) none)

pub parted : (a b : List ℕ) (xs : List (List ℕ)) → Ascends xs → below b a ≡ false → onward a xs ≡ between a b xs ++ onward b xs
parted a b [] up h = refl
parted a b (x ∷ xs) up h = head_step a b x xs h up.0 (below x a) (below x b) refl refl (parted a b xs up.1 h)

pub known_le : (t : Held) (p e : List ℕ) → IsApart t.spans → below p e ≡ true → below (known_upto t p e) p ≡ false
known_le t p e apart h = cond_both (below (gap t.spans p) e) (gap t.spans p) e (λ q. below q p ≡ false) (λ _. (gap_is t.spans p apart).after) (λ _. back p e h)

pub known_covered : (t : Held) (p e : List ℕ) → IsApart t.spans → CoversAll t.spans p (known_upto t p e)
known_covered t p e apart =
    let g = gap_is t.spans p apart in
    cond_both (below (gap t.spans p) e) (gap t.spans p) e (λ q. CoversAll t.spans p q) (λ _. g.covered) (λ h. covers_before t.spans p (gap t.spans p) e g h)

-- the keys of a content that agrees, from a place on
pub known_parts : (t : Held) (content : List (List ℕ)) (p e : List ℕ) → IsApart t.spans → Agrees t content → below p e ≡ true → onward p content ≡ known_keys t p e ++ onward (known_upto t p e) content
known_parts t content p e apart agrees h =
    let q = known_upto t p e in
    parted p q content agrees.is.ascends (known_le t p e apart h)
    ∙ ap (λ ks. ks ++ onward q content) (same_between p q t.spans t.keys content agrees.same (known_covered t p e apart))
