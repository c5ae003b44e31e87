-- The groups of a list are the list, cut.
use Rattle.std.proofs.Common.{◌≡◌, ◌<◌, ◌+◌, ◌==◌, ◌++◌, ◌∷◌, [], ℕ, Bool, true, false, cond, List, length, refl, sym, ap, ◌∙◌, append_assoc, arith, length-append, IsTrue}
use Rattle.std.proofs.lemmas.List.{append-nil}
use Rattle.std.proofs.lemmas.Bool.{and_from}
use Rattle.std.proofs.lemmas.Bool.Decides.{nat_tests}
use Rattle.dw_groups.specs.Groups.{full_groups_after, rest_after_groups, full_groups, last_items, last_group, groups, joined, are_cut, GroupsAreCuts}

joined-append : {A : Type 0} (xss yss : List (List A)) → joined (xss ++ yss) ≡ joined xss ++ joined yss
joined-append [] yss = refl
joined-append (xs ∷ xss) yss = ap (λ ys. xs ++ ys) (joined-append xss yss) ∙ sym (append_assoc xs (joined xss) (joined yss))

items_at : {A : Type 0} (b : Bool) (front xs : List A) (x : A)
    → joined (full_groups_after [] xs) ++ rest_after_groups [] xs ≡ xs
    → joined (full_groups_after (front ++ x ∷ []) xs) ++ rest_after_groups (front ++ x ∷ []) xs ≡ (front ++ x ∷ []) ++ xs
    → joined (cond b ((front ++ x ∷ []) ∷ full_groups_after [] xs) (full_groups_after (front ++ x ∷ []) xs)) ++ cond b (rest_after_groups [] xs) (rest_after_groups (front ++ x ∷ []) xs)
    ≡ (front ++ x ∷ []) ++ xs
items_at true front xs x h k = append_assoc (front ++ x ∷ []) (joined (full_groups_after [] xs)) (rest_after_groups [] xs) ∙ ap (λ ys. (front ++ x ∷ []) ++ ys) h
items_at false front xs x h k = k

items : {A : Type 0} (front xs : List A) → joined (full_groups_after front xs) ++ rest_after_groups front xs ≡ front ++ xs
items front [] = sym (append-nil front)
items front (x ∷ xs) =
    items_at (length (front ++ x ∷ []) == 1000) front xs x (items [] xs) (items (front ++ x ∷ []) xs) ∙ append_assoc front (x ∷ []) xs

last_joined : {A : Type 0} (xs : List A) → joined (last_group xs) ≡ xs
last_joined [] = refl
last_joined (x ∷ xs) = append-nil (x ∷ xs)

-- ---- how long the groups are

-- each group has 1,000 items
abbrev AllFull : {A : Type 0} → List (List A) → Type 0
AllFull [] = Unit {0}
AllFull (g ∷ gs) = ((length g == 1000) ≡ true) × AllFull gs

full_if : {A : Type 0} (b : Bool) (front xs : List A) (x : A) → (length (front ++ x ∷ []) == 1000) ≡ b
    → AllFull (full_groups_after [] xs) → ((length (front ++ x ∷ []) == 1000) ≡ false → AllFull (full_groups_after (front ++ x ∷ []) xs))
    → AllFull (cond b ((front ++ x ∷ []) ∷ full_groups_after [] xs) (full_groups_after (front ++ x ∷ []) xs))
full_if true front xs x e h k = (e, h)
full_if false front xs x e h k = k e

all_full : {A : Type 0} (front xs : List A) → AllFull (full_groups_after front xs)
all_full front [] = tt
all_full front (x ∷ xs) = full_if (length (front ++ x ∷ []) == 1000) front xs x refl (all_full [] xs) (λ _. all_full (front ++ x ∷ []) xs)

shorter : {A : Type 0} (front : List A) (x : A) → length front < 1000 → (length (front ++ x ∷ []) == 1000) ≡ false → length (front ++ x ∷ []) < 1000
shorter front x h e = let l = length-append front (x ∷ []) in grind (arith, nat_tests)

short_if : {A : Type 0} (b : Bool) (front xs : List A) (x : A) → (length (front ++ x ∷ []) == 1000) ≡ b
    → length (rest_after_groups [] xs) < 1000 → ((length (front ++ x ∷ []) == 1000) ≡ false → length (rest_after_groups (front ++ x ∷ []) xs) < 1000)
    → length (cond b (rest_after_groups [] xs) (rest_after_groups (front ++ x ∷ []) xs)) < 1000
short_if true front xs x e h k = h
short_if false front xs x e h k = k e

rest_short : {A : Type 0} (front xs : List A) → length front < 1000 → length (rest_after_groups front xs) < 1000
rest_short front [] h = h
rest_short front (x ∷ xs) h =
    short_if (length (front ++ x ∷ []) == 1000) front xs x refl (rest_short [] xs (omega arith)) (λ e. rest_short (front ++ x ∷ []) xs (shorter front x h e))

last_cut : {A : Type 0} (xs : List A) → length xs < 1000 → IsTrue (are_cut (last_group xs))
last_cut [] h = refl
last_cut (x ∷ xs) h = grind (arith, nat_tests)

one_cut : {A : Type 0} (g : List A) → (length g == 1000) ≡ true → IsTrue (are_cut (g ∷ []))
one_cut g e = grind (arith, nat_tests)

cut_more : {A : Type 0} (g : List A) (gs : List (List A)) → (length g == 1000) ≡ true → IsTrue (are_cut gs) → IsTrue (are_cut (g ∷ gs))
cut_more g [] e h = one_cut g e
cut_more g (k ∷ gs) e h = and_from (length g == 1000) (are_cut (k ∷ gs)) e h

all_cut : {A : Type 0} (gs last : List (List A)) → AllFull gs → IsTrue (are_cut last) → IsTrue (are_cut (gs ++ last))
all_cut [] last h k = k
all_cut (g ∷ gs) last h k = cut_more g (gs ++ last) h.0 (all_cut gs last h.1 k)

pub groups_are_cuts : GroupsAreCuts
groups_are_cuts recs = (
  joined-append (full_groups recs) (last_group (last_items recs)) ∙ ap (λ ys. joined (full_groups recs) ++ ys) (last_joined (last_items recs)) ∙ items [] recs,
  all_cut (full_groups recs) (last_group (last_items recs)) (all_full [] recs) (last_cut (last_items recs) (rest_short [] recs (omega arith))),
)
