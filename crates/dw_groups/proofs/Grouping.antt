-- On cutting a list into groups: one stretch and then another, and one item more.
use Rattle.std.proofs.Common.{◌≡◌, ◌==◌, ◌++◌, ◌∷◌, [], ℕ, Bool, true, false, cond, List, length, refl, ap, ◌∙◌}
use Rattle.std.proofs.lemmas.List.{append-nil}
use Rattle.dw_groups.specs.Groups.{full_groups_after, rest_after_groups, full_groups, last_items}

full_at : {A : Type 0} (b : Bool) (front xs ys : List A) (x : A)
    → full_groups_after [] (xs ++ ys) ≡ full_groups_after [] xs ++ full_groups_after (rest_after_groups [] xs) ys
    → full_groups_after (front ++ x ∷ []) (xs ++ ys) ≡ full_groups_after (front ++ x ∷ []) xs ++ full_groups_after (rest_after_groups (front ++ x ∷ []) xs) ys
    → cond b ((front ++ x ∷ []) ∷ full_groups_after [] (xs ++ ys)) (full_groups_after (front ++ x ∷ []) (xs ++ ys))
    ≡ cond b ((front ++ x ∷ []) ∷ full_groups_after [] xs) (full_groups_after (front ++ x ∷ []) xs) ++ full_groups_after (cond b (rest_after_groups [] xs) (rest_after_groups (front ++ x ∷ []) xs)) ys
full_at true front xs ys x h k = ap (λ gs. (front ++ x ∷ []) ∷ gs) h
full_at false front xs ys x h k = k

-- the whole groups of one stretch, and then of another
pub full_then : {A : Type 0} (front xs ys : List A) → full_groups_after front (xs ++ ys) ≡ full_groups_after front xs ++ full_groups_after (rest_after_groups front xs) ys
full_then front [] ys = refl
full_then front (x ∷ xs) ys = full_at (length (front ++ x ∷ []) == 1000) front xs ys x (full_then [] xs ys) (full_then (front ++ x ∷ []) xs ys)

rest_at : {A : Type 0} (b : Bool) (front xs ys : List A) (x : A)
    → rest_after_groups [] (xs ++ ys) ≡ rest_after_groups (rest_after_groups [] xs) ys
    → rest_after_groups (front ++ x ∷ []) (xs ++ ys) ≡ rest_after_groups (rest_after_groups (front ++ x ∷ []) xs) ys
    → cond b (rest_after_groups [] (xs ++ ys)) (rest_after_groups (front ++ x ∷ []) (xs ++ ys))
    ≡ rest_after_groups (cond b (rest_after_groups [] xs) (rest_after_groups (front ++ x ∷ []) xs)) ys
rest_at true front xs ys x h k = h
rest_at false front xs ys x h k = k

pub rest_then : {A : Type 0} (front xs ys : List A) → rest_after_groups front (xs ++ ys) ≡ rest_after_groups (rest_after_groups front xs) ys
rest_then front [] ys = refl
rest_then front (x ∷ xs) ys = rest_at (length (front ++ x ∷ []) == 1000) front xs ys x (rest_then [] xs ys) (rest_then (front ++ x ∷ []) xs ys)

-- ---- one item more

full_cut : {A : Type 0} (b : Bool) (front : List A) (x : A) → b ≡ true → cond b ((front ++ x ∷ []) ∷ []) [] ≡ (front ++ x ∷ []) ∷ []
full_cut true front x e = refl
full_cut false front x e = cc

full_kept : {A : Type 0} (b : Bool) (front : List A) (x : A) → b ≡ false → cond b ((front ++ x ∷ []) ∷ []) [] ≡ []
full_kept true front x e = cc
full_kept false front x e = refl

rest_cut : {A : Type 0} (b : Bool) (front : List A) (x : A) → b ≡ true → cond b [] (front ++ x ∷ []) ≡ []
rest_cut true front x e = refl
rest_cut false front x e = cc

rest_kept : {A : Type 0} (b : Bool) (front : List A) (x : A) → b ≡ false → cond b [] (front ++ x ∷ []) ≡ front ++ x ∷ []
rest_kept true front x e = cc
rest_kept false front x e = refl

-- the item ends a group
pub full_whole : {A : Type 0} (xs : List A) (x : A) → (length (last_items xs ++ x ∷ []) == 1000) ≡ true
    → full_groups (xs ++ x ∷ []) ≡ full_groups xs ++ (last_items xs ++ x ∷ []) ∷ []
full_whole xs x e = full_then [] xs (x ∷ []) ∙ ap (λ gs. full_groups xs ++ gs) (full_cut (length (last_items xs ++ x ∷ []) == 1000) (last_items xs) x e)

pub rest_whole : {A : Type 0} (xs : List A) (x : A) → (length (last_items xs ++ x ∷ []) == 1000) ≡ true → last_items (xs ++ x ∷ []) ≡ []
rest_whole xs x e = rest_then [] xs (x ∷ []) ∙ rest_cut (length (last_items xs ++ x ∷ []) == 1000) (last_items xs) x e

-- the item does not end a group
pub full_same : {A : Type 0} (xs : List A) (x : A) → (length (last_items xs ++ x ∷ []) == 1000) ≡ false → full_groups (xs ++ x ∷ []) ≡ full_groups xs
full_same xs x e =
    full_then [] xs (x ∷ []) ∙ ap (λ gs. full_groups xs ++ gs) (full_kept (length (last_items xs ++ x ∷ []) == 1000) (last_items xs) x e) ∙ append-nil (full_groups xs)

pub rest_more : {A : Type 0} (xs : List A) (x : A) → (length (last_items xs ++ x ∷ []) == 1000) ≡ false → last_items (xs ++ x ∷ []) ≡ last_items xs ++ x ∷ []
rest_more xs x e = rest_then [] xs (x ∷ []) ∙ rest_kept (length (last_items xs ++ x ∷ []) == 1000) (last_items xs) x e
