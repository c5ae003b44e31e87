-- A run in place of the keys that were held.
use Rattle.std.proofs.Common.{◌≡◌, ℕ, List, [], ◌∷◌, ◌++◌, refl, sym, ap, ◌∙◌, Bool, true, false, cond, ◌⊎◌, inl, inr}
use Rattle.std.specs.Prelude.{filter}
use Rattle.std.specs.List.{AllByRecursion}

none_step : (f : List ℕ → Bool) (b : Bool) (x : List ℕ) (ys : List (List ℕ)) → f x ≡ false → filter f ys ≡ [] → filter f (cond b (x ∷ ys) ys) ≡ []
none_step f true x ys h k = ap (λ b. cond b (x ∷ filter f ys) (filter f ys)) h ∙ k
none_step f false x ys h k = k

none_passes : (f p : List ℕ → Bool) (xs : List (List ℕ)) → AllByRecursion (λ d. f d ≡ false) xs → filter f (filter p xs) ≡ []
none_passes f p [] h = refl
none_passes f p (x ∷ xs) h = none_step f (p x) x (filter p xs) h.0 (none_passes f p xs h.1)

none_passes_once : (f : List ℕ → Bool) (xs : List (List ℕ)) → AllByRecursion (λ d. f d ≡ false) xs → filter f xs ≡ []
none_passes_once f [] h = refl
none_passes_once f (x ∷ xs) h = ap (λ b. cond b (x ∷ filter f xs) (filter f xs)) h.0 ∙ none_passes_once f xs h.1

-- an item that fails the second test may be left out, and one that meets it stays where the first test passes it
without : (f : List ℕ → Bool) (b : Bool) (x : List ℕ) (ys : List (List ℕ)) → f x ≡ false → filter f (cond b (x ∷ ys) ys) ≡ filter f ys
without f true x ys h = ap (λ b. cond b (x ∷ filter f ys) (filter f ys)) h
without f false x ys h = refl

with : (f : List ℕ → Bool) (b : Bool) (x : List ℕ) (ys : List (List ℕ)) → f x ≡ true → filter f (cond b (x ∷ ys) ys) ≡ cond b (x ∷ filter f ys) (filter f ys)
with f true x ys h = ap (λ b. cond b (x ∷ filter f ys) (filter f ys)) h
with f false x ys h = refl

moved : (b : Bool) (x : List ℕ) (xs ys : List (List ℕ)) → cond b (x ∷ xs) xs ++ ys ≡ cond b (x ∷ (xs ++ ys)) (xs ++ ys)
moved true x xs ys = refl
moved false x xs ys = refl

module _ (low mid high old new : List ℕ → Bool) where
  abbrev pub NoneLow : List (List ℕ) → Type 0
  NoneLow = AllByRecursion (λ d. low d ≡ false)

  abbrev pub NoneMid : List (List ℕ) → Type 0
  NoneMid = AllByRecursion (λ d. mid d ≡ false)

  pub record IsLow (x : List ℕ) : Type 0 where
    pub is_low : low x ≡ true
    pub not_mid : mid x ≡ false
    pub not_high : high x ≡ false
    pub same : new x ≡ old x

  pub record IsMid (x : List ℕ) (xs : List (List ℕ)) : Type 0 where
    pub not_low : low x ≡ false
    pub is_mid : mid x ≡ true
    pub not_high : high x ≡ false
    pub now : new x ≡ true
    pub later : NoneLow xs

  pub record IsHigh (x : List ℕ) (xs : List (List ℕ)) : Type 0 where
    pub not_low : low x ≡ false
    pub not_mid : mid x ≡ false
    pub is_high : high x ≡ true
    pub same : new x ≡ old x
    pub later : NoneLow xs
    pub past : NoneMid xs

  -- first low keys, then keys in the middle, then high ones
  abbrev pub Parts : List (List ℕ) → Type 0
  Parts [] = Unit {0}
  Parts (x ∷ xs) = (IsLow x ⊎ (IsMid x xs ⊎ IsHigh x xs)) × Parts xs

  abbrev low_of : List (List ℕ) → List (List ℕ)
  low_of xs = filter low (filter old xs)

  abbrev high_of : List (List ℕ) → List (List ℕ)
  high_of xs = filter high (filter old xs)

  step : (x : List ℕ) (xs : List (List ℕ)) → (IsLow x ⊎ (IsMid x xs ⊎ IsHigh x xs)) → filter new xs ≡ low_of xs ++ (filter mid xs ++ high_of xs)
      → filter new (x ∷ xs) ≡ low_of (x ∷ xs) ++ (filter mid (x ∷ xs) ++ high_of (x ∷ xs))
  step x xs (inl k) e =
      ap (λ b. cond b (x ∷ filter new xs) (filter new xs)) k.same
      ∙ (ap (λ l. cond (old x) (x ∷ l) l) e
      ∙ (sym (moved (old x) x (low_of xs) (filter mid xs ++ high_of xs))
      ∙ (ap (λ l. l ++ (filter mid xs ++ high_of xs)) (sym (with low (old x) x (filter old xs) k.is_low))
      ∙ (ap (λ m. low_of (x ∷ xs) ++ (m ++ high_of xs)) (sym (ap (λ b. cond b (x ∷ filter mid xs) (filter mid xs)) k.not_mid))
      ∙ ap (λ h. low_of (x ∷ xs) ++ (filter mid (x ∷ xs) ++ h)) (sym (without high (old x) x (filter old xs) k.not_high))))))
  step x xs (inr (inl k)) e =
      ap (λ b. cond b (x ∷ filter new xs) (filter new xs)) k.now
      ∙ (ap (λ l. x ∷ l) e
      ∙ (ap (λ l. x ∷ (l ++ (filter mid xs ++ high_of xs))) (none_passes low old xs k.later)
      ∙ (ap (λ m. m ++ high_of xs) (sym (ap (λ b. cond b (x ∷ filter mid xs) (filter mid xs)) k.is_mid))
      ∙ (ap (λ h. filter mid (x ∷ xs) ++ h) (sym (without high (old x) x (filter old xs) k.not_high))
      ∙ ap (λ l. l ++ (filter mid (x ∷ xs) ++ high_of (x ∷ xs))) (sym (none_passes low old (x ∷ xs) (k.not_low, k.later)))))))
  step x xs (inr (inr k)) e =
      ap (λ b. cond b (x ∷ filter new xs) (filter new xs)) k.same
      ∙ (ap (λ l. cond (old x) (x ∷ l) l) e
      ∙ (ap (λ l. cond (old x) (x ∷ (l ++ (filter mid xs ++ high_of xs))) (l ++ (filter mid xs ++ high_of xs))) (none_passes low old xs k.later)
      ∙ (ap (λ l. cond (old x) (x ∷ (l ++ high_of xs)) (l ++ high_of xs)) (none_passes_once mid xs k.past)
      ∙ (sym (with high (old x) x (filter old xs) k.is_high)
      ∙ (ap (λ m. m ++ high_of (x ∷ xs)) (sym (none_passes_once mid (x ∷ xs) (k.not_mid, k.past)))
      ∙ ap (λ l. l ++ (filter mid (x ∷ xs) ++ high_of (x ∷ xs))) (sym (none_passes low old (x ∷ xs) (k.not_low, k.later))))))))

  pub parted : (xs : List (List ℕ)) → Parts xs → filter new xs ≡ filter low (filter old xs) ++ (filter mid xs ++ filter high (filter old xs))
  parted [] h = refl
  parted (x ∷ xs) h = step x xs h.0 (parted xs h.1)
