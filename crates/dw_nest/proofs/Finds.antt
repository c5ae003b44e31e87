-- The first element that passes a test.
use Rattle.std.proofs.Common.{ℕ, zero, suc, ◌≡◌, ◌<◌, ◌≤◌, ◌+◌, inl, inr, Bool, true, false, cond, List, [], ◌∷◌, length, take, filter, refl, ap, sym, subst, ◌∙◌, arith, add-one, Some, None, find, slice_index_or}
use Rattle.std.specs.Prelude.{slice_get, Contains, map}
use Rattle.std.proofs.lemmas.List.{take_all}
use Rattle.dw_key.specs.declared.doc_key.DocKey.{DocKey}
use Rattle.dw_nest.specs.declared.bound.Bound.{Bound}
use Rattle.dw_nest.specs.declared.bound.Top.{Top}
use Rattle.dw_nest.specs.declared.bound.Top.TheVariants.{Key, Missing}
use Rattle.dw_nest.specs.Bounds.{meets, rest, IfTopKey}
use Rattle.dw_nest.specs.Leaves.{Spot, Chosen, spot_meets, top_of_spot}

module _ {A : Type 0} (p : A → Bool) where
  pub find_here : (xs : List A) (i : ℕ) (x : A) → i < length xs → find p (take i xs) ≡ None → x ≡ slice_index_or xs i x → p x ≡ true → find p xs ≡ Some x
  find_here [] i x h n e t = absurd (omega arith)
  find_here (y ∷ ys) zero x h n e t = ap (λ b. cond b (Some y) (find p ys)) (ap p (sym e) ∙ t) ∙ ap Some (sym e)
  find_here (y ∷ ys) (suc i) x h n e t = go (p y) n (λ m. find_here ys i x (omega arith) m e t)
    where
      go : (b : Bool) → cond b (Some y) (find p (take i ys)) ≡ None → (find p (take i ys) ≡ None → find p ys ≡ Some x) → cond b (Some y) (find p ys) ≡ Some x
      go true m r = absurd (cc)
      go false m r = r m

  pub find_later : (xs : List A) (i : ℕ) (x : A) → i < length xs → find p (take i xs) ≡ None → x ≡ slice_index_or xs i x → p x ≡ false → find p (take (i + 1) xs) ≡ None
  find_later [] i x h n e t = absurd (omega arith)
  find_later (y ∷ ys) zero x h n e t = ap (λ k. find p (take k (y ∷ ys))) (add-one zero) ∙ ap (λ b. cond b (Some y) None) (ap p (sym e) ∙ t)
  find_later (y ∷ ys) (suc i) x h n e t = ap (λ k. find p (take k (y ∷ ys))) (add-one (suc i)) ∙ go (p y) n (λ m. ap (λ k. find p (take k ys)) (sym (add-one i)) ∙ find_later ys i x (omega arith) m e t)
    where
      go : (b : Bool) → cond b (Some y) (find p (take i ys)) ≡ None → (find p (take i ys) ≡ None → find p (take (suc i) ys) ≡ None) → cond b (Some y) (find p (take (suc i) ys)) ≡ None
      go true m r = absurd (cc)
      go false m r = r m

  pub find_none : (xs : List A) (i : ℕ) → length xs ≤ i → find p (take i xs) ≡ None → find p xs ≡ None
  find_none xs i h n = ap (find p) (sym (take_all i xs h)) ∙ n

  pub first_of : (xs : List A) (x : A) → find p xs ≡ Some x → slice_get (filter p xs) 0 ≡ Some x
  first_of [] x e = absurd (cc)
  first_of (y ∷ ys) x e = go (p y) e (λ m. first_of ys x m)
    where
      go : (b : Bool) → cond b (Some y) (find p ys) ≡ Some x → (find p ys ≡ Some x → slice_get (filter p ys) 0 ≡ Some x) → slice_get (cond b (y ∷ filter p ys) (filter p ys)) 0 ≡ Some x
      go true m r = m
      go false m r = r m

  pub none_of : (xs : List A) → find p xs ≡ None → filter p xs ≡ []
  none_of [] e = refl
  none_of (y ∷ ys) e = go (p y) e (λ m. none_of ys m)
    where
      go : (b : Bool) → cond b (Some y) (find p ys) ≡ None → (find p ys ≡ None → filter p ys ≡ []) → cond b (y ∷ filter p ys) (filter p ys) ≡ []
      go true m r = absurd (cc)
      go false m r = r m

-- where the first spot that meets the bound is known, its key is the first of each choice
pub spot_first : (bound : Bound) (spots : List Spot) (all : List DocKey) (spot : Spot) → Chosen spots all → find (spot_meets bound) spots ≡ Some spot → spot.1 ≡ true → slice_get (rest all bound) 0 ≡ Some spot.0
spot_first bound [] all spot c e k = absurd (cc)
spot_first bound (s ∷ ss) all spot (inl (others, is, c)) e k = subst (λ (a : List DocKey). slice_get (rest a bound) 0 ≡ Some spot.0) (sym is) (go (meets bound s.0) e (λ m. spot_first bound ss others spot c m k))
  where
    go : (b : Bool) → cond b (Some s) (find (spot_meets bound) ss) ≡ Some spot → (find (spot_meets bound) ss ≡ Some spot → slice_get (rest others bound) 0 ≡ Some spot.0) → slice_get (cond b (s.0 ∷ rest others bound) (rest others bound)) 0 ≡ Some spot.0
    go true m r = let same : s ≡ spot = cc in ap (λ (x : Spot). Some x.0) same
    go false m r = r m
spot_first bound (s ∷ ss) all spot (inr (unknown, c)) e k = go (meets bound s.0) e (λ m. spot_first bound ss all spot c m k)
  where
    go : (b : Bool) → cond b (Some s) (find (spot_meets bound) ss) ≡ Some spot → (find (spot_meets bound) ss ≡ Some spot → slice_get (rest all bound) 0 ≡ Some spot.0) → slice_get (rest all bound) 0 ≡ Some spot.0
    go true m r = absurd (let same : s ≡ spot = cc in let known : s.1 ≡ true = ap (λ (x : Spot). x.1) same ∙ k in cc)
    go false m r = r m

-- where no spot meets the bound, no key of a choice does
pub spot_none : (bound : Bound) (spots : List Spot) (all : List DocKey) → Chosen spots all → find (spot_meets bound) spots ≡ None → rest all bound ≡ []
spot_none bound [] all c e = ap (λ (a : List DocKey). rest a bound) c
spot_none bound (s ∷ ss) all (inl (others, is, c)) e = subst (λ (a : List DocKey). rest a bound ≡ []) (sym is) (go (meets bound s.0) e (λ m. spot_none bound ss others c m))
  where
    go : (b : Bool) → cond b (Some s) (find (spot_meets bound) ss) ≡ None → (find (spot_meets bound) ss ≡ None → rest others bound ≡ []) → cond b (s.0 ∷ rest others bound) (rest others bound) ≡ []
    go true m r = absurd (cc)
    go false m r = r m
spot_none bound (s ∷ ss) all (inr (unknown, c)) e = go (meets bound s.0) e (λ m. spot_none bound ss all c m)
  where
    go : (b : Bool) → cond b (Some s) (find (spot_meets bound) ss) ≡ None → (find (spot_meets bound) ss ≡ None → rest all bound ≡ []) → rest all bound ≡ []
    go true m r = absurd (cc)
    go false m r = r m

-- what is found is in the list, and passes
pub found_in : (p : DocKey → Bool) (xs : List DocKey) (x : DocKey) → find p xs ≡ Some x → Contains xs x × (p x ≡ true)
found_in p [] x e = absurd (cc)
found_in p (y ∷ ys) x e = go (p y) refl e (λ m. found_in p ys x m)
  where
    go : (b : Bool) → p y ≡ b → cond b (Some y) (find p ys) ≡ Some x → (find p ys ≡ Some x → Contains ys x × (p x ≡ true)) → Contains (y ∷ ys) x × (p x ≡ true)
    go true t m r = let same : y ≡ x = cc in ((0, omega arith, same), subst (λ z. p z ≡ true) same t)
    go false t m r = let h = r m in ((suc h.0.0, omega (arith, h.0.1), h.0.2), h.1)

pub spot_in : (bound : Bound) (spots : List Spot) (spot : Spot) → find (spot_meets bound) spots ≡ Some spot → Contains (map (λ (s : Spot). s.0) spots) spot.0 × (meets bound spot.0 ≡ true)
spot_in bound [] spot e = absurd (cc)
spot_in bound (s ∷ ss) spot e = go (meets bound s.0) refl e (λ m. spot_in bound ss spot m)
  where
    go : (b : Bool) → meets bound s.0 ≡ b → cond b (Some s) (find (spot_meets bound) ss) ≡ Some spot → (find (spot_meets bound) ss ≡ Some spot → Contains (map (λ (x : Spot). x.0) ss) spot.0 × (meets bound spot.0 ≡ true)) → Contains (s.0 ∷ map (λ (x : Spot). x.0) ss) spot.0 × (meets bound spot.0 ≡ true)
    go true t m r = let same : s ≡ spot = cc in ((0, omega arith, ap (λ (x : Spot). x.0) same), subst (λ (z : Spot). meets bound z.0 ≡ true) same t)
    go false t m r = let h = r m in ((suc h.0.0, omega (arith, h.0.1), h.0.2), h.1)

-- a fact of the key at a spot, where the spot is known
pub at_spot : (spot : Spot) (top : Top) (Fact : DocKey → Type 0) → top ≡ top_of_spot (Some spot) → (spot.1 ≡ true → Fact spot.0) → IfTopKey top Fact
at_spot spot top Fact e h = subst (λ (t : Top). IfTopKey t Fact) (sym e) (go spot.1 h)
  where
    go : (b : Bool) → (b ≡ true → Fact spot.0) → IfTopKey (cond b (Key spot.0) Missing) Fact
    go true k = k refl
    go false k = tt
