-- What stands past a place, and the place of the last event of a page.
use Rattle.std.proofs.Common.{ℕ, zero, suc, ◌≡◌, ◌≤◌, ◌<◌, ◌+◌, ◌-◌, ◌*◌, ◌&&◌, ◌∷◌, [], List, Bool, true, false, cond, length, take, drop, refl, ap, sym, subst, ◌∙◌, arith}
use Rattle.std.specs.Prelude.{Option, Some, None, not, ◌==◌, if◌then◌else◌, ◌↔◌, IsTrue, IfSome}
use Rattle.std.specs.List.{filter, slice_get, AllByRecursion}
use Rattle.std.specs.Ordering.{nat_cmp, is_le, is_lt, ordering_then, ordering_reverse}
use Rattle.std.specs.Cmp.{tied_itself}
use Rattle.std.specs.Cmp.Lexicographic.{slice_cmp}
use Rattle.std.specs.declared.cmp.Ordering.{Ordering}
use Rattle.std.specs.declared.cmp.Ordering.TheVariants.{Less, Equal, Greater}
use Rattle.std.proofs.Math.Nat.{suc-mul}
use Rattle.std.proofs.lemmas.Bool.{eqb-true}
use Rattle.std.proofs.lemmas.List.{length-drop, length-take-le, drop_all}
use Rattle.dw_key.specs.declared.doc_key.DocKey.{DocKey}
use Rattle.dw_key.specs.DocKeys.{doc_key_cmp}
use Rattle.dw_event.specs.declared.reports.Shown.{Shown}
use Rattle.dw_event.specs.Places.{place_cmp}
use Rattle.dw_derive.proofs.Orders.{places_total}
use Rattle.dw_nest.proofs.Order.{total}
use Rattle.dw_scan.proofs.ShardOrder.{AreUp, place}
use Rattle.dw_page.specs.declared.mark.MarkPlace.{MarkPlace}
use Rattle.dw_page.specs.declared.mark.MarkPlace.TheVariants.{At, End}
use Rattle.dw_page.specs.declared.mark.Mark.{Mark}
use Rattle.dw_page.specs.Marks.{is_upto, is_past, IsMarked, EndsAt, place_before, is_end, last_place, place_after, skip_to}

-- what a filter keeps passes
pub all_pass : {A : Type 0} (p : A → Bool) (xs : List A) → AllByRecursion (λ x. p x ≡ true) (filter p xs)
all_pass p [] = tt
all_pass p (x ∷ xs) = at (p x) refl (all_pass p xs)
  where
    at : (b : Bool) → p x ≡ b → AllByRecursion (λ y. p y ≡ true) (filter p xs) → AllByRecursion (λ y. p y ≡ true) (cond b (x ∷ filter p xs) (filter p xs))
    at true e r = (e, r)
    at false e r = r

pub all_stay : {A : Type 0} (xs : List A) → filter (λ x. true) xs ≡ xs
all_stay [] = refl
all_stay (x ∷ xs) = ap (λ ys. x ∷ ys) (all_stay xs)

pub none_pass : {A : Type 0} (xs : List A) → filter (λ x. false) xs ≡ []
none_pass [] = refl
none_pass (x ∷ xs) = none_pass xs

pub filter_both : {A : Type 0} (p q : A → Bool) (xs : List A) → filter p (filter q xs) ≡ filter (λ x. p x && q x) xs
filter_both p q [] = refl
filter_both p q (x ∷ xs) = at (q x) refl (p x) refl (filter_both p q xs)
  where
    at : (b : Bool) → q x ≡ b → (c : Bool) → p x ≡ c → filter p (filter q xs) ≡ filter (λ y. p y && q y) xs
        → filter p (cond b (x ∷ filter q xs) (filter q xs)) ≡ cond (c && b) (x ∷ filter (λ y. p y && q y) xs) (filter (λ y. p y && q y) xs)
    at true e true f r = ap (λ z. cond z (x ∷ filter p (filter q xs)) (filter p (filter q xs))) f ∙ ap (λ ys. x ∷ ys) r
    at true e false f r = ap (λ z. cond z (x ∷ filter p (filter q xs)) (filter p (filter q xs))) f ∙ r
    at false e true f r = r
    at false e false f r = r

-- ---- past a place

pub past_at : (first : List ℕ) (key : DocKey) (k : List ℕ) (x : Shown) → x.shard ≡ k → is_past (Some (At first key)) x ≡ not (is_le (ordering_then (slice_cmp nat_cmp k first) (doc_key_cmp x.key key)))
past_at first key k x e = ap (λ s. not (is_le (ordering_then (slice_cmp nat_cmp s first) (doc_key_cmp x.key key)))) e

pub turned : (key x : DocKey) → not (is_le (doc_key_cmp x key)) ≡ is_lt (doc_key_cmp key x)
turned key x = ap (λ o. not (is_le o)) (total.antisymm x key) ∙ at (doc_key_cmp key x)
  where
    at : (o : Ordering) → not (is_le (ordering_reverse o)) ≡ is_lt o
    at Less = refl
    at Equal = refl
    at Greater = refl

-- where none passes, all fail
all_fail : {A : Type 0} (p : A → Bool) (xs : List A) → filter p xs ≡ [] → filter (λ x. not (p x)) xs ≡ xs
all_fail p [] e = refl
all_fail p (x ∷ xs) e = at (p x) refl e (all_fail p xs)
  where
    at : (b : Bool) → p x ≡ b → cond b (x ∷ filter p xs) (filter p xs) ≡ [] → (filter p xs ≡ [] → filter (λ y. not (p y)) xs ≡ xs) → cond (not b) (x ∷ filter (λ y. not (p y)) xs) (filter (λ y. not (p y)) xs) ≡ x ∷ xs
    at true e h r = absurd (cc)
    at false e h r = ap (λ ys. x ∷ ys) (r h)

-- what a filter keeps first passes
first_passes : {A : Type 0} (p : A → Bool) (xs ys : List A) (x : A) → filter p xs ≡ x ∷ ys → p x ≡ true
first_passes p [] ys x e = absurd (cc)
first_passes p (z ∷ zs) ys x e = at (p z) refl e (first_passes p zs ys x)
  where
    at : (b : Bool) → p z ≡ b → cond b (z ∷ filter p zs) (filter p zs) ≡ x ∷ ys → (filter p zs ≡ x ∷ ys → p x ≡ true) → p x ≡ true
    at true e h r = let same : z ≡ x = cc in ap p (sym same) ∙ e
    at false e h r = r h

-- where the first so many pass, those after them are the ones that fail
past_is_drop : {A : Type 0} (p : A → Bool) (n : ℕ) (xs : List A) → filter p xs ≡ take n xs → filter (λ x. not (p x)) xs ≡ drop n xs
past_is_drop p zero xs e = all_fail p xs e
past_is_drop p (suc n) [] e = refl
past_is_drop p (suc n) (x ∷ xs) e = at (p x) refl e (past_is_drop p n xs)
  where
    at : (b : Bool) → p x ≡ b → cond b (x ∷ filter p xs) (filter p xs) ≡ x ∷ take n xs → (filter p xs ≡ take n xs → filter (λ y. not (p y)) xs ≡ drop n xs) → cond (not b) (x ∷ filter (λ y. not (p y)) xs) (filter (λ y. not (p y)) xs) ≡ drop n xs
    at true e h r = r (cc)
    at false e h r = let f : false ≡ true = sym e ∙ first_passes p xs (take n xs) x h in absurd (cc)

-- past the place where the page before ended stand the events from the page on
pub past_rest : (start : Option MarkPlace) (page size : ℕ) (xs : List Shown) → IfSome start (λ p. EndsAt p ((page - 1) * size) xs) → drop (skip_to start page size) (filter (is_past start) xs) ≡ drop ((page - 1) * size) xs
past_rest None page size xs h = ap (drop ((page - 1) * size)) (all_stay xs)
past_rest (Some (At shard key)) page size xs h = past_is_drop (is_upto shard key) ((page - 1) * size) xs h.0
past_rest (Some End) page size xs h = none_pass xs ∙ sym (drop_all ((page - 1) * size) xs h)

pages : (page size : ℕ) → 1 ≤ page → (page - 1) * size + size ≡ page * size
pages zero size l = absurd (omega arith)
pages (suc p) size l = let one : suc p - 1 ≡ p = omega arith in rw one (sym (suc-mul p size))

-- where a true mark is for the page before, so does that page end
pub start_ends : (xs : List Shown) (page size : ℕ) (mark : Option Mark) → IsMarked xs size mark → IfSome (place_before mark page) (λ p. EndsAt p ((page - 1) * size) xs)
start_ends xs page size None h = tt
start_ends xs page size (Some m) h = at (m.page + 1 == page) refl
  where
    at : (b : Bool) → (m.page + 1 == page) ≡ b → IfSome (if b then Some m.place else None) (λ p. EndsAt p ((page - 1) * size) xs)
    at true e =
        let next : m.page + 1 ≡ page = eqb-true (m.page + 1) page e in
        let same : m.page ≡ page - 1 = omega arith in
        let P : ℕ → Type 0 = λ n. EndsAt m.place (n * size) xs in
        subst P same h
    at false e = tt

-- the end and nothing else
pub end_is : (start : Option MarkPlace) → is_end start ≡ true → start ≡ Some End
end_is None e = cc
end_is (Some (At shard key)) e = cc
end_is (Some End) e = refl

-- past the end stands nothing
pub none_past : (xs : List Shown) (page size : ℕ) (start : Option MarkPlace) → start ≡ Some End → IfSome start (λ p. EndsAt p ((page - 1) * size) xs) → drop ((page - 1) * size) xs ≡ []
none_past xs page size start e h =
    let P : Option MarkPlace → Type 0 = λ o. IfSome o (λ p. EndsAt p ((page - 1) * size) xs) in
    drop_all ((page - 1) * size) xs (subst P e h)

-- and the mark there is true
pub end_true : (xs : List Shown) (page size : ℕ) → 1 ≤ page → drop ((page - 1) * size) xs ≡ [] → EndsAt End (page * size) xs
end_true xs page size p e =
    let n = (page - 1) * size in
    let sum : n + size ≡ page * size = pages page size p in
    let long : length (drop n xs) ≡ length xs - n = length-drop n xs in
    let none : length (drop n xs) ≡ 0 = ap length e in
    omega arith

-- ---- the last event of a page

all_get : {A : Type 0} (P : A → Type 0) (xs : List A) (i : ℕ) (s : A) → AllByRecursion P xs → slice_get xs i ≡ Some s → P s
all_get P [] i s a e = absurd (cc)
all_get P (x ∷ xs) zero s a e = let same : x ≡ s = cc in subst P same a.0
all_get P (x ∷ xs) (suc i) s a e = all_get P xs i s a.1 e

get_taken : {A : Type 0} (k : ℕ) (xs : List A) (i : ℕ) → i < k → slice_get (take k xs) i ≡ slice_get xs i
get_taken zero xs i l = absurd (omega arith)
get_taken (suc k) [] i l = refl
get_taken (suc k) (x ∷ xs) zero l = refl
get_taken (suc k) (x ∷ xs) (suc i) l = get_taken k xs i (omega arith)

get_dropped : {A : Type 0} (n : ℕ) (xs : List A) (i : ℕ) → slice_get (drop n xs) i ≡ slice_get xs (n + i)
get_dropped zero xs i = let same : i ≡ 0 + i = omega arith in ap (slice_get xs) same
get_dropped (suc n) [] i = refl
get_dropped (suc n) (x ∷ xs) i = let same : suc (n + i) ≡ suc n + i = omega arith in get_dropped n xs i ∙ ap (slice_get (x ∷ xs)) same

get_within : {A : Type 0} (xs : List A) (i : ℕ) → i < length xs → (s : A) × (slice_get xs i ≡ Some s)
get_within [] i l = absurd (omega arith)
get_within (x ∷ xs) zero l = (x, refl)
get_within (x ∷ xs) (suc i) l = get_within xs i (omega arith)

none_upto : (s : Shown) (xs : List Shown) → AllByRecursion (λ r. place_cmp (place s) (place r) ≡ Less) xs → filter (is_upto s.shard s.key) xs ≡ []
none_upto s [] a = refl
none_upto s (x ∷ xs) a =
    let later : is_upto s.shard s.key x ≡ false = ap is_le (places_total.antisymm (place x) (place s) ∙ ap ordering_reverse a.0) in
    ap (λ b. cond b (x ∷ filter (is_upto s.shard s.key) xs) (filter (is_upto s.shard s.key) xs)) later ∙ none_upto s xs a.1

-- those at or before an event are the ones up to it
upto_taken : (xs : List Shown) (m : ℕ) (s : Shown) → AreUp xs → slice_get xs m ≡ Some s → filter (is_upto s.shard s.key) xs ≡ take (suc m) xs
upto_taken [] m s up e = absurd (cc)
upto_taken (x ∷ xs) zero s up e =
    let same : x ≡ s = cc in
    let here : is_upto s.shard s.key x ≡ true = ap (is_upto s.shard s.key) same ∙ ap is_le (tied_itself places_total (place s)) in
    let P : Shown → Type 0 = λ y. AllByRecursion (λ r. place_cmp (place y) (place r) ≡ Less) xs in
    ap (λ b. cond b (x ∷ filter (is_upto s.shard s.key) xs) (filter (is_upto s.shard s.key) xs)) here ∙ ap (λ ys. x ∷ ys) (none_upto s xs (subst P same up.0))
upto_taken (x ∷ xs) (suc m) s up e =
    let before : place_cmp (place x) (place s) ≡ Less = all_get (λ r. place_cmp (place x) (place r) ≡ Less) xs m s up.0 e in
    ap (λ b. cond b (x ∷ filter (is_upto s.shard s.key) xs) (filter (is_upto s.shard s.key) xs)) (ap is_le before) ∙ ap (λ ys. x ∷ ys) (upto_taken xs m s up.1 e)

-- the mark of a page is true
pub mark_true : (xs : List Shown) (page size : ℕ) (shown : List Shown) (more : Bool) → AreUp xs → 1 ≤ page → 1 ≤ size
    → shown ≡ take size (drop ((page - 1) * size) xs) → IsTrue more ↔ size < length (drop ((page - 1) * size) xs)
    → EndsAt (place_after more shown) (page * size) xs
mark_true xs page size shown false up p z s m =
    let n = (page - 1) * size in
    let sum : n + size ≡ page * size = pages page size p in
    let long : length (drop n xs) ≡ length xs - n = length-drop n xs in
    grind (arith, m, sum, long)
mark_true xs page size shown true up p z s m =
    let n = (page - 1) * size in
    let sum : n + size ≡ page * size = pages page size p in
    let long : length (drop n xs) ≡ length xs - n = length-drop n xs in
    let longer : size < length (drop n xs) = m.0 refl in
    let count : length shown ≡ size = ap length s ∙ length-take-le size (drop n xs) (omega arith) in
    let last = get_within shown (length shown - 1) (omega arith) in
    let at : slice_get xs (n + (length shown - 1)) ≡ Some last.0 =
    sym (get_dropped n xs (length shown - 1)) ∙ sym (get_taken size (drop n xs) (length shown - 1) (omega arith)) ∙ ap (λ ys. slice_get ys (length shown - 1)) (sym s) ∙ last.1 in
    let end : suc (n + (length shown - 1)) ≡ page * size = omega arith in
    let P : Option Shown → Type 0 = λ o. EndsAt (last_place o) (page * size) xs in
    subst P (sym last.1) (upto_taken xs (n + (length shown - 1)) last.0 up at ∙ ap (λ i. take i xs) end, omega arith)
