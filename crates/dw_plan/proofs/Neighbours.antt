-- On ranges of days that are cut in two.
use Rattle.std.proofs.Common.{◌≡◌, ◌⊎◌, inl, inr, ℕ, zero, suc, Bool, true, false, cond, not, ◌&&◌, List, [], ◌∷◌, ◌++◌, take, refl, sym, ap, ◌∙◌}
use Rattle.std.specs.List.{filter, AllByRecursion}
use Rattle.std.specs.List.Sorted.{IsStrictlySortedBy}
use Rattle.std.specs.Cmp.Lexicographic.{slice_cmp, nat_list_cmp_total}
use Rattle.std.specs.Ordering.{nat_cmp, is_le, ordering_then, ordering_reverse}
use Rattle.std.specs.declared.cmp.Ordering.{Ordering}
use Rattle.std.specs.declared.cmp.Ordering.TheVariants.{Less, Equal, Greater}
use Rattle.std.proofs.lemmas.Map.Lookups.{exact_bytes}
use Rattle.dw_base.proofs.Members.{StandsIn}
use Rattle.dw_event.specs.Wanted.{is_in_range}
use Rattle.dw_event.specs.declared.days.Days.{Days}
use Rattle.dw_event.specs.declared.types.Types.{Types}
use Rattle.dw_outside.specs.Tables.{Tables}
use Rattle.dw_eval.specs.declared.nquery.NQuery.{NQuery}
use Rattle.dw_plan.specs.Hit.{is_shard_name, is_no, truth_at, is_hit, named_shards, hit_shards}
use Rattle.dw_plan.specs.Joins.{has}
use Rattle.dw_plan.specs.PlanLaws.{AreNeighbours, NeighboursJoin}
use Rattle.dw_plan.proofs.Named.{stands_has}
use Rattle.dw_plan.proofs.Hitting.{named_ascend}

abbrev cmp : List ℕ → List ℕ → Ordering
cmp = slice_cmp nat_cmp

-- ---- orders

by_le : {P : Type 0} (a b : List ℕ) → is_le (cmp a b) ≡ true → (cmp a b ≡ Less → P) → (a ≡ b → P) → P
by_le {P = P} a b h less equal = at (cmp a b) refl h
  where
    at : (r : Ordering) → cmp a b ≡ r → is_le r ≡ true → P
    at Less e k = less e
    at Equal e k = equal (exact_bytes a b e)
    at Greater e k = cc

pub le_trans : (a b c : List ℕ) → is_le (cmp a b) ≡ true → is_le (cmp b c) ≡ true → is_le (cmp a c) ≡ true
le_trans a b c h k =
    by_le a b h
    (λ l. by_le b c k (λ m. ap is_le (nat_list_cmp_total.trans a b c l m)) (λ e. ap (λ z. is_le (cmp a z)) (sym e) ∙ h))
    (λ e. ap (λ z. is_le (cmp z c)) e ∙ k)

less_le : (a b c : List ℕ) → cmp a b ≡ Less → is_le (cmp b c) ≡ true → cmp a c ≡ Less
less_le a b c l k = by_le b c k (λ m. nat_list_cmp_total.trans a b c l m) (λ e. ap (cmp a) (sym e) ∙ l)

le_less : (a b c : List ℕ) → is_le (cmp a b) ≡ true → cmp b c ≡ Less → cmp a c ≡ Less
le_less a b c h l = by_le a b h (λ m. nat_list_cmp_total.trans a b c m l) (λ e. ap (λ z. cmp z c) e ∙ l)

not_le : (a b : List ℕ) → cmp a b ≡ Less → is_le (cmp b a) ≡ false
not_le a b l = ap is_le (nat_list_cmp_total.antisymm b a ∙ ap ordering_reverse l)

-- fronts rise as the texts do
pub fronts_rise : (n : ℕ) (a b : List ℕ) → cmp a b ≡ Less → is_le (cmp (take n a) (take n b)) ≡ true
fronts_rise zero a b l = refl
fronts_rise (suc n) [] [] l = refl
fronts_rise (suc n) [] (y ∷ ys) l = refl
fronts_rise (suc n) (x ∷ xs) [] l = cc
fronts_rise (suc n) (x ∷ xs) (y ∷ ys) l = at (nat_cmp x y) l (fronts_rise n xs ys)
  where
    at : (r : Ordering) → ordering_then r (cmp xs ys) ≡ Less → (cmp xs ys ≡ Less → is_le (cmp (take n xs) (take n ys)) ≡ true) → is_le (ordering_then r (cmp (take n xs) (take n ys))) ≡ true
    at Less e f = refl
    at Equal e f = f e
    at Greater e f = cc

-- ---- filters

module _ {A : Type 0} (one two whole : A → Bool) where
  abbrev Early : A → Type 0
  Early x = (two x ≡ false) × (whole x ≡ one x)

  abbrev Late : A → Type 0
  Late x = (one x ≡ false) × (whole x ≡ two x)

  -- up to a place the first test decides, and from it on the second
  abbrev pub Parted : List A → Type 0
  Parted [] = Unit {0}
  Parted (x ∷ xs) = (Early x × Parted xs) ⊎ AllByRecursion Late (x ∷ xs)

  late_none : (xs : List A) → AllByRecursion Late xs → filter one xs ≡ []
  late_none [] h = refl
  late_none (x ∷ xs) h = ap (λ b. cond b (x ∷ filter one xs) (filter one xs)) h.0.0 ∙ late_none xs h.1

  late_all : (xs : List A) → AllByRecursion Late xs → filter two xs ≡ filter whole xs
  late_all [] h = refl
  late_all (x ∷ xs) h =
      ap (λ b. cond b (x ∷ filter two xs) (filter two xs)) (sym h.0.1)
      ∙ ap (λ ys. cond (whole x) (x ∷ ys) ys) (late_all xs h.1)

  pub parted : (xs : List A) → Parted xs → filter one xs ++ filter two xs ≡ filter whole xs
  parted [] h = refl
  parted (x ∷ xs) (inr h) = ap (λ ys. ys ++ filter two (x ∷ xs)) (late_none (x ∷ xs) h) ∙ late_all (x ∷ xs) h
  parted (x ∷ xs) (inl h) =
      ap (λ b. filter one (x ∷ xs) ++ cond b (x ∷ filter two xs) (filter two xs)) h.0.0
      ∙ at (one x) (parted xs h.1)
      ∙ ap (λ b. cond b (x ∷ filter whole xs) (filter whole xs)) (sym h.0.1)
    where
      at : (b : Bool) → filter one xs ++ filter two xs ≡ filter whole xs → cond b (x ∷ filter one xs) (filter one xs) ++ filter two xs ≡ cond b (x ∷ filter whole xs) (filter whole xs)
      at true e = ap (λ ys. x ∷ ys) e
      at false e = e

-- ---- shards

module _ (q : NQuery) (names : List (List ℕ)) (types : Types) (t : Tables) (first end next last : List ℕ) (cut : AreNeighbours t names first end next last) where
  abbrev days_of : List ℕ → List ℕ → Days
  days_of a b = record { first = a; last = b }

  abbrev one : List ℕ → Bool
  one = is_hit q names (days_of first end) types t

  abbrev two : List ℕ → Bool
  two = is_hit q names (days_of next last) types t

  abbrev whole : List ℕ → Bool
  whole = is_hit q names (days_of first last) types t

  abbrev looked : List ℕ → Bool
  looked s = not (is_no (truth_at t names types s q true))

  and_false : (a : Bool) → (a && false) ≡ false
  and_false true = refl
  and_false false = refl

  out : (n r v : Bool) → r ≡ false → ((n && r) && v) ≡ false
  out n r v e = ap (λ b. (n && b) && v) e ∙ ap (λ b. b && v) (and_false n)

  like : (n r u v : Bool) → r ≡ u → ((n && r) && v) ≡ ((n && u) && v)
  like n r u v e = ap (λ b. (n && b) && v) e

  nameless : (s : List ℕ) → is_shard_name s ≡ false → Early one two whole s × Late one two whole s
  nameless s e =
      let none = λ (d : Days). ap (λ b. (b && is_in_range d s) && looked s) e in
      ((none (days_of next last), none (days_of first last) ∙ sym (none (days_of first end))), (none (days_of first end), none (days_of first last) ∙ sym (none (days_of next last))))

  early : (s : List ℕ) → is_le (cmp (take 8 s) end) ≡ true → Early one two whole s
  early s h =
      let past : is_le (cmp next (take 8 s)) ≡ false = not_le (take 8 s) next (le_less (take 8 s) end next h cut.below) in
      let within : is_le (cmp (take 8 s) last) ≡ true = le_trans (take 8 s) end last h cut.ends in (
        out (is_shard_name s) (is_in_range (days_of next last) s) (looked s) (ap (λ b. b && is_le (cmp (take 8 s) last)) past),
        like (is_shard_name s) (is_in_range (days_of first last) s) (is_in_range (days_of first end) s) (looked s) (ap (λ b. is_le (cmp first (take 8 s)) && b) (within ∙ sym h)),
      )

  late : (s : List ℕ) → is_le (cmp next (take 8 s)) ≡ true → Late one two whole s
  late s h =
      let past : is_le (cmp (take 8 s) end) ≡ false = not_le end (take 8 s) (less_le end next (take 8 s) cut.below h) in
      let within : is_le (cmp first (take 8 s)) ≡ true = le_trans first next (take 8 s) cut.starts h in (
        out (is_shard_name s) (is_in_range (days_of first end) s) (looked s) (ap (λ b. is_le (cmp first (take 8 s)) && b) past ∙ and_false (is_le (cmp first (take 8 s)))),
        like (is_shard_name s) (is_in_range (days_of first last) s) (is_in_range (days_of next last) s) (looked s) (ap (λ b. b && is_le (cmp (take 8 s) last)) (within ∙ sym h)),
      )

  from_late : (s : List ℕ) (xs : List (List ℕ)) → is_le (cmp next (take 8 s)) ≡ true → AllByRecursion (λ x. cmp s x ≡ Less) xs → AllByRecursion (Late one two whole) xs
  from_late s [] h up = tt
  from_late s (x ∷ xs) h up = (late x (le_trans next (take 8 s) (take 8 x) h (fronts_rise 8 s x up.0)), from_late s xs h up.1)

  parts : (xs : List (List ℕ)) → IsStrictlySortedBy cmp xs → ((s : List ℕ) → StandsIn xs s → has (named_shards names t) s ≡ true) → Parted one two whole xs
  unfolding IsStrictlySortedBy
  parts [] up named = tt
  parts (x ∷ xs) up named = at (is_shard_name x) refl (parts xs up.1 (λ s h. named s (inr h)))
    where
      by : Parted one two whole xs → (is_le (cmp (take 8 x) end) ≡ true) ⊎ (is_le (cmp next (take 8 x)) ≡ true) → Parted one two whole (x ∷ xs)
      by more (inl h) = inl (early x h, more)
      by more (inr h) = inr (late x h, from_late x xs h up.0)

      at : (b : Bool) → is_shard_name x ≡ b → Parted one two whole xs → Parted one two whole (x ∷ xs)
      at true e more = by more (cut.none x (named x (inl refl)) e)
      at false e more = inl ((nameless x e).0, more)

  join : hit_shards q names (days_of first end) types t ++ hit_shards q names (days_of next last) types t ≡ hit_shards q names (days_of first last) types t
  unfolding hit_shards
  join = parted one two whole (named_shards names t) (parts (named_shards names t) (named_ascend t names types) (λ s h. stands_has (named_shards names t) s h))

pub neighbours_join : NeighboursJoin
neighbours_join q names types t first end next last cut = join q names types t first end next last cut
