-- The order of places.
use Rattle.std.proofs.Common.{◌≡◌, ℕ, List, refl, sym, ap, ◌∙◌, Bool, true, false, ◌⊎◌, inl, inr}
use Rattle.std.specs.Ordering.{nat_cmp, is_lt, ordering_reverse}
use Rattle.std.specs.Cmp.{tied_itself}
use Rattle.std.specs.Cmp.Lexicographic.{slice_cmp, nat_list_cmp_total}
use Rattle.std.specs.declared.cmp.Ordering.{Ordering}
use Rattle.std.specs.declared.cmp.Ordering.TheVariants.{Less, Equal, Greater}
use Rattle.dw_tablet.specs.Places.{below}

pub less : (o : Ordering) → is_lt o ≡ true → o ≡ Less
less Less h = refl
less Equal h = cc
less Greater h = cc

pub not_itself : (a : List ℕ) → below a a ≡ false
not_itself a = ap is_lt (tied_itself nat_list_cmp_total a)

pub past : (a b c : List ℕ) → below a b ≡ true → below b c ≡ true → below a c ≡ true
past a b c h k = ap is_lt (nat_list_cmp_total.trans a b c (less (slice_cmp nat_cmp a b) h) (less (slice_cmp nat_cmp b c) k))

-- each place is after the lower one or before the higher one
pub either : (a b c : List ℕ) → below a c ≡ true → (below a b ≡ true) ⊎ (below b c ≡ true)
either a b c h = by (slice_cmp nat_cmp a b) refl
  where
    by : (o : Ordering) → slice_cmp nat_cmp a b ≡ o → (below a b ≡ true) ⊎ (below b c ≡ true)
    by Less e = inl (ap is_lt e)
    by Equal e = inr (ap is_lt (sym (nat_list_cmp_total.congr a b c e)) ∙ h)
    by Greater e = inr (ap is_lt (nat_list_cmp_total.trans b a c (nat_list_cmp_total.antisymm b a ∙ ap ordering_reverse e) (less (slice_cmp nat_cmp a c) h)))

at : (b : Bool) → (b ≡ true → ⊥) → b ≡ false
at true f = absurd (f refl)
at false f = refl

pub clash : {b : Bool} → b ≡ true → b ≡ false → ⊥
clash h k = cc

-- a ≤ b < c
pub upto_below : (a b c : List ℕ) → below b a ≡ false → below b c ≡ true → below a c ≡ true
upto_below a b c h k = by (either b a c k)
  where
    by : (below b a ≡ true) ⊎ (below a c ≡ true) → below a c ≡ true
    by (inl e) = absurd (clash e h)
    by (inr e) = e

-- a < b ≤ c
pub below_upto : (a b c : List ℕ) → below a b ≡ true → below c b ≡ false → below a c ≡ true
below_upto a b c h k = by (either a c b h)
  where
    by : (below a c ≡ true) ⊎ (below c b ≡ true) → below a c ≡ true
    by (inl e) = e
    by (inr e) = absurd (clash e k)

-- a ≤ b ≤ c
pub upto : (a b c : List ℕ) → below b a ≡ false → below c b ≡ false → below c a ≡ false
upto a b c h k = at (below c a) (λ e. by (either c b a e))
  where
    by : (below c b ≡ true) ⊎ (below b a ≡ true) → ⊥
    by (inl e) = clash e k
    by (inr e) = clash e h

pub back : (a b : List ℕ) → below a b ≡ true → below b a ≡ false
back a b h = at (below b a) (λ e. clash (past a b a h e) (not_itself a))
