-- Document keys are in a total order, and a bound is met by all keys from some place on.
use Rattle.std.proofs.Common.{◌≡◌, true, false, refl, sym, ap, ◌∙◌, subst}
use Rattle.std.specs.declared.cmp.Ordering.{Ordering}
use Rattle.std.specs.declared.cmp.Ordering.TheVariants.{Less, Equal, Greater}
use Rattle.std.specs.Ordering.{nat_cmp, ordering_then, ordering_reverse, is_lt, is_le}
use Rattle.std.specs.Cmp.{IsTotalOrder}
use Rattle.std.specs.Cmp.Lexicographic.{slice_cmp}
use Rattle.std.proofs.lemmas.Cmp.{nat_list_cmp_total, on_total, then_total, tied_itself}
use Rattle.std.proofs.lemmas.Map.Lookups.{exact_bytes}
use Rattle.dw_key.specs.DocKeys.{doc_key_cmp}
use Rattle.dw_key.specs.declared.doc_key.DocKey.{DocKey}
use Rattle.dw_nest.specs.declared.bound.Bound.{Bound}
use Rattle.dw_nest.specs.declared.bound.Bound.TheVariants.{Start, From, After}
use Rattle.dw_nest.specs.Bounds.{is_before, meets}

pub total : IsTotalOrder doc_key_cmp
total = then_total (on_total (λ (k : DocKey). k.dtype) nat_list_cmp_total) (on_total (λ (k : DocKey). k.uid) nat_list_cmp_total)

-- keys that tie are one key
pub exact : (a b : DocKey) → doc_key_cmp a b ≡ Equal → a ≡ b
exact a b h = go (slice_cmp nat_cmp a.dtype b.dtype) refl h
  where
    go : (o : Ordering) → slice_cmp nat_cmp a.dtype b.dtype ≡ o → ordering_then o (slice_cmp nat_cmp a.uid b.uid) ≡ Equal → a ≡ b
    go Less e r = absurd (cc)
    go Greater e r = absurd (cc)
    go Equal e r = let p : a.dtype ≡ b.dtype = exact_bytes a.dtype b.dtype e in let q : a.uid ≡ b.uid = exact_bytes a.uid b.uid r in λ i. record { dtype = p i; uid = q i }

-- an order of two keys, and what it says
pub data Placed (a b : DocKey) : Type 0 where
  earlier : is_before a b ≡ true → Placed a b
  same : a ≡ b → Placed a b
  later : is_before b a ≡ true → Placed a b

pub placed : (a b : DocKey) → Placed a b
placed a b = go (doc_key_cmp a b) refl
  where
    go : (o : Ordering) → doc_key_cmp a b ≡ o → Placed a b
    go Less e = earlier (ap is_lt e)
    go Equal e = same (exact a b e)
    go Greater e = later (ap is_lt (total.antisymm b a ∙ ap ordering_reverse e))

less_of : (o : Ordering) → is_lt o ≡ true → o ≡ Less
less_of Less h = refl
less_of Equal h = absurd (cc)
less_of Greater h = absurd (cc)

pub less : (a b : DocKey) → is_before a b ≡ true → doc_key_cmp a b ≡ Less
less a b h = less_of (doc_key_cmp a b) h

pub before_trans : (a b c : DocKey) → is_before a b ≡ true → is_before b c ≡ true → is_before a c ≡ true
before_trans a b c h k = ap is_lt (total.trans a b c (less a b h) (less b c k))

pub not_itself : (a : DocKey) → is_before a a ≡ true → ⊥
not_itself a h = let e = tied_itself total a in let l = less a a h in cc

pub not_both : (a b : DocKey) → is_before a b ≡ true → is_before b a ≡ true → ⊥
not_both a b h k = not_itself a (before_trans a b a h k)

-- a key meets the bound from itself
pub from_itself : (a : DocKey) → meets (From a) a ≡ true
from_itself a = ap is_le (tied_itself total a)

pub from_later : (a b : DocKey) → is_before a b ≡ true → meets (From a) b ≡ true
from_later a b h = ap is_le (less a b h)

pub not_from : (a b : DocKey) → is_before b a ≡ true → meets (From a) b ≡ false
not_from a b h = ap is_le (total.antisymm a b ∙ ap ordering_reverse (less b a h))

pub not_after_itself : (a : DocKey) → meets (After a) a ≡ false
not_after_itself a = ap is_lt (tied_itself total a)

pub not_after : (a b : DocKey) → is_before b a ≡ true → meets (After a) b ≡ false
not_after a b h = ap is_lt (total.antisymm a b ∙ ap ordering_reverse (less b a h))

-- what does not meet a bound is before it
pub missed_from : (a b : DocKey) → meets (From a) b ≡ false → is_before b a ≡ true
missed_from a b h = elim (placed a b) [ earlier k ↦ absurd (let e = from_later a b k in cc) | same e ↦ absurd (let k = from_itself a in cc) | later k ↦ k ]

pub met_from : (a b : DocKey) → meets (From a) b ≡ true → is_before b a ≡ true → ⊥
met_from a b h k = let e = not_from a b k in cc

-- a later key meets each bound that an earlier one meets
pub upward : (bound : Bound) (a b : DocKey) → meets bound a ≡ true → is_before a b ≡ true → meets bound b ≡ true
upward Start a b h k = refl
upward (From x) a b h k = elim (placed x a) [ earlier e ↦ from_later x b (before_trans x a b e k) | same e ↦ from_later x b (subst (λ y. is_before y b ≡ true) (sym e) k) | later e ↦ absurd (met_from x a h e) ]
upward (After x) a b h k = before_trans x a b h k
