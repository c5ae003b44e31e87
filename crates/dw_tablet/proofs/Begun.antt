-- Keys that begin with some bytes.
use Rattle.std.proofs.Common.{◌≡◌, ℕ, ◌<◌, ◌≤◌, List, [], ◌∷◌, ◌++◌, refl, sym, ap, subst, ◌∙◌, Bool, true, false, not, cond, ◌&&◌, length, take, get_or, arith, zero, suc}
use Rattle.std.specs.Prelude.{nat_eq, Some, None}
use Rattle.std.specs.List.{AllByRecursion, starts_with}
use Rattle.std.specs.List.Sorted.{IsPartitionedBy, IsPartitionPoint}
use Rattle.std.specs.Ordering.{nat_cmp, is_lt, ordering_then, ordering_reverse}
use Rattle.std.specs.Cmp.{tied_itself, nat_cmp_total, ranks}
use Rattle.std.specs.Cmp.Lexicographic.{slice_cmp}
use Rattle.std.specs.Ordering.{MatchOrdering}
use Rattle.std.specs.declared.cmp.Ordering.{Ordering}
use Rattle.std.specs.declared.cmp.Ordering.TheVariants.{Less, Equal, Greater}
use Rattle.std.proofs.lemmas.Bool.Decides.{nat_tests}
use Rattle.dw_derive.specs.Entries.{doc_text}
use Rattle.dw_derive.proofs.Reading.{begins_with, begins as begins_so}
use Rattle.dw_tablet.specs.Places.{below, Ascends, AreFrom, IsApart, covers, gap, onward}
use Rattle.dw_tablet.specs.Held.{Held, Agrees}
use Rattle.dw_tablet.specs.Fronts.{begins, with_front, front_gap, values_front, ValuesStandInFronts}
use Rattle.dw_tablet.specs.Positions.{field_start}
use Rattle.dw_key.specs.KeyCode.{escaped}
use Rattle.dw_key.proofs.Escapes.{escaped-append}
use Rattle.dw_tablet.proofs.Joined.{joined_on}
use Rattle.dw_tablet.proofs.IndexKeys.{index_key, value_key}
use Rattle.dw_tablet.proofs.Order.{clash, back}
use Rattle.dw_tablet.proofs.Gap.{gap_is, filter_twice}
use Rattle.dw_tablet.proofs.Searching.{cut}
use Rattle.dw_tablet.proofs.EqualPlaces.{not_below_front}

itself : (n : ℕ) → nat_eq n n ≡ true
itself n = grind (arith, nat_tests)

turned : (a b : ℕ) → nat_cmp a b ≡ Greater → nat_cmp b a ≡ Less
turned a b h = nat_cmp_total.antisymm b a ∙ ap ordering_reverse h

level : (a b : ℕ) → nat_cmp a b ≡ Equal → a ≡ b
level a b h = subst (λ o. MatchOrdering o (a < b) (a ≡ b) (b < a)) h (ranks a b)

-- a place that is not before the bytes and does not begin with them is behind all that does
pub behind_all : (front q more : List ℕ) → below q front ≡ false → begins front q ≡ false → below (front ++ more) q ≡ true
behind_all [] q more h b = cc
behind_all (p ∷ ps) [] more h b = cc
behind_all (p ∷ ps) (c ∷ cs) more h b = at (behind_all ps cs more) (nat_cmp c p) refl h
  where
    at : (below cs ps ≡ false → begins ps cs ≡ false → below (ps ++ more) cs ≡ true) → (o : Ordering) → nat_cmp c p ≡ o → is_lt (ordering_then o (slice_cmp nat_cmp cs ps)) ≡ false
        → is_lt (ordering_then (nat_cmp p c) (slice_cmp nat_cmp (ps ++ more) cs)) ≡ true
    at later Less e g = cc
    at later Equal e g =
        let same : c ≡ p = level c p e in
        let rest : begins ps cs ≡ false = sym (ap (λ t. t && starts_with nat_eq cs ps) (ap (λ x. nat_eq p x) same ∙ itself p)) ∙ b in
        ap (λ o. is_lt (ordering_then o (slice_cmp nat_cmp (ps ++ more) cs))) (ap (nat_cmp p) same ∙ tied_itself nat_cmp_total p) ∙ later g rest
    at later Greater e g = ap (λ o. is_lt (ordering_then o (slice_cmp nat_cmp (ps ++ more) cs))) (turned c p e)

-- what begins with the bytes is not before them
pub not_before : (front k : List ℕ) → begins front k ≡ true → below k front ≡ false
not_before front k h = let w = begins_with k front h in ap (λ x. below x front) w.1 ∙ not_below_front front w.0

-- nor at or after a place behind all of them
pub before_behind : (front q k : List ℕ) → below q front ≡ false → begins front q ≡ false → begins front k ≡ true → below k q ≡ true
before_behind front q k h b s = let w = begins_with k front s in ap (λ x. below x q) w.1 ∙ behind_all front q w.0 h b

-- ---- among ascending keys

-- once a key does not begin with the bytes, none behind it does
at_index : (P : List ℕ → Type 0) (xs : List (List ℕ)) → AllByRecursion P xs → (i : ℕ) (d : List ℕ) → i < length xs → P (get_or xs i d)
at_index P [] h i d k = absurd (omega (arith, k))
at_index P (x ∷ xs) h zero d k = h.0
at_index P (x ∷ xs) h (suc i) d k = at_index P xs h.1 i d (omega (arith, k))

later_out : (front k j : List ℕ) → below k front ≡ false → below k j ≡ true → begins front j ≡ true → begins front k ≡ true
later_out front k j h l s = at (begins front k) refl
  where
    at : (b : Bool) → begins front k ≡ b → b ≡ true
    at true e = refl
    at false e = absurd (clash l (back j k (before_behind front k j h e s)))

parted_at : (front : List ℕ) (keys : List (List ℕ)) → Ascends keys → AreFrom front keys → (i j : ℕ) (d : List ℕ) → i ≤ j → j < length keys → begins front (get_or keys j d) ≡ true → begins front (get_or keys i d) ≡ true
parted_at front [] up from i j d h k e = absurd (omega (arith, k))
parted_at front (k ∷ ks) up from zero zero d h l e = e
parted_at front (k ∷ ks) up from zero (suc j) d h l e = later_out front k (get_or ks j d) from.0 (at_index (λ x. below k x ≡ true) ks up.0 j d (omega (arith, l))) e
parted_at front (k ∷ ks) up from (suc i) zero d h l e = absurd (omega (arith, h))
parted_at front (k ∷ ks) up from (suc i) (suc j) d h l e = parted_at front ks up.1 from.1 i j d (omega (arith, h)) (omega (arith, l)) e

pub begun_parted : (front : List ℕ) (keys : List (List ℕ)) → Ascends keys → AreFrom front keys → IsPartitionedBy (begins front) keys
begun_parted front keys up from = λ i j d h l e. parted_at front keys up from i j d h l e

pub begun_cut : (front : List ℕ) (keys : List (List ℕ)) (i : ℕ) → i ≤ length keys → IsPartitionPoint (λ k. begins front k ≡ true) (λ k. begins front k ≡ false) keys i → take i keys ≡ with_front front keys
begun_cut front keys i h p = (cut (begins front) keys i h (λ j d l. p.0 j d (omega arith) l) (λ j d l m. p.1 j d l m)).front

pub from_onward : (a : List ℕ) (xs : List (List ℕ)) → AreFrom a (onward a xs)
from_onward a [] = tt
from_onward a (x ∷ xs) = at (below x a) refl (from_onward a xs)
  where
    at : (b : Bool) → below x a ≡ b → AreFrom a (onward a xs) → AreFrom a (cond (not b) (x ∷ onward a xs) (onward a xs))
    at true e h = h
    at false e h = (e, h)

-- those from the bytes on that begin with them are all that do
pub begun_onward : (front : List ℕ) (xs : List (List ℕ)) → with_front front (onward front xs) ≡ with_front front xs
begun_onward front xs = filter_twice (λ k. not (below k front)) (begins front) xs (λ x h. ap not (not_before front x h))

-- ---- where all places that begin so are covered

module _ (t : Held) (front : List ℕ) (apart : IsApart t.spans) where
  begun_covered : begins front (gap t.spans front) ≡ false → (k : List ℕ) → begins front k ≡ true → covers t.spans k ≡ true
  begun_covered out k h =
      let g = gap_is t.spans front apart in
      g.covered k (not_before front k h) (before_behind front (gap t.spans front) k g.after out h)

  pub begun_same : begins front (gap t.spans front) ≡ false → (content : List (List ℕ)) → Agrees t content → with_front front t.keys ≡ with_front front content
  begun_same out content agrees =
      ap (with_front front) (sym agrees.same) ∙ filter_twice (λ k. covers t.spans k) (begins front) content (λ k h. begun_covered out k h)

pub none_out : (t : Held) (front : List ℕ) → front_gap t front ≡ None → begins front (gap t.spans front) ≡ false
none_out t front h = at (begins front (gap t.spans front)) h
  where
    at : (b : Bool) → cond b (Some (gap t.spans front)) None ≡ None → b ≡ false
    at true g = cc
    at false g = refl

-- ---- values that begin with a text

pub stand_in_fronts : ValuesStandInFronts
stand_in_fronts shard field text names snapshot key v low high said begun =
    let k = value_key shard field key v (index_key field names snapshot key v said) low high in
    let w = begins_with v.0 text begun in
    let more = escaped w.0 ++ (0 ∷ 255 ∷ (escaped (doc_text v.1) ++ (0 ∷ 0 ∷ k.rest))) in
    let is : key ≡ values_front shard field text ++ more =
    k.is
    ∙ ap (λ l. field_start shard field ++ l) (ap (λ x. escaped x ++ (0 ∷ 255 ∷ (escaped (doc_text v.1) ++ (0 ∷ 0 ∷ k.rest)))) w.1
    ∙ ap (λ x. x ++ (0 ∷ 255 ∷ (escaped (doc_text v.1) ++ (0 ∷ 0 ∷ k.rest)))) (escaped-append text w.0)
    ∙ joined_on (escaped text) (escaped w.0) (0 ∷ 255 ∷ (escaped (doc_text v.1) ++ (0 ∷ 0 ∷ k.rest))))
    ∙ sym (joined_on (field_start shard field) (escaped text) more) in
    ap (begins (values_front shard field text)) is ∙ begins_so (values_front shard field text) more
