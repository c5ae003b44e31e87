-- Where the cells of one value stand, by their documents.
use Rattle.std.proofs.Common.{◌≡◌, ℕ, List, [], ◌∷◌, ◌++◌, refl, sym, ap, ◌∙◌, true, false, not}
use Rattle.std.specs.Ordering.{nat_cmp, is_lt, is_le, ordering_then, ordering_reverse}
use Rattle.std.specs.declared.cmp.Ordering.{Ordering}
use Rattle.std.specs.declared.cmp.Ordering.TheVariants.{Less, Equal, Greater}
use Rattle.std.specs.Cmp.Lexicographic.{slice_cmp}
use Rattle.dw_key.specs.declared.doc_key.DocKey.{DocKey}
use Rattle.dw_key.specs.DocKeys.{doc_key_cmp}
use Rattle.dw_key.specs.KeyCode.{escaped}
use Rattle.dw_key.proofs.DocKeyLaws.{doc_keys_total}
use Rattle.dw_key.proofs.Escapes.{slice_cmp-parts}
use Rattle.dw_nest.specs.declared.bound.Bound.{Bound}
use Rattle.dw_nest.specs.declared.bound.Bound.TheVariants.{Start, From, After}
use Rattle.dw_nest.specs.Bounds.{meets, is_before}
use Rattle.dw_derive.specs.Entries.{doc_text}
use Rattle.dw_tablet.specs.Places.{below}
use Rattle.dw_tablet.specs.Positions.{value_start, value_end, entry_place, bound_place}
use Rattle.dw_tablet.specs.Values.{Value}
use Rattle.dw_tablet.specs.EqualWalks.{BoundFits}
use Rattle.dw_tablet.proofs.Shards.{same_front}
use Rattle.dw_tablet.proofs.Ranges.{in_value}
use Rattle.dw_tablet.proofs.DocOrder.{docs_order}
use Rattle.dw_tablet.proofs.IndexKeys.{ValueKey, value_then, ended_order}

-- a key as the first place of its value and what is behind it
behind : (shard field key : List ℕ) (v : Value) (k : ValueKey shard field key v) → key ≡ value_start shard field v.0 ++ (escaped (doc_text v.1) ++ (0 ∷ 0 ∷ k.rest))
behind shard field key v k = k.is ∙ sym (value_then shard field v.0 (escaped (doc_text v.1) ++ (0 ∷ 0 ∷ k.rest)))

-- it stands before the end of its value
pub before_end : (shard field key : List ℕ) (v : Value) → ValueKey shard field key v → below key (value_end shard field v.0) ≡ true
before_end shard field key v k = ap (λ p. below p (value_end shard field v.0)) (behind shard field key v k) ∙ in_value shard field v.0 (escaped (doc_text v.1) ++ (0 ∷ 0 ∷ k.rest))

empty_end : (xs : List ℕ) → xs ++ [] ≡ xs
empty_end [] = refl
empty_end (x ∷ xs) = ap (λ l. x ∷ l) (empty_end xs)

-- nothing is below a list of nothing
no_less : (xs : List ℕ) → is_lt (slice_cmp nat_cmp xs []) ≡ false
no_less [] = refl
no_less (x ∷ xs) = refl

pub not_below_front : (front more : List ℕ) → below (front ++ more) front ≡ false
not_below_front front more =
    ap (λ p. below (front ++ more) p) (sym (empty_end front)) ∙ ap is_lt (same_front front more []) ∙ no_less more

then_less : (o : Ordering) (rest : List ℕ) → is_lt (ordering_then o (slice_cmp nat_cmp rest [])) ≡ is_lt o
then_less Less rest = refl
then_less Equal rest = no_less rest
then_less Greater rest = refl

less_turned : (o : Ordering) → is_lt o ≡ not (is_le (ordering_reverse o))
less_turned Less = refl
less_turned Equal = refl
less_turned Greater = refl

then_end : (o : Ordering) → is_lt (ordering_then o Less) ≡ not (is_lt (ordering_reverse o))
then_end Less = refl
then_end Equal = refl
then_end Greater = refl

-- it is before where a bound begins exactly where its document does not meet the bound
pub by_bound : (shard field key : List ℕ) (v : Value) (bound : Bound) → ValueKey shard field key v → BoundFits bound → below key (bound_place shard field v.0 bound) ≡ not (meets bound v.1)
by_bound shard field key v Start k fits =
    ap (λ p. below p (value_start shard field v.0)) (behind shard field key v k) ∙ not_below_front (value_start shard field v.0) (escaped (doc_text v.1) ++ (0 ∷ 0 ∷ k.rest))
by_bound shard field key v (From doc) k fits =
    let front = value_start shard field v.0 in
    ap (λ p. below p (entry_place shard field v.0 (doc_text doc) 0)) (behind shard field key v k)
    ∙ ap is_lt (same_front front (escaped (doc_text v.1) ++ (0 ∷ 0 ∷ k.rest)) (escaped (doc_text doc) ++ 0 ∷ 0 ∷ []) ∙ slice_cmp-parts (doc_text v.1) (doc_text doc) k.rest [])
    ∙ then_less (slice_cmp nat_cmp (doc_text v.1) (doc_text doc)) k.rest
    ∙ ap is_lt (docs_order v.1 doc k.doc fits)
    ∙ less_turned (doc_key_cmp v.1 doc)
    ∙ ap (λ o. not (is_le o)) (sym (doc_keys_total.antisymm doc v.1))
by_bound shard field key v (After doc) k fits =
    let front = value_start shard field v.0 in
    ap (λ p. below p (entry_place shard field v.0 (doc_text doc) 1)) (behind shard field key v k)
    ∙ ap is_lt (same_front front (escaped (doc_text v.1) ++ (0 ∷ 0 ∷ k.rest)) (escaped (doc_text doc) ++ 0 ∷ 1 ∷ []) ∙ ended_order (doc_text v.1) (doc_text doc) k.rest [])
    ∙ then_end (slice_cmp nat_cmp (doc_text v.1) (doc_text doc))
    ∙ ap (λ o. not (is_lt (ordering_reverse o))) (docs_order v.1 doc k.doc fits)
    ∙ ap (λ o. not (is_lt o)) (sym (doc_keys_total.antisymm doc v.1))

not_after : (o p : Ordering) → is_lt (ordering_then o p) ≡ true → is_lt (ordering_reverse o) ≡ false
not_after Less p h = refl
not_after Equal p h = refl
not_after Greater p h = cc

-- of two keys of one value the later one has no earlier document
pub in_order : (shard field value key later : List ℕ) (d e : DocKey) → ValueKey shard field key (value, d) → ValueKey shard field later (value, e) → below key later ≡ true → is_before e d ≡ false
in_order shard field value key later d e k l h =
    let front = value_start shard field value in
    let there : is_lt (ordering_then (slice_cmp nat_cmp (doc_text d) (doc_text e)) (slice_cmp nat_cmp k.rest l.rest)) ≡ true =
    ap is_lt (sym (same_front front (escaped (doc_text d) ++ (0 ∷ 0 ∷ k.rest)) (escaped (doc_text e) ++ (0 ∷ 0 ∷ l.rest)) ∙ slice_cmp-parts (doc_text d) (doc_text e) k.rest l.rest))
    ∙ (λ i. below (sym (behind shard field key (value, d) k) i) (sym (behind shard field later (value, e) l) i))
    ∙ h in
    ap is_lt (doc_keys_total.antisymm e d ∙ ap ordering_reverse (sym (docs_order d e k.doc l.doc)))
    ∙ not_after (slice_cmp nat_cmp (doc_text d) (doc_text e)) (slice_cmp nat_cmp k.rest l.rest) there
