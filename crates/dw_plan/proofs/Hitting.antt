-- The shards that are found are the hit shards.
use Rattle.std.proofs.Common.{◌≡◌, ℕ, Bool, true, false, cond, ◌&&◌, ◌||◌, ◌==◌, List, Option, Some, None, refl, sym, ◌∙◌}
use Rattle.std.specs.Option.{option_map, option_and_then, option_map_or}
use Rattle.std.specs.List.{filter, filter_map}
use Rattle.std.specs.List.Sorted.{IsStrictlySortedBy}
use Rattle.std.specs.Ordering.{nat_cmp}
use Rattle.std.specs.Cmp.Lexicographic.{slice_cmp, nat_list_cmp_total}
use Rattle.std.specs.FinMap.{keys}
use Rattle.std.proofs.lemmas.List.Kept.{IsStrictlySortedBy-filter}
use Rattle.std.proofs.lemmas.Map.Lookups.{exact_bytes}
use Rattle.dw_key.specs.declared.key.Key.{Key}
use Rattle.dw_event.specs.Texts.{is_same}
use Rattle.dw_event.specs.declared.days.Days.{Days}
use Rattle.dw_event.specs.declared.types.Types.{Types}
use Rattle.dw_outside.specs.declared.slot.Slot.{Slot}
use Rattle.dw_outside.specs.Tables.{Tables}
use Rattle.dw_derive.specs.Readers.{GlobalReading}
use Rattle.dw_derive.specs.Decoded.{key_from, has_key}
use Rattle.dw_derive.proofs.Lists.{any_alike, any_or}
use Rattle.dw_derive.proofs.Sets.{any_filter_map, any_set, set_ascends, same_sorted}
use Rattle.dw_eval.specs.declared.nquery.NQuery.{NQuery}
use Rattle.dw_plan.specs.Anchored.{anchored_at}
use Rattle.dw_plan.specs.Hit.{told_by, is_in_days, shard_named, named_shards, is_hit, hit_shards}
use Rattle.dw_plan.specs.Joins.{has}
use Rattle.dw_plan.specs.Staying.{stays}
use Rattle.dw_plan.proofs.Named.{has_filter}
use Rattle.dw_plan.proofs.Valued.{is_named, stays_named, valued}

module _ (t : Tables) (names : List (List ℕ)) (types : Types) where
  abbrev says : List ℕ → GlobalReading → Bool
  says s r = is_same s r.shard

  abbrev test : ℕ → List ℕ → Slot → Bool
  test table s = has_key table (λ k. option_map_or (says s) (told_by names k) false)

  told_shard : (s : List ℕ) (o : Option GlobalReading) → option_map_or (is_same s) (option_map (λ (r : GlobalReading). r.shard) o) false ≡ option_map_or (says s) o false
  told_shard s None = refl
  told_shard s (Some r) = refl

  key_shard : (s : List ℕ) (o : Option Key) → option_map_or (is_same s) (option_map (λ (r : GlobalReading). r.shard) (option_and_then (told_by names) o)) false ≡ option_map_or (λ k. option_map_or (says s) (told_by names k) false) o false
  key_shard s None = refl
  key_shard s (Some k) = told_shard s (told_by names k)

  either : (a b c d : Bool) (o : Option (List ℕ)) (s : List ℕ) → option_map_or (is_same s) o false ≡ c → option_map_or (is_same s) (cond (a || b) o None) false ≡ ((a && c) || (b && c))
  either true true c d o s e = e ∙ once c
    where
      once : (x : Bool) → x ≡ (x || x)
      once true = refl
      once false = refl
  either true false c d o s e = e ∙ last c
    where
      last : (x : Bool) → x ≡ (x || false)
      last true = refl
      last false = refl
  either false true c d o s e = e
  either false false c d o s e = refl

  slot_shard : (s : List ℕ) (q : Slot) → option_map_or (is_same s) (shard_named names q) false ≡ (test 1 s q || test 2 s q)
  slot_shard s q = either (q.table == 1) (q.table == 2) (option_map_or (λ k. option_map_or (says s) (told_by names k) false) (key_from q.key) false) false (option_map (λ (r : GlobalReading). r.shard) (option_and_then (told_by names) (key_from q.key))) s (key_shard s (key_from q.key))

  -- a shard is among those that are named where a cell of table 1 or 2 names it
  pub named_has : (s : List ℕ) → has (named_shards names t) s ≡ is_named t names types s
  named_has s =
      any_set (slice_cmp nat_cmp) exact_bytes nat_list_cmp_total (is_same s) (filter_map (shard_named names) (keys t))
      ∙ any_filter_map (is_same s) (shard_named names) (keys t)
      ∙ any_alike (λ (q : Slot). option_map_or (is_same s) (shard_named names q) false) (λ (q : Slot). test 1 s q || test 2 s q) (slot_shard s) (keys t)
      ∙ any_or (test 1 s) (test 2 s) (keys t)

  pub named_ascend : IsStrictlySortedBy (slice_cmp nat_cmp) (named_shards names t)
  named_ascend = set_ascends (slice_cmp nat_cmp) exact_bytes nat_list_cmp_total (filter_map (shard_named names) (keys t))

  absorbed : (n d p : Bool) → (p ≡ true → n ≡ true) → (d && p) ≡ (n && (d && p))
  absorbed true d p h = refl
  absorbed false true true h = sym (h refl)
  absorbed false true false h = refl
  absorbed false false p h = refl

  -- what was found is the hit shards
  pub found_hits : (q : NQuery) (days : Days) (found : List (List ℕ)) → anchored_at q true ≡ true → IsStrictlySortedBy (slice_cmp nat_cmp) found → ((s : List ℕ) → has found s ≡ (is_in_days days s && stays t names types s q true))
      → found ≡ hit_shards q names days types t
  unfolding hit_shards
  found_hits q days found anchor up same =
      same_sorted (slice_cmp nat_cmp) exact_bytes nat_list_cmp_total found (filter (is_hit q names days types t) (named_shards names t)) up (IsStrictlySortedBy-filter (slice_cmp nat_cmp) (is_hit q names days types t) (named_shards names t) named_ascend) (λ s.
      same s
      ∙ absorbed (is_named t names types s) (is_in_days days s) (stays t names types s q true) (stays_named t names types s q true anchor)
      ∙ sym (has_filter (is_hit q names days types t) (named_shards names t) s
      ∙ (λ i. named_has s i && (is_in_days days s && valued t names types s q true i))))
