-- The texts and numbers that reading gives keep their rules.
use Rattle.std.proofs.Common.{◌≡◌, ℕ, ◌+◌, ◌≤◌, true, ◌&&◌, nat_le, if◌then◌else◌, List, [], ◌∷◌, length, refl, arith, ap, subst, ◌∙◌, Option, Some, None, IfSome, Ok, option_map}
use Rattle.std.specs.List.{list_all}
use Rattle.std.specs.Ordering.{nat_cmp, is_le}
use Rattle.std.specs.Cmp.Lexicographic.{slice_cmp}
use Rattle.std.specs.Str.{str_to_ascii_uppercase}
use Rattle.std.proofs.lemmas.Bool.{and_from, le-leb, leb-true}
use Rattle.std.proofs.lemmas.Cmp.{nat_list_cmp_total}
use Rattle.serde_json.specs.Data.{Items, no_items, item}
use Rattle.serde_json.specs.Find.{as_str}
use Rattle.dw_base.specs.Days.{names_day, is_dashed, without_dashes, day_digits}
use Rattle.dw_base.specs.FieldNames.{is_field_name, is_folded_name}
use Rattle.dw_base.proofs.Search.{ascending_none, ascending_with}
use Rattle.dw_event.specs.declared.types.Types.TheVariants.{All, Only}
use Rattle.dw_jexl.specs.declared.query.Query.{Query}
use Rattle.dw_key.specs.TypeName.{is_type_name}
use Rattle.dw_vis.specs.Names.{name_cmp, with_name, IsAscending}
use Rattle.dw_rows.specs.Entries.{field_of}
use Rattle.dw_rows.proofs.KeptSteps.{Gives, nothing, just, guarded_known, guarded_some, then_known, map_known, any_known, all_put, put_few}
use Rattle.dw_rows.proofs.Folded.{folded}
use Rattle.dw_base.specs.Callers.{is_caller, is_auth}
use Rattle.dw_groups.specs.Batches.{items_count}
use Rattle.dw_wire.specs.ReadLine.{caller_of, counted_to, type_names, only_of, asked_types, days_of, with_auths, auths_of, asked_auths}
use Rattle.dw_wire.specs.WellFormed.{IsAuthSet, IsSpelt, are_days, are_types, is_counted_to}
use Rattle.dw_wire.specs.QueryTexts.{query_of}
use Rattle.dw_wire.proofs.QueryLaws.{queries_spelt}

pub field_known : (name : List ℕ) → Gives (field_of name) (λ field. is_folded_name field ≡ true)
field_known name = guarded_some (is_field_name name) (str_to_ascii_uppercase name) (folded name)

pub caller_known : (caller : List ℕ) → Gives (caller_of caller) (λ who. is_caller who ≡ true)
caller_known caller = guarded_some (is_caller caller) caller (λ h. h)

pub number_known : (most : ℕ) (o : Option ℕ) → Gives (counted_to most o) (λ n. is_counted_to most n ≡ true)
number_known most None = nothing
number_known most (Some n) = guarded_some (is_counted_to most n) n (λ h. h)

pub query_known : (text : List ℕ) (q : Query) → query_of text ≡ Ok q → IsSpelt q
query_known text q e = (text, (queries_spelt text (Ok q)).0 e)

-- ---- types

names_kept : (ds : Items) → Gives (type_names ds) (λ names. (length names ≡ items_count ds) × (list_all is_type_name names ≡ true))
names_kept no_items = just [] (refl, refl)
names_kept (item d ds) =
    then_known (as_str d) _ (any_known (as_str d)) (λ name _. guarded_known (is_type_name name) _ (λ k.
    map_known (type_names ds) (λ names. name ∷ names) (names_kept ds) (λ names h. (omega (arith, h.0), and_from (is_type_name name) (list_all is_type_name names) k h.1))))

only_kept : (ds : Items) → Gives (only_of ds) (λ types. are_types types ≡ true)
only_kept ds =
    guarded_known (is_counted_to 64 (items_count ds)) (option_map Only (type_names ds)) (λ few.
    map_known (type_names ds) Only (names_kept ds) (λ names h.
    and_from (is_counted_to 64 (length names)) (list_all is_type_name names) (ap (is_counted_to 64) h.0 ∙ few) h.1))

pub types_known : (o : Option Items) → Gives (asked_types o) (λ types. are_types types ≡ true)
types_known None = just All refl
types_known (Some ds) = only_kept ds

-- ---- days

day_known : (text : List ℕ) → Gives (day_digits text) (λ day. names_day day ≡ true)
day_known text = kept (if is_dashed text then without_dashes text else text)
  where
    kept : (digits : List ℕ) → Gives (if names_day digits then Some digits else None) (λ day. names_day day ≡ true)
    kept digits = guarded_some (names_day digits) digits (λ h. h)

pub days_known : (first last : List ℕ) → Gives (days_of first last) (λ days. are_days days ≡ true)
days_known first last =
    then_known (day_digits first) _ (day_known first) (λ from f. then_known (day_digits last) _ (day_known last) (λ to l.
    guarded_some (is_le (slice_cmp nat_cmp from to)) (record { first = from; last = to }) (λ h.
    and_from (names_day from && names_day to) (is_le (slice_cmp nat_cmp from to)) (and_from (names_day from) (names_day to) f l) h)))

-- ---- names of authorisations

-- a set of names by their rule, at most so many
abbrev Kept : ℕ → List (List ℕ) → Type 0
Kept most names = (length names ≤ most) × (list_all is_auth names ≡ true) × IsAscending names

more_auths : (ds : Items) (most : ℕ) (names : List (List ℕ)) → Kept most names → Gives (with_auths names ds) (Kept (most + items_count ds))
more_auths no_items most names h = just names (omega (arith, h.0), h.1, h.2)
more_auths (item d ds) most names h =
    then_known (as_str d) _ (any_known (as_str d)) (λ name _. guarded_known (is_auth name) _ (λ auth.
    let more = with_name name names in
    let few : length more ≤ most + 1 = omega (arith, put_few name_cmp name names, h.0) in
    let rest : Gives (with_auths more ds) (Kept (most + 1 + items_count ds)) =
    more_auths ds (most + 1) more (few, all_put name_cmp is_auth name names auth h.1, ascending_with nat_list_cmp_total names name h.2) in
    let sum : most + 1 + items_count ds ≡ most + items_count (item d ds) = omega arith in
    subst (λ n. Gives (with_auths more ds) (Kept n)) sum rest))

pub auths_kept : (ds : Items) → Gives (auths_of ds) IsAuthSet
auths_kept ds =
    guarded_known (nat_le (items_count ds) 256) (with_auths [] ds) (λ few.
    known (with_auths [] ds) few (more_auths ds 0 [] (omega arith, refl, ascending_none name_cmp)))
  where
    known : (o : Option (List (List ℕ))) → nat_le (items_count ds) 256 ≡ true → Gives o (Kept (0 + items_count ds)) → Gives o IsAuthSet
    known None few h = nothing
    known (Some names) few h = just names (record {
      rules = and_from (nat_le (length names) 256) (list_all is_auth names) (le-leb (length names) 256 (omega (arith, h.holds.0, leb-true (items_count ds) 256 few))) h.holds.1;
      ordered = h.holds.2;
    })

pub asked_known : (o : Option Items) → Gives (asked_auths o) (λ asked. IfSome asked IsAuthSet)
asked_known None = just None tt
asked_known (Some ds) = map_known (auths_of ds) Some (auths_kept ds) (λ auths h. h)
