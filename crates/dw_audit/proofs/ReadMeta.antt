-- On what can be read of table 3: fields, grants and numbers keep their rules.
use Rattle.std.proofs.Common.{◌≡◌, ◌≤◌, ◌<◌, ◌^◌, ◌&&◌, ◌==◌, ℕ, zero, suc, Bool, true, false, nat_le, nat_lt, List, [], ◌∷◌, length, take, drop, refl, sym, subst, ◌∙◌, arith}
use Rattle.std.specs.Prelude.{Option, Some, None, IsTrue, filter_map}
use Rattle.std.specs.Int.{w16, w64, from_be_bytes}
use Rattle.std.specs.List.{AllByRecursion}
use Rattle.std.specs.Str.{is_utf8}
use Rattle.std.specs.Ordering.{nat_cmp}
use Rattle.std.specs.Cmp.Lexicographic.{slice_cmp}
use Rattle.std.specs.FinMap.{empty, entries, from_entries, len-empty, len-entries}
use Rattle.std.proofs.lemmas.Bool.Decides.{nat_tests}
use Rattle.dw_base.specs.Callers.{is_caller, is_auth}
use Rattle.dw_base.specs.FieldNames.{is_folded_name}
use Rattle.dw_base.specs.declared.limits.TheConstants.{MAX_NAMES}
use Rattle.dw_dict.specs.declared.rule.FieldRule.{FieldRule}
use Rattle.dw_outside.specs.Tables.{Tables}
use Rattle.dw_derive.specs.Decoded.{key_from}
use Rattle.dw_derive.specs.UidLists.{ascend}
use Rattle.dw_derive.specs.Meta.{commit_row, field_row, grant_row}
use Rattle.dw_derive.specs.MetaReaders.{is_in_row, number_from, commit_reading, rule_from, field_reading, name_in, names_in, names_from, grant_reading, AreGranted}
use Rattle.dw_derive.specs.MetaTables.{cell_says, meta_of, first_number, last_of, dict_of, grants_of}
use Rattle.dw_derive.specs.Lawful.{IsGrant}
use Rattle.dw_derive.proofs.Decoding.{and_then_some, map_some}
use Rattle.dw_derive.proofs.Shards.{right}
use Rattle.dw_derive.proofs.MetaSpellings.{names-none, names-full, names-cut, names-more}
use Rattle.dw_derive.proofs.MetaTableLemmas.{all_inserted}
use Rattle.dw_derive.proofs.UidListLemmas.{is_ascending}
use Rattle.dw_audit.proofs.Passing.{if_some, only_some, all_found}

-- ---- maps of entries

none_left : {A : Type 0} (xs : List A) → length xs ≡ 0 → xs ≡ []
none_left [] e = refl
none_left (x ∷ xs) e = absurd (omega arith)

-- what holds of each entry holds of each of their map
all_entries : {Y : Type 0} (P : List ℕ × Y → Type 0) (es : List (List ℕ × Y)) → AllByRecursion P es → AllByRecursion P (entries (from_entries {R = slice_cmp nat_cmp} es))
all_entries {Y = Y} P [] h =
    let none : entries (empty {X = Y} {R = slice_cmp nat_cmp}) ≡ [] = none_left _ (sym (len-entries (empty {X = Y} {R = slice_cmp nat_cmp})) ∙ len-empty (slice_cmp nat_cmp) Y) in
    subst (AllByRecursion P) (sym none) tt
all_entries P (e ∷ es) h = all_inserted P e.0 e.1 (from_entries es) h.0 (all_entries P es h.1)

-- ---- fields

field_is : (c : List ℕ × List ℕ) (f : List ℕ × FieldRule) → cell_says field_reading c ≡ Some f → IsTrue (is_folded_name f.0)
field_is c f e =
    let key = and_then_some _ (key_from c.0) f e in
    let parts = if_some (is_in_row field_row key.0 && is_folded_name key.0.family) _ f key.2 in
    let rule = map_some _ (rule_from c.1) f parts.1 in
    subst (λ (g : List ℕ × FieldRule). IsTrue (is_folded_name g.0)) rule.2 (right (is_in_row field_row key.0) (is_folded_name key.0.family) parts.0)

pub fields_keep : (t : Tables) → AllByRecursion (λ (f : List ℕ × FieldRule). IsTrue (is_folded_name f.0)) (entries (dict_of t))
fields_keep t = all_entries (λ (f : List ℕ × FieldRule). IsTrue (is_folded_name f.0)) (filter_map (cell_says field_reading) (meta_of t)) (all_found _ (cell_says field_reading) field_is (meta_of t))

-- ---- grants

abbrev IsName : List ℕ → Type 0
IsName name = IsTrue (is_utf8 name && is_auth name)

both_rules : (a b c : Bool) → (a && b && c) ≡ true → (b && c) ≡ true
both_rules true b c h = h
both_rules false b c h = cc

name_is : (bytes name rest : List ℕ) → name_in bytes ≡ Some (name, rest) → IsName name
name_is [] name rest e = cc
name_is (a ∷ []) name rest e = cc
name_is (a ∷ b ∷ bs) name rest e =
    let n = from_be_bytes w16 (a ∷ b ∷ []) in
    let parts = only_some (nat_le n (length bs) && is_utf8 (take n bs) && is_auth (take n bs)) (take n bs, drop n bs) (name, rest) e in
    subst (λ (p : List ℕ × List ℕ). IsName p.0) parts.1 (both_rules (nat_le n (length bs)) (is_utf8 (take n bs)) (is_auth (take n bs)) parts.0)

some_bytes : (b : ℕ) (bs : List ℕ) → (length (b ∷ bs) == 0) ≡ false
some_bytes b bs = grind (arith, nat_tests)

record AreNames (n : ℕ) (names : List (List ℕ)) : Type 0 where
  pub few : length names ≤ n
  pub each : AllByRecursion IsName names

names_are : (n : ℕ) (bytes : List ℕ) (names : List (List ℕ)) → names_in n bytes ≡ Some names → AreNames n names
names_are n [] names e = let none : [] ≡ names = cc (names-none n, e) in subst (AreNames n) none (record { few = omega arith; each = tt })
names_are zero (b ∷ bs) names e = cc (e, names-full (b ∷ bs) (some_bytes b bs))
names_are (suc n) (b ∷ bs) names e = at (λ rest more q. names_are n rest more q) (name_in (b ∷ bs)) refl
  where
    at : ((rest : List ℕ) (more : List (List ℕ)) → names_in n rest ≡ Some more → AreNames n more) → (o : Option (List ℕ × List ℕ)) → name_in (b ∷ bs) ≡ o → AreNames (suc n) names
    at further None q = cc (e, names-cut (suc n) (b ∷ bs) (some_bytes b bs) q)
    at further (Some p) q =
        let more = map_some (λ names. p.0 ∷ names) (names_in n p.1) names (sym (names-more n (b ∷ bs) p.0 p.1 q) ∙ e) in
        let rest : AreNames n more.0 = further p.1 more.0 more.1 in
        subst (AreNames (suc n)) more.2 (record { few = (let f = rest.few in omega (arith, f)); each = (name_is (b ∷ bs) p.0 p.1 q, rest.each) })

granted_are : (bytes : List ℕ) (names : List (List ℕ)) → names_from bytes ≡ Some names → AreGranted names
granted_are bytes names e =
    let read = and_then_some _ (names_in MAX_NAMES bytes) names e in
    let parts = only_some (ascend read.0) read.0 names read.2 in
    let are : AreNames MAX_NAMES read.0 = names_are MAX_NAMES bytes read.0 read.1 in
    subst AreGranted parts.1 (record { few = are.few; each = are.each; ascending = is_ascending read.0 parts.0 })

grant_is : (c : List ℕ × List ℕ) (g : List ℕ × List (List ℕ)) → cell_says grant_reading c ≡ Some g → IsGrant g
grant_is c g e =
    let key = and_then_some _ (key_from c.0) g e in
    let parts = if_some (is_in_row grant_row key.0 && is_caller key.0.family) _ g key.2 in
    let names = map_some _ (names_from c.1) g parts.1 in
    subst IsGrant names.2 (record { caller = right (is_in_row grant_row key.0) (is_caller key.0.family) parts.0; names = granted_are c.1 names.0 names.1 })

pub grants_keep : (t : Tables) → AllByRecursion IsGrant (entries (grants_of t))
grants_keep t = all_entries IsGrant (filter_map (cell_says grant_reading) (meta_of t)) (all_found IsGrant (cell_says grant_reading) grant_is (meta_of t))

-- ---- numbers

number_is : (content : List ℕ) (n : ℕ) → number_from content ≡ Some n → n < 2 ^ 63
number_is content n e =
    let m = from_be_bytes w64 content in
    let parts = only_some ((length content == 8) && nat_le 1 m && nat_lt m (2 ^ 63)) m n e in
    let high : nat_lt m (2 ^ 63) ≡ true = right ((length content == 8) && nat_le 1 m) (nat_lt m (2 ^ 63)) parts.0 in
    subst (λ k. k < 2 ^ 63) parts.1 (below m high)
  where
    below : (m : ℕ) → nat_lt m (2 ^ 63) ≡ true → m < 2 ^ 63
    below m h = grind (arith, nat_tests)

commit_is : (c : List ℕ × List ℕ) (n : ℕ) → cell_says commit_reading c ≡ Some n → n < 2 ^ 63
commit_is c n e =
    let key = and_then_some _ (key_from c.0) n e in
    let parts = if_some (is_in_row commit_row key.0 && (length key.0.family == 0)) _ n key.2 in
    number_is c.1 n parts.1

first_below : (ns : List ℕ) → AllByRecursion (λ n. n < 2 ^ 63) ns → first_number ns < 2 ^ 63
first_below [] h = omega arith
first_below (n ∷ ns) h = h.0

pub last_below : (t : Tables) → last_of t < 2 ^ 63
last_below t = first_below (filter_map (cell_says commit_reading) (meta_of t)) (all_found (λ n. n < 2 ^ 63) (cell_says commit_reading) commit_is (meta_of t))
