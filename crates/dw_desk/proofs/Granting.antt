-- The names that entries grant, as the entries change.
use Rattle.std.proofs.Common.{◌≡◌, ◌≤◌, ◌<◌, ◌^◌, ◌==◌, ◌&&◌, not, nat_le, ℕ, Bool, true, false, cond, IsTrue, List, [], ◌∷◌, length, Option, Some, refl, sym, ap, ◌∙◌, arith}
use Rattle.std.specs.Prelude.{All}
use Rattle.std.specs.List.{AllByRecursion, list_all}
use Rattle.std.specs.Str.{is_utf8}
use Rattle.std.proofs.lemmas.Bool.{leb-true}
use Rattle.std.proofs.lemmas.List.Elements.{All-from_recursion}
use Rattle.std.specs.declared.cmp.Ordering.{Ordering}
use Rattle.std.specs.declared.cmp.Ordering.TheVariants.{Less, Equal, Greater}
use Rattle.std.specs.Ordering.{nat_cmp, eq_by_cmp, is_eq, ordering_reverse}
use Rattle.std.specs.Cmp.Lexicographic.{slice_cmp, nat_list_cmp_total}
use Rattle.std.specs.Map.{lookup}
use Rattle.std.specs.BTreeMap.{BTreeMap, get, is_at}
use Rattle.std.specs.FinMap as map
use Rattle.std.specs.FinMap.{find, get-insert, get-from_entries, same_map}
use Rattle.std.proofs.lemmas.Map.Lookups.{exact_bytes}
use Rattle.dw_base.specs.Callers.{is_auth}
use Rattle.dw_base.specs.declared.limits.TheConstants.{MAX_NAMES, MAX_VISIBILITY}
use Rattle.dw_derive.specs.MetaReaders.{AreGranted}
use Rattle.dw_wire.specs.WellFormed.{IsAuthSet}
use Rattle.dw_desk.specs.Stands.{grants_of}
use Rattle.dw_desk.proofs.CallerLemmas.{same_name}

abbrev Grants : Type 0
Grants = BTreeMap (List ℕ) (List (List ℕ))

found : (es : List (List ℕ × List (List ℕ))) (q : List ℕ) → find (slice_cmp nat_cmp) q es ≡ lookup (is_at (slice_cmp nat_cmp q)) es
found [] q = refl
found (e ∷ es) q = ap (cond (is_at (slice_cmp nat_cmp q) e.0) (Some e.1)) (found es q)

-- what the entries have at a caller is what is granted to him
pub get_granted : (m : Grants) (q : List ℕ) → map.get (grants_of m) q ≡ get (slice_cmp nat_cmp) m q
get_granted m q = get-from_entries nat_list_cmp_total m.entries q ∙ found m.entries q

reversed : (o : Ordering) → is_eq (ordering_reverse o) ≡ is_eq o
reversed Less = refl
reversed Equal = refl
reversed Greater = refl

-- one caller is another exactly where that is the one
turned : (caller q : List ℕ) → eq_by_cmp (slice_cmp nat_cmp) q caller ≡ is_at (slice_cmp nat_cmp caller) q
turned caller q = ap is_eq (nat_list_cmp_total.antisymm q caller) ∙ reversed (slice_cmp nat_cmp caller q)

-- the entries with that of one caller set
pub one_granted : (m n : Grants) (caller : List ℕ) (names : List (List ℕ))
    → ((q : List ℕ) → get (slice_cmp nat_cmp) n q ≡ cond (is_at (slice_cmp nat_cmp caller) q) (Some names) (get (slice_cmp nat_cmp) m q))
    → grants_of n ≡ map.insert (grants_of m) caller names
one_granted m n caller names h = same_map nat_list_cmp_total exact_bytes _ _ (λ q.
    get_granted n q ∙ h q ∙ ap (cond (is_at (slice_cmp nat_cmp caller) q) (Some names)) (sym (get_granted m q))
    ∙ sym (get-insert nat_list_cmp_total (grants_of m) caller names q ∙ ap (λ (b : Bool). cond b (Some names) (map.get (grants_of m) q)) (turned caller q)))

-- ---- names that may be granted

both : (a b : Bool) → (a && b) ≡ true → (a ≡ true) × (b ≡ true)
both true true e = (refl, refl)
both true false e = cc
both false b e = cc

-- names that keep their limits are short
pub short_names : (names : List (List ℕ)) → list_all is_auth names ≡ true → All (λ (name : List ℕ). length name < 2 ^ 16) names
short_names names h = All-from_recursion (λ (name : List ℕ). length name < 2 ^ 16) names (each names h)
  where
    each : (ns : List (List ℕ)) → list_all is_auth ns ≡ true → AllByRecursion (λ (name : List ℕ). length name < 2 ^ 16) ns
    each [] e = tt
    each (n ∷ ns) e =
        let first = both (is_auth n) (list_all is_auth ns) e in
        let sized = both (nat_le 1 (length n) && nat_le (length n) MAX_VISIBILITY) (list_all (λ b. not (b == 0)) n) first.0 in
        let long = both (nat_le 1 (length n)) (nat_le (length n) MAX_VISIBILITY) sized.0 in
        (let few : length n ≤ MAX_VISIBILITY = leb-true (length n) MAX_VISIBILITY long.1 in omega (arith, few), each ns first.1)

-- a set of names by the rules keeps its limits
pub rules_of : (names : List (List ℕ)) → IsAuthSet names → list_all is_auth names ≡ true
rules_of names set = (both (nat_le (length names) MAX_NAMES) (list_all is_auth names) set.rules).1

-- and may be granted, where each name is a text
pub granted_names : (names : List (List ℕ)) → IsAuthSet names → list_all is_utf8 names ≡ true → AreGranted names
granted_names names set texts = record {
  few = leb-true (length names) MAX_NAMES (both (nat_le (length names) MAX_NAMES) (list_all is_auth names) set.rules).0;
  each = each names (rules_of names set) texts;
  ascending = set.ordered;
}
  where
    each : (ns : List (List ℕ)) → list_all is_auth ns ≡ true → list_all is_utf8 ns ≡ true → AllByRecursion (λ name. IsTrue (is_utf8 name && is_auth name)) ns
    each [] e f = tt
    each (n ∷ ns) e f =
        let first = both (is_auth n) (list_all is_auth ns) e in
        let text = both (is_utf8 n) (list_all is_utf8 ns) f in
        (joined (is_utf8 n) (is_auth n) text.0 first.0, each ns first.1 text.1)
      where
        joined : (a b : Bool) → a ≡ true → b ≡ true → IsTrue (a && b)
        joined a b e f = rw (e, f) refl

-- ---- what a caller had

-- what is put and then put back is as before
pub put_back_same : (m n p : Grants) (caller : List ℕ) (names : List (List ℕ)) (before : Option (List (List ℕ)))
    → ((q : List ℕ) → get (slice_cmp nat_cmp) n q ≡ cond (is_at (slice_cmp nat_cmp caller) q) (Some names) (get (slice_cmp nat_cmp) m q))
    → before ≡ get (slice_cmp nat_cmp) m caller
    → ((q : List ℕ) → get (slice_cmp nat_cmp) p q ≡ cond (is_at (slice_cmp nat_cmp caller) q) before (get (slice_cmp nat_cmp) n q))
    → grants_of p ≡ grants_of m
put_back_same m n p caller names before put was back =
    same_map nat_list_cmp_total exact_bytes _ _ (λ q. get_granted p q ∙ back q ∙ at q (is_at (slice_cmp nat_cmp caller) q) refl ∙ sym (get_granted m q))
  where
    at : (q : List ℕ) (b : Bool) → is_at (slice_cmp nat_cmp caller) q ≡ b → cond (is_at (slice_cmp nat_cmp caller) q) before (get (slice_cmp nat_cmp) n q) ≡ get (slice_cmp nat_cmp) m q
    at q true e = rw (e) (was ∙ ap (get (slice_cmp nat_cmp) m) (same_name caller q e))
    at q false e = rw (e) (put q ∙ rw (e) refl)

pub not_both : (b : Bool) → b ≡ true → b ≡ false → ⊥
not_both true e f = cc
not_both false e f = cc
