-- The dictionary of the entries of a tree, as they change.
use Rattle.std.proofs.Common.{◌≡◌, ℕ, Bool, true, false, cond, List, [], ◌∷◌, map, Some, String, string_bytes, refl, sym, ap, ap₂, ◌∙◌}
use Rattle.std.specs.declared.alloc.Global.{Global}
use Rattle.std.specs.Ordering.{nat_cmp, eq_by_cmp}
use Rattle.std.specs.Cmp.Lexicographic.{slice_cmp, nat_list_cmp_total}
use Rattle.std.specs.List.{AllZip}
use Rattle.std.specs.Map.{lookup}
use Rattle.std.specs.BTreeMap.{BTreeMap, is_at, get_by_text, UpdatesBy}
use Rattle.std.specs.Str.{bytes_eq}
use Rattle.std.specs.String.{string_cmp}
use Rattle.std.specs.FinMap.{find, get, insert, get-insert, get-from_entries, same_map}
use Rattle.std.proofs.lemmas.Map.Lookups.{exact_bytes}
use Rattle.std.proofs.lemmas.Map.Text.{btree_map_updates_text, is_eq-slice_cmp}
use Rattle.std.proofs.lemmas.Slice.Eq.{bytes_eq-Decides}
use Rattle.dw_dict.specs.declared.rule.FieldRule.{FieldRule}
use Rattle.dw_dict.specs.Dictionary.{of_entries}

find_text : (es : List (String Global × FieldRule)) (q : List ℕ)
    → find (slice_cmp nat_cmp) q (map (λ e. (string_bytes e.0, e.1)) es) ≡ lookup (is_at (λ k. slice_cmp nat_cmp q (string_bytes k))) es
find_text [] q = refl
find_text (e ∷ es) q = ap (cond (is_at (slice_cmp nat_cmp q) (string_bytes e.0)) (Some e.1)) (find_text es q)

-- what a tree has at some bytes is what its dictionary has there
pub get_text : (m : BTreeMap (String Global) FieldRule) (q : List ℕ) → get (of_entries m.entries) q ≡ get_by_text m q
get_text m q = get-from_entries nat_list_cmp_total (map (λ e. (string_bytes e.0, e.1)) m.entries) q ∙ find_text m.entries q

turned : (b c : Bool) → (b ≡ true → c ≡ true) → (c ≡ true → b ≡ true) → b ≡ c
turned true true h k = refl
turned true false h k = sym (h refl)
turned false true h k = k refl
turned false false h k = refl

same_test : (q k : List ℕ) → eq_by_cmp (slice_cmp nat_cmp) q k ≡ bytes_eq k q
same_test q k = is_eq-slice_cmp q k
    ∙ turned (bytes_eq q k) (bytes_eq k q) (λ e. (bytes_eq-Decides k q).1 (sym ((bytes_eq-Decides q k).0 e))) (λ e. (bytes_eq-Decides q k).1 (sym ((bytes_eq-Decides k q).0 e)))

-- a tree with the rule of one field set
pub one_set : (m n : BTreeMap (String Global) FieldRule) (k : List ℕ) (rule : FieldRule)
    → UpdatesBy string_cmp (λ x. slice_cmp nat_cmp k (string_bytes x)) m n (Some rule) → of_entries n.entries ≡ insert (of_entries m.entries) k rule
one_set m n k rule h = same_map nat_list_cmp_total exact_bytes _ _ (λ q.
    get_text n q ∙ btree_map_updates_text k m n (Some rule) h q ∙ ap (cond (bytes_eq k q) (Some rule)) (sym (get_text m q))
    ∙ sym (get-insert nat_list_cmp_total (of_entries m.entries) k rule q ∙ ap (λ (b : Bool). cond b (Some rule) (get (of_entries m.entries) q)) (same_test q k)))

-- ---- a clone

abbrev named : List (String Global × FieldRule) → List (List ℕ × FieldRule)
named es = map (λ e. (string_bytes e.0, e.1)) es

pub same_clone : (C : String Global → String Global → Type 0) (D : FieldRule → FieldRule → Type 0)
    → ((x y : String Global) → C x y → string_bytes y ≡ string_bytes x) → ((v w : FieldRule) → D v w → w ≡ v)
    → (es fs : List (String Global × FieldRule)) → AllZip (λ p q. C p.0 q.0 × D p.1 q.1) es fs
    → named fs ≡ named es
same_clone C D names rules [] [] h = refl
same_clone C D names rules [] (f ∷ fs) h = absurd h
same_clone C D names rules (e ∷ es) [] h = absurd h
same_clone C D names rules (e ∷ es) (f ∷ fs) h =
    let pair : List ℕ → FieldRule → List ℕ × FieldRule = λ n r. (n, r) in
    ap₂ (λ (x : List ℕ × FieldRule) (xs : List (List ℕ × FieldRule)). x ∷ xs)
    (ap₂ pair (names e.0 f.0 h.0.0) (rules e.1 f.1 h.0.1)) (same_clone C D names rules es fs h.1)
