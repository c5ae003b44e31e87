-- Why there is no tree of a query.
use Rattle.std.proofs.Common.{◌≡◌, ℕ, ◌<◌, zero, suc, Bool, true, false, ◌||◌, List, [], ◌∷◌, ◌++◌, map, length, refl, sym, ap, subst, ◌∙◌, arith}
use Rattle.std.specs.Prelude.{slice_index_or, nat_eq}
use Rattle.std.proofs.lemmas.Bool.Decides.{nat_tests}
use Rattle.std.specs.List.{list_any}
use Rattle.std.proofs.lemmas.List.Folds.{list_any-append}
use Rattle.dw_nest.specs.Shapes.{Shape, unknown, leaves, joined}
use Rattle.dw_eval.specs.declared.nquery.NQuery.{NQuery}
use Rattle.dw_eval.specs.declared.nquery.NQuery.TheVariants as nquery
use Rattle.dw_tablet.specs.Held.{Held}
use Rattle.dw_tablet.specs.declared.field_values.LeafError.{LeafError}
use Rattle.dw_tablet.specs.declared.field_values.LeafError.TheVariants.{Missing, OutOfMemory}
use Rattle.dw_scan.specs.Parts.{LeafPart, parts_of, is_leaf_place, IsTreeError, IsTreesError}
use Rattle.dw_scan.proofs.QueryParts.{and_parts, or_parts}

module _ (test : LeafPart → Bool) where
  abbrev any_leaf : Shape LeafPart → Bool
  any_leaf s = list_any test (leaves s)

  or_right : (a b : Bool) → b ≡ true → (a || b) ≡ true
  or_right true b h = refl
  or_right false b h = h

  or_left : (a b : Bool) → a ≡ true → (a || b) ≡ true
  or_left true b h = refl
  or_left false b h = cc

  -- a leaf of one of some shapes is one of them all
  among : (child : ℕ → Shape LeafPart) (i n : ℕ) → i < n → any_leaf (child i) ≡ true → list_any test (joined n (λ j. leaves (child j))) ≡ true
  among child i zero lt h = absurd (omega (arith, lt))
  among child i (suc n) lt h = list_any-append test (joined n (λ j. leaves (child j))) (leaves (child n)) ∙ at (λ l. among child i n l h) (nat_eq i n) refl
    where
      at : (i < n → list_any test (joined n (λ j. leaves (child j))) ≡ true) → (b : Bool) → nat_eq i n ≡ b → (list_any test (joined n (λ j. leaves (child j))) || list_any test (leaves (child n))) ≡ true
      at earlier true e = or_right (list_any test (joined n (λ j. leaves (child j)))) (any_leaf (child n)) (sym (ap (λ k. any_leaf (child k)) (same e)) ∙ h)
        where
          same : nat_eq i n ≡ true → i ≡ n
          same g = grind (arith, nat_tests)
      at earlier false e = or_left (list_any test (joined n (λ j. leaves (child j)))) (any_leaf (child n)) (earlier (less e))
        where
          less : nat_eq i n ≡ false → i < n
          less g = grind (arith, nat_tests, lt)

  -- where one of some queries has such a leaf, one of them does at its place
  placed : (shard : List ℕ) (qs : List NQuery) → list_any (λ q. any_leaf (parts_of shard q)) qs ≡ true
      → (i : ℕ) × (i < length (map (parts_of shard) qs)) × (any_leaf (slice_index_or (map (parts_of shard) qs) i unknown) ≡ true)
  placed shard [] h = cc
  placed shard (q ∷ qs) h = at (any_leaf (parts_of shard q)) refl h (λ g. placed shard qs g)
    where
      at : (b : Bool) → any_leaf (parts_of shard q) ≡ b → (b || list_any (λ x. any_leaf (parts_of shard x)) qs) ≡ true
          → (list_any (λ x. any_leaf (parts_of shard x)) qs ≡ true → (i : ℕ) × (i < length (map (parts_of shard) qs)) × (any_leaf (slice_index_or (map (parts_of shard) qs) i unknown) ≡ true))
          → (i : ℕ) × (i < length (map (parts_of shard) (q ∷ qs))) × (any_leaf (slice_index_or (map (parts_of shard) (q ∷ qs)) i unknown) ≡ true)
      at true e g later = (0, omega arith, e)
      at false e g later = let l = later g in (suc l.0, omega (arith, l.1), l.2)

  pub and_any : (shard : List ℕ) (qs : List NQuery) → list_any (λ q. any_leaf (parts_of shard q)) qs ≡ true → any_leaf (parts_of shard (nquery.And qs)) ≡ true
  and_any shard qs h =
      let p = placed shard qs h in
      ap any_leaf (and_parts shard qs) ∙ among (λ i. slice_index_or (map (parts_of shard) qs) i unknown) p.0 (length (map (parts_of shard) qs)) p.1 p.2

  pub or_any : (shard : List ℕ) (qs : List NQuery) → list_any (λ q. any_leaf (parts_of shard q)) qs ≡ true → any_leaf (parts_of shard (nquery.Or qs)) ≡ true
  or_any shard qs h =
      let p = placed shard qs h in
      ap any_leaf (or_parts shard qs) ∙ among (λ i. slice_index_or (map (parts_of shard) qs) i unknown) p.0 (length (map (parts_of shard) qs)) p.1 p.2

pub and_error : (t : Held) (qs : List NQuery) (e : LeafError) → IsTreesError t qs e → IsTreeError t (nquery.And qs) e
and_error t qs (Missing place) h = record { is = and_any (λ p. p.places place) t.shard qs h.0; missing = h.1 }
and_error t qs OutOfMemory h = tt

pub or_error : (t : Held) (qs : List NQuery) (e : LeafError) → IsTreesError t qs e → IsTreeError t (nquery.Or qs) e
or_error t qs (Missing place) h = record { is = or_any (λ p. p.places place) t.shard qs h.0; missing = h.1 }
or_error t qs OutOfMemory h = tt

any_at : (test : NQuery → Bool) (qs : List NQuery) (i : ℕ) (q : NQuery) → i < length qs → q ≡ slice_index_or qs i q → test q ≡ true → list_any test qs ≡ true
any_at test [] i q lt is h = absurd (omega (arith, lt))
any_at test (x ∷ qs) zero q lt is h = ap (λ b. b || list_any test qs) (sym (ap test is) ∙ h)
any_at test (x ∷ qs) (suc i) q lt is h = or_right (test x) (any_at test qs i q (omega (arith, lt)) is h)
  where
    or_right : (a : Bool) → list_any test qs ≡ true → (a || list_any test qs) ≡ true
    or_right true g = refl
    or_right false g = g

pub error_among : (t : Held) (qs : List NQuery) (i : ℕ) (q : NQuery) (e : LeafError) → i < length qs → q ≡ slice_index_or qs i q → IsTreeError t q e → IsTreesError t qs e
error_among t qs i q (Missing place) lt is h = (any_at (λ x. is_leaf_place t.shard x place) qs i q lt is h.is, h.missing)
error_among t qs i q OutOfMemory lt is h = tt

pub and_failed : (t : Held) (q : NQuery) (qs lent : List NQuery) (e : LeafError) → q ≡ nquery.And qs → lent ≡ qs → IsTreesError t lent e → IsTreeError t q e
and_failed t q qs lent e is same h = subst (λ x. IsTreeError t x e) (sym is) (and_error t qs e (subst (λ l. IsTreesError t l e) same h))

pub or_failed : (t : Held) (q : NQuery) (qs lent : List NQuery) (e : LeafError) → q ≡ nquery.Or qs → lent ≡ qs → IsTreesError t lent e → IsTreeError t q e
or_failed t q qs lent e is same h = subst (λ x. IsTreeError t x e) (sym is) (or_error t qs e (subst (λ l. IsTreesError t l e) same h))
