-- What is among names.
use Rattle.std.proofs.Common.{◌≡◌, ◌⊎◌, ◌↔◌, ℕ, Bool, true, false, cond, List, [], ◌∷◌, refl, sym, ap, ◌∙◌, arith, inl, inr}
use Rattle.std.specs.Prelude.{◌||◌, ◌&&◌}
use Rattle.std.specs.List.{Contains}
use Rattle.std.specs.Str.{bytes_eq}
use Rattle.std.proofs.lemmas.Cmp.{nat_list_cmp_total}
use Rattle.std.proofs.lemmas.Map.Lookups.{exact_bytes}
use Rattle.std.proofs.lemmas.Slice.Eq.{bytes_eq-Decides}
use Rattle.dw_base.proofs.Members.{members_with}
use Rattle.dw_base.proofs.Memberships.{named}
use Rattle.dw_vis.specs.Names.{has, with_name, common_names}

-- what is among the names with one more
pub with_members : (name : List ℕ) (names : List (List ℕ)) (other : List ℕ) → (has (with_name name names) other ≡ true) ↔ ((has names other ≡ true) ⊎ (other ≡ name))
with_members name names other = (there, back)
  where
    members : Contains (with_name name names) other ↔ (Contains names other ⊎ (other ≡ name))
    members = members_with nat_list_cmp_total exact_bytes names name other

    told : Contains names other ⊎ (other ≡ name) → (has names other ≡ true) ⊎ (other ≡ name)
    told (inl h) = inl ((named names other).1 h)
    told (inr e) = inr e

    untold : (has names other ≡ true) ⊎ (other ≡ name) → Contains names other ⊎ (other ≡ name)
    untold (inl h) = inl ((named names other).0 h)
    untold (inr e) = inr e

    there : has (with_name name names) other ≡ true → (has names other ≡ true) ⊎ (other ≡ name)
    there h = told (members.0 ((named (with_name name names) other).0 h))

    back : (has names other ≡ true) ⊎ (other ≡ name) → has (with_name name names) other ≡ true
    back h = (named (with_name name names) other).1 (members.1 (untold h))

-- one name more, which is kept if it passes
kept_step : (p q b x y : Bool) → (b ≡ true → q ≡ p) → x ≡ (y && q) → cond p (b || x) x ≡ ((b || y) && q)
kept_step p q true x true e h = grind (arith, e refl)
kept_step p q true x false e h = grind (arith, e refl)
kept_step true q false x y e h = h
kept_step false q false x y e h = h

has_common : (names others : List (List ℕ)) (name : List ℕ) → has (common_names names others) name ≡ (has names name && has others name)
has_common [] others name = refl
has_common (n ∷ ns) others name =
    chosen (has others n)
    ∙ kept_step (has others n) (has others name) (bytes_eq n name) (has (common_names ns others) name) (has ns name)
    (λ h. ap (has others) (sym ((bytes_eq-Decides n name).0 h))) (has_common ns others name)
  where
    chosen : (p : Bool) → has (cond p (n ∷ common_names ns others) (common_names ns others)) name ≡ cond p (bytes_eq n name || has (common_names ns others) name) (has (common_names ns others) name)
    chosen true = refl
    chosen false = refl

and_parts : (a b : Bool) → (a && b) ≡ true → (a ≡ true) × (b ≡ true)
and_parts true b h = (refl, h)
and_parts false b h = (h, cc)

pub common_members : (names others : List (List ℕ)) (name : List ℕ) → (has (common_names names others) name ≡ true) ↔ ((has names name ≡ true) × (has others name ≡ true))
common_members names others name = (
  λ h. and_parts (has names name) (has others name) (sym (has_common names others name) ∙ h),
  λ h. has_common names others name ∙ ap (λ b. b && has others name) h.0 ∙ h.1,
)
