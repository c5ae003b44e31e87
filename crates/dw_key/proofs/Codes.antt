-- Codes of some parts and a stamp: no code is the beginning of another, and they compare as what they spell.
use Rattle.std.proofs.Common.{◌≡◌, ℕ, ◌^◌, ◌<◌, List, [], ◌∷◌, ◌++◌, length, take, refl, sym, ap, ◌∙◌, append_assoc, arith}
use Rattle.std.specs.Ordering.{nat_cmp, ordering_then}
use Rattle.std.specs.declared.cmp.Ordering.{Ordering}
use Rattle.std.specs.Cmp.Lexicographic.{slice_cmp}
use Rattle.std.proofs.lemmas.List.{append-nil, append_cancel_left, take_at}
use Rattle.dw_key.specs.declared.key.Key.{Key}
use Rattle.dw_key.specs.KeyCode.{escaped, part_code, stamp_code, code_of, code}
use Rattle.dw_key.specs.KeyOrder.{key_order}
use Rattle.dw_key.proofs.Escapes.{part_code-then, same_part, slice_cmp-parts}
use Rattle.dw_key.proofs.Stamps.{same_stamp, slice_cmp-stamps, length-stamp_code}

-- a code with its first part taken off, and what follows the code
pub code_of-then : (p : List ℕ) (ps : List (List ℕ)) (s : ℕ) (x : List ℕ) → code_of (p ∷ ps) s ++ x ≡ escaped p ++ 0 ∷ 0 ∷ (code_of ps s ++ x)
code_of-then p ps s x = append_assoc (part_code p) (code_of ps s) x ∙ part_code-then p (code_of ps s ++ x)

-- the parts, the stamp and what follows the code, of two codes of as many parts
pub record IsSame (ps qs : List (List ℕ)) (s t : ℕ) (x y : List ℕ) : Type 0 where
  pub parts : ps ≡ qs
  pub stamp : s ≡ t
  pub rest : x ≡ y

-- what begins with two codes begins with one
pub same_code : (ps qs : List (List ℕ)) (s t : ℕ) (x y : List ℕ) → length ps ≡ length qs → s < 2 ^ 64 → t < 2 ^ 64 → code_of ps s ++ x ≡ code_of qs t ++ y → IsSame ps qs s t x y
same_code [] [] s t x y len s_fits t_fits e =
    let stamps : stamp_code s ≡ stamp_code t = sym (take_at (stamp_code s) x 8 (length-stamp_code s)) ∙ ap (take 8) e ∙ take_at (stamp_code t) y 8 (length-stamp_code t) in
    let behind : stamp_code s ++ x ≡ stamp_code s ++ y = e ∙ ap (λ (c : List ℕ). c ++ y) (sym stamps) in
    record { parts = refl; stamp = same_stamp s t s_fits t_fits stamps; rest = append_cancel_left (stamp_code s) x y behind }
same_code [] (q ∷ qs) s t x y len s_fits t_fits e = absurd (omega (arith, len))
same_code (p ∷ ps) [] s t x y len s_fits t_fits e = absurd (omega (arith, len))
same_code (p ∷ ps) (q ∷ qs) s t x y len s_fits t_fits e =
    let first = same_part p q (code_of ps s ++ x) (code_of qs t ++ y) (sym (code_of-then p ps s x) ∙ e ∙ code_of-then q qs t y) in
    let others = same_code ps qs s t x y (omega (arith, len)) s_fits t_fits first.1 in
    record { parts = λ i. first.0 i ∷ others.parts i; stamp = others.stamp; rest = others.rest }

-- the code of a key tells the key
pub same_key : (a b : Key) (x y : List ℕ) → a.stamp < 2 ^ 64 → b.stamp < 2 ^ 64 → code a ++ x ≡ code b ++ y → (a ≡ b) × (x ≡ y)
same_key a b x y a_fits b_fits e =
    let r = same_code (a.row ∷ a.family ∷ a.qualifier ∷ a.vis ∷ []) (b.row ∷ b.family ∷ b.qualifier ∷ b.vis ∷ []) a.stamp b.stamp x y refl a_fits b_fits e in
    let parts = r.parts in
    let row : a.row ≡ b.row = cc in
    let family : a.family ≡ b.family = cc in
    let qualifier : a.qualifier ≡ b.qualifier = cc in
    let vis : a.vis ≡ b.vis = cc in
    ((λ i. record { row = row i; family = family i; qualifier = qualifier i; vis = vis i; stamp = r.stamp i }), r.rest)

-- codes compare as their keys do
pub slice_cmp-codes : (a b : Key) → a.stamp < 2 ^ 64 → b.stamp < 2 ^ 64 → slice_cmp nat_cmp (code a) (code b) ≡ key_order a b
slice_cmp-codes a b a_fits b_fits =
    step a.row b.row (a.family ∷ a.qualifier ∷ a.vis ∷ []) (b.family ∷ b.qualifier ∷ b.vis ∷ []) (
    step a.family b.family (a.qualifier ∷ a.vis ∷ []) (b.qualifier ∷ b.vis ∷ []) (
    step a.qualifier b.qualifier (a.vis ∷ []) (b.vis ∷ []) (
    step a.vis b.vis [] [] (slice_cmp-stamps a.stamp b.stamp a_fits b_fits))))
  where
    step : (p q : List ℕ) (ps qs : List (List ℕ)) {o : Ordering} → slice_cmp nat_cmp (code_of ps a.stamp) (code_of qs b.stamp) ≡ o
        → slice_cmp nat_cmp (code_of (p ∷ ps) a.stamp) (code_of (q ∷ qs) b.stamp) ≡ ordering_then (slice_cmp nat_cmp p q) o
    step p q ps qs e =
        (λ i. slice_cmp nat_cmp (part_code-then p (code_of ps a.stamp) i) (part_code-then q (code_of qs b.stamp) i))
        ∙ slice_cmp-parts p q (code_of ps a.stamp) (code_of qs b.stamp)
        ∙ ap (ordering_then (slice_cmp nat_cmp p q)) e

pub no_code_behind : (a b : Key) (more : List ℕ) → a.stamp < 2 ^ 64 → b.stamp < 2 ^ 64 → code b ≡ code a ++ more → (more ≡ []) × (a ≡ b)
no_code_behind a b more a_fits b_fits e =
    let r = same_key a b more [] a_fits b_fits (sym e ∙ sym (append-nil (code b))) in
    (r.1, r.0)

pub keys_told : (a b : Key) → a.stamp < 2 ^ 64 → b.stamp < 2 ^ 64 → code a ≡ code b → a ≡ b
keys_told a b a_fits b_fits e = (same_key a b [] [] a_fits b_fits (append-nil (code a) ∙ e ∙ sym (append-nil (code b)))).0
