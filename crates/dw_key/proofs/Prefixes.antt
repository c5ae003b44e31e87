-- What codes begin with.
use Rattle.std.proofs.Common.{◌≡◌, ◌↔◌, ℕ, zero, suc, ◌<◌, List, [], ◌∷◌, ◌++◌, length, refl, sym, ap, ◌∙◌, append_assoc, arith, inl, inr}
use Rattle.std.specs.Ordering.{nat_cmp, ordering_then}
use Rattle.std.specs.Cmp.Lexicographic.{slice_cmp}
use Rattle.dw_key.specs.declared.key.Key.{Key}
use Rattle.dw_key.specs.KeyCode.{escaped, part_code, parts_code, parts_of, code_of, code}
use Rattle.dw_key.specs.KeyLaws.{BeginWith}
use Rattle.dw_key.proofs.Escapes.{apart, escaped-append, part_code-then, same_part, slice_cmp-parts}

pub parts_keep_order : (p q x y : List ℕ) → slice_cmp nat_cmp (part_code p ++ x) (part_code q ++ y) ≡ ordering_then (slice_cmp nat_cmp p q) (slice_cmp nat_cmp x y)
parts_keep_order p q x y = (λ i. slice_cmp nat_cmp (part_code-then p x i) (part_code-then q y i)) ∙ slice_cmp-parts p q x y

pub no_part_behind : (p q x y : List ℕ) → part_code p ++ x ≡ part_code q ++ y → (p ≡ q) × (x ≡ y)
no_part_behind p q x y e = same_part p q x y (sym (part_code-then p x) ∙ e ∙ part_code-then q y)

-- what begins with the beginning of a part begins with the beginning of the text that it spells
text_begins : (q text x rest : List ℕ) → escaped q ++ 0 ∷ 0 ∷ x ≡ escaped text ++ rest → (more : List ℕ) × (q ≡ text ++ more)
text_begins q [] x rest e = (q, refl)
text_begins [] (zero ∷ text) x rest e = absurd (apart 0 255 (inl (omega arith)) cc)
text_begins [] (suc b ∷ text) x rest e = absurd (apart 0 (suc b) (inl (omega arith)) cc)
text_begins (zero ∷ q) (zero ∷ text) x rest e =
    let r = text_begins q text x rest cc in
    (r.0, ap (λ (t : List ℕ). 0 ∷ t) r.1)
text_begins (zero ∷ q) (suc b ∷ text) x rest e = absurd (apart 0 (suc b) (inl (omega arith)) cc)
text_begins (suc a ∷ q) (zero ∷ text) x rest e = absurd (apart (suc a) 0 (inr (omega arith)) cc)
text_begins (suc a ∷ q) (suc b ∷ text) x rest e =
    let r = text_begins q text x rest cc in
    let same : suc a ≡ suc b = cc in
    (r.0, λ i. same i ∷ r.1 i)

begins : (ps qs : List (List ℕ)) (text rest : List ℕ) (s : ℕ) → length ps < length qs → code_of qs s ≡ parts_code ps ++ (escaped text ++ rest) → BeginWith ps text qs
begins [] [] text rest s short e = absurd (omega (arith, short))
begins [] (q ∷ qs) text rest s short e = text_begins q text (code_of qs s) rest (sym (part_code-then q (code_of qs s)) ∙ e)
begins (p ∷ ps) [] text rest s short e = absurd (omega (arith, short))
begins (p ∷ ps) (q ∷ qs) text rest s short e =
    let first = no_part_behind q p (code_of qs s) (parts_code ps ++ (escaped text ++ rest)) (e ∙ append_assoc (part_code p) (parts_code ps) (escaped text ++ rest)) in
    (first.0, begins ps qs text rest s (omega (arith, short)) first.1)

begun : (ps qs : List (List ℕ)) (text : List ℕ) (s : ℕ) → BeginWith ps text qs → (rest : List ℕ) × (code_of qs s ≡ parts_code ps ++ (escaped text ++ rest))
begun [] [] text s h = absurd h
begun [] (q ∷ qs) text s h = (
  escaped h.0 ++ 0 ∷ 0 ∷ code_of qs s,
  part_code-then q (code_of qs s) ∙ ap (λ (t : List ℕ). escaped t ++ 0 ∷ 0 ∷ code_of qs s) h.1 ∙ ap (λ (t : List ℕ). t ++ 0 ∷ 0 ∷ code_of qs s) (escaped-append text h.0)
      ∙ append_assoc (escaped text) (escaped h.0) (0 ∷ 0 ∷ code_of qs s),
)
begun (p ∷ ps) [] text s h = absurd h
begun (p ∷ ps) (q ∷ qs) text s h =
    let r = begun ps qs text s h.1 in
    (r.0, ap (λ (t : List ℕ). part_code t ++ code_of qs s) h.0 ∙ ap (λ (t : List ℕ). part_code p ++ t) r.1 ∙ sym (append_assoc (part_code p) (parts_code ps) (escaped text ++ r.0)))

pub prefixes_are_parts : (k : Key) (ps : List (List ℕ)) (text : List ℕ) → length ps < 4 → ((rest : List ℕ) × (code k ≡ parts_code ps ++ (escaped text ++ rest))) ↔ BeginWith ps text (parts_of k)
prefixes_are_parts k ps text short = ((λ h. begins ps (parts_of k) text h.0 k.stamp short h.1), λ h. begun ps (parts_of k) text k.stamp h)
