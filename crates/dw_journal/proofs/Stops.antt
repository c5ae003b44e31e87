-- What a stop at each moment leaves, by number of the moment.
use Rattle.std.proofs.Common.{◌≡◌, inl, inr, ℕ, ◌+◌, ◌-◌, List, [], ◌∷◌, length, take, Some, refl, ◌∙◌, ap, subst, arith, length-append}
use Rattle.std.proofs.lemmas.List.{take_at}
use Rattle.dw_outside.specs.Disks.{DiskState, DiskModel, MayLeave, Each, SomeOf, Since, moment, LeftSince}

one_of : (P : DiskState → Type 0) (c : List ℕ) (Q : Type 0) (xs : List DiskState) → ((s : DiskState) → P s → MayLeave s c → Q) → Each P xs → SomeOf (λ s. MayLeave s c) xs → Q
one_of P c Q [] leads all some = absurd some
one_of P c Q (x ∷ xs) leads all (inl here) = leads x all.0 here
one_of P c Q (x ∷ xs) leads all (inr there) = one_of P c Q xs leads all.1 there

-- where each moment since the old one has P, and P leads to Q of what a stop leaves
pub left_since : (P : DiskState → Type 0) (Q : List ℕ → Type 0) (m n : DiskModel) (c : List ℕ) → ((s : DiskState) → P s → MayLeave s c → Q c) → Since P (Some m) (Some n) → LeftSince (moment (Some m) + 1) (Some n) c → Q c
left_since P Q m n c leads since left =
    let added = since.0 in
    let old = m.now ∷ m.past in
    let count : length n.past + 1 - (length m.past + 1) ≡ length added = omega (arith, ap length since.2, length-append added old) in
    let newest : take (length n.past + 1 - (length m.past + 1)) (n.now ∷ n.past) ≡ added =
    ap (λ (k : ℕ). take k (n.now ∷ n.past)) count ∙ ap (λ (l : List DiskState). take (length added) l) since.2 ∙ take_at added old (length added) refl in
    one_of P c (Q c) added leads since.1 (subst (λ (l : List DiskState). SomeOf (λ s. MayLeave s c) l) newest left)
