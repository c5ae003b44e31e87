-- What stands, whatever a stop leaves.
use Rattle.std.proofs.Common.{◌≡◌, inl, inr, ⊎_elim, ℕ, zero, suc, ◌+◌, ◌<◌, ◌≤◌, List, [], ◌∷◌, ◌++◌, length, take, drop, get_or, refl, sym, ◌∙◌, ap, arith, append_assoc, length-append, length-take, take-append-drop}
use Rattle.std.proofs.lemmas.List.{take-append-le, take-take, take_at, drop_at, get_or-take, get_or_at}
use Rattle.std.proofs.lemmas.Bool.{cases_eq}
use Rattle.std.proofs.lemmas.Grind.{same_number_lists}
use Rattle.dw_outside.specs.Disks.{DiskState, MayLeave, Each, IsLoose, overlay, wrote_to, synced}
use Rattle.dw_journal.specs.Fixed.{IsFixed, IsFixedBut}

long : (front seen : List ℕ) → take (length front) seen ≡ front → length front ≤ length seen
long front seen is = omega (arith, ap length is, length-take (length front) seen)

pub write_fixed : (front : List ℕ) (at end : ℕ) (torn : List ℕ) (s : DiskState) → length front ≤ at → IsFixed front s → IsFixed front (wrote_to at torn end s)
write_fixed front at end torn s behind is = record {
  seen = take-append-le (length front) (take at s.seen) (torn ++ drop (at + length torn) s.seen) (omega (arith, behind, long front s.seen is.seen, length-take at s.seen))
      ∙ take-take (length front) at s.seen behind ∙ is.seen;
  kept = is.kept;
  loose = (behind, is.loose);
}

pub sync_fixed : (front : List ℕ) (s : DiskState) → IsFixed front s → IsFixed front (synced s)
sync_fixed front s is = record { seen = is.seen; kept = is.seen; loose = tt }

not_loose : (n place : ℕ) (ranges : List (ℕ × ℕ)) → place < n → Each (λ (range : ℕ × ℕ). n ≤ range.0) ranges → IsLoose ranges place → ⊥
not_loose n place [] before behind loose = loose
not_loose n place (range ∷ ranges) before behind (inl here) = absurd (omega (arith, here.0, behind.0))
not_loose n place (range ∷ ranges) before behind (inr there) = not_loose n place ranges before behind.1 there

pub stop_fixed : (front : List ℕ) (s : DiskState) (c : List ℕ) → IsFixed front s → MayLeave s c → take (length front) c ≡ front
stop_fixed front s c is left = same_number_lists (take n c) front size each
  where
    n : ℕ
    n = length front

    size : length (take n c) ≡ n
    size = omega (arith, length-take n c, left.no_shorter, long front s.kept is.kept)

    each : (k : ℕ) → k < length (take n c) → get_or (take n c) k 0 ≡ get_or front k 0
    each k lt =
        let before : k < n = omega (arith, lt, size) in
        let kept : get_or c k 0 ≡ get_or s.kept k 0 =
        ⊎_elim (λ loose. absurd (not_loose n k s.loose before is.loose loose)) (λ same. same) (left.same k (omega (arith, before, long front s.kept is.kept))) in
        get_or-take n c k 0 before ∙ kept ∙ sym (get_or-take n s.kept k 0 before) ∙ ap (λ (l : List ℕ). get_or l k 0) is.kept

-- all but one place

same_beside : (front rest : List ℕ) (g h k : ℕ) → (k ≡ length front → ⊥) → get_or (front ++ g ∷ rest) k 0 ≡ get_or (front ++ h ∷ rest) k 0
same_beside [] rest g h zero other = absurd (other refl)
same_beside [] rest g h (suc k) other = refl
same_beside (x ∷ front) rest g h zero other = refl
same_beside (x ∷ front) rest g h (suc k) other = same_beside front rest g h k (λ is. other (omega (arith, is)))

not_beside : (n place : ℕ) (ranges : List (ℕ × ℕ)) → (place ≡ n → ⊥) → Each (λ (range : ℕ × ℕ). (range.0 ≡ n) × (range.1 ≡ n + 1)) ranges → IsLoose ranges place → ⊥
not_beside n place [] other there loose = loose
not_beside n place (range ∷ ranges) other there (inl here) = other (omega (arith, here.0, here.1, there.0.0, there.0.1))
not_beside n place (range ∷ ranges) other there (inr more) = not_beside n place ranges other there.1 more

size_of : (front rest : List ℕ) (g : ℕ) → length (front ++ g ∷ rest) ≡ length front + 1 + length rest
size_of front rest g = omega (arith, length-append front (g ∷ rest))

front_of : (front rest : List ℕ) (g at : ℕ) (seen : List ℕ) → length front ≡ at → seen ≡ front ++ g ∷ rest → take at seen ≡ front
front_of front rest g at seen there is = ap (λ (l : List ℕ). take at l) is ∙ take_at front (g ∷ rest) at there

rest_of : (front rest : List ℕ) (g at : ℕ) (seen : List ℕ) → length front ≡ at → seen ≡ front ++ g ∷ rest → drop (at + 1) seen ≡ rest
rest_of front rest g at seen there is =
    ap (λ (l : List ℕ). drop (at + 1) l) (is ∙ sym (append_assoc front (g ∷ []) rest)) ∙ drop_at (front ++ g ∷ []) rest (at + 1) (omega (arith, there, length-append front (g ∷ [])))

put_gate : (front rest : List ℕ) (at : ℕ) (torn seen : List ℕ) → length front ≡ at → length torn ≤ 1 → (gate : ℕ) × (seen ≡ front ++ gate ∷ rest) → (gate : ℕ) × (overlay at torn seen ≡ front ++ gate ∷ rest)
put_gate front rest at [] seen there short is =
    let none : at + 0 ≡ at = omega arith in
    (is.0, ap (λ (n : ℕ). take at seen ++ drop n seen) none ∙ take-append-drop at seen ∙ is.1)
put_gate front rest at (x ∷ []) seen there short is =
    (x, ap (λ (l : List ℕ). l ++ x ∷ drop (at + 1) seen) (front_of front rest is.0 at seen there is.1) ∙ ap (λ (l : List ℕ). front ++ x ∷ l) (rest_of front rest is.0 at seen there is.1))
put_gate front rest at (x ∷ y ∷ torn) seen there short is = absurd (omega (arith, short))

pub write_but : (front rest : List ℕ) (at : ℕ) (torn : List ℕ) (s : DiskState) → length front ≡ at → length torn ≤ 1 → IsFixedBut front rest s → IsFixedBut front rest (wrote_to at torn (at + 1) s)
write_but front rest at torn s there short is = record {
  kept = is.kept;
  seen = put_gate front rest at torn s.seen there short is.seen;
  loose = ((sym there, ap (λ (n : ℕ). n + 1) (sym there)), is.loose);
  reach = omega (arith, is.reach, ap length is.kept.1, size_of front rest is.kept.0, there);
}

pub sync_but : (front rest : List ℕ) (s : DiskState) → IsFixedBut front rest s → IsFixedBut front rest (synced s)
sync_but front rest s is = record { kept = is.seen; seen = is.seen; loose = tt; reach = refl }

pub stop_but : (front rest : List ℕ) (s : DiskState) (c : List ℕ) → IsFixedBut front rest s → MayLeave s c → (gate : ℕ) × (c ≡ front ++ gate ∷ rest)
stop_but front rest s c is left = (gate, same_number_lists c (front ++ gate ∷ rest) size each)
  where
    n : ℕ
    n = length front

    gate : ℕ
    gate = get_or c n 0

    old : ℕ
    old = is.kept.0

    as_long : length c ≡ length s.kept
    as_long = omega (arith, left.no_shorter, left.no_longer, is.reach)

    size : length c ≡ length (front ++ gate ∷ rest)
    size = omega (arith, as_long, ap length is.kept.1, size_of front rest old, size_of front rest gate)

    other : (k : ℕ) → k < length c → (k ≡ n → ⊥) → get_or c k 0 ≡ get_or (front ++ gate ∷ rest) k 0
    other k lt beside =
        let kept : get_or c k 0 ≡ get_or s.kept k 0 = ⊎_elim (λ loose. absurd (not_beside n k s.loose beside is.loose loose)) (λ same. same) (left.same k (omega (arith, lt, as_long))) in
        kept ∙ ap (λ (l : List ℕ). get_or l k 0) is.kept.1 ∙ same_beside front rest old gate k beside

    each : (k : ℕ) → k < length c → get_or c k 0 ≡ get_or (front ++ gate ∷ rest) k 0
    each k lt = elim (cases_eq k n) [
      | inl here ↦ ap (λ (i : ℕ). get_or c i 0) here ∙ sym (ap (λ (i : ℕ). get_or (front ++ gate ∷ rest) i 0) here ∙ get_or_at front gate rest 0 n refl)
      | inr beside ↦ other k lt beside
    ]
