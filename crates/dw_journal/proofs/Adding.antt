-- A frame is added, from the clauses of its two steps alone.
use Rattle.std.proofs.Common.{◌≡◌, inl, ℕ, ◌+◌, ◌≤◌, List, [], ◌∷◌, ◌++◌, length, Option, Some, None, sym, ◌∙◌, ap, subst, arith}
use Rattle.dw_outside.specs.Disks.{DiskState, DiskModel, Now, Since, wrote, synced, after}
use Rattle.dw_journal.specs.Fixed.{IsFixed, IsFixedBut}
use Rattle.dw_journal.specs.Frames.{open_frames}
use Rattle.dw_journal.specs.Fixed.{Leaves, HoldsOrMore, IsAtRest}
use Rattle.dw_journal.proofs.Moments.{since_both, since_more}
use Rattle.dw_journal.proofs.Framing.{size_more, rest_leaves, but_leaves, staged, opened}

abbrev pub Fixes : ℕ → Option DiskModel → Option DiskModel → Type 0
Fixes gate old mid = (front : List ℕ) → length front ≤ gate + 1 → Now (IsFixed front) old → Since (IsFixed front) old mid

abbrev pub FixesBut : ℕ → Option DiskModel → Option DiskModel → Type 0
FixesBut gate mid new = (front rest : List ℕ) → length front ≡ gate → Now (IsFixedBut front rest) mid → Since (IsFixedBut front rest) mid new

module _ (frames : List (List ℕ)) (body : List ℕ) (gate : ℕ) (there : gate ≡ length (open_frames frames)) where
  abbrev Q : DiskState → Type 0
  Q = Leaves (HoldsOrMore frames body)

  pub first : (old mid : Option DiskModel) → Fixes gate old mid → Now (IsAtRest frames) old → Since Q old mid
  first None mid fixes now = fixes [] (omega arith) tt
  first (Some m) mid fixes now =
      let front = open_frames frames ++ now.gate ∷ [] in
      since_more (IsFixed front) Q (Some m) mid (λ s is. λ c left. inl (rest_leaves frames now.gate s now.closed is c left)) (fixes front (omega (arith, there, size_more (open_frames frames) now.gate)) now.fixed)

  second : (old mid new : Option DiskModel) → mid ≡ after synced (after (wrote (gate + 1) (body ++ 0 ∷ [])) old) → FixesBut gate mid new → Now (IsAtRest frames) old → Since Q mid new
  second None mid new is fixes now =
      since_more (IsFixedBut (open_frames frames) (body ++ 0 ∷ [])) Q mid new (λ s but. but_leaves frames body [] s but)
      (fixes (open_frames frames) (body ++ 0 ∷ []) (sym there) (subst (λ (m : Option DiskModel). Now (IsFixedBut (open_frames frames) (body ++ 0 ∷ [])) m) (sym is) tt))
  second (Some m) mid new is fixes now =
      let stands = staged frames now.gate gate body m.now there now.fixed in
      let P = IsFixedBut (open_frames frames) (body ++ 0 ∷ stands.0) in
      since_more P Q mid new (λ s but. but_leaves frames body stands.0 s but)
      (fixes (open_frames frames) (body ++ 0 ∷ stands.0) (sym there) (subst (λ (n : Option DiskModel). Now P n) (sym is) stands.1))

  pub both : (old mid new : Option DiskModel) (piece : List ℕ) → piece ≡ body ++ 0 ∷ [] → Fixes gate old mid → mid ≡ after synced (after (wrote (gate + 1) piece) old) → FixesBut gate mid new → Now (IsAtRest frames) old → Since Q old new
  both old mid new piece same fixes is opens now =
      since_both Q old mid new (first old mid fixes now) (second old mid new (subst (λ (l : List ℕ). mid ≡ after synced (after (wrote (gate + 1) l) old)) same is) opens now)

  ended : (old : Option DiskModel) → Now (IsAtRest frames) old → Now (IsAtRest (frames ++ body ∷ [])) (after synced (after (wrote gate (1 ∷ [])) (after synced (after (wrote (gate + 1) (body ++ 0 ∷ [])) old))))
  ended None now = tt
  ended (Some m) now =
      let stands = staged frames now.gate gate body m.now there now.fixed in
      opened frames body stands.0 gate _ there stands.1

  pub added : (old mid new : Option DiskModel) (piece : List ℕ) → piece ≡ body ++ 0 ∷ [] → mid ≡ after synced (after (wrote (gate + 1) piece) old) → new ≡ after synced (after (wrote gate (1 ∷ [])) mid) → Now (IsAtRest frames) old → Now (IsAtRest (frames ++ body ∷ [])) new
  added old mid new piece same is opens now =
      let whole = opens ∙ ap (λ (m : Option DiskModel). after synced (after (wrote gate (1 ∷ [])) m)) (is ∙ ap (λ (l : List ℕ). after synced (after (wrote (gate + 1) l) old)) same) in
      subst (λ (m : Option DiskModel). Now (IsAtRest (frames ++ body ∷ [])) m) (sym whole) (ended old now)
