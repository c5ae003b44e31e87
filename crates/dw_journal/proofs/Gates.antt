-- What stands at the gate of a journal, from the clauses of its steps alone.
use Rattle.std.proofs.Common.{◌≡◌, ◌⊎◌, inl, inr, ℕ, ◌+◌, ◌≤◌, List, [], ◌∷◌, ◌++◌, length, Bool, true, false, Option, Some, None, refl, sym, ◌∙◌, ap, subst, arith, length-append}
use Rattle.std.specs.Prelude.{is_some}
use Rattle.std.proofs.lemmas.List.{append-nil}
use Rattle.dw_outside.specs.Disks.{DiskState, DiskModel, Now, Since, wrote, synced, after}
use Rattle.dw_journal.specs.Frames.{open_frames, HoldsFrames}
use Rattle.dw_journal.specs.Fixed.{IsFixed, IsFixedBut, IsAtRest, Leaves, HoldsOrMore, StandsOn, CouldHold, GateStands}
use Rattle.dw_journal.proofs.Moments.{since_both, since_more, since_now, now_more}
use Rattle.dw_journal.proofs.Framing.{size_more, rest_leaves, but_leaves, staged, opened}
use Rattle.dw_journal.proofs.Adding.{Fixes, FixesBut, first, both, added}

pub stands_leaves : (frames : List (List ℕ)) (doubt : Option (List ℕ)) (s : DiskState) → StandsOn frames doubt s → Leaves (CouldHold frames doubt) s
stands_leaves frames None s rest c left = rest_leaves frames rest.gate s rest.closed rest.fixed c left
stands_leaves frames (Some frame) s but c left = but_leaves frames frame but.0 s but.1 c left

pub since_same : (P : DiskState → Type 0) (m : Option DiskModel) → Since P m m
since_same P None = refl
since_same P (Some m) = ([], tt, refl)

apart : (X : Type 0) → true ≡ false → X
apart X is = absurd (subst (λ (b : Bool). elim b as (λ _. Type 0) [ true ↦ Unit {0} | false ↦ ⊥ ]) is tt)

abbrev pub Closes : ℕ → Option DiskModel → Option DiskModel → Type 0
Closes gate old new = (frames : List (List ℕ)) (rest : List ℕ) → gate ≡ length (open_frames frames) → Now (IsFixedBut (open_frames frames) rest) old → Now (IsAtRest frames) new

module _ (frames : List (List ℕ)) (gate : ℕ) where
  -- a gate in doubt is closed
  pub closed_stands : (doubt : Option (List ℕ)) (old new : Option DiskModel) → Closes gate old new → GateStands old frames doubt gate true → GateStands new frames None gate false
  closed_stands None old new closes stands = apart _ stands.doubtful
  closed_stands (Some frame) None new closes stands = record { place = stands.place; doubtful = refl; disk = closes frames (frame ++ 0 ∷ []) stands.place tt }
  closed_stands (Some frame) (Some m) new closes stands = record { place = stands.place; doubtful = refl; disk = closes frames (frame ++ 0 ∷ stands.disk.0) stands.place stands.disk.1 }

  -- one that could not be closed stays in doubt
  pub doubt_since : (doubt : Option (List ℕ)) (old new : Option DiskModel) → FixesBut gate old new → GateStands old frames doubt gate true → Since (Leaves (CouldHold frames doubt)) old new
  doubt_since None old new fixes stands = apart _ stands.doubtful
  doubt_since (Some frame) None new fixes stands = fixes (open_frames frames) [] (sym stands.place) tt
  doubt_since (Some frame) (Some m) new fixes stands =
      let rest = frame ++ 0 ∷ stands.disk.0 in
      since_more (IsFixedBut (open_frames frames) rest) (Leaves (CouldHold frames (Some frame))) (Some m) new (λ s but. but_leaves frames frame stands.disk.0 s but) (fixes (open_frames frames) rest (sym stands.place) stands.disk.1)

  pub doubt_stays : (doubt : Option (List ℕ)) (old new : Option DiskModel) → FixesBut gate old new → GateStands old frames doubt gate true → GateStands new frames doubt gate true
  doubt_stays None old new fixes stands = apart _ stands.doubtful
  doubt_stays (Some frame) None new fixes stands =
      record { place = stands.place; doubtful = refl; disk = subst (λ (m : Option DiskModel). Now (StandsOn frames (Some frame)) m) (sym (fixes (open_frames frames) [] (sym stands.place) tt)) tt }
  doubt_stays (Some frame) (Some m) new fixes stands =
      let rest = frame ++ 0 ∷ stands.disk.0 in
      let P = IsFixedBut (open_frames frames) rest in
      record {
        place = stands.place;
        doubtful = refl;
        disk = now_more P (StandsOn frames (Some frame)) new (λ s but. (stands.disk.0, but)) (since_now P (Some m) new stands.disk.1 (fixes (open_frames frames) rest (sym stands.place) stands.disk.1));
      }

  -- where it is not in doubt
  pub sure_stands : (doubt : Option (List ℕ)) (old : Option DiskModel) → GateStands old frames doubt gate false → GateStands old frames None gate false
  sure_stands None old stands = stands
  sure_stands (Some frame) old stands = apart _ (sym stands.doubtful)

  module _ (body : List ℕ) where
    -- the frame could not be written
    pub rest_stays : (old new : Option DiskModel) (in_doubt : Bool) → Fixes gate old new → GateStands old frames None gate in_doubt → GateStands new frames None gate in_doubt
    rest_stays None new in_doubt fixes stands =
        record { place = stands.place; doubtful = stands.doubtful; disk = subst (λ (m : Option DiskModel). Now (IsAtRest frames) m) (sym (fixes [] (omega arith) tt)) tt }
    rest_stays (Some m) new in_doubt fixes stands =
        let rest = stands.disk in
        let front = open_frames frames ++ rest.gate ∷ [] in
        let P = IsFixed front in
        record {
          place = stands.place;
          doubtful = stands.doubtful;
          disk = now_more P (IsAtRest frames) new (λ s is. record { gate = rest.gate; closed = rest.closed; fixed = is }) (since_now P (Some m) new rest.fixed (fixes front (omega (arith, stands.place, size_more (open_frames frames) rest.gate)) rest.fixed));
        }

    -- its gate could not be opened
    pub now_in_doubt : (old mid new : Option DiskModel) (piece : List ℕ) (in_doubt : Bool) → piece ≡ body ++ 0 ∷ [] → mid ≡ after synced (after (wrote (gate + 1) piece) old) → FixesBut gate mid new
        → GateStands old frames None gate in_doubt → GateStands new frames (Some body) gate true
    now_in_doubt None mid new piece in_doubt same is fixes stands =
        let none : mid ≡ None = is in
        let front = open_frames frames in
        let told = fixes front [] (sym stands.place) (subst (λ (m : Option DiskModel). Now (IsFixedBut front []) m) (sym none) tt) in
        let gone : new ≡ None = subst (λ (m : Option DiskModel). Since (IsFixedBut front []) m new) none told in
        record { place = stands.place; doubtful = refl; disk = subst (λ (m : Option DiskModel). Now (StandsOn frames (Some body)) m) (sym gone) tt }
    now_in_doubt (Some m) mid new piece in_doubt same is fixes stands =
        let whole = is ∙ ap (λ (l : List ℕ). after synced (after (wrote (gate + 1) l) (Some m))) same in
        let there = staged frames stands.disk.gate gate body m.now stands.place stands.disk.fixed in
        let P = IsFixedBut (open_frames frames) (body ++ 0 ∷ there.0) in
        let middle : Now P mid = subst (λ (n : Option DiskModel). Now P n) (sym whole) there.1 in
        record {
          place = stands.place;
          doubtful = refl;
          disk = now_more P (StandsOn frames (Some body)) new (λ s but. (there.0, but)) (since_now P mid new middle (fixes (open_frames frames) (body ++ 0 ∷ there.0) (sym stands.place) middle));
        }

    open_length : (fs : List (List ℕ)) → length (open_frames (fs ++ body ∷ [])) ≡ length (open_frames fs) + 1 + length body
    open_length [] = omega (arith, ap length (append-nil body))
    open_length (f ∷ fs) = omega (arith, length-append f (open_frames fs), length-append f (open_frames (fs ++ body ∷ [])), open_length fs)

    -- both are on the disk
    pub now_added : (old mid new : Option DiskModel) (piece : List ℕ) (in_doubt : Bool) (next : ℕ) → piece ≡ body ++ 0 ∷ [] → mid ≡ after synced (after (wrote (gate + 1) piece) old) → new ≡ after synced (after (wrote gate (1 ∷ [])) mid)
        → next ≡ gate + length piece → GateStands old frames None gate in_doubt → GateStands new (frames ++ body ∷ []) None next false
    now_added old mid new piece in_doubt next same is opens place stands = record {
      place = omega (arith, place, ap length same, length-append body (0 ∷ []), open_length frames, stands.place);
      doubtful = refl;
      disk = added frames body gate stands.place old mid new piece same is opens stands.disk;
    }

could_more : (frames : List (List ℕ)) (doubt : Option (List ℕ)) (c : List ℕ) → HoldsFrames frames c → CouldHold frames doubt c
could_more frames None c holds = holds
could_more frames (Some frame) c holds = inl holds

abbrev pub Around : List (List ℕ) → Option (List ℕ) → List ℕ → DiskState → Type 0
Around frames doubt body = Leaves (λ (c : List ℕ). CouldHold frames doubt c ⊎ HoldsFrames (frames ++ body ∷ []) c)

pub since_settling : (frames : List (List ℕ)) (doubt : Option (List ℕ)) (body : List ℕ) (old new : Option DiskModel) → Since (Leaves (CouldHold frames doubt)) old new → Since (Around frames doubt body) old new
since_settling frames doubt body old new since = since_more (Leaves (CouldHold frames doubt)) (Around frames doubt body) old new (λ s leaves. λ c left. inl (leaves c left)) since

pub since_adding : (frames : List (List ℕ)) (doubt : Option (List ℕ)) (body : List ℕ) (old mid new : Option DiskModel) → Since (Leaves (CouldHold frames doubt)) old mid → Since (Leaves (HoldsOrMore frames body)) mid new → Since (Around frames doubt body) old new
since_adding frames doubt body old mid new settles adds =
    since_both (Around frames doubt body) old mid new (since_settling frames doubt body old mid settles)
    (since_more (Leaves (HoldsOrMore frames body)) (Around frames doubt body) mid new (λ s leaves. λ c left. elim (leaves c left) [ inl holds ↦ inl (could_more frames doubt c holds) | inr more ↦ inr more ]) adds)
