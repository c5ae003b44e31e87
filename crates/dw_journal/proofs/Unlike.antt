-- One file holds one list of batches, and then no gate of it is bad.
use Rattle.std.proofs.Common.{◌≡◌, ◌≢◌, inl, inr, ℕ, ◌+◌, ◌<◌, ◌≤◌, List, [], ◌∷◌, ◌++◌, length, drop, refl, sym, ◌∙◌, ap, subst, arith, append_assoc, length-append}
use Rattle.dw_outside.specs.declared.cell.Put.{Put}
use Rattle.dw_outside.specs.Disks.{Each}
use Rattle.dw_journal.specs.Frames.{open_frames, frames_of, frame_of, HoldsFrames, Holds, StandsFor, IsBatch, IsBadAt}
use Rattle.dw_journal.proofs.Codes.{head, frame_split}

-- what stands behind an open gate
behind : (f : List ℕ) (fs : List (List ℕ)) (x r : List ℕ) → open_frames (f ∷ fs) ++ x ≡ 1 ∷ r → f ++ (open_frames fs ++ x) ≡ r
behind f fs x r is = sym (append_assoc f (open_frames fs) x) ∙ ap (drop 1) is

next_gate : (fs : List (List ℕ)) (g : ℕ) (r : List ℕ) → (h : ℕ) × (more : List ℕ) × (open_frames fs ++ g ∷ r ≡ h ∷ more)
next_gate [] g r = (g, r, refl)
next_gate (f ∷ fs) g r = (1, (f ++ open_frames fs) ++ g ∷ r, refl)

apart_batches : (ones bs : List (List Put)) (g : ℕ) (r q : List ℕ) → Each IsBatch ones → Each IsBatch bs → g ≢ 1 → open_frames (frames_of ones) ++ g ∷ r ≡ open_frames (frames_of bs) ++ 1 ∷ q
    → ((puts : List Put) (h : ℕ) (more : List ℕ) → IsBatch puts → q ≡ frame_of puts ++ h ∷ more → ⊥) → ⊥
apart_batches [] [] g r q lawful too closed is none = closed (ap head is)
apart_batches [] (b ∷ bs) g r q lawful too closed is none = closed (ap head is)
apart_batches (a ∷ ones) [] g r q lawful too closed is none =
    let next = next_gate (frames_of ones) g r in
    none a next.0 next.1 lawful.0 (sym (behind (frame_of a) (frames_of ones) (g ∷ r) q is) ∙ ap (λ (l : List ℕ). frame_of a ++ l) next.2)
apart_batches (a ∷ ones) (b ∷ bs) g r q lawful too closed is none =
    let both = behind (frame_of a) (frames_of ones) (g ∷ r) ((frame_of b ++ open_frames (frames_of bs)) ++ 1 ∷ q) is ∙ append_assoc (frame_of b) (open_frames (frames_of bs)) (1 ∷ q) in
    apart_batches ones bs g r q lawful.1 too.1 closed (frame_split a b (open_frames (frames_of ones) ++ g ∷ r) (open_frames (frames_of bs) ++ 1 ∷ q) lawful.0 too.0 both).1 none

same_batches : (ones bs : List (List Put)) (g h : ℕ) (r q : List ℕ) → Each IsBatch ones → Each IsBatch bs → g ≢ 1 → h ≢ 1 → open_frames (frames_of ones) ++ g ∷ r ≡ open_frames (frames_of bs) ++ h ∷ q → ones ≡ bs
same_batches [] [] g h r q lawful too closed also is = refl
same_batches [] (b ∷ bs) g h r q lawful too closed also is = absurd (closed (ap head is))
same_batches (a ∷ ones) [] g h r q lawful too closed also is = absurd (also (sym (ap head is)))
same_batches (a ∷ ones) (b ∷ bs) g h r q lawful too closed also is =
    let both = behind (frame_of a) (frames_of ones) (g ∷ r) ((frame_of b ++ open_frames (frames_of bs)) ++ h ∷ q) is ∙ append_assoc (frame_of b) (open_frames (frames_of bs)) (h ∷ q) in
    let parts = frame_split a b (open_frames (frames_of ones) ++ g ∷ r) (open_frames (frames_of bs) ++ h ∷ q) lawful.0 too.0 both in
    ap (λ (p : List Put). p ∷ ones) parts.0 ∙ ap (λ (ps : List (List Put)). b ∷ ps) (same_batches ones bs g h r q lawful.1 too.1 closed also parts.1)

pub holds_not_bad : (batches : List (List Put)) (file : List ℕ) (at : ℕ) → StandsFor batches file → IsBadAt at file → ⊥
holds_not_bad batches file at (inl short) bad = absurd (omega (arith, short.0, bad.long))
holds_not_bad batches file at (inr holds) bad =
    apart_batches batches bad.batches holds.frames.gate holds.frames.rest bad.rest holds.lawful bad.lawful holds.frames.closed (sym holds.frames.split ∙ bad.split) bad.none

no_batch : (bs : List (List Put)) (file : List ℕ) → length file < 2 → Holds bs file → bs ≡ []
no_batch [] file short holds = refl
no_batch (b ∷ bs) file short holds =
    absurd (omega (arith, short, ap length holds.frames.split, length-append (open_frames (frames_of (b ∷ bs))) (holds.frames.gate ∷ holds.frames.rest)))

pub one_reading : (ones bs : List (List Put)) (file : List ℕ) → StandsFor ones file → StandsFor bs file → ones ≡ bs
one_reading ones bs file (inl short) (inl also) = short.1 ∙ sym also.1
one_reading ones bs file (inl short) (inr holds) = short.1 ∙ sym (no_batch bs file short.0 holds)
one_reading ones bs file (inr holds) (inl short) = no_batch ones file short.0 holds ∙ sym short.1
one_reading ones bs file (inr holds) (inr also) =
    same_batches ones bs holds.frames.gate also.frames.gate holds.frames.rest also.frames.rest holds.lawful also.lawful holds.frames.closed also.frames.closed (sym holds.frames.split ∙ also.frames.split)

abbrev pub NoFrame : List ℕ → Type 0
NoFrame rest = (puts : List Put) (gate : ℕ) (more : List ℕ) → IsBatch puts → rest ≡ frame_of puts ++ gate ∷ more → ⊥

bad_places : (ones others : List (List Put)) (r q : List ℕ) → Each IsBatch ones → Each IsBatch others → open_frames (frames_of ones) ++ 1 ∷ r ≡ open_frames (frames_of others) ++ 1 ∷ q → NoFrame r → NoFrame q
    → length (open_frames (frames_of ones)) ≡ length (open_frames (frames_of others))
bad_places [] [] r q lawful too is none also = refl
bad_places [] (b ∷ bs) r q lawful too is none also =
    let next = next_gate (frames_of bs) 1 q in
    absurd (none b next.0 next.1 too.0 (sym (behind (frame_of b) (frames_of bs) (1 ∷ q) r (sym is)) ∙ ap (λ (l : List ℕ). frame_of b ++ l) next.2))
bad_places (a ∷ ones) [] r q lawful too is none also =
    let next = next_gate (frames_of ones) 1 r in
    absurd (also a next.0 next.1 lawful.0 (sym (behind (frame_of a) (frames_of ones) (1 ∷ r) q is) ∙ ap (λ (l : List ℕ). frame_of a ++ l) next.2))
bad_places (a ∷ ones) (b ∷ bs) r q lawful too is none also =
    let both = behind (frame_of a) (frames_of ones) (1 ∷ r) ((frame_of b ++ open_frames (frames_of bs)) ++ 1 ∷ q) is ∙ append_assoc (frame_of b) (open_frames (frames_of bs)) (1 ∷ q) in
    let parts = frame_split a b (open_frames (frames_of ones) ++ 1 ∷ r) (open_frames (frames_of bs) ++ 1 ∷ q) lawful.0 too.0 both in
    let more = bad_places ones bs r q lawful.1 too.1 parts.1 none also in
    omega (arith, more, ap (λ (p : List Put). length (frame_of p)) parts.0, length-append (frame_of a) (open_frames (frames_of ones)), length-append (frame_of b) (open_frames (frames_of bs)))

pub one_bad_place : (at other : ℕ) (file : List ℕ) → IsBadAt at file → IsBadAt other file → at ≡ other
one_bad_place at other file bad too = bad.place ∙ bad_places bad.batches too.batches bad.rest too.rest bad.lawful too.lawful (sym bad.split ∙ too.split) bad.none too.none ∙ sym too.place
