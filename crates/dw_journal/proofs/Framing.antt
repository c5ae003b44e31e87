-- What a stop leaves of a file of frames.
use Rattle.std.proofs.Common.{◌≡◌, ◌≢◌, inl, inr, ℕ, ◌+◌, List, [], ◌∷◌, ◌++◌, length, take, drop, Option, Some, None, refl, sym, ◌∙◌, ap, subst, arith, append_assoc, length-append, take-append-drop}
use Rattle.std.proofs.lemmas.List.{append-nil, take_at, drop_at}
use Rattle.std.proofs.lemmas.Bool.{cases_eq}
use Rattle.dw_outside.specs.Disks.{DiskState, DiskModel, Now, overlay, wrote, synced, after}
use Rattle.dw_journal.specs.Fixed.{IsFixed, IsFixedBut}
use Rattle.dw_journal.specs.Frames.{open_frames, HoldsFrames}
use Rattle.dw_journal.specs.Fixed.{Leaves, HoldsOrMore, IsAtRest}
use Rattle.dw_journal.proofs.Fixed.{stop_fixed, stop_but}

pub size_more : (xs : List ℕ) (x : ℕ) → length (xs ++ x ∷ []) ≡ length xs + 1
size_more xs x = length-append xs (x ∷ [])

pub open_more : (frames : List (List ℕ)) (frame rest : List ℕ) → open_frames (frames ++ frame ∷ []) ++ rest ≡ open_frames frames ++ 1 ∷ (frame ++ rest)
open_more [] frame rest = ap (λ (l : List ℕ). 1 ∷ (l ++ rest)) (append-nil frame)
open_more (f ∷ frames) frame rest =
    ap (λ (l : List ℕ). 1 ∷ l) (append_assoc f (open_frames (frames ++ frame ∷ [])) rest ∙ ap (λ (l : List ℕ). f ++ l) (open_more frames frame rest) ∙ sym (append_assoc f (open_frames frames) (1 ∷ (frame ++ rest))))

-- what starts with the frames and a closed gate
from_front : (frames : List (List ℕ)) (gate : ℕ) (c : List ℕ) → gate ≢ 1 → take (length (open_frames frames ++ gate ∷ [])) c ≡ open_frames frames ++ gate ∷ [] → HoldsFrames frames c
from_front frames gate c closed is =
    let n = length (open_frames frames ++ gate ∷ []) in
    record {
      gate = gate;
      rest = drop n c;
      closed = closed;
      split = sym (take-append-drop n c) ∙ ap (λ (l : List ℕ). l ++ drop n c) is ∙ append_assoc (open_frames frames) (gate ∷ []) (drop n c);
    }

pub rest_leaves : (frames : List (List ℕ)) (gate : ℕ) (s : DiskState) → gate ≢ 1 → IsFixed (open_frames frames ++ gate ∷ []) s → Leaves (HoldsFrames frames) s
rest_leaves frames gate s closed is c left = from_front frames gate c closed (stop_fixed _ s c is left)

-- a gate that may be open, before a frame that stands with a closed gate after it
pub but_leaves : (frames : List (List ℕ)) (frame more : List ℕ) (s : DiskState) → IsFixedBut (open_frames frames) (frame ++ 0 ∷ more) s → Leaves (HoldsOrMore frames frame) s
but_leaves frames frame more s is c left =
    let stands = stop_but (open_frames frames) (frame ++ 0 ∷ more) s c is left in
    elim (cases_eq stands.0 1) [
      | inl opened ↦ inr (record {
        gate = 0;
        rest = more;
        closed = λ same. absurd (omega (arith, same));
        split = stands.1 ∙ ap (λ (g : ℕ). open_frames frames ++ g ∷ (frame ++ 0 ∷ more)) opened ∙ sym (open_more frames frame (0 ∷ more));
      })
      | inr shut ↦ inl (record { gate = stands.0; rest = frame ++ 0 ∷ more; closed = shut; split = stands.1 })
    ]

-- once the frame stands behind the gate, on the disk
pub staged : (frames : List (List ℕ)) (gate at : ℕ) (frame : List ℕ) (s : DiskState) → at ≡ length (open_frames frames) → IsFixed (open_frames frames ++ gate ∷ []) s
    → (more : List ℕ) × IsFixedBut (open_frames frames) (frame ++ 0 ∷ more) (synced (wrote (at + 1) (frame ++ 0 ∷ []) s))
staged frames gate at frame s there is =
    let front = open_frames frames in
    let piece = frame ++ 0 ∷ [] in
    let more = drop (at + 1 + length piece) s.seen in
    let long : at + 1 ≡ length (front ++ gate ∷ []) = omega (arith, there, size_more front gate) in
    let whole : overlay (at + 1) piece s.seen ≡ front ++ gate ∷ (frame ++ 0 ∷ more) =
    ap (λ (n : ℕ). take n s.seen ++ (piece ++ more)) long ∙ ap (λ (l : List ℕ). l ++ (piece ++ more)) is.seen ∙ append_assoc front (gate ∷ []) (piece ++ more)
    ∙ ap (λ (l : List ℕ). front ++ gate ∷ l) (append_assoc frame (0 ∷ []) more) in
    (more, record { kept = (gate, whole); seen = (gate, whole); loose = tt; reach = refl })

-- once its gate is open on the disk
pub opened : (frames : List (List ℕ)) (frame more : List ℕ) (at : ℕ) (s : DiskState) → at ≡ length (open_frames frames) → IsFixedBut (open_frames frames) (frame ++ 0 ∷ more) s
    → IsAtRest (frames ++ frame ∷ []) (synced (wrote at (1 ∷ []) s))
opened frames frame more at s there is =
    let front = open_frames frames in
    let next = open_frames (frames ++ frame ∷ []) in
    let old = is.seen.0 in
    let rest = frame ++ 0 ∷ more in
    let before : take at s.seen ≡ front = ap (λ (l : List ℕ). take at l) is.seen.1 ∙ take_at front (old ∷ rest) at (sym there) in
    let behind : drop (at + 1) s.seen ≡ rest =
    ap (λ (l : List ℕ). drop (at + 1) l) (is.seen.1 ∙ sym (append_assoc front (old ∷ []) rest)) ∙ drop_at (front ++ old ∷ []) rest (at + 1) (omega (arith, there, size_more front old)) in
    let whole : overlay at (1 ∷ []) s.seen ≡ (next ++ 0 ∷ []) ++ more =
    ap (λ (l : List ℕ). l ++ 1 ∷ drop (at + 1) s.seen) before ∙ ap (λ (l : List ℕ). front ++ 1 ∷ l) behind ∙ sym (open_more frames frame (0 ∷ more)) ∙ sym (append_assoc next (0 ∷ []) more) in
    let stands : take (length (next ++ 0 ∷ [])) (overlay at (1 ∷ []) s.seen) ≡ next ++ 0 ∷ [] =
    ap (λ (l : List ℕ). take (length (next ++ 0 ∷ [])) l) whole ∙ take_at (next ++ 0 ∷ []) more (length (next ++ 0 ∷ [])) refl in
    record { gate = 0; closed = λ same. absurd (omega (arith, same)); fixed = record { seen = stands; kept = stands; loose = tt } }

-- once that gate is closed on the disk
pub shut_again : (frames : List (List ℕ)) (rest : List ℕ) (at : ℕ) (s : DiskState) → at ≡ length (open_frames frames) → IsFixedBut (open_frames frames) rest s → IsAtRest frames (synced (wrote at (0 ∷ []) s))
shut_again frames rest at s there is =
    let front = open_frames frames in
    let before : take at s.seen ≡ front = ap (λ (l : List ℕ). take at l) is.seen.1 ∙ take_at front (is.seen.0 ∷ rest) at (sym there) in
    let more = drop (at + 1) s.seen in
    let whole : overlay at (0 ∷ []) s.seen ≡ (front ++ 0 ∷ []) ++ more = ap (λ (l : List ℕ). l ++ 0 ∷ more) before ∙ sym (append_assoc front (0 ∷ []) more) in
    let stands : take (length (front ++ 0 ∷ [])) (overlay at (0 ∷ []) s.seen) ≡ front ++ 0 ∷ [] =
    ap (λ (l : List ℕ). take (length (front ++ 0 ∷ [])) l) whole ∙ take_at (front ++ 0 ∷ []) more (length (front ++ 0 ∷ [])) refl in
    record { gate = 0; closed = λ same. absurd (omega (arith, same)); fixed = record { seen = stands; kept = stands; loose = tt } }

pub closed_again : (frames : List (List ℕ)) (rest : List ℕ) (at : ℕ) (old new : Option DiskModel) → at ≡ length (open_frames frames) → Now (IsFixedBut (open_frames frames) rest) old → new ≡ after synced (after (wrote at (0 ∷ [])) old) → Now (IsAtRest frames) new
closed_again frames rest at None new there now is = subst (λ (m : Option DiskModel). Now (IsAtRest frames) m) (sym is) tt
closed_again frames rest at (Some m) new there now is = subst (λ (n : Option DiskModel). Now (IsAtRest frames) n) (sym is) (shut_again frames rest at m.now there now)
