-- One batch more in a file, and in the tables.
use Rattle.std.proofs.Common.{◌≡◌, ℕ, zero, suc, ◌+◌, ◌-◌, ◌^◌, ◌<◌, ◌≤◌, min, Option, Some, None, List, [], ◌∷◌, ◌++◌, length, take, drop, refl, sym, ◌∙◌, ap, subst, arith, append_assoc, length-append, length-take, length-drop}
use Rattle.std.proofs.lemmas.List.{append-nil, drop_at, drop-take, drop-drop, take_at}
use Rattle.std.specs.FinMap as map
use Rattle.dw_outside.specs.declared.cell.Put.{Put}
use Rattle.dw_outside.specs.Tables.{Tables, applied}
use Rattle.dw_outside.specs.Disks.{DiskState, DiskModel, Each, Now}
use Rattle.dw_journal.specs.Frames.{text_bytes, body_of, frame_of, open_frames, frames_of, HoldsFrames, Holds, IsBatch, IsBadAt, tables_from, tables_of}
use Rattle.dw_journal.specs.Reading.{ShowsFrom, IsClosed, IsFramed, IsNoFrame, IsRead}
use Rattle.dw_journal.proofs.Framing.{open_more}
use Rattle.dw_journal.proofs.Bodies.{each_push}

pub frames_more : (batches : List (List Put)) (puts : List Put) → frames_of (batches ++ puts ∷ []) ≡ frames_of batches ++ frame_of puts ∷ []
frames_more [] puts = refl
frames_more (b ∷ batches) puts = ap (λ (l : List (List ℕ)). frame_of b ∷ l) (frames_more batches puts)

tables_from_more : (t : Tables) (batches : List (List Put)) (puts : List Put) → tables_from t (batches ++ puts ∷ []) ≡ applied puts (tables_from t batches)
tables_from_more t [] puts = refl
tables_from_more t (b ∷ batches) puts = tables_from_more (applied b t) batches puts

pub tables_more : (batches : List (List Put)) (puts : List Put) → tables_of (batches ++ puts ∷ []) ≡ applied puts (tables_of batches)
tables_more batches puts = tables_from_more map.empty batches puts

-- the file is read up to this place
pub record ReadTo (file : List ℕ) (place : ℕ) (found : Tables) : Type 0 where
  pub batches : List (List Put)
  pub lawful : Each IsBatch batches
  pub split : file ≡ open_frames (frames_of batches) ++ drop place file
  pub end : place ≡ length (open_frames (frames_of batches))
  pub tables : found ≡ tables_of batches
  pub inside : place < length file

pub read_first : (file : List ℕ) → 2 ≤ length file → ReadTo file 0 map.empty
read_first file long = record { batches = []; lawful = tt; split = drop_zero file; end = refl; tables = refl; inside = omega (arith, long) }
  where
    drop_zero : (l : List ℕ) → l ≡ drop 0 l
    drop_zero [] = refl
    drop_zero (x ∷ l) = refl

pub read_closed : (file : List ℕ) (place : ℕ) (found : Tables) → ReadTo file place found → IsClosed (drop place file) → IsRead file found place
read_closed file place found read closed = record {
  batches = read.batches;
  holds = record {
    lawful = read.lawful;
    frames = record { gate = closed.gate; rest = closed.more; closed = closed.closed; split = read.split ∙ ap (λ (l : List ℕ). open_frames (frames_of read.batches) ++ l) closed.split };
  };
  tables = read.tables;
  gate = read.end;
}

pub read_bad : (file : List ℕ) (place : ℕ) (found : Tables) → ReadTo file place found → IsNoFrame (drop place file) → 2 ≤ length file → IsBadAt place file
read_bad file place found read bad long = record {
  batches = read.batches;
  rest = bad.more;
  lawful = read.lawful;
  split = read.split ∙ ap (λ (l : List ℕ). open_frames (frames_of read.batches) ++ l) bad.split;
  place = read.end;
  none = bad.none;
  long = long;
}

pub read_next : (file : List ℕ) (place taken : ℕ) (found after : Tables) (puts : List Put) → ReadTo file place found → IsFramed puts (drop place file) → taken ≡ 1 + length (frame_of puts) → after ≡ applied puts found → ReadTo file (place + taken) after
read_next file place taken found after puts read framed size is =
    let front = open_frames (frames_of read.batches) in
    let next = read.batches ++ puts ∷ [] in
    let rest = framed.gate ∷ framed.more in
    let frames : open_frames (frames_of next) ≡ open_frames (frames_of read.batches ++ frame_of puts ∷ []) = ap open_frames (frames_more read.batches puts) in
    let whole : file ≡ open_frames (frames_of next) ++ rest =
    read.split ∙ ap (λ (l : List ℕ). front ++ l) framed.split ∙ sym (open_more (frames_of read.batches) (frame_of puts) rest) ∙ ap (λ (l : List ℕ). l ++ rest) (sym frames) in
    let long : length (open_frames (frames_of next)) ≡ place + taken =
    omega (arith, size, read.end, ap length whole, ap length read.split, ap length framed.split, length-append front (drop place file), length-append (open_frames (frames_of next)) rest, length-append (frame_of puts) rest) in
    let left : drop (place + taken) file ≡ rest = ap (λ (l : List ℕ). drop (place + taken) l) whole ∙ drop_at (open_frames (frames_of next)) rest (place + taken) long in
    record {
      batches = next;
      lawful = each_push IsBatch read.batches puts read.lawful framed.lawful;
      split = whole ∙ ap (λ (l : List ℕ). open_frames (frames_of next) ++ l) (sym left);
      end = sym long;
      tables = is ∙ ap (applied puts) read.tables ∙ sym (tables_more read.batches puts);
      inside = omega (arith, long, ap length whole, length-append (open_frames (frames_of next)) rest);
    }

drop_both : (taken place : ℕ) (bytes file : List ℕ) → bytes ≡ take (length bytes) (drop place file) → taken ≤ length bytes → drop taken bytes ≡ take (length (drop taken bytes)) (drop (place + taken) file)
drop_both taken place bytes file shown le =
    let n = length bytes in
    let left : taken + length (drop taken bytes) ≡ n = omega (arith, le, length-drop taken bytes) in
    ap (drop taken) shown ∙ ap (λ (k : ℕ). drop taken (take k (drop place file))) (sym left) ∙ drop-take taken (length (drop taken bytes)) (drop place file)
    ∙ ap (λ (l : List ℕ). take (length (drop taken bytes)) l) (drop-drop taken place file)

pub shows_next : (place taken start : ℕ) (items : List ℕ) (s : DiskState) → ShowsFrom place (drop start items) s → taken ≤ length (drop start items) → ShowsFrom (place + taken) (drop (start + taken) items) s
shows_next place taken start items s shown le =
    subst (λ (l : List ℕ). l ≡ take (length l) (drop (place + taken) s.seen)) (drop-drop taken start items) (drop_both taken place (drop start items) s.seen shown le)

-- after a frame, on the disk that tells its bytes
pub frame_read : (m : Option DiskModel) (size place taken next start : ℕ) (items : List ℕ) (found after : Tables) (puts : List Put) → size < 2 ^ 64 → Now (λ s. size ≡ length s.seen) m
    → Now (λ s. ReadTo s.seen place found) m → Now (λ s. IsFramed puts (drop place s.seen) × (taken ≡ 1 + length (frame_of puts))) m → Now (ShowsFrom place (drop start items)) m
    → taken ≤ length (drop start items) → after ≡ applied puts found → next ≡ min (place + taken) (2 ^ 64 - 1)
    → Now (λ s. ReadTo s.seen next after) m × Now (ShowsFrom next (drop (start + taken) items)) m
frame_read None size place taken next start items found after puts small sized read framed shown within is most = (tt, tt)
frame_read (Some m) size place taken next start items found after puts small sized read framed shown within is most =
    let more = read_next m.now.seen place taken found after puts read framed.0 framed.1 is in
    let same : place + taken ≡ next = omega (arith, more.inside, sized, small, most) in (
      subst (λ (n : ℕ). ReadTo m.now.seen n after) same more,
      subst (λ (n : ℕ). ShowsFrom n (drop (start + taken) items) m.now) same (shows_next place taken start items m.now shown within),
    )
