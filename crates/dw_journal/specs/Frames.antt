-- What a file of frames stands for.
use Rattle.std.specs.Prelude.{◌≡◌, ◌≢◌, ◌⊎◌, ◌<◌, ◌≤◌, ◌^◌, ℕ, List, [], ◌∷◌, ◌++◌, length}
use Rattle.std.specs.Int.{w64, to_be_bytes}
use Rattle.std.specs.FinMap as map
use Rattle.dw_outside.specs.declared.cell.Put.{Put}
use Rattle.dw_outside.specs.Tables.{Tables, applied}
use Rattle.dw_outside.specs.Disks.{Each}

-- a number in 8 bytes, big endian
abbrev pub number : ℕ → List ℕ
number n = to_be_bytes w64 n

-- bytes behind their count
abbrev pub text_bytes : List ℕ → List ℕ
text_bytes text = number (length text) ++ text

-- a put: the table in one byte, the key and the content
abbrev pub put_bytes : Put → List ℕ
put_bytes p = p.table ∷ (text_bytes p.key ++ text_bytes p.content)

abbrev pub puts_bytes : List Put → List ℕ
puts_bytes [] = []
puts_bytes (p ∷ ps) = put_bytes p ++ puts_bytes ps

-- the body of a frame: the number of puts, and each of them
abbrev pub body_of : List Put → List ℕ
body_of puts = number (length puts) ++ puts_bytes puts

-- a frame without its gate: the body behind its length
abbrev pub frame_of : List Put → List ℕ
frame_of puts = text_bytes (body_of puts)

-- puts that a frame may have
pub record IsBatch (puts : List Put) : Type 0 where
  pub tables : Each (λ (p : Put). p.table ≤ 3) puts
  pub small : length (body_of puts) < 2 ^ 64

-- frames one after another, each behind an open gate
abbrev pub open_frames : List (List ℕ) → List ℕ
open_frames [] = []
open_frames (frame ∷ frames) = 1 ∷ (frame ++ open_frames frames)

abbrev pub frames_of : List (List Put) → List (List ℕ)
frames_of [] = []
frames_of (puts ∷ batches) = frame_of puts ∷ frames_of batches

-- these frames stand open, and the gate after them is closed
pub record HoldsFrames (frames : List (List ℕ)) (file : List ℕ) : Type 0 where
  pub gate : ℕ
  pub rest : List ℕ
  pub closed : gate ≢ 1
  pub split : file ≡ open_frames frames ++ gate ∷ rest

-- the file holds these batches: their frames are those up to the first closed gate
pub record Holds (batches : List (List Put)) (file : List ℕ) : Type 0 where
  pub lawful : Each IsBatch batches
  pub frames : HoldsFrames (frames_of batches) file

-- a file of fewer than 2 bytes stands for no batch, and another for those it holds
abbrev pub StandsFor : List (List Put) → List ℕ → Type 0
StandsFor batches file = ((length file < 2) × (batches ≡ [])) ⊎ Holds batches file

-- the gate at this place is reached and open, and what follows it is no frame
pub record IsBadAt (at : ℕ) (file : List ℕ) : Type 0 where
  pub batches : List (List Put)
  pub rest : List ℕ
  pub lawful : Each IsBatch batches
  pub split : file ≡ open_frames (frames_of batches) ++ 1 ∷ rest
  pub place : at ≡ length (open_frames (frames_of batches))
  -- no frame stands there with a gate after it
  pub none : (puts : List Put) (gate : ℕ) (more : List ℕ) → IsBatch puts → rest ≡ frame_of puts ++ gate ∷ more → ⊥
  pub long : 2 ≤ length file

-- the tables after batches, one after another
abbrev pub tables_from : Tables → List (List Put) → Tables
tables_from t [] = t
tables_from t (puts ∷ batches) = tables_from (applied puts t) batches

abbrev pub tables_of : List (List Put) → Tables
tables_of batches = tables_from map.empty batches
