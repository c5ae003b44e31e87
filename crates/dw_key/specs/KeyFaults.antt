-- Why bytes are not the code of a key. `Code` says which lists are codes; a list is the beginning of a code if some list behind it makes it one.
use Rattle.std.specs.Prelude.{◌≡◌, ◌≢◌, ℕ, ◌<◌, ◌^◌, List, [], ◌∷◌, ◌++◌, length, Result, Ok, Err, MatchResult}
use Rattle.std.specs.List.{AllByRecursion}
use Rattle.dw_key.specs.KeyCode.{code_of, code, escaped, stamp_code, AreBytes, IsKey, IsCode}
use Rattle.dw_key.specs.declared.key.Key.{Key}
use Rattle.dw_key.specs.declared.decoding.BadKey.{BadKey}
use Rattle.dw_key.specs.declared.decoding.BadKey.TheVariants.{Cut, Escape, Tail, OutOfMemory}

module _ (Code : List ℕ → Type 0) where
  -- more bytes, or none, make it a code
  abbrev pub BeginsCode : List ℕ → Type 0
  BeginsCode bytes = (more : List ℕ) × Code (bytes ++ more)

  -- one byte more at least makes it a code
  abbrev pub IsCut : List ℕ → Type 0
  IsCut bytes = (more : List ℕ) × (0 < length more) × Code (bytes ++ more)

  -- a code stands in front, and one byte at least behind it
  abbrev pub HasTail : List ℕ → Type 0
  HasTail bytes = (front : List ℕ) × (tail : List ℕ) × Code front × (0 < length tail) × (bytes ≡ front ++ tail)

  -- up to a byte 0 they are the beginning of a code; with the byte behind it, neither 0 nor 255, they are the beginning of none
  pub record HasEscape (bytes : List ℕ) : Type 0 where
    pub before : List ℕ
    pub byte : ℕ
    pub after : List ℕ
    pub place : bytes ≡ before ++ 0 ∷ byte ∷ after
    pub begins : IsCut (before ++ 0 ∷ [])
    pub stops : ¬ BeginsCode (before ++ 0 ∷ byte ∷ [])
    pub other : (byte ≢ 0) × (byte ≢ 255)

  -- what an error says of the bytes
  abbrev pub IsFault : List ℕ → BadKey → Type 0
  IsFault bytes Cut = IsCut bytes
  IsFault bytes Escape = HasEscape bytes
  IsFault bytes Tail = HasTail bytes
  IsFault bytes OutOfMemory = ⊥

-- the codes of n parts and a stamp
pub record IsCodeOf (n : ℕ) (bytes : List ℕ) : Type 0 where
  pub parts : List (List ℕ)
  pub stamp : ℕ
  pub count : length parts ≡ n
  pub are_bytes : AllByRecursion AreBytes parts
  pub stamp_fits : stamp < 2 ^ 64
  pub spelled : bytes ≡ code_of parts stamp

-- the text of a part with its bytes 0 escaped
abbrev pub IsEscaped : List ℕ → Type 0
IsEscaped text = (part : List ℕ) × (text ≡ escaped part)

-- four parts, still escaped and each behind it its end, and then the stamp
pub record IsSplit (bytes row family qualifier vis : List ℕ) (stamp : ℕ) : Type 0 where
  pub whole : bytes ≡ row ++ 0 ∷ 0 ∷ (family ++ 0 ∷ 0 ∷ (qualifier ++ 0 ∷ 0 ∷ (vis ++ 0 ∷ 0 ∷ stamp_code stamp)))
  pub row_escaped : IsEscaped row
  pub family_escaped : IsEscaped family
  pub qualifier_escaped : IsEscaped qualifier
  pub vis_escaped : IsEscaped vis
  pub stamp_fits : stamp < 2 ^ 64

-- the key that four escaped parts and a stamp spell
pub record Spells (row family qualifier vis : List ℕ) (stamp : ℕ) (key : Key) : Type 0 where
  pub of_row : row ≡ escaped key.row
  pub of_family : family ≡ escaped key.family
  pub of_qualifier : qualifier ≡ escaped key.qualifier
  pub of_vis : vis ≡ escaped key.vis
  pub of_stamp : stamp ≡ key.stamp

-- what an error of decoding says of the bytes: their fault, and of want of memory that they are a code
abbrev pub IsCause : List ℕ → BadKey → Type 0
IsCause bytes Cut = IsCut IsCode bytes
IsCause bytes Escape = HasEscape IsCode bytes
IsCause bytes Tail = HasTail IsCode bytes
IsCause bytes OutOfMemory = IsCode bytes

-- what the result of decoding says of the bytes
abbrev pub IsDecoded : List ℕ → Result Key BadKey → Type 0
IsDecoded bytes (Ok key) = IsKey key × (bytes ≡ code key)
IsDecoded bytes (Err e) = IsCause bytes e

-- where the bytes are the code of a key, the result is that key, unless memory ran out
abbrev pub GivesTheKey : List ℕ → Result Key BadKey → Type 0
GivesTheKey bytes result = (key : Key) → key.stamp < 2 ^ 64 → bytes ≡ code key → MatchResult result (λ found. found ≡ key) (λ e. e ≡ OutOfMemory)
