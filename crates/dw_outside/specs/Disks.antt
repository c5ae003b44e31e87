-- What a disk holds, and what a stop may leave of it.
use Rattle.std.specs.Prelude.{◌≡◌, ◌⊎◌, ◌<◌, ◌≤◌, ◌+◌, ◌-◌, ℕ, List, [], ◌∷◌, ◌++◌, length, take, drop, get_or, max, Option, Some, None, ⊤}

-- a disk at one moment
pub record DiskState : Type 0 where
  -- what a read gives
  pub seen : List ℕ
  -- what it held at the last good sync
  pub kept : List ℕ
  -- the ranges written since then, each from a place up to before another, the last of them first
  pub loose : List (ℕ × ℕ)
  -- the greatest length since then
  pub reach : ℕ

-- a disk now, and its moments before, the last of them first
pub record DiskModel : Type 0 where
  pub now : DiskState
  pub past : List DiskState

-- one of the ranges has this place
abbrev pub IsLoose : List (ℕ × ℕ) → ℕ → Type 0
IsLoose [] place = ⊥
IsLoose (range ∷ ranges) place = ((range.0 ≤ place) × (place < range.1)) ⊎ IsLoose ranges place

-- A stop at this moment may leave this: what stood at the last good sync and was not written over stands, and all else may be any bytes.
pub record MayLeave (s : DiskState) (c : List ℕ) : Type 0 where
  pub no_shorter : length s.kept ≤ length c
  pub no_longer : length c ≤ s.reach
  pub same : (place : ℕ) → place < length s.kept → IsLoose s.loose place ⊎ (get_or c place 0 ≡ get_or s.kept place 0)

-- the list with these items at this place, over what was there
abbrev pub overlay : ℕ → List ℕ → List ℕ → List ℕ
overlay at bytes old = take at old ++ (bytes ++ drop (at + length bytes) old)

-- after a write that may have touched all up to before `end`
abbrev pub wrote_to : ℕ → List ℕ → ℕ → DiskState → DiskState
wrote_to at bytes end s = record { seen = overlay at bytes s.seen; kept = s.kept; loose = (at, end) ∷ s.loose; reach = max s.reach end }

-- after a write
abbrev pub wrote : ℕ → List ℕ → DiskState → DiskState
wrote at bytes s = wrote_to at bytes (at + length bytes) s

-- all of the contents is on the disk
abbrev pub settled : List ℕ → DiskState
settled bytes = record { seen = bytes; kept = bytes; loose = []; reach = length bytes }

-- after a good sync
abbrev pub synced : DiskState → DiskState
synced s = settled s.seen

-- one moment more
abbrev pub moved : (DiskState → DiskState) → DiskModel → DiskModel
moved f m = record { now = f m.now; past = m.now ∷ m.past }

-- one moment more, where the disk tells its model
abbrev pub after : (DiskState → DiskState) → Option DiskModel → Option DiskModel
after f None = None
after f (Some m) = Some (moved f m)

-- after a write of n bytes that failed: nothing was done, or some bytes stand in the range, all of which counts as written
abbrev pub IsTorn : ℕ → ℕ → Option DiskModel → Option DiskModel → Type 0
IsTorn at n old new = (new ≡ old) ⊎ ((torn : List ℕ) × (length torn ≤ n) × (new ≡ after (wrote_to at torn (at + n)) old))

-- the moment that is told has P
abbrev pub Now : (DiskState → Type 0) → Option DiskModel → Type 0
Now P None = ⊤
Now P (Some m) = P m.now

-- each of them has P
abbrev pub Each : {X : Type 0} → (X → Type 0) → List X → Type 0
Each P [] = ⊤
Each P (x ∷ xs) = P x × Each P xs

-- one of them has P
abbrev pub SomeOf : {X : Type 0} → (X → Type 0) → List X → Type 0
SomeOf P [] = ⊥
SomeOf P (x ∷ xs) = P x ⊎ SomeOf P xs

-- The meanings of a disk, read off its model. The model is told where the disk is honest.
abbrev pub IsHonest : Option DiskModel → Type 0
IsHonest None = ⊥
IsHonest (Some m) = ⊤

-- what a read gives, where told
abbrev pub contents : Option DiskModel → Option (List ℕ)
contents None = None
contents (Some m) = Some m.now.seen

-- a stop now may leave this
abbrev pub LeftNow : Option DiskModel → List ℕ → Type 0
LeftNow model c = Now (λ s. MayLeave s c) model

-- how many moments have been
abbrev pub moment : Option DiskModel → ℕ
moment None = 0
moment (Some m) = length m.past

-- a stop at the moment of that number, or at a later one, might have left this
abbrev pub LeftSince : ℕ → Option DiskModel → List ℕ → Type 0
LeftSince number None c = ⊤
LeftSince number (Some m) c = SomeOf (λ s. MayLeave s c) (take (length m.past + 1 - number) (m.now ∷ m.past))

-- what the first calls left are the past, and each moment after the old one has P
abbrev pub Since : (DiskState → Type 0) → Option DiskModel → Option DiskModel → Type 0
Since P None new = new ≡ None
Since P (Some m) None = ⊥
Since P (Some m) (Some n) = (added : List DiskState) × (Each P added) × (n.now ∷ n.past ≡ added ++ m.now ∷ m.past)
