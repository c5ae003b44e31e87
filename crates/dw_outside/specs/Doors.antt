-- The links of a door.
use Rattle.std.specs.Prelude.{◌≡◌, ℕ, Bool, true, false, List, [], ◌∷◌, ◌++◌, drop, Option, Some, None, Result, Ok, Err}
use Rattle.dw_outside.specs.Faults.{one_more}
use Rattle.dw_outside.specs.Links.{Meaning}
use Rattle.dw_outside.specs.Memory.{MemoryLink}

-- the meaning of the link that a call gave, where it gave one
abbrev pub admitted : {L E : Type 0} → (L → Meaning) → Result (Option L) E → List Meaning
admitted meaning (Ok (Some link)) = meaning link ∷ []
admitted meaning (Ok None) = []
admitted meaning (Err e) = []

-- whether a call gave a link
abbrev pub lets_out : {L E : Type 0} → Result (Option L) E → Bool
lets_out (Ok (Some link)) = true
lets_out (Ok None) = false
lets_out (Err e) = false

-- the links, and then those of the door, where it tells them
abbrev pub before_links : List Meaning → Option (List Meaning) → Option (List Meaning)
before_links links None = None
before_links links (Some more) = Some (links ++ more)

-- those of the door, where it tells them, and then the links
abbrev pub after_links : Option (List Meaning) → List Meaning → Option (List Meaning)
after_links None links = None
after_links (Some first) links = Some (first ++ links)

-- no link is told to come
abbrev pub NoneToCome : Option (List Meaning) → Type 0
NoneToCome None = Unit {0}
NoneToCome (Some links) = links ≡ []

-- a door in memory
pub record MemoryDoor : Type 0 where
  pub coming : List MemoryLink
  pub past : List MemoryLink
  pub out : Bool
  pub fail_calls : List ℕ
  pub calls : ℕ
  pub faults : ℕ

-- one place for the link that is out
abbrev pub out_count : Bool → ℕ
out_count true = 1
out_count false = 0

-- the door after a call of `admit`: the link given is out, and an error is counted
abbrev pub door_after : {E : Type 0} → MemoryDoor → Result (Option MemoryLink) E → MemoryDoor
door_after door (Ok (Some link)) = record door { coming = drop 1 door.coming; out = true; calls = one_more door.calls }
door_after door (Ok None) = record door { calls = one_more door.calls }
door_after door (Err e) = record door { calls = one_more door.calls; faults = one_more door.faults }
