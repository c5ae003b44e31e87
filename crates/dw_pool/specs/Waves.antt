-- What the workers of a wave have, and how their outputs are put in order.
use Rattle.std.specs.Prelude.{ℕ, ◌≡◌, ◌<◌, ◌≤◌, List, [], ◌∷◌, length, map, replicate, Option, Some, None, IsSome, slice_set, vec_capacity}
use Rattle.std.specs.List.{All, HoldsAt}
use Rattle.dw_pool.specs.declared.wave.Worker.{Worker}
use Rattle.dw_pool.specs.declared.wave.Room.{Room}
use Rattle.dw_pool.specs.Counter.{Counter}

-- the pair has the number of a job, and an output that this job gives
abbrev pub IsGiven : {J O : Type 0} (gives : J → O → Type 0) (jobs : List J) (p : ℕ × O) → Type 0
IsGiven gives jobs p = (p.0 < length jobs) × HoldsAt (λ job. gives job p.1) jobs p.0

-- a worker has a pass of the counter, and for each number that it claimed, in order, a pair of that number and an output that the job of that number gives
pub record Works {J O : Type 0} (gives : J → O → Type 0) (jobs : List J) (counter : Counter) (w : Worker O) : Type 0 where
  pub mine : w.pass.counter ≡ counter
  pub numbers : map (λ p. p.0) w.pairs.items ≡ w.pass.numbers
  pub given : All (IsGiven gives jobs) w.pairs.items
  pub room : length jobs ≤ vec_capacity w.pairs

-- a worker that found no job left
pub record HasWorked {J O : Type 0} (gives : J → O → Type 0) (jobs : List J) (counter : Counter) (w : Worker O) : Type 0 where
  pub works : Works gives jobs counter w
  pub told : IsSome w.pass.kept

-- each output of the pairs is put at the place of its number
abbrev pub placed : {O : Type 0} → List (Option O) → List (ℕ × O) → List (Option O)
placed slots [] = slots
placed slots (p ∷ ps) = placed (slice_set slots p.0 (Some p.1)) ps

-- no output stands at the place of any job yet, and there is room for so many passes, their lists, and the outputs
pub record HasRoom {O : Type 0} (jobs passes : ℕ) (room : Room O) : Type 0 where
  pub slots : room.slots.items ≡ replicate jobs None
  pub passes_empty : room.passes.items ≡ []
  pub passes_room : passes ≤ vec_capacity room.passes
  pub lists_empty : room.lists.items ≡ []
  pub lists_room : passes ≤ vec_capacity room.lists
  pub outs_empty : room.outs.items ≡ []
  pub outs_room : jobs ≤ vec_capacity room.outs
