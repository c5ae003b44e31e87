-- The state of the machine: the world, and what each caller has open.
use Rattle.std.specs.Prelude.{ℕ, List, [], Option, None, unwrap_or, if◌then◌else◌}
use Rattle.std.specs.Ordering.{nat_cmp}
use Rattle.std.specs.BTreeMap.{is_at}
use Rattle.std.specs.FinMap as map
use Rattle.dw_event.specs.Texts.{is_same}
use Rattle.dw_derive.specs.World.{World, Grants}
use Rattle.dw_eval.specs.declared.open_query.OpenQuery.{OpenQuery}

-- what is kept of a caller
pub record AccountOf (Q : Type 0) : Type 0 where
  -- the number of a query that was given last, or 0
  pub given : ℕ
  -- the open query of each number
  pub queries : ℕ → Option Q

abbrev pub Account : Type 0
Account = AccountOf OpenQuery

-- a caller who opened no query
abbrev pub nobody : {Q : Type 0} → AccountOf Q
nobody = record { given = 0; queries = λ _. None }

pub record State : Type 0 where
  pub world : World
  pub accounts : List ℕ → Account

-- the state of a world before the first request
abbrev pub start : World → State
start w = record { world = w; accounts = λ _. nobody }

-- the function with another value at this caller
abbrev pub at_caller : {A : Type 0} → List ℕ → A → (List ℕ → A) → List ℕ → A
at_caller caller value f q = if is_same caller q then value else f q

-- the function with another value at this number
abbrev pub at_number : {A : Type 0} → ℕ → A → (ℕ → A) → ℕ → A
at_number n value f q = if is_at (nat_cmp n) q then value else f q

-- the names that a caller was granted; one who was granted nothing has none
abbrev pub granted_to : Grants → List ℕ → List (List ℕ)
granted_to grants caller = unwrap_or (map.get grants caller) []
