-- When a desk stands for a world.
use Rattle.std.specs.Prelude.{◌≡◌, ◌≤◌, ℕ, IsTrue, IfSome, List, Option, Some}
use Rattle.std.specs.Option.{option_map_or}
use Rattle.std.specs.Ordering.{nat_cmp}
use Rattle.std.specs.BTreeMap.{BTreeMap, get}
use Rattle.std.specs.Cmp.Lexicographic.{slice_cmp}
use Rattle.std.specs.FinMap as map
use Rattle.dw_outside.specs.Tables.{Tables}
use Rattle.dw_derive.specs.World.{World, Grants}
use Rattle.dw_derive.specs.Tables.{tables}
use Rattle.dw_derive.specs.Lawful.{IsWorld}
use Rattle.dw_eval.specs.declared.open_query.OpenQuery.{OpenQuery}
use Rattle.dw_plan.specs.PlanLaws.{StandsFor}
use Rattle.dw_wire.specs.WellFormed.{is_counted_to}
use Rattle.dw_wire.specs.declared.limits.TheConstants.{MAX_SIZE}
use Rattle.dw_desk.specs.declared.caller.Caller.{Caller}
use Rattle.dw_desk.specs.declared.desk.Desk.{Desk}
use Rattle.dw_desk.specs.declared.kept_query.KeptQuery.{KeptQuery}
use Rattle.dw_desk.specs.State.{Account, AccountOf, State, nobody}
use Rattle.dw_page.specs.Marks.{IsMarked}
use Rattle.dw_eval.specs.Answer.{answer_of}
use Rattle.dw_desk.specs.Accounts.{account, entry_account, query_kept}

-- what is kept of a caller
abbrev pub kept_of : BTreeMap (List ℕ) Caller → List ℕ → AccountOf KeptQuery
kept_of callers name = option_map_or entry_account (get (slice_cmp nat_cmp) callers name) nobody

-- and his account
abbrev pub account_of : BTreeMap (List ℕ) Caller → List ℕ → Account
account_of callers name = account (kept_of callers name)

-- the names that the entries grant
abbrev pub grants_of : BTreeMap (List ℕ) (List (List ℕ)) → Grants
grants_of m = map.from_entries m.entries

-- an open query: anchored, with the rules of its dictionary, which the world's widen where it sees a batch; its size keeps its
-- limits, it sees no batch after the last one, and its number was given
pub record IsStanding (w : World) (given number : ℕ) (q : OpenQuery) : Type 0 where
  pub stands : StandsFor w q
  pub size : IsTrue (is_counted_to MAX_SIZE q.size)
  pub snapshot : q.snapshot ≤ w.last
  pub numbered : number ≤ given

-- each open query of an account
abbrev pub AreStanding : World → Account → Type 0
AreStanding w a = (number : ℕ) → IfSome (a.queries number) (IsStanding w a.given number)

-- the desk has the rules, the grants and the last number of a world
pub record HasRules (d : Desk) (w : World) : Type 0 where
  pub dict : d.dict ≡ w.dict
  pub grants : grants_of d.grants ≡ w.grants
  pub last : d.last ≡ w.last

-- and the tables that are told are those of this world, which is lawful
pub record Holds (told : Option Tables) (d : Desk) (w : World) : Type 0 where
  pub tables : told ≡ Some (tables w)
  pub lawful : IsWorld w
  pub rules : HasRules d w

-- the state that a desk stands for beside a world
abbrev pub state_of : World → Desk → State
state_of w d = record { world = w; accounts = account_of d.callers }

-- each open query of a state stands for its world
abbrev pub AllStanding : State → Type 0
AllStanding s = (caller : List ℕ) → AreStanding s.world (s.accounts caller)

-- the mark of a kept query is true of its answer, which is made of the batches so far
pub record IsMarkedIn (w : World) (k : KeptQuery) : Type 0 where
  pub snapshot : (query_kept k).snapshot ≤ w.last
  pub mark : IsMarked (answer_of (query_kept k) w.events) k.size k.mark

-- and so is that of each query that is kept
abbrev pub AreMarked : World → BTreeMap (List ℕ) Caller → Type 0
AreMarked w callers = (caller : List ℕ) (number : ℕ) → IfSome ((kept_of callers caller).queries number) (IsMarkedIn w)

-- the desk and the tables stand for a world, and so does each open query with its mark; a desk holds no event
pub record Stands (told : Option Tables) (d : Desk) (w : World) : Type 0 where
  pub holds : Holds told d w
  pub queries : AllStanding (state_of w d)
  pub marks : AreMarked w d.callers
