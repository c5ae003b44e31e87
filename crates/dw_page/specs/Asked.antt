-- For which worlds a page is one of an answer.
use Rattle.std.specs.Prelude.{◌≡◌, ℕ, true, List, Option, Some}
use Rattle.dw_dict.specs.Dictionary.{rule_of}
use Rattle.dw_event.specs.declared.days.Days.{Days}
use Rattle.dw_outside.specs.Tables.{Tables}
use Rattle.dw_derive.specs.World.{World}
use Rattle.dw_derive.specs.Tables.{tables}
use Rattle.dw_derive.specs.Lawful.{HasEvents, IsWorld}
use Rattle.dw_eval.specs.declared.open_query.OpenQuery.{OpenQuery}
use Rattle.dw_plan.specs.Hit.{hit_shards}
use Rattle.dw_plan.specs.PlanLaws.{StandsFor}
use Rattle.dw_scan.specs.declared.ask.Ask.{Ask}
use Rattle.dw_scan.specs.Worlds.{IsIndexedAlike}

-- the open query of an ask, the days and the size of a page
abbrev pub query_of : Ask → Days → ℕ → OpenQuery
query_of ask days size = record { query = ask.query; dict = ask.dict; auths = ask.auths; snapshot = ask.snapshot; days = days; types = ask.types; size = size }

-- the shards that the open query hits in a world
abbrev pub hits_in : Ask → Days → World → List (List ℕ)
hits_in ask days w = hit_shards ask.query ask.auths days ask.types (tables w)

-- the tables that are told are those of a lawful world, for which the open query stands
pub record IsAsked (kept : Option Tables) (ask : Ask) (days : Days) (size : ℕ) (w : World) : Type 0 where
  pub told : kept ≡ Some (tables w)
  pub lawful : IsWorld w
  pub stands : StandsFor w (query_of ask days size)

-- the tables that are told are those of the world, in which each field that the ask has indexed is indexed with the same kind, or no batch is seen
pub record IsTold (kept : Option Tables) (ask : Ask) (w : World) : Type 0 where
  pub told : kept ≡ Some (tables w)
  pub events : HasEvents w
  pub indexed : (field : List ℕ) → (rule_of ask.dict field).indexed ≡ true → IsIndexedAlike w ask.dict ask.snapshot field
