-- What is kept of a caller, and how it changes.
use Rattle.std.specs.Prelude.{ℕ, ◌+◌, Some, None}
use Rattle.std.specs.Option.{option_map}
use Rattle.std.specs.Ordering.{nat_cmp}
use Rattle.std.specs.BTreeMap.{get}
use Rattle.dw_eval.specs.declared.open_query.OpenQuery.{OpenQuery}
use Rattle.dw_page.specs.Asked.{query_of as query_asked}
use Rattle.dw_page.specs.declared.mark.Mark.{Mark}
use Rattle.dw_desk.specs.declared.caller.Caller.{Caller}
use Rattle.dw_desk.specs.declared.kept_query.KeptQuery.{KeptQuery}
use Rattle.dw_desk.specs.State.{Account, AccountOf, at_number}

-- what a caller's entry holds
abbrev pub entry_account : Caller → AccountOf KeptQuery
entry_account c = record { given = c.given; queries = get nat_cmp c.queries }

-- the open query that is kept
abbrev pub query_kept : KeptQuery → OpenQuery
query_kept k = query_asked k.asked.ask k.days k.size

-- the account with each query as it is open
abbrev pub account : AccountOf KeptQuery → Account
account a = record { given = a.given; queries = λ n. option_map query_kept (a.queries n) }

-- the next number is given to a query
abbrev pub opened : {Q : Type 0} → Q → AccountOf Q → AccountOf Q
opened query a = record { given = a.given + 1; queries = at_number (a.given + 1) (Some query) a.queries }

-- the query with another mark
abbrev pub with_mark : Mark → KeptQuery → KeptQuery
with_mark mark k = record { asked = k.asked; days = k.days; size = k.size; mark = Some mark }

-- the query of a number, where there is one, has another mark
abbrev pub marked : ℕ → Mark → AccountOf KeptQuery → AccountOf KeptQuery
marked number mark a = record { given = a.given; queries = at_number number (option_map (with_mark mark) (a.queries number)) a.queries }

-- the query of a number is dropped
abbrev pub closed : {Q : Type 0} → ℕ → AccountOf Q → AccountOf Q
closed number a = record { given = a.given; queries = at_number number None a.queries }
