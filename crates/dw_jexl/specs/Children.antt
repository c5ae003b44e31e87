-- The parts of a query that are queries.
use Rattle.std.specs.Prelude.{List, [], Option, Some, None}
use Rattle.dw_jexl.specs.declared.query.Query.{Query}
use Rattle.dw_jexl.specs.declared.query.Query.TheOpen.{Query-F, Not, And, Or}
use Rattle.dw_jexl.specs.declared.query.Query.TheViews.{out-Query}

abbrev pub child_in : Query-F Query → Option Query
child_in (Not child) = Some child
child_in _ = None

abbrev pub children_in : Query-F Query → List Query
children_in (And children) = children
children_in (Or children) = children
children_in _ = []

-- the child of a Not
abbrev pub child_of : Query → Option Query
child_of q = child_in (out-Query q)

-- the children of an And or Or
abbrev pub children_of : Query → List Query
children_of q = children_in (out-Query q)
