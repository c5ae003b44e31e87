-- The limits on the texts of queries and on the queries themselves. That on levels stands with their walk.
use Rattle.std.specs.Prelude.{ℕ, ◌<◌, ◌≤◌, List, length}
use Rattle.dw_jexl.specs.declared.query.Query.{Query}
use Rattle.dw_jexl.specs.Grammar.{leaves}

-- a text has at most 16,384 bytes
abbrev pub IsShort : List ℕ → Type 0
IsShort text = length text ≤ 16384

abbrev pub IsLong : List ℕ → Type 0
IsLong text = 16384 < length text

-- a query has at most 256 leaves
abbrev pub HasFew : Query → Type 0
HasFew q = leaves q ≤ 256

abbrev pub HasMany : Query → Type 0
HasMany q = 256 < leaves q
