-- What Lucene texts, their queries and printed texts have in common.
use Rattle.std.specs.Prelude.{◌≡◌, ℕ, true, List, chars}
use Rattle.dw_jexl.specs.declared.error.QueryRule.TheVariants.{TooLong, TooDeep}
use Rattle.dw_jexl.specs.declared.query.Query.{Query}
use Rattle.dw_jexl.specs.Limits.{HasFew}
use Rattle.dw_jexl.specs.Spelling as jexl
use Rattle.dw_jexl.specs.WellMade.{is_well_made}
use Rattle.dw_lucene.specs.Spelling.{Spells, Breaks}
use Rattle.dw_lucene.specs.Printed.{is_printable, lucene_text}

-- a text spells at most one query
abbrev pub TextsTellQueries : Type 0
TextsTellQueries = (text : List ℕ) (q r : Query) → Spells text q → Spells text r → q ≡ r

-- the text breaks neither the limit on length nor the limit on depth
abbrev pub KeepsLimits : List ℕ → Type 0
KeepsLimits text = (¬ Breaks TooLong text) × (¬ Breaks TooDeep text)

-- The printed text of each query that some text of JEXL spells is read as that query.
abbrev pub PrintedTextsAreRead : Type 0
PrintedTextsAreRead = (source : List ℕ) (q : Query) → jexl.Spells source q → is_printable q ≡ true → (text : List ℕ) → chars text ≡ lucene_text q → KeepsLimits text → Spells text q

-- What a text spells is well made.
abbrev pub QueriesOfTextsAreWellMade : Type 0
QueriesOfTextsAreWellMade = (text : List ℕ) (q : Query) → Spells text q → is_well_made q ≡ true

-- the text spells the query, where that is well made and has few leaves and the text keeps the limits
abbrev pub IsReadAs : List ℕ → Query → Type 0
IsReadAs text q = is_well_made q ≡ true → HasFew q → KeepsLimits text → Spells text q
