-- What texts, their queries and canonical texts have in common.
use Rattle.std.specs.Prelude.{◌≡◌, ℕ, true, List, chars}
use Rattle.dw_jexl.specs.declared.error.QueryRule.TheVariants.{TooLong, TooDeep}
use Rattle.dw_jexl.specs.declared.query.Query.{Query}
use Rattle.dw_jexl.specs.Spelling.{Spells, Breaks}
use Rattle.dw_jexl.specs.Canonical.{canonical}
use Rattle.dw_jexl.specs.Grammar.{folded, names_field}
use Rattle.dw_jexl.specs.Limits.{HasFew}
use Rattle.dw_jexl.specs.WellMade.{is_upper_field, is_well_made}

-- a text spells at most one query
abbrev pub TextsTellQueries : Type 0
TextsTellQueries = (text : List ℕ) (q r : Query) → Spells text q → Spells text r → q ≡ r

-- the text breaks neither the limit on length nor the limit on depth
abbrev pub KeepsLimits : List ℕ → Type 0
KeepsLimits text = (¬ Breaks TooLong text) × (¬ Breaks TooDeep text)

-- a text of the query's canonical characters spells the query, where it keeps those limits
abbrev pub IsReadAgain : Query → Type 0
IsReadAgain q = (text : List ℕ) → chars text ≡ canonical q → KeepsLimits text → Spells text q

-- the text spells the query, where some text does and this one keeps those limits
abbrev pub SpellsAgain : List ℕ → Query → Type 0
SpellsAgain text q = (source : List ℕ) → Spells source q → KeepsLimits text → Spells text q

-- The canonical text of each query that some text spells is read again as that query.
abbrev pub CanonicalTextsAreReadAgain : Type 0
CanonicalTextsAreReadAgain = (source : List ℕ) (q : Query) → Spells source q → IsReadAgain q

-- The canonical text of each query that is well made and has few leaves is read as that query.
abbrev pub WellMadeQueriesAreRead : Type 0
WellMadeQueriesAreRead = (q : Query) → is_well_made q ≡ true → HasFew q → IsReadAgain q

-- A field stays one in upper case.
abbrev pub FieldsFold : Type 0
FieldsFold = (field : List ℕ) → names_field field ≡ true → is_upper_field (folded field) ≡ true

-- What a text spells is well made.
abbrev pub QueriesOfTextsAreWellMade : Type 0
QueriesOfTextsAreWellMade = (text : List ℕ) (q : Query) → Spells text q → is_well_made q ≡ true
