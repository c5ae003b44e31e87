-- How deep the parentheses and negations of a text stand: the walk is that of JEXL.
use Rattle.std.specs.Prelude.{Bool, List, map}
use Rattle.dw_jexl.specs.declared.token.Token as jexl
use Rattle.dw_jexl.specs.declared.token.Token.TheVariants as sign
use Rattle.dw_jexl.specs.Depth as walk
use Rattle.dw_lucene.specs.declared.token.Token.{Token}
use Rattle.dw_lucene.specs.declared.token.Token.TheVariants.{Open, Close, Negate}

-- the token of JEXL that counts as this one: `(`, `)` and `!` for NOT, and `=` for one that only ends a run of negations
abbrev pub level_of : Token → jexl.Token
level_of Open = sign.Open
level_of Close = sign.Close
level_of Negate = sign.Negate
level_of _ = sign.Assign

-- more than 64 levels are open at some place
abbrev pub is_deep : List Token → Bool
is_deep ts = walk.is_deep (map level_of ts)
