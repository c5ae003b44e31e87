-- The grammar: its sentences, the text that spells each, and the tree that each stands for.
use Rattle.std.specs.Prelude.{◌≡◌, ℕ, Bool, true, false, ◌||◌, List, [], ◌∷◌, ◌++◌, ◌==◌, if◌then◌else◌}
use Rattle.std.specs.Char.{is_ascii_alphanumeric}
use Rattle.std.specs.List.{list_all}
use Rattle.std.specs.Str.{IsUtf8}
use Rattle.dw_vis.specs.declared.reading.Sign.{Sign}
use Rattle.dw_vis.specs.declared.reading.Sign.TheVariants.{All, Any}
use Rattle.dw_vis.specs.Trees.{Tree, Everyone, Term, And, Or, value, Trees, no_tree, tree_and, with_last}

-- an ASCII letter, a digit, `_`, `-`, `:`, `.` or `/`
unfoldable pub is_bare : ℕ → Bool
is_bare b = is_ascii_alphanumeric b || b == 95 || b == 45 || b == 58 || b == 46 || b == 47

-- one or more of these
abbrev pub is_bare_name : List ℕ → Bool
is_bare_name [] = false
is_bare_name (b ∷ bs) = list_all is_bare (b ∷ bs)

-- `"` and `\`, before which a `\` stands between quotes
unfoldable pub needs_escape : ℕ → Bool
needs_escape b = b == 34 || b == 92

-- a name between quotes, before the text that follows it
abbrev pub escaped_before : List ℕ → List ℕ → List ℕ
escaped_before [] rest = rest
escaped_before (b ∷ bs) rest = if needs_escape b then 92 ∷ b ∷ escaped_before bs rest else b ∷ escaped_before bs rest

-- bare or quoted; a quoted one has a first byte and more
pub data Spelt : Type 0 where
  bare : (name : List ℕ) → is_bare_name name ≡ true → Spelt
  quoted : ℕ → List ℕ → Spelt

abbrev pub name_of : Spelt → List ℕ
name_of (bare name ok) = name
name_of (quoted b bs) = b ∷ bs

abbrev pub spelt_before : Spelt → List ℕ → List ℕ
spelt_before (bare name ok) rest = name ++ rest
spelt_before (quoted b bs) rest = 34 ∷ escaped_before (b ∷ bs) (34 ∷ rest)

-- `&` and `|`
abbrev pub sign_byte : Sign → ℕ
sign_byte All = 38
sign_byte Any = 124

mutual
  -- one, or ones with `&` between any two, or ones with `|` between any two
  pub data Expression : Type 0 where
    alone : One → Expression
    several : Sign → Ones → Expression

  -- two or more
  pub data Ones : Type 0 where
    two : One → One → Ones
    further : Ones → One → Ones

  -- a term, or an expression in parentheses
  pub data One : Type 0 where
    term : Spelt → One
    group : Expression → One

-- the text that spells a sentence, before the text that follows it
abbrev mutual
  pub expression_before : Expression → List ℕ → List ℕ
  expression_before (alone o) rest = one_before o rest
  expression_before (several s os) rest = ones_before s os rest

  pub ones_before : Sign → Ones → List ℕ → List ℕ
  ones_before s (two a b) rest = one_before a (sign_byte s ∷ one_before b rest)
  ones_before s (further os o) rest = ones_before s os (sign_byte s ∷ one_before o rest)

  pub one_before : One → List ℕ → List ℕ
  one_before (term t) rest = spelt_before t rest
  one_before (group e) rest = 40 ∷ expression_before e (41 ∷ rest)

abbrev pub node : Sign → Trees → Tree
node All ts = And ts
node Any ts = Or ts

-- the tree that a sentence stands for: parentheses make none
abbrev mutual
  pub expression_tree : Expression → Tree
  expression_tree (alone o) = one_tree o
  expression_tree (several s os) = node s (ones_trees os)

  pub ones_trees : Ones → Trees
  ones_trees (two a b) = tree_and (one_tree a) (tree_and (one_tree b) no_tree)
  ones_trees (further os o) = with_last (ones_trees os) (one_tree o)

  pub one_tree : One → Tree
  one_tree (term t) = Term (name_of t)
  one_tree (group e) = expression_tree e

-- a visibility is nothing, or an expression
pub data Sentence : Type 0 where
  nothing : Sentence
  an : Expression → Sentence

abbrev pub sentence_text : Sentence → List ℕ
sentence_text nothing = []
sentence_text (an e) = expression_before e []

abbrev pub sentence_tree : Sentence → Tree
sentence_tree nothing = Everyone
sentence_tree (an e) = expression_tree e

-- the text is UTF-8 and spells the tree
pub record VisIn (text : List ℕ) (tree : Tree) : Type 0 where
  pub utf8 : IsUtf8 text
  pub sentence : Sentence
  pub spells : text ≡ sentence_text sentence
  pub stands_for : tree ≡ sentence_tree sentence

-- The text spells a tree that one who has these names sees.
pub record Sees (text : List ℕ) (names : List (List ℕ)) : Type 0 where
  pub tree : Tree
  pub spelt : VisIn text tree
  pub holds : value tree names ≡ true
