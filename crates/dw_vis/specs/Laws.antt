-- What holds of all texts and names.
use Rattle.std.specs.Prelude.{◌≡◌, ℕ, ◌+◌, max, nat_lt, true, List, ◌↔◌}
use Rattle.dw_vis.specs.Trees.{Tree}
use Rattle.dw_vis.specs.Grammar.{VisIn, Sees}
use Rattle.dw_vis.specs.Sight.{sees}
use Rattle.dw_vis.specs.Depth.{is_deep}
use Rattle.dw_vis.specs.Mixing.{Mix, mix_alone, mix_joined, MixOne, mix_term, mix_group, MixSentence, mix_nothing, mix_an, mix_text}

-- a text spells at most one tree
abbrev pub SpellsOneTree : Type 0
SpellsOneTree = (text : List ℕ) (a b : Tree) → VisIn text a → VisIn text b → a ≡ b

-- what is read from left to right is what the grammar says, for all texts and names
abbrev pub SeesByTheGrammar : Type 0
SeesByTheGrammar = (text : List ℕ) (names : List (List ℕ)) → (sees text names ≡ true) ↔ Sees text names

-- how deep groups stand in groups
abbrev mutual
  pub mix_nesting : Mix → ℕ
  mix_nesting (mix_alone o) = one_nesting o
  mix_nesting (mix_joined m s o) = max (mix_nesting m) (one_nesting o)

  pub one_nesting : MixOne → ℕ
  one_nesting (mix_term t) = 0
  one_nesting (mix_group m) = mix_nesting m + 1

abbrev pub nesting : MixSentence → ℕ
nesting mix_nothing = 0
nesting (mix_an m) = mix_nesting m

-- a text of the grammar, in which `&` and `|` may be mixed, is too deep exactly where its groups stand more than 32 deep
abbrev pub DepthIsNesting : Type 0
DepthIsNesting = (s : MixSentence) → is_deep (mix_text s) ≡ nat_lt 32 (nesting s)
