-- The grammar in which `&` and `|` may stand mixed at one level: its sentences, and the text that spells each.
use Rattle.std.specs.Prelude.{◌≡◌, ℕ, List, [], ◌∷◌}
use Rattle.std.specs.Str.{IsUtf8}
use Rattle.dw_vis.specs.declared.reading.Sign.{Sign}
use Rattle.dw_vis.specs.Grammar.{Spelt, spelt_before, sign_byte}

mutual
  -- ones with `&` or `|` between any two
  pub data Mix : Type 0 where
    mix_alone : MixOne → Mix
    mix_joined : Mix → Sign → MixOne → Mix

  -- a term, or such an expression in parentheses
  pub data MixOne : Type 0 where
    mix_term : Spelt → MixOne
    mix_group : Mix → MixOne

-- the text that spells a sentence, before the text that follows it
abbrev mutual
  pub mix_before : Mix → List ℕ → List ℕ
  mix_before (mix_alone o) rest = mix_one_before o rest
  mix_before (mix_joined m s o) rest = mix_before m (sign_byte s ∷ mix_one_before o rest)

  pub mix_one_before : MixOne → List ℕ → List ℕ
  mix_one_before (mix_term t) rest = spelt_before t rest
  mix_one_before (mix_group m) rest = 40 ∷ mix_before m (41 ∷ rest)

-- nothing, or such an expression
pub data MixSentence : Type 0 where
  mix_nothing : MixSentence
  mix_an : Mix → MixSentence

abbrev pub mix_text : MixSentence → List ℕ
mix_text mix_nothing = []
mix_text (mix_an m) = mix_before m []

-- the text is UTF-8 and in this grammar
pub record MixedIn (text : List ℕ) : Type 0 where
  pub utf8 : IsUtf8 text
  pub sentence : MixSentence
  pub spells : text ≡ mix_text sentence
