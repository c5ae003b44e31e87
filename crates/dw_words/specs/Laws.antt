-- Laws of the words of a command.
use Rattle.std.specs.Prelude.{◌≡◌, ◌≢◌, Bool, true, false, List, [], ◌∷◌, ◌++◌, map, Some, EachIndex, slice_index, All}
use Rattle.dw_words.specs.Options.{Options, Text, is_value, options}
use Rattle.dw_words.specs.Words.{command}

-- ---- each option may be spelled in two ways

-- an option may be written: its name is not empty and has no `=` (61), and its value is one
pub record IsOption (p : Text × Text) : Type 0 where
  pub named : p.0 ≢ []
  pub plain : EachIndex p.0 (λ i. slice_index p.0 i ≢ 61)
  pub valued : is_value p.1 ≡ true

-- an option as one word, `--name=value`, or as two
abbrev pub spelled : Bool → Text × Text → List Text
spelled true p = (45 ∷ 45 ∷ (p.0 ++ 61 ∷ p.1)) ∷ []
spelled false p = (45 ∷ 45 ∷ p.0) ∷ p.1 ∷ []

-- options with the spelling of each
abbrev pub Spellings : Type 0
Spellings = List (Bool × (Text × Text))

abbrev pub all_spelled : Spellings → List Text
all_spelled [] = []
all_spelled (s ∷ ss) = spelled s.0 s.1 ++ all_spelled ss

-- options are read from their words, in whatever way each is spelled
abbrev pub OptionsAreSpelled : Type 0
OptionsAreSpelled = (ss : Spellings) → All (λ s. IsOption s.1) ss → options (all_spelled ss) ≡ Some (map (λ s. s.1) ss)

-- ---- the order is free

-- the same options in an order that exchanges of neighbours reach
pub data Reordered : Options → Options → Type 0 where
  same : {ps : Options} → Reordered ps ps
  swapped : {p q : Text × Text} {ps : Options} → Reordered (p ∷ q ∷ ps) (q ∷ p ∷ ps)
  behind : {p : Text × Text} {ps qs : Options} → Reordered ps qs → Reordered (p ∷ ps) (p ∷ qs)
  through : {ps qs rs : Options} → Reordered ps qs → Reordered qs rs → Reordered ps rs

-- words whose options are the same in another order are the same command, or none both
abbrev pub OrderIsFree : Type 0
OrderIsFree = (word : Text) (ws vs : List Text) (ps qs : Options) → options ws ≡ Some ps → options vs ≡ Some qs → Reordered ps qs
    → command (word ∷ ws) ≡ command (word ∷ vs)
