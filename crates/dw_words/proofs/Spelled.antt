-- Options are read from words that spell them.
use Rattle.std.proofs.Common.{◌≡◌, Bool, true, false, List, [], ◌∷◌, ◌++◌, map, Option, Some, None, refl, ap}
use Rattle.std.proofs.lemmas.List.Elements.{All-head, All-tail}
use Rattle.clap.specs.Lexer.{long_of}
use Rattle.clap.proofs.LexerLemmas.{name_and_value-at, name_and_value-without}
use Rattle.dw_words.specs.Options.{Options, Text, options_from, options}
use Rattle.dw_words.specs.Laws.{IsOption, spelled, all_spelled, OptionsAreSpelled}

one_word : (p : Text × Text) → IsOption p → long_of (45 ∷ 45 ∷ (p.0 ++ 61 ∷ p.1)) ≡ Some (p.0, Some p.1)
one_word ([], v) is = absurd (is.named refl)
one_word (b ∷ bs, v) is = ap (λ (x : Text × Option Text). Some x) (name_and_value-at (b ∷ bs) v is.plain)

two_words : (p : Text × Text) → IsOption p → long_of (45 ∷ 45 ∷ p.0) ≡ Some (p.0, None)
two_words ([], v) is = absurd (is.named refl)
two_words (b ∷ bs, v) is = ap (λ (x : Text × Option Text). Some x) (name_and_value-without (b ∷ bs) is.plain)

one_more : (s : Bool) (p : Text × Text) (ws : List Text) (ps : Options) → IsOption p → options ws ≡ Some ps → options (spelled s p ++ ws) ≡ Some (p ∷ ps)
unfolding options_from
one_more true p ws ps is e = rw (one_word p is, is.valued, e) refl
one_more false p ws ps is e = rw (two_words p is, is.valued, e) refl

no_words : options [] ≡ Some []
unfolding options_from
no_words = refl

pub spelled_are_read : OptionsAreSpelled
spelled_are_read [] each = no_words
spelled_are_read (s ∷ ss) each =
    one_more s.0 s.1 (all_spelled ss) (map (λ (t : Bool × (Text × Text)). t.1) ss) (All-head (λ (t : Bool × (Text × Text)). IsOption t.1) s ss each)
    (spelled_are_read ss (All-tail (λ (t : Bool × (Text × Text)). IsOption t.1) s ss each))
