-- A command by what its words give.
use Rattle.std.proofs.Common.{◌≡◌, ◌∙◌, ◌&&◌, Bool, true, false, List, Option, Some, None, is_some, option_and_then, IsSome, refl, sym, ap, true≢false}
use Rattle.std.specs.List.{list_all}
use Rattle.dw_words.specs.declared.kind.Kind.{Kind}
use Rattle.dw_words.specs.declared.kind.Kind.TheVariants as kind
use Rattle.dw_words.specs.Options.{Options, Text, options, checked, are_once, options_for}
use Rattle.dw_words.specs.Words.{takes, command_of, command_in, command_after}

checked_is : (t : Text → Bool) (b : Bool) (ps : Options) → (list_all (λ p. t p.0) ps && are_once ps) ≡ b → IsSome (checked t ps) → checked t ps ≡ Some ps
checked_is t true ps e some = rw e refl
checked_is t false ps e some = absurd (true≢false (sym (rw e at some)))

-- the options, where words give those that a command takes
pub given_options : (t : Text → Bool) (ws : List Text) (o : Option Options) → options ws ≡ o → IsSome (options_for t ws) → options_for t ws ≡ o
given_options t ws None e some = rw e refl
given_options t ws (Some ps) e some = rw e (checked_is t (list_all (λ p. t p.0) ps && are_once ps) ps refl (rw e at some))

pub some_options : (t : Text → Bool) (ws : List Text) (o : Option Options) → options ws ≡ o → IsSome (options_for t ws) → IsSome (options ws)
some_options t ws None e some = absurd (true≢false (sym (rw e at some)))
some_options t ws (Some ps) e some = rw e refl

command_is : (k : Kind) (ws : List Text) (ps : Options) → options ws ≡ Some ps → command_of k ps ≡ command_in ws k
command_is kind.Exec ws ps e = rw e refl
command_is kind.Ingest ws ps e = rw e refl
command_is kind.Audit ws ps e = rw e refl
command_is kind.Demo ws ps e = rw e refl
command_is kind.Serve ws ps e = rw e refl

by_options : (k : Kind) (ws : List Text) (o : Option Options) → options ws ≡ o → IsSome (options_for (takes k) ws) → option_and_then (command_of k) (options_for (takes k) ws) ≡ command_in ws k
by_options k ws None e some = absurd (true≢false (sym (rw e at some)))
by_options k ws (Some ps) e some = ap (option_and_then (command_of k)) (given_options (takes k) ws (Some ps) e some) ∙ command_is k ws ps e

pub after_is : (k : Kind) (ws : List Text) → IsSome (options_for (takes k) ws) → command_after ws k ≡ command_in ws k
after_is k ws some = by_options k ws (options ws) refl some

none_by : (k : Kind) (ws : List Text) (o : Option Options) → o ≡ options_for (takes k) ws → is_some o ≡ false → command_after ws k ≡ None
none_by k ws None e none = rw (← e) refl
none_by k ws (Some ps) e none = absurd (true≢false none)

pub none_after : (k : Kind) (ws : List Text) → is_some (options_for (takes k) ws) ≡ false → command_after ws k ≡ None
none_after k ws none = none_by k ws (options_for (takes k) ws) refl none
