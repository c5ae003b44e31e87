-- What the first option of words says of all.
use Rattle.std.proofs.Common.{◌≡◌, ◌∙◌, ◌<◌, ◌&&◌, ◌==◌, ℕ, Bool, true, false, not, cond, List, [], ◌∷◌, length, Option, Some, None, is_some, option_map, option_and_then, IsSome, Bor, refl, sym, ap, subst, arith, true≢false}
use Rattle.std.proofs.Math.Dec.{eqb-suc-zero}
use Rattle.std.specs.List.{list_all}
use Rattle.std.specs.Str.{bytes_eq}
use Rattle.clap.specs.Lexer.{long_of}
use Rattle.dw_words.specs.Options.{Options, Text, is_value, at_name, options_from, options, value_of, are_once, checked, options_for, value_in, first_at, first_option}

abbrev First : Type 0
First = Text × (Text × List Text)

-- the options of words by the first one
abbrev pub from_first : List Text → Option First → Option Options
from_first [] None = Some []
from_first (w ∷ ws) None = None
from_first ws (Some (name, (v, rest))) = option_map (λ ps. (name, v) ∷ ps) (options rest)

by_value : (a : Bool) (w name v : Text) (ws rest : List Text) → cond a (option_map (λ (ps : Options). (name, v) ∷ ps) (options rest)) None
    ≡ from_first (w ∷ ws) (cond a (Some (name, (v, rest))) None)
by_value true w name v ws rest = refl
by_value false w name v ws rest = refl

by_name : (o : Option (Text × Option Text)) (w : Text) (ws : List Text) → at_name o (options ws) (λ name. options_from (Some name) ws) ≡ from_first (w ∷ ws) (first_at o ws)
unfolding options_from
by_name None w ws = refl
by_name (Some (name, Some v)) w ws = by_value (is_value v) w name v ws ws
by_name (Some (name, None)) w [] = refl
by_name (Some (name, None)) w (v ∷ ws) = by_value (is_value v) w name v (v ∷ ws) ws

pub unrolled : (ws : List Text) → options ws ≡ from_first ws (first_option ws)
unfolding options_from
unrolled [] = refl
unrolled (w ∷ ws) = by_name (long_of w) w ws

-- ---- the words get fewer

shorter_value : (a : Bool) (n : ℕ) (name v : Text) (rest : List Text) (f : First) → length rest < n → cond a (Some (name, (v, rest))) None ≡ Some f → length f.1.1 < n
shorter_value true n name v rest f lt e = let same : (name, (v, rest)) ≡ f = cc in subst (λ (g : First). length g.1.1 < n) same lt
shorter_value false n name v rest f lt e = cc

shorter_name : (o : Option (Text × Option Text)) (w : Text) (ws : List Text) (f : First) → first_at o ws ≡ Some f → length f.1.1 < length (w ∷ ws)
shorter_name None w ws f e = cc
shorter_name (Some (name, Some v)) w ws f e = shorter_value (is_value v) (length (w ∷ ws)) name v ws f (omega arith) e
shorter_name (Some (name, None)) w [] f e = cc
shorter_name (Some (name, None)) w (v ∷ ws) f e = shorter_value (is_value v) (length (w ∷ v ∷ ws)) name v ws f (omega arith) e

pub shorter : (ws : List Text) (f : First) → first_option ws ≡ Some f → length f.1.1 < length ws
shorter [] f e = cc
shorter (w ∷ ws) f e = shorter_name (long_of w) w ws f e

-- ---- at an option

option_at : (ws : List Text) (f : First) → first_option ws ≡ Some f → options ws ≡ option_map (λ (ps : Options). (f.0, f.1.0) ∷ ps) (options f.1.1)
option_at ws f e = unrolled ws ∙ ap (from_first ws) e ∙ at_some ws f
  where
    at_some : (ws : List Text) (f : First) → from_first ws (Some f) ≡ option_map (λ (ps : Options). (f.0, f.1.0) ∷ ps) (options f.1.1)
    at_some [] f = refl
    at_some (w ∷ ws) f = refl

rest_some : (p : Text × Text) (o all : Option Options) → all ≡ option_map (λ (ps : Options). p ∷ ps) o → IsSome all → IsSome o
rest_some p None all e some = rw e at some
rest_some p (Some ps) all e some = refl

pub rest_is_some : (ws : List Text) (f : First) → first_option ws ≡ Some f → IsSome (options ws) → IsSome (options f.1.1)
rest_is_some ws f e some = rest_some (f.0, f.1.0) (options f.1.1) (options ws) (option_at ws f e) some

value_by : (p : Text × Text) (name : Text) (o all : Option Options) → all ≡ option_map (λ (ps : Options). p ∷ ps) o → IsSome all
    → option_and_then (value_of name) all ≡ cond (bytes_eq p.0 name) (Some p.1) (option_and_then (value_of name) o)
value_by p name None all e some = absurd (true≢false (sym (rw e at some)))
value_by p name (Some ps) all e some = rw e refl

pub value_at : (ws : List Text) (f : First) (name : Text) → first_option ws ≡ Some f → IsSome (options ws)
    → value_in name ws ≡ cond (bytes_eq f.0 name) (Some f.1.0) (value_in name f.1.1)
value_at ws f name e some = value_by (f.0, f.1.0) name (options f.1.1) (options ws) (option_at ws f e) some

checked_by : (t : Text → Bool) (p : Text × Text) (a b c d : Bool) (ps : Options) → t p.0 ≡ a → list_all (λ q. t q.0) ps ≡ b → is_some (value_of p.0 ps) ≡ c → are_once ps ≡ d
    → is_some (checked t (p ∷ ps)) ≡ (a && (not c && is_some (checked t ps)))
checked_by t p true true true d ps ea eb ec ed = rw (ea, eb, ec) refl
checked_by t p true true false true ps ea eb ec ed = rw (ea, eb, ec, ed) refl
checked_by t p true true false false ps ea eb ec ed = rw (ea, eb, ec, ed) refl
checked_by t p true false true d ps ea eb ec ed = rw (ea, eb) refl
checked_by t p true false false d ps ea eb ec ed = rw (ea, eb) refl
checked_by t p false b c d ps ea eb ec ed = rw ea refl

options_by : (t : Text → Bool) (p : Text × Text) (o all : Option Options) → all ≡ option_map (λ (ps : Options). p ∷ ps) o
    → is_some (option_and_then (checked t) all) ≡ (t p.0 && (not (is_some (option_and_then (value_of p.0) o)) && is_some (option_and_then (checked t) o)))
options_by t p None all e = rw e (none_left (t p.0))
  where
    none_left : (a : Bool) → false ≡ (a && false)
    none_left true = refl
    none_left false = refl
options_by t p (Some ps) all e = rw e (checked_by t p (t p.0) (list_all (λ q. t q.0) ps) (is_some (value_of p.0 ps)) (are_once ps) ps refl refl refl refl)

pub options_at : (t : Text → Bool) (ws : List Text) (f : First) → first_option ws ≡ Some f
    → is_some (options_for t ws) ≡ (t f.0 && (not (is_some (value_in f.0 f.1.1)) && is_some (options_for t f.1.1)))
options_at t ws f e = options_by t (f.0, f.1.0) (options f.1.1) (options ws) (option_at ws f e)

-- ---- what a walk does at an option

pub found : (ws : List Text) (f : First) (name : Text) → first_option ws ≡ Some f → IsSome (options ws) → bytes_eq f.0 name ≡ true → value_in name ws ≡ Some f.1.0
found ws f name e some is = value_at ws f name e some ∙ ap (λ b. cond b (Some f.1.0) (value_in name f.1.1)) is

pub passed : (ws : List Text) (f : First) (name : Text) → first_option ws ≡ Some f → IsSome (options ws) → bytes_eq f.0 name ≡ false → value_in name ws ≡ value_in name f.1.1
passed ws f name e some is = value_at ws f name e some ∙ ap (λ b. cond b (Some f.1.0) (value_in name f.1.1)) is

pub not_taken : (t : Text → Bool) (ws : List Text) (f : First) → first_option ws ≡ Some f → t f.0 ≡ false → is_some (options_for t ws) ≡ false
not_taken t ws f e is = options_at t ws f e ∙ ap (λ b. b && (not (is_some (value_in f.0 f.1.1)) && is_some (options_for t f.1.1))) is

none_twice : (t : Text → Bool) (name : Text) (a c : Bool) (o : Option Options) → (IsSome o → is_some (option_and_then (value_of name) o) ≡ c)
    → (a && (not (is_some (option_and_then (value_of name) o)) && is_some (option_and_then (checked t) o))) ≡ (a && (not c && is_some (option_and_then (checked t) o)))
none_twice t name a true None is = refl
none_twice t name a false None is = refl
none_twice t name a c (Some ps) is = ap (λ b. a && (not b && is_some (checked t ps))) (is refl)

options_on : (t : Text → Bool) (ws : List Text) (f : First) (c : Bool) → first_option ws ≡ Some f → (IsSome (options f.1.1) → is_some (value_in f.0 f.1.1) ≡ c)
    → is_some (options_for t ws) ≡ (t f.0 && (not c && is_some (options_for t f.1.1)))
options_on t ws f c e is = options_at t ws f e ∙ none_twice t f.0 (t f.0) c (options f.1.1) is

false_last : (a : Bool) → (a && false) ≡ false
false_last true = refl
false_last false = refl

pub given_twice : (t : Text → Bool) (ws : List Text) (f : First) → first_option ws ≡ Some f → (IsSome (options f.1.1) → is_some (value_in f.0 f.1.1) ≡ true)
    → is_some (options_for t ws) ≡ false
given_twice t ws f e is = options_on t ws f true e is ∙ false_last (t f.0)

pub given_once : (t : Text → Bool) (ws : List Text) (f : First) → first_option ws ≡ Some f → t f.0 ≡ true → (IsSome (options f.1.1) → is_some (value_in f.0 f.1.1) ≡ false)
    → is_some (options_for t ws) ≡ is_some (options_for t f.1.1)
given_once t ws f e taken is = options_on t ws f false e is ∙ ap (λ b. b && is_some (options_for t f.1.1)) taken

-- ---- at the end

pub value_at_end : (ws : List Text) (name : Text) → first_option ws ≡ None → value_in name ws ≡ None
value_at_end ws name e = ap (option_and_then (value_of name)) (unrolled ws ∙ ap (from_first ws) e) ∙ none_left ws
  where
    none_left : (ws : List Text) → option_and_then (value_of name) (from_first ws None) ≡ None
    none_left [] = refl
    none_left (w ∷ ws) = refl

pub options_at_end : (t : Text → Bool) (ws : List Text) → first_option ws ≡ None → is_some (options_for t ws) ≡ (length ws == 0)
options_at_end t ws e = ap (λ (o : Option Options). is_some (option_and_then (checked t) o)) (unrolled ws ∙ ap (from_first ws) e) ∙ at_end ws
  where
    at_end : (ws : List Text) → is_some (option_and_then (checked t) (from_first ws None)) ≡ (length ws == 0)
    at_end [] = refl
    at_end (w ∷ ws) = sym (eqb-suc-zero (length ws))

-- whether a value was found, by the text that is lent
pub lent_is : (r : Option (Bor Text)) (o : Option Text) (c : Bool) → option_map (λ (s : Bor Text). s.now) r ≡ o → is_some r ≡ c → is_some o ≡ c
lent_is None o c e is = rw (← e) is
lent_is (Some s) o c e is = rw (← e) is
