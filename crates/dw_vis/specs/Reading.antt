-- Reading a text from left to right, whatever its terms and expressions are read as.
use Rattle.std.specs.Prelude.{ℕ, Bool, true, false, List, [], ◌∷◌, ◌++◌, ◌==◌, if◌then◌else◌, Option, Some, None}
use Rattle.dw_vis.specs.declared.reading.Sign.{Sign}
use Rattle.dw_vis.specs.declared.reading.Sign.TheVariants.{All, Any}
use Rattle.dw_vis.specs.Grammar.{is_bare, needs_escape}

-- what texts are read as
pub record Meaning (V : Type 0) : Type 0 where
  -- nothing
  pub nothing : V
  -- a term of this name
  pub term : List ℕ → V
  -- two ones with this sign between them
  pub two : Sign → V → V → V
  -- ones with this sign between any two, and one more
  pub further : Sign → V → V → V

abbrev pub is_same_sign : Sign → Sign → Bool
is_same_sign All All = true
is_same_sign Any Any = true
is_same_sign All Any = false
is_same_sign Any All = false

-- What was read of a level up to the end of a one: its first sign, if there is one, and what it is read as, which is None
-- where both signs stand at this level or at one within it.
pub record Level (V : Type 0) : Type 0 where
  pub sign : Option Sign
  pub worth : Option V

-- what stands before a one at its level
pub data Before (V : Type 0) : Type 0 where
  start : Before V
  joined : Level V → Sign → Before V

pub data Place (V : Type 0) : Type 0 where
  -- where a one is to begin
  at_one : Before V → Place V
  -- in a bare term, with its name so far
  in_bare : Before V → List ℕ → Place V
  -- between quotes, with the name so far
  in_quotes : Before V → List ℕ → Place V
  -- the same behind a `\`
  in_escape : Before V → List ℕ → Place V
  -- behind a one
  behind : Level V → Place V

-- Where a reader stands, and what stands before each parenthesis that is open there, the last first.
pub record State (V : Type 0) : Type 0 where
  pub outside : List (Before V)
  pub place : Place V

pub data Next (V : Type 0) : Type 0 where
  goes : State V → Next V
  fails : Next V

pub data Outcome (V : Type 0) : Type 0 where
  -- it is not in the grammar, not even with mixed signs
  refused : Outcome V
  -- it is in the grammar with mixed signs alone
  mixes : Outcome V
  reads : V → Outcome V

abbrev pub both : {V : Type 0} → (V → V → V) → Option V → Option V → Option V
both f None y = None
both f (Some x) None = None
both f (Some x) (Some y) = Some (f x y)

-- one more behind a level and a sign
abbrev pub joined_worth : {V : Type 0} → Meaning V → Option Sign → Sign → Option V → Option V → Option V
joined_worth m None s x y = both (m.two s) x y
joined_worth m (Some r) s x y = if is_same_sign r s then both (m.further s) x y else None

abbrev pub level_with : {V : Type 0} → Meaning V → Before V → Option V → Level V
level_with m start w = record { sign = None; worth = w }
level_with m (joined l s) w = record { sign = Some s; worth = joined_worth m l.sign s l.worth w }

abbrev pub term_level : {V : Type 0} → Meaning V → Before V → List ℕ → Level V
term_level m before name = level_with m before (Some (m.term name))

abbrev pub goes_to : {V : Type 0} → List (Before V) → Place V → Next V
goes_to outside place = goes (record { outside = outside; place = place })

-- a closing parenthesis behind a level
abbrev pub close_level : {V : Type 0} → Meaning V → List (Before V) → Option V → Next V
close_level m [] w = fails
close_level m (before ∷ outside) w = goes_to outside (behind (level_with m before w))

-- a byte where a one is to begin
unfoldable pub one_step : {V : Type 0} → List (Before V) → Before V → ℕ → Next V
one_step outside before b =
    if b == 40 then goes_to (before ∷ outside) (at_one start)
    else (if b == 34 then goes_to outside (in_quotes before [])
    else (if is_bare b then goes_to outside (in_bare before (b ∷ []))
    else fails))

-- a byte behind a one
abbrev pub behind_step : {V : Type 0} → Meaning V → List (Before V) → Level V → ℕ → Next V
behind_step m outside l b =
    if b == 38 then goes_to outside (at_one (joined l All))
    else (if b == 124 then goes_to outside (at_one (joined l Any))
    else (if b == 41 then close_level m outside l.worth
    else fails))

-- a byte in or behind a bare term
unfoldable pub bare_step : {V : Type 0} → Meaning V → List (Before V) → Before V → List ℕ → ℕ → Next V
bare_step m outside before name b =
    if is_bare b then goes_to outside (in_bare before (name ++ b ∷ []))
    else behind_step m outside (term_level m before name) b

abbrev pub end_quotes : {V : Type 0} → Meaning V → List (Before V) → Before V → List ℕ → Next V
end_quotes m outside before [] = fails
end_quotes m outside before (c ∷ cs) = goes_to outside (behind (term_level m before (c ∷ cs)))

-- a byte between quotes
unfoldable pub quotes_step : {V : Type 0} → Meaning V → List (Before V) → Before V → List ℕ → ℕ → Next V
quotes_step m outside before name b =
    if b == 34 then end_quotes m outside before name
    else (if b == 92 then goes_to outside (in_escape before name)
    else goes_to outside (in_quotes before (name ++ b ∷ [])))

-- a byte behind a `\`
unfoldable pub escape_step : {V : Type 0} → List (Before V) → Before V → List ℕ → ℕ → Next V
escape_step outside before name b =
    if needs_escape b then goes_to outside (in_quotes before (name ++ b ∷ [])) else fails

-- where a byte leads a reader
abbrev pub step_at : {V : Type 0} → Meaning V → List (Before V) → Place V → ℕ → Next V
step_at m outside (at_one before) b = one_step outside before b
step_at m outside (in_bare before name) b = bare_step m outside before name b
step_at m outside (in_quotes before name) b = quotes_step m outside before name b
step_at m outside (in_escape before name) b = escape_step outside before name b
step_at m outside (behind l) b = behind_step m outside l b

abbrev pub step : {V : Type 0} → Meaning V → State V → ℕ → Next V
step m st b = step_at m st.outside st.place b

-- what the whole is read as
abbrev pub outcome_of : {V : Type 0} → Option V → Outcome V
outcome_of None = mixes
outcome_of (Some v) = reads v

abbrev pub ended_at : {V : Type 0} → Meaning V → Place V → Outcome V
ended_at m (at_one before) = refused
ended_at m (in_bare before name) = outcome_of (term_level m before name).worth
ended_at m (in_quotes before name) = refused
ended_at m (in_escape before name) = refused
ended_at m (behind l) = outcome_of l.worth

-- at the end of the text no parenthesis is open
abbrev pub ended_in : {V : Type 0} → Meaning V → List (Before V) → Place V → Outcome V
ended_in m [] place = ended_at m place
ended_in m (before ∷ outside) place = refused

abbrev pub ended : {V : Type 0} → Meaning V → State V → Outcome V
ended m st = ended_in m st.outside st.place

abbrev pub outcome_then : {V : Type 0} → Next V → (State V → Outcome V) → Outcome V
outcome_then (goes st) follows = follows st
outcome_then fails follows = refused

-- the rest of a text from a state on
unfoldable pub read_from : {V : Type 0} → Meaning V → State V → List ℕ → Outcome V
read_from m st [] = ended m st
read_from m st (b ∷ bs) = outcome_then (step m st b) (λ next. read_from m next bs)

abbrev pub first_state : {V : Type 0} → State V
first_state = record { outside = []; place = at_one start }

-- a text, byte after byte
abbrev pub read : {V : Type 0} → Meaning V → List ℕ → Outcome V
read m [] = reads m.nothing
read m (b ∷ bs) = read_from m first_state (b ∷ bs)
