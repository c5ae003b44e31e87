-- What the search for the least key says.
use Rattle.std.specs.Prelude.{◌≡◌, ◌<◌, ℕ, Bool, true, false, cond, List, length, Contains}
use Rattle.dw_key.specs.declared.doc_key.DocKey.{DocKey}
use Rattle.dw_nest.specs.declared.bound.Bound.{Bound}
use Rattle.dw_nest.specs.declared.bound.Bound.TheVariants.{From}
use Rattle.dw_nest.specs.declared.bound.Found.{Found}
use Rattle.dw_nest.specs.declared.bound.Found.TheVariants.{Key, End, Missing}
use Rattle.dw_nest.specs.declared.place.Place.{Place}
use Rattle.dw_nest.specs.declared.place.Place.TheVariants.{Positive, Negative}
use Rattle.dw_nest.specs.declared.place.Need.{Need}
use Rattle.dw_nest.specs.declared.place.Need.TheVariants.{All, Any}
use Rattle.dw_nest.specs.declared.leap.Leap.{Leap}
use Rattle.dw_nest.specs.declared.leap.Leap.TheVariants.{Nowhere, Agreed, Ahead, Ended, Unknown}
use Rattle.dw_nest.specs.declared.tree.Tree.{Tree}
use Rattle.dw_nest.specs.Bounds.{meets, is_before}
use Rattle.dw_nest.specs.Places.{passes}
use Rattle.dw_nest.specs.Shapes.{Shape, leaf, unknown, opposite, and, or, shapes, value, Alike, is_enumerable, any_of, all_of}

-- a fact of the key that was found, if one was
abbrev pub IfFound : Found → (DocKey → Type 0) → Type 0
IfFound (Key key) fact = fact key
IfFound End fact = Unit {0}
IfFound Missing fact = Unit {0}

-- whether enough of so many hold
abbrev pub enough : Need → ℕ → (ℕ → Bool) → Bool
enough All count holds = all_of count holds
enough Any count holds = any_of count holds

-- whether enough of so many children can be enumerated: one where all have to pass, else all
abbrev pub enough_enumerable : Need → ℕ → (ℕ → Bool) → Bool
enough_enumerable All count holds = any_of count holds
enough_enumerable Any count holds = all_of count holds

-- an And's value is looked for where all children's are, at a negative place where one is
abbrev pub need_of_and : Place → Need
need_of_and Positive = All
need_of_and Negative = Any

-- and an Or's the other way about
abbrev pub need_of_or : Place → Need
need_of_or Positive = Any
need_of_or Negative = All

-- a leaf may show the key
abbrev pub Held : {L : Type 0} → (L → List DocKey) → Shape L → DocKey → Type 0
Held keys (leaf x) key = Contains (keys x) key
Held keys unknown key = ⊥
Held keys (opposite a) key = Held keys a key
Held keys (and count child) key = (i : ℕ) × (i < count) × Held keys (child i) key
Held keys (or count child) key = (i : ℕ) × (i < count) × Held keys (child i) key

-- by none of the readings that fit does a key from the bound on pass
abbrev pub NonePasses : {A : Type 0} → (A → Type 0) → (A → DocKey → Bool) → Bound → Type 0
NonePasses {A} Fits pass bound = (a : A) → Fits a → (other : DocKey) → meets bound other ≡ true → pass a other ≡ false

-- nor one before this key
abbrev pub NonePassesBefore : {A : Type 0} → (A → Type 0) → (A → DocKey → Bool) → Bound → DocKey → Type 0
NonePassesBefore {A} Fits pass bound key = (a : A) → Fits a → (other : DocKey) → meets bound other ≡ true → is_before other key ≡ true → pass a other ≡ false

-- the least key from the bound on that passes, by each of the readings that fit
pub record IsLeastKey {A : Type 0} (Fits : A → Type 0) (pass : A → DocKey → Bool) (IsHeld : DocKey → Type 0) (bound : Bound) (key : DocKey) : Type 0 where
  pub met : meets bound key ≡ true
  pub held : IsHeld key
  pub passing : (a : A) → Fits a → pass a key ≡ true
  pub least : NonePassesBefore Fits pass bound key

-- the least key, or that there is none
abbrev pub IsLeast : {A : Type 0} → (A → Type 0) → (A → DocKey → Bool) → (DocKey → Type 0) → Bound → Found → Type 0
IsLeast Fits pass IsHeld bound (Key key) = IsLeastKey Fits pass IsHeld bound key
IsLeast Fits pass IsHeld bound End = NonePasses Fits pass bound
IsLeast Fits pass IsHeld bound Missing = Unit {0}

-- the lists that the children stand for
abbrev pub ChildrenStand : {L : Type 0} → (L → List DocKey → Type 0) → List (Tree L) → (ℕ → Shape (List DocKey)) → Type 0
ChildrenStand stands children lists = (i : ℕ) → i < length children → Alike stands (shapes children i) (lists i)

-- whether enough children pass at a key
abbrev pub children_pass : Need → Place → ℕ → (ℕ → Shape (List DocKey)) → DocKey → Bool
children_pass need place count lists key = enough need count (λ i. passes place (value (lists i) key))

-- the children that can be enumerated, of the first so many, have this key for their least
pub record IsAgreed {L : Type 0} (stands : L → List DocKey → Type 0) (keys : L → List DocKey) (place : Place) (children : List (Tree L)) (upto : ℕ) (bound : Bound) (key : DocKey) : Type 0 where
  pub met : meets bound key ≡ true
  pub held : Held keys (and (length children) (shapes children)) key
  pub passing : (lists : ℕ → Shape (List DocKey)) → ChildrenStand stands children lists → (i : ℕ) → i < upto → is_enumerable place (shapes children i) ≡ true → passes place (value (lists i) key) ≡ true
  pub least : NonePassesBefore (ChildrenStand stands children) (children_pass All place (length children)) bound key

-- one of them has this key for its least, and another an earlier one
pub record IsAhead {L : Type 0} (stands : L → List DocKey → Type 0) (keys : L → List DocKey) (place : Place) (children : List (Tree L)) (bound : Bound) (key : DocKey) : Type 0 where
  pub met : meets bound key ≡ true
  pub held : Held keys (and (length children) (shapes children)) key
  pub low : DocKey
  pub low_met : meets bound low ≡ true
  pub low_held : Held keys (and (length children) (shapes children)) low
  pub passed : is_before low key ≡ true
  pub least : NonePassesBefore (ChildrenStand stands children) (children_pass All place (length children)) bound key

-- how far one round over the first so many children came
abbrev pub IsLeap : {L : Type 0} → (L → List DocKey → Type 0) → (L → List DocKey) → Place → List (Tree L) → ℕ → Bound → Leap → Type 0
IsLeap stands keys place children upto bound Nowhere = (i : ℕ) → i < upto → is_enumerable place (shapes children i) ≡ false
IsLeap stands keys place children upto bound (Agreed key) = IsAgreed stands keys place children upto bound key
IsLeap stands keys place children upto bound (Ahead key) = IsAhead stands keys place children bound key
IsLeap stands keys place children upto bound Ended = NonePasses (ChildrenStand stands children) (children_pass All place (length children)) bound
IsLeap stands keys place children upto bound Unknown = Unit {0}

-- where a round goes on
abbrev pub leap_bound : Leap → Bound → Bound
leap_bound Nowhere bound = bound
leap_bound (Agreed key) bound = From key
leap_bound (Ahead key) bound = From key
leap_bound Ended bound = bound
leap_bound Unknown bound = bound

-- a round that has come to a key
abbrev pub leap_to : Leap → DocKey → Leap
leap_to Nowhere key = Agreed key
leap_to (Agreed old) key = cond (is_before old key) (Ahead key) (Agreed key)
leap_to (Ahead old) key = Ahead key
leap_to Ended key = Ended
leap_to Unknown key = Unknown

-- and one to which a child has answered
abbrev pub leap_after : Leap → Found → Leap
leap_after leap (Key key) = leap_to leap key
leap_after leap End = Ended
leap_after leap Missing = Unknown

-- whether a round is over before all children were asked
abbrev pub is_over : Leap → Bool
is_over Nowhere = false
is_over (Agreed key) = false
is_over (Ahead key) = false
is_over Ended = true
is_over Unknown = true

-- the earlier of two answers, and Missing where one of them is
abbrev pub sooner_of : Found → Found → Found
sooner_of Missing found = Missing
sooner_of End found = found
sooner_of (Key least) End = Key least
sooner_of (Key least) Missing = Missing
sooner_of (Key least) (Key key) = Key (cond (is_before key least) key least)
