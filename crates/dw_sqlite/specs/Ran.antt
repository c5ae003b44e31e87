-- What a statement makes of a database for some puts, one after another.
use Rattle.std.specs.Prelude.{◌≡◌, ℕ, pos, true, List, [], ◌∷◌, Ok}
use Rattle.dw_outside.specs.declared.cell.Put.{Put}
use Rattle.sqlite.specs.declared.types.Value.{Value}
use Rattle.sqlite.specs.declared.types.Value.TheVariants.{Int, Blob}
use Rattle.sqlite.specs.Store.{Ghosts}
use Rattle.sqlite.specs.Effect.{Database}
use Rattle.sqlite.specs.State.{ExecutesInside}
use Rattle.sqlite.specs.Held.{Held, state}

-- what is bound for a put: the number of its table, its key and its content
abbrev pub bound_put : Put → List Value
bound_put p = Int (pos p.table) ∷ Blob p.key ∷ Blob p.content ∷ []

-- within a transaction the statement ran for a put, and was not refused
abbrev pub Ran : {S : Type 0} → Ghosts S → List ℕ → Put → Held S → Held S → Type 0
Ran g text p h k = (count : ℕ) × ExecutesInside 0 text (bound_put p) (state g h) (state g k) (Ok count)

-- it ran for each of these, in order
abbrev pub RanAll : {S : Type 0} → Ghosts S → List ℕ → List Put → Held S → Held S → Type 0
RanAll g text [] h k = h ≡ k
RanAll {S} g text (p ∷ ps) h k = (mid : Held S) × Ran g text p h mid × RanAll g text ps mid k

-- one transaction with all of these makes this of the database
abbrev pub Makes : {S : Type 0} → Ghosts S → List ℕ → List Put → Held S → Database → Type 0
Makes {S} g text puts old db = (last : Held S) × RanAll g text puts (record old { in_transaction = true }) last × (db ≡ (state g last).now)
