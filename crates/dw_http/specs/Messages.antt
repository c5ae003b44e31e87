-- The messages of a connection's bytes. Nothing here knows in what pieces the bytes come.
use Rattle.std.specs.Prelude.{◌≡◌, ◌<◌, ◌≤◌, ◌⊎◌, ℕ, ◌==◌, ◌||◌, Bool, true, false, List, [], ◌∷◌, ◌++◌, length, map, take, drop, codes, Result, Ok, Err, if◌then◌else◌}
use Rattle.std.specs.List.{list_any}
use Rattle.httparse.specs.Grammar.{RequestHead}
use Rattle.httparse.specs.Spans.{name_and_value}
use Rattle.dw_http.specs.Heads.{Stands, NoneStands, IsHopeless}
use Rattle.dw_http.specs.Lines.{is_large}
use Rattle.dw_http.specs.Fields.{values_named, has_close, is_csv}
use Rattle.dw_http.specs.Lengths.{size_in}
use Rattle.dw_http.specs.declared.why.HttpWhy.{HttpWhy}
use Rattle.dw_http.specs.declared.why.HttpWhy.TheVariants.{Head, Large, Cut}

-- who a message says that asks: the values of `x-caller`
pub data Asker : Type 0 where
  no_one : Asker
  one : List ℕ → Asker
  many : Asker

abbrev pub asker_in : List (List ℕ) → Asker
asker_in [] = no_one
asker_in (value ∷ []) = one value
asker_in (value ∷ other ∷ values) = many

-- the first content type is that of CSV
abbrev pub csv_in : List (List ℕ) → Bool
csv_in [] = false
csv_in (value ∷ values) = is_csv value

-- what a service is asked
pub record Ask : Type 0 where
  pub method : List ℕ
  pub target : List ℕ
  pub asker : Asker
  pub csv : Bool
  pub body : List ℕ
  pub close : Bool

abbrev pub fields_of : RequestHead → List (List ℕ × List ℕ)
fields_of h = map name_and_value h.fields

-- the connection ends after the reply
abbrev pub closes : ℕ → List (List ℕ × List ℕ) → Bool
closes minor fields = minor == 0 || list_any has_close (values_named (codes "connection") fields)

abbrev pub ask_by : List ℕ → List ℕ → ℕ → List (List ℕ × List ℕ) → List ℕ → Ask
ask_by method target minor fields body = record {
  method = method;
  target = target;
  asker = asker_in (values_named (codes "x-caller") fields);
  csv = csv_in (values_named (codes "content-type") fields);
  body = body;
  close = closes minor fields;
}

abbrev pub ask_of : RequestHead → List ℕ → Ask
ask_of h body = ask_by h.method h.target h.minor (fields_of h) body

abbrev pub size_of : RequestHead → Result ℕ HttpWhy
size_of h = size_in (fields_of h)

-- a whole message with this ask stands at the front of the bytes, and what follows it is left
pub record Takes (bytes : List ℕ) (ask : Ask) (left : List ℕ) : Type 0 where
  pub head : RequestHead
  pub rest : List ℕ
  pub stands : Stands bytes head rest
  pub size : ℕ
  pub size_is : size_of head ≡ Ok size
  pub whole : size ≤ length rest
  pub ask_is : ask ≡ ask_of head (take size rest)
  pub left_is : left ≡ drop size rest

-- the bytes begin with messages of these asks, after none of which the connection ends
abbrev pub Begins : List ℕ → List Ask → List ℕ → Type 0
Begins bytes [] left = left ≡ bytes
Begins bytes (ask ∷ asks) left = (next : List ℕ) × Takes bytes ask next × (ask.close ≡ false) × Begins next asks left

-- how the messages end
pub data End : Type 0 where
  done : End
  bad : HttpWhy → End

-- a head stands, and its body is refused or cut off
abbrev pub EndsInBody : Result ℕ HttpWhy → List ℕ → End → Type 0
EndsInBody (Err why) rest end = end ≡ bad why
EndsInBody (Ok size) rest end = (length rest < size) × (end ≡ bad Cut)

-- no head stands: too large or cut off, or no head where none can come of it
abbrev pub EndsInHead : List ℕ → End → Type 0
EndsInHead bytes end =
    (0 < length bytes) × NoneStands bytes
    × ((end ≡ bad (if is_large bytes then Large else Cut)) ⊎ ((end ≡ bad Head) × IsHopeless bytes))

-- no whole message stands at the front of the bytes, which are all
abbrev pub EndsAt : List ℕ → End → Type 0
EndsAt bytes end =
    ((bytes ≡ []) × (end ≡ done))
    ⊎ EndsInHead bytes end
    ⊎ ((h : RequestHead) × (rest : List ℕ) × Stands bytes h rest × EndsInBody (size_of h) rest end)

-- the connection ends after the last of the asks
pub record Closed (bytes : List ℕ) (asks : List Ask) : Type 0 where
  pub before : List Ask
  pub last : Ask
  pub asks_are : asks ≡ before ++ last ∷ []
  pub left : List ℕ
  pub begins : Begins bytes before left
  pub rest : List ℕ
  pub takes : Takes left last rest
  pub close : last.close ≡ true

-- the asks of a connection's bytes, and how they end
abbrev pub Messages : List ℕ → List Ask → End → Type 0
Messages bytes asks end =
    ((left : List ℕ) × Begins bytes asks left × EndsAt left end)
    ⊎ (Closed bytes asks × (end ≡ done))

-- nothing in the bytes ends the connection but that they end
abbrev pub IsOpen : List ℕ → Type 0
IsOpen bytes =
    (bytes ≡ [])
    ⊎ ((0 < length bytes) × NoneStands bytes × (is_large bytes ≡ false))
    ⊎ ((h : RequestHead) × (rest : List ℕ) × Stands bytes h rest × (size : ℕ) × (size_of h ≡ Ok size) × (length rest < size))
