-- The names of types of a list, one after another.
use Rattle.std.proofs.Common.{◌≡◌, ℕ, suc, ◌+◌, ◌<◌, List, [], ◌∷◌, ◌++◌, length, drop, get_or, drop-cons, refl, sym, ◌∙◌, ap, add-one, append_assoc, Bool, true, false, Option, Some, None, option_map, option_and_then}
use Rattle.serde_json.specs.Find.{as_str}
use Rattle.serde_json.specs.View.{view, items_view}
use Rattle.serde_json.specs.declared.value.Value.{Value}
use Rattle.dw_key.specs.TypeName.{is_type_name}
use Rattle.dw_rows.specs.Values.{guarded}
use Rattle.dw_wire.specs.ReadLine.{type_names}

-- the name of a type that a value is
abbrev pub named : Value → Option (List ℕ)
named v = option_and_then (λ name. guarded (is_type_name name) (Some name)) (as_str (view v))

joined : (found : List (List ℕ)) (name : List ℕ) (rest : Option (List (List ℕ)))
    → option_map (λ ns. found ++ ns) (option_map (λ ns. name ∷ ns) rest) ≡ option_map (λ ns. (found ++ name ∷ []) ++ ns) rest
joined found name None = refl
joined found name (Some ns) = ap Some (sym (append_assoc found (name ∷ []) ns))

known : (o : Option (List ℕ)) (rest : Option (List (List ℕ)))
    → option_and_then (λ name. guarded (is_type_name name) (option_map (λ ns. name ∷ ns) rest)) o ≡ option_and_then (λ name. option_map (λ ns. name ∷ ns) rest) (option_and_then (λ name. guarded (is_type_name name) (Some name)) o)
known None rest = refl
known (Some name) rest = at (is_type_name name)
  where
    at : (b : Bool) → guarded b (option_map (λ ns. name ∷ ns) rest) ≡ option_and_then (λ n. option_map (λ ns. n ∷ ns) rest) (guarded b (Some name))
    at true = refl
    at false = refl

pub types_step : (found : List (List ℕ)) (name : List ℕ) (vs : List Value) (i : ℕ) (v : Value)
    → i < length vs → v ≡ get_or vs i v → named v ≡ Some name
    → option_map (λ ns. found ++ ns) (type_names (items_view (drop i vs))) ≡ option_map (λ ns. (found ++ name ∷ []) ++ ns) (type_names (items_view (drop (i + 1) vs)))
types_step found name vs i v h is e =
    let rest = type_names (items_view (drop (suc i) vs)) in
    rw (drop-cons vs i v, ← is, add-one)
    (ap (option_map (λ ns. found ++ ns)) (known (as_str (view v)) rest ∙ ap (option_and_then (λ n. option_map (λ ns. n ∷ ns) rest)) e)
    ∙ joined found name rest)

pub types_stop : (found : List (List ℕ)) (vs : List Value) (i : ℕ) (v : Value)
    → i < length vs → v ≡ get_or vs i v → named v ≡ None
    → option_map (λ ns. found ++ ns) (type_names (items_view (drop i vs))) ≡ None
types_stop found vs i v h is e =
    let rest = type_names (items_view (drop (suc i) vs)) in
    rw (drop-cons vs i v, ← is)
    (ap (option_map (λ ns. found ++ ns)) (known (as_str (view v)) rest ∙ ap (option_and_then (λ n. option_map (λ ns. n ∷ ns) rest)) e))
