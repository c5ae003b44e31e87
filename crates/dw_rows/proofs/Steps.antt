-- What is known after one entry or more, in the loops that read them.
use Rattle.std.proofs.Common.{◌≡◌, ℕ, suc, ◌<◌, Bool, true, false, List, [], ◌∷◌, ◌++◌, length, drop, get_or, drop-cons, refl, sym, ap, ◌∙◌, Option, Some, None, option_map, option_and_then}
use Rattle.serde_json.specs.Data.{Data, Items, item, Members, member}
use Rattle.serde_json.specs.View.{view, items_view}
use Rattle.serde_json.specs.declared.value.Value.{Value}
use Rattle.dw_rows.specs.Values.{guarded}
use Rattle.dw_rows.specs.Entries.{Entry}
use Rattle.dw_rows.specs.Gathering.{with_entry, with_entries}
use Rattle.dw_rows.specs.JsonRecords.{item_entry, item_entries, named_entries, field_entries}
use Rattle.dw_rows.specs.declared.gathered.Gathered.{Gathered}

pub entries_append : (g : Gathered) (xs ys : List Entry) → with_entries g (xs ++ ys) ≡ with_entries (with_entries g xs) ys
entries_append g [] ys = refl
entries_append g (x ∷ xs) ys = entries_append (with_entry g x) xs ys

module _ (g : Gathered) where
  after_one : (e : Entry) (rest : Option (List Entry)) → option_map (with_entries g) (option_map (λ es. e ∷ es) rest) ≡ option_map (with_entries (with_entry g e)) rest
  after_one e None = refl
  after_one e (Some es) = refl

  after_some : (es : List Entry) (rest : Option (List Entry)) → option_map (with_entries g) (option_map (λ more. es ++ more) rest) ≡ option_map (with_entries (with_entries g es)) rest
  after_some es None = refl
  after_some es (Some more) = ap Some (entries_append g es more)

  one_goes : (x : Option Entry) (rest : Option (List Entry)) (more : Gathered) → option_map (with_entry g) x ≡ Some more
      → option_map (with_entries g) (option_and_then (λ e. option_map (λ es. e ∷ es) rest) x) ≡ option_map (with_entries more) rest
  one_goes None rest more h = cc
  one_goes (Some e) rest more h = let is : with_entry g e ≡ more = cc in after_one e rest ∙ ap (λ (m : Gathered). option_map (with_entries m) rest) is

  one_stops : (x : Option Entry) (rest : Option (List Entry)) → option_map (with_entry g) x ≡ None
      → option_map (with_entries g) (option_and_then (λ e. option_map (λ es. e ∷ es) rest) x) ≡ None
  one_stops None rest h = refl
  one_stops (Some e) rest h = cc

  some_go : (x : Option (List Entry)) (rest : Option (List Entry)) (more : Gathered) → option_map (with_entries g) x ≡ Some more
      → option_map (with_entries g) (option_and_then (λ es. option_map (λ more. es ++ more) rest) x) ≡ option_map (with_entries more) rest
  some_go None rest more h = cc
  some_go (Some es) rest more h = let is : with_entries g es ≡ more = cc in after_some es rest ∙ ap (λ (m : Gathered). option_map (with_entries m) rest) is

  some_stop : (x : Option (List Entry)) (rest : Option (List Entry)) → option_map (with_entries g) x ≡ None
      → option_map (with_entries g) (option_and_then (λ es. option_map (λ more. es ++ more) rest) x) ≡ None
  some_stop None rest h = refl
  some_stop (Some es) rest h = cc

-- an item more
pub items_step : (field default : Option (List ℕ)) (g more : Gathered) (d : Data) (ds : Items) → option_map (with_entry g) (item_entry field default d) ≡ Some more
    → option_map (with_entries g) (item_entries field default (item d ds)) ≡ option_map (with_entries more) (item_entries field default ds)
items_step field default g more d ds h = one_goes g (item_entry field default d) (item_entries field default ds) more h

-- an item of no form
pub items_stop : (field default : Option (List ℕ)) (g : Gathered) (d : Data) (ds : Items) → option_map (with_entry g) (item_entry field default d) ≡ None
    → option_map (with_entries g) (item_entries field default (item d ds)) ≡ None
items_stop field default g d ds h = one_stops g (item_entry field default d) (item_entries field default ds) h

-- the same at a place of the list
pub items_stop_at : (field default : Option (List ℕ)) (g : Gathered) (vs : List Value) (i : ℕ) (v : Value) → i < length vs → v ≡ get_or vs i v
    → option_map (with_entry g) (item_entry field default (view v)) ≡ None → option_map (with_entries g) (item_entries field default (items_view (drop i vs))) ≡ None
items_stop_at field default g vs i v h is e = rw (drop-cons vs i v, ← is) (items_stop field default g (view v) (items_view (drop (suc i) vs)) e)

-- a field more
pub fields_step : (default : Option (List ℕ)) (g more : Gathered) (k : List ℕ) (d : Data) (ms : Members) → option_map (with_entries g) (named_entries k default d) ≡ Some more
    → option_map (with_entries g) (field_entries default (member k d ms)) ≡ option_map (with_entries more) (field_entries default ms)
fields_step default g more k d ms h = some_go g (named_entries k default d) (field_entries default ms) more h

-- a field with an item of no form
pub fields_stop : (default : Option (List ℕ)) (g : Gathered) (k : List ℕ) (d : Data) (ms : Members) → option_map (with_entries g) (named_entries k default d) ≡ None
    → option_map (with_entries g) (field_entries default (member k d ms)) ≡ None
fields_stop default g k d ms h = some_stop g (named_entries k default d) (field_entries default ms) h

-- after the name of a field, its items
pub name_then : (g : Gathered) (e : Entry) (rest : Option (List Entry)) → option_map (with_entries (with_entry g e)) rest ≡ option_map (with_entries g) (option_map (λ es. e ∷ es) rest)
name_then g e rest = sym (after_one g e rest)

-- what follows from a text that bytes are
pub guarded_then : (f : List ℕ → Option (List ℕ)) (b : Bool) (bytes text : List ℕ) → Some text ≡ guarded b (Some bytes) → f text ≡ guarded b (f bytes)
guarded_then f true bytes text h = let is : text ≡ bytes = cc in ap f is
guarded_then f false bytes text h = cc
