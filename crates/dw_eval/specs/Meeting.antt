-- What a value has to be to meet a leaf. A Not, an And and an Or are met by none.
use Rattle.std.specs.Prelude.{◌≡◌, ℕ, Bool, true, false, ◌&&◌, ◌++◌, List, [], nat_eq}
use Rattle.std.specs.List.{starts_with, ends_with}
use Rattle.dw_event.specs.Texts.{is_same}
use Rattle.dw_eval.specs.declared.nquery.NQuery.{NQuery}
use Rattle.dw_eval.specs.declared.nquery.NQuery.TheOpen.{NQuery-F, Equal, Below, Above, Between, Starts, Ends, Holds, Not, And, Or}
use Rattle.dw_eval.specs.declared.nquery.NQuery.TheFolds.{fold-NQuery}
use Rattle.dw_eval.specs.Leaves.{is_below, is_above, holds}

abbrev pub meets_step : NQuery-F (List ℕ → Bool) → List ℕ → Bool
meets_step (Equal field rule value) form = is_same form value
meets_step (Below field rule value edge) form = is_below form value edge
meets_step (Above field rule value edge) form = is_above form value edge
meets_step (Between field rule low low_edge high high_edge) form = is_above form low low_edge && is_below form high high_edge
meets_step (Starts field rule text) form = starts_with nat_eq form text
meets_step (Ends field rule text) form = ends_with nat_eq form text
meets_step (Holds field rule text) form = holds form text
meets_step (Not child) form = false
meets_step (And children) form = false
meets_step (Or children) form = false

-- a normal form meets the leaf
abbrev pub meets : NQuery → List ℕ → Bool
meets = fold-NQuery (List ℕ → Bool) meets_step

abbrev pub field_step : NQuery-F (List ℕ) → List ℕ
field_step (Equal field rule value) = field
field_step (Below field rule value edge) = field
field_step (Above field rule value edge) = field
field_step (Between field rule low low_edge high high_edge) = field
field_step (Starts field rule text) = field
field_step (Ends field rule text) = field
field_step (Holds field rule text) = field
field_step (Not child) = []
field_step (And children) = []
field_step (Or children) = []

-- the field of a leaf
abbrev pub field_of : NQuery → List ℕ
field_of = fold-NQuery (List ℕ) field_step

abbrev pub front_step : NQuery-F (List ℕ) → List ℕ
front_step (Equal field rule value) = []
front_step (Below field rule value edge) = []
front_step (Above field rule value edge) = []
front_step (Between field rule low low_edge high high_edge) = []
front_step (Starts field rule text) = text
front_step (Ends field rule text) = []
front_step (Holds field rule text) = []
front_step (Not child) = []
front_step (And children) = []
front_step (Or children) = []

-- what the normal forms begin with that meet a leaf, by what it is
abbrev pub front_of : NQuery → List ℕ
front_of = fold-NQuery (List ℕ) front_step

-- a form that meets a leaf begins so
abbrev pub FormsBeginSo : Type 0
FormsBeginSo = (leaf : NQuery) (form : List ℕ) → meets leaf form ≡ true → starts_with nat_eq form (front_of leaf) ≡ true
