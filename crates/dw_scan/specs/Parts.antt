-- The leaves on indexed fields of a query: what each asks of a value, and which places its cells may have.
use Rattle.std.specs.Prelude.{◌≡◌, ℕ, Bool, true, false, ◌&&◌, cond, List, [], ◌∷◌, length, slice_index_or, nat_eq}
use Rattle.std.specs.List.{starts_with, ends_with, list_any}
use Rattle.dw_key.specs.declared.doc_key.DocKey.{DocKey}
use Rattle.dw_dict.specs.declared.rule.FieldRule.{FieldRule}
use Rattle.dw_event.specs.Texts.{is_same}
use Rattle.dw_nest.specs.Shapes.{Shape, leaf, unknown, opposite, and, or, shape, Alike, leaves}
use Rattle.dw_nest.specs.declared.tree.Tree.{Tree}
use Rattle.dw_eval.specs.declared.nquery.NQuery.{NQuery}
use Rattle.dw_eval.specs.declared.nquery.NQuery.TheOpen.{NQuery-F, Equal, Below, Above, Between, Starts, Ends, Holds, Not, And, Or}
use Rattle.dw_eval.specs.declared.nquery.NQuery.TheFolds.{fold-NQuery}
use Rattle.dw_eval.specs.Leaves.{is_below, is_above, holds}
use Rattle.dw_eval.specs.Meeting.{meets, field_of, front_of}
use Rattle.dw_tablet.specs.Held.{Held, Agrees}
use Rattle.dw_tablet.specs.Places.{covers}
use Rattle.dw_tablet.specs.Fronts.{begins, values_front}
use Rattle.dw_tablet.specs.declared.field_values.LeafError.{LeafError}
use Rattle.dw_tablet.specs.declared.field_values.LeafError.TheVariants.{Missing, OutOfMemory}
use Rattle.dw_iter.specs.declared.leaf.Leaf.{Leaf}
use Rattle.dw_iter.specs.LeafLists.{AreLeafDocs}
use Rattle.dw_iter.specs.LeafParts.{LeafStands, made_from}
use Rattle.dw_iter.specs.Made.{is_value_place, LacksPlace}
use Rattle.dw_scan.specs.declared.ask.Ask.{Ask}

-- the field, the test of a normal form, and the places
pub record LeafPart : Type 0 where
  pub field : List ℕ
  pub test : List ℕ → Bool
  pub places : List ℕ → Bool

-- a leaf where the field is indexed; else nothing is known
abbrev pub part_where : FieldRule → LeafPart → Shape LeafPart
part_where rule part = cond rule.indexed (leaf part) unknown

-- the places of all values of a field
abbrev pub field_places : List ℕ → List ℕ → List ℕ → Bool
field_places shard field place = begins (values_front shard field []) place

abbrev pub part_step : List ℕ → NQuery-F (Shape LeafPart) → Shape LeafPart
part_step shard (Equal field rule value) = part_where rule (record { field = field; test = λ form. is_same form value; places = is_value_place shard field value })
part_step shard (Below field rule value edge) = part_where rule (record { field = field; test = λ form. is_below form value edge; places = field_places shard field })
part_step shard (Above field rule value edge) = part_where rule (record { field = field; test = λ form. is_above form value edge; places = field_places shard field })
part_step shard (Between field rule low low_edge high high_edge) =
    part_where rule (record { field = field; test = λ form. is_above form low low_edge && is_below form high high_edge; places = field_places shard field })
part_step shard (Starts field rule text) = part_where rule (record { field = field; test = λ form. starts_with nat_eq form text; places = begins (values_front shard field text) })
part_step shard (Ends field rule text) = part_where rule (record { field = field; test = λ form. ends_with nat_eq form text; places = field_places shard field })
part_step shard (Holds field rule text) = part_where rule (record { field = field; test = λ form. holds form text; places = field_places shard field })
part_step shard (Not child) = opposite child
part_step shard (And children) = and (length children) (λ i. slice_index_or children i unknown)
part_step shard (Or children) = or (length children) (λ i. slice_index_or children i unknown)

-- the leaves of a query, in the shape of the query
abbrev pub parts_of : List ℕ → NQuery → Shape LeafPart
parts_of shard = fold-NQuery (Shape LeafPart) (part_step shard)

-- what a leaf asks of a value and where its cells stand, by the field and the beginning of what meets it
abbrev pub set_part : List ℕ → NQuery → LeafPart
set_part shard q = record { field = field_of q; test = meets q; places = begins (values_front shard (field_of q) (front_of q)) }

-- a place is one of some leaf on an indexed field of the query
abbrev pub is_leaf_place : List ℕ → NQuery → List ℕ → Bool
is_leaf_place shard q place = list_any (λ p. p.places place) (leaves (parts_of shard q))

-- a place that is not covered, of a leaf on an indexed field of the query
pub record IsLeafGap (tablet : Held) (q : NQuery) (place : List ℕ) : Type 0 where
  pub is : is_leaf_place tablet.shard q place ≡ true
  pub missing : covers tablet.spans place ≡ false

-- an iterator stands, for each content that agrees with the tablet, for the documents with a value that meets the leaf, and the places that it may
-- lack are places of the leaf which are not covered
pub record IsLeafOf (tablet : Held) (ask : Ask) (iterator : Leaf) (part : LeafPart) : Type 0 where
  pub stands : (content : List (List ℕ)) (all : List DocKey) → Agrees tablet content → AreLeafDocs part.field part.test ask.auths ask.snapshot ask.types content all → LeafStands iterator all
  pub lacks : (place : List ℕ) → LacksPlace (made_from iterator) place → (part.places place ≡ true) × (covers tablet.spans place ≡ false)

-- a tree of iterators is that of the query
abbrev pub IsTreeOf : Held → Ask → Tree Leaf → NQuery → Type 0
IsTreeOf tablet ask tree q = Alike (IsLeafOf tablet ask) (shape tree) (parts_of tablet.shard q)

-- some trees are those of some queries, one after another
abbrev pub AreTreesOf : Held → Ask → List (Tree Leaf) → List NQuery → Type 0
AreTreesOf tablet ask [] [] = Unit {0}
AreTreesOf tablet ask [] (q ∷ qs) = ⊥
AreTreesOf tablet ask (t ∷ ts) [] = ⊥
AreTreesOf tablet ask (t ∷ ts) (q ∷ qs) = IsTreeOf tablet ask t q × AreTreesOf tablet ask ts qs

-- why there is no iterator of a range or a pattern: a place of it that is not covered, where its field is indexed, or want of memory
abbrev pub IsSetError : Held → NQuery → Bool → LeafError → Type 0
IsSetError tablet q indexed (Missing place) = (indexed ≡ true) × ((set_part tablet.shard q).places place ≡ true) × (covers tablet.spans place ≡ false)
IsSetError tablet q indexed OutOfMemory = Unit {0}

-- why there is no tree of a query: a place of a leaf that is not covered, or want of memory
abbrev pub IsTreeError : Held → NQuery → LeafError → Type 0
IsTreeError tablet q (Missing place) = IsLeafGap tablet q place
IsTreeError tablet q OutOfMemory = Unit {0}

-- the same of some queries
abbrev pub IsTreesError : Held → List NQuery → LeafError → Type 0
IsTreesError tablet qs (Missing place) = (list_any (λ q. is_leaf_place tablet.shard q place) qs ≡ true) × (covers tablet.spans place ≡ false)
IsTreesError tablet qs OutOfMemory = Unit {0}
