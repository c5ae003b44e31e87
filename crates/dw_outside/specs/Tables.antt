-- Where cells stand, and all tables as one map.
use Rattle.std.specs.Prelude.{◌≡◌, ◌≤◌, ℕ, zero, suc, ◌==◌, List, [], ◌∷◌, Bool, true, ◌&&◌, filter, map as list_map, take, refl}
use Rattle.std.specs.Option.{is_some}
use Rattle.std.specs.Ordering.{nat_cmp, ordering_then, eq_by_cmp, is_le, is_lt}
use Rattle.std.specs.Cmp.Lexicographic.{slice_cmp}
use Rattle.std.specs.FinMap as map
use Rattle.std.specs.Coded.{Coded, code_by, coded×, coded_ℕ, coded_list}
use Rattle.std.specs.declared.cmp.Ordering.{Ordering}
use Rattle.dw_outside.specs.declared.slot.Slot.{Slot}
use Rattle.dw_outside.specs.declared.cell.Put.{Put}
use Rattle.dw_outside.specs.declared.cell.Cell.{Cell}

-- slots ascend by table, and then by the bytes of the key
abbrev pub slot_cmp : Slot → Slot → Ordering
slot_cmp a b = ordering_then (nat_cmp a.table b.table) (slice_cmp nat_cmp a.key b.key)

-- the two are one slot
abbrev pub is_slot : Slot → Slot → Bool
is_slot a b = eq_by_cmp slot_cmp a b

-- all tables: what stands in each slot
abbrev pub Tables : Type 0
Tables = map.FinMap slot_cmp (List ℕ)

-- a code of slots and one of tables, by which proofs tell them apart
abbrev pub coded_slot : Coded Slot
coded_slot = code_by (ℕ × List ℕ) (coded× coded_ℕ (coded_list coded_ℕ)) (λ s. (s.table, s.key)) (λ p. record { table = p.0; key = p.1 }) (λ _. refl)

abbrev pub tables_code : Coded Tables
tables_code = map.code coded_slot (coded_list coded_ℕ)

-- no cell stands outside the tables 0 to 3
abbrev pub HasFourTables : Tables → Type 0
HasFourTables m = (s : Slot) → is_some (map.get m s) ≡ true → s.table ≤ 3

-- the slot that a put sets
abbrev pub slot_of_put : Put → Slot
slot_of_put p = record { table = p.table; key = p.key }

-- the tables with these contents set, one after another: in a slot that is named twice the last stands
abbrev pub applied : List Put → Tables → Tables
applied [] m = m
applied (p ∷ ps) m = applied ps (map.insert m (slot_of_put p) p.content)

-- what tables hold, as puts in the order of their slots
abbrev pub puts_from : Tables → List Put
puts_from m = list_map (λ e. record { table = e.0.table; key = e.0.key; content = e.1 }) (map.entries m)

-- the tables m with what a batch p holds in place of what they have there: what p leaves once it is applied
unfoldable pub over : Tables → Tables → Tables
over p m = applied (puts_from p) m

-- a key is at least `from` and below `before`, where an empty `before` is no bound
abbrev pub is_in_span : List ℕ → List ℕ → List ℕ → Bool
is_in_span from [] key = is_le (slice_cmp nat_cmp from key)
is_in_span from (b ∷ bs) key = is_le (slice_cmp nat_cmp from key) && is_lt (slice_cmp nat_cmp key (b ∷ bs))

-- the first n, or all where n is 0
abbrev pub limited : {A : Type 0} → ℕ → List A → List A
limited zero xs = xs
limited (suc n) xs = take (suc n) xs

-- the cells of a table in a span, ascending: the key and the content of each
abbrev pub span_of : ℕ → List ℕ → List ℕ → Tables → List (List ℕ × List ℕ)
span_of table from before m =
    list_map (λ e. (e.0.key, e.1)) (filter (λ e. (e.0.table == table) && is_in_span from before e.0.key) (map.entries m))

-- the key and the content of a cell
abbrev pub cell_pair : Cell → List ℕ × List ℕ
cell_pair c = (c.key, c.content)
