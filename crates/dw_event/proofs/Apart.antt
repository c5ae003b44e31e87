-- Canonical bytes tell well-formed records apart.
use Rattle.std.proofs.Common.{◌≡◌, ℕ, zero, suc, ◌<◌, Bool, false, ◌&&◌, not, nat_eq, length, List, [], ◌∷◌, ◌++◌, refl, ap, sym, ◌∙◌, append_assoc, length-append, arith}
use Rattle.std.specs.Prelude.{IsTrue}
use Rattle.std.specs.List.{list_all}
use Rattle.std.specs.Char.{is_ascii_digit}
use Rattle.std.proofs.lemmas.Bool.{and_parts, both_ways}
use Rattle.dw_key.specs.TypeName.{is_type_name, is_type_byte}
use Rattle.dw_event.specs.declared.cells.EventCell.{EventCell}
use Rattle.dw_event.specs.declared.records.Record.{Record}
use Rattle.std.specs.Str.{is_utf8}
use Rattle.dw_base.specs.FieldNames.{is_field_name, is_folded_name, is_word_byte}
use Rattle.dw_base.specs.Days.{names_day}
use Rattle.dw_event.specs.Names.{is_raw_value, is_visibility, lacks_zero}
use Rattle.dw_vis.specs.Test.{is_vis}
use Rattle.dw_event.specs.Records.{ended, cell_canon, cells_canon, is_cell, IsWellFormed, CanonTellsApart}

-- no byte is 0
abbrev LacksZero : List ℕ → Type 0
LacksZero [] = Unit {0}
LacksZero (x ∷ xs) = (0 < x) × LacksZero xs

lacks_from_test : (test : ℕ → Bool) → test 0 ≡ false → (xs : List ℕ) → IsTrue (list_all test xs) → LacksZero xs
lacks_from_test test zero_fails [] all = tt
lacks_from_test test zero_fails (zero ∷ xs) all = absurd (both_ways (test 0) zero_fails (and_parts (test 0) (list_all test xs) all).0)
lacks_from_test test zero_fails (suc n ∷ xs) all = (omega arith, lacks_from_test test zero_fails xs (and_parts (test (suc n)) (list_all test xs) all).1)

-- texts that a 0 ends are read back, with what follows
ended_apart : (xs ys us vs : List ℕ) → LacksZero xs → LacksZero ys → ended xs ++ us ≡ ended ys ++ vs → (xs ≡ ys) × (us ≡ vs)
ended_apart [] [] us vs l m e = (refl, cc)
ended_apart [] (y ∷ ys) us vs l m e = let same : 0 ≡ y = cc in absurd (omega arith)
ended_apart (x ∷ xs) [] us vs l m e = let same : x ≡ 0 = cc in absurd (omega arith)
ended_apart (x ∷ xs) (y ∷ ys) us vs l m e =
    let first : x ≡ y = cc in
    let rest : ended xs ++ us ≡ ended ys ++ vs = cc in
    let back = ended_apart xs ys us vs l.1 m.1 rest in
    let more : xs ≡ ys = back.0 in
    (cc, back.1)

type_lacks : (text : List ℕ) → IsTrue (is_type_name text) → LacksZero text
type_lacks text is = lacks_from_test is_type_byte refl text (and_parts _ (list_all is_type_byte text) is).1

date_lacks : (text : List ℕ) → IsTrue (names_day text) → LacksZero text
date_lacks text is =
    lacks_from_test is_ascii_digit refl text (and_parts _ (list_all is_ascii_digit text) (and_parts _ _ is).0).1

field_lacks : (text : List ℕ) → IsTrue (is_folded_name text) → LacksZero text
field_lacks text is = lacks_from_test is_word_byte refl text (and_parts _ (list_all is_word_byte text) (and_parts (is_field_name text) _ is).0).1

raw_lacks : (text : List ℕ) → IsTrue (is_raw_value text) → LacksZero text
raw_lacks text is = lacks_from_test (λ b. not (nat_eq b 0)) refl text (and_parts _ (list_all (λ b. not (nat_eq b 0)) text) is).1

vis_lacks : (text : List ℕ) → IsTrue (is_visibility text) → LacksZero text
vis_lacks text is = lacks_from_test (λ b. not (nat_eq b 0)) refl text (and_parts (is_vis text) (lacks_zero text) is).1

three : (a b c : List ℕ) → (a ++ b) ++ c ≡ a ++ (b ++ c)
three a b c = append_assoc a b c

four : (a b c d : List ℕ) → ((a ++ b) ++ c) ++ d ≡ a ++ (b ++ (c ++ d))
four a b c d = simp append_assoc

cell_some : (c : EventCell) (rest : List ℕ) → [] ≡ cell_canon c ++ rest → ⊥
cell_some c rest e = let long = simp length-append at (ap length e) in omega arith

-- two cells and what follows each
cell_apart : (c d : EventCell) (us vs : List ℕ) → IsTrue (is_cell c) → IsTrue (is_cell d) → cell_canon c ++ us ≡ cell_canon d ++ vs → (c ≡ d) × (us ≡ vs)
cell_apart c d us vs is also e =
    let left = and_parts (is_folded_name c.field) (is_raw_value c.raw && is_utf8 c.raw && is_visibility c.vis) is in
    let right = and_parts (is_folded_name d.field) (is_raw_value d.raw && is_utf8 d.raw && is_visibility d.vis) also in
    let left_more = and_parts (is_raw_value c.raw && is_utf8 c.raw) (is_visibility c.vis) left.1 in
    let right_more = and_parts (is_raw_value d.raw && is_utf8 d.raw) (is_visibility d.vis) right.1 in
    let left_raw = and_parts (is_raw_value c.raw) (is_utf8 c.raw) left_more.0 in
    let right_raw = and_parts (is_raw_value d.raw) (is_utf8 d.raw) right_more.0 in
    let whole : ended c.field ++ (ended c.raw ++ (ended c.vis ++ us)) ≡ ended d.field ++ (ended d.raw ++ (ended d.vis ++ vs)) =
    sym (four (ended c.field) (ended c.raw) (ended c.vis) us) ∙ e ∙ four (ended d.field) (ended d.raw) (ended d.vis) vs in
    let fields = ended_apart c.field d.field _ _ (field_lacks c.field left.0) (field_lacks d.field right.0) whole in
    let raws = ended_apart c.raw d.raw _ _ (raw_lacks c.raw left_raw.0) (raw_lacks d.raw right_raw.0) fields.1 in
    let rests = ended_apart c.vis d.vis us vs (vis_lacks c.vis left_more.1) (vis_lacks d.vis right_more.1) raws.1 in
    ((λ i. record { field = fields.0 i; raw = raws.0 i; vis = rests.0 i }), rests.1)

cells_apart : (cs ds : List EventCell) → IsTrue (list_all is_cell cs) → IsTrue (list_all is_cell ds) → cells_canon cs ≡ cells_canon ds → cs ≡ ds
cells_apart [] [] is also e = refl
cells_apart [] (d ∷ ds) is also e = absurd (cell_some d (cells_canon ds) e)
cells_apart (c ∷ cs) [] is also e = absurd (cell_some c (cells_canon cs) (sym e))
cells_apart (c ∷ cs) (d ∷ ds) is also e =
    let left = and_parts (is_cell c) (list_all is_cell cs) is in
    let right = and_parts (is_cell d) (list_all is_cell ds) also in
    let both = cell_apart c d (cells_canon cs) (cells_canon ds) left.0 right.0 e in
    let first : c ≡ d = both.0 in
    let rest : cs ≡ ds = cells_apart cs ds left.1 right.1 both.1 in
    cc

-- what a well-formed record keeps of its parts
record Kept (r : Record) : Type 0 where
  dtype : IsTrue (is_type_name r.dtype)
  date : IsTrue (names_day r.date)
  cells : IsTrue (list_all is_cell r.cells)

kept : (r : Record) → IsWellFormed r → Kept r
kept r is =
    let size = and_parts _ _ is.rules in
    let cells = and_parts _ (list_all is_cell r.cells) size.0 in
    let few = and_parts _ _ cells.0 in
    let some = and_parts _ _ few.0 in
    let date = and_parts (is_type_name r.dtype) (names_day r.date) some.0 in
    record { dtype = date.0; date = date.1; cells = cells.1 }

pub canon_tells_apart : CanonTellsApart
canon_tells_apart r s is also e =
    let left = kept r is in
    let right = kept s also in
    let whole : ended r.dtype ++ (ended r.date ++ cells_canon r.cells) ≡ ended s.dtype ++ (ended s.date ++ cells_canon s.cells) =
    sym (three (ended r.dtype) (ended r.date) (cells_canon r.cells)) ∙ e ∙ three (ended s.dtype) (ended s.date) (cells_canon s.cells) in
    let types = ended_apart r.dtype s.dtype _ _ (type_lacks r.dtype left.dtype) (type_lacks s.dtype right.dtype) whole in
    let dates = ended_apart r.date s.date _ _ (date_lacks r.date left.date) (date_lacks s.date right.date) types.1 in
    let cells : r.cells ≡ s.cells = cells_apart r.cells s.cells left.cells right.cells dates.1 in
    λ i. record { dtype = types.0 i; date = dates.0 i; cells = cells i }
