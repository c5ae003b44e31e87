-- On cells of table 3 that can be read: they are as they are written.
use Rattle.std.proofs.Common.{◌≡◌, ◌==◌, ◌&&◌, ℕ, true, List, [], ◌∷◌, length, refl, sym, ap, subst, ◌∙◌, arith}
use Rattle.std.specs.Prelude.{Some, nat_eq}
use Rattle.std.specs.FinMap.{insert}
use Rattle.std.specs.Cmp.Lexicographic.{pointwise, bytes_decides}
use Rattle.std.proofs.lemmas.Bool.Decides.{nat_tests}
use Rattle.dw_base.specs.FieldNames.{is_folded_name}
use Rattle.dw_base.specs.Callers.{is_caller}
use Rattle.dw_key.specs.declared.key.Key.{Key}
use Rattle.dw_key.specs.KeyCode.{code, AreBytes}
use Rattle.dw_dict.specs.declared.rule.FieldRule.{FieldRule}
use Rattle.dw_dict.specs.Dictionary.{Dictionary}
use Rattle.dw_outside.specs.declared.slot.Slot.{Slot}
use Rattle.dw_outside.specs.Tables.{Tables}
use Rattle.dw_derive.specs.Meta.{meta_key, meta_slot, field_row, field_slot, rule_bytes, grant_row, grant_slot, names_bytes}
use Rattle.dw_derive.specs.MetaReaders.{is_in_row, rule_from, field_reading, names_from, grant_reading, RulesHaveOneSpelling, GrantsHaveOneSpelling}
use Rattle.dw_derive.proofs.Decoding.{map_some}
use Rattle.dw_derive.proofs.Shards.{left, right}
use Rattle.dw_audit.specs.Meta.{MetaSum, with_field, with_grant}
use Rattle.dw_audit.proofs.Passing.{if_some}

empty_is : (xs : List ℕ) → (length xs == 0) ≡ true → xs ≡ []
empty_is [] h = refl
empty_is (x ∷ xs) h = absurd (grind (arith, nat_tests))

zero_is : (n : ℕ) → (n == 0) ≡ true → n ≡ 0
zero_is n h = grind (arith, nat_tests)

-- a key of a row has nothing but its family beside it
row_is : (row : List ℕ) (k : Key) → is_in_row row k ≡ true → k ≡ meta_key row k.family
row_is row k h =
    let a = pointwise nat_eq k.row row in
    let b = length k.qualifier == 0 in
    let c = length k.vis == 0 in
    let d = k.stamp == 0 in
    let three : (a && b && c) ≡ true = left (a && b && c) d h in
    let two : (a && b) ≡ true = left (a && b) c three in
    let named : k.row ≡ row = (bytes_decides k.row row).0 (left a b two) in
    let qualifier : k.qualifier ≡ [] = empty_is k.qualifier (right a b two) in
    let vis : k.vis ≡ [] = empty_is k.vis (right (a && b) c three) in
    let stamp : k.stamp ≡ 0 = zero_is k.stamp (right (a && b && c) d h) in
    λ i. record { row = named i; family = k.family; qualifier = qualifier i; vis = vis i; stamp = stamp i }

-- the slot of the key, and what is written there
abbrev pub IsWritten : Key → List ℕ → Slot → List ℕ → Type 0
IsWritten k content s bytes = (record { table = 3; key = code k } ≡ s) × (content ≡ bytes)

slot_is : (row : List ℕ) (k : Key) → is_in_row row k ≡ true → record { table = 3; key = code k } ≡ meta_slot row k.family
slot_is row k h = ap (λ (x : Key). record { table = 3; key = code x }) (row_is row k h)

pub field_written : RulesHaveOneSpelling → (k : Key) (content : List ℕ) (f : List ℕ × FieldRule) → field_reading k content ≡ Some f → IsWritten k content (field_slot f.0) (rule_bytes f.1)
field_written one k content f e =
    let parts = if_some (is_in_row field_row k && is_folded_name k.family) _ f e in
    let rule = map_some _ (rule_from content) f parts.1 in
    subst (λ (g : List ℕ × FieldRule). IsWritten k content (field_slot g.0) (rule_bytes g.1)) rule.2
    (slot_is field_row k (left (is_in_row field_row k) (is_folded_name k.family) parts.0), (one rule.0 content).0 rule.1)

pub grant_written : GrantsHaveOneSpelling → (k : Key) (content : List ℕ) (g : List ℕ × List (List ℕ)) → AreBytes content → grant_reading k content ≡ Some g → IsWritten k content (grant_slot g.0) (names_bytes g.1)
grant_written one k content g fits e =
    let parts = if_some (is_in_row grant_row k && is_caller k.family) _ g e in
    let names = map_some _ (names_from content) g parts.1 in
    subst (λ (h : List ℕ × List (List ℕ)). IsWritten k content (grant_slot h.0) (names_bytes h.1)) names.2
    (slot_is grant_row k (left (is_in_row grant_row k) (is_caller k.family) parts.0), ((one names.0 content fits).0 names.1).1)

-- ---- what is kept of such a cell

slot_at : (key : List ℕ) (k : Key) (s : Slot) → key ≡ code k → record { table = 3; key = code k } ≡ s → record { table = 3; key = key } ≡ s
slot_at key k s e h = ap (λ (x : List ℕ). record { table = 3; key = x }) e ∙ h

pub field_kept : RulesHaveOneSpelling → (m : MetaSum) (key content : List ℕ) (k : Key) (f : List ℕ × FieldRule) (dict : Dictionary) (cells : Tables)
    → key ≡ code k → field_reading k content ≡ Some f → dict ≡ insert m.dict f.0 f.1 → cells ≡ insert m.cells (record { table = 3; key = key }) content
    → record { dict = dict; last = m.last; cells = cells } ≡ with_field (field_reading k content) m
field_kept one m key content k f dict cells at reading d c =
    let w = field_written one k content f reading in
    let slot : record { table = 3; key = key } ≡ field_slot f.0 = slot_at key k (field_slot f.0) at w.0 in
    let cells_are : cells ≡ insert m.cells (field_slot f.0) (rule_bytes f.1) = c ∙ (λ i. insert m.cells (slot i) (w.1 i)) in
    (λ i. record { dict = d i; last = m.last; cells = cells_are i }) ∙ ap (λ o. with_field o m) (sym reading)

pub grant_kept : GrantsHaveOneSpelling → (m : MetaSum) (key content : List ℕ) (k : Key) (g : List ℕ × List (List ℕ)) (cells : Tables)
    → key ≡ code k → AreBytes content → grant_reading k content ≡ Some g → cells ≡ insert m.cells (record { table = 3; key = key }) content
    → record { dict = m.dict; last = m.last; cells = cells } ≡ with_grant (grant_reading k content) m
grant_kept one m key content k g cells at fits reading c =
    let w = grant_written one k content g fits reading in
    let slot : record { table = 3; key = key } ≡ grant_slot g.0 = slot_at key k (grant_slot g.0) at w.0 in
    let cells_are : cells ≡ insert m.cells (grant_slot g.0) (names_bytes g.1) = c ∙ (λ i. insert m.cells (slot i) (w.1 i)) in
    (λ i. record { dict = m.dict; last = m.last; cells = cells_are i }) ∙ ap (λ o. with_grant o m) (sym reading)
