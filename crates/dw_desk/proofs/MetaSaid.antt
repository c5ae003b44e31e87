-- On what the cells of table 3 say, one more after another.
use Rattle.std.proofs.Common.{◌≡◌, ◌≤◌, ◌<◌, ◌-◌, ◌^◌, ◌&&◌, ◌==◌, ℕ, Bool, true, false, cond, nat_le, nat_lt, List, [], ◌∷◌, length, refl, sym, ap, subst, ◌∙◌, arith}
use Rattle.std.specs.Prelude.{Option, Some, None, filter_map, unwrap_or}
use Rattle.std.specs.Int.{w64, from_be_bytes}
use Rattle.std.specs.List.{cons_option}
use Rattle.std.specs.FinMap.{from_entries}
use Rattle.std.specs.Cmp.Lexicographic.{nat_list_cmp_total}
use Rattle.std.specs.declared.cmp.Ordering.{Ordering}
use Rattle.std.proofs.lemmas.Bool.Decides.{nat_tests}
use Rattle.std.proofs.lemmas.Map.Lookups.{exact_bytes}
use Rattle.dw_base.specs.Ascending.{with_items}
use Rattle.dw_base.proofs.Search.{ascending_none}
use Rattle.dw_base.proofs.Members.{set_of_members}
use Rattle.dw_vis.specs.Names.{name_cmp, IsAscending}
use Rattle.dw_key.specs.declared.key.Key.{Key}
use Rattle.dw_dict.specs.declared.rule.FieldRule.{FieldRule}
use Rattle.dw_derive.specs.Decoded.{key_from}
use Rattle.dw_derive.specs.Meta.{commit_row}
use Rattle.dw_derive.specs.MetaReaders.{is_in_row, number_from, commit_reading, field_reading, grant_reading}
use Rattle.dw_derive.specs.MetaTables.{MetaIsRead, cell_says, first_number, meta_of}
use Rattle.dw_derive.specs.Readers.{only_if}
use Rattle.dw_derive.specs.Tables.{tables}
use Rattle.dw_derive.specs.World.{World}
use Rattle.dw_derive.specs.Lawful.{IsWorld}
use Rattle.dw_derive.proofs.Decoding.{and_then_some}
use Rattle.dw_desk.specs.Stands.{grants_of}
use Rattle.dw_desk.specs.Loading.{IsSaid, IsStart, with_entry}
use Rattle.dw_desk.specs.declared.loading.Start.{Start}

-- ---- names

-- names that ascend are the set of themselves
pub names_again : (names : List (List ℕ)) → IsAscending names → names ≡ with_items name_cmp [] names
names_again names up = set_of_members nat_list_cmp_total exact_bytes names names (ascending_none name_cmp) up (λ x. ((λ h. h), λ h. h))

-- ---- one cell more

abbrev Cells : Type 0
Cells = List (List ℕ × List ℕ)

-- a cell says what its key and its content do
says : {A : Type 0} (reading : Key → List ℕ → Option A) (c : List ℕ × List ℕ) (k : Key) → key_from c.0 ≡ Some k → cell_says reading c ≡ reading k c.1
says reading c k e = cc

one_entry : {K V : Type 0} {R : K → K → Ordering} (o : Option (K × V)) (es : List (K × V)) → with_entry {R = R} o (from_entries es) ≡ from_entries (cons_option o es)
one_entry None es = refl
one_entry (Some e) es = refl

one_number : (o : Option ℕ) (ns : List ℕ) → unwrap_or o (first_number ns) ≡ first_number (cons_option o ns)
one_number None ns = refl
one_number (Some n) ns = refl

-- a cell whose key is read adds what it says
pub said_more : (c : List ℕ × List ℕ) (k : Key) (cs : Cells) (old new : Start) → key_from c.0 ≡ Some k → IsSaid cs old →
    new.last ≡ unwrap_or (commit_reading k c.1) old.last →
    grants_of new.grants ≡ with_entry (grant_reading k c.1) (grants_of old.grants) →
    new.dict ≡ with_entry (field_reading k c.1) old.dict →
    IsSaid (c ∷ cs) new
said_more c k cs old new key said last grants dict =
    let fields : List (List ℕ × FieldRule) = filter_map (cell_says field_reading) cs in
    let granted : List (List ℕ × List (List ℕ)) = filter_map (cell_says grant_reading) cs in
    let numbers : List ℕ = filter_map (cell_says commit_reading) cs in
    record {
      dict = dict
          ∙ ap (λ d. with_entry (field_reading k c.1) d) said.dict
          ∙ one_entry (field_reading k c.1) fields
          ∙ ap (λ o. from_entries (cons_option o fields)) (sym (says field_reading c k key));
      grants = grants
          ∙ ap (λ m. with_entry (grant_reading k c.1) m) said.grants
          ∙ one_entry (grant_reading k c.1) granted
          ∙ ap (λ o. from_entries (cons_option o granted)) (sym (says grant_reading c k key));
      last = last
          ∙ ap (λ n. unwrap_or (commit_reading k c.1) n) said.last
          ∙ one_number (commit_reading k c.1) numbers
          ∙ ap (λ o. first_number (cons_option o numbers)) (sym (says commit_reading c k key));
    }

-- ---- the number

picked : {A : Type 0} (b : Bool) (o : Option A) (y : A) → cond b o None ≡ Some y → o ≡ Some y
picked true o y e = e
picked false o y e = cc

kept : (b : Bool) (m n : ℕ) → only_if b m ≡ Some n → (b ≡ true) × (m ≡ n)
kept true m n e = (refl, cc)
kept false m n e = cc

under : (b : Bool) (m : ℕ) → (b && nat_lt m (2 ^ 63)) ≡ true → m < 2 ^ 63
under true m h = grind (arith, nat_tests)
under false m h = cc

number_below : (content : List ℕ) (n : ℕ) → number_from content ≡ Some n → n < 2 ^ 63
number_below content n e =
    let m = from_be_bytes w64 content in
    let parts = kept ((length content == 8) && nat_le 1 m && nat_lt m (2 ^ 63)) m n e in
    subst (λ k. k < 2 ^ 63) parts.1 (under ((length content == 8) && nat_le 1 m) m parts.0)

commit_below : (c : List ℕ × List ℕ) (n : ℕ) → cell_says commit_reading c ≡ Some n → n < 2 ^ 63
commit_below c n e =
    let key = and_then_some _ (key_from c.0) n e in
    number_below c.1 n (picked (is_in_row commit_row key.0 && (length key.0.family == 0)) _ n key.2)

first_below : (cs : Cells) → first_number (filter_map (cell_says commit_reading) cs) < 2 ^ 63
first_below [] = omega arith
first_below (c ∷ cs) = at (cell_says commit_reading c) refl (first_below cs)
  where
    at : (o : Option ℕ) → cell_says commit_reading c ≡ o → first_number (filter_map (cell_says commit_reading) cs) < 2 ^ 63 → first_number (cons_option o (filter_map (cell_says commit_reading) cs)) < 2 ^ 63
    at None e h = h
    at (Some n) e h = commit_below c n e

-- no cell says a number above the last one that there is
pub last_within : (cs : Cells) (s : Start) → IsSaid cs s → s.last ≤ 2 ^ 63 - 1
last_within cs s said =
    let below = first_below cs in
    let is : s.last ≡ first_number (filter_map (cell_says commit_reading) cs) = said.last in
    omega arith

-- ---- a world

-- what the cells of a world's tables say is what it has
pub said_start : MetaIsRead → (w : World) (s : Start) → IsWorld w → IsSaid (meta_of (tables w)) s → IsStart w s
said_start read w s is said =
    let had = read w is in
    record { dict = said.dict ∙ had.dict; grants = said.grants ∙ had.grants; last = said.last ∙ had.last }
