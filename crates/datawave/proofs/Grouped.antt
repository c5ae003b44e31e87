-- On gathering records to groups, and the rows of a table.
use Rattle.std.proofs.Common.{◌≡◌, ◌==◌, ◌<◌, ◌≤◌, ◌++◌, ◌∷◌, [], ℕ, Bool, true, false, cond, nat_le, List, length, length-append, map, Option, Some, None, Result, IfOk, refl, sym, ap, ◌∙◌, subst, append-nil, option_map, arith}
use Rattle.std.proofs.lemmas.Bool.Decides.{nat_tests}
use Rattle.std.proofs.lemmas.Grind.{common_steps}
use Rattle.std.proofs.lemmas.List.{map-append}
use Rattle.csv.specs.Records.{Row, fields_of}
use Rattle.dw_event.specs.Records.{IsWellFormed}
use Rattle.dw_event.specs.declared.records.Record.{Record}
use Rattle.dw_event.specs.declared.reports.BadRecord.{BadRecord}
use Rattle.dw_derive.specs.World.{World}
use Rattle.dw_derive.proofs.Given.{all_append}
use Rattle.dw_ingest.specs.Going.{AreWellFormed}
use Rattle.dw_rows.specs.CsvRecords.{csv_record}
use Rattle.dw_groups.specs.Batches.{rows_records}
use Rattle.dw_groups.specs.Groups.{full_groups, full_groups_after, rest_after_groups, last_items, last_group}
use Rattle.dw_groups.proofs.Grouping.{full_then, full_whole, rest_whole, full_same, rest_more}
use Rattle.dw_desk.specs.Desk.{IsFormed}
use Rattle.dw_desk.specs.Session.{Digest, Asked}
use Rattle.dw_desk.specs.declared.desk.Desk.{Desk}
use Rattle.datawave.specs.Groups.{ingest, full_ingests, ingests}
use Rattle.datawave.specs.Outside.{Outside}
use Rattle.datawave.specs.Asking.{Asks, Gathered}
use Rattle.datawave.specs.Exchange.{RequestsPut, RequestsLack, Tabled, first}
use Rattle.datawave.proofs.Sessions.{lack_more, lack_all}

abbrev pub Recs : Type 0
Recs = List (Result Record BadRecord)

-- the record ends a group
ingests_whole : (recs : Recs) (rec : Result Record BadRecord) → (length (last_items recs ++ rec ∷ []) == 1000) ≡ true
    → full_ingests (recs ++ rec ∷ []) ≡ full_ingests recs ++ ingest (last_items recs ++ rec ∷ []) ∷ []
ingests_whole recs rec e = ap (map ingest) (full_whole recs rec e) ∙ map-append ingest (full_groups recs) ((last_items recs ++ rec ∷ []) ∷ [])

-- more records ask for more
ingests_grow : (recs more : Recs) → full_ingests (recs ++ more) ≡ full_ingests recs ++ map ingest (full_groups_after (last_items recs) more)
ingests_grow recs more = ap (map ingest) (full_then [] recs more) ∙ map-append ingest (full_groups recs) (full_groups_after (last_items recs) more)

-- ---- groups keep the rules of a request

short_more : {A : Type 0} (front : List A) (x : A) → length front < 1000 → (length (front ++ x ∷ []) == 1000) ≡ false → length (front ++ x ∷ []) < 1000
short_more front x h short =
    let one = length-append front (x ∷ []) in
    grind (arith, nat_tests, common_steps)

few_at : {A : Type 0} (b : Bool) (front xs : List A) (x : A) → (length (front ++ x ∷ []) == 1000) ≡ b → length front < 1000 → length (rest_after_groups [] xs) < 1000
    → (length (front ++ x ∷ []) < 1000 → length (rest_after_groups (front ++ x ∷ []) xs) < 1000)
    → length (cond b (rest_after_groups [] xs) (rest_after_groups (front ++ x ∷ []) xs)) < 1000
few_at true front xs x e h anew on = anew
few_at false front xs x e h anew on = on (short_more front x h e)

rest_few : {A : Type 0} (front xs : List A) → length front < 1000 → length (rest_after_groups front xs) < 1000
rest_few front [] h = h
rest_few front (x ∷ xs) h = few_at (length (front ++ x ∷ []) == 1000) front xs x refl h (rest_few [] xs (omega arith)) (rest_few (front ++ x ∷ []) xs)

few_enough : (n : ℕ) → n ≤ 1000 → nat_le n 10000 ≡ true
few_enough n h = grind (arith, nat_tests)

ingest_formed : (group : Recs) → length group ≤ 1000 → AreWellFormed group → IsFormed (ingest group)
ingest_formed group few each = record { few = few_enough (length group) few; each = each }

formed_more : (group group' : Recs) (rec : Result Record BadRecord) → group' ≡ group ++ rec ∷ [] → AreWellFormed group → IfOk rec IsWellFormed → AreWellFormed group'
formed_more group group' rec e each one =
    subst (λ (g : Recs). AreWellFormed g) (sym e) (all_append (λ (r : Result Record BadRecord). IfOk r IsWellFormed) group (rec ∷ []) each (one, tt))

whole_few : (group : Recs) → (length group == 1000) ≡ true → length group ≤ 1000
whole_few group e = grind (arith, nat_tests)

-- what is held of a group is short of one
held_few : (recs group : Recs) → group ≡ last_items recs → length group ≤ 1000
held_few recs group e = let few = subst (λ (g : Recs). length g < 1000) (sym e) (rest_few [] recs (omega arith)) in omega (arith, few)

-- ---- gathering

pub gathered_none : (group : Recs) → group ≡ [] → Gathered [] group
gathered_none group e = record { held = e; formed = subst (λ (g : Recs). AreWellFormed g) (sym e) tt }

-- one record more, which does not end the group
pub gathered_more : (recs group group' : Recs) (rec : Result Record BadRecord) (x : Gathered recs group) → IfOk rec IsWellFormed → group' ≡ group ++ rec ∷ [] → (length group' == 1000) ≡ false
    → Gathered (recs ++ rec ∷ []) group' × (full_ingests (recs ++ rec ∷ []) ≡ full_ingests recs)
gathered_more recs group group' rec x one e short =
    let held : group' ≡ last_items recs ++ rec ∷ [] = e ∙ ap (λ (g : Recs). g ++ rec ∷ []) x.held in
    let more : (length (last_items recs ++ rec ∷ []) == 1000) ≡ false = subst (λ (g : Recs). (length g == 1000) ≡ false) held short in
    (record { held = held ∙ sym (rest_more recs rec more); formed = formed_more group group' rec e x.formed one }, ap (map ingest) (full_same recs rec more))

-- one record more, which ends the group
pub gathered_whole : {E : Type 0} (recs group group' empty : Recs) (rec : Result Record BadRecord) (read : Result Asked E) (x : Gathered recs group) → IfOk rec IsWellFormed → group' ≡ group ++ rec ∷ []
    → (length group' == 1000) ≡ true → empty ≡ [] → IfOk read (λ r. r ≡ ingest group')
    → Gathered (recs ++ rec ∷ []) empty × Asks (Some read) (full_ingests recs) (full_ingests (recs ++ rec ∷ []))
gathered_whole recs group group' empty rec read x one e whole is reads =
    let held : group' ≡ last_items recs ++ rec ∷ [] = e ∙ ap (λ (g : Recs). g ++ rec ∷ []) x.held in
    let ends : (length (last_items recs ++ rec ∷ []) == 1000) ≡ true = subst (λ (g : Recs). (length g == 1000) ≡ true) held whole in (
      record { held = is ∙ sym (rest_whole recs rec ends); formed = subst (λ (g : Recs). AreWellFormed g) (sym is) tt },
      (
        ingest group',
        reads,
        ingest_formed group' (whole_few group' whole) (formed_more group group' rec e x.formed one),
        ingests_whole recs rec ends ∙ ap (λ (g : Recs). full_ingests recs ++ ingest g ∷ []) (sym held),
      ),
    )

-- ---- the last group

ingests_none : (recs last : Recs) → last ≡ [] → map ingest (full_groups recs ++ last_group last) ≡ full_ingests recs
ingests_none recs last e = ap (λ (g : Recs). map ingest (full_groups recs ++ last_group g)) e ∙ ap (map ingest) (append-nil (full_groups recs))

ingests_last : (recs last : Recs) → (last ≡ [] → ⊥) → map ingest (full_groups recs ++ last_group last) ≡ full_ingests recs ++ ingest last ∷ []
ingests_last recs [] some = absurd (some refl)
ingests_last recs (r ∷ rs) some = map-append ingest (full_groups recs) ((r ∷ rs) ∷ [])

pub last_none : (recs group : Recs) (x : Gathered recs group) → group ≡ [] → ingests recs ≡ full_ingests recs
last_none recs group x e = ingests_none recs (last_items recs) (sym x.held ∙ e)

pub last_some : {E : Type 0} (recs group : Recs) (read : Result Asked E) (x : Gathered recs group) → (group ≡ [] → ⊥) → IfOk read (λ r. r ≡ ingest group) → Asks (Some read) (full_ingests recs) (ingests recs)
last_some recs group read x some reads = (
  ingest group,
  reads,
  ingest_formed group (held_few recs group x.held) x.formed,
  ingests_last recs (last_items recs) (λ e. some (x.held ∙ e)) ∙ ap (λ (g : Recs). full_ingests recs ++ ingest g ∷ []) (sym x.held),
)

-- the whole groups were answered in part, and so were all
whole_lacks : (digest : Digest) (w : World) (before after : Outside) (d : Desk) (recs : Recs) → RequestsLack digest w before (full_ingests recs) d after → RequestsLack digest w before (ingests recs) d after
whole_lacks digest w before after d recs lack =
    subst (λ (rs : List Asked). RequestsLack digest w before rs d after) (sym (map-append ingest (full_groups recs) (last_group (last_items recs))))
    (lack_more digest w before after d (full_ingests recs) (map ingest (last_group (last_items recs))) lack)

-- ---- rows

none_first : {A : Type 0} (xs : List A) → None ≡ first xs → xs ≡ []
none_first [] e = refl
none_first (x ∷ xs) e = cc

first_more : {A : Type 0} (h : A) (xs : List A) (x : A) → Some h ≡ first xs → Some h ≡ first (xs ++ x ∷ [])
first_more h [] x e = cc
first_more h (y ∷ ys) x e = e

-- one row more is one record more, under the header
rows_more : (h : List (List ℕ)) (rows : List (List (List ℕ))) (row : List (List ℕ)) → Some h ≡ first rows
    → rows_records (rows ++ row ∷ []) ≡ rows_records rows ++ csv_record h row ∷ []
rows_more h [] row e = cc
rows_more h (x ∷ rows) row e =
    let is : h ≡ x = cc in
    map-append (csv_record x) rows (row ∷ []) ∙ ap (λ (y : List (List ℕ)). map (csv_record x) rows ++ csv_record y row ∷ []) (sym is)

-- the row is the header
pub tabled_header : (rows : List (List (List ℕ))) (group : Recs) (row : Row) → Tabled rows None group
    → Tabled (rows ++ fields_of row ∷ []) (Some row) group × (full_ingests (rows_records (rows ++ fields_of row ∷ [])) ≡ full_ingests (rows_records rows))
tabled_header rows group row x =
    let none : rows ≡ [] = none_first rows x.named in
    let same : rows_records (rows ++ fields_of row ∷ []) ≡ rows_records rows = ap (λ (rs : List (List (List ℕ))). rows_records (rs ++ fields_of row ∷ [])) none ∙ sym (ap rows_records none) in (
      record {
        named = ap (λ (rs : List (List (List ℕ))). first (rs ++ fields_of row ∷ [])) (sym none);
        records = subst (λ (recs : Recs). Gathered recs group) (sym same) x.records;
      },
      ap full_ingests same,
    )

named_first : (header : Option Row) (h : Row) (rows : List (List (List ℕ))) → header ≡ Some h → option_map fields_of header ≡ first rows → Some (fields_of h) ≡ first rows
named_first header h rows is named = sym (ap (option_map fields_of) is) ∙ named

-- the row is a record
pub tabled_record : {E : Type 0} (rows : List (List (List ℕ))) (header : Option Row) (h row : Row) (group group' : Recs) (request : Option (Result Asked E)) → header ≡ Some h → (x : Tabled rows header group)
    → Gathered (rows_records rows ++ csv_record (fields_of h) (fields_of row) ∷ []) group' × Asks request (full_ingests (rows_records rows)) (full_ingests (rows_records rows ++ csv_record (fields_of h) (fields_of row) ∷ []))
    → Tabled (rows ++ fields_of row ∷ []) header group' × Asks request (full_ingests (rows_records rows)) (full_ingests (rows_records (rows ++ fields_of row ∷ [])))
tabled_record rows header h row group group' request is x g =
    let named = named_first header h rows is x.named in
    let more = rows_more (fields_of h) rows (fields_of row) named in (
      record {
        named = ap (option_map fields_of) is ∙ first_more (fields_of h) rows (fields_of row) named;
        records = subst (λ (recs : Recs). Gathered recs group') (sym more) g.0;
      },
      subst (λ (recs : Recs). Asks request (full_ingests (rows_records rows)) (full_ingests recs)) (sym more) g.1,
    )

-- the records of more rows follow those of the first
records_grow : (rows more : List (List (List ℕ))) → (later : Recs) × (rows_records (rows ++ more) ≡ rows_records rows ++ later)
records_grow [] more = (rows_records more, refl)
records_grow (header ∷ rows) more = (map (csv_record header) more, map-append (csv_record header) rows more)

-- what rows ask for was answered in part, and so was what more rows ask for
rows_stopped : (digest : Digest) (w : World) (before after : Outside) (d : Desk) (all rows more : List (List (List ℕ))) → all ≡ rows ++ more
    → RequestsLack digest w before (full_ingests (rows_records rows)) d after → RequestsLack digest w before (full_ingests (rows_records all)) d after
rows_stopped digest w before after d all rows more e lack =
    let g = records_grow rows more in
    let recs : rows_records all ≡ rows_records rows ++ g.0 = ap rows_records e ∙ g.1 in
    subst (λ (rs : List Asked). RequestsLack digest w before rs d after) (sym (ap full_ingests recs ∙ ingests_grow (rows_records rows) g.0))
    (lack_more digest w before after d (full_ingests (rows_records rows)) (map ingest (full_groups_after (last_items (rows_records rows)) g.0)) lack)

pub rows_lack : (digest : Digest) (w : World) (before after : Outside) (d : Desk) (all rows more : List (List (List ℕ))) → all ≡ rows ++ more
    → RequestsLack digest w before (full_ingests (rows_records rows)) d after → RequestsLack digest w before (ingests (rows_records all)) d after
rows_lack digest w before after d all rows more e lack = whole_lacks digest w before after d (rows_records all) (rows_stopped digest w before after d all rows more e lack)

-- a row more was not taken
pub row_stopped : (digest : Digest) (w : World) (before after : Outside) (d : Desk) (rows : List (List (List ℕ))) (row : List (List ℕ))
    → RequestsPut digest w before (full_ingests (rows_records rows)) d after → RequestsLack digest w before (full_ingests (rows_records (rows ++ row ∷ []))) d after
row_stopped digest w before after d rows row puts =
    rows_stopped digest w before after d (rows ++ row ∷ []) rows (row ∷ []) refl (lack_all digest w before after d (full_ingests (rows_records rows)) puts)
