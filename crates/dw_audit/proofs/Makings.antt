-- On how the tables of a world are made.
use Rattle.std.proofs.Common.{◌≡◌, ◌≤◌, ◌==◌, ℕ, Bool, true, false, cond, List, [], ◌∷◌, ◌++◌, map, length, refl, sym, ap, subst, ◌∙◌, append_assoc, arith}
use Rattle.std.specs.Prelude.{Option, Some, None, filter, filter_map, max}
use Rattle.std.specs.List.{AllByRecursion, cons_option}
use Rattle.std.specs.List.Sorted.{IsStrictlySortedBy}
use Rattle.std.specs.Map.{keys_of}
use Rattle.std.specs.Ordering.{nat_cmp, is_eq}
use Rattle.std.specs.Cmp.Lexicographic.{slice_cmp}
use Rattle.std.specs.FinMap as finmap
use Rattle.std.specs.FinSet as finset
use Rattle.std.specs.declared.cmp.Ordering.TheVariants.{Less}
use Rattle.std.proofs.lemmas.Bool.Decides.{nat_tests}
use Rattle.std.proofs.lemmas.List.{append-nil}
use Rattle.dw_dict.specs.declared.rule.FieldRule.{FieldRule}
use Rattle.dw_dict.specs.Dictionary.{Dictionary}
use Rattle.dw_event.specs.declared.records.Place.{Place}
use Rattle.dw_event.specs.Places.{place_cmp}
use Rattle.dw_event.specs.Take.{Event, held_at}
use Rattle.dw_outside.specs.declared.cell.Cell.{Cell}
use Rattle.dw_outside.specs.Tables.{Tables, slot_cmp, cell_pair, span_of}
use Rattle.dw_derive.specs.EventsRead.{CellReading, events_of, held_after}
use Rattle.dw_derive.specs.Laws.{stepped, with_last, EventsAreSteps, NumbersAreCells}
use Rattle.dw_derive.specs.Lawful.{IsEvent, HasEvents}
use Rattle.dw_derive.specs.Meta.{commit_slot, commit_bytes}
use Rattle.dw_derive.specs.MetaReaders.{commit_reading, field_reading, grant_reading}
use Rattle.dw_derive.specs.MetaTables.{cell_says, first_number, meta_of, last_of, dict_of, grants_of, RulesAreCells, GrantsAreCells}
use Rattle.dw_derive.specs.Tables.{tables, field_cell, grant_cell}
use Rattle.dw_derive.specs.World.{World, Grants}
use Rattle.dw_derive.proofs.GatherLemmas.{held_none, held_of_events, said_codes}
use Rattle.dw_derive.proofs.IndexLemmas.{before, insert_last, lawful_parts, above}
use Rattle.dw_ingest.proofs.NewIndexes.{same_events, keys_of_pairs}
use Rattle.dw_audit.specs.WorldOf.{is_kept, code_counts, readings_in, stored_events, greatest_batch, last_for, world_of}
use Rattle.dw_audit.specs.Meta.{MetaSum, nothing_said, with_field, with_grant, with_number, all_said}
use Rattle.dw_audit.specs.Making.{MadeSum, made_by, numbered, newer_tables}
use Rattle.dw_audit.proofs.Passing.{all_weaker}
use Rattle.dw_audit.proofs.KeptEvents.{events_ascend, stored_lawful, stored_ascend}
use Rattle.dw_audit.proofs.StoodFor.{stored_numbered}

-- ---- what table 3 says

none_left : {A : Type 0} (xs : List A) → length xs ≡ 0 → xs ≡ []
none_left [] e = refl
none_left (x ∷ xs) e = absurd (omega arith)

no_entries : {Y : Type 0} → finmap.entries (finmap.empty {X = Y} {R = slice_cmp nat_cmp}) ≡ []
no_entries {Y = Y} = none_left _ (sym (finmap.len-entries (finmap.empty {X = Y} {R = slice_cmp nat_cmp})) ∙ finmap.len-empty (slice_cmp nat_cmp) Y)

-- a world without events, with these fields and grants
abbrev pub bare : List (List ℕ × FieldRule) → List (List ℕ × List (List ℕ)) → World
bare fs gs = record { events = []; dict = finmap.from_entries fs; grants = finmap.from_entries gs; last = 0; old = finset.empty }

nothing_bare : finmap.empty ≡ tables (bare [] [])
unfolding tables
nothing_bare = sym (λ i. finmap.from_entries (map field_cell (no_entries {Y = FieldRule} i) ++ map grant_cell (no_entries {Y = List (List ℕ)} i)))

abbrev sum : List (List ℕ × FieldRule) → List (List ℕ × List (List ℕ)) → List ℕ → MetaSum
sum fs gs ns = record { dict = finmap.from_entries fs; last = first_number ns; cells = tables (bare fs gs) }

number_step : (o : Option ℕ) (fs : List (List ℕ × FieldRule)) (gs : List (List ℕ × List (List ℕ))) (ns : List ℕ) → with_number o (sum fs gs ns) ≡ sum fs gs (cons_option o ns)
number_step None fs gs ns = refl
number_step (Some n) fs gs ns = refl

grant_step : GrantsAreCells → (o : Option (List ℕ × List (List ℕ))) (fs : List (List ℕ × FieldRule)) (gs : List (List ℕ × List (List ℕ))) (ns : List ℕ) → with_grant o (sum fs gs ns) ≡ sum fs (cons_option o gs) ns
grant_step cells None fs gs ns = refl
grant_step cells (Some g) fs gs ns = λ i. record { dict = finmap.from_entries fs; last = first_number ns; cells = cells (bare fs gs) g.0 g.1 i }

field_step : RulesAreCells → (o : Option (List ℕ × FieldRule)) (fs : List (List ℕ × FieldRule)) (gs : List (List ℕ × List (List ℕ))) (ns : List ℕ) → with_field o (sum fs gs ns) ≡ sum (cons_option o fs) gs ns
field_step cells None fs gs ns = refl
field_step cells (Some f) fs gs ns = λ i. record { dict = finmap.from_entries (f ∷ fs); last = first_number ns; cells = cells (bare fs gs) f.0 f.1 refl i }

abbrev Cells : Type 0
Cells = List (List ℕ × List ℕ)

abbrev fields : Cells → List (List ℕ × FieldRule)
fields cs = filter_map (cell_says field_reading) cs

abbrev grants : Cells → List (List ℕ × List (List ℕ))
grants cs = filter_map (cell_says grant_reading) cs

abbrev numbers : Cells → List ℕ
numbers cs = filter_map (cell_says commit_reading) cs

-- all cells say the first number, the rules and the grants
pub said_is : RulesAreCells → GrantsAreCells → (cs : Cells) → all_said cs nothing_said ≡ sum (fields cs) (grants cs) (numbers cs)
said_is rules given [] = λ i. record { dict = finmap.empty; last = 0; cells = nothing_bare i }
said_is rules given (c ∷ cs) =
    let f = cell_says field_reading c in
    let g = cell_says grant_reading c in
    let n = cell_says commit_reading c in
    ap (λ m. with_field f (with_grant g (with_number n m))) (said_is rules given cs)
    ∙ ap (λ m. with_field f (with_grant g m)) (number_step n (fields cs) (grants cs) (numbers cs))
    ∙ ap (with_field f) (grant_step given g (fields cs) (grants cs) (cons_option n (numbers cs)))
    ∙ field_step rules f (fields cs) (cons_option g (grants cs)) (cons_option n (numbers cs))

-- ---- the events

-- the tables after the puts of some events, and the greatest batch
abbrev all_made : Dictionary → List Event → MadeSum → MadeSum
all_made dict [] m = m
all_made dict (e ∷ es) m = all_made dict es (record { tables = stepped dict e m.tables; greatest = max m.greatest e.1.batch })

kept_made : (dict : Dictionary) (es : List Event) (m : MadeSum) → made_by dict es m ≡ all_made dict (filter is_kept es) m
kept_made dict [] m = refl
kept_made dict (e ∷ es) m = at (is_kept e) (λ n. kept_made dict es n)
  where
    at : (b : Bool) → ((n : MadeSum) → made_by dict es n ≡ all_made dict (filter is_kept es) n)
        → made_by dict es (cond b (record { tables = stepped dict e m.tables; greatest = max m.greatest e.1.batch }) m) ≡ all_made dict (cond b (e ∷ filter is_kept es) (filter is_kept es)) m
    at true f = f (record { tables = stepped dict e m.tables; greatest = max m.greatest e.1.batch })
    at false f = f m

-- a world with some events, and every list in the newer form
abbrev pub plain : Dictionary → Grants → List Event → World
plain dict given events = record { events = events; dict = dict; grants = given; last = 0; old = finset.empty }

free : (e : Event) (done : List Event) → AllByRecursion (λ (d : Event). place_cmp d.0 e.0 ≡ Less) done → held_at done e.0 ≡ None
free e [] h = refl
free e (d ∷ done) h = ap (λ o. cond (is_eq o) (Some d.1) (held_at done e.0)) (above e d h.0) ∙ free e done h.1

has_events : (dict : Dictionary) (given : Grants) (events : List Event) → IsStrictlySortedBy place_cmp (keys_of events) → AllByRecursion IsEvent events → HasEvents (plain dict given events)
has_events dict given events up lawful = record { ascend = up; lawful = lawful; old = λ s h. let none = finset.contains-empty slot_cmp s in cc }

greater : (a b c : ℕ) → max (max a b) c ≡ max a (max b c)
greater a b c = omega arith

made_from : EventsAreSteps → (dict : Dictionary) (given : Grants) (rest done : List Event) (n : ℕ) → IsStrictlySortedBy place_cmp (keys_of (done ++ rest)) → AllByRecursion IsEvent (done ++ rest)
    → all_made dict rest (record { tables = tables (plain dict given done); greatest = n }) ≡ record { tables = tables (plain dict given (done ++ rest)); greatest = max n (greatest_batch rest) }
made_from steps dict given [] done n up lawful = λ i. record { tables = tables (plain dict given (whole i)); greatest = none i }
  where
    whole : done ≡ done ++ []
    whole = sym (append-nil done)

    none : n ≡ max n 0
    none = omega arith
made_from steps dict given (e ∷ rest) done n up lawful =
    let ready : IsStrictlySortedBy place_cmp (keys_of done) × AllByRecursion (λ (d : Event). place_cmp d.0 e.0 ≡ Less) done = before e done rest up in
    let parts : AllByRecursion IsEvent done × IsEvent e = lawful_parts e done rest lawful in
    let same : (done ++ e ∷ []) ++ rest ≡ done ++ e ∷ rest = append_assoc done (e ∷ []) rest in
    let now : stepped dict e (tables (plain dict given done)) ≡ tables (plain dict given (done ++ e ∷ [])) =
    steps (plain dict given done) e (has_events dict given done ready.0 parts.0) parts.1 (free e done ready.1)
    ∙ ap (λ (es : List Event). tables (plain dict given es)) (insert_last e done ready.1) in
    ap (λ (t : Tables). all_made dict rest (record { tables = t; greatest = max n e.1.batch })) now
    ∙ made_from steps dict given rest (done ++ e ∷ []) (max n e.1.batch) (subst (λ (es : List Event). IsStrictlySortedBy place_cmp (keys_of es)) (sym same) up) (subst (AllByRecursion IsEvent) (sym same) lawful)
    ∙ (λ i. record { tables = tables (plain dict given (same i)); greatest = greater n e.1.batch (greatest_batch rest) i })

-- ---- the events that are read

pub events_are : (t : Tables) (cells : List Cell) (es : List Event) → map cell_pair cells ≡ span_of 0 [] [] t → IsStrictlySortedBy place_cmp (keys_of es)
    → ((p : Place) → held_at es p ≡ held_after p None (filter_map code_counts (map (λ (c : Cell). c.key) cells))) → es ≡ events_of (readings_in (finmap.keys t))
events_are t cells es is up held = same_events es (events_of rs) up (events_ascend rs) (λ p.
    held p ∙ ap (λ ks. held_after p None (filter_map code_counts ks)) keys ∙ ap (held_after p None) (said_codes code_counts (finmap.entries t)) ∙ held_none p rs ∙ sym (held_of_events p rs))
  where
    rs : List CellReading
    rs = readings_in (finmap.keys t)

    keys : map (λ (c : Cell). c.key) cells ≡ map (λ (p : List ℕ × List ℕ). p.0) (span_of 0 [] [] t)
    keys = keys_of_pairs cells ∙ ap (map (λ (p : List ℕ × List ℕ). p.0)) is

-- ---- the number of the last batch

number_made : NumbersAreCells → (dict : Dictionary) (given : Grants) (said : ℕ) (events : List Event) → AllByRecursion (λ (e : Event). 1 ≤ e.1.batch) events
    → numbered said (record { tables = tables (plain dict given events); greatest = greatest_batch events }) ≡ tables (with_last (plain dict given events) (last_for said events))
number_made numbers dict given said [] h = refl
number_made numbers dict given said (e ∷ es) h =
    ap (λ b. cond b (tables w) (finmap.insert (tables w) commit_slot (commit_bytes (max said (greatest_batch (e ∷ es)))))) (not_none (greatest_batch (e ∷ es)) some)
    ∙ numbers w (last_for said (e ∷ es)) (λ z. omega (arith, some, z))
  where
    w : World
    w = plain dict given (e ∷ es)

    some : 1 ≤ greatest_batch (e ∷ es)
    some = let b = h.0 in omega (arith, b)

    not_none : (n : ℕ) → 1 ≤ n → (n == 0) ≡ false
    not_none n l = grind (arith, nat_tests)

-- ---- all of it

from_none : (n : ℕ) → max 0 n ≡ n
from_none n = omega arith

pub newer_made : EventsAreSteps → NumbersAreCells → RulesAreCells → GrantsAreCells → (t : Tables) (cells : List Cell) (m : MetaSum) (es : List Event) (made : MadeSum)
    → map cell_pair cells ≡ meta_of t → m ≡ all_said (map cell_pair cells) nothing_said → es ≡ events_of (readings_in (finmap.keys t)) → made ≡ made_by m.dict es (record { tables = m.cells; greatest = 0 })
    → numbered m.last made ≡ newer_tables t
unfolding world_of
newer_made steps numbers_set rules given t cells m es made is said events by =
    let sum_is : m ≡ sum (fields (meta_of t)) (grants (meta_of t)) (numbers (meta_of t)) = said ∙ ap (λ cs. all_said cs nothing_said) is ∙ said_is rules given (meta_of t) in
    ap (numbered m.last) by
    ∙ (λ i. numbered (sum_is i).last (made_by (sum_is i).dict (events i) (record { tables = (sum_is i).cells; greatest = 0 })))
    ∙ ap (numbered (last_of t)) (
    kept_made (dict_of t) (events_of (readings_in (finmap.keys t))) (record { tables = tables (plain (dict_of t) (grants_of t) []); greatest = 0 })
    ∙ made_from steps (dict_of t) (grants_of t) (stored_events t) [] 0 (stored_ascend t) (stored_lawful t)
    ∙ ap (λ n. record { tables = tables (plain (dict_of t) (grants_of t) (stored_events t)); greatest = n }) (from_none (greatest_batch (stored_events t))))
    ∙ number_made numbers_set (dict_of t) (grants_of t) (last_of t) (stored_events t) (all_weaker _ (λ (e : Event). 1 ≤ e.1.batch) (λ e h. h.0) (stored_events t) (stored_numbered t))
