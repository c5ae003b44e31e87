-- The rows that a reader gives in turn are all the rows of the text.
use Rattle.std.proofs.Common.{◌≡◌, ◌<◌, ◌≤◌, ◌+◌, ◌==◌, ◌||◌, ℕ, zero, suc, List, [], ◌∷◌, ◌++◌, length, Bool, true, false, cond, Option, Some, None, refl, ap, arith}
use Rattle.csv.specs.Machine.{Read, next_record, step, ends_at_end, is_end, fields_after, in_field, start_field, start_record}
use Rattle.csv.specs.Reading.{AreRecords, Reached, default_config, records, records_from}
use Rattle.csv.specs.declared.parser.State.{State}
use Rattle.csv.specs.declared.parser.State.TheVariants as st
use Rattle.csv.specs.declared.parser.Action.{Action}
use Rattle.csv.specs.declared.parser.Action.TheVariants as act

-- where a byte ends a record, the machine stands between two
abbrev Between : State × Action → Type 0
Between r = is_end r.1 ≡ true → ends_at_end r.0 ≡ false

plain : (a b d : Bool) → Between (cond a (st.StartField, act.EndField) (cond b (cond d st.AfterCr st.StartRecord, act.EndRecord) (st.InField, act.Copy)))
plain true b d h = cc
plain false true true h = refl
plain false true false h = refl
plain false false d h = cc

either : (a : Bool) (x y : State × Action) → Between x → Between y → Between (cond a x y)
either true x y p q = p
either false x y p q = q

in_field_between : (c : ℕ) → Between (in_field default_config c)
in_field_between c = plain (c == 44) ((c == 13) || (c == 10)) (c == 13)

start_field_between : (c : ℕ) → Between (start_field default_config c)
start_field_between c = either (c == 34) (st.InQuoted, act.Skip) (in_field default_config c) (λ h. cc) (in_field_between c)

start_record_between : (c : ℕ) → Between (start_record default_config c)
start_record_between c = either ((c == 13) || (c == 10)) (st.StartRecord, act.Skip) (start_field default_config c) (λ h. cc) (start_field_between c)

step_between : (s : State) (c : ℕ) → Between (step default_config s c)
step_between st.StartRecord c = start_record_between c
step_between st.StartField c = start_field_between c
step_between st.InField c = in_field_between c
step_between st.InQuoted c = either (c == 34) (st.AfterQuote, act.Skip) (st.InQuoted, act.Copy) (λ h. cc) (λ h. cc)
step_between st.InEscape c = λ h. cc
step_between st.AfterQuote c = either (c == 34) (st.InQuoted, act.Copy) (in_field default_config c) (λ h. cc) (in_field_between c)
step_between st.InComment c = either (c == 10) (st.StartRecord, act.Skip) (st.InComment, act.Skip) (λ h. cc) (λ h. cc)
step_between st.AfterCr c = either (c == 10) (st.StartRecord, act.Skip) (start_record default_config c) (λ h. cc) (start_record_between c)

-- a record that was read leaves the machine between two, and takes a byte
abbrev Moves : ℕ → Read → Type 0
Moves n p = (ends_at_end p.1 ≡ false) × (length p.2 < n)

at_byte : (b : Bool) (s : State) (fs : List (List ℕ)) (rest : List ℕ) (later : Option Read) (p : Read) (n : ℕ) → b ≡ b
    → (b ≡ true → ends_at_end s ≡ false) → length rest < n → (later ≡ Some p → Moves n p)
    → cond b (Some (fs, s, rest)) later ≡ Some p → Moves n p
at_byte true s fs rest later p n same between short more e =
    let is : p ≡ (fs, s, rest) = cc in
    rw is (between refl, short)
at_byte false s fs rest later p n same between short more e = more e

at_end : (b : Bool) (fs : List (List ℕ)) (p : Read) → cond b (Some (fs, st.StartRecord, [])) None ≡ Some p → Moves 1 p
at_end true fs p e =
    let is : p ≡ (fs, st.StartRecord, []) = cc in
    rw is (refl, omega arith)
at_end false fs p e = cc

moves : (s : State) (fs : List (List ℕ)) (f xs : List ℕ) (p : Read) → next_record default_config s fs f xs ≡ Some p → 0 < length xs → Moves (length xs) p
unfolding next_record
moves s fs f [] p e h = absurd (omega arith)
moves s fs f (c ∷ []) p e h =
    at_byte (is_end (step default_config s c).1) (step default_config s c).0 (fields_after (step default_config s c).1 fs f) [] _ p 1 refl (step_between s c) (omega arith)
    (λ more. at_end (ends_at_end (step default_config s c).0) _ p more) e
moves s fs f (c ∷ d ∷ xs) p e h =
    at_byte (is_end (step default_config s c).1) (step default_config s c).0 (fields_after (step default_config s c).1 fs f) (d ∷ xs) _ p (length (c ∷ d ∷ xs)) refl (step_between s c) (omega arith)
    (λ more. let m = moves (step default_config s c).0 _ _ (d ∷ xs) p more (omega arith) in (m.0, omega (arith, m.1))) e

enough : (n : ℕ) (s : State) (xs : List ℕ) (rows : List (List (List ℕ))) (s2 : State) (ys : List ℕ) → ends_at_end s ≡ false → length xs < n
    → Reached default_config s xs rows s2 ys → next_record default_config s2 [] [] ys ≡ None → rows ≡ records_from default_config n s xs
unfolding Reached records_from next_record
enough zero s xs rows s2 ys between short reached none = absurd (omega arith)
enough (suc n) s xs [] s2 ys between short reached none = rw (reached.0, reached.1, none)
enough (suc n) s [] (r ∷ rows) s2 ys between short reached none =
    let (p, found, is, more) = reached in
    let none_is = rw between at found in
    cc
enough (suc n) s (x ∷ xs) (r ∷ rows) s2 ys between short reached none =
    let (p, found, is, more) = reached in
    let m = moves s [] [] (x ∷ xs) p found (omega arith) in
    let rest : rows ≡ records_from default_config n p.1 p.2 = enough n p.1 p.2 rows s2 ys m.0 (omega (arith, m.1)) more none in
    rw (found, is) (ap (λ t. p.0 ∷ t) rest)

pub records-AreRecords : (xs : List ℕ) (rows : List (List (List ℕ))) → AreRecords default_config st.StartRecord xs rows → rows ≡ records default_config xs
records-AreRecords xs rows h = enough (length xs + 1) st.StartRecord xs rows h.0 h.1 refl (omega arith) h.2 h.3

within : (n : ℕ) (s : State) (xs : List ℕ) (rows : List (List (List ℕ))) (s2 : State) (ys : List ℕ) → ends_at_end s ≡ false → length xs < n
    → Reached default_config s xs rows s2 ys → length rows ≤ length (records_from default_config n s xs)
unfolding Reached records_from next_record
within zero s xs rows s2 ys between short reached = absurd (omega arith)
within (suc n) s xs [] s2 ys between short reached = omega arith
within (suc n) s [] (r ∷ rows) s2 ys between short reached =
    let (p, found, is, more) = reached in
    let none_is = rw between at found in
    cc
within (suc n) s (x ∷ xs) (r ∷ rows) s2 ys between short reached =
    let (p, found, is, more) = reached in
    let m = moves s [] [] (x ∷ xs) p found (omega arith) in
    let rest : length rows ≤ length (records_from default_config n p.1 p.2) = within n p.1 p.2 rows s2 ys m.0 (omega (arith, m.1)) more in
    rw found (omega (arith, rest))

-- no more records were read than the text has
pub read_within : (xs : List ℕ) (rows : List (List (List ℕ))) (s2 : State) (ys : List ℕ) → Reached default_config st.StartRecord xs rows s2 ys → length rows ≤ length (records default_config xs)
read_within xs rows s2 ys reached = within (length xs + 1) st.StartRecord xs rows s2 ys refl (omega arith) reached

front : (n : ℕ) (s : State) (xs : List ℕ) (rows : List (List (List ℕ))) (s2 : State) (ys : List ℕ) → ends_at_end s ≡ false → length xs < n
    → Reached default_config s xs rows s2 ys → (more : List (List (List ℕ))) × (records_from default_config n s xs ≡ rows ++ more)
unfolding Reached records_from next_record
front zero s xs rows s2 ys between short reached = absurd (omega arith)
front (suc n) s xs [] s2 ys between short reached = (records_from default_config (suc n) s xs, refl)
front (suc n) s [] (r ∷ rows) s2 ys between short reached =
    let (p, found, is, more) = reached in
    let none_is = rw between at found in
    absurd cc
front (suc n) s (x ∷ xs) (r ∷ rows) s2 ys between short reached =
    let (p, found, is, more) = reached in
    let m = moves s [] [] (x ∷ xs) p found (omega arith) in
    let rest = front n p.1 p.2 rows s2 ys m.0 (omega (arith, m.1)) more in
    (rest.0, rw (found, is) (ap (λ t. p.0 ∷ t) rest.1))

-- the rows that were read are the first of the text's
pub read_front : (xs : List ℕ) (rows : List (List (List ℕ))) (s2 : State) (ys : List ℕ) → Reached default_config st.StartRecord xs rows s2 ys
    → (more : List (List (List ℕ))) × (records default_config xs ≡ rows ++ more)
read_front xs rows s2 ys reached = front (length xs + 1) st.StartRecord xs rows s2 ys refl (omega arith) reached
