-- On the names of shards, which hold no byte 0.
use Rattle.std.proofs.Common.{◌≡◌, ◌<◌, ◌&&◌, ◌==◌, ℕ, zero, suc, Bool, true, false, not, List, [], ◌∷◌, ◌++◌, take, length, nat_le, refl, sym, ap, subst, ◌∙◌, arith, decimal}
use Rattle.std.specs.Prelude.{slice_index}
use Rattle.std.specs.List.{list_all, AllByRecursion}
use Rattle.std.specs.Str.{is_utf8}
use Rattle.std.proofs.lemmas.Str.{IsUtf8-from_ascii, is_utf8-from_IsUtf8}
use Rattle.std.proofs.lemmas.Str.Parse.{digit_from_value}
use Rattle.std.specs.Char.{is_ascii_digit}
use Rattle.std.specs.Str.Parse.{AllDigits}
use Rattle.std.proofs.lemmas.Bool.Decides.{nat_tests}
use Rattle.std.proofs.lemmas.Fmt.{decimal_is_IsNumeral}
use Rattle.dw_key.specs.TypeName.{is_type_name}
use Rattle.dw_base.specs.Days.{names_day}
use Rattle.dw_base.specs.declared.limits.TheConstants.{MAX_CELLS, MAX_CANONICAL}
use Rattle.dw_event.specs.declared.records.Record.{Record}
use Rattle.dw_event.specs.Names.{lacks_zero}
use Rattle.dw_event.specs.Records.{is_cell, canon, keeps_rules}
use Rattle.dw_event.specs.Take.{Event}
use Rattle.dw_derive.specs.Lawful.{record_of, IsEvent}

pub left : (a b : Bool) → (a && b) ≡ true → a ≡ true
left true b h = refl
left false b h = h

pub right : (a b : Bool) → (a && b) ≡ true → b ≡ true
right true b h = h
right false b h = cc

digit_is_not_zero : (b : ℕ) → is_ascii_digit b ≡ true → not (b == 0) ≡ true
digit_is_not_zero zero h = cc
digit_is_not_zero (suc n) h = grind (arith, nat_tests)

-- digits hold no byte 0
digits_lack : (ds : List ℕ) → list_all is_ascii_digit ds ≡ true → lacks_zero ds ≡ true
digits_lack [] h = refl
digits_lack (d ∷ ds) h =
    ap (λ b. b && lacks_zero ds) (digit_is_not_zero d (left (is_ascii_digit d) (list_all is_ascii_digit ds) h))
    ∙ digits_lack ds (right (is_ascii_digit d) (list_all is_ascii_digit ds) h)

pub lacks-append : (a b : List ℕ) → lacks_zero a ≡ true → lacks_zero b ≡ true → lacks_zero (a ++ b) ≡ true
lacks-append [] b h k = k
lacks-append (x ∷ a) b h k = at (not (x == 0)) h (lacks-append a b)
  where
    at : (t : Bool) → (t && lacks_zero a) ≡ true → (lacks_zero a ≡ true → lacks_zero b ≡ true → lacks_zero (a ++ b) ≡ true) → (t && lacks_zero (a ++ b)) ≡ true
    at true h r = r h k
    at false h r = h

-- ---- the rules of an event

-- the rules of a record, one by one
pub record KeepsRules (r : Record) : Type 0 where
  pub dtype : is_type_name r.dtype ≡ true
  pub date : names_day r.date ≡ true
  pub some : nat_le 1 (length r.cells) ≡ true
  pub cells : list_all is_cell r.cells ≡ true

pub rules_of : (r : Record) → keeps_rules r ≡ true → KeepsRules r
rules_of r h =
    let a = is_type_name r.dtype in
    let b = names_day r.date in
    let c = nat_le 1 (length r.cells) in
    let d = nat_le (length r.cells) MAX_CELLS in
    let e = list_all is_cell r.cells in
    let f = nat_le (length (canon r)) MAX_CANONICAL in
    let five : (a && b && c && d && e) ≡ true = left (a && b && c && d && e) f h in
    let four : (a && b && c && d) ≡ true = left (a && b && c && d) e five in
    let three : (a && b && c) ≡ true = left (a && b && c) d four in
    let two : (a && b) ≡ true = left (a && b) c three in
    record { dtype = left a b two; date = right a b two; some = right (a && b) c three; cells = right (a && b && c && d) e five }

day_lacks : (date : List ℕ) → names_day date ≡ true → lacks_zero date ≡ true
day_lacks date h = digits_lack date (right (length date == 8) (list_all is_ascii_digit date) (left ((length date == 8) && list_all is_ascii_digit date) _ h))

numeral_lacks : (ds : List ℕ) → AllDigits 10 ds → lacks_zero ds ≡ true
numeral_lacks [] h = refl
numeral_lacks (zero ∷ ds) h = absurd (omega arith)
numeral_lacks (suc n ∷ ds) h = ap (λ b. b && lacks_zero ds) (above n) ∙ numeral_lacks ds h.1
  where
    above : (m : ℕ) → not (suc m == 0) ≡ true
    above m = grind (arith, nat_tests)

number_lacks : (n : ℕ) → n < 16 → lacks_zero (decimal n) ≡ true
number_lacks n h = numeral_lacks (decimal n) (decimal_is_IsNumeral n (omega arith)).0.1

pub shard_lacks : (e : Event) → IsEvent e → lacks_zero e.0.shard ≡ true
shard_lacks e h =
    let rules : KeepsRules (record_of e) = rules_of (record_of e) h.rules.rules in
    ap lacks_zero h.shard.spelled ∙ lacks-append (take 8 e.0.shard) (95 ∷ decimal h.number) (day_lacks (take 8 e.0.shard) rules.date) (number_lacks h.number h.shard.below)

-- ---- they are texts

abbrev AreSmall : List ℕ → Type 0
AreSmall bs = AllByRecursion (λ b. b < 128) bs

small_at : (bs : List ℕ) → AreSmall bs → (i : ℕ) → slice_index bs i < 128
small_at [] h i = omega arith
small_at (b ∷ bs) h zero = h.0
small_at (b ∷ bs) h (suc i) = small_at bs h.1 i

digit_small : (b : ℕ) → is_ascii_digit b ≡ true → b < 128
digit_small b h = grind (arith, nat_tests)

digits_small : (ds : List ℕ) → list_all is_ascii_digit ds ≡ true → AreSmall ds
digits_small [] h = tt
digits_small (d ∷ ds) h = (digit_small d (left (is_ascii_digit d) (list_all is_ascii_digit ds) h), digits_small ds (right (is_ascii_digit d) (list_all is_ascii_digit ds) h))

numeral_small : (ds : List ℕ) → AllDigits 10 ds → AreSmall ds
numeral_small [] h = tt
numeral_small (d ∷ ds) h = (let r = digit_from_value d h.0 in omega (arith, r), numeral_small ds h.1)

small-append : (a b : List ℕ) → AreSmall a → AreSmall b → AreSmall (a ++ b)
small-append [] b h k = k
small-append (x ∷ a) b h k = (h.0, small-append a b h.1 k)

pub shard_is_text : (e : Event) → IsEvent e → is_utf8 e.0.shard ≡ true
shard_is_text e h =
    let rules : KeepsRules (record_of e) = rules_of (record_of e) h.rules.rules in
    let day : AreSmall (take 8 e.0.shard) = digits_small (take 8 e.0.shard) (right (length (take 8 e.0.shard) == 8) (list_all is_ascii_digit (take 8 e.0.shard)) (left ((length (take 8 e.0.shard) == 8) && list_all is_ascii_digit (take 8 e.0.shard)) _ rules.date)) in
    let number : AreSmall (95 ∷ decimal h.number) = (omega arith, numeral_small (decimal h.number) (decimal_is_IsNumeral h.number (let b = h.shard.below in omega (arith, b))).0.1) in
    let all : AreSmall e.0.shard = subst AreSmall (sym h.shard.spelled) (small-append (take 8 e.0.shard) (95 ∷ decimal h.number) day number) in
    is_utf8-from_IsUtf8 e.0.shard (IsUtf8-from_ascii e.0.shard (small_at e.0.shard all))
