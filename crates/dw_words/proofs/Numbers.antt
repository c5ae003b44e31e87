-- What a text of numbers is known to give.
use Rattle.std.proofs.Common.{◌≡◌, ◌∙◌, ◌==◌, ◌&&◌, ◌+◌, count_by, ℕ, Bool, true, false, cond, nat_le, List, [], ◌∷◌, length, map, Option, Some, None, is_some, unwrap_or, option_and_then, refl, sym, ap, true≢false, arith}
use Rattle.std.proofs.lemmas.Bool.{le-leb}
use Rattle.std.proofs.lemmas.List.{length-map}
use Rattle.std.proofs.lemmas.List.Splits.{length-slice_split}
use Rattle.std.specs.List.{list_all}
use Rattle.std.specs.Str.Parse.{digits_value}
use Rattle.std.specs.Char.{is_ascii_digit}
use Rattle.dw_words.specs.Options.{Text}
use Rattle.dw_words.specs.Sizes.{is_size, are_sizes, are_some}
use Rattle.dw_words.specs.Values.{from_least, number, parts, size_of, is_batch, are_batches, numbers}

-- a number by what decides it
by_tests : (a b c : Bool) (least most n : ℕ) → nat_le least n ≡ c → is_some (cond a (option_and_then (from_least least) (cond (b && nat_le n most) (Some n) None)) None) ≡ true
    → (cond a (option_and_then (from_least least) (cond (b && nat_le n most) (Some n) None)) None ≡ Some n) × ((nat_le least n && nat_le n most) ≡ true)
by_tests false b c least most n ec some = absurd (true≢false (sym some))
by_tests true false c least most n ec some = absurd (true≢false (sym some))
by_tests true true c least most n ec some = most_is (nat_le n most) c least most n refl ec some
  where
    most_is : (d c : Bool) (least most n : ℕ) → nat_le n most ≡ d → nat_le least n ≡ c → is_some (option_and_then (from_least least) (cond d (Some n) None)) ≡ true
        → (option_and_then (from_least least) (cond d (Some n) None) ≡ Some n) × ((nat_le least n && d) ≡ true)
    most_is false c least most n ed ec some = absurd (true≢false (sym some))
    most_is true true least most n ed ec some = (rw ec refl, rw ec refl)
    most_is true false least most n ed ec some = absurd (true≢false (sym (rw ec at some)))

pub number_is : (least most : ℕ) (text : Text) → is_some (number least most text) ≡ true
    → (number least most text ≡ Some (digits_value 10 text)) × ((nat_le least (digits_value 10 text) && nat_le (digits_value 10 text) most) ≡ true)
number_is least most text some =
    by_tests (nat_le (length text) 10) (nat_le 1 (length text) && list_all is_ascii_digit text) (nat_le least (digits_value 10 text)) least most (digits_value 10 text) refl some

both : (a b : Bool) → (a && b) ≡ true → (a ≡ true) × (b ≡ true)
both true b e = (refl, e)
both false b e = absurd (true≢false (sym e))

all_sizes : (ps : List Text) → list_all is_batch ps ≡ true → list_all is_size (map size_of ps) ≡ true
all_sizes [] e = refl
all_sizes (p ∷ ps) e =
    let parted = both (is_batch p) (list_all is_batch ps) e in
    let is = number_is 1 1000000 p parted.0 in
    let first : size_of p ≡ digits_value 10 p = ap (λ (o : Option ℕ). unwrap_or o 0) is.0 in
    let size : is_size (size_of p) ≡ true = ap is_size first ∙ is.1 in
    rw size (all_sizes ps parted.1)

some_parts : (text : Text) → nat_le 1 (length (parts text)) ≡ true
some_parts text = ap (nat_le 1) (length-slice_split (λ b. b == 44) text) ∙ le-leb 1 (count_by (λ b. b == 44) text + 1) (omega arith)

pub numbers_are_sizes : (text : Text) → are_batches text ≡ true → are_sizes (numbers text) ≡ true
numbers_are_sizes text e =
    let parted = both (nat_le (length (parts text)) 16) (list_all is_batch (parts text)) e in
    let count : length (numbers text) ≡ length (parts text) = length-map (parts text) size_of in
    rw (count, some_parts text, parted.0) (all_sizes (parts text) parted.1)

each_some : (sizes : List ℕ) → list_all is_size sizes ≡ true → list_all (λ n. nat_le 1 n) sizes ≡ true
each_some [] e = refl
each_some (n ∷ sizes) e =
    let parted = both (is_size n) (list_all is_size sizes) e in
    rw ((both (nat_le 1 n) (nat_le n 1000000) parted.0).0) (each_some sizes parted.1)

pub sizes_are_some : (sizes : List ℕ) → are_sizes sizes ≡ true → are_some sizes ≡ true
sizes_are_some sizes e =
    let parted = both (nat_le 1 (length sizes)) (nat_le (length sizes) 16 && list_all is_size sizes) e in
    rw (parted.0) (each_some sizes ((both (nat_le (length sizes) 16) (list_all is_size sizes) parted.1).1))
