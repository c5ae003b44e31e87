-- What holds of all normal forms.
use Rattle.std.specs.Prelude.{◌≡◌, ◌≢◌, ◌↔◌, ℕ, ◌-◌, ◌^◌, ◌<◌, true, List, ◌++◌, length, take, Some, All, IsUtf8, nat_eq}
use Rattle.std.specs.Ordering.{nat_cmp, int_cmp}
use Rattle.std.specs.Cmp.Lexicographic.{slice_cmp}
use Rattle.std.specs.Char.{is_ascii_digit}
use Rattle.std.specs.List.{list_all, starts_with, ends_with, join_with_byte}
use Rattle.dw_norm.specs.declared.kind.Kind.{Kind}
use Rattle.dw_norm.specs.declared.kind.Kind.TheVariants.{Number, Date, Ipv4}
use Rattle.std.specs.Str.Parse.{digits_value}
use Rattle.dw_norm.specs.Digits.{decimal}
use Rattle.dw_norm.specs.Numbers.{sign_len, whole_part, fraction_part, number_of, nines}
use Rattle.dw_norm.specs.Calendar.{Moment, IsMoment, instant, moment_at}
use Rattle.dw_norm.specs.Dates.{day_part, time_part, second_part, zone_part, instant_of}
use Rattle.dw_norm.specs.Addresses.{groups, is_address, address_of}
use Rattle.dw_norm.specs.Normal.{norm}
use Rattle.dw_norm.specs.Reversal.{rev}

-- normal forms of numbers compare as lists of unsigned bytes as the numbers do
abbrev pub NumbersKeepOrder : Type 0
NumbersKeepOrder = (a b x y : List ℕ) → norm Number a ≡ Some x → norm Number b ≡ Some y → slice_cmp nat_cmp x y ≡ int_cmp (number_of a) (number_of b)

-- those of dates as the instants do, in seconds
abbrev pub InstantsKeepOrder : Type 0
InstantsKeepOrder = (a b x y : List ℕ) → norm Date a ≡ Some x → norm Date b ≡ Some y → slice_cmp nat_cmp x y ≡ nat_cmp (instant_of a) (instant_of b)

-- those of addresses as the numbers of their groups do, the first group first
abbrev pub AddressesKeepOrder : Type 0
AddressesKeepOrder = (a b x y : List ℕ) → norm Ipv4 a ≡ Some x → norm Ipv4 b ≡ Some y → slice_cmp nat_cmp x y ≡ slice_cmp nat_cmp (address_of a) (address_of b)

-- taking each digit from 9 takes the number from the largest of as many digits
abbrev pub NinesComplement : Type 0
NinesComplement = (width m : ℕ) → m < 10 ^ width → nines (decimal width m) ≡ decimal width (10 ^ width - 1 - m)

-- an instant has a moment in UTC exactly where a day of the years 1 to 9999 and a second of it have that instant, and no other moment has it
abbrev pub InstantsHaveMoments : Type 0
InstantsHaveMoments = (t : ℕ) (m : Moment) → (moment_at t ≡ Some m) ↔ (IsMoment m × (instant m ≡ t))

-- the normal form of a text with no byte 0 has none
abbrev pub NoZeroIsMade : Type 0
NoZeroIsMade = (kind : Kind) (raw x : List ℕ) → IsUtf8 raw → All (λ b. b ≢ 0) raw → norm kind raw ≡ Some x → All (λ b. b ≢ 0) x

-- nor has such a text reversed
abbrev pub NoZeroIsReversed : Type 0
NoZeroIsReversed = (raw : List ℕ) → IsUtf8 raw → All (λ b. b ≢ 0) raw → All (λ b. b ≢ 0) (rev raw)

-- a text reversed twice is the text
abbrev pub ReversalTakesBack : Type 0
ReversalTakesBack = (text : List ℕ) → IsUtf8 text → rev (rev text) ≡ text

-- a text ends with another exactly where the first, reversed, begins with the second, reversed
abbrev pub EndsAreFrontsReversed : Type 0
EndsAreFrontsReversed = (text end : List ℕ) → IsUtf8 text → IsUtf8 end → ends_with nat_eq text end ≡ starts_with nat_eq (rev text) (rev end)

-- the parts of a date, of a number, and, with points between them, of an address are the whole text
abbrev pub TextsAreReadWhole : Type 0
TextsAreReadWhole = (raw : List ℕ) → (day_part raw ++ time_part raw ++ second_part raw ++ zone_part raw ≡ raw) × (take (sign_len raw) raw ++ whole_part raw ++ fraction_part raw ≡ raw) × (is_address raw ≡ true → join_with_byte 46 (groups raw) ≡ raw)

-- so many digits of a number that they suffice for are so many, are digits, and spell it
abbrev pub DigitsSpellNumbers : Type 0
DigitsSpellNumbers = (width n : ℕ) → n < 10 ^ width → (length (decimal width n) ≡ width) × (list_all is_ascii_digit (decimal width n) ≡ true) × (digits_value 10 (decimal width n) ≡ n)
