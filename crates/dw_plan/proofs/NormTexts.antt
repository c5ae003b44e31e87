-- Normal forms of texts are texts.
use Rattle.std.proofs.Common.{◌≡◌, ℕ, zero, suc, ◌+◌, ◌-◌, ◌/◌, ◌%◌, ◌<◌, Bool, true, ◌&&◌, List, [], ◌∷◌, ◌++◌, map, Some, refl, sym, ap, subst, ◌∙◌, arith, inl, inr, flat_map}
use Rattle.std.specs.Prelude.{chars, filter, IsUtf8, ℤ, pos, negsuc}
use Rattle.std.specs.Str.{IsAscii}
use Rattle.std.specs.List.{list_all, join_with_byte}
use lib.Utf8.{scalar, scalars, encodes, scalar_cases, low_scalar}
use Rattle.std.proofs.lemmas.Bool.{cases_Bool, cases_eq, and_parts, and_from}
use Rattle.std.proofs.lemmas.List.{map_push}
use Rattle.std.proofs.lemmas.Option.{cond_some, none-some, same_Some}
use Rattle.std.proofs.lemmas.List.Folds.{list_all-append}
use Rattle.std.proofs.lemmas.Str.{scalars-chars, IsUtf8-from_ascii, IsAscii-append}
use Rattle.ucd_normal.specs.declared.forms.Form.TheVariants.{Nfd}
use Rattle.ucd_normal.specs.Decomposition.{decomposition, if_canonical, or_itself, expand, canonical_mapping, canonical_decomposition}
use Rattle.ucd_normal.specs.DecompositionRows.{Tag}
use Rattle.ucd_normal.specs.DecompositionRows.Tag.{canonical}
use Rattle.ucd_normal.proofs.DecompositionLemmas.{decomposition_stepped}
use Rattle.ucd_table.proofs.Computing.{tables}
use Rattle.ucd_table.proofs.RangedFacts.{values_ok, Stepped-at_values}
use Rattle.ucd_case.specs.CaseFolding.{full_folding, full_fold}
use Rattle.ucd_case.specs.CaseFolding.{or_itself as folded_or_itself}
use Rattle.ucd_case.proofs.CaseFoldingLemmas.{full_folding_stepped}
use Rattle.unicode_normalization.specs.Decompose.{decompose}
use Rattle.unicode_normalization.specs.Forms.{nfd}
use Rattle.unicode_normalization.specs.Hangul.{is_syllable, decompose_hangul}
use Rattle.unicode_normalization.proofs.HangulLemmas.{decompose_hangul-two, decompose_hangul-three}
use Rattle.unicode_normalization.proofs.KeptLemmas.{list_all-decomposed}
use Rattle.unicode_normalization.proofs.FormsLemmas.{normalize-Nfd}
use Rattle.caseless.specs.Caseless.{default_case_fold}
use Rattle.dw_norm.specs.declared.kind.Kind.{Kind}
use Rattle.dw_norm.specs.declared.kind.Kind.TheVariants.{Text, Noop, Number, Date, Ipv4}
use Rattle.dw_norm.specs.Digits.{decimal}
use Rattle.dw_norm.specs.Unchanged.{unless_empty}
use Rattle.dw_norm.specs.NormalText.{is_no_mark, norm_text}
use Rattle.dw_norm.specs.Numbers.{is_number, number_of, nines, number_text, norm_number}
use Rattle.dw_norm.specs.Calendar.{Moment}
use Rattle.dw_norm.specs.Dates.{moment_text, norm_date}
use Rattle.dw_norm.specs.Addresses.{is_address, address_of, norm_address}
use Rattle.dw_norm.specs.Normal.{norm}
use Rattle.dw_norm.proofs.Dates.{read_text}

-- ---- characters

abbrev good : List ℕ → Type 0
good cs = list_all scalar cs ≡ true

same_test : (cs : List ℕ) → scalars cs ≡ list_all scalar cs
same_test [] = refl
same_test (c ∷ cs) = ap (λ b. scalar c && b) (same_test cs)

good-append : (xs ys : List ℕ) → good xs → good ys → good (xs ++ ys)
good-append xs ys h k = list_all-append scalar xs ys ∙ and_from (list_all scalar xs) (list_all scalar ys) h k

good-or_itself : (c : ℕ) (xs : List ℕ) → scalar c ≡ true → good xs → good (or_itself c xs)
good-or_itself c [] h k = and_from (scalar c) true h refl
good-or_itself c (x ∷ xs) h k = k

good-flat_map : (f : ℕ → List ℕ) → ((x : ℕ) → scalar x ≡ true → good (f x)) → (xs : List ℕ) → good xs → good (flat_map f xs)
good-flat_map f keeps [] h = refl
good-flat_map f keeps (x ∷ xs) h =
    let parts = and_parts (scalar x) (list_all scalar xs) h in
    good-append (f x) (flat_map f xs) (keeps x parts.0) (good-flat_map f keeps xs parts.1)

good-filter : (p : ℕ → Bool) (xs : List ℕ) → good xs → good (filter p xs)
good-filter p [] h = refl
good-filter p (x ∷ xs) h =
    let parts = and_parts (scalar x) (list_all scalar xs) h in
    let rest = good-filter p xs parts.1 in
    elim (cases_Bool (p x)) [
      | inl kept ↦ rw kept (and_from (scalar x) (list_all scalar (filter p xs)) parts.0 rest)
      | inr lost ↦ rw lost rest
    ]

rows_good : (c : ℕ) → good (decomposition c).1
unfolding tables values_ok decomposition_stepped
rows_good c = Stepped-at_values decomposition decomposition_stepped (λ entry. list_all scalar entry.1) refl c

good-if_canonical : (entry : Tag × List ℕ) → good entry.1 → good (if_canonical entry)
good-if_canonical (canonical, string) h = h
good-if_canonical (_, string) h = refl

good-expand : (depth c : ℕ) → good (expand canonical_mapping depth c)
unfolding expand
good-expand zero c = good-if_canonical (decomposition c) (rows_good c)
good-expand (suc depth) c =
    good-flat_map (λ x. or_itself x (expand canonical_mapping depth x)) (λ x h. good-or_itself x (expand canonical_mapping depth x) h (good-expand depth x)) (canonical_mapping c) (good-if_canonical (decomposition c) (rows_good c))

below_all : (c : ℕ) → scalar c ≡ true → c < 1114112
below_all c h = elim (scalar_cases c h) [ inl low ↦ omega arith | inr high ↦ omega arith ]

good-hangul : (c : ℕ) → scalar c ≡ true → good (decompose_hangul c)
good-hangul c h =
    let small = below_all c h in
    let l = low_scalar (0x1100 + (c - 0xAC00) / 588) (omega arith) in
    let v = low_scalar (0x1161 + (c - 0xAC00) % 588 / 28) (omega arith) in
    let t = low_scalar (0x11A7 + (c - 0xAC00) % 28) (omega arith) in
    elim (cases_eq ((c - 0xAC00) % 28) 0) [
      | inl two ↦ ap (list_all scalar) (decompose_hangul-two c two) ∙ and_from _ _ l (and_from _ _ v refl)
      | inr three ↦ ap (list_all scalar) (decompose_hangul-three c three) ∙ and_from _ _ l (and_from _ _ v (and_from _ _ t refl))
    ]

good-decompose : (c : ℕ) → scalar c ≡ true → good (decompose Nfd c)
unfolding decompose canonical_decomposition
good-decompose c h =
    elim (cases_Bool (is_syllable c)) [
      | inl syllable ↦ rw syllable (good-hangul c h)
      | inr other ↦ rw other (good-or_itself c (expand canonical_mapping 3 c) h (good-expand 3 c))
    ]

good-nfd : (cs : List ℕ) → good cs → good (nfd cs)
good-nfd cs h = ap (list_all scalar) (normalize-Nfd cs) ∙ list_all-decomposed Nfd scalar good-decompose cs h

foldings_good : (c : ℕ) → good (full_folding c)
unfolding tables values_ok full_folding_stepped
foldings_good c = Stepped-at_values full_folding full_folding_stepped (list_all scalar) refl c

good-folded_or_itself : (c : ℕ) (xs : List ℕ) → scalar c ≡ true → good xs → good (folded_or_itself c xs)
good-folded_or_itself c [] h k = and_from (scalar c) true h refl
good-folded_or_itself c (x ∷ xs) h k = k

good-case_fold : (cs : List ℕ) → good cs → good (default_case_fold cs)
unfolding default_case_fold
good-case_fold cs h = good-flat_map full_fold (λ c k. good-folded_or_itself c (full_folding c) k (foldings_good c)) cs h

unless_empty-some : (xs x : List ℕ) → unless_empty xs ≡ Some x → xs ≡ x
unless_empty-some [] x e = absurd (none-some x e)
unless_empty-some (b ∷ xs) x e = same_Some (b ∷ xs) x e

text_utf8 : (raw x : List ℕ) → IsUtf8 raw → norm_text raw ≡ Some x → IsUtf8 x
unfolding norm_text
text_utf8 raw x u e =
    let kept = filter is_no_mark (nfd (chars raw)) in
    let all : good (default_case_fold kept) = good-case_fold kept (good-filter is_no_mark (nfd (chars raw)) (good-nfd (chars raw) (sym (same_test (chars raw)) ∙ scalars-chars raw u))) in
    (default_case_fold kept, (same_test (default_case_fold kept) ∙ all, unless_empty-some (encodes (default_case_fold kept)) x e))

-- ---- digits

one_ascii : (b : ℕ) (xs : List ℕ) → b < 128 → IsAscii xs → IsAscii (b ∷ xs)
one_ascii b xs small rest zero = small
one_ascii b xs small rest (suc i) = rest i

none_ascii : IsAscii []
none_ascii i = omega arith

ascii-decimal : (w n : ℕ) → IsAscii (decimal w n)
unfolding decimal
ascii-decimal zero n = none_ascii
ascii-decimal (suc w) n = IsAscii-append (decimal w (n / 10)) ((48 + n % 10) ∷ []) (ascii-decimal w (n / 10)) (one_ascii (48 + n % 10) [] (omega arith) none_ascii)

ascii-nines : (w n : ℕ) → IsAscii (nines (decimal w n))
unfolding decimal
ascii-nines zero n = none_ascii
ascii-nines (suc w) n =
    subst IsAscii (sym (map_push (λ d. 105 - d) (decimal w (n / 10)) (48 + n % 10)))
    (IsAscii-append (nines (decimal w (n / 10))) ((105 - (48 + n % 10)) ∷ []) (ascii-nines w (n / 10)) (one_ascii (105 - (48 + n % 10)) [] (omega arith) none_ascii))

ascii-number_text : (z : ℤ) → IsAscii (number_text z)
ascii-number_text (pos m) = one_ascii 43 (decimal 27 m) (omega arith) (ascii-decimal 27 m)
ascii-number_text (negsuc k) = one_ascii 33 (nines (decimal 27 (suc k))) (omega arith) (ascii-nines 27 (suc k))

ascii-seven : (a b c d e f g : List ℕ) → IsAscii a → IsAscii b → IsAscii c → IsAscii d → IsAscii e → IsAscii f → IsAscii g → IsAscii (a ++ b ++ c ++ d ++ e ++ f ++ g)
ascii-seven a b c d e f g h i j k l m n =
    IsAscii-append (a ++ b ++ c ++ d ++ e ++ f) g
    (IsAscii-append (a ++ b ++ c ++ d ++ e) f
    (IsAscii-append (a ++ b ++ c ++ d) e
    (IsAscii-append (a ++ b ++ c) d
    (IsAscii-append (a ++ b) c
    (IsAscii-append a b h i) j) k) l) m) n

ascii-moment_text : (m : Moment) → IsAscii (moment_text m)
unfolding moment_text
ascii-moment_text m =
    ascii-seven (decimal 4 m.day.year) (45 ∷ decimal 2 m.day.month) (45 ∷ decimal 2 m.day.day) (84 ∷ decimal 2 (m.second / 3600)) (58 ∷ decimal 2 (m.second / 60 % 60)) (58 ∷ decimal 2 (m.second % 60)) (90 ∷ [])
    (ascii-decimal 4 m.day.year) (one_ascii 45 _ (omega arith) (ascii-decimal 2 m.day.month)) (one_ascii 45 _ (omega arith) (ascii-decimal 2 m.day.day)) (one_ascii 84 _ (omega arith) (ascii-decimal 2 (m.second / 3600)))
    (one_ascii 58 _ (omega arith) (ascii-decimal 2 (m.second / 60 % 60))) (one_ascii 58 _ (omega arith) (ascii-decimal 2 (m.second % 60))) (one_ascii 90 [] (omega arith) none_ascii)

ascii-join : (ns : List ℕ) → IsAscii (join_with_byte 46 (map (decimal 3) ns))
ascii-join [] = none_ascii
ascii-join (n ∷ []) = ascii-decimal 3 n
ascii-join (n ∷ k ∷ ns) = IsAscii-append (decimal 3 n) (46 ∷ join_with_byte 46 (map (decimal 3) (k ∷ ns))) (ascii-decimal 3 n) (one_ascii 46 _ (omega arith) (ascii-join (k ∷ ns)))

ascii_utf8 : (xs ys : List ℕ) → xs ≡ ys → IsAscii xs → IsUtf8 ys
ascii_utf8 xs ys e h = subst IsUtf8 e (IsUtf8-from_ascii xs h)

number_utf8 : (raw x : List ℕ) → norm_number raw ≡ Some x → IsUtf8 x
unfolding norm_number
number_utf8 raw x e = ascii_utf8 (number_text (number_of raw)) x (cond_some (is_number raw) (number_text (number_of raw)) x e).1 (ascii-number_text (number_of raw))

date_utf8 : (raw x : List ℕ) → norm_date raw ≡ Some x → IsUtf8 x
date_utf8 raw x e = let read = read_text raw x e in ascii_utf8 (moment_text read.moment) x read.text (ascii-moment_text read.moment)

address_utf8 : (raw x : List ℕ) → norm_address raw ≡ Some x → IsUtf8 x
unfolding norm_address
address_utf8 raw x e = ascii_utf8 (join_with_byte 46 (map (decimal 3) (address_of raw))) x (cond_some (is_address raw) (join_with_byte 46 (map (decimal 3) (address_of raw))) x e).1 (ascii-join (address_of raw))

pub norm_utf8 : (kind : Kind) (raw x : List ℕ) → IsUtf8 raw → norm kind raw ≡ Some x → IsUtf8 x
norm_utf8 Text raw x u e = text_utf8 raw x u e
norm_utf8 Noop raw x u e = subst IsUtf8 (unless_empty-some raw x e) u
norm_utf8 Number raw x u e = number_utf8 raw x e
norm_utf8 Date raw x u e = date_utf8 raw x e
norm_utf8 Ipv4 raw x u e = address_utf8 raw x e
