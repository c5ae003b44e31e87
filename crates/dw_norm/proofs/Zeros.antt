-- No normal form holds a byte 0 that its text does not hold.
use Rattle.std.proofs.Common.{◌≡◌, ◌≢◌, ℕ, zero, suc, ◌+◌, ◌-◌, ◌/◌, ◌%◌, Bool, true, not, eqb, List, [], ◌∷◌, ◌++◌, get_or, map, Some, refl, sym, ap, ◌∙◌, arith, inl, inr, flat_map}
use Rattle.std.specs.Prelude.{All, chars, filter, reverse, IsUtf8, ℤ, pos, negsuc}
use Rattle.std.specs.Char.{encode_utf8 as encode}
use Rattle.std.specs.List.{list_all, join_with_byte}
use lib.Utf8.{encodes}
use Rattle.std.proofs.lemmas.Bool.{cases_Bool, cases_eq, and_parts, and_from, not_from_false, not-true, ne_eqb, eqb-false, true≢false}
use Rattle.std.proofs.lemmas.List.{append-nil, get_or_default, map_push, reverse-append}
use Rattle.std.proofs.lemmas.Option.{cond_some, none-some, same_Some}
use Rattle.std.proofs.lemmas.List.Folds.{list_all-append}
use Rattle.std.proofs.lemmas.Str.{encode_ascii, encodes-chars, inside_one}
use Rattle.ucd_normal.specs.declared.forms.Form.TheVariants.{Nfd}
use Rattle.ucd_normal.specs.Decomposition.{decomposition, if_canonical, or_itself, expand, canonical_mapping, canonical_decomposition}
use Rattle.ucd_normal.specs.DecompositionRows.{Tag}
use Rattle.ucd_normal.specs.DecompositionRows.Tag.{canonical}
use Rattle.ucd_normal.proofs.DecompositionLemmas.{decomposition_stepped}
use Rattle.ucd_table.proofs.Computing.{tables}
use Rattle.ucd_table.proofs.RangedFacts.{values_ok, Stepped-at_values}
use Rattle.ucd_case.specs.CaseFolding.{full_folding, full_fold}
use Rattle.ucd_case.specs.CaseFolding.{or_itself as folded_or_itself}
use Rattle.ucd_case.proofs.CaseFoldingLemmas.{full_folding_stepped}
use Rattle.unicode_normalization.specs.Decompose.{decompose}
use Rattle.unicode_normalization.specs.Forms.{nfd}
use Rattle.unicode_normalization.specs.Hangul.{is_syllable, decompose_hangul}
use Rattle.unicode_normalization.proofs.HangulLemmas.{decompose_hangul-two, decompose_hangul-three}
use Rattle.unicode_normalization.proofs.KeptLemmas.{list_all-decomposed}
use Rattle.unicode_normalization.proofs.FormsLemmas.{normalize-Nfd}
use Rattle.caseless.specs.Caseless.{default_case_fold}
use Rattle.dw_norm.specs.declared.kind.Kind.{Kind}
use Rattle.dw_norm.specs.declared.kind.Kind.TheVariants.{Text, Noop, Number, Date, Ipv4}
use Rattle.dw_norm.specs.Digits.{decimal}
use Rattle.dw_norm.specs.Unchanged.{unless_empty}
use Rattle.dw_norm.specs.NormalText.{is_no_mark, norm_text}
use Rattle.dw_norm.specs.Numbers.{is_number, number_of, nines, number_text, norm_number}
use Rattle.dw_norm.specs.Calendar.{Moment}
use Rattle.dw_norm.specs.Dates.{moment_text, norm_date}
use Rattle.dw_norm.specs.Addresses.{is_address, address_of, norm_address}
use Rattle.dw_norm.specs.Reversal.{rev}
use Rattle.dw_norm.specs.Normal.{norm}
use Rattle.dw_norm.specs.Laws.{NoZeroIsMade, NoZeroIsReversed}
use Rattle.dw_norm.proofs.Dates.{read_text}

abbrev pub is_not_zero : ℕ → Bool
is_not_zero b = not (eqb b 0)

abbrev pub free : List ℕ → Type 0
free xs = list_all is_not_zero xs ≡ true

not_zero : (b : ℕ) → b ≢ 0 → is_not_zero b ≡ true
not_zero b h = not_from_false (eqb b 0) (ne_eqb b 0 h)

is_above : (b : ℕ) → is_not_zero b ≡ true → b ≢ 0
is_above b h = eqb-false b 0 (not-true (eqb b 0) h)

pub free-from : (xs : List ℕ) → All (λ b. b ≢ 0) xs → free xs
free-from [] all = refl
free-from (x ∷ xs) all = and_from (is_not_zero x) (list_all is_not_zero xs) (not_zero x (all 0 0 (omega arith))) (free-from xs (λ k d lt. all (suc k) d (omega arith)))

pub free-all : (xs : List ℕ) → free xs → All (λ b. b ≢ 0) xs
free-all [] all k d lt = absurd (omega arith)
free-all (x ∷ xs) all zero d lt = is_above x (and_parts (is_not_zero x) (list_all is_not_zero xs) all).0
free-all (x ∷ xs) all (suc k) d lt = free-all xs (and_parts (is_not_zero x) (list_all is_not_zero xs) all).1 k d (omega arith)

free-append : (xs ys : List ℕ) → free xs → free ys → free (xs ++ ys)
free-append xs ys h k = list_all-append is_not_zero xs ys ∙ and_from (list_all is_not_zero xs) (list_all is_not_zero ys) h k

free_parts : (xs ys : List ℕ) → free (xs ++ ys) → free xs × free ys
free_parts xs ys h = and_parts (list_all is_not_zero xs) (list_all is_not_zero ys) (sym (list_all-append is_not_zero xs ys) ∙ h)

-- UTF-8 writes a byte 0 for the character 0 alone
free-encode : (c : ℕ) → c ≢ 0 → free (encode c)
free-encode c h =
    free-from (encode c) (λ k d lt e.
    let at : get_or (encode c) k 0 ≡ 0 = get_or_default (encode c) k 0 d lt ∙ e in
    h (inside_one c [] (encode c) k (sym (append-nil (encode c))) lt (omega arith) ∙ at))

free-encodes : (cs : List ℕ) → free cs → free (encodes cs)
free-encodes [] h = refl
free-encodes (c ∷ cs) h =
    let parts = and_parts (is_not_zero c) (list_all is_not_zero cs) h in
    free-append (encode c) (encodes cs) (free-encode c (is_above c parts.0)) (free-encodes cs parts.1)

free_from_encodes : (cs : List ℕ) → free (encodes cs) → free cs
free_from_encodes [] h = refl
free_from_encodes (c ∷ cs) h =
    let parts = free_parts (encode c) (encodes cs) h in
    and_from (is_not_zero c) (list_all is_not_zero cs) (not_zero c (λ e. zero_shows c e parts.0)) (free_from_encodes cs parts.1)
  where
    zero_shows : (c : ℕ) → c ≡ 0 → free (encode c) → ⊥
    zero_shows c e h = true≢false (sym h ∙ ap (list_all is_not_zero) (ap encode e ∙ encode_ascii 0 (omega arith)))

free-or_itself : (c : ℕ) (xs : List ℕ) → is_not_zero c ≡ true → free xs → free (or_itself c xs)
free-or_itself c [] h k = and_from (is_not_zero c) true h refl
free-or_itself c (x ∷ xs) h k = k

free-flat_map : (f : ℕ → List ℕ) → ((x : ℕ) → is_not_zero x ≡ true → free (f x)) → (xs : List ℕ) → free xs → free (flat_map f xs)
free-flat_map f keeps [] h = refl
free-flat_map f keeps (x ∷ xs) h =
    let parts = and_parts (is_not_zero x) (list_all is_not_zero xs) h in
    free-append (f x) (flat_map f xs) (keeps x parts.0) (free-flat_map f keeps xs parts.1)

free-filter : (p : ℕ → Bool) (xs : List ℕ) → free xs → free (filter p xs)
free-filter p [] h = refl
free-filter p (x ∷ xs) h =
    let parts = and_parts (is_not_zero x) (list_all is_not_zero xs) h in
    let rest = free-filter p xs parts.1 in
    elim (cases_Bool (p x)) [
      | inl kept ↦ rw kept (and_from (is_not_zero x) (list_all is_not_zero (filter p xs)) parts.0 rest)
      | inr lost ↦ rw lost rest
    ]

-- no row of the table of decompositions has a 0
rows_free : (c : ℕ) → free (decomposition c).1
unfolding tables values_ok decomposition_stepped
rows_free c = Stepped-at_values decomposition decomposition_stepped (λ entry. list_all is_not_zero entry.1) refl c

free-if_canonical : (entry : Tag × List ℕ) → free entry.1 → free (if_canonical entry)
free-if_canonical (canonical, string) h = h
free-if_canonical (_, string) h = refl

free-expand : (depth c : ℕ) → free (expand canonical_mapping depth c)
unfolding expand
free-expand zero c = free-if_canonical (decomposition c) (rows_free c)
free-expand (suc depth) c =
    free-flat_map (λ x. or_itself x (expand canonical_mapping depth x)) (λ x h. free-or_itself x (expand canonical_mapping depth x) h (free-expand depth x)) (canonical_mapping c) (free-if_canonical (decomposition c) (rows_free c))

free-hangul : (c : ℕ) → free (decompose_hangul c)
free-hangul c =
    let l = not_zero (0x1100 + (c - 0xAC00) / 588) (λ e. omega arith) in
    let v = not_zero (0x1161 + (c - 0xAC00) % 588 / 28) (λ e. omega arith) in
    let t = not_zero (0x11A7 + (c - 0xAC00) % 28) (λ e. omega arith) in
    elim (cases_eq ((c - 0xAC00) % 28) 0) [
      | inl two ↦ ap (list_all is_not_zero) (decompose_hangul-two c two) ∙ and_from _ _ l (and_from _ _ v refl)
      | inr three ↦ ap (list_all is_not_zero) (decompose_hangul-three c three) ∙ and_from _ _ l (and_from _ _ v (and_from _ _ t refl))
    ]

free-decompose : (c : ℕ) → is_not_zero c ≡ true → free (decompose Nfd c)
unfolding decompose canonical_decomposition
free-decompose c h =
    elim (cases_Bool (is_syllable c)) [
      | inl syllable ↦ rw syllable (free-hangul c)
      | inr other ↦ rw other (free-or_itself c (expand canonical_mapping 3 c) h (free-expand 3 c))
    ]

free-nfd : (cs : List ℕ) → free cs → free (nfd cs)
free-nfd cs h = ap (list_all is_not_zero) (normalize-Nfd cs) ∙ list_all-decomposed Nfd is_not_zero free-decompose cs h

-- nor has one of the table of case foldings
foldings_free : (c : ℕ) → free (full_folding c)
unfolding tables values_ok full_folding_stepped
foldings_free c = Stepped-at_values full_folding full_folding_stepped (list_all is_not_zero) refl c

free-folded_or_itself : (c : ℕ) (xs : List ℕ) → is_not_zero c ≡ true → free xs → free (folded_or_itself c xs)
free-folded_or_itself c [] h k = and_from (is_not_zero c) true h refl
free-folded_or_itself c (x ∷ xs) h k = k

free-full_fold : (c : ℕ) → is_not_zero c ≡ true → free (full_fold c)
free-full_fold c h = free-folded_or_itself c (full_folding c) h (foldings_free c)

free-case_fold : (cs : List ℕ) → free cs → free (default_case_fold cs)
unfolding default_case_fold
free-case_fold cs h = free-flat_map full_fold free-full_fold cs h

free-decimal : (w n : ℕ) → free (decimal w n)
unfolding decimal
free-decimal zero n = refl
free-decimal (suc w) n = free-append (decimal w (n / 10)) ((48 + n % 10) ∷ []) (free-decimal w (n / 10)) (and_from (is_not_zero (48 + n % 10)) true (not_zero (48 + n % 10) (λ e. omega arith)) refl)

free-nines : (w n : ℕ) → free (nines (decimal w n))
unfolding decimal
free-nines zero n = refl
free-nines (suc w) n =
    let digit : 105 - (48 + n % 10) ≢ 0 = λ e. omega arith in
    ap (list_all is_not_zero) (map_push (λ d. 105 - d) (decimal w (n / 10)) (48 + n % 10))
    ∙ free-append (nines (decimal w (n / 10))) ((105 - (48 + n % 10)) ∷ []) (free-nines w (n / 10)) (and_from (is_not_zero (105 - (48 + n % 10))) true (not_zero (105 - (48 + n % 10)) digit) refl)

free-number_text : (z : ℤ) → free (number_text z)
free-number_text (pos m) = free-decimal 27 m
free-number_text (negsuc k) = free-nines 27 (suc k)

free-seven : (a b c d e f g : List ℕ) → free a → free b → free c → free d → free e → free f → free g → free (a ++ b ++ c ++ d ++ e ++ f ++ g)
free-seven a b c d e f g h i j k l m n =
    free-append (a ++ b ++ c ++ d ++ e ++ f) g
    (free-append (a ++ b ++ c ++ d ++ e) f
    (free-append (a ++ b ++ c ++ d) e
    (free-append (a ++ b ++ c) d
    (free-append (a ++ b) c
    (free-append a b h i) j) k) l) m) n

free-moment_text : (m : Moment) → free (moment_text m)
unfolding moment_text
free-moment_text m =
    free-seven (decimal 4 m.day.year) (45 ∷ decimal 2 m.day.month) (45 ∷ decimal 2 m.day.day) (84 ∷ decimal 2 (m.second / 3600)) (58 ∷ decimal 2 (m.second / 60 % 60)) (58 ∷ decimal 2 (m.second % 60)) (90 ∷ [])
    (free-decimal 4 m.day.year) (free-decimal 2 m.day.month) (free-decimal 2 m.day.day) (free-decimal 2 (m.second / 3600)) (free-decimal 2 (m.second / 60 % 60)) (free-decimal 2 (m.second % 60)) refl

free-join : (ns : List ℕ) → free (join_with_byte 46 (map (decimal 3) ns))
free-join [] = refl
free-join (n ∷ []) = free-decimal 3 n
free-join (n ∷ k ∷ ns) = free-append (decimal 3 n) (46 ∷ join_with_byte 46 (map (decimal 3) (k ∷ ns))) (free-decimal 3 n) (free-join (k ∷ ns))

unless_empty-some : (xs x : List ℕ) → unless_empty xs ≡ Some x → xs ≡ x
unless_empty-some [] x e = absurd (none-some x e)
unless_empty-some (b ∷ xs) x e = same_Some (b ∷ xs) x e

free_along : (xs ys : List ℕ) → xs ≡ ys → free xs → free ys
free_along xs ys e h = ap (list_all is_not_zero) (sym e) ∙ h

free-chars : (raw : List ℕ) → IsUtf8 raw → free raw → free (chars raw)
free-chars raw u h = free_from_encodes (chars raw) (ap (list_all is_not_zero) (encodes-chars raw u) ∙ h)

free-text : (raw x : List ℕ) → IsUtf8 raw → free raw → norm_text raw ≡ Some x → free x
unfolding norm_text
free-text raw x u h e =
    let kept = filter is_no_mark (nfd (chars raw)) in
    free_along (encodes (default_case_fold kept)) x (unless_empty-some (encodes (default_case_fold kept)) x e) (free-encodes (default_case_fold kept) (free-case_fold kept (free-filter is_no_mark (nfd (chars raw)) (free-nfd (chars raw) (free-chars raw u h)))))

free-number : (raw x : List ℕ) → norm_number raw ≡ Some x → free x
unfolding norm_number
free-number raw x e = free_along (number_text (number_of raw)) x (cond_some (is_number raw) (number_text (number_of raw)) x e).1 (free-number_text (number_of raw))

free-date : (raw x : List ℕ) → norm_date raw ≡ Some x → free x
free-date raw x e = let read = read_text raw x e in free_along (moment_text read.moment) x read.text (free-moment_text read.moment)

free-address : (raw x : List ℕ) → norm_address raw ≡ Some x → free x
unfolding norm_address
free-address raw x e = free_along (join_with_byte 46 (map (decimal 3) (address_of raw))) x (cond_some (is_address raw) (join_with_byte 46 (map (decimal 3) (address_of raw))) x e).1 (free-join (address_of raw))

free-norm : (kind : Kind) (raw x : List ℕ) → IsUtf8 raw → free raw → norm kind raw ≡ Some x → free x
free-norm Text raw x u h e = free-text raw x u h e
free-norm Noop raw x u h e = free_along raw x (unless_empty-some raw x e) h
free-norm Number raw x u h e = free-number raw x e
free-norm Date raw x u h e = free-date raw x e
free-norm Ipv4 raw x u h e = free-address raw x e

pub no_zero_made : NoZeroIsMade
no_zero_made kind raw x u all e = free-all x (free-norm kind raw x u (free-from raw all) e)

free-reverse : (xs : List ℕ) → free xs → free (reverse xs)
free-reverse [] h = refl
free-reverse (x ∷ xs) h =
    let parts = and_parts (is_not_zero x) (list_all is_not_zero xs) h in
    free_along (reverse xs ++ reverse (x ∷ [])) (reverse (x ∷ xs)) (sym (reverse-append (x ∷ []) xs)) (free-append (reverse xs) (reverse (x ∷ [])) (free-reverse xs parts.1) (and_from (is_not_zero x) true parts.0 refl))

pub no_zero_reversed : NoZeroIsReversed
unfolding rev
no_zero_reversed raw u all = free-all _ (free-encodes (reverse (chars raw)) (free-reverse (chars raw) (free-chars raw u (free-from raw all))))
