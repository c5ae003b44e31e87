-- A head of too many lines: none comes to stand there, whatever follows.
use Rattle.std.proofs.Common.{◌≡◌, ◌<◌, ◌≤◌, ◌+◌, ◌∙◌, ◌⊎◌, ℕ, zero, suc, Bool, true, false, cond, List, [], ◌∷◌, ◌++◌, length, refl, sym, ap, append_assoc, append-nil, length-append, arith, inl, inr}
use Rattle.std.specs.Prelude.{Option, Some, None, option_and_then, not, ◌==◌, ◌&&◌, ◌||◌, All, nat_lt}
use Rattle.std.specs.Option.{option_map_or}
use Rattle.std.specs.List.{flat_map}
use Rattle.std.proofs.lemmas.Bool.{eqb-true, ltb-true, lt-ltb}
use Rattle.std.proofs.lemmas.List.Elements.{All-head, All-tail}
use Rattle.httparse.specs.Grammar.{LineEnd, crlf, lf, print_end, print_blank, print_version, Field, IsField, print_field, print_section, AllPass, is_token_byte, is_uri_byte, is_value_byte, RequestHead, IsRequestHead, print_request}
use Rattle.httparse.proofs.GrammarLemmas.{print_request-append, cons-append}
use Rattle.dw_http.specs.Heads.{NoneStands, max_head, max_fields}
use Rattle.dw_http.specs.Lines.{after_line, after_lines, skip_empty, begins_no_empty, is_large}
use Rattle.dw_http.proofs.Over.{none_more}

-- whole lines are whole where more bytes follow

after_line_more : (xs more r : List ℕ) → after_line xs ≡ Some r → after_line (xs ++ more) ≡ Some (r ++ more)
after_line_more [] more r e = absurd (cc)
after_line_more (b ∷ xs) more r e = at (after_line_more xs more r) (b == 10) e
  where
    at : (after_line xs ≡ Some r → after_line (xs ++ more) ≡ Some (r ++ more)) → (t : Bool) → cond t (Some xs) (after_line xs) ≡ Some r → cond t (Some (xs ++ more)) (after_line (xs ++ more)) ≡ Some (r ++ more)
    at next true h = let same : xs ≡ r = cc in ap (λ ys. Some (ys ++ more)) same
    at next false h = next h

after_lines_more : (n : ℕ) (xs more r : List ℕ) → after_lines n xs ≡ Some r → after_lines n (xs ++ more) ≡ Some (r ++ more)
after_lines_more zero xs more r e = let same : xs ≡ r = cc in ap (λ ys. Some (ys ++ more)) same
after_lines_more (suc n) xs more r e = at (λ next. after_lines_more n next more r) (after_line xs) refl e
  where
    at : ((next : List ℕ) → after_lines n next ≡ Some r → after_lines n (next ++ more) ≡ Some (r ++ more)) → (o : Option (List ℕ)) → after_line xs ≡ o → option_and_then (after_lines n) o ≡ Some r → option_and_then (after_lines n) (after_line (xs ++ more)) ≡ Some (r ++ more)
    at rest None is h = absurd (cc)
    at rest (Some next) is h = ap (option_and_then (after_lines n)) (after_line_more xs more next is) ∙ rest next h

no_empty_more : (r more : List ℕ) → begins_no_empty r ≡ true → begins_no_empty (r ++ more) ≡ true
no_empty_more [] more e = absurd (cc)
no_empty_more (a ∷ b ∷ r) more e = e
no_empty_more (a ∷ []) [] e = e
no_empty_more (a ∷ []) (b ∷ more) e = at (a == 10) (a == 13) (b == 10) e
  where
    at : (x y z : Bool) → (not x && not y) ≡ true → (not x && not (y && z)) ≡ true
    at true y z h = h
    at false true z h = absurd (cc)
    at false false z h = refl

skip_more : (xs more : List ℕ) (a b : ℕ) (ys : List ℕ) → skip_empty xs ≡ a ∷ b ∷ ys → skip_empty (xs ++ more) ≡ a ∷ b ∷ (ys ++ more)
skip_more [] more a b ys e = absurd (cc)
skip_more (x ∷ []) more a b ys e = absurd (at (x == 10) e)
  where
    at : (t : Bool) → cond t [] (x ∷ []) ≡ a ∷ b ∷ ys → ⊥
    at true h = cc
    at false h = cc
skip_more (x ∷ y ∷ xs) more a b ys e = at (skip_more (y ∷ xs) more a b ys) (skip_more xs more a b ys) (x == 10) (x == 13 && y == 10) e
  where
    at : (skip_empty (y ∷ xs) ≡ a ∷ b ∷ ys → skip_empty (y ∷ (xs ++ more)) ≡ a ∷ b ∷ (ys ++ more)) → (skip_empty xs ≡ a ∷ b ∷ ys → skip_empty (xs ++ more) ≡ a ∷ b ∷ (ys ++ more)) → (s t : Bool) → cond s (skip_empty (y ∷ xs)) (cond t (skip_empty xs) (x ∷ y ∷ xs)) ≡ a ∷ b ∷ ys
        → cond s (skip_empty (y ∷ (xs ++ more))) (cond t (skip_empty (xs ++ more)) (x ∷ y ∷ (xs ++ more))) ≡ a ∷ b ∷ (ys ++ more)
    at one two true t h = one h
    at one two false true h = two h
    at one two false false h = ap (λ zs. zs ++ more) h

two_bytes : (n : ℕ) (xs r : List ℕ) → after_lines (suc (suc n)) xs ≡ Some r → (a : ℕ) × (b : ℕ) × (ys : List ℕ) × (xs ≡ a ∷ b ∷ ys)
two_bytes n [] r e = absurd (cc)
two_bytes n (a ∷ []) r e = absurd (at (a == 10) e)
  where
    at : (t : Bool) → option_and_then (after_lines (suc n)) (cond t (Some []) None) ≡ Some r → ⊥
    at true h = cc
    at false h = cc
two_bytes n (a ∷ b ∷ ys) r e = (a, b, ys, refl)

-- so many whole lines, and then bytes that begin no empty line
abbrev has_lines : ℕ → List ℕ → Bool
has_lines n bytes = option_map_or begins_no_empty (after_lines n (skip_empty bytes)) false

has_lines_more : (n : ℕ) (xs more : List ℕ) → has_lines (suc (suc n)) xs ≡ true → has_lines (suc (suc n)) (xs ++ more) ≡ true
has_lines_more n xs more e = at (after_lines (suc (suc n)) (skip_empty xs)) refl e
  where
    at : (o : Option (List ℕ)) → after_lines (suc (suc n)) (skip_empty xs) ≡ o → option_map_or begins_no_empty o false ≡ true → has_lines (suc (suc n)) (xs ++ more) ≡ true
    at None is h = absurd (cc)
    at (Some r) is h =
        let two = two_bytes n (skip_empty xs) r is in
        let skipped : skip_empty (xs ++ more) ≡ skip_empty xs ++ more = skip_more xs more two.0 two.1 two.2 two.3 ∙ sym (ap (λ ys. ys ++ more) two.3) in
        let lines : after_lines (suc (suc n)) (skip_empty (xs ++ more)) ≡ Some (r ++ more) = ap (after_lines (suc (suc n))) skipped ∙ after_lines_more (suc (suc n)) (skip_empty xs) more r is in
        ap (λ (o : Option (List ℕ)). option_map_or begins_no_empty o false) lines ∙ no_empty_more r more h

-- the lines of a head

line_passed : (test : ℕ → Bool) → test 10 ≡ false → (xs rest : List ℕ) → AllPass test xs → after_line (xs ++ rest) ≡ after_line rest
line_passed test stops [] rest all = refl
line_passed test stops (b ∷ xs) rest all = at (line_passed test stops xs rest (All-tail (λ v. test v ≡ true) b xs all)) (b == 10) refl
  where
    at : after_line (xs ++ rest) ≡ after_line rest → (t : Bool) → (b == 10) ≡ t → cond t (Some (xs ++ rest)) (after_line (xs ++ rest)) ≡ after_line rest
    at next true is =
        let passes : test b ≡ true = All-head (λ v. test v ≡ true) b xs all in
        let here : b ≡ 10 = eqb-true b 10 is in
        let stopped : test b ≡ false = ap test here ∙ stops in
        absurd (cc)
    at next false is = next

no_token_feed : is_token_byte 10 ≡ false
unfolding is_token_byte
no_token_feed = refl

end_passed : (end : LineEnd) (rest : List ℕ) → after_line (print_end end ++ rest) ≡ Some rest
end_passed crlf rest = refl
end_passed lf rest = refl

apart : (name raw end rest : List ℕ) → (name ++ 58 ∷ raw ++ end) ++ rest ≡ name ++ 58 ∷ (raw ++ (end ++ rest))
apart name raw end rest = simp (append_assoc, cons-append)

field_passed : (f : Field) (rest : List ℕ) → IsField f → after_line (print_field f ++ rest) ≡ Some rest
field_passed f rest is =
    ap after_line (apart f.name f.raw (print_end f.end) rest)
    ∙ line_passed is_token_byte no_token_feed f.name (58 ∷ (f.raw ++ (print_end f.end ++ rest))) is.name.1
    ∙ line_passed is_value_byte refl f.raw (print_end f.end ++ rest) is.raw
    ∙ end_passed f.end rest

-- no more lines than the fields are, and the empty one
section_lines : (n : ℕ) (fields : List Field) (last : LineEnd) → All IsField fields → length fields ≤ n
    → option_map_or begins_no_empty (after_lines n (flat_map print_field fields ++ print_end last)) false ≡ false
section_lines zero [] crlf all few = refl
section_lines zero [] lf all few = refl
section_lines (suc zero) [] crlf all few = refl
section_lines (suc zero) [] lf all few = refl
section_lines (suc (suc n)) [] crlf all few = refl
section_lines (suc (suc n)) [] lf all few = refl
section_lines zero (f ∷ fields) last all few = absurd (omega arith)
section_lines (suc n) (f ∷ fields) last all few =
    let rest = flat_map print_field fields ++ print_end last in
    let passed : after_line ((print_field f ++ flat_map print_field fields) ++ print_end last) ≡ Some rest =
    ap after_line (append_assoc (print_field f) (flat_map print_field fields) (print_end last)) ∙ field_passed f rest (All-head IsField f fields all) in
    ap (λ (o : Option (List ℕ)). option_map_or begins_no_empty (option_and_then (after_lines n) o) false) passed
    ∙ section_lines n fields last (All-tail IsField f fields all) (omega (arith, few))

version_passed : (minor : ℕ) (rest : List ℕ) → minor ≤ 1 → after_line (print_version minor ++ rest) ≡ after_line rest
version_passed zero rest few = refl
version_passed (suc zero) rest few = refl
version_passed (suc (suc n)) rest few = absurd (omega arith)

skip_feed : (zs : List ℕ) → skip_empty (10 ∷ zs) ≡ skip_empty zs
skip_feed [] = refl
skip_feed (z ∷ zs) = refl

skip_blank : (ends : List LineEnd) (rest : List ℕ) → skip_empty (print_blank ends ++ rest) ≡ skip_empty rest
skip_blank [] rest = refl
skip_blank (crlf ∷ ends) rest = skip_blank ends rest
skip_blank (lf ∷ ends) rest = skip_feed (print_blank ends ++ rest) ∙ skip_blank ends rest

no_token_return : is_token_byte 13 ≡ false
unfolding is_token_byte
no_token_return = refl

skip_start : (a b : ℕ) (ys : List ℕ) → is_token_byte a ≡ true → skip_empty (a ∷ b ∷ ys) ≡ a ∷ b ∷ ys
skip_start a b ys is = at (a == 10) (a == 13) refl refl
  where
    at : (s t : Bool) → (a == 10) ≡ s → (a == 13) ≡ t → cond s (skip_empty (b ∷ ys)) (cond (t && b == 10) (skip_empty ys) (a ∷ b ∷ ys)) ≡ a ∷ b ∷ ys
    at true t e f = let other : is_token_byte a ≡ false = ap is_token_byte (eqb-true a 10 e) ∙ no_token_feed in absurd (cc)
    at false true e f = let other : is_token_byte a ≡ false = ap is_token_byte (eqb-true a 13 f) ∙ no_token_return in absurd (cc)
    at false false e f = refl

skip_method : (method rest : List ℕ) → 0 < length method → AllPass is_token_byte method → skip_empty (method ++ 32 ∷ rest) ≡ method ++ 32 ∷ rest
skip_method [] rest some all = absurd (omega arith)
skip_method (a ∷ []) rest some all = skip_start a 32 rest (All-head (λ v. is_token_byte v ≡ true) a [] all)
skip_method (a ∷ b ∷ ms) rest some all = skip_start a b (ms ++ 32 ∷ rest) (All-head (λ v. is_token_byte v ≡ true) a (b ∷ ms) all)

-- a head from its first line on
abbrev lines_of : RequestHead → List ℕ → List ℕ
lines_of h rest = h.method ++ 32 ∷ (h.target ++ 32 ∷ (print_version h.minor ++ (print_end h.line_end ++ rest)))

whole_head : (h : RequestHead) → print_request h ≡ print_blank h.blank ++ lines_of h (print_section h.fields h.last)
whole_head h = sym (append-nil (print_request h)) ∙ print_request-append h [] ∙ ap (λ xs. print_blank h.blank ++ lines_of h xs) (append-nil (print_section h.fields h.last))

first_line : (h : RequestHead) (rest : List ℕ) → IsRequestHead h → after_line (lines_of h rest) ≡ Some rest
first_line h rest is =
    line_passed is_token_byte no_token_feed h.method (32 ∷ (h.target ++ 32 ∷ (print_version h.minor ++ (print_end h.line_end ++ rest)))) is.method.1
    ∙ line_passed is_uri_byte refl h.target (32 ∷ (print_version h.minor ++ (print_end h.line_end ++ rest))) is.target.1
    ∙ version_passed h.minor (print_end h.line_end ++ rest) is.minor
    ∙ end_passed h.line_end rest

-- the lines of a head are no more than its fields, the first line and the empty one
head_lines : (n : ℕ) (h : RequestHead) → IsRequestHead h → length h.fields ≤ n → has_lines (suc n) (print_request h) ≡ false
head_lines n h is few =
    let section : List ℕ = print_section h.fields h.last in
    let skipped : skip_empty (print_request h) ≡ lines_of h section =
    ap skip_empty (whole_head h) ∙ skip_blank h.blank (lines_of h section) ∙ skip_method h.method (h.target ++ 32 ∷ (print_version h.minor ++ (print_end h.line_end ++ section))) is.method.0 is.method.1 in
    ap (λ xs. option_map_or begins_no_empty (after_lines (suc n) xs) false) skipped
    ∙ ap (λ (o : Option (List ℕ)). option_map_or begins_no_empty (option_and_then (after_lines n) o) false) (first_line h section is)
    ∙ section_lines n h.fields h.last is.fields few

-- which of two fronts of the same bytes is the longer
longer : (a b c d : List ℕ) → a ++ b ≡ c ++ d → ((e : List ℕ) × (a ≡ c ++ e)) ⊎ ((e : List ℕ) × (c ≡ a ++ e))
longer [] b c d same = inr (c, refl)
longer (x ∷ a) b [] d same = inl (x ∷ a, refl)
longer (x ∷ a) b (y ∷ c) d same =
    let head : x ≡ y = cc in
    let tail : a ++ b ≡ c ++ d = cc in
    elim (longer a b c d tail) [
      | inl by ↦ inl (by.0, cc (head, by.1))
      | inr by ↦ inr (by.0, cc (head, by.1))
    ]

none_many : (bytes more : List ℕ) → NoneStands bytes → has_lines (max_fields + 1) bytes ≡ true → NoneStands (bytes ++ more)
none_many bytes more none many h rest s = elim (longer bytes more (print_request h) rest s.reads.1) [
  | inl by ↦ none h by.0 (record { reads = (s.reads.0, by.1); size = s.size; fields = s.fields })
  | inr by ↦
      let here : has_lines (max_fields + 1) (print_request h) ≡ true = ap (has_lines (max_fields + 1)) by.1 ∙ has_lines_more 63 bytes by.0 many in
      let none_here : has_lines (max_fields + 1) (print_request h) ≡ false = head_lines 64 h s.reads.0 s.fields in
      absurd (cc)
]

large_or : (b : Bool) (bytes : List ℕ) → (b || has_lines (max_fields + 1) bytes) ≡ true → (b ≡ true) ⊎ (has_lines (max_fields + 1) bytes ≡ true)
large_or true bytes e = inl refl
large_or false bytes e = inr e

-- too large stays too large

pub none_large : (bytes more : List ℕ) → NoneStands bytes → is_large bytes ≡ true → NoneStands (bytes ++ more)
none_large bytes more none large = elim (large_or (nat_lt max_head (length bytes)) bytes large) [
  | inl long ↦ none_more bytes more (ltb-true max_head (length bytes) long) none
  | inr many ↦ none_many bytes more none many
]

pub large_stays : (bytes more : List ℕ) → is_large bytes ≡ true → is_large (bytes ++ more) ≡ true
large_stays bytes more large = elim (large_or (nat_lt max_head (length bytes)) bytes large) [
  | inl long ↦
      let all : max_head < length (bytes ++ more) = omega (arith, ltb-true max_head (length bytes) long, length-append bytes more) in
      ap (λ (t : Bool). t || has_lines (max_fields + 1) (bytes ++ more)) (lt-ltb max_head (length (bytes ++ more)) all)
  | inr many ↦ either (nat_lt max_head (length (bytes ++ more))) (has_lines (max_fields + 1) (bytes ++ more)) (has_lines_more 63 bytes more many)
]
  where
    either : (a b : Bool) → b ≡ true → (a || b) ≡ true
    either true b e = refl
    either false b e = e

pub large_some : (bytes : List ℕ) → is_large bytes ≡ true → 0 < length bytes
large_some [] large = absurd (cc)
large_some (b ∷ bytes) large = omega arith
