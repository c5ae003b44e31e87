-- On what the cells of table 3 say.
use Rattle.std.proofs.Common.{◌≡◌, ◌+◌, ◌-◌, ◌^◌, ◌<◌, ◌≤◌, ◌&&◌, ◌==◌, ◌++◌, ℕ, zero, suc, Bool, true, false, nat_le, nat_lt, List, [], ◌∷◌, length, take, drop, refl, sym, ap, subst, ◌∙◌, append_assoc, arith}
use Rattle.std.specs.Prelude.{Option, Some, None, slice_index}
use Rattle.std.specs.Option.{option_map, option_and_then}
use Rattle.std.specs.Int.{w16, w64, to_be_bytes, from_be_bytes}
use Rattle.std.specs.List.{list_all, AllByRecursion}
use Rattle.std.specs.Str.{is_utf8}
use Rattle.std.proofs.lemmas.Bool.Decides.{nat_tests}
use Rattle.std.proofs.lemmas.Str.{IsUtf8-from_ascii, is_utf8-from_IsUtf8}
use Rattle.dw_base.specs.Callers.{is_visible, is_caller}
use Rattle.dw_base.specs.FieldNames.{is_folded_name}
use Rattle.dw_base.specs.declared.limits.TheConstants.{MAX_CALLER, MAX_NAMES}
use Rattle.std.proofs.lemmas.List.{length-append, length-drop, length-take, take-append-drop}
use Rattle.std.proofs.lemmas.Nat.{from_be_bytes-to_be_bytes_2, from_be_bytes-to_be_bytes_8, be_bytes_2, be_bytes_8}
use Rattle.std.proofs.Math.Seq.{take-append_seam, drop-append_seam}
use Rattle.dw_base.specs.Callers.{is_auth}
use Rattle.dw_key.specs.KeyCode.{AreBytes}
use Rattle.dw_key.proofs.Escapes.{AreBytes-parts}
use Rattle.dw_norm.specs.declared.kind.Kind.{Kind}
use Rattle.dw_norm.specs.declared.kind.Kind.TheVariants.{Text, Noop, Number, Date, Ipv4}
use Rattle.dw_dict.specs.declared.rule.FieldRule.{FieldRule}
use Rattle.dw_dict.specs.Rules.{kind_number, field_rule, rule_found}
use Rattle.dw_derive.specs.Meta.{bit, rule_bytes, commit_bytes, name_bytes, names_bytes}
use Rattle.dw_derive.specs.Readers.{only_if}
use Rattle.dw_derive.specs.UidLists.{ascend}
use Rattle.dw_derive.specs.MetaReaders.{number_from, kind_from, bit_from, rule_from, name_of_size, name_in, names_in, names_from, AreGranted, RulesHaveOneSpelling, GrantsHaveOneSpelling, NumbersHaveOneSpelling}
use Rattle.dw_derive.proofs.Decoding.{and_then_some, map_some}
use Rattle.dw_derive.proofs.Spellings.{fits_at}
use Rattle.dw_derive.proofs.UidListLemmas.{is_ascending, ascend-of}
use Rattle.dw_derive.proofs.ReaderLemmas.{false_from}
use Rattle.dw_derive.proofs.Reading.{field_is_plain}
use Rattle.dw_derive.proofs.Shards.{left, right}

-- ---- callers and fields are texts

visible_small : (b : ℕ) → is_visible b ≡ true → b < 128
visible_small b h = grind (arith, nat_tests)

visible_are_ascii : (bs : List ℕ) → list_all is_visible bs ≡ true → (i : ℕ) → slice_index bs i < 128
visible_are_ascii [] h i = omega arith
visible_are_ascii (b ∷ bs) h zero = visible_small b (left (is_visible b) (list_all is_visible bs) h)
visible_are_ascii (b ∷ bs) h (suc i) = visible_are_ascii bs (right (is_visible b) (list_all is_visible bs) h) i

caller_is_text : (bs : List ℕ) → is_caller bs ≡ true → is_utf8 bs ≡ true
caller_is_text bs h =
    let visible : list_all is_visible bs ≡ true = right (nat_le 1 (length bs) && nat_le (length bs) MAX_CALLER) (list_all is_visible bs) h in
    is_utf8-from_IsUtf8 bs (IsUtf8-from_ascii bs (visible_are_ascii bs visible))

pub no_caller : (bs : List ℕ) → is_utf8 bs ≡ false → is_caller bs ≡ false
no_caller bs h = false_from (is_caller bs) (λ e. cc (h, caller_is_text bs e))

pub no_field : (bs : List ℕ) → is_utf8 bs ≡ false → is_folded_name bs ≡ false
no_field bs h = false_from (is_folded_name bs) (λ e. cc (h, (field_is_plain bs e).utf8))

-- ---- names one after another

pub names-none : (n : ℕ) → names_in n [] ≡ Some []
unfolding names_in
names-none zero = refl
names-none (suc n) = refl

pub names-full : (bs : List ℕ) → (length bs == 0) ≡ false → names_in 0 bs ≡ None
unfolding names_in
names-full [] h = cc
names-full (b ∷ bs) h = refl

pub names-cut : (n : ℕ) (bs : List ℕ) → (length bs == 0) ≡ false → name_in bs ≡ None → names_in n bs ≡ None
unfolding names_in
names-cut n [] h e = cc
names-cut zero (b ∷ bs) h e = refl
names-cut (suc n) (b ∷ bs) h e = ap (option_and_then (λ (p : List ℕ × List ℕ). option_map (λ names. p.0 ∷ names) (names_in n p.1))) e

pub names-more : (n : ℕ) (bs name rest : List ℕ) → name_in bs ≡ Some (name, rest) → names_in (suc n) bs ≡ option_map (λ names. name ∷ names) (names_in n rest)
unfolding names_in
names-more n [] name rest e = cc
names-more n (b ∷ bs) name rest e = ap (option_and_then (λ (p : List ℕ × List ℕ). option_map (λ names. p.0 ∷ names) (names_in n p.1))) e

-- what a name of some size says
only_some : {A : Type 0} (b : Bool) (x y : A) → only_if b x ≡ Some y → (b ≡ true) × (x ≡ y)
only_some true x y e = (refl, cc)
only_some false x y e = cc

-- what follows a name is shorter
pub behind_is_shorter : (bs name rest : List ℕ) → name_in bs ≡ Some (name, rest) → length rest < length bs
behind_is_shorter [] name rest e = cc
behind_is_shorter (a ∷ []) name rest e = cc
behind_is_shorter (a ∷ b ∷ bs) name rest e =
    let n = from_be_bytes w16 (a ∷ b ∷ []) in
    let parts : (_ ≡ true) × ((take n bs, drop n bs) ≡ (name, rest)) = only_some _ (take n bs, drop n bs) (name, rest) e in
    let same : drop n bs ≡ rest = ap (λ (p : List ℕ × List ℕ). p.1) parts.1 in
    let short = length-drop n bs in
    let len : length rest ≡ length (drop n bs) = ap length (sym same) in
    omega (arith, short, len)

-- ---- the loop over names

-- these names stand before what is left, of which so many were read
abbrev pub Goes : List ℕ → List (List ℕ) → ℕ → List ℕ → Type 0
Goes content names count rest = names_in MAX_NAMES content ≡ option_map (λ more. names ++ more) (names_in (MAX_NAMES - count) rest)

itself : (o : Option (List (List ℕ))) → o ≡ option_map (λ more. [] ++ more) o
itself None = refl
itself (Some names) = refl

pub goes_first : (content : List ℕ) (names : List (List ℕ)) (count : ℕ) → names ≡ [] → count ≡ 0 → Goes content names count content
goes_first content names count e z =
    let all : MAX_NAMES - count ≡ MAX_NAMES = omega (arith, z) in
    itself (names_in MAX_NAMES content)
    ∙ sym (ap (λ n. option_map (λ more. names ++ more) (names_in n content)) all ∙ ap (λ (ns : List (List ℕ)). option_map (λ more. ns ++ more) (names_in MAX_NAMES content)) e)

pub goes_full : (content : List ℕ) (names : List (List ℕ)) (count : ℕ) (rest : List ℕ) → Goes content names count rest → count ≡ MAX_NAMES → (length rest == 0) ≡ false → None ≡ names_in MAX_NAMES content
goes_full content names count rest h z some =
    let none : MAX_NAMES - count ≡ 0 = omega (arith, z) in
    sym (h ∙ ap (option_map (λ more. names ++ more)) (ap (λ n. names_in n rest) none ∙ names-full rest some))

pub goes_cut : (content : List ℕ) (names : List (List ℕ)) (count : ℕ) (rest : List ℕ) → Goes content names count rest → (length rest == 0) ≡ false → name_in rest ≡ None → None ≡ names_in MAX_NAMES content
goes_cut content names count rest h some e =
    sym (h ∙ ap (option_map (λ more. names ++ more)) (names-cut (MAX_NAMES - count) rest some e))

joined : (names : List (List ℕ)) (name : List ℕ) (o : Option (List (List ℕ))) → option_map (λ more. names ++ more) (option_map (λ more. name ∷ more) o) ≡ option_map (λ more. (names ++ name ∷ []) ++ more) o
joined names name None = refl
joined names name (Some more) = ap Some (sym (append_assoc names (name ∷ []) more))

pub goes_on : (content : List ℕ) (names next : List (List ℕ)) (count after : ℕ) (rest name behind : List ℕ) → Goes content names count rest → count < MAX_NAMES → name_in rest ≡ Some (name, behind)
    → next ≡ names ++ name ∷ [] → after ≡ count + 1 → Goes content next after behind
goes_on content names next count after rest name behind h few e is more =
    let left : MAX_NAMES - count ≡ suc (MAX_NAMES - after) = omega (arith, few, more) in
    h ∙ ap (option_map (λ more. names ++ more)) (ap (λ n. names_in n rest) left ∙ names-more (MAX_NAMES - after) rest name behind e)
    ∙ joined names name (names_in (MAX_NAMES - after) behind)
    ∙ ap (λ (ns : List (List ℕ)). option_map (λ more. ns ++ more) (names_in (MAX_NAMES - after) behind)) (sym is)

nothing_left : (rest : List ℕ) → (length rest == 0) ≡ true → rest ≡ []
nothing_left [] h = refl
nothing_left (b ∷ bs) h = absurd (grind (arith, nat_tests))

append_none : (names : List (List ℕ)) → names ++ [] ≡ names
append_none [] = refl
append_none (x ∷ xs) = ap (λ (ns : List (List ℕ)). x ∷ ns) (append_none xs)

pub goes_end : (content : List ℕ) (names : List (List ℕ)) (count : ℕ) (rest : List ℕ) → Goes content names count rest → (length rest == 0) ≡ true → Some names ≡ names_in MAX_NAMES content
goes_end content names count rest h none =
    sym (h ∙ ap (option_map (λ more. names ++ more)) (ap (names_in (MAX_NAMES - count)) (nothing_left rest none) ∙ names-none (MAX_NAMES - count)) ∙ ap Some (append_none names))

-- ---- a rule and its bytes

bit_again : (b : Bool) → bit_from (bit b) ≡ Some b
bit_again true = refl
bit_again false = refl

kind_again : (k : Kind) → kind_from (kind_number k) ≡ Some k
kind_again Text = refl
kind_again Noop = refl
kind_again Number = refl
kind_again Date = refl
kind_again Ipv4 = refl

pub rule_again : (rule : FieldRule) → rule_from (rule_bytes rule) ≡ Some rule
rule_again rule =
    ap (option_and_then (λ (k : Kind). option_and_then (λ (i : Bool). option_and_then (field_rule k i) (bit_from (bit rule.reversed))) (bit_from (bit rule.indexed)))) (kind_again rule.kind)
    ∙ ap (option_and_then (λ (i : Bool). option_and_then (field_rule rule.kind i) (bit_from (bit rule.reversed)))) (bit_again rule.indexed)
    ∙ ap (option_and_then (field_rule rule.kind rule.indexed)) (bit_again rule.reversed)
    ∙ sym (rule_found rule.kind rule.indexed rule.reversed rule.ruled)

bit_back : (n : ℕ) (b : Bool) → bit_from n ≡ Some b → n ≡ bit b
bit_back zero true e = cc
bit_back zero false e = refl
bit_back (suc zero) true e = refl
bit_back (suc zero) false e = cc
bit_back (suc (suc n)) b e = cc

some_same : {A : Type 0} {x y : A} → Some x ≡ Some y → x ≡ y
some_same e = cc

kind_back : (n : ℕ) (k : Kind) → kind_from n ≡ Some k → n ≡ kind_number k
kind_back zero k e = ap kind_number (some_same e)
kind_back (suc zero) k e = ap kind_number (some_same e)
kind_back (suc (suc zero)) k e = ap kind_number (some_same e)
kind_back (suc (suc (suc zero))) k e = ap kind_number (some_same e)
kind_back (suc (suc (suc (suc zero)))) k e = ap kind_number (some_same e)
kind_back (suc (suc (suc (suc (suc n))))) k e = cc

parts_of_rule : (kind : Kind) (indexed reversed : Bool) (rule : FieldRule) → field_rule kind indexed reversed ≡ Some rule → (kind ≡ rule.kind) × (indexed ≡ rule.indexed) × (reversed ≡ rule.reversed)
parts_of_rule kind true reversed rule e = let s = some_same e in (ap (λ (r : FieldRule). r.kind) s, ap (λ (r : FieldRule). r.indexed) s, ap (λ (r : FieldRule). r.reversed) s)
parts_of_rule kind false true rule e = cc
parts_of_rule kind false false rule e = let s = some_same e in (ap (λ (r : FieldRule). r.kind) s, ap (λ (r : FieldRule). r.indexed) s, ap (λ (r : FieldRule). r.reversed) s)

rule_back : (bytes : List ℕ) (rule : FieldRule) → rule_from bytes ≡ Some rule → bytes ≡ rule_bytes rule
rule_back [] rule e = cc
rule_back (k ∷ []) rule e = cc
rule_back (k ∷ i ∷ []) rule e = cc
rule_back (k ∷ i ∷ r ∷ []) rule e =
    let kind = and_then_some _ (kind_from k) rule e in
    let indexed = and_then_some _ (bit_from i) rule kind.2 in
    let reversed = and_then_some _ (bit_from r) rule indexed.2 in
    let parts = parts_of_rule kind.0 indexed.0 reversed.0 rule reversed.2 in
    let one : k ≡ kind_number rule.kind = kind_back k kind.0 kind.1 ∙ ap kind_number parts.0 in
    let two : i ≡ bit rule.indexed = bit_back i indexed.0 indexed.1 ∙ ap bit parts.1 in
    let three : r ≡ bit rule.reversed = bit_back r reversed.0 reversed.1 ∙ ap bit parts.2 in
    λ x. one x ∷ two x ∷ three x ∷ []
rule_back (k ∷ i ∷ r ∷ b ∷ bs) rule e = cc

pub rules_one : RulesHaveOneSpelling
rules_one rule bytes = (rule_back bytes rule, λ e. ap rule_from e ∙ rule_again rule)

-- ---- a number and its bytes

only_true : {A : Type 0} (b : Bool) (x : A) → b ≡ true → only_if b x ≡ Some x
only_true true x e = refl
only_true false x e = cc

in_range : (n : ℕ) → 1 ≤ n → n < 2 ^ 63 → (nat_le 1 n && nat_lt n (2 ^ 63)) ≡ true
in_range n a b = grind (arith, nat_tests)

pub number_again : (n : ℕ) → 1 ≤ n → n < 2 ^ 63 → number_from (commit_bytes n) ≡ Some n
number_again n a b =
    ap (λ m. only_if (nat_le 1 m && nat_lt m (2 ^ 63)) m) (from_be_bytes-to_be_bytes_8 n (omega arith))
    ∙ only_true (nat_le 1 n && nat_lt n (2 ^ 63)) n (in_range n a b)

record WasNumber (n : ℕ) (bytes : List ℕ) : Type 0 where
  pub size : length bytes ≡ 8
  pub low : 1 ≤ n
  pub high : n < 2 ^ 63

number_parts : (n size : ℕ) (bytes : List ℕ) → length bytes ≡ size → ((size == 8) && nat_le 1 n && nat_lt n (2 ^ 63)) ≡ true → WasNumber n bytes
number_parts n size bytes len h =
    let eight : size ≡ 8 = grind (arith, nat_tests) in
    let low : 1 ≤ n = grind (arith, nat_tests) in
    let high : n < 2 ^ 63 = grind (arith, nat_tests) in
    record { size = len ∙ eight; low = low; high = high }

number_back : (n : ℕ) (bytes : List ℕ) → AreBytes bytes → number_from bytes ≡ Some n → (1 ≤ n) × (n < 2 ^ 63) × (bytes ≡ commit_bytes n)
number_back n bytes fits e =
    let m = from_be_bytes w64 bytes in
    let parts : (((length bytes == 8) && nat_le 1 m && nat_lt m (2 ^ 63)) ≡ true) × (m ≡ n) = only_some _ m n e in
    let was : WasNumber m bytes = number_parts m (length bytes) bytes refl parts.0 in
    let P : ℕ → Type 0 = λ k. (1 ≤ k) × (k < 2 ^ 63) × (bytes ≡ commit_bytes k) in
    subst P parts.1 (was.low, was.high, sym (be_bytes_8 bytes m was.size (fits_at bytes fits) refl))

pub numbers_one : NumbersHaveOneSpelling
numbers_one n bytes fits = (number_back n bytes fits, λ h. ap number_from h.2 ∙ number_again n h.0 h.1)

-- ---- names and their bytes

abbrev IsGrantedName : List ℕ → Type 0
IsGrantedName name = (is_utf8 name && is_auth name) ≡ true

name_small : (name : List ℕ) → is_auth name ≡ true → length name < 2 ^ 16
name_small name h =
    let short : nat_le (length name) 512 ≡ true = right (nat_le 1 (length name)) (nat_le (length name) 512) (left (nat_le 1 (length name) && nat_le (length name) 512) _ h) in
    grind (arith, nat_tests)

within : (x rest : List ℕ) → nat_le (length x) (length (x ++ rest)) ≡ true
within x rest = let e = length-append x rest in grind (arith, nat_tests)

and_three : (a b c : Bool) → a ≡ true → (b && c) ≡ true → (a && b && c) ≡ true
and_three true b c e h = h
and_three false b c e h = cc

sized : (x rest : List ℕ) → IsGrantedName x → name_of_size (length x) (x ++ rest) ≡ Some (x, rest)
sized x rest h =
    let t : take (length x) (x ++ rest) ≡ x = take-append_seam x rest in
    let d : drop (length x) (x ++ rest) ≡ rest = drop-append_seam x rest in
    (λ i. only_if (nat_le (length x) (length (x ++ rest)) && is_utf8 (t i) && is_auth (t i)) (t i, d i))
    ∙ only_true (nat_le (length x) (length (x ++ rest)) && is_utf8 x && is_auth x) (x, rest) (and_three _ (is_utf8 x) (is_auth x) (within x rest) h)

name_again : (x rest : List ℕ) → IsGrantedName x → name_in (name_bytes x ++ rest) ≡ Some (x, rest)
name_again x rest h =
    ap (λ n. name_of_size n (x ++ rest)) (from_be_bytes-to_be_bytes_2 (length x) (name_small x (right (is_utf8 x) (is_auth x) h)))
    ∙ sized x rest h

names_again : (n : ℕ) (names : List (List ℕ)) → length names ≤ n → AllByRecursion IsGrantedName names → names_in n (names_bytes names) ≡ Some names
names_again n [] few all = names-none n
names_again zero (x ∷ xs) few all = absurd (omega arith)
names_again (suc n) (x ∷ xs) few all =
    names-more n (names_bytes (x ∷ xs)) x (names_bytes xs) (name_again x (names_bytes xs) all.0)
    ∙ ap (option_map (λ names. x ∷ names)) (names_again n xs (omega arith) all.1)

pub granted_again : (names : List (List ℕ)) → AreGranted names → names_from (names_bytes names) ≡ Some names
granted_again names h =
    ap (option_and_then (λ (ns : List (List ℕ)). only_if (ascend ns) ns)) (names_again MAX_NAMES names h.few h.each)
    ∙ only_true (ascend names) names (ascend-of names h.ascending)

record WasName (bytes name rest : List ℕ) : Type 0 where
  pub keeps : IsGrantedName name
  pub spelled : bytes ≡ name_bytes name ++ rest

three_parts : (a b c : Bool) → (a && b && c) ≡ true → (a ≡ true) × ((b && c) ≡ true)
three_parts true b c h = (refl, h)
three_parts false b c h = cc

taken_size : (n : ℕ) (bs : List ℕ) → nat_le n (length bs) ≡ true → length (take n bs) ≡ n
taken_size n bs h = let e = length-take n bs in grind (arith, nat_tests)

was_name : (bytes name rest : List ℕ) → AreBytes bytes → name_in bytes ≡ Some (name, rest) → WasName bytes name rest
was_name [] name rest fits e = cc
was_name (a ∷ []) name rest fits e = cc
was_name (a ∷ b ∷ bs) name rest fits e =
    let n = from_be_bytes w16 (a ∷ b ∷ []) in
    let parts : ((nat_le n (length bs) && is_utf8 (take n bs) && is_auth (take n bs)) ≡ true) × ((take n bs, drop n bs) ≡ (name, rest)) = only_some _ (take n bs, drop n bs) (name, rest) e in
    let tests = three_parts _ (is_utf8 (take n bs)) (is_auth (take n bs)) parts.0 in
    let head : to_be_bytes w16 n ≡ a ∷ b ∷ [] = be_bytes_2 (a ∷ b ∷ []) n refl (fits_at (a ∷ b ∷ []) (fits.0, (fits.1.0, tt))) refl in
    let len : length (take n bs) ≡ n = taken_size n bs tests.0 in
    let P : List ℕ × List ℕ → Type 0 = λ p. WasName (a ∷ b ∷ bs) p.0 p.1 in
    subst P parts.1 (record {
      keeps = tests.1;
      spelled =
          ap (λ xs. a ∷ b ∷ xs) (sym (take-append-drop n bs))
          ∙ ap (λ (h : List ℕ). h ++ (take n bs ++ drop n bs)) (sym head)
          ∙ ap (λ m. to_be_bytes w16 m ++ (take n bs ++ drop n bs)) (sym len)
          ∙ sym (append_assoc (to_be_bytes w16 (length (take n bs))) (take n bs) (drop n bs));
    })

some_bytes : (b : ℕ) (bs : List ℕ) → (length (b ∷ bs) == 0) ≡ false
some_bytes b bs = grind (arith, nat_tests)

record WereNames (n : ℕ) (bytes : List ℕ) (names : List (List ℕ)) : Type 0 where
  pub few : length names ≤ n
  pub each : AllByRecursion IsGrantedName names
  pub spelled : bytes ≡ names_bytes names

were_names : (n : ℕ) (bytes : List ℕ) (names : List (List ℕ)) → AreBytes bytes → names_in n bytes ≡ Some names → WereNames n bytes names
were_names n [] names fits e =
    let none : [] ≡ names = some_same (sym (names-none n) ∙ e) in
    subst (WereNames n []) none (record { few = omega arith; each = tt; spelled = refl })
were_names zero (b ∷ bs) names fits e = cc (e, names-full (b ∷ bs) (some_bytes b bs))
were_names (suc n) (b ∷ bs) names fits e = at (λ rest more f q. were_names n rest more f q) (name_in (b ∷ bs)) refl
  where
    at : ((rest : List ℕ) (more : List (List ℕ)) → AreBytes rest → names_in n rest ≡ Some more → WereNames n rest more) → (o : Option (List ℕ × List ℕ)) → name_in (b ∷ bs) ≡ o → WereNames (suc n) (b ∷ bs) names
    at further None q = cc (e, names-cut (suc n) (b ∷ bs) (some_bytes b bs) q)
    at further (Some p) q =
        let was : WasName (b ∷ bs) p.0 p.1 = was_name (b ∷ bs) p.0 p.1 fits q in
        let more = map_some (λ names. p.0 ∷ names) (names_in n p.1) names (sym (names-more n (b ∷ bs) p.0 p.1 q) ∙ e) in
        let behind : AreBytes p.1 = (AreBytes-parts (name_bytes p.0) p.1 (subst AreBytes was.spelled fits)).1 in
        let rest : WereNames n p.1 more.0 = further p.1 more.0 behind more.1 in
        subst (WereNames (suc n) (b ∷ bs)) more.2 (record {
          few = (let f = rest.few in omega (arith, f));
          each = (was.keeps, rest.each);
          spelled = was.spelled ∙ ap (λ xs. name_bytes p.0 ++ xs) rest.spelled;
        })

granted_back : (names : List (List ℕ)) (bytes : List ℕ) → AreBytes bytes → names_from bytes ≡ Some names → AreGranted names × (bytes ≡ names_bytes names)
granted_back names bytes fits e =
    let read = and_then_some _ (names_in MAX_NAMES bytes) names e in
    let parts : (ascend read.0 ≡ true) × (read.0 ≡ names) = only_some _ read.0 names read.2 in
    let were : WereNames MAX_NAMES bytes read.0 = were_names MAX_NAMES bytes read.0 fits read.1 in
    let P : List (List ℕ) → Type 0 = λ ns. AreGranted ns × (bytes ≡ names_bytes ns) in
    subst P parts.1 (record { few = were.few; each = were.each; ascending = is_ascending read.0 parts.0 }, were.spelled)

pub grants_one : GrantsHaveOneSpelling
grants_one names bytes fits = (granted_back names bytes fits, λ h. ap names_from h.1 ∙ granted_again names h.0)
