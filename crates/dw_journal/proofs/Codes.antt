-- Bytes that spell numbers, texts and puts are read in one way.
use Rattle.std.proofs.Common.{◌≡◌, ℕ, ◌+◌, ◌^◌, ◌<◌, ◌≤◌, List, [], ◌∷◌, ◌++◌, length, take, drop, refl, sym, ◌∙◌, ap, subst, arith, append_assoc, length-append}
use Rattle.std.specs.Int.{w64, to_be_bytes, from_be_bytes}
use Rattle.std.proofs.lemmas.Nat.{from_be_bytes-to_be_bytes_8}
use Rattle.std.proofs.lemmas.List.{take_at, drop_at, append-nil}
use Rattle.dw_outside.specs.declared.cell.Put.{Put}
use Rattle.dw_outside.specs.Disks.{Each}
use Rattle.dw_journal.specs.Frames.{number, text_bytes, put_bytes, puts_bytes, body_of, frame_of, IsBatch}

pub split_append : (a b xs ys : List ℕ) → length a ≡ length b → a ++ xs ≡ b ++ ys → (a ≡ b) × (xs ≡ ys)
split_append a b xs ys same is = (
  sym (take_at a xs (length a) refl) ∙ ap (take (length a)) is ∙ take_at b ys (length a) (sym same),
  sym (drop_at a xs (length a) refl) ∙ ap (drop (length a)) is ∙ drop_at b ys (length a) (sym same),
)

number-inj : (m n : ℕ) → m < 2 ^ 64 → n < 2 ^ 64 → number m ≡ number n → m ≡ n
number-inj m n small too is = sym (from_be_bytes-to_be_bytes_8 m small) ∙ ap (from_be_bytes w64) is ∙ from_be_bytes-to_be_bytes_8 n too

pub number_split : (m n : ℕ) (xs ys : List ℕ) → m < 2 ^ 64 → n < 2 ^ 64 → number m ++ xs ≡ number n ++ ys → (m ≡ n) × (xs ≡ ys)
number_split m n xs ys small too is =
    let parts = split_append (number m) (number n) xs ys refl is in
    (number-inj m n small too parts.0, parts.1)

pub text_split : (t u xs ys : List ℕ) → length t < 2 ^ 64 → length u < 2 ^ 64 → text_bytes t ++ xs ≡ text_bytes u ++ ys → (t ≡ u) × (xs ≡ ys)
text_split t u xs ys small too is =
    let parts = number_split (length t) (length u) (t ++ xs) (u ++ ys) small too (sym (append_assoc (number (length t)) t xs) ∙ is ∙ append_assoc (number (length u)) u ys) in
    split_append t u xs ys parts.0 parts.1

-- a put whose texts can be counted
pub record IsFit (p : Put) : Type 0 where
  pub key : length p.key < 2 ^ 64
  pub content : length p.content < 2 ^ 64

abbrev pub head : List ℕ → ℕ
head [] = 0
head (x ∷ xs) = x

put_same : (p q : Put) → p.table ≡ q.table → p.key ≡ q.key → p.content ≡ q.content → p ≡ q
put_same p q table key content =
    ap (λ (t : ℕ). record { table = t; key = p.key; content = p.content }) table
    ∙ ap (λ (k : List ℕ). record { table = q.table; key = k; content = p.content }) key
    ∙ ap (λ (c : List ℕ). record { table = q.table; key = q.key; content = c }) content

pub put_split : (p q : Put) (xs ys : List ℕ) → IsFit p → IsFit q → put_bytes p ++ xs ≡ put_bytes q ++ ys → (p ≡ q) × (xs ≡ ys)
put_split p q xs ys fit too is =
    let rest = sym (append_assoc (text_bytes p.key) (text_bytes p.content) xs) ∙ ap (drop 1) is ∙ append_assoc (text_bytes q.key) (text_bytes q.content) ys in
    let keys = text_split p.key q.key (text_bytes p.content ++ xs) (text_bytes q.content ++ ys) fit.key too.key rest in
    let contents = text_split p.content q.content xs ys fit.content too.content keys.1 in
    (put_same p q (ap head is) keys.0 contents.0, contents.1)

-- a put has no other content
pub no_content : (bytes key rest : List ℕ) (p : Put) (more : List ℕ) → length key < 2 ^ 64 → length p.key < 2 ^ 64 → drop 1 bytes ≡ text_bytes key ++ rest → bytes ≡ put_bytes p ++ more → rest ≡ text_bytes p.content ++ more
no_content bytes key rest p more small fit split is =
    (text_split key p.key rest (text_bytes p.content ++ more) small fit (sym split ∙ ap (drop 1) is ∙ append_assoc (text_bytes p.key) (text_bytes p.content) more)).1

pub text_length : (text : List ℕ) → length (text_bytes text) ≡ 8 + length text
text_length text = length-append (number (length text)) text

put_length : (p : Put) → length (put_bytes p) ≡ 17 + length p.key + length p.content
put_length p = omega (arith, length-append (text_bytes p.key) (text_bytes p.content), text_length p.key, text_length p.content)

-- puts whose bytes can be counted can be counted, and each of their texts
pub puts_fit : (puts : List Put) → length (puts_bytes puts) < 2 ^ 64 → Each IsFit puts
puts_fit [] small = tt
puts_fit (p ∷ puts) small =
    let size = length-append (put_bytes p) (puts_bytes puts) in
    (record { key = omega (arith, size, put_length p, small); content = omega (arith, size, put_length p, small) }, puts_fit puts (omega (arith, size, small)))

pub puts_count : (puts : List Put) → length puts ≤ length (puts_bytes puts)
puts_count [] = omega arith
puts_count (p ∷ puts) = omega (arith, length-append (put_bytes p) (puts_bytes puts), put_length p, puts_count puts)

pub body_length : (puts : List Put) → length (body_of puts) ≡ 8 + length (puts_bytes puts)
body_length puts = length-append (number (length puts)) (puts_bytes puts)

pub puts_more : (puts : List Put) (p : Put) → puts_bytes (puts ++ p ∷ []) ≡ puts_bytes puts ++ put_bytes p
puts_more [] p = append-nil (put_bytes p)
puts_more (q ∷ puts) p = ap (λ (l : List ℕ). put_bytes q ++ l) (puts_more puts p) ∙ sym (append_assoc (put_bytes q) (puts_bytes puts) (put_bytes p))

puts_split : (ps qs : List Put) → Each IsFit ps → Each IsFit qs → length ps ≡ length qs → puts_bytes ps ≡ puts_bytes qs → ps ≡ qs
puts_split [] [] fit too count is = refl
puts_split [] (q ∷ qs) fit too count is = absurd (omega (arith, count))
puts_split (p ∷ ps) [] fit too count is = absurd (omega (arith, count))
puts_split (p ∷ ps) (q ∷ qs) fit too count is =
    let parts = put_split p q (puts_bytes ps) (puts_bytes qs) fit.0 too.0 is in
    ap (λ (r : Put). r ∷ ps) parts.0 ∙ ap (λ (rs : List Put). q ∷ rs) (puts_split ps qs fit.1 too.1 (omega (arith, count)) parts.1)

-- one body spells one batch
pub body_split : (ps qs : List Put) → IsBatch ps → IsBatch qs → body_of ps ≡ body_of qs → ps ≡ qs
body_split ps qs lawful too is =
    let small : length (puts_bytes ps) < 2 ^ 64 = omega (arith, lawful.small, body_length ps) in
    let also : length (puts_bytes qs) < 2 ^ 64 = omega (arith, too.small, body_length qs) in
    let parts = number_split (length ps) (length qs) (puts_bytes ps) (puts_bytes qs) (omega (arith, small, puts_count ps)) (omega (arith, also, puts_count qs)) is in
    puts_split ps qs (puts_fit ps small) (puts_fit qs also) parts.0 parts.1

-- one start of a file spells one frame
pub frame_split : (ps qs : List Put) (xs ys : List ℕ) → IsBatch ps → IsBatch qs → frame_of ps ++ xs ≡ frame_of qs ++ ys → (ps ≡ qs) × (xs ≡ ys)
frame_split ps qs xs ys lawful too is =
    let parts = text_split (body_of ps) (body_of qs) xs ys lawful.small too.small is in
    (body_split ps qs lawful too parts.0, parts.1)
