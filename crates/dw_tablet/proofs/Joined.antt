-- Places by their pieces.
use Rattle.std.proofs.Common.{◌≡◌, ℕ, ◌<◌, List, [], ◌∷◌, ◌++◌, refl, sym, ap, ◌∙◌, Bool, true, false, length, drop, get_or, arith, zero, suc}
use Rattle.std.specs.Prelude.{Result, Ok, Err, IsOk, OnOk}
use Rattle.std.specs.Ordering.{nat_cmp, is_lt, is_gt, ordering_reverse}
use Rattle.std.specs.Cmp.Lexicographic.{slice_cmp, nat_list_cmp_total}
use Rattle.std.specs.declared.cmp.Ordering.{Ordering}
use Rattle.std.specs.declared.cmp.Ordering.TheVariants.{Less, Equal, Greater}
use Rattle.dw_key.specs.KeyCode.{escaped, part_code}
use Rattle.dw_key.proofs.Escapes.{escaped-append}
use Rattle.dw_derive.specs.Entries.{zero_joined, field_index}
use Rattle.dw_tablet.specs.declared.position.DocSpot.{DocSpot}
use Rattle.dw_tablet.specs.Places.{below}
use Rattle.dw_tablet.specs.Positions.{entry_place, index_bytes, ended, spot_text, document_front, last_byte, field_start}
use Rattle.dw_tablet.specs.Positions as positions

-- a place that ends within the bytes
pub longer : (bytes rest x : List ℕ) (i : ℕ) → i < length bytes → length rest ≡ 0 → slice_cmp nat_cmp (drop i bytes ++ x) rest ≡ Greater
longer [] rest x i h e = absurd (omega (arith, h))
longer (b ∷ bytes) [] x zero h e = refl
longer (b ∷ bytes) (c ∷ rest) x zero h e = absurd (omega (arith, e))
longer (b ∷ bytes) rest x (suc i) h e = longer bytes rest x i (omega (arith, h)) e

escaped_front : (b : ℕ) (more x : List ℕ) → escaped (b ∷ more) ++ x ≡ escaped (b ∷ []) ++ (escaped more ++ x)
escaped_front zero more x = refl
escaped_front (suc b) more x = refl

-- a byte that parts a text from a place decides
pub stop : (text : List ℕ) (i : ℕ) (rest x : List ℕ) (o : Ordering) → i < length text → ((y : List ℕ) → slice_cmp nat_cmp (escaped (get_or text i 0 ∷ []) ++ y) rest ≡ o)
    → slice_cmp nat_cmp (escaped (drop i text) ++ x) rest ≡ o
stop [] i rest x o h k = absurd (omega (arith, h))
stop (c ∷ text) zero rest x o h k = ap (λ t. slice_cmp nat_cmp t rest) (escaped_front c text x) ∙ k (escaped text ++ x)
stop (c ∷ text) (suc i) rest x o h k = stop text i rest x o (omega (arith, h)) k

-- the order the other way about
pub turned : (a b : List ℕ) → is_gt (slice_cmp nat_cmp a b) ≡ below b a
turned a b = at (slice_cmp nat_cmp a b) ∙ ap is_lt (sym (nat_list_cmp_total.antisymm b a))
  where
    at : (o : Ordering) → is_gt o ≡ is_lt (ordering_reverse o)
    at Less = refl
    at Equal = refl
    at Greater = refl

pub joined_on : (xs ys zs : List ℕ) → (xs ++ ys) ++ zs ≡ xs ++ (ys ++ zs)
joined_on [] ys zs = refl
joined_on (x ∷ xs) ys zs = ap (λ l. x ∷ l) (joined_on xs ys zs)

-- a text of a document key, escaped
pub doc_escaped : (dtype digits x : List ℕ) → escaped (zero_joined dtype digits) ++ x ≡ escaped dtype ++ (0 ∷ 255 ∷ (escaped digits ++ x))
doc_escaped dtype digits x = ap (λ l. l ++ x) (escaped-append dtype (0 ∷ digits)) ∙ joined_on (escaped dtype) (escaped (0 ∷ digits)) x

-- the pieces of a field's first place, and what is behind it
pub field_pieces : (shard field x : List ℕ) → field_start shard field ++ x ≡ escaped shard ++ (index_bytes ++ (escaped field ++ (ended ++ x)))
field_pieces shard field x =
    let row = part_code shard in
    let family = escaped (zero_joined field_index field) in
    joined_on (row ++ (family ++ 0 ∷ [])) (0 ∷ []) x
    ∙ (joined_on row (family ++ 0 ∷ []) (0 ∷ x)
    ∙ (ap (λ l. row ++ l) (joined_on family (0 ∷ []) (0 ∷ x))
    ∙ joined_on (escaped shard) (0 ∷ 0 ∷ []) (family ++ (0 ∷ 0 ∷ x))))

pub entry_is : (shard field value : List ℕ) (spot : DocSpot) (past : Bool) → escaped shard ++ (index_bytes ++ (escaped field ++ (ended ++ (escaped value ++ (positions.zero ++ (escaped spot.dtype ++ (positions.zero ++ (escaped spot.digits ++ (0 ∷ last_byte past ∷ [])))))))))
    ≡ entry_place shard field value (spot_text spot) (last_byte past)
entry_is shard field value spot past =
    let front = field_start shard field in
    let text = escaped value in
    let end = 0 ∷ last_byte past ∷ [] in
    let doc = escaped (spot_text spot) ++ end in
    sym (joined_on front (text ++ 0 ∷ 255 ∷ []) doc
    ∙ (ap (λ l. front ++ l) (joined_on text (0 ∷ 255 ∷ []) doc)
    ∙ (ap (λ l. front ++ (text ++ (0 ∷ 255 ∷ l))) (doc_escaped spot.dtype spot.digits end)
    ∙ field_pieces shard field (text ++ (0 ∷ 255 ∷ (escaped spot.dtype ++ (0 ∷ 255 ∷ (escaped spot.digits ++ end))))))))

pub document_is : (shard : List ℕ) (spot : DocSpot) (last : ℕ) → escaped shard ++ (ended ++ (escaped spot.dtype ++ (positions.zero ++ (escaped spot.digits ++ (0 ∷ last ∷ []))))) ≡ document_front shard (spot_text spot) ++ last ∷ []
document_is shard spot last =
    let row = part_code shard in
    let doc = escaped (spot_text spot) in
    sym (joined_on row (doc ++ 0 ∷ []) (last ∷ [])
    ∙ (ap (λ l. row ++ l) (joined_on doc (0 ∷ []) (last ∷ []) ∙ doc_escaped spot.dtype spot.digits (0 ∷ last ∷ []))
    ∙ joined_on (escaped shard) (0 ∷ 0 ∷ []) (escaped spot.dtype ++ (0 ∷ 255 ∷ (escaped spot.digits ++ (0 ∷ last ∷ []))))))

-- what holds where a call succeeds, where it does
pub holds_on_ok : {A E P : Type 0} (r : Result A E) → IsOk r → OnOk r P → P
holds_on_ok (Ok a) h k = k
holds_on_ok (Err e) h k = absurd (clash h)
  where
    clash : false ≡ true → ⊥
    clash g = cc
