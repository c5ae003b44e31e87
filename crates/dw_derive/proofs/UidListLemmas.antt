-- Lists of uids: that they ascend, and that their bytes are read back.
use Rattle.std.proofs.Common.{◌≡◌, ℕ, zero, suc, ◌+◌, ◌≤◌, ◌<◌, ◌*◌, Ok, Err, Bool, true, false, ◌&&◌, List, [], ◌∷◌, length, take, get_or, refl, sym, ap, ◌∙◌, arith}
use Rattle.std.proofs.lemmas.Bool.{and_parts}
use Rattle.std.specs.List.{AllByRecursion, IsAllAdjacentAnswer}
use Rattle.std.specs.Simd.{first_chunks}
use Rattle.std.specs.List.Sorted.{IsStrictlySortedBy}
use Rattle.std.specs.Ordering.{is_lt}
use Rattle.std.specs.declared.cmp.Ordering.{Ordering}
use Rattle.std.specs.declared.cmp.Ordering.TheVariants.{Less, Equal, Greater}
use Rattle.std.specs.Cmp.Lexicographic.{nat_list_cmp_total}
use Rattle.dw_base.specs.Ascending.{IsAscending}
use Rattle.std.proofs.lemmas.Bool.Decides.{nat_tests}
use Rattle.dw_derive.specs.declared.uid_list.Form.{Form}
use Rattle.dw_derive.specs.declared.uid_list.UidList.TheVariants.{Kept}
use Rattle.dw_derive.specs.declared.list_bytes.BadList.{BadList}
use Rattle.dw_derive.specs.declared.list_bytes.BadList.TheVariants.{Order, Tail}
use Rattle.dw_derive.specs.UidLists.{uid_cmp, cap, ascend_from, ascend, kept_read, ReadsAs}

-- the first chunks of more of them
pub take-first_chunks : (n k m : ℕ) (xs : List ℕ) → k ≤ m → take k (first_chunks n m xs) ≡ first_chunks n k xs
take-first_chunks n zero m xs within = refl
take-first_chunks n (suc k) zero xs within = absurd (omega arith)
take-first_chunks n (suc k) (suc m) xs within = ap (λ (l : List (List ℕ)). take n xs ∷ l) (take-first_chunks n k m _ (omega arith))

pub length-first_chunks : (n k : ℕ) (xs : List ℕ) → length (first_chunks n k xs) ≡ k
length-first_chunks n zero xs = refl
length-first_chunks n (suc k) xs = ap suc (length-first_chunks n k _)

less : (r : Ordering) → is_lt r ≡ true → r ≡ Less
less Less h = refl
less Equal h = cc h
less Greater h = cc h

-- the test at a place behind the first item
one_on : (u v : List ℕ) (us : List (List ℕ)) (k : ℕ) (d : List ℕ)
    → is_lt (uid_cmp (get_or (u ∷ v ∷ us) (suc k) d) (get_or (u ∷ v ∷ us) (suc k + 1) d)) ≡ is_lt (uid_cmp (get_or (v ∷ us) k d) (get_or (v ∷ us) (k + 1) d))
one_on u v us k d =
    let e : suc k + 1 ≡ suc (k + 1) = omega arith in
    ap (λ (n : ℕ). is_lt (uid_cmp (get_or (v ∷ us) k d) (get_or (u ∷ v ∷ us) n d))) e

-- each item is below the next
adjacent : (u : List ℕ) (us : List (List ℕ)) → ((k : ℕ) (d : List ℕ) → k + 1 < length (u ∷ us) → true ≡ is_lt (uid_cmp (get_or (u ∷ us) k d) (get_or (u ∷ us) (k + 1) d))) → ascend_from u us ≡ true
adjacent u [] h = refl
adjacent u (v ∷ us) h =
    (λ i. sym (h 0 u (omega arith)) i && ascend_from v us) ∙ adjacent v us (λ k d lt. h (suc k) d (omega arith) ∙ one_on u v us k d)

-- some item is not below the next
not_adjacent : (k : ℕ) (u : List ℕ) (us : List (List ℕ)) → k + 1 < length (u ∷ us) → ((d : List ℕ) → false ≡ is_lt (uid_cmp (get_or (u ∷ us) k d) (get_or (u ∷ us) (k + 1) d))) → ascend_from u us ≡ false
not_adjacent k u [] lt h = absurd (omega arith)
not_adjacent zero u (v ∷ us) lt h = λ i. sym (h u) i && ascend_from v us
not_adjacent (suc k) u (v ∷ us) lt h = and_false (is_lt (uid_cmp u v)) (ascend_from v us) (not_adjacent k v us (omega arith) (λ d. h d ∙ one_on u v us k d))
  where
    and_false : (a b : Bool) → b ≡ false → (a && b) ≡ false
    and_false true b h = h
    and_false false b h = refl

pub ascends : (uids : List (List ℕ)) (r : Bool) → IsAllAdjacentAnswer (λ x y b. b ≡ is_lt (uid_cmp x y)) uids r → r ≡ ascend uids
ascends [] true h = refl
ascends [] false h = absurd (omega (arith, h.1))
ascends (u ∷ us) true h = sym (adjacent u us h)
ascends (u ∷ us) false h = sym (not_adjacent h.0 u us h.1 h.2)

-- each uid is below the next, and so below all that follow
from_chain : (u : List ℕ) (us : List (List ℕ)) → ascend_from u us ≡ true → AllByRecursion (λ v. uid_cmp u v ≡ Less) us × IsAscending uid_cmp us
unfolding IsStrictlySortedBy
from_chain u [] h = (tt, tt)
from_chain u (v ∷ us) h =
    let parts = and_parts (is_lt (uid_cmp u v)) (ascend_from v us) h in
    let first : uid_cmp u v ≡ Less = less (uid_cmp u v) parts.0 in
    let rest = from_chain v us parts.1 in
    ((first, lower us rest.0 first), rest)
  where
    lower : (ws : List (List ℕ)) → AllByRecursion (λ w. uid_cmp v w ≡ Less) ws → uid_cmp u v ≡ Less → AllByRecursion (λ w. uid_cmp u w ≡ Less) ws
    lower [] all e = tt
    lower (w ∷ ws) all e = (nat_list_cmp_total.trans u v w e all.0, lower ws all.1 e)

pub is_ascending : (uids : List (List ℕ)) → ascend uids ≡ true → IsAscending uid_cmp uids
unfolding IsStrictlySortedBy
is_ascending [] h = tt
is_ascending (u ∷ us) h = from_chain u us h

chain_of : (u : List ℕ) (us : List (List ℕ)) → AllByRecursion (λ v. uid_cmp u v ≡ Less) us → IsAscending uid_cmp us → ascend_from u us ≡ true
unfolding IsStrictlySortedBy
chain_of u [] below up = refl
chain_of u (v ∷ us) below up = (λ i. is_lt (below.0 i) && ascend_from v us) ∙ chain_of v us up.0 up.1

pub ascend-of : (uids : List (List ℕ)) → IsAscending uid_cmp uids → ascend uids ≡ true
unfolding IsStrictlySortedBy
ascend-of [] up = refl
ascend-of (u ∷ us) up = chain_of u us up.0 up.1

-- ---- what reading so many uids comes to, cause by cause

reads_none : (form : Form) (n : ℕ) (bytes : List ℕ) (e : BadList) → kept_read form n bytes ≡ Err e → ReadsAs (kept_read form n bytes) (Err e)
reads_none form n bytes e is = rw is refl

-- in range, long enough, and out of order
pub out_of_order : (form : Form) (n : ℕ) (bytes : List ℕ) → 1 ≤ n → n ≤ cap form → 32 * n ≤ length bytes → ascend (first_chunks 32 n bytes) ≡ false → kept_read form n bytes ≡ Err Order
out_of_order form n bytes some within long unsorted = grind (arith, nat_tests)

-- in order, with bytes behind
pub with_tail : (form : Form) (n : ℕ) (bytes : List ℕ) → 1 ≤ n → n ≤ cap form → 32 * n < length bytes → ascend (first_chunks 32 n bytes) ≡ true → kept_read form n bytes ≡ Err Tail
with_tail form n bytes some within long sorted = grind (arith, nat_tests)

-- a list
pub kept : (form : Form) (n : ℕ) (bytes : List ℕ) → 1 ≤ n → n ≤ cap form → 32 * n ≡ length bytes → ascend (first_chunks 32 n bytes) ≡ true → kept_read form n bytes ≡ Ok (form, Kept (first_chunks 32 n bytes))
kept form n bytes some within long sorted = grind (arith, nat_tests)
