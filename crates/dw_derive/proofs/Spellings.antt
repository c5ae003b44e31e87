-- The bytes of a list are read back as that list, and no other bytes are.
use Rattle.std.proofs.Common.{◌≡◌, ℕ, zero, suc, ◌*◌, ◌≤◌, ◌<◌, true, List, [], ◌∷◌, ◌++◌, length, take, drop, get_or, Result, Ok, refl, sym, ap, ◌∙◌, subst, arith, lit<}
use Rattle.std.specs.List.{AllByRecursion, flat_map}
use Rattle.std.specs.Simd.{first_chunks}
use Rattle.std.specs.Int.{w64, to_be_bytes, from_be_bytes}
use Rattle.std.proofs.lemmas.Bool.Decides.{nat_tests}
use Rattle.std.proofs.lemmas.List.{take-append-drop, take_all, length-append, length-take, length-drop}
use Rattle.std.proofs.lemmas.Nat.{from_be_bytes-to_be_bytes_8, be_bytes_8}
use Rattle.dw_key.specs.KeyCode.{AreBytes}
use Rattle.dw_key.proofs.Escapes.{AreBytes-parts}
use Rattle.dw_derive.specs.declared.uid_list.Form.{Form}
use Rattle.dw_derive.specs.declared.uid_list.Form.TheVariants.{One, Two}
use Rattle.dw_derive.specs.declared.uid_list.UidList.{UidList}
use Rattle.dw_derive.specs.declared.uid_list.UidList.TheVariants.{Kept, Counted}
use Rattle.dw_derive.specs.declared.list_bytes.BadList.{BadList}
use Rattle.dw_derive.specs.UidLists.{cap, largest_count, ascend, form_byte, list_bytes, IsUid, IsListOf, kept_read, counted_read, body_read, list_read, ListsHaveOneSpelling}
use Rattle.dw_derive.proofs.UidListLemmas.{length-first_chunks, is_ascending, ascend-of, kept}

-- ---- uids one after another

length-joined : (uids : List (List ℕ)) → AllByRecursion IsUid uids → 32 * length uids ≡ length (flat_map (λ uid. uid) uids)
length-joined [] all = refl
length-joined (u ∷ us) all =
    let rest = length-joined us all.1 in
    let whole = length-append u (flat_map (λ uid. uid) us) in
    let size = all.0.size in
    omega (arith, rest, whole, size)

take-joined : (n : ℕ) (u more : List ℕ) → length u ≡ n → take n (u ++ more) ≡ u
take-joined n [] more len = rw (← len) refl
take-joined n (b ∷ u) more len = rw (← len) (ap (λ (t : List ℕ). b ∷ t) (take-joined (length u) u more refl))

drop-joined : (n : ℕ) (u more : List ℕ) → length u ≡ n → drop n (u ++ more) ≡ more
drop-joined n [] more len = rw (← len) refl
drop-joined n (b ∷ u) more len = rw (← len) (drop-joined (length u) u more refl)

chunks-joined : (uids : List (List ℕ)) → AllByRecursion IsUid uids → first_chunks 32 (length uids) (flat_map (λ uid. uid) uids) ≡ uids
chunks-joined [] all = refl
chunks-joined (u ∷ us) all =
    let more = flat_map (λ uid. uid) us in
    let front = take-joined 32 u more all.0.size in
    let back = drop-joined 32 u more all.0.size in
    (λ i. front i ∷ first_chunks 32 (length us) (back i)) ∙ ap (λ (l : List (List ℕ)). u ∷ l) (chunks-joined us all.1)

joined-chunks : (n : ℕ) (bytes : List ℕ) → 32 * n ≡ length bytes → flat_map (λ uid. uid) (first_chunks 32 n bytes) ≡ bytes
joined-chunks zero [] len = refl
joined-chunks zero (b ∷ bytes) len = absurd (omega (arith, len))
joined-chunks (suc n) bytes len =
    let short = length-drop 32 bytes in
    ap (λ (t : List ℕ). take 32 bytes ++ t) (joined-chunks n (drop 32 bytes) (omega (arith, len, short))) ∙ take-append-drop 32 bytes

uids-chunks : (n : ℕ) (bytes : List ℕ) → 32 * n ≡ length bytes → AreBytes bytes → AllByRecursion IsUid (first_chunks 32 n bytes)
uids-chunks zero bytes len fits = tt
uids-chunks (suc n) bytes len fits =
    let parts = AreBytes-parts (take 32 bytes) (drop 32 bytes) (subst AreBytes (sym (take-append-drop 32 bytes)) fits) in
    let short = length-drop 32 bytes in
    let size = length-take 32 bytes in
    (record { size = omega (arith, len, size); are_bytes = parts.0 }, uids-chunks n (drop 32 bytes) (omega (arith, len, short)) parts.1)

-- ---- from a list to its bytes and back

read-kept : (form : Form) (uids : List (List ℕ)) → IsListOf form (Kept uids) → kept_read form (length uids) (flat_map (λ uid. uid) uids) ≡ Ok (form, Kept uids)
read-kept form uids h =
    let again = chunks-joined uids h.2 in
    kept form (length uids) (flat_map (λ uid. uid) uids) h.0 h.1 (length-joined uids h.2) (ap ascend again ∙ ascend-of uids h.3)
    ∙ ap (λ (l : List (List ℕ)). Ok (form, Kept l)) again

pub counted : (form : Form) (bytes : List ℕ) → length bytes ≡ 8 → cap form < from_be_bytes w64 (take 8 bytes) → counted_read form bytes ≡ Ok (form, Counted (from_be_bytes w64 (take 8 bytes)))
counted form bytes size above = grind (arith, nat_tests)

read-counted : (form : Form) (n : ℕ) → IsListOf form (Counted n) → counted_read form (to_be_bytes w64 n) ≡ Ok (form, Counted n)
read-counted form n h =
    let again : from_be_bytes w64 (take 8 (to_be_bytes w64 n)) ≡ n = from_be_bytes-to_be_bytes_8 n (omega (arith, h.1)) in
    counted form (to_be_bytes w64 n) refl (omega (arith, h.0, again)) ∙ ap (λ (c : ℕ). Ok (form, Counted c)) again

-- the bytes of a list of a form are read as that list
pub list_read_back : (form : Form) (list : UidList) → IsListOf form list → list_read (list_bytes form list) ≡ Ok (form, list)
list_read_back One (Kept uids) h = read-kept One uids h
list_read_back One (Counted n) h = read-counted One n h
list_read_back Two (Kept uids) h = read-kept Two uids h
list_read_back Two (Counted n) h = read-counted Two n h

-- ---- from bytes to the list that they spell

-- what reading uids asks
record WasKept (form : Form) (n : ℕ) (bytes : List ℕ) (l : Form × UidList) : Type 0 where
  some : 1 ≤ n
  within : n ≤ cap form
  size : 32 * n ≡ length bytes
  sorted : ascend (first_chunks 32 n bytes) ≡ true
  same : l ≡ (form, Kept (first_chunks 32 n bytes))

ok_is : (read : Result (Form × UidList) BadList) (a b : Form × UidList) → read ≡ Ok a → read ≡ Ok b → b ≡ a
ok_is read a b e h = cc (e, h)

was_kept : (form : Form) (n : ℕ) (bytes : List ℕ) (l : Form × UidList) → kept_read form n bytes ≡ Ok l → WasKept form n bytes l
was_kept form n bytes l h =
    let some : 1 ≤ n = grind (arith, nat_tests) in
    let within : n ≤ cap form = grind (arith, nat_tests) in
    let sorted : ascend (first_chunks 32 n bytes) ≡ true = grind (arith, nat_tests) in
    let size : 32 * n ≡ length bytes = grind (arith, nat_tests) in
    record { some = some; within = within; size = size; sorted = sorted; same = ok_is _ _ _ (kept form n bytes some within size sorted) h }

record WasCounted (form : Form) (bytes : List ℕ) (l : Form × UidList) : Type 0 where
  above : cap form < from_be_bytes w64 (take 8 bytes)
  size : length bytes ≡ 8
  same : l ≡ (form, Counted (from_be_bytes w64 (take 8 bytes)))

was_counted : (form : Form) (bytes : List ℕ) (l : Form × UidList) → counted_read form bytes ≡ Ok l → WasCounted form bytes l
was_counted form bytes l h =
    let above : cap form < from_be_bytes w64 (take 8 bytes) = grind (arith, nat_tests) in
    let size : length bytes ≡ 8 = grind (arith, nat_tests) in
    record { above = above; size = size; same = ok_is _ _ _ (counted form bytes size above) h }

-- a list of the form, and its bytes behind the byte of the form
abbrev Spelled : Form → List ℕ → Form × UidList → Type 0
Spelled form bytes l = (l.0 ≡ form) × IsListOf form l.1 × (form_byte form ∷ bytes ≡ list_bytes form l.1)

spelled_kept : (form : Form) (n : ℕ) (bytes : List ℕ) (l : Form × UidList) → AreBytes bytes → kept_read form n bytes ≡ Ok l → Spelled form (0 ∷ n ∷ bytes) l
spelled_kept form n bytes l fits h =
    let w = was_kept form n bytes l h in
    let uids = first_chunks 32 n bytes in
    let many = length-first_chunks 32 n bytes in
    let whole : Spelled form (0 ∷ n ∷ bytes) (form, Kept uids) = (
      refl,
      (omega (arith, many, w.some), omega (arith, many, w.within), uids-chunks n bytes w.size fits, is_ascending uids w.sorted),
      λ i. form_byte form ∷ 0 ∷ sym many i ∷ sym (joined-chunks n bytes w.size) i,
    ) in
    subst (Spelled form (0 ∷ n ∷ bytes)) (sym w.same) whole

pub fits_at : (bytes : List ℕ) → AreBytes bytes → (i : ℕ) → get_or bytes i 0 < 256
fits_at [] fits i = lit< tt
fits_at (b ∷ bytes) fits zero = fits.0
fits_at (b ∷ bytes) fits (suc i) = fits_at bytes fits.1 i

spelled_counted : (form : Form) (bytes : List ℕ) (l : Form × UidList) → AreBytes bytes → counted_read form bytes ≡ Ok l → Spelled form (1 ∷ bytes) l
spelled_counted form bytes l fits h =
    let w = was_counted form bytes l h in
    let n = from_be_bytes w64 (take 8 bytes) in
    let size = w.size in
    let all : take 8 bytes ≡ bytes = take_all 8 bytes (omega (arith, size)) in
    let at : (i : ℕ) → get_or bytes i 0 < 256 = fits_at bytes fits in
    let same : n ≡ from_be_bytes w64 bytes = ap (from_be_bytes w64) all in
    let small : n ≤ largest_count = omega (arith, same, at 0, at 1, at 2, at 3, at 4, at 5, at 6, at 7) in
    let whole : Spelled form (1 ∷ bytes) (form, Counted n) = (refl, (w.above, small), λ i. form_byte form ∷ 1 ∷ sym (be_bytes_8 bytes n size at same) i) in
    subst (Spelled form (1 ∷ bytes)) (sym w.same) whole

spelled_body : (form : Form) (bytes : List ℕ) (l : Form × UidList) → AreBytes bytes → body_read form bytes ≡ Ok l → Spelled form bytes l
spelled_body form [] l fits h = cc h
spelled_body form (zero ∷ []) l fits h = cc h
spelled_body form (zero ∷ n ∷ bytes) l fits h = spelled_kept form n bytes l fits.1.1 h
spelled_body form (suc zero ∷ bytes) l fits h = spelled_counted form bytes l fits.1 h
spelled_body form (suc (suc b) ∷ bytes) l fits h = cc h

told : (form f : Form) (list : UidList) (bytes : List ℕ) → Spelled f bytes (form, list) → IsListOf form list × (form_byte f ∷ bytes ≡ list_bytes form list)
told form f list bytes h = rw h.0 (h.1, h.2)

spelled : (bytes : List ℕ) (form : Form) (list : UidList) → AreBytes bytes → list_read bytes ≡ Ok (form, list) → IsListOf form list × (bytes ≡ list_bytes form list)
spelled [] form list fits h = cc h
spelled (zero ∷ bytes) form list fits h = cc h
spelled (suc zero ∷ bytes) form list fits h = told form One list bytes (spelled_body One bytes (form, list) fits.1 h)
spelled (suc (suc zero) ∷ bytes) form list fits h = told form Two list bytes (spelled_body Two bytes (form, list) fits.1 h)
spelled (suc (suc (suc b)) ∷ bytes) form list fits h = cc h

pub one_spelling : ListsHaveOneSpelling
one_spelling form list bytes fits = (spelled bytes form list fits, λ h. rw h.1 (list_read_back form list h.0))
