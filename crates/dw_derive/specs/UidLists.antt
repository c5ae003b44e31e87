-- Lists of uids, and their bytes.
use Rattle.std.specs.Prelude.{◌≡◌, ◌↔◌, ◌⊎◌, ⊤, MatchResult, ℕ, zero, suc, ◌+◌, ◌-◌, ◌*◌, ◌^◌, ◌<◌, ◌≤◌, Bool, true, ◌&&◌, not, nat_le, nat_lt, min, List, [], ◌∷◌, length, take, Result, Ok, Err, if◌then◌else◌}
use Rattle.std.specs.List.{AllByRecursion, flat_map}
use Rattle.std.specs.Simd.{first_chunks}
use Rattle.std.specs.Int.{w64, to_be_bytes, from_be_bytes}
use Rattle.std.specs.Ordering.{nat_cmp, is_lt}
use Rattle.std.specs.Cmp.Lexicographic.{slice_cmp}
use Rattle.std.specs.declared.cmp.Ordering.{Ordering}
use Rattle.dw_key.specs.KeyCode.{AreBytes}
use Rattle.dw_base.specs.Ascending.{IsAscending, with_item}
use Rattle.dw_derive.specs.declared.uid_list.Form.{Form}
use Rattle.dw_derive.specs.declared.uid_list.Form.TheVariants.{One, Two}
use Rattle.dw_derive.specs.declared.uid_list.UidList.{UidList}
use Rattle.dw_derive.specs.declared.uid_list.UidList.TheVariants.{Kept, Counted}
use Rattle.dw_derive.specs.declared.list_bytes.BadList.{BadList}
use Rattle.dw_derive.specs.declared.list_bytes.BadList.TheVariants.{Form as FormFault, Cut, Count, Order, Tail, OutOfMemory}

-- uids ascend as lists of unsigned bytes
abbrev pub uid_cmp : List ℕ → List ℕ → Ordering
uid_cmp = slice_cmp nat_cmp

-- how many uids a list of a form keeps
abbrev pub cap : Form → ℕ
cap One = 20
cap Two = 50

-- the largest count
abbrev pub largest_count : ℕ
largest_count = 2 ^ 64 - 1

-- the uids, where at most the form's cap are there, and else their number
abbrev pub list_of : Form → List (List ℕ) → UidList
list_of form uids = if nat_le (length uids) (cap form) then Kept uids else Counted (min (length uids) largest_count)

-- a list with one uid more: kept up to the form's cap, and then counted
abbrev pub added : Form → UidList → List ℕ → UidList
added form (Kept uids) uid = if nat_lt (length uids) (cap form) then Kept (with_item uid_cmp uids uid) else Counted (min (length uids + 1) largest_count)
added form (Counted n) uid = Counted (min (n + 1) largest_count)

-- ---- their bytes

abbrev pub form_byte : Form → ℕ
form_byte One = 1
form_byte Two = 2

-- the form; 0, how many uids follow and these, or 1 and the count in 8 bytes, the highest first
abbrev pub list_bytes : Form → UidList → List ℕ
list_bytes form (Kept uids) = form_byte form ∷ 0 ∷ length uids ∷ flat_map (λ uid. uid) uids
list_bytes form (Counted n) = form_byte form ∷ 1 ∷ to_be_bytes w64 n

-- a uid is 32 bytes
pub record IsUid (uid : List ℕ) : Type 0 where
  pub size : length uid ≡ 32
  pub are_bytes : AreBytes uid

-- a list keeps no more uids than the form does
abbrev pub FitsForm : Form → UidList → Type 0
FitsForm form (Kept uids) = length uids ≤ cap form
FitsForm form (Counted n) = ⊤

-- the ranges of a form: 1 uid up to its cap, ascending, or a count above its cap
abbrev pub IsListOf : Form → UidList → Type 0
IsListOf form (Kept uids) = (1 ≤ length uids) × (length uids ≤ cap form) × AllByRecursion IsUid uids × IsAscending uid_cmp uids
IsListOf form (Counted n) = (cap form < n) × (n ≤ largest_count)

-- ---- what bytes spell

-- so many texts of 32 bytes each from the front
abbrev pub chunks : ℕ → List ℕ → List (List ℕ)
chunks n bytes = first_chunks 32 n bytes

-- each uid is below the next one
abbrev pub ascend_from : List ℕ → List (List ℕ) → Bool
ascend_from uid [] = true
ascend_from uid (next ∷ uids) = is_lt (uid_cmp uid next) && ascend_from next uids

abbrev pub ascend : List (List ℕ) → Bool
ascend [] = true
ascend (uid ∷ uids) = ascend_from uid uids

-- n uids of 32 bytes and nothing behind them
abbrev pub kept_read : Form → ℕ → List ℕ → Result (Form × UidList) BadList
kept_read form n bytes =
    if not (nat_le 1 n && nat_le n (cap form)) then Err Count
    else if nat_lt (length bytes) (32 * n) then Err Cut
    else if not (ascend (chunks n bytes)) then Err Order
    else if nat_lt (32 * n) (length bytes) then Err Tail
    else Ok (form, Kept (chunks n bytes))

-- a count of 8 bytes and nothing behind it
abbrev pub counted_read : Form → List ℕ → Result (Form × UidList) BadList
counted_read form bytes =
    if nat_lt (length bytes) 8 then Err Cut
    else if not (nat_lt (cap form) (from_be_bytes w64 (take 8 bytes))) then Err Count
    else if nat_lt 8 (length bytes) then Err Tail
    else Ok (form, Counted (from_be_bytes w64 (take 8 bytes)))

-- what stands behind the byte of the form
abbrev pub body_read : Form → List ℕ → Result (Form × UidList) BadList
body_read form [] = Err FormFault
body_read form (zero ∷ []) = Err Cut
body_read form (zero ∷ n ∷ bytes) = kept_read form n bytes
body_read form (suc zero ∷ bytes) = counted_read form bytes
body_read form (suc (suc b) ∷ bytes) = Err FormFault

-- the list that bytes spell, and its form, or why they spell none
abbrev pub list_read : List ℕ → Result (Form × UidList) BadList
list_read [] = Err FormFault
list_read (zero ∷ bytes) = Err FormFault
list_read (suc zero ∷ bytes) = body_read One bytes
list_read (suc (suc zero) ∷ bytes) = body_read Two bytes
list_read (suc (suc (suc b)) ∷ bytes) = Err FormFault

-- a list that bytes spell is given, unless memory runs out
abbrev pub GivesTheList : List ℕ → Result (Form × UidList) BadList → Type 0
GivesTheList bytes result = (l : Form × UidList) → list_read bytes ≡ Ok l → (result ≡ Ok l) ⊎ (result ≡ Err OutOfMemory)

-- a result is what was read, unless memory runs out
abbrev pub ReadsAs : Result (Form × UidList) BadList → Result (Form × UidList) BadList → Type 0
ReadsAs read result = MatchResult read (λ l. (result ≡ Ok l) ⊎ (result ≡ Err OutOfMemory)) (λ e. result ≡ Err e)

-- bytes spell a list exactly where they are its bytes in that form, so that each list has one spelling a form
abbrev pub ListsHaveOneSpelling : Type 0
ListsHaveOneSpelling = (form : Form) (list : UidList) (bytes : List ℕ) → AreBytes bytes →
    (list_read bytes ≡ Ok (form, list)) ↔ (IsListOf form list × (bytes ≡ list_bytes form list))
