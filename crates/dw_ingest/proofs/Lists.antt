-- On lists of uids that grow.
use Rattle.std.proofs.Common.{◌≡◌, ◌≤◌, ◌<◌, ◌+◌, ℕ, Bool, true, false, nat_lt, cond, List, [], ◌∷◌, length, refl, arith}
use Rattle.std.specs.BTreeSet.{insert_key}
use Rattle.std.specs.Ordering.{match_ordering}
use Rattle.std.specs.declared.cmp.Ordering.{Ordering}
use Rattle.std.specs.declared.cmp.Ordering.TheVariants.{Less, Equal, Greater}
use Rattle.std.proofs.lemmas.Bool.Decides.{nat_tests}
use Rattle.std.specs.Prelude.{min}
use Rattle.dw_derive.specs.declared.uid_list.Form.{Form}
use Rattle.dw_derive.specs.declared.uid_list.UidList.{UidList}
use Rattle.dw_derive.specs.declared.uid_list.UidList.TheVariants.{Kept, Counted}
use Rattle.dw_derive.specs.UidLists.{uid_cmp, cap, largest_count, added, FitsForm}

length_with : (us : List (List ℕ)) (u : List ℕ) → length (insert_key uid_cmp us u) ≤ length us + 1
length_with [] u = omega arith
length_with (v ∷ us) u = at (uid_cmp u v) (length_with us u)
  where
    at : (o : Ordering) → length (insert_key uid_cmp us u) ≤ length us + 1 → length (match_ordering o (u ∷ v ∷ us) (v ∷ us) (v ∷ insert_key uid_cmp us u)) ≤ length (v ∷ us) + 1
    at Less h = omega arith
    at Equal h = omega arith
    at Greater h = omega arith

-- a list that grew keeps no more uids than its form does
pub added_fits : (form : Form) (list : UidList) (uid : List ℕ) → FitsForm form (added form list uid)
added_fits form (Kept uids) uid = at (nat_lt (length uids) (cap form)) refl (length_with uids uid)
  where
    below : nat_lt (length uids) (cap form) ≡ true → length uids < cap form
    below e = grind (arith, nat_tests)

    at : (b : Bool) → nat_lt (length uids) (cap form) ≡ b → length (insert_key uid_cmp uids uid) ≤ length uids + 1 → FitsForm form (cond b (Kept (insert_key uid_cmp uids uid)) (Counted (min (length uids + 1) largest_count)))
    at true e h = let l : length uids < cap form = below e in omega (arith, l, h)
    at false e h = tt
added_fits form (Counted n) uid = tt
