-- Where a run ends.
use Rattle.std.proofs.Common.{◌≡◌, ◌≢◌, ℕ, ◌-◌, List, [], ◌∷◌, ◌++◌, refl, sym, ap, ◌∙◌, Bool, true, false, not, cond, ◌&&◌, length, arith, zero, suc}
use Rattle.std.specs.Prelude.{◌==◌, Option, Some, None, slice_get}
use Rattle.dw_tablet.specs.Places.{after_last, run_end}

-- behind the last key of a run
pub after_is_last : (end : List ℕ) (run : List (List ℕ)) (key : List ℕ) → slice_get run (length run - 1) ≡ Some key → after_last end run ≡ key ++ 0 ∷ []
after_is_last end [] key h = cc
after_is_last end (k ∷ []) key h = ap (λ o. behind o) h
  where
    behind : Option (List ℕ) → List ℕ
    behind None = []
    behind (Some x) = x ++ 0 ∷ []
after_is_last end (k ∷ j ∷ run) key h =
    let one_less : length (k ∷ j ∷ run) - 1 ≡ suc (length (j ∷ run) - 1) = omega arith in
    after_is_last (k ++ 0 ∷ []) (j ∷ run) key (sym (ap (λ i. slice_get (k ∷ j ∷ run) i) one_less) ∙ h)

-- where so many keys came
pub run_end_cut : (end : List ℕ) (limit : ℕ) (run : List (List ℕ)) (key : List ℕ) → limit ≢ 0 → length run ≡ limit → slice_get run (length run - 1) ≡ Some key → key ++ 0 ∷ [] ≡ run_end end limit run
run_end_cut end limit run key h k l =
    sym (ap (λ b. cond (not b && (length run == limit)) (after_last end run) end) (no_match h)
    ∙ ap (λ b. cond b (after_last end run) end) (a_match k)
    ∙ after_is_last end run key l)
  where
    no_match : limit ≢ 0 → (limit == 0) ≡ false
    no_match g = grind (arith, g)

    a_match : length run ≡ limit → (length run == limit) ≡ true
    a_match e = grind (arith, e)
