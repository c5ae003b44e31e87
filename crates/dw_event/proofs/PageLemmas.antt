-- The pages of an answer are together the answer.
use Rattle.std.proofs.Common.{◌≡◌, ◌≤◌, ◌+◌, ◌-◌, ◌*◌, ◌++◌, [], ℕ, zero, suc, List, length, take, drop, refl, sym, ap, ◌∙◌, subst, arith}
use native.Mathlib.Nat.{suc-mul}
use Rattle.std.proofs.lemmas.Bool.{ltb-false}
use Rattle.std.proofs.lemmas.List.{take_all}
use Rattle.std.proofs.Math.Seq.{take-add}
use Rattle.dw_event.specs.declared.reports.Shown.{Shown}
use Rattle.dw_event.specs.Pages.{page_items, page_start, pages, PagesAreTheAnswer}

starts_at : (size k : ℕ) → page_start size (suc k) ≡ k * size
starts_at size k = let before : suc k - 1 ≡ k = omega arith in ap (λ n. n * size) before

no_pages : (size : ℕ) → 0 * size ≡ 0
no_pages size = omega arith

pages_front : (all : List Shown) (size k : ℕ) → pages all size k ≡ take (k * size) all
pages_front all size zero = sym (ap (λ n. take n all) (no_pages size))
pages_front all size (suc k) =
    ap (λ xs. xs ++ page_items all size (suc k)) (pages_front all size k)
    ∙ ap (λ s. take (k * size) all ++ take size (drop s all)) (starts_at size k)
    ∙ sym (take-add (k * size) size all)
    ∙ sym (ap (λ n. take n all) (suc-mul k size))

pub pages_are_the_answer : PagesAreTheAnswer
pages_are_the_answer all size k e =
    let whole : page_start size (suc k) + size ≡ suc k * size = ap (λ s. s + size) (starts_at size k) ∙ sym (suc-mul k size) in
    let few : length all ≤ suc k * size = subst (λ (n : ℕ). length all ≤ n) whole (ltb-false (page_start size (suc k) + size) (length all) e) in
    pages_front all size (suc k) ∙ take_all (suc k * size) all few
