-- The pages of an answer.
use Rattle.std.specs.Prelude.{◌≡◌, ℕ, zero, suc, ◌+◌, ◌*◌, ◌-◌, Bool, false, nat_lt, List, [], ◌++◌, take, drop, length}
use Rattle.dw_event.specs.declared.reports.Shown.{Shown}

-- how many events of an answer stand before page k, counted from 1
abbrev pub page_start : ℕ → ℕ → ℕ
page_start size k = (k - 1) * size

-- page k of an answer
abbrev pub page_items : List Shown → ℕ → ℕ → List Shown
page_items all size k = take size (drop (page_start size k) all)

-- an event stands after page k
abbrev pub has_more : List Shown → ℕ → ℕ → Bool
has_more all size k = nat_lt (page_start size k + size) (length all)

-- the first k pages of an answer, one after another
abbrev pub pages : List Shown → ℕ → ℕ → List Shown
pages all size zero = []
pages all size (suc k) = pages all size k ++ page_items all size (suc k)

-- the pages up to one behind which no event stands are together the answer
abbrev pub PagesAreTheAnswer : Type 0
PagesAreTheAnswer = (all : List Shown) (size k : ℕ) → has_more all size (suc k) ≡ false → pages all size (suc k) ≡ all
