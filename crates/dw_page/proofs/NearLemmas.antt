-- How far a page reads: the first event after the page is of a shard that is open or waits, and no more are open than there are workers.
use Rattle.std.proofs.Common.{ℕ, zero, suc, ◌≡◌, ◌≤◌, ◌<◌, ◌+◌, ◌-◌, ◌++◌, ◌∷◌, ◌||◌, [], List, true, false, cond, length, drop, get_or, set, map, filter, refl, ap, sym, subst, ◌∙◌, append_assoc, length-append, arith}
use Rattle.std.specs.List.{flat_map, AllByRecursion}
use Rattle.std.specs.List.Sorted.{IsStrictlySortedBy}
use Rattle.std.specs.Ordering.{nat_cmp, is_lt}
use Rattle.std.specs.Cmp.Lexicographic.{slice_cmp}
use Rattle.std.specs.declared.cmp.Ordering.TheVariants.{Less}
use Rattle.std.proofs.lemmas.List.{length-map, length-drop, drop-drop, drop_at, map-append}
use Rattle.std.proofs.lemmas.List.Elements.{All-head, All-tail}
use Rattle.std.proofs.lemmas.List.Folds.{list_any-append}
use Rattle.std.proofs.lemmas.Map.Keys.{sorted_head, sorted_tail}
use Rattle.dw_event.specs.declared.reports.Shown.{Shown}
use Rattle.dw_event.specs.Texts.{is_same}
use Rattle.dw_derive.specs.World.{World}
use Rattle.dw_derive.proofs.Given.{all_append}
use Rattle.dw_derive.proofs.WholeWorlds.{all_weaker}
use Rattle.dw_plan.specs.Joins.{has}
use Rattle.dw_plan.proofs.Named.{same_itself, or_right}
use Rattle.dw_scan.specs.declared.ask.Ask.{Ask}
use Rattle.dw_scan.specs.declared.ask.Resume.{Resume}
use Rattle.dw_page.specs.declared.slot.Slot.{Slot}
use Rattle.dw_page.specs.declared.gather.Gather.{Gather}
use Rattle.dw_page.specs.declared.walk.Walk.{Walk}
use Rattle.dw_page.specs.Good.{Good}
use Rattle.dw_page.specs.Joined.{Joined}
use Rattle.dw_page.specs.Placed.{IsOf, SlotGood, SlotsGood}
use Rattle.dw_page.specs.Reads.{count_before}
use Rattle.dw_page.specs.Remains.{left, slot_rest, remains, shards_of, open_shards, AreLast}
use Rattle.dw_page.proofs.CutLemmas.{all_has}
use Rattle.dw_page.proofs.RemainsLemmas.{left_own}

abbrev slot_shards : List Slot → List (List ℕ)
slot_shards slots = map (λ (s : Slot). s.resume.shard) slots

-- an event is of one of some shards
abbrev IsAmong : List (List ℕ) → Shown → Type 0
IsAmong shards x = has shards x.shard ≡ true

among_more : (k : List ℕ) (shards : List (List ℕ)) (x : Shown) → IsAmong shards x → IsAmong (k ∷ shards) x
among_more k shards x h = or_right (is_same x.shard k) (has shards x.shard) h

among_first : (k : List ℕ) (shards : List (List ℕ)) (x : Shown) → x.shard ≡ k → IsAmong (k ∷ shards) x
among_first k shards x e = ap (λ b. b || has shards x.shard) (same_itself x.shard k e)

from_slots : (ask : Ask) (w : World) (slots : List Slot) → SlotsGood ask w slots → AllByRecursion (IsAmong (slot_shards slots)) (flat_map (slot_rest ask w) slots)
from_slots ask w [] a = tt
from_slots ask w (s ∷ slots) a =
    let k = s.resume.shard in
    let others = slot_shards slots in
    all_append (IsAmong (k ∷ others)) (slot_rest ask w s) (flat_map (slot_rest ask w) slots)
    (all_weaker (IsOf k) (IsAmong (k ∷ others)) (among_first k others) (slot_rest ask w s) (All-head (SlotGood ask w) s slots a).own)
    (all_weaker (IsAmong others) (IsAmong (k ∷ others)) (among_more k others) (flat_map (slot_rest ask w) slots) (from_slots ask w slots (All-tail (SlotGood ask w) s slots a)))

from_waiting : (ask : Ask) (w : World) (waiting : List Resume) → AllByRecursion (IsAmong (shards_of waiting)) (flat_map (left ask w) waiting)
from_waiting ask w [] = tt
from_waiting ask w (r ∷ waiting) =
    let others = shards_of waiting in
    all_append (IsAmong (r.shard ∷ others)) (left ask w r) (flat_map (left ask w) waiting)
    (all_weaker (IsOf r.shard) (IsAmong (r.shard ∷ others)) (among_first r.shard others) (left ask w r) (left_own ask w r))
    (all_weaker (IsAmong others) (IsAmong (r.shard ∷ others)) (among_more r.shard others) (flat_map (left ask w) waiting) (from_waiting ask w waiting))

-- what remains is of the shards that are open or wait
all_open : (ask : Ask) (w : World) (slots : List Slot) (waiting : List Resume) → SlotsGood ask w slots → AllByRecursion (IsAmong (open_shards slots waiting)) (remains ask w slots waiting)
all_open ask w slots waiting a =
    let P = IsAmong (open_shards slots waiting) in
    let first = slot_shards slots in
    let others = shards_of waiting in
    all_append P (flat_map (slot_rest ask w) slots) (flat_map (left ask w) waiting)
    (all_weaker (IsAmong first) P (λ x h. list_any-append (is_same x.shard) first others ∙ ap (λ b. b || has others x.shard) h) (flat_map (slot_rest ask w) slots) (from_slots ask w slots a))
    (all_weaker (IsAmong others) P (λ x h. list_any-append (is_same x.shard) first others ∙ or_right (has first x.shard) (has others x.shard) h) (flat_map (left ask w) waiting) (from_waiting ask w waiting))

all_dropped : {A : Type 0} (P : A → Type 0) (n : ℕ) (xs : List A) → AllByRecursion P xs → AllByRecursion P (drop n xs)
all_dropped P zero xs h = h
all_dropped P (suc n) [] h = tt
all_dropped P (suc n) (x ∷ xs) h = all_dropped P n xs h.1

-- the first event past the page remains, where it has not come
next_remains : (P : Shown → Type 0) (page rest later : List Shown) (g : Gather) (next : Shown) → Joined page rest g → g.more ≡ false → drop g.size page ≡ next ∷ later → AllByRecursion P rest → P next
next_remains P page rest later g next j m d all =
    let room : length g.kept ≤ g.size = j.room m in
    let n = g.size - length g.kept in
    let split : length g.kept + n ≡ g.size = omega arith in
    let front : drop (length g.kept) page ≡ drop g.skip rest = ap (drop (length g.kept)) (sym (j.joined m)) ∙ drop_at g.kept (drop g.skip rest) (length g.kept) refl in
    let past : drop (g.skip + n) rest ≡ next ∷ later =
    sym (drop-drop n g.skip rest) ∙ ap (drop n) (sym front) ∙ drop-drop n (length g.kept) page ∙ ap (λ i. drop i page) split ∙ d in
    let Q : List Shown → Type 0 = AllByRecursion P in
    (subst Q past (all_dropped P (g.skip + n) rest all)).0

-- of shards in order, those before one of the later ones
many_before : (n : ℕ) (shards : List (List ℕ)) (x : List ℕ) → IsStrictlySortedBy (slice_cmp nat_cmp) shards → has (drop n shards) x ≡ true → n ≤ count_before x shards
many_before zero shards x up h = omega arith
many_before (suc n) [] x up h = cc
many_before (suc n) (k ∷ shards) x up h =
    let less : slice_cmp nat_cmp k x ≡ Less = all_has (λ j. slice_cmp nat_cmp k j ≡ Less) (drop n shards) x (all_dropped (λ j. slice_cmp nat_cmp k j ≡ Less) n shards (sorted_head (slice_cmp nat_cmp) k shards up)) h in
    let more : count_before x (k ∷ shards) ≡ suc (count_before x shards) = ap (λ o. length (cond (is_lt o) (k ∷ filter (λ j. is_lt (slice_cmp nat_cmp j x)) shards) (filter (λ j. is_lt (slice_cmp nat_cmp j x)) shards))) less in
    let others : n ≤ count_before x shards = many_before n shards x (sorted_tail (slice_cmp nat_cmp) k shards up) h in
    omega arith

-- no more shards were opened than those before the shard of the first event past the page, and the workers
pub opened_near : (ask : Ask) (w : World) (old : List Resume) (workers size : ℕ) (page later : List Shown) (next : Shown) (walk : Walk) → IsStrictlySortedBy (slice_cmp nat_cmp) (shards_of old) → AreLast (shards_of old) walk.slots.items walk.waiting.items → length walk.slots.items ≤ workers → Good ask w page walk → walk.gather.more ≡ false → walk.gather.size ≡ size → drop size page ≡ next ∷ later → length old ≤ length walk.waiting.items + (count_before next.shard (shards_of old) + workers)
opened_near ask w old workers size page later next walk up last few good more same past =
    let all = shards_of old in
    let slots = walk.slots.items in
    let waiting = walk.waiting.items in
    let shards = open_shards slots waiting in
    let among : IsAmong shards next = next_remains (IsAmong shards) page (remains ask w slots waiting) later walk.gather next good.joined more (ap (λ n. drop n page) same ∙ past) (all_open ask w slots waiting good.slots) in
    let n = length all - length shards in
    let before : n ≤ count_before next.shard all = many_before n all next.shard up (ap (λ xs. has xs next.shard) (sym last) ∙ among) in
    let long : length shards ≡ length slots + length waiting = length-append (slot_shards slots) (shards_of waiting) ∙ ap (λ i. i + length (shards_of waiting)) (length-map slots (λ (s : Slot). s.resume.shard)) ∙ ap (λ i. length slots + i) (length-map waiting (λ (r : Resume). r.shard)) in
    let cut : length shards ≡ length all - n = ap length last ∙ length-drop n all in
    let whole : length all ≡ length old = length-map old (λ (r : Resume). r.shard) in
    omega arith

-- ---- the shards that are open or wait are the last ones

pub last_same : (all xs ys : List (List ℕ)) → ys ≡ xs → xs ≡ drop (length all - length xs) all → ys ≡ drop (length all - length ys) all
last_same all xs ys e h = e ∙ h ∙ ap (λ zs. drop (length all - length zs) all) (sym e)

-- after the first one is gone
pub last_tail : (all : List (List ℕ)) (k : List ℕ) (xs : List (List ℕ)) → k ∷ xs ≡ drop (length all - length (k ∷ xs)) all → xs ≡ drop (length all - length xs) all
last_tail all k xs h =
    let n = length all - length (k ∷ xs) in
    let long : length (k ∷ xs) ≡ length all - n = ap length h ∙ length-drop n all in
    let next : n + 1 ≡ length all - length xs = omega arith in
    ap (drop 1) h ∙ drop-drop 1 n all ∙ ap (λ i. drop i all) next

-- a shard that waited is opened
pub open_moved : (slots : List Slot) (waiting rest : List Resume) (s : Slot) → waiting ≡ s.resume ∷ rest → open_shards (slots ++ s ∷ []) rest ≡ open_shards slots waiting
open_moved slots waiting rest s e =
    ap (λ xs. xs ++ shards_of rest) (map-append (λ (q : Slot). q.resume.shard) slots (s ∷ []))
    ∙ append_assoc (slot_shards slots) (s.resume.shard ∷ []) (shards_of rest)
    ∙ ap (λ ws. slot_shards slots ++ shards_of ws) (sym e)

-- the first slot gives what it found, and stays
pub last_kept : (all : List (List ℕ)) (slots : List Slot) (waiting : List Resume) (s p : Slot) → 0 < length slots → p ≡ get_or slots 0 p → s.resume ≡ p.resume → AreLast all slots waiting → AreLast all (set slots 0 s) waiting
last_kept all [] waiting s p l e r h = absurd (omega arith)
last_kept all (q ∷ slots) waiting s p l e r h =
    let shard : s.resume.shard ≡ q.resume.shard = ap (λ (z : Resume). z.shard) r ∙ ap (λ (z : Slot). z.resume.shard) e in
    last_same all (open_shards (q ∷ slots) waiting) (open_shards (s ∷ slots) waiting) (ap (λ k. k ∷ open_shards slots waiting) shard) h

-- or goes
pub last_given : (all : List (List ℕ)) (slots : List Slot) (waiting : List Resume) (s : Slot) → 0 < length slots → AreLast all slots waiting → AreLast all (drop 1 (set slots 0 s)) waiting
last_given all [] waiting s l h = absurd (omega arith)
last_given all (q ∷ slots) waiting s l h = last_tail all q.resume.shard (open_shards slots waiting) h

-- the shards that wait stay
pub near_still : (old : List Resume) (waiting now : List Resume) (most : ℕ) → now ≡ waiting → length old ≤ length waiting + most → length old ≤ length now + most
near_still old waiting now most e h = let long : length now ≡ length waiting = ap length e in omega arith
