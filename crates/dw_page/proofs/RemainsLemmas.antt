-- What remains, as shards are opened and events are given.
use Rattle.std.proofs.Common.{ℕ, ◌≡◌, ◌≤◌, ◌<◌, ◌++◌, ◌∷◌, ◌&&◌, [], List, Option, Some, None, Bool, true, false, length, filter, drop, get_or, set, refl, ap, sym, subst, ◌∙◌, append_assoc, append-nil, arith}
use Rattle.std.specs.Prelude.{IfSome}
use Rattle.std.specs.Option.{is_some}
use Rattle.std.specs.List.{flat_map, AllByRecursion}
use Rattle.std.proofs.lemmas.List.Concat.{flat_map-append}
use Rattle.std.proofs.lemmas.List.Elements.{All-get_or, All-push, All-set}
use Rattle.dw_event.specs.declared.reports.Shown.{Shown}
use Rattle.dw_event.specs.Seen.{seen}
use Rattle.dw_event.specs.Texts.{is_same}
use Rattle.dw_derive.specs.World.{World}
use Rattle.dw_derive.proofs.Lists.{all_filtered}
use Rattle.dw_derive.proofs.WholeWorlds.{all_weaker}
use Rattle.dw_nest.specs.Bounds.{meets}
use Rattle.dw_plan.proofs.Named.{same_is}
use Rattle.dw_tablet.specs.Held.{Held}
use Rattle.dw_scan.specs.declared.ask.Ask.{Ask}
use Rattle.dw_scan.specs.declared.ask.Resume.{Resume}
use Rattle.dw_scan.specs.Answers.{beyond}
use Rattle.dw_scan.specs.Batches.{IsOfWorld}
use Rattle.dw_scan.specs.Candidates.{is_answer}
use Rattle.dw_page.specs.declared.slot.Slot.{Slot}
use Rattle.dw_page.specs.declared.gather.Gather.{Gather}
use Rattle.dw_page.specs.Placed.{IsOf, SlotGood, SlotsGood}
use Rattle.dw_page.specs.Joined.{Joined}
use Rattle.dw_page.specs.Remains.{left, if_held, slot_rest, remains}
use Rattle.dw_page.proofs.MarkLemmas.{all_pass}

-- a shard that waits is opened
pub remains_opened : (ask : Ask) (w : World) (slots : List Slot) (waiting rest : List Resume) (s : Slot) (t : Held) → waiting ≡ s.resume ∷ rest → s.found ≡ [] → s.tablet ≡ Some t → remains ask w slots waiting ≡ remains ask w (slots ++ s ∷ []) rest
remains_opened ask w slots waiting rest s t e f h =
    let new : slot_rest ask w s ≡ left ask w s.resume = rw (f, h) refl in
    let one : flat_map (slot_rest ask w) (slots ++ s ∷ []) ≡ flat_map (slot_rest ask w) slots ++ left ask w s.resume =
    flat_map-append (slot_rest ask w) slots (s ∷ []) ∙ ap (λ xs. flat_map (slot_rest ask w) slots ++ xs) (append-nil (slot_rest ask w s) ∙ new) in
    ap (λ ws. remains ask w slots ws) e
    ∙ sym (append_assoc (flat_map (slot_rest ask w) slots) (left ask w s.resume) (flat_map (left ask w) rest))
    ∙ ap (λ xs. xs ++ flat_map (left ask w) rest) (sym one)

-- the first slot has ended: it gives what it found, and goes
pub remains_given : (ask : Ask) (w : World) (slots : List Slot) (waiting : List Resume) (s p : Slot) → 0 < length slots → p ≡ get_or slots 0 p → p.tablet ≡ None → remains ask w slots waiting ≡ p.found ++ remains ask w (drop 1 (set slots 0 s)) waiting
remains_given ask w [] waiting s p l e t = absurd (omega arith)
remains_given ask w (q ∷ slots) waiting s p l e t =
    let ended : q.tablet ≡ None = ap (λ (z : Slot). z.tablet) (sym e) ∙ t in
    let found : p.found ≡ q.found = ap (λ (z : Slot). z.found) e in
    rw (ended, found, append-nil) (simp append_assoc)

-- the first slot is searched on: it gives what it found, and stays
pub remains_kept : (ask : Ask) (w : World) (slots : List Slot) (waiting : List Resume) (s p : Slot) → 0 < length slots → p ≡ get_or slots 0 p → s.found ≡ [] → s.resume ≡ p.resume → s.tablet ≡ p.tablet → remains ask w slots waiting ≡ p.found ++ remains ask w (set slots 0 s) waiting
remains_kept ask w [] waiting s p l e f r t = absurd (omega arith)
remains_kept ask w (q ∷ slots) waiting s p l e f r t =
    let found : p.found ≡ q.found = ap (λ (z : Slot). z.found) e in
    let resume : s.resume ≡ q.resume = r ∙ ap (λ (z : Slot). z.resume) e in
    let tablet : s.tablet ≡ q.tablet = t ∙ ap (λ (z : Slot). z.tablet) e in
    rw (f, resume, tablet, found) (simp append_assoc)

-- a slot that was given back and holds no tablet had none
pub none_held : (slots : List Slot) (s p q : Slot) (b : Bool) → 0 < length slots → s.tablet ≡ p.tablet → q ≡ get_or (set slots 0 s) 0 q → b ≡ is_some q.tablet → b ≡ false → p.tablet ≡ None
none_held [] s p q b l e h t f = absurd (omega arith)
none_held (r ∷ slots) s p q b l e h t f = is_none p.tablet (ap is_some (sym e ∙ ap (λ (z : Slot). z.tablet) (sym h)) ∙ sym t ∙ f)
  where
    is_none : (o : Option Held) → is_some o ≡ false → o ≡ None
    is_none None h = refl
    is_none (Some t) h = absurd (cc)

pub joined_same : (page xs ys : List Shown) (g : Gather) → xs ≡ ys → Joined page xs g → Joined page ys g
joined_same page xs ys g e j = subst (λ zs. Joined page zs g) e j

-- what is left of a shard is of it
pub left_own : (ask : Ask) (w : World) (r : Resume) → AllByRecursion (IsOf r.shard) (left ask w r)
unfolding left
left_own ask w r =
    let all = seen ask.auths w.events ask.snapshot in
    let here : Shown → Bool = λ s. is_same s.shard r.shard in
    all_filtered (IsOf r.shard) (λ s. meets (beyond r.after) s.key && is_answer ask.dict ask.types ask.query s) (filter here all)
    (all_weaker (λ s. here s ≡ true) (IsOf r.shard) (λ s e. same_is s.shard r.shard e) (filter here all) (all_pass here all))

pub own_same : (k j : List ℕ) (xs ys : List Shown) → j ≡ k → ys ≡ xs → AllByRecursion (IsOf k) xs → AllByRecursion (IsOf j) ys
own_same k j xs ys e f h =
    let P : List ℕ → Type 0 = λ i. AllByRecursion (IsOf i) ys in
    let Q : List Shown → Type 0 = λ zs. AllByRecursion (IsOf k) zs in
    subst P (sym e) (subst Q (sym f) h)

all_back : {A : Type 0} (P : A → Type 0) (xs ys : List A) → AllByRecursion P (xs ++ ys) → AllByRecursion P ys
all_back P [] ys h = h
all_back P (x ∷ xs) ys h = all_back P xs ys h.1

-- a slot that gave what it found holds what it held, and goes on as it did
pub agree_given : (ask : Ask) (w : World) (slots : List Slot) (s p : Slot) → 0 < length slots → p ≡ get_or slots 0 p → s.found ≡ [] → s.resume ≡ p.resume → s.tablet ≡ p.tablet → SlotsGood ask w slots → SlotsGood ask w (set slots 0 s)
agree_given ask w slots s p l e f r t a =
    let first : SlotGood ask w p = let P : Slot → Type 0 = SlotGood ask w in subst P (sym e) (All-get_or (SlotGood ask w) slots 0 p l a) in
    let rest = if_held p.tablet (left ask w p.resume) in
    let same : slot_rest ask w s ≡ rest = rw (f, r, t) refl in
    All-set (SlotGood ask w) slots 0 s
    record {
      held = let P : Option Held → Type 0 = λ o. IfSome o (λ u. IsOfWorld u ask w) in subst P (sym t) first.held;
      own = own_same p.resume.shard s.resume.shard rest (slot_rest ask w s) (ap (λ (z : Resume). z.shard) r) same (all_back (IsOf p.resume.shard) p.found rest first.own);
    }
    a

-- with a slot just opened
pub good_opened : (ask : Ask) (w : World) (slots : List Slot) (s : Slot) (t : Held) → s.found ≡ [] → s.tablet ≡ Some t → IsOfWorld t ask w → SlotsGood ask w slots → SlotsGood ask w (slots ++ s ∷ [])
good_opened ask w slots s t f h a all =
    let same : slot_rest ask w s ≡ left ask w s.resume = rw (f, h) refl in
    All-push (SlotGood ask w) slots s all
    record {
      held = let P : Option Held → Type 0 = λ o. IfSome o (λ u. IsOfWorld u ask w) in subst P (sym h) a;
      own = own_same s.resume.shard s.resume.shard (left ask w s.resume) (slot_rest ask w s) refl same (left_own ask w s.resume);
    }

-- after a wave there are no more slots than workers
pub still_few : (before opened scanned flushed workers : ℕ) → before ≤ workers → (before ≤ workers → opened ≤ workers) → scanned ≡ opened → flushed ≤ scanned → flushed ≤ workers
still_few before opened scanned flushed workers b o s f = let h = o b in omega arith
