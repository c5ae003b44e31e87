-- What slots have yet to give once the outputs are given to them.
use Rattle.std.proofs.Common.{ℕ, ◌≡◌, ◌<◌, ◌++◌, ◌∷◌, [], List, Bool, true, false, cond, Option, Some, None, Result, Ok, Err, filter, length, drop, map, slice_index_or, refl, ap, sym, subst, ◌∙◌, append_assoc, append-nil, arith}
use Rattle.std.specs.Prelude.{is_some, IfSome}
use Rattle.std.specs.List.{flat_map, AllZip}
use Rattle.std.proofs.lemmas.List.{nil_from_length}
use Rattle.std.proofs.lemmas.List.Elements.{All-nil, All-cons, All-head, All-tail}
use Rattle.std.specs.declared.alloc.AllocError.{AllocError}
use Rattle.dw_event.specs.declared.reports.Shown.{Shown}
use Rattle.dw_derive.specs.World.{World}
use Rattle.dw_tablet.specs.Held.{Held}
use Rattle.dw_scan.specs.declared.ask.Ask.{Ask}
use Rattle.dw_scan.specs.declared.ask.Batch.{Batch}
use Rattle.dw_scan.specs.declared.ask.Resume.{Resume}
use Rattle.dw_scan.specs.Batches.{IsOfWorld}
use Rattle.dw_page.specs.declared.slot.Slot.{Slot}
use Rattle.dw_page.specs.Remains.{left, if_held, slot_rest}
use Rattle.dw_page.proofs.RemainsLemmas.{own_same}
use Rattle.dw_page.specs.Placed.{is_open, SlotGood, SlotsGood, Scanned, tablet_after, IsScanOf, Accepts, Took, outs_after, Placed}

-- the loop is at its end
pub placed_end : (all left news : List Slot) (outs rest : List (Result Batch AllocError)) (n : ℕ) → ((more : List Slot) → Placed left rest more → Placed all outs (news ++ more)) → n ≡ length left → n ≡ 0 → Placed all outs news
placed_end all left news outs rest n h l z =
    let done : left ≡ [] = nil_from_length left (sym l ∙ z) in
    let P : List Slot → Type 0 = λ xs. Placed xs rest [] in
    let Q : List Slot → Type 0 = λ xs. Placed all outs xs in
    subst Q (append-nil news) (h [] (subst P (sym done) refl))

-- what a held tablet's slot has left, where nothing is left of a shard that has ended
held_after : (v : Bool) (t : Held) (xs : List Shown) → (v ≡ true → xs ≡ []) → if_held (tablet_after v (Some t)) xs ≡ xs
held_after true t xs h = sym (h refl)
held_after false t xs h = refl

-- an open slot takes the first output, and leaves the others
took_of : (o : Option Held) (outs : List (Result Batch AllocError)) (s n : Slot) (b : Batch) → is_some o ≡ true → 0 < length outs → Ok b ≡ slice_index_or outs 0 (Ok b) → Accepts s b n → Took o outs s n
took_of None outs s n b i l e a = absurd (cc)
took_of (Some t) [] s n b i l e a = absurd (omega arith)
took_of (Some t) (Err x ∷ outs) s n b i l e a = absurd (cc)
took_of (Some t) (Ok d ∷ outs) s n b i l e a = let same : b ≡ d = cc in let P : Batch → Type 0 = λ x. Accepts s x n in subst P same a

after_of : (o : Option Held) (outs : List (Result Batch AllocError)) → is_some o ≡ true → outs_after o outs ≡ drop 1 outs
after_of None outs i = absurd (cc)
after_of (Some t) [] i = refl
after_of (Some t) (out ∷ outs) i = refl

pub placed_open : (all left rest news : List Slot) (outs_all outs others : List (Result Batch AllocError)) (s n : Slot) (b : Batch)
    → left ≡ s ∷ rest → is_some s.tablet ≡ true → 0 < length outs → Ok b ≡ slice_index_or outs 0 (Ok b) → others ≡ drop 1 outs → Accepts s b n
    → ((more : List Slot) → Placed left outs more → Placed all outs_all (news ++ more)) → (more : List Slot) → Placed rest others more → Placed all outs_all ((news ++ n ∷ []) ++ more)
placed_open all left rest news outs_all outs others s n b l i some e o a h more p =
    let P : List (Result Batch AllocError) → Type 0 = λ xs. Placed rest xs more in
    let Q : List Slot → Type 0 = λ xs. Placed xs outs (n ∷ more) in
    let R : List Slot → Type 0 = λ xs. Placed all outs_all xs in
    subst R (sym (append_assoc news (n ∷ []) more))
    (h (n ∷ more) (subst Q (sym l) (took_of s.tablet outs s n b i some e a, subst P (o ∙ sym (after_of s.tablet outs i)) p)))

pub placed_ended : (all left rest news : List Slot) (outs_all outs : List (Result Batch AllocError)) (s : Slot)
    → left ≡ s ∷ rest → is_some s.tablet ≡ false
    → ((more : List Slot) → Placed left outs more → Placed all outs_all (news ++ more)) → (more : List Slot) → Placed rest outs more → Placed all outs_all ((news ++ s ∷ []) ++ more)
placed_ended all left rest news outs_all outs s l i h more p =
    let Q : List Slot → Type 0 = λ xs. Placed xs outs (s ∷ more) in
    let R : List Slot → Type 0 = λ xs. Placed all outs_all xs in
    subst R (sym (append_assoc news (s ∷ []) more)) (h (s ∷ more) (subst Q (sym l) (at s.tablet i)))
  where
    at : (o : Option Held) → is_some o ≡ false → Took o outs s s × Placed rest (outs_after o outs) more
    at None e = (refl, p)
    at (Some t) e = absurd (cc)

module _ (ask : Ask) where
  scans_open : (left rest : List Slot) (s : Slot) (outs : List (Result Batch AllocError)) → left ≡ s ∷ rest → is_some s.tablet ≡ true → AllZip (IsScanOf ask) (filter is_open left) outs → AllZip (IsScanOf ask) (s ∷ filter is_open rest) outs
  scans_open left rest s outs l i z =
      let P : List Slot → Type 0 = λ xs. AllZip (IsScanOf ask) (filter is_open xs) outs in
      let Q : Bool → Type 0 = λ v. AllZip (IsScanOf ask) (cond v (s ∷ filter is_open rest) (filter is_open rest)) outs in
      subst Q i (subst P l z)

  some_out : (s : Slot) (ys : List Slot) (outs : List (Result Batch AllocError)) → AllZip (IsScanOf ask) (s ∷ ys) outs → 0 < length outs
  some_out s ys [] z = absurd z
  some_out s ys (out ∷ outs) z = omega arith

  outs_left : (s : Slot) (ys : List Slot) (outs others : List (Result Batch AllocError)) → others ≡ drop 1 outs → AllZip (IsScanOf ask) (s ∷ ys) outs → AllZip (IsScanOf ask) ys others
  outs_left s ys [] others o z = absurd z
  outs_left s ys (out ∷ outs) others o z = let P : List (Result Batch AllocError) → Type 0 = λ xs. AllZip (IsScanOf ask) ys xs in subst P (sym o) z.1

  pub some_outs : (left rest : List Slot) (s : Slot) (outs : List (Result Batch AllocError)) → left ≡ s ∷ rest → is_some s.tablet ≡ true → AllZip (IsScanOf ask) (filter is_open left) outs → 0 < length outs
  some_outs left rest s outs l i z = some_out s (filter is_open rest) outs (scans_open left rest s outs l i z)

  pub scans_left : (left rest : List Slot) (s : Slot) (outs others : List (Result Batch AllocError)) → left ≡ s ∷ rest → is_some s.tablet ≡ true → others ≡ drop 1 outs → AllZip (IsScanOf ask) (filter is_open left) outs → AllZip (IsScanOf ask) (filter is_open rest) others
  scans_left left rest s outs others l i o z = outs_left s (filter is_open rest) outs others o (scans_open left rest s outs l i z)

  -- the first output belongs to the first slot
  first_scan : (s : Slot) (t : Held) (b : Batch) → s.tablet ≡ Some t → IsScanOf ask s (Ok b) → Scanned ask t s.resume b
  first_scan s t b e h = let P : Option Held → Type 0 = λ o. IfSome o (λ u. Scanned ask u s.resume b) in subst P e h

  agrees_after : (w : World) (v : Bool) (t : Held) → IsOfWorld t ask w → IfSome (tablet_after v (Some t)) (λ u. IsOfWorld u ask w)
  agrees_after w true t a = tt
  agrees_after w false t a = a

  -- what a slot has yet to give is the same
  took_rest : (w : World) (s n : Slot) (o : Option Held) (ys : List Slot) (outs : List (Result Batch AllocError)) → s.tablet ≡ o → IfSome o (λ t. IsOfWorld t ask w) → AllZip (IsScanOf ask) (cond (is_some o) (s ∷ ys) ys) outs → Took o outs s n → slot_rest ask w n ≡ slot_rest ask w s
  took_rest w s n None ys outs e a z h = ap (slot_rest ask w) h
  took_rest w s n (Some t) ys [] e a z h = absurd h
  took_rest w s n (Some t) ys (Err x ∷ outs) e a z h = absurd h
  took_rest w s n (Some t) ys (Ok b ∷ outs) e a z h =
      let scan = first_scan s t b e z.0 in
      let held : n.tablet ≡ tablet_after b.ended (Some t) = h.tablet ∙ ap (tablet_after b.ended) e in
      let rest = scan.rest w a in
      let over = held_after b.ended t (left ask w b.resume) (scan.over w a) in
      rw (held, h.resume, over, h.found, e, append_assoc, rest)

  took_held : (w : World) (s n : Slot) (o : Option Held) (outs : List (Result Batch AllocError)) → s.tablet ≡ o → IfSome o (λ t. IsOfWorld t ask w) → Took o outs s n → IfSome n.tablet (λ t. IsOfWorld t ask w)
  took_held w s n None outs e a h = let k : n.tablet ≡ None = ap (λ (x : Slot). x.tablet) h ∙ e in rw k tt
  took_held w s n (Some t) [] e a h = absurd h
  took_held w s n (Some t) (Err x ∷ outs) e a h = absurd h
  took_held w s n (Some t) (Ok b ∷ outs) e a h =
      let held : n.tablet ≡ tablet_after b.ended (Some t) = h.tablet ∙ ap (tablet_after b.ended) e in
      rw held (agrees_after w b.ended t a)

  took_shard : (s n : Slot) (o : Option Held) (ys : List Slot) (outs : List (Result Batch AllocError)) → s.tablet ≡ o → AllZip (IsScanOf ask) (cond (is_some o) (s ∷ ys) ys) outs → Took o outs s n → n.resume.shard ≡ s.resume.shard
  took_shard s n None ys outs e z h = ap (λ (x : Slot). x.resume.shard) h
  took_shard s n (Some t) ys [] e z h = absurd h
  took_shard s n (Some t) ys (Err x ∷ outs) e z h = absurd h
  took_shard s n (Some t) ys (Ok b ∷ outs) e z h = ap (λ (r : Resume). r.shard) h.resume ∙ (first_scan s t b e z.0).shard

  took_good : (w : World) (s n : Slot) (ys : List Slot) (outs : List (Result Batch AllocError)) → SlotGood ask w s → AllZip (IsScanOf ask) (cond (is_some s.tablet) (s ∷ ys) ys) outs → Took s.tablet outs s n → SlotGood ask w n
  took_good w s n ys outs a z h = record {
    held = took_held w s n s.tablet outs refl a.held h;
    own = own_same s.resume.shard n.resume.shard (slot_rest ask w s) (slot_rest ask w n) (took_shard s n s.tablet ys outs refl z h) (took_rest w s n s.tablet ys outs refl a.held z h) a.own;
  }

  later : (s : Slot) (o : Option Held) (ys : List Slot) (outs : List (Result Batch AllocError)) → AllZip (IsScanOf ask) (cond (is_some o) (s ∷ ys) ys) outs → AllZip (IsScanOf ask) ys (outs_after o outs)
  later s None ys outs z = z
  later s (Some t) ys [] z = absurd z
  later s (Some t) ys (out ∷ outs) z = z.1

  pub placed_rest : (w : World) (slots news : List Slot) (outs : List (Result Batch AllocError)) → AllZip (IsScanOf ask) (filter is_open slots) outs → SlotsGood ask w slots → Placed slots outs news → flat_map (slot_rest ask w) news ≡ flat_map (slot_rest ask w) slots
  placed_rest w [] news outs z a p = ap (flat_map (slot_rest ask w)) p
  placed_rest w (s ∷ slots) [] outs z a p = absurd p
  placed_rest w (s ∷ slots) (n ∷ news) outs z a p =
      let ys = filter is_open slots in
      let first : slot_rest ask w n ≡ slot_rest ask w s = took_rest w s n s.tablet ys outs refl (All-head (SlotGood ask w) s slots a).held z p.0 in
      let others : flat_map (slot_rest ask w) news ≡ flat_map (slot_rest ask w) slots = placed_rest w slots news (outs_after s.tablet outs) (later s s.tablet ys outs z) (All-tail (SlotGood ask w) s slots a) p.1 in
      ap (λ xs. xs ++ flat_map (slot_rest ask w) news) first ∙ ap (λ xs. slot_rest ask w s ++ xs) others

  pub placed_agree : (w : World) (slots news : List Slot) (outs : List (Result Batch AllocError)) → AllZip (IsScanOf ask) (filter is_open slots) outs → SlotsGood ask w slots → Placed slots outs news → SlotsGood ask w news
  placed_agree w [] news outs z a p = rw p (All-nil (SlotGood ask w))
  placed_agree w (s ∷ slots) [] outs z a p = absurd p
  placed_agree w (s ∷ slots) (n ∷ news) outs z a p =
      let ys = filter is_open slots in
      All-cons (SlotGood ask w) n news
      (took_good w s n ys outs (All-head (SlotGood ask w) s slots a) z p.0)
      (placed_agree w slots news (outs_after s.tablet outs) (later s s.tablet ys outs z) (All-tail (SlotGood ask w) s slots a) p.1)

  pub placed_shards : (slots news : List Slot) (outs : List (Result Batch AllocError)) → AllZip (IsScanOf ask) (filter is_open slots) outs → Placed slots outs news → map (λ (s : Slot). s.resume.shard) news ≡ map (λ (s : Slot). s.resume.shard) slots
  placed_shards [] news outs z p = ap (map (λ (s : Slot). s.resume.shard)) p
  placed_shards (s ∷ slots) [] outs z p = absurd p
  placed_shards (s ∷ slots) (n ∷ news) outs z p =
      let ys = filter is_open slots in
      let first : n.resume.shard ≡ s.resume.shard = took_shard s n s.tablet ys outs refl z p.0 in
      let others = placed_shards slots news (outs_after s.tablet outs) (later s s.tablet ys outs z) p.1 in
      ap (λ x. x ∷ map (λ (q : Slot). q.resume.shard) news) first ∙ ap (λ xs. s.resume.shard ∷ xs) others
