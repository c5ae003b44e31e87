-- The answer to a query is what is left of all its shards at their start.
use Rattle.std.proofs.Common.{◌≡◌, ◌&&◌, ◌++◌, ◌∷◌, [], ℕ, zero, suc, List, Bool, true, false, cond, drop, map, inl, inr, refl, ap, sym, ◌∙◌, arith}
use Rattle.std.specs.Prelude.{Option, Some, None, not, ◌⊎◌, if◌then◌else◌}
use Rattle.std.specs.List.{filter, flat_map, AllByRecursion}
use Rattle.std.specs.List.Sorted.{IsStrictlySortedBy}
use Rattle.std.specs.Ordering.{nat_cmp, is_le, is_lt, is_eq, ordering_then}
use Rattle.std.specs.declared.cmp.Ordering.{Ordering}
use Rattle.std.specs.declared.cmp.Ordering.TheVariants.{Less, Equal, Greater}
use Rattle.std.specs.Cmp.Lexicographic.{slice_cmp}
use Rattle.std.proofs.lemmas.Bool.{and_parts}
use Rattle.std.proofs.lemmas.List.Kept.{IsStrictlySortedBy-filter}
use Rattle.std.proofs.lemmas.List.Elements.{All-nil}
use Rattle.dw_key.specs.declared.doc_key.DocKey.{DocKey}
use Rattle.dw_key.specs.DocKeys.{doc_key_cmp}
use Rattle.dw_nest.specs.Bounds.{is_before}
use Rattle.dw_dict.specs.Dictionary.{rule_of}
use Rattle.dw_event.specs.declared.days.Days.{Days}
use Rattle.dw_event.specs.declared.reports.Shown.{Shown}
use Rattle.dw_event.specs.Seen.{seen}
use Rattle.dw_event.specs.Texts.{is_same}
use Rattle.dw_event.specs.Wanted.{is_in_range}
use Rattle.dw_outside.specs.Tables.{Tables}
use Rattle.dw_derive.specs.World.{World}
use Rattle.dw_derive.specs.Tables.{tables}
use Rattle.dw_eval.specs.Answer.{answer_of, is_answer as answers}
use Rattle.dw_plan.specs.Hit.{is_shard_name, is_no, is_in_days, truth_at, is_hit, named_shards, hit_shards}
use Rattle.dw_plan.specs.Joins.{has}
use Rattle.dw_plan.specs.PlanLaws.{AnswersAreHit}
use Rattle.dw_derive.proofs.Lists.{all_filtered}
use Rattle.dw_plan.proofs.Hitting.{named_ascend}
use Rattle.dw_plan.proofs.Named.{same_is}
use Rattle.dw_scan.specs.declared.ask.Ask.{Ask}
use Rattle.dw_scan.specs.declared.ask.Resume.{Resume}
use Rattle.dw_scan.specs.Candidates.{is_answer}
use Rattle.dw_scan.specs.Worlds.{IsIndexedAlike}
use Rattle.dw_scan.proofs.ShardOrder.{AreUp, up_kept, seen_up}
use Rattle.dw_page.specs.declared.slot.Slot.{Slot}
use Rattle.dw_page.specs.declared.gather.Gather.{Gather}
use Rattle.dw_page.specs.Asked.{query_of, hits_in, IsAsked, IsTold}
use Rattle.dw_page.specs.declared.mark.MarkPlace.{MarkPlace}
use Rattle.dw_page.specs.declared.mark.MarkPlace.TheVariants.{At, End}
use Rattle.dw_page.specs.Joined.{Joined}
use Rattle.dw_page.specs.Marks.{is_past, is_walked, walked, resume_in, lined}
use Rattle.dw_page.specs.Placed.{SlotGood, SlotsGood}
use Rattle.dw_page.specs.Remains.{left, at_start, remains, IsOver}
use Rattle.dw_page.proofs.MarkLemmas.{all_pass, all_stay, none_pass, filter_both, past_at, turned}
use Rattle.dw_page.proofs.CutLemmas.{of_shard, cut_by_shards}

-- of one shard, two tests that agree there keep the same
by_shard : (p q : Shown → Bool) (k : List ℕ) (xs : List Shown) → ((x : Shown) → x.shard ≡ k → p x ≡ q x) → of_shard (filter p xs) k ≡ filter q (of_shard xs k)
by_shard p q k [] f = refl
by_shard p q k (x ∷ xs) f = at (is_same x.shard k) refl (p x) refl (by_shard p q k xs f)
  where
    at : (b : Bool) → is_same x.shard k ≡ b → (c : Bool) → p x ≡ c → of_shard (filter p xs) k ≡ filter q (of_shard xs k)
        → of_shard (cond c (x ∷ filter p xs) (filter p xs)) k ≡ filter q (cond b (x ∷ of_shard xs k) (of_shard xs k))
    at true e true g r =
        ap (λ z. cond z (x ∷ of_shard (filter p xs) k) (of_shard (filter p xs) k)) e
        ∙ ap (λ ys. x ∷ ys) r
        ∙ ap (λ z. cond z (x ∷ filter q (of_shard xs k)) (filter q (of_shard xs k))) (sym (sym (f x (same_is x.shard k e)) ∙ g))
    at true e false g r = r ∙ ap (λ z. cond z (x ∷ filter q (of_shard xs k)) (filter q (of_shard xs k))) (sym (sym (f x (same_is x.shard k e)) ∙ g))
    at false e true g r = ap (λ z. cond z (x ∷ of_shard (filter p xs) k) (of_shard (filter p xs) k)) e ∙ r
    at false e false g r = r

module _ (kept : Option Tables) (ask : Ask) (days : Days) (size : ℕ) (w : World) where
  abbrev all : List Shown
  all = seen ask.auths w.events ask.snapshot

  abbrev whole : List Shown
  whole = answer_of (query_of ask days size) w.events

  abbrev hit : List ℕ → Bool
  hit = is_hit ask.query ask.auths days ask.types (tables w)

  abbrev hits : List (List ℕ)
  hits = hits_in ask days w

  in_days : (k : List ℕ) → hit k ≡ true → is_in_range days k ≡ true
  in_days k h = (and_parts (is_shard_name k) (is_in_range days k) (and_parts (is_in_days days k) (not (is_no (truth_at (tables w) ask.auths ask.types k ask.query true))) h).0).1

  -- what is left at the start of a shard of the days
  one_shard : (k : List ℕ) → is_in_range days k ≡ true → of_shard whole k ≡ left ask w (at_start k)
  unfolding left
  one_shard k h = by_shard (answers (query_of ask days size)) (is_answer ask.dict ask.types ask.query) k all (λ x e. ap (λ b. b && is_answer ask.dict ask.types ask.query x) (ap (is_in_range days) e ∙ h))

  -- the answer ascends, and so do the shards that are walked
  pub answer_up : IsAsked kept ask days size w → AreUp whole
  answer_up is = up_kept (answers (query_of ask days size)) all (seen_up w ask.auths ask.snapshot is.lawful.events)

  pub walked_up : (start : Option MarkPlace) → IsStrictlySortedBy (slice_cmp nat_cmp) (walked start hits)
  unfolding hit_shards
  walked_up start = IsStrictlySortedBy-filter (slice_cmp nat_cmp) (is_walked start) hits (IsStrictlySortedBy-filter (slice_cmp nat_cmp) hit (named_shards ask.auths (tables w)) (named_ascend (tables w) ask.auths ask.types))

  -- ---- past the place where a page ended

  abbrev rest : Option MarkPlace → List Shown
  rest start = filter (is_past start) whole

  -- in a shard before that of the place nothing is left
  passed : (first : List ℕ) (key : DocKey) (k : List ℕ) (o : Ordering) → slice_cmp nat_cmp k first ≡ o → not (is_lt o) ≡ false → of_shard (rest (Some (At first key))) k ≡ []
  passed first key k Less e h =
      by_shard (is_past (Some (At first key))) (λ x. false) k whole (λ x i. past_at first key k x i ∙ ap (λ o. not (is_le (ordering_then o (doc_key_cmp x.key key)))) e)
      ∙ none_pass (of_shard whole k)
  passed first key k Equal e h = absurd (cc)
  passed first key k Greater e h = absurd (cc)

  -- in that shard what stands after the key is, and in a later one all
  left_at : (first : List ℕ) (key : DocKey) (k : List ℕ) → is_in_range days k ≡ true → (o : Ordering) → slice_cmp nat_cmp k first ≡ o → not (is_lt o) ≡ true → of_shard (rest (Some (At first key))) k ≡ left ask w (record { shard = k; after = if is_eq o then Some key else None })
  unfolding left
  left_at first key k r Less e h = absurd (cc)
  left_at first key k r Equal e h =
      by_shard (is_past (Some (At first key))) (λ x. is_before key x.key) k whole (λ x i. past_at first key k x i ∙ ap (λ o. not (is_le (ordering_then o (doc_key_cmp x.key key)))) e ∙ turned key x.key)
      ∙ ap (filter (λ x. is_before key x.key)) (one_shard k r)
      ∙ filter_both (λ x. is_before key x.key) (is_answer ask.dict ask.types ask.query) (of_shard all k)
  left_at first key k r Greater e h =
      by_shard (is_past (Some (At first key))) (λ x. true) k whole (λ x i. past_at first key k x i ∙ ap (λ o. not (is_le (ordering_then o (doc_key_cmp x.key key)))) e)
      ∙ all_stay (of_shard whole k)
      ∙ one_shard k r

  shard_passed : (start : Option MarkPlace) (k : List ℕ) → is_walked start k ≡ false → of_shard (rest start) k ≡ []
  shard_passed None k h = absurd (cc)
  shard_passed (Some (At first key)) k h = passed first key k (slice_cmp nat_cmp k first) refl h
  shard_passed (Some End) k h = ap (λ xs. of_shard xs k) (none_pass whole)

  shard_left : (start : Option MarkPlace) (k : List ℕ) → is_in_range days k ≡ true → is_walked start k ≡ true → of_shard (rest start) k ≡ left ask w (resume_in start k)
  shard_left None k r h = ap (λ xs. of_shard xs k) (all_stay whole) ∙ one_shard k r
  shard_left (Some (At first key)) k r h = left_at first key k r (slice_cmp nat_cmp k first) refl h
  shard_left (Some End) k r h = absurd (cc)

  each_shard : (start : Option MarkPlace) (ks : List (List ℕ)) → AllByRecursion (λ k. hit k ≡ true) ks → flat_map (of_shard (rest start)) ks ≡ flat_map (left ask w) (lined start ks)
  each_shard start [] a = refl
  each_shard start (k ∷ ks) a = at (is_walked start k) refl (each_shard start ks a.1)
    where
      at : (b : Bool) → is_walked start k ≡ b → flat_map (of_shard (rest start)) ks ≡ flat_map (left ask w) (lined start ks)
          → of_shard (rest start) k ++ flat_map (of_shard (rest start)) ks ≡ flat_map (left ask w) (map (resume_in start) (cond b (k ∷ walked start ks) (walked start ks)))
      at true e r = ap (λ ys. ys ++ flat_map (of_shard (rest start)) ks) (shard_left start k (in_days k a.0) e) ∙ ap (λ ys. left ask w (resume_in start k) ++ ys) r
      at false e r = ap (λ ys. ys ++ flat_map (of_shard (rest start)) ks) (shard_passed start k e) ∙ r

  pub all_wait : AnswersAreHit → IsAsked kept ask days size w → (start : Option MarkPlace) → flat_map (left ask w) (lined start hits) ≡ filter (is_past start) whole
  unfolding hit_shards
  all_wait law is start =
      sym (each_shard start hits (all_pass hit (named_shards ask.auths (tables w))))
      ∙ cut_by_shards hits (rest start)
      (IsStrictlySortedBy-filter (slice_cmp nat_cmp) hit (named_shards ask.auths (tables w)) (named_ascend (tables w) ask.auths ask.types))
      (up_kept (is_past start) whole (answer_up is))
      (all_filtered (λ s. has hits s.shard ≡ true) (is_past start) whole (law w (query_of ask days size) is.lawful is.stands))

  alike_at : (field : List ℕ) (n : ℕ) → ask.snapshot ≡ n → IsAsked kept ask days size w → (rule_of ask.dict field).indexed ≡ true → IsIndexedAlike w ask.dict ask.snapshot field
  alike_at field zero e is h = inl e
  alike_at field (suc n) e is h = let wide = is.stands.widened (λ z. absurd (omega (arith, e, z))) field in inr (wide.1 h, wide.0)

  pub asked_told : IsAsked kept ask days size w → IsTold kept ask w
  asked_told is = record {
    told = is.told;
    events = is.lawful.events;
    indexed = λ field h. alike_at field ask.snapshot refl is h;
  }

-- the shards that wait are those that are hit and walked
pub waiting_hits : (ask : Ask) (days : Days) (w : World) (start : Option MarkPlace) (waiting : List Resume) (shards : List (List ℕ)) → waiting ≡ lined start shards → shards ≡ hits_in ask days w → (rest : List Shown) → flat_map (left ask w) (lined start (hits_in ask days w)) ≡ rest → flat_map (left ask w) waiting ≡ rest
waiting_hits ask days w start waiting shards e h rest a = ap (flat_map (left ask w)) (e ∙ ap (lined start) h) ∙ a

-- a keeper that tells the same
pub told_still : (kept now : Option Tables) (ask : Ask) (w : World) → now ≡ kept → IsTold kept ask w → IsTold now ask w
told_still kept now ask w e is = record { told = e ∙ is.told; events = is.events; indexed = is.indexed }

-- all shards wait, and nothing is gathered
pub joined_begin : (ask : Ask) (w : World) (rest page : List Shown) (slots : List Slot) (waiting : List Resume) (g : Gather) → slots ≡ [] → flat_map (left ask w) waiting ≡ rest → drop g.skip rest ≡ page → g.kept ≡ [] → g.more ≡ false → Joined page (remains ask w slots waiting) g
joined_begin ask w rest page slots waiting g s a d k m =
    let all : remains ask w slots waiting ≡ rest = rw s a in
    record {
      joined = λ e. rw (k, all) d;
      room = λ e. rw k (omega arith);
      full = λ e. absurd (cc);
      longer = λ e. absurd (cc);
    }

-- where no shard is open and none waits, nothing remains
pub over_ends : (ask : Ask) (w : World) (slots : List Slot) (waiting : List Resume) (g : Gather) → (g.more ≡ true) ⊎ IsOver slots waiting → (g.more ≡ true) ⊎ (remains ask w slots waiting ≡ [])
over_ends ask w slots waiting g (inl m) = inl m
over_ends ask w slots waiting g (inr o) = inr (rw (o.no_slot, o.none_waits) refl)

pub good_begin : (ask : Ask) (w : World) (slots : List Slot) → slots ≡ [] → SlotsGood ask w slots
good_begin ask w slots s = rw s (All-nil (SlotGood ask w))
