-- The tree of an anchored query finds the candidates among the events of a shard.
use Rattle.std.proofs.Common.{◌≡◌, ℕ, Bool, true, false, not, cond, ◌&&◌, ◌||◌, ◌⊎◌, List, [], ◌∷◌, filter, refl, ap, sym, subst, ◌∙◌, inl, inr}
use Rattle.std.specs.Prelude.{IsTrue}
use Rattle.std.specs.Ordering.{is_eq, ordering_reverse}
use Rattle.std.specs.List.{AllByRecursion}
use Rattle.std.specs.declared.cmp.Ordering.{Ordering}
use Rattle.std.specs.declared.cmp.Ordering.TheVariants.{Less, Equal, Greater}
use Rattle.std.proofs.lemmas.Cmp.{tied_itself}
use Rattle.dw_key.specs.DocKeys.{doc_key_cmp}
use Rattle.dw_key.specs.declared.doc_key.DocKey.{DocKey}
use Rattle.dw_dict.specs.Dictionary.{Dictionary}
use Rattle.dw_event.specs.Wanted.{is_type_wanted}
use Rattle.dw_event.specs.declared.reports.Shown.{Shown}
use Rattle.dw_event.specs.declared.types.Types.{Types}
use Rattle.dw_nest.specs.Bounds.{Ascends, has, is_before}
use Rattle.dw_nest.specs.Shapes.{value}
use Rattle.dw_nest.proofs.Order.{total, exact, less}
use Rattle.dw_eval.specs.declared.nquery.NQuery.{NQuery}
use Rattle.dw_eval.specs.Kleene.{kleene}
use Rattle.dw_eval.specs.Leaves.{some_value}
use Rattle.dw_eval.specs.Values.{normal_view}
use Rattle.dw_plan.specs.Anchored.{anchored}
use Rattle.dw_plan.specs.Hit.{is_no}
use Rattle.dw_scan.specs.Trees.{tree_of}
use Rattle.dw_scan.specs.Candidates.{TreesFindCandidates, keys_of, leaf_keys, is_candidate}
use Rattle.dw_scan.proofs.Enumerated.{anchored_listed}
use Rattle.dw_scan.proofs.Valued.{value_is_kleene, value_is_no}

-- the event is one of some
abbrev Among : Shown → List Shown → Type 0
Among s [] = ⊥
Among s (e ∷ es) = (e ≡ s) ⊎ Among s es

-- what holds of each key holds of the key of one of the events
of_each : (P : DocKey → Type 0) (s : Shown) (es : List Shown) → AllByRecursion P (keys_of es) → Among s es → P s.key
of_each P s [] h a = absurd a
of_each P s (e ∷ es) h (inl same) = subst (λ (x : Shown). P x.key) same h.0
of_each P s (e ∷ es) h (inr more) = of_each P s es h.1 more

module _ (test : Shown → Bool) where
  above_kept : (P : DocKey → Type 0) (es : List Shown) → AllByRecursion P (keys_of es) → AllByRecursion P (keys_of (filter test es))
  above_kept P [] h = tt
  above_kept P (e ∷ es) h = at (test e) (above_kept P es h.1)
    where
      at : (b : Bool) → AllByRecursion P (keys_of (filter test es)) → AllByRecursion P (keys_of (cond b (e ∷ filter test es) (filter test es)))
      at true later = (h.0, later)
      at false later = later

  -- the keys of the events that pass ascend
  pub kept_ascend : (es : List Shown) → Ascends (keys_of es) → Ascends (keys_of (filter test es))
  kept_ascend [] h = tt
  kept_ascend (e ∷ es) h = at (test e) (kept_ascend es h.1)
    where
      at : (b : Bool) → Ascends (keys_of (filter test es)) → Ascends (keys_of (cond b (e ∷ filter test es) (filter test es)))
      at true later = (above_kept (λ k. IsTrue (is_before e.key k)) es h.0, later)
      at false later = later

  -- a key before those of all events is not among them
  none_before : (k : DocKey) (es : List Shown) → AllByRecursion (λ y. IsTrue (is_before k y)) (keys_of es) → has (keys_of (filter test es)) k ≡ false
  none_before k [] h = refl
  none_before k (e ∷ es) h = at (test e) (none_before k es h.1)
    where
      at : (b : Bool) → has (keys_of (filter test es)) k ≡ false → has (keys_of (cond b (e ∷ filter test es) (filter test es))) k ≡ false
      at true later = ap (λ o. is_eq o || has (keys_of (filter test es)) k) (less k e.key h.0) ∙ later
      at false later = later

  -- nor is one that none of the events has
  none_kept : (k : DocKey) (es : List Shown) → has (keys_of es) k ≡ false → has (keys_of (filter test es)) k ≡ false
  none_kept k [] h = refl
  none_kept k (e ∷ es) h = at (test e) (is_eq (doc_key_cmp k e.key)) refl h (λ n. none_kept k es n)
    where
      at : (b t : Bool) → is_eq (doc_key_cmp k e.key) ≡ t → t || has (keys_of es) k ≡ false → (has (keys_of es) k ≡ false → has (keys_of (filter test es)) k ≡ false)
          → has (keys_of (cond b (e ∷ filter test es) (filter test es))) k ≡ false
      at b true t n later = absurd (cc)
      at true false t n later = ap (λ x. x || has (keys_of (filter test es)) k) t ∙ later n
      at false false t n later = later n

  -- the key of one of the events is there exactly where that event passes
  pub kept_at : (s : Shown) (es : List Shown) → Ascends (keys_of es) → Among s es → has (keys_of (filter test es)) s.key ≡ test s
  kept_at s [] up a = absurd a
  kept_at s (e ∷ es) up (inl same) = subst (λ (x : Shown). has (keys_of (filter test (e ∷ es))) x.key ≡ test x) same (at (test e) refl)
    where
      at : (b : Bool) → test e ≡ b → has (keys_of (cond b (e ∷ filter test es) (filter test es))) e.key ≡ test e
      at true t = ap (λ o. is_eq o || has (keys_of (filter test es)) e.key) (tied_itself total e.key) ∙ sym t
      at false t = none_before e.key es up.0 ∙ sym t
  kept_at s (e ∷ es) up (inr more) = at (test e) (kept_at s es up.1 more)
    where
      later_key : doc_key_cmp s.key e.key ≡ Greater
      later_key = total.antisymm s.key e.key ∙ ap ordering_reverse (less e.key s.key (of_each (λ k. IsTrue (is_before e.key k)) s es up.0 more))

      at : (b : Bool) → has (keys_of (filter test es)) s.key ≡ test s → has (keys_of (cond b (e ∷ filter test es) (filter test es))) s.key ≡ test s
      at true h = ap (λ o. is_eq o || has (keys_of (filter test es)) s.key) later_key ∙ h
      at false h = h

-- whether a key is that of one of the events
data Where (k : DocKey) (es : List Shown) : Type 0 where
  here : (s : Shown) → Among s es → s.key ≡ k → Where k es
  nowhere : has (keys_of es) k ≡ false → Where k es

where_is : (k : DocKey) (es : List Shown) → Where k es
where_is k [] = nowhere refl
where_is k (e ∷ es) = at (doc_key_cmp k e.key) refl (where_is k es)
  where
    at : (o : Ordering) → doc_key_cmp k e.key ≡ o → Where k es → Where k (e ∷ es)
    at Equal c w = here e (inl refl) (sym (exact k e.key c))
    at Less c (here s a same) = here s (inr a) same
    at Less c (nowhere n) = nowhere (ap (λ o. is_eq o || has (keys_of es) k) c ∙ n)
    at Greater c (here s a same) = here s (inr a) same
    at Greater c (nowhere n) = nowhere (ap (λ o. is_eq o || has (keys_of es) k) c ∙ n)

module _ (dict : Dictionary) (types : Types) (events : List Shown) (q : NQuery) (up : Ascends (keys_of events)) (led : anchored q ≡ true) where
  abbrev lists : List ℕ → (List ℕ → Bool) → List DocKey
  lists = leaf_keys dict types events

  abbrev finds : DocKey → Type 0
  finds k = has (keys_of (filter (is_candidate dict types q) events)) k ≡ not (is_no (value (tree_of lists q) k))

  abbrev meets : List ℕ → (List ℕ → Bool) → Shown → Bool
  meets field test s = is_type_wanted types s.key.dtype && some_value (normal_view dict s.view) field test

  at_event : (s : Shown) → Among s events → (b : Bool) → is_type_wanted types s.key.dtype ≡ b → finds s.key
  at_event s a true w =
      kept_at (is_candidate dict types q) s events up a
      ∙ ap (λ b. b && not (is_no (kleene (normal_view dict s.view) q))) w
      ∙ ap (λ t. not (is_no t))
      (sym
      (value_is_kleene lists s.key (normal_view dict s.view)
      (λ field test. kept_at (meets field test) s events up a ∙ ap (λ b. b && some_value (normal_view dict s.view) field test) w) q))
  at_event s a false w =
      kept_at (is_candidate dict types q) s events up a
      ∙ ap (λ b. b && not (is_no (kleene (normal_view dict s.view) q))) w
      ∙ ap (λ t. not (is_no t))
      (sym
      (value_is_no lists s.key
      (λ field test. kept_at (meets field test) s events up a ∙ ap (λ b. b && some_value (normal_view dict s.view) field test) w) q led))

  found : (k : DocKey) → finds k
  found k = at (where_is k events)
    where
      at : Where k events → finds k
      at (here s a same) = subst finds same (at_event s a (is_type_wanted types s.key.dtype) refl)
      at (nowhere n) =
          none_kept (is_candidate dict types q) k events n
          ∙ ap (λ t. not (is_no t)) (sym (value_is_no lists k (λ field test. none_kept (meets field test) k events n) q led))

pub trees_find : TreesFindCandidates
trees_find dict types events q up led = (
  anchored_listed (leaf_keys dict types events) q led,
  record { ascend = kept_ascend (is_candidate dict types q) events up; exact = found dict types events q up led },
)
