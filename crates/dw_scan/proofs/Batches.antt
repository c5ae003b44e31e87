-- What a search promises of its batch, by where its walk stopped.
use Rattle.std.proofs.Common.{ℕ, suc, find, cond, ◌||◌, Result, Ok, Err, ◌≡◌, ◌≢◌, ◌+◌, ◌≤◌, ◌<◌, ◌⊎◌, Bool, true, false, List, [], ◌∷◌, ◌++◌, length, map, Option, Some, None, refl, ap, sym, subst, ◌∙◌, inl, inr, length-append, arith}
use Rattle.std.specs.Prelude.{IfSome, IfOk, is_some, Contains}
use Rattle.std.specs.List.{list_any}
use Rattle.dw_key.specs.declared.doc_key.DocKey.{DocKey}
use Rattle.dw_event.specs.declared.reports.Shown.{Shown}
use Rattle.dw_nest.specs.Shapes.{Shape, leaves}
use Rattle.dw_tablet.specs.Held.{Held}
use Rattle.dw_tablet.specs.Documents.{document_gap}
use Rattle.dw_scan.specs.declared.ask.Ask.{Ask}
use Rattle.dw_scan.specs.declared.ask.Batch.{Batch}
use Rattle.dw_scan.specs.declared.stop.Stop.{Stop}
use Rattle.dw_scan.specs.declared.stop.Stop.TheVariants.{Ended, Full, Stuck, Uncovered}
use Rattle.dw_scan.specs.Answers.{left, answer_after, IsLater, IsSearched}
use Rattle.dw_scan.specs.Stops.{is_end, IsStopped, HasCause, SomeLacks, IsPlaceOf}
use Rattle.dw_scan.specs.Scanned.{IsOfNext, Scanned}

-- what some leaf lacks is lacked by one of those from which a tree was made
pub lacks_still : {L : Type 0} (made : L → List (List ℕ)) (lacks : List (List ℕ) → List ℕ → Type 0) (before now : Shape L) → map made (leaves now) ≡ map made (leaves before)
    → (place : List ℕ) → SomeLacks made lacks now place → SomeLacks made lacks before place
lacks_still made lacks before now same place (texts, among, lacked) = (texts, subst (λ xs. Contains xs texts) same among, lacked)

-- and so is the place that is missing where a walk stopped
pub place_still : (Before Now : List ℕ → Type 0) (tablet : Held) → ((place : List ℕ) → Now place → Before place) → (stop : Stop) (o : Option (List ℕ)) → IsPlaceOf Now tablet stop o → IsPlaceOf Before tablet stop o
place_still Before Now tablet h Ended o p = p
place_still Before Now tablet h Full o p = p
place_still Before Now tablet h Stuck o p = (p.0, p.1, h p.0 p.2)
place_still Before Now tablet h (Uncovered key) o p = p

-- where the walk has not ended and nothing is missing, enough was read or found
pub enough : (IsLacked : List ℕ → Type 0) (tablet : Held) (before now budget found want : ℕ) (stop : Stop) (o : Option (List ℕ)) → HasCause tablet before now budget found want stop → IsPlaceOf IsLacked tablet stop o
    → is_end stop ≡ false → o ≡ None → (now ≡ before + budget) ⊎ (found ≡ want)
enough IsLacked tablet before now budget found want Ended o f p e m = absurd (cc)
enough IsLacked tablet before now budget found want Full o f p e m = f
enough IsLacked tablet before now budget found want Stuck o f p e m = absurd (let q = sym p.1 ∙ m in cc)
enough IsLacked tablet before now budget found want (Uncovered key) o f p e m = absurd (let t : true ≡ false = sym f.0 ∙ ap is_some (sym p ∙ m) in cc)

-- and where it has ended, nothing is missing
pub whole : (IsLacked : List ℕ → Type 0) (tablet : Held) (stop : Stop) (o : Option (List ℕ)) → IsPlaceOf IsLacked tablet stop o → is_end stop ≡ true → o ≡ None
whole IsLacked tablet Ended o p e = p
whole IsLacked tablet Full o p e = absurd (cc)
whole IsLacked tablet Stuck o p e = absurd (cc)
whole IsLacked tablet (Uncovered key) o p e = absurd (cc)

-- ---- the iterator that is stuck

module _ {A : Type 0} (test : A → Bool) where
  pub some_found : (xs : List A) → list_any test xs ≡ true → find test xs ≡ None → ⊥
  some_found [] h n = cc
  some_found (x ∷ xs) h n = at (test x) h n (λ k m. some_found xs k m)
    where
      at : (b : Bool) → b || list_any test xs ≡ true → cond b (Some x) (find test xs) ≡ None → (list_any test xs ≡ true → find test xs ≡ None → ⊥) → ⊥
      at true k m on = cc
      at false k m on = on k m

  pub found_among : {B : Type 0} (f : A → B) (xs : List A) (x : A) → find test xs ≡ Some x → Contains (map f xs) (f x) × (test x ≡ true)
  found_among f [] x e = absurd (cc)
  found_among f (y ∷ ys) x e = at (test y) refl e (λ m. found_among f ys x m)
    where
      at : (b : Bool) → test y ≡ b → cond b (Some y) (find test ys) ≡ Some x → (find test ys ≡ Some x → Contains (map f ys) (f x) × (test x ≡ true)) → Contains (f y ∷ map f ys) (f x) × (test x ≡ true)
      at true t m on = let same : y ≡ x = cc in ((0, omega arith, ap f same), subst (λ z. test z ≡ true) same t)
      at false t m on = let h = on m in ((suc h.0.0, omega (arith, h.0.1), h.0.2), h.1)

-- what a stuck iterator of a tree says that it lacks
pub said_lacking : {L E : Type 0} (made : L → List (List ℕ)) (lacks : List (List ℕ) → List ℕ → Type 0) (tree : Shape L) (leaf : L) (stuck : Bool) (r : Result (Option (List ℕ)) E)
    → stuck ≡ true → Contains (map made (leaves tree)) (made leaf) → IfOk r (λ o. is_some o ≡ stuck) → IfOk r (λ o. IfSome o (λ place. lacks (made leaf) place))
    → IfOk r (λ o. (place : List ℕ) × (o ≡ Some place) × SomeLacks made lacks tree place)
said_lacking made lacks tree leaf stuck (Err e) s among h k = tt
said_lacking made lacks tree leaf stuck (Ok None) s among h k = absurd (let f : false ≡ true = h ∙ s in cc)
said_lacking made lacks tree leaf stuck (Ok (Some place)) s among h k = (place, refl, (made leaf, among, k))

module _ (IsLacked : List ℕ → Type 0) (ask : Ask) (tablet : Held) (content : List (List ℕ)) (all : List DocKey) (from : Option DocKey) (want : ℕ) where
  went_on : (after : Option DocKey) (found : List Shown) (before now budget : ℕ) → 1 ≤ budget → 1 ≤ want
      → found ++ answer_after ask tablet.shard content all after ≡ answer_after ask tablet.shard content all from
      → now + length (left all after) ≡ before + length (left all from) → (now ≡ before + budget) ⊎ (length found ≡ want)
      → (after ≡ from) ⊎ IsLater all from after → IsLater all from after
  went_on after found before now budget some more answer counted full (inr later) = later
  went_on after found before now budget some more answer counted (inl spent) (inl same) =
      let long : length (left all after) ≡ length (left all from) = ap (λ o. length (left all o)) same in absurd (omega arith)
  went_on after found before now budget some more answer counted (inr enough) (inl same) =
      let long : length (answer_after ask tablet.shard content all after) ≡ length (answer_after ask tablet.shard content all from) = ap (λ o. length (answer_after ask tablet.shard content all o)) same in
      let sum : length found + length (answer_after ask tablet.shard content all after) ≡ length (answer_after ask tablet.shard content all from) =
      sym (length-append found (answer_after ask tablet.shard content all after)) ∙ ap length answer in
      absurd (omega arith)

  module _ (batch : Batch) (before now budget : ℕ) (some : 1 ≤ budget) (more : 1 ≤ want)
      (searched : IsSearched ask tablet.shard content all from batch.resume.after batch.found)
      (counted : now + length (left all batch.resume.after) ≡ before + length (left all from)) where
    ended_at : (stop : Stop) → IsStopped all batch.resume.after stop → is_end stop ≡ true → left all batch.resume.after ≡ []
    ended_at Ended s e = s
    ended_at Full s e = absurd (cc)
    ended_at Stuck s e = absurd (cc)
    ended_at (Uncovered key) s e = absurd (cc)

    goes_on_at : (stop : Stop) → IsStopped all batch.resume.after stop → HasCause tablet before now budget (length batch.found) want stop → IsPlaceOf IsLacked tablet stop batch.missing
        → is_end stop ≡ false → batch.missing ≡ None → IsLater all from batch.resume.after × (left all batch.resume.after ≢ [])
    goes_on_at Ended s f p e m = absurd (cc)
    goes_on_at Full s f p e m = (went_on batch.resume.after batch.found before now budget some more searched.answer counted f searched.moved, s)
    goes_on_at Stuck s f p e m = absurd (let q = sym p.1 ∙ m in cc)
    goes_on_at (Uncovered key) s f p e m = absurd (let t : true ≡ false = sym f.0 ∙ ap is_some (sym p ∙ m) in cc)

    gap_at : (stop : Stop) → IsStopped all batch.resume.after stop → HasCause tablet before now budget (length batch.found) want stop → IsPlaceOf IsLacked tablet stop batch.missing
        → IfSome batch.missing (λ place. IsLacked place ⊎ (IsOfNext tablet all batch.resume.after place × (length batch.found < want)))
    gap_at Ended s f p = subst (λ o. IfSome o (λ place. IsLacked place ⊎ (IsOfNext tablet all batch.resume.after place × (length batch.found < want)))) (sym p) tt
    gap_at Full s f p = subst (λ o. IfSome o (λ place. IsLacked place ⊎ (IsOfNext tablet all batch.resume.after place × (length batch.found < want)))) (sym p) tt
    gap_at Stuck s f p = subst (λ o. IfSome o (λ place. IsLacked place ⊎ (IsOfNext tablet all batch.resume.after place × (length batch.found < want)))) (sym p.1) (inl p.2)
    gap_at (Uncovered key) s f p = at batch.missing p
      where
        at : (o : Option (List ℕ)) → o ≡ document_gap tablet key → IfSome o (λ place. IsLacked place ⊎ (IsOfNext tablet all batch.resume.after place × (length batch.found < want)))
        at None q = tt
        at (Some place) q = inr (record { key = key; first = s; gap = sym q }, f.1)

    pub scanned : (stop : Stop) → IsStopped all batch.resume.after stop → HasCause tablet before now budget (length batch.found) want stop → IsPlaceOf IsLacked tablet stop batch.missing
        → batch.ended ≡ is_end stop → Scanned IsLacked ask tablet content all from want batch
    scanned stop s f p e = record {
      answer = searched.answer;
      moved = searched.moved;
      ended = λ t. ended_at stop s (sym e ∙ t);
      goes_on = λ t m. goes_on_at stop s f p (sym e ∙ t) m;
      gap = gap_at stop s f p;
    }
