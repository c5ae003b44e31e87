-- One candidate after another.
use Rattle.std.proofs.Common.{ℕ, ◌≡◌, ◌≢◌, ◌⊎◌, Bool, true, false, cond, not, ◌&&◌, List, [], ◌∷◌, ◌++◌, Option, Some, refl, ap, sym, subst, ◌∙◌, inl, inr, append_assoc}
use Rattle.std.proofs.lemmas.Bool.{and_parts, and_from}
use Rattle.dw_key.specs.declared.doc_key.DocKey.{DocKey}
use Rattle.dw_event.specs.declared.reports.Shown.{Shown}
use Rattle.dw_nest.specs.declared.bound.Bound.{Bound}
use Rattle.dw_nest.specs.declared.bound.Bound.TheVariants.{After}
use Rattle.dw_nest.specs.declared.truth.Truth.{Truth}
use Rattle.dw_nest.specs.declared.truth.Truth.TheVariants.{No, Unknown, Yes}
use Rattle.dw_nest.specs.Bounds.{has, meets, is_before, rest}
use Rattle.dw_nest.specs.Shapes.{Shape, Alike, Stays, value}
use Rattle.dw_nest.proofs.Alike.{stands_on}
use Rattle.dw_nest.proofs.Order.{upward}
use Rattle.dw_plan.specs.Hit.{is_no}
use Rattle.dw_tablet.specs.Held.{Held}
use Rattle.dw_scan.specs.declared.ask.Ask.{Ask}
use Rattle.dw_scan.specs.Answers.{beyond, left, is_met, shown_at, answers, answer_after, IsShard, IsLater, IsSearched}
use Rattle.dw_scan.proofs.Rests.{has_first, has_rest, rest_first, rest_none}

not_no : (t : Truth) → t ≢ No → not (is_no t) ≡ true
not_no No h = absurd (h refl)
not_no Unknown h = refl
not_no Yes h = refl

module _ {L : Type 0} (stands : L → List DocKey → Type 0) (tablet : Held) (tree : Shape L) (content : List (List ℕ)) (all : List DocKey) (shard : IsShard stands tablet tree content all) where
  -- what stays
  pub shard_stays : (keys : L → List DocKey) {M : Type 0} (made : L → M) (now : Shape L) → Alike (Stays stands keys made) tree now → IsShard stands tablet now content all
  shard_stays keys made now h = record {
    lists = shard.lists;
    stand = stands_on stands keys made tree now shard.lists h shard.stand;
    candidates = shard.candidates;
    agrees = shard.agrees;
  }

  module _ (after : Option DocKey) (bound : Bound) (is : bound ≡ beyond after) where
    -- the key that a search for the least one found is the first candidate that is left
    pub next_is : (key : DocKey) → meets bound key ≡ true
        → ((lists : Shape (List DocKey)) → Alike stands tree lists → value lists key ≢ No)
        → ((lists : Shape (List DocKey)) → Alike stands tree lists → (other : DocKey) → meets bound other ≡ true → is_before other key ≡ true → value lists other ≡ No)
        → left all after ≡ key ∷ left all (Some key)
    next_is key met candidate least =
        subst (λ b. rest all b ≡ key ∷ left all (Some key)) is
        (rest_first bound key all shard.candidates.ascend met
        (shard.candidates.exact key ∙ not_no (value shard.lists key) (candidate shard.lists shard.stand))
        (λ other m b. shard.candidates.exact other ∙ ap (λ t. not (is_no t)) (least shard.lists shard.stand other m b)))

    -- where none was found, none is left
    pub none_left : ((lists : Shape (List DocKey)) → Alike stands tree lists → (other : DocKey) → meets bound other ≡ true → value lists other ≡ No) → left all after ≡ []
    none_left none =
        subst (λ b. rest all b ≡ []) is (rest_none bound all (λ other m. shard.candidates.exact other ∙ ap (λ t. not (is_no t)) (none shard.lists shard.stand other m)))

module _ (ask : Ask) (shard : List ℕ) (content : List (List ℕ)) where
  front : (b : Bool) (s : Shown) (rest : List Shown) → cond b (s ∷ rest) rest ≡ cond b (s ∷ []) [] ++ rest
  front true s rest = refl
  front false s rest = refl

  answers_first : (key : DocKey) (keys : List DocKey) → answers ask shard content (key ∷ keys) ≡ answers ask shard content (key ∷ []) ++ answers ask shard content keys
  answers_first key keys = front (is_met ask (shown_at ask shard content key)) (shown_at ask shard content key) (answers ask shard content keys)

  module _ (all : List DocKey) (from : Option DocKey) where
    -- before the first candidate
    pub none_searched : IsSearched ask shard content all from from []
    none_searched = record { answer = refl; moved = inl refl }

    later_still : (after : Option DocKey) (key : DocKey) → (after ≡ from) ⊎ IsLater all from after → has (left all after) key ≡ true → has (left all from) key ≡ true
    later_still after key (inl same) h = subst (λ o. has (left all o) key ≡ true) same h
    later_still after key (inr (last, is, old)) h =
        let behind : meets (After last) key && has all key ≡ true = sym (has_rest (After last) all key) ∙ subst (λ o. has (left all o) key ≡ true) is h in
        let before : meets (beyond from) last && has all last ≡ true = sym (has_rest (beyond from) all last) ∙ old in
        let p = and_parts (meets (After last) key) (has all key) behind in
        let q = and_parts (meets (beyond from) last) (has all last) before in
        has_rest (beyond from) all key ∙ and_from (meets (beyond from) key) (has all key) (upward (beyond from) last key q.0 p.0) p.1

    -- after one candidate more
    pub one_more : (after : Option DocKey) (key : DocKey) (found now : List Shown) → IsSearched ask shard content all from after found → left all after ≡ key ∷ left all (Some key)
        → now ≡ found ++ answers ask shard content (key ∷ []) → IsSearched ask shard content all from (Some key) now
    one_more after key found now h next is = record {
      answer =
          ap (λ xs. xs ++ answer_after ask shard content all (Some key)) is
          ∙ append_assoc found (answers ask shard content (key ∷ [])) (answer_after ask shard content all (Some key))
          ∙ ap (λ xs. found ++ xs) (sym (answers_first key (left all (Some key))) ∙ ap (answers ask shard content) (sym next))
          ∙ h.answer;
      moved = inr (key, refl, later_still after key h.moved (ap (λ xs. has xs key) next ∙ has_first key (left all (Some key))));
    }
