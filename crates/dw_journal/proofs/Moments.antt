-- How a run of a disk's calls goes on.
use Rattle.std.proofs.Common.{◌≡◌, inl, inr, ℕ, ◌+◌, ◌≤◌, List, [], ◌∷◌, ◌++◌, length, Option, Some, None, refl, sym, ◌∙◌, ap, subst, append_assoc}
use Rattle.dw_outside.specs.Disks.{DiskState, DiskModel, Each, Now, Since, after, wrote_to, IsTorn}

all_both : (P : DiskState → Type 0) (xs ys : List DiskState) → Each P xs → Each P ys → Each P (xs ++ ys)
all_both P [] ys left right = right
all_both P (x ∷ xs) ys left right = (left.0, all_both P xs ys left.1 right)

pub now_more : (P Q : DiskState → Type 0) (m : Option DiskModel) → ((s : DiskState) → P s → Q s) → Now P m → Now Q m
now_more P Q None more now = tt
now_more P Q (Some m) more now = more m.now now

module _ (P : DiskState → Type 0) where
  -- each moment after the first has P, as the last one has
  pub record Runs (old new : Option DiskModel) : Type 0 where
    pub since : Since P old new
    pub now : Now P new

  pub stays : (m : Option DiskModel) → Now P m → Runs m m
  stays None now = record { since = refl; now = tt }
  stays (Some m) now = record { since = ([], tt, refl); now = now }

  pub steps : (f : DiskState → DiskState) (m : Option DiskModel) → ((s : DiskState) → P s → P (f s)) → Now P m → Runs m (after f m)
  steps f None keeps now = record { since = refl; now = tt }
  steps f (Some m) keeps now = record { since = (f m.now ∷ [], (keeps m.now now, tt), refl); now = keeps m.now now }

  pub since_both : (a b c : Option DiskModel) → Since P a b → Since P b c → Since P a c
  since_both None b c first second = subst (λ (m : Option DiskModel). Since P m c) first second
  since_both (Some a) None c first second = absurd first
  since_both (Some a) (Some b) None first second = absurd second
  since_both (Some a) (Some b) (Some c) first second =
      (second.0 ++ first.0, all_both P second.0 first.0 second.1 first.1, second.2 ∙ ap (λ (l : List DiskState). second.0 ++ l) first.2 ∙ sym (append_assoc second.0 first.0 (a.now ∷ a.past)))

  pub then_runs : (a b c : Option DiskModel) → Runs a b → Runs b c → Runs a c
  then_runs a b c first second = record { since = since_both a b c first.since second.since; now = second.now }

  -- a write that failed, and one that did not, where each write of the range keeps P
  pub torn_runs : (at n : ℕ) (old new : Option DiskModel) → ((torn : List ℕ) (s : DiskState) → length torn ≤ n → P s → P (wrote_to at torn (at + n) s)) → Now P old → IsTorn at n old new → Runs old new
  torn_runs at n old new keeps now (inl same) = subst (λ (m : Option DiskModel). Runs old m) (sym same) (stays old now)
  torn_runs at n old new keeps now (inr torn) = subst (λ (m : Option DiskModel). Runs old m) (sym torn.2) (steps (wrote_to at torn.0 (at + n)) old (λ s has. keeps torn.0 s torn.1 has) now)

  pub step_runs : (f : DiskState → DiskState) (old new : Option DiskModel) → ((s : DiskState) → P s → P (f s)) → Now P old → new ≡ after f old → Runs old new
  step_runs f old new keeps now is = subst (λ (m : Option DiskModel). Runs old m) (sym is) (steps f old keeps now)

  pub same_runs : (old new : Option DiskModel) → Now P old → new ≡ old → Runs old new
  same_runs old new now is = subst (λ (m : Option DiskModel). Runs old m) (sym is) (stays old now)

each_more : (P Q : DiskState → Type 0) (xs : List DiskState) → ((s : DiskState) → P s → Q s) → Each P xs → Each Q xs
each_more P Q [] more all = tt
each_more P Q (x ∷ xs) more all = (more x all.0, each_more P Q xs more all.1)

pub since_more : (P Q : DiskState → Type 0) (old new : Option DiskModel) → ((s : DiskState) → P s → Q s) → Since P old new → Since Q old new
since_more P Q None new more since = since
since_more P Q (Some m) None more since = absurd since
since_more P Q (Some m) (Some n) more since = (since.0, each_more P Q since.0 more since.1, since.2)

-- the last moment is one of them, or the old one
pub since_now : (P : DiskState → Type 0) (old new : Option DiskModel) → Now P old → Since P old new → Now P new
since_now P None new now since = subst (λ (m : Option DiskModel). Now P m) (sym since) tt
since_now P (Some m) None now since = absurd since
since_now P (Some m) (Some n) now since = newest since.0 since.1 since.2
  where
    head : DiskState → List DiskState → DiskState
    head d [] = d
    head d (x ∷ xs) = x

    newest : (added : List DiskState) → Each P added → n.now ∷ n.past ≡ added ++ m.now ∷ m.past → P n.now
    newest [] all is = subst P (sym (ap (head m.now) is)) now
    newest (x ∷ xs) all is = subst P (sym (ap (head m.now) is)) all.0
