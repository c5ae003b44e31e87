-- Loading a run keeps agreement.
use Rattle.std.proofs.Common.{◌≡◌, ℕ, List, [], ◌∷◌, ◌++◌, refl, sym, ap, ◌∙◌, Bool, true, false, not, ◌&&◌, ◌||◌, ◌⊎◌, inl, inr}
use Rattle.std.specs.Prelude.{filter}
use Rattle.std.specs.List.{AllByRecursion}
use Rattle.std.proofs.lemmas.Bool.{or_left, and_left, and_right, and_from, not_from_true, not_from_false}
use Rattle.dw_tablet.specs.declared.span.Span.{Span}
use Rattle.dw_tablet.specs.Places.{below, in_span, covers, Ascends, AgreesAt, with_span, with_run, between}
use Rattle.dw_tablet.proofs.Order.{past, upto, back}
use Rattle.dw_tablet.proofs.Gap.{in_before, in_after, in_it}
use Rattle.dw_tablet.proofs.Spans.{covers_with}
use Rattle.dw_tablet.proofs.Merged.{parted, Parts, IsLow, IsMid, IsHigh}

-- later keys are not before a place that this one is not before
none_before : (a k : List ℕ) (xs : List (List ℕ)) → below k a ≡ false → AllByRecursion (λ d. below k d ≡ true) xs → AllByRecursion (λ d. below d a ≡ false) xs
none_before a k [] h l = tt
none_before a k (x ∷ xs) h l = (upto a k x h (back k x l.0), none_before a k xs h l.1)

none_mid : (a b : List ℕ) (xs : List (List ℕ)) → AllByRecursion (λ d. below d b ≡ false) xs → AllByRecursion (λ d. (not (below d a) && below d b) ≡ false) xs
none_mid a b [] h = tt
none_mid a b (x ∷ xs) h = (and_right (not (below x a)) (below x b) h.0, none_mid a b xs h.1)

module _ (spans : List Span) (s : Span) where
  abbrev low : List ℕ → Bool
  low c = below c s.from

  abbrev mid : List ℕ → Bool
  mid c = not (below c s.from) && below c s.upto

  abbrev high : List ℕ → Bool
  high c = not (below c s.upto)

  abbrev old : List ℕ → Bool
  old c = covers spans c

  abbrev new : List ℕ → Bool
  new c = covers (with_span spans s) c

  kind : (x : List ℕ) (xs : List (List ℕ)) → below s.from s.upto ≡ true → AllByRecursion (λ d. below x d ≡ true) xs → (b d : Bool) → below x s.from ≡ b → below x s.upto ≡ d
      → (IsLow low mid high old new x ⊎ (IsMid low mid high old new x xs ⊎ IsHigh low mid high old new x xs))
  kind x xs long up true d e f = inl (record {
    is_low = e;
    not_mid = and_left (not (below x s.from)) (below x s.upto) (not_from_true (below x s.from) e);
    not_high = not_from_true (below x s.upto) (past x s.from s.upto e long);
    same = covers_with spans s x ∙ ap (λ b. b || covers spans x) (in_before s x e);
  })
  kind x xs long up false true e f = inr (inl (record {
    not_low = e;
    is_mid = and_from (not (below x s.from)) (below x s.upto) (not_from_false (below x s.from) e) f;
    not_high = not_from_true (below x s.upto) f;
    now = covers_with spans s x ∙ or_left (in_span s x) (covers spans x) (in_it s x e f);
    later = none_before s.from x xs e up;
  }))
  kind x xs long up false false e f = inr (inr (record {
    not_low = e;
    not_mid = and_right (not (below x s.from)) (below x s.upto) f;
    is_high = not_from_false (below x s.upto) f;
    same = covers_with spans s x ∙ ap (λ b. b || covers spans x) (in_after s x f);
    later = none_before s.from x xs e up;
    past = none_mid s.from s.upto xs (none_before s.upto x xs f up);
  }))

  parts : (content : List (List ℕ)) → below s.from s.upto ≡ true → Ascends content → Parts low mid high old new content
  parts [] long up = tt
  parts (x ∷ xs) long up = (kind x xs long up.0 (below x s.from) (below x s.upto) refl refl, parts xs long up.1)

  -- where the run is all of a content in the span, what agreed with the content agrees with it still
  pub agrees_still : (keys content run : List (List ℕ)) → Ascends content → AgreesAt spans keys content → below s.from s.upto ≡ true → run ≡ between s.from s.upto content
      → AgreesAt (with_span spans s) (with_run s.from s.upto run keys) content
  agrees_still keys content run up g long is =
      parted low mid high old new content (parts content long up)
      ∙ (ap (λ cs. filter low cs ++ (filter mid content ++ filter high cs)) g
      ∙ ap (λ r. filter low keys ++ (r ++ filter high keys)) (sym is))
