-- The first place that is not covered.
use Rattle.std.proofs.Common.{◌≡◌, ℕ, List, [], ◌∷◌, refl, sym, ap, ◌∙◌, subst, Bool, true, false, not, cond, ◌&&◌}
use Rattle.std.specs.Prelude.{filter, Some, None, unwrap_or}
use Rattle.std.specs.List.{AllByRecursion}
use Rattle.std.proofs.lemmas.Bool.{or_left, or_right, and_left, and_right, and_from, or_from, and_parts, not_from_true, not_from_false, not-true}
use Rattle.dw_tablet.specs.declared.span.Span.{Span}
use Rattle.dw_tablet.specs.Places.{below, in_span, covers, IsApart, AgreesAt, CoversAll, IsGap, gap, covered_upto, between}
use Rattle.dw_tablet.proofs.Order.{not_itself, past, clash, upto_below, below_upto, upto, back}

-- a place before the span is not in it
pub in_before : (s : Span) (p : List ℕ) → below p s.from ≡ true → in_span s p ≡ false
in_before s p h = and_left (not (below p s.from)) (below p s.upto) (not_from_true (below p s.from) h)

pub in_after : (s : Span) (p : List ℕ) → below p s.upto ≡ false → in_span s p ≡ false
in_after s p h = and_right (not (below p s.from)) (below p s.upto) h

pub in_it : (s : Span) (p : List ℕ) → below p s.from ≡ false → below p s.upto ≡ true → in_span s p ≡ true
in_it s p h k = and_from (not (below p s.from)) (below p s.upto) (not_from_false (below p s.from) h) k

-- spans that begin after the place do not cover it
pub before_all : (ss : List Span) (p q : List ℕ) → AllByRecursion (λ t. below p t.from ≡ true) ss → below p q ≡ false → covers ss q ≡ false
before_all [] p q h k = refl
before_all (s ∷ ss) p q h k = or_from (in_span s q) (covers ss q) (in_before s q (upto_below q p s.from k h.0)) (before_all ss p q h.1 k)

pub all_past : (ss : List Span) (p q : List ℕ) → below p q ≡ true → AllByRecursion (λ t. below q t.from ≡ true) ss → AllByRecursion (λ t. below p t.from ≡ true) ss
all_past [] p q h k = tt
all_past (s ∷ ss) p q h k = (past p q s.from h k.0, all_past ss p q h k.1)

none_in : (p r : List ℕ) → below r p ≡ false → below r p ≡ true → ⊥
none_in p r h k = clash k h

gap_at_p : (spans : List Span) (p : List ℕ) → covers spans p ≡ false → IsGap spans p p
gap_at_p spans p h = record { after = not_itself p; covered = λ r f t. absurd (none_in p r f t); missing = h }

first_case : (s : Span) (ss : List Span) (p : List ℕ) → IsApart (s ∷ ss) → (b d : Bool) → below p s.from ≡ b → below p s.upto ≡ d → IsGap ss p (gap ss p)
    → IsGap (s ∷ ss) p (unwrap_or (cond b None (cond d (Some s.upto) (covered_upto ss p))) p)
first_case s ss p a true d e f g =
    gap_at_p (s ∷ ss) p (or_from (in_span s p) (covers ss p) (in_before s p e)
    (before_all ss p p (all_past ss p s.upto (past p s.from s.upto e a.0) a.1) (not_itself p)))
first_case s ss p a false true e f g = record {
  after = back p s.upto f;
  covered = λ r h k. or_left (in_span s r) (covers ss r) (in_it s r (upto s.from p r e h) k);
  missing = or_from (in_span s s.upto) (covers ss s.upto) (in_after s s.upto (not_itself s.upto)) (before_all ss s.upto s.upto a.1 (not_itself s.upto));
}
first_case s ss p a false false e f g = record {
  after = g.after;
  covered = λ r h k. or_right (in_span s r) (covers ss r) (g.covered r h k);
  missing = or_from (in_span s (gap ss p)) (covers ss (gap ss p)) (in_after s (gap ss p) (upto s.upto p (gap ss p) f g.after)) g.missing;
}

pub gap_is : (spans : List Span) (p : List ℕ) → IsApart spans → IsGap spans p (gap spans p)
gap_is [] p a = gap_at_p [] p refl
gap_is (s ∷ ss) p a = first_case s ss p a (below p s.from) (below p s.upto) refl refl (gap_is ss p a.2)

-- all is covered before a gap
pub covers_before : (spans : List Span) (p q b : List ℕ) → IsGap spans p q → below q b ≡ false → CoversAll spans p b
covers_before spans p q b g h = λ r f t. g.covered r f (below_upto r b q t h)

-- a test that follows from another passes the same items
filter_step : (x : List ℕ) (p q : Bool) (xs ys zs : List (List ℕ)) (f : List ℕ → Bool) → f x ≡ q → (q ≡ true → p ≡ true) → filter f ys ≡ zs
    → filter f (cond p (x ∷ ys) ys) ≡ cond q (x ∷ zs) zs
filter_step x true q xs ys zs f e h k = ap (λ b. cond b (x ∷ filter f ys) (filter f ys)) e ∙ ap (λ l. cond q (x ∷ l) l) k
filter_step x false true xs ys zs f e h k = absurd (clash (h refl) refl)
filter_step x false false xs ys zs f e h k = k

pub filter_twice : (p q : List ℕ → Bool) (xs : List (List ℕ)) → ((x : List ℕ) → q x ≡ true → p x ≡ true) → filter q (filter p xs) ≡ filter q xs
filter_twice p q [] h = refl
filter_twice p q (x ∷ xs) h = filter_step x (p x) (q x) xs (filter p xs) (filter q xs) q refl (h x) (filter_twice p q xs h)

-- where all places from `a` on and before `b` are covered, tablet and content have the same keys there
pub same_between : (a b : List ℕ) (spans : List Span) (keys content : List (List ℕ)) → AgreesAt spans keys content → CoversAll spans a b → between a b content ≡ between a b keys
same_between a b spans keys content g all =
    sym (filter_twice (λ c. covers spans c) (λ c. not (below c a) && below c b) content
    (λ c h. let w = and_parts (not (below c a)) (below c b) h in all c (not-true (below c a) w.0) w.1))
    ∙ ap (between a b) g

pub gap_found : (spans items : List Span) (p q : List ℕ) → spans ≡ items → IsApart items → q ≡ gap items p → IsGap spans p q
gap_found spans items p q e a f = subst (λ s. IsGap s p q) (sym e) (subst (IsGap items p) (sym f) (gap_is items p a))

pub covers_to_end : (spans items : List Span) (p q end : List ℕ) → spans ≡ items → IsApart items → q ≡ gap items p → below q end ≡ false → CoversAll spans p end
covers_to_end spans items p q end e a f h = covers_before spans p q end (gap_found spans items p q e a f) h
