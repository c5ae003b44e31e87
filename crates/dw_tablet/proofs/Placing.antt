-- One step of putting a span among others.
use Rattle.std.proofs.Common.{◌≡◌, List, [], ◌∷◌, ◌++◌, refl, sym, ap, ◌∙◌, true, false, cond}
use Rattle.std.proofs.lemmas.Bool.{cond-true, cond-false}
use Rattle.dw_tablet.specs.declared.span.Span.{Span}
use Rattle.dw_tablet.specs.Places.{below, joined, with_span}

pub closed : (all rest : List Span) (old : Span) → (all ++ old ∷ []) ++ rest ≡ all ++ (old ∷ rest)
closed [] rest old = refl
closed (s ∷ all) rest old = ap (λ l. s ∷ l) (closed all rest old)

pub lower : (all rest : List Span) (old now : Span) → below old.upto now.from ≡ true → (all ++ old ∷ []) ++ with_span rest now ≡ all ++ with_span (old ∷ rest) now
lower all rest old now h =
    closed all (with_span rest now) old
    ∙ ap (λ l. all ++ l) (sym (cond-true (below old.upto now.from) (old ∷ with_span rest now) (cond (below now.upto old.from) (now ∷ old ∷ rest) (with_span rest (joined old now))) h))

pub higher : (all rest : List Span) (old now : Span) → below old.upto now.from ≡ false → below now.upto old.from ≡ true → ((all ++ now ∷ []) ++ old ∷ []) ++ rest ≡ all ++ with_span (old ∷ rest) now
higher all rest old now h k =
    closed (all ++ now ∷ []) rest old
    ∙ (closed all (old ∷ rest) now
    ∙ ap (λ l. all ++ l)
    (sym (cond-false (below old.upto now.from) (old ∷ with_span rest now) (cond (below now.upto old.from) (now ∷ old ∷ rest) (with_span rest (joined old now))) h
    ∙ cond-true (below now.upto old.from) (now ∷ old ∷ rest) (with_span rest (joined old now)) k)))

pub meeting : (all rest : List Span) (old now : Span) → below old.upto now.from ≡ false → below now.upto old.from ≡ false → all ++ with_span rest (joined old now) ≡ all ++ with_span (old ∷ rest) now
meeting all rest old now h k =
    ap (λ l. all ++ l)
    (sym (cond-false (below old.upto now.from) (old ∷ with_span rest now) (cond (below now.upto old.from) (now ∷ old ∷ rest) (with_span rest (joined old now))) h
    ∙ cond-false (below now.upto old.from) (now ∷ old ∷ rest) (with_span rest (joined old now)) k))
