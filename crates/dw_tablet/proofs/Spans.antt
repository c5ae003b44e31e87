-- Spans with one more.
use Rattle.std.proofs.Common.{◌≡◌, ℕ, List, [], ◌∷◌, refl, sym, ap, ◌∙◌, Bool, true, false, not, cond, ◌&&◌, ◌||◌}
use Rattle.std.specs.List.{AllByRecursion}
use Rattle.std.proofs.lemmas.Bool.{cond_both}
use Rattle.dw_tablet.specs.declared.span.Span.{Span}
use Rattle.dw_tablet.specs.Places.{below, in_span, covers, IsApart, joined, with_span}
use Rattle.dw_tablet.proofs.Order.{not_itself, past, clash, upto_below, below_upto, upto, back}

-- what holds of both beginnings holds of the first
pub lower_still : (q : List ℕ) (t s : Span) → below q t.from ≡ true → below q s.from ≡ true → below q (joined t s).from ≡ true
lower_still q t s h k = cond_both (below t.from s.from) t.from s.from (λ f. below q f ≡ true) (λ _. h) (λ _. k)

pub within_still : (end : List ℕ) (t s : Span) → below end t.upto ≡ false → below end s.upto ≡ false → below end (joined t s).upto ≡ false
within_still end t s h k = cond_both (below t.upto s.upto) s.upto t.upto (λ f. below end f ≡ false) (λ _. k) (λ _. h)

-- the joined span begins with neither after it, and ends with neither
from_left : (t s : Span) → below t.from (joined t s).from ≡ false
from_left t s = cond_both (below t.from s.from) t.from s.from (λ f. below t.from f ≡ false) (λ _. not_itself t.from) (λ e. e)

from_right : (t s : Span) → below s.from (joined t s).from ≡ false
from_right t s = cond_both (below t.from s.from) t.from s.from (λ f. below s.from f ≡ false) (λ e. back t.from s.from e) (λ _. not_itself s.from)

upto_left : (t s : Span) → below (joined t s).upto t.upto ≡ false
upto_left t s = cond_both (below t.upto s.upto) s.upto t.upto (λ f. below f t.upto ≡ false) (λ e. back t.upto s.upto e) (λ _. not_itself t.upto)

upto_right : (t s : Span) → below (joined t s).upto s.upto ≡ false
upto_right t s = cond_both (below t.upto s.upto) s.upto t.upto (λ f. below f s.upto ≡ false) (λ _. not_itself s.upto) (λ e. e)

pub joined_long : (t s : Span) → below t.from t.upto ≡ true → below (joined t s).from (joined t s).upto ≡ true
joined_long t s h = below_upto (joined t s).from t.upto (joined t s).upto (upto_below (joined t s).from t.from t.upto (from_left t s) h) (upto_left t s)

pub least_all : (q : List ℕ) (ts : List Span) (s : Span) → AllByRecursion (λ u. below q u.from ≡ true) ts → below q s.from ≡ true → AllByRecursion (λ u. below q u.from ≡ true) (with_span ts s)
least_all q [] s h k = (k, tt)
least_all q (t ∷ ts) s h k =
    cond_both (below t.upto s.from) (t ∷ with_span ts s) (cond (below s.upto t.from) (s ∷ t ∷ ts) (with_span ts (joined t s))) (AllByRecursion (λ u. below q u.from ≡ true))
    (λ _. (h.0, least_all q ts s h.1 k))
    (λ _. cond_both (below s.upto t.from) (s ∷ t ∷ ts) (with_span ts (joined t s)) (AllByRecursion (λ u. below q u.from ≡ true))
    (λ _. (k, (h.0, h.1))) (λ _. least_all q ts (joined t s) h.1 (lower_still q t s h.0 k)))

pub within_all : (end : List ℕ) (ts : List Span) (s : Span) → AllByRecursion (λ u. below end u.upto ≡ false) ts → below end s.upto ≡ false → AllByRecursion (λ u. below end u.upto ≡ false) (with_span ts s)
within_all end [] s h k = (k, tt)
within_all end (t ∷ ts) s h k =
    cond_both (below t.upto s.from) (t ∷ with_span ts s) (cond (below s.upto t.from) (s ∷ t ∷ ts) (with_span ts (joined t s))) (AllByRecursion (λ u. below end u.upto ≡ false))
    (λ _. (h.0, within_all end ts s h.1 k))
    (λ _. cond_both (below s.upto t.from) (s ∷ t ∷ ts) (with_span ts (joined t s)) (AllByRecursion (λ u. below end u.upto ≡ false))
    (λ _. (k, (h.0, h.1))) (λ _. within_all end ts (joined t s) h.1 (within_still end t s h.0 k)))

further : (ts : List Span) (p q : List ℕ) → below p q ≡ true → AllByRecursion (λ u. below q u.from ≡ true) ts → AllByRecursion (λ u. below p u.from ≡ true) ts
further [] p q h k = tt
further (t ∷ ts) p q h k = (past p q t.from h k.0, further ts p q h k.1)

-- they stay apart
pub apart_still : (ts : List Span) (s : Span) → IsApart ts → below s.from s.upto ≡ true → IsApart (with_span ts s)
apart_still [] s a h = (h, tt, tt)
apart_still (t ∷ ts) s a h =
    cond_both (below t.upto s.from) (t ∷ with_span ts s) (cond (below s.upto t.from) (s ∷ t ∷ ts) (with_span ts (joined t s))) IsApart
    (λ e. (a.0, least_all t.upto ts s a.1 e, apart_still ts s a.2 h))
    (λ _. cond_both (below s.upto t.from) (s ∷ t ∷ ts) (with_span ts (joined t s)) IsApart
    (λ e. (h, (e, further ts s.upto t.upto (past s.upto t.from t.upto e a.0) a.1), a))
    (λ _. apart_still ts (joined t s) a.2 (joined_long t s a.0)))

-- the joined span has the places of both, and no others
from_joined : (t s : Span) (p : List ℕ) → (b d : Bool) → below p t.from ≡ b → below p s.from ≡ d → below p (joined t s).from ≡ b && d
from_joined t s p true true e f = lower_still p t s e f
from_joined t s p false d e f = upto (joined t s).from t.from p (from_left t s) e
from_joined t s p true false e f = upto (joined t s).from s.from p (from_right t s) f

upto_joined : (t s : Span) (p : List ℕ) → (b d : Bool) → below p t.upto ≡ b → below p s.upto ≡ d → below p (joined t s).upto ≡ b || d
upto_joined t s p true d e f = below_upto p t.upto (joined t s).upto e (upto_left t s)
upto_joined t s p false true e f = below_upto p s.upto (joined t s).upto f (upto_right t s)
upto_joined t s p false false e f = within_still p t s e f

decide : (b d e f : Bool) → (b ≡ true → f ≡ true) → (d ≡ true → e ≡ true) → (not (b && d) && (e || f)) ≡ ((not b && e) || (not d && f))
decide true true e f h k = refl
decide true false true f h k = sym (h refl)
decide true false false f h k = refl
decide false true true f h k = refl
decide false true false f h k = absurd (clash (k refl) refl)
decide false false e f h k = refl

in_joined : (t s : Span) (p : List ℕ) → below t.upto s.from ≡ false → below s.upto t.from ≡ false → in_span (joined t s) p ≡ (in_span t p || in_span s p)
in_joined t s p h k =
    ap (λ b. not b && below p (joined t s).upto) (from_joined t s p (below p t.from) (below p s.from) refl refl)
    ∙ (ap (λ b. not (below p t.from && below p s.from) && b) (upto_joined t s p (below p t.upto) (below p s.upto) refl refl)
    ∙ decide (below p t.from) (below p s.from) (below p t.upto) (below p s.upto) (λ e. below_upto p t.from s.upto e k) (λ e. below_upto p s.from t.upto e h))

swap : (a b c : Bool) → (a || (b || c)) ≡ (b || (a || c))
swap true true c = refl
swap true false c = refl
swap false b c = refl

swap_joined : (a b c : Bool) → ((a || b) || c) ≡ (b || (a || c))
swap_joined true true c = refl
swap_joined true false c = refl
swap_joined false b c = refl

-- what is covered with one span more
pub covers_with : (ts : List Span) (s : Span) (p : List ℕ) → covers (with_span ts s) p ≡ (in_span s p || covers ts p)
covers_with [] s p = refl
covers_with (t ∷ ts) s p =
    cond_both (below t.upto s.from) (t ∷ with_span ts s) (cond (below s.upto t.from) (s ∷ t ∷ ts) (with_span ts (joined t s))) (λ l. covers l p ≡ (in_span s p || (in_span t p || covers ts p)))
    (λ _. ap (λ b. in_span t p || b) (covers_with ts s p) ∙ swap (in_span t p) (in_span s p) (covers ts p))
    (λ h. cond_both (below s.upto t.from) (s ∷ t ∷ ts) (with_span ts (joined t s)) (λ l. covers l p ≡ (in_span s p || (in_span t p || covers ts p)))
    (λ _. refl)
    (λ k. covers_with ts (joined t s) p ∙ (ap (λ b. b || covers ts p) (in_joined t s p h k) ∙ swap_joined (in_span t p) (in_span s p) (covers ts p))))
