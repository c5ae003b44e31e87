-- A key that meets what is wanted stands in the span that is read for it.
use Rattle.std.proofs.Common.{◌≡◌, ◌⊎◌, inl, inr, ℕ, zero, suc, ◌+◌, ◌<◌, ◌≤◌, ◌==◌, Bool, true, false, cond, not, ◌&&◌, nat_eq, List, [], ◌∷◌, ◌++◌, length, take, refl, sym, ap, subst, ◌∙◌, arith}
use Rattle.std.specs.List.{starts_with}
use Rattle.std.specs.Cmp.{nat_cmp_is, unsigned_tied}
use Rattle.std.specs.Cmp.Lexicographic.{slice_cmp, nat_list_cmp_total}
use Rattle.std.specs.Ordering.{nat_cmp, ordering_then, ordering_reverse, match_ordering, MatchOrdering, is_le, is_lt, is_eq}
use Rattle.std.specs.declared.cmp.Ordering.{Ordering}
use Rattle.std.specs.declared.cmp.Ordering.TheVariants.{Less, Equal, Greater}
use Rattle.std.proofs.lemmas.Cmp.{ranked}
use Rattle.std.proofs.lemmas.Bool.{and_parts, eqb-true}
use Rattle.std.proofs.lemmas.List.{append-nil}
use Rattle.dw_key.specs.KeyCode.{escaped, part_code}
use Rattle.dw_key.proofs.Escapes.{part_code-then, ordering_then-assoc}
use Rattle.dw_key.proofs.Prefixes.{parts_keep_order}
use Rattle.dw_outside.specs.Tables.{is_in_span}
use Rattle.dw_derive.specs.Meta.{bit}
use Rattle.dw_plan.specs.Spans.{past, past_byte, row_edge}

abbrev cmp : List ℕ → List ℕ → Ordering
cmp = slice_cmp nat_cmp

below : (a b : ℕ) → a < b → nat_cmp a b ≡ Less
below a b lt = sym (nat_cmp_is a b Less lt)

above : (a b : ℕ) → b < a → nat_cmp a b ≡ Greater
above a b gt = sym (nat_cmp_is a b Greater gt)

same : (a b : ℕ) → a ≡ b → nat_cmp a b ≡ Equal
same a b e = sym (nat_cmp_is a b Equal e)

-- the upper bound of a span, where there is one
abbrev pub is_before : List ℕ → List ℕ → Bool
is_before [] key = true
is_before (b ∷ bs) key = is_lt (cmp key (b ∷ bs))

pub in_span : (from before key : List ℕ) → is_le (cmp from key) ≡ true → is_before before key ≡ true → is_in_span from before key ≡ true
in_span from [] key low high = low
in_span from (b ∷ bs) key low high = ap (λ t. t && is_lt (cmp key (b ∷ bs))) low ∙ high

pub lower : (before key : List ℕ) → is_lt (cmp key before) ≡ true → is_before before key ≡ true
lower [] key h = refl
lower (b ∷ bs) key h = h

-- ---- past all that begin with some bytes

abbrev pub Upto : List ℕ → List ℕ → Type 0
Upto key front = (starts_with nat_eq key front ≡ true) ⊎ (cmp key front ≡ Less)

nothing_before : (d : ℕ) (ps : List ℕ) → is_before (past_byte d ps) [] ≡ true
nothing_before d [] = at (d == 255)
  where
    at : (t : Bool) → is_before (cond t [] ((d + 1) ∷ [])) [] ≡ true
    at true = refl
    at false = refl
nothing_before d (c ∷ cs) = refl

-- a byte below
less_before : (y d : ℕ) (ys ps : List ℕ) → y < d → is_before (past_byte d ps) (y ∷ ys) ≡ true
less_before y d ys [] lt = at (d == 255)
  where
    at : (t : Bool) → is_before (cond t [] ((d + 1) ∷ [])) (y ∷ ys) ≡ true
    at true = refl
    at false = ap (λ r. is_lt (ordering_then r (cmp ys []))) (below y (d + 1) (omega arith))
less_before y d ys (c ∷ cs) lt = ap (λ r. is_lt (ordering_then r (cmp ys (c ∷ cs)))) (below y d lt)

-- the same byte
same_before : (y d : ℕ) (ys ps : List ℕ) → y ≡ d → is_before ps ys ≡ true → is_before (past_byte d ps) (y ∷ ys) ≡ true
same_before y d ys [] e h = at (d == 255)
  where
    at : (t : Bool) → is_before (cond t [] ((d + 1) ∷ [])) (y ∷ ys) ≡ true
    at true = refl
    at false = ap (λ r. is_lt (ordering_then r (cmp ys []))) (below y (d + 1) (omega arith))
same_before y d ys (c ∷ cs) e h = ap (λ r. is_lt (ordering_then r (cmp ys (c ∷ cs)))) (same y d e) ∙ h

pub before_past : (front key : List ℕ) → Upto key front → is_before (past front) key ≡ true
before_past [] key h = refl
before_past (d ∷ ds) [] h = nothing_before d (past ds)
before_past (d ∷ ds) (y ∷ ys) (inl h) =
    let p = and_parts (nat_eq d y) (starts_with nat_eq ys ds) h in
    same_before y d ys (past ds) (sym (eqb-true d y p.0)) (before_past ds ys (inl p.1))
before_past (d ∷ ds) (y ∷ ys) (inr h) = at (nat_cmp y d) (ranked y d (nat_cmp y d) refl) h (λ k. before_past ds ys (inr k))
  where
    at : (r : Ordering) → MatchOrdering r (y < d) (y ≡ d) (d < y) → ordering_then r (cmp ys ds) ≡ Less → (cmp ys ds ≡ Less → is_before (past ds) ys ≡ true) → is_before (past_byte d (past ds)) (y ∷ ys) ≡ true
    at Less m k rest = less_before y d ys (past ds) m
    at Equal m k rest = same_before y d ys (past ds) m (rest k)
    at Greater m k rest = cc

pub from_front : (front key : List ℕ) → starts_with nat_eq key front ≡ true → is_le (cmp front key) ≡ true
from_front [] [] h = refl
from_front [] (y ∷ ys) h = refl
from_front (d ∷ ds) [] h = cc
from_front (d ∷ ds) (y ∷ ys) h =
    let p = and_parts (nat_eq d y) (starts_with nat_eq ys ds) h in
    ap (λ r. is_le (ordering_then r (cmp ds ys))) (same d y (eqb-true d y p.0)) ∙ from_front ds ys p.1

-- ---- what stands in front of both

pub cmp_behind : (p x y : List ℕ) → cmp (p ++ x) (p ++ y) ≡ cmp x y
cmp_behind [] x y = refl
cmp_behind (b ∷ p) x y = ap (λ r. ordering_then r (cmp (p ++ x) (p ++ y))) (same b b refl) ∙ cmp_behind p x y

itself : (b : ℕ) → nat_eq b b ≡ true
itself b = sym (unsigned_tied b b) ∙ ap is_eq (same b b refl)

starts_behind : (p x y : List ℕ) → starts_with nat_eq (p ++ x) (p ++ y) ≡ starts_with nat_eq x y
starts_behind [] x y = refl
starts_behind (b ∷ p) x y = ap (λ t. t && starts_with nat_eq (p ++ x) (p ++ y)) (itself b) ∙ starts_behind p x y

pub upto_behind : (p x y : List ℕ) → Upto x y → Upto (p ++ x) (p ++ y)
upto_behind p x y (inl h) = inl (starts_behind p x y ∙ h)
upto_behind p x y (inr h) = inr (cmp_behind p x y ∙ h)

-- ---- the days of a row and a field

not_le : {A : Type 0} (r o : Ordering) → r ≡ Greater → is_le (ordering_then r o) ≡ true → A
not_le Less o e h = cc
not_le Equal o e h = cc
not_le Greater o e h = cc

-- a text from the first day on is escaped from it on
pub from_day : (a s x : List ℕ) (n : ℕ) → is_le (cmp a (take n s)) ≡ true → is_le (cmp (escaped a) (escaped s ++ x)) ≡ true
from_day [] s x n h = at (escaped s ++ x)
  where
    at : (ys : List ℕ) → is_le (cmp [] ys) ≡ true
    at [] = refl
    at (y ∷ ys) = refl
from_day (b ∷ bs) s x zero h = cc
from_day (b ∷ bs) [] x (suc n) h = cc
from_day (zero ∷ bs) (zero ∷ s) x (suc n) h = from_day bs s x n h
from_day (zero ∷ bs) (suc c ∷ s) x (suc n) h = ap (λ r. is_le (ordering_then r (cmp (255 ∷ escaped bs) (escaped s ++ x)))) (below 0 (suc c) (omega arith))
from_day (suc b ∷ bs) (zero ∷ s) x (suc n) h = not_le (nat_cmp (suc b) 0) _ (above (suc b) 0 (omega arith)) h
from_day (suc b ∷ bs) (suc c ∷ s) x (suc n) h = at (nat_cmp (suc b) (suc c)) h (from_day bs s x n)
  where
    at : (r : Ordering) → is_le (ordering_then r (cmp bs (take n s))) ≡ true → (is_le (cmp bs (take n s)) ≡ true → is_le (cmp (escaped bs) (escaped s ++ x)) ≡ true) → is_le (ordering_then r (cmp (escaped bs) (escaped s ++ x))) ≡ true
    at Less k rest = refl
    at Equal k rest = rest k
    at Greater k rest = cc

-- and one up to the last day is at most what begins with it
pub upto_day : (n : ℕ) (a b x : List ℕ) → n ≤ length a → is_le (cmp (take n a) b) ≡ true → Upto (escaped a ++ x) (escaped (take n b))
upto_day zero a b x long h = inl (at (escaped a ++ x))
  where
    at : (ys : List ℕ) → starts_with nat_eq ys [] ≡ true
    at [] = refl
    at (y ∷ ys) = refl
upto_day (suc n) [] b x long h = absurd (omega arith)
upto_day (suc n) (c ∷ a) [] x long h = inl (at (escaped (c ∷ a) ++ x))
  where
    at : (ys : List ℕ) → starts_with nat_eq ys [] ≡ true
    at [] = refl
    at (y ∷ ys) = refl
upto_day (suc n) (zero ∷ a) (zero ∷ b) x long h = upto_behind (0 ∷ 255 ∷ []) (escaped a ++ x) (escaped (take n b)) (upto_day n a b x (omega arith) h)
upto_day (suc n) (zero ∷ a) (suc d ∷ b) x long h = inr (ap (λ r. ordering_then r (cmp (255 ∷ (escaped a ++ x)) (escaped (take n b)))) (below 0 (suc d) (omega arith)))
upto_day (suc n) (suc c ∷ a) (zero ∷ b) x long h = not_le (nat_cmp (suc c) 0) _ (above (suc c) 0 (omega arith)) h
upto_day (suc n) (suc c ∷ a) (suc d ∷ b) x long h = at (nat_cmp (suc c) (suc d)) refl (ranked (suc c) (suc d) (nat_cmp (suc c) (suc d)) refl) h (upto_day n a b x (omega arith))
  where
    at : (r : Ordering) → nat_cmp (suc c) (suc d) ≡ r → MatchOrdering r (suc c < suc d) (suc c ≡ suc d) (suc d < suc c) → is_le (ordering_then r (cmp (take n a) b)) ≡ true
        → (is_le (cmp (take n a) b) ≡ true → Upto (escaped a ++ x) (escaped (take n b))) → Upto (suc c ∷ (escaped a ++ x)) (suc d ∷ escaped (take n b))
    at Less e m k rest = inr (ap (λ r. ordering_then r (cmp (escaped a ++ x) (escaped (take n b)))) e)
    at Equal e m k rest = subst (λ z. Upto (suc c ∷ (escaped a ++ x)) (z ∷ escaped (take n b))) m (upto_behind (suc c ∷ []) (escaped a ++ x) (escaped (take n b)) (rest k))
    at Greater e m k rest = cc

-- ---- the rows of a range

-- a key of a row against the end of another
edge_parts : (p q x : List ℕ) → cmp (escaped p ++ 0 ∷ 0 ∷ x) (escaped q ++ 0 ∷ 1 ∷ []) ≡ ordering_then (cmp p q) Less
edge_parts [] [] x = refl
edge_parts [] (zero ∷ q) x = refl
edge_parts [] (suc b ∷ q) x = ap (λ r. ordering_then r (cmp (0 ∷ x) (escaped q ++ 0 ∷ 1 ∷ []))) (below 0 (suc b) (omega arith))
edge_parts (zero ∷ p) [] x = refl
edge_parts (suc a ∷ p) [] x = ap (λ r. ordering_then r (cmp (escaped p ++ 0 ∷ 0 ∷ x) (1 ∷ []))) (above (suc a) 0 (omega arith))
edge_parts (zero ∷ p) (zero ∷ q) x = edge_parts p q x
edge_parts (zero ∷ p) (suc b ∷ q) x =
    ap (λ r. ordering_then r (cmp (255 ∷ (escaped p ++ 0 ∷ 0 ∷ x)) (escaped q ++ 0 ∷ 1 ∷ []))) (below 0 (suc b) (omega arith))
    ∙ sym (ap (λ r. ordering_then (ordering_then r (cmp p q)) Less) (below 0 (suc b) (omega arith)))
edge_parts (suc a ∷ p) (zero ∷ q) x =
    ap (λ r. ordering_then r (cmp (escaped p ++ 0 ∷ 0 ∷ x) (255 ∷ (escaped q ++ 0 ∷ 1 ∷ [])))) (above (suc a) 0 (omega arith))
    ∙ sym (ap (λ r. ordering_then (ordering_then r (cmp p q)) Less) (above (suc a) 0 (omega arith)))
edge_parts (suc a ∷ p) (suc b ∷ q) x =
    ap (ordering_then (nat_cmp (suc a) (suc b))) (edge_parts p q x)
    ∙ sym (ordering_then-assoc (nat_cmp (suc a) (suc b)) (cmp p q) Less)

row_against_end : (p q x : List ℕ) → cmp (part_code p ++ x) (row_edge q 1) ≡ ordering_then (cmp p q) Less
row_against_end p q x = ap (λ y. cmp y (row_edge q 1)) (part_code-then p x) ∙ edge_parts p q x

row_against_start : (p q x : List ℕ) → cmp (part_code p ++ x) (row_edge q 0) ≡ ordering_then (cmp p q) (cmp x [])
row_against_start p q x = ap (cmp (part_code p ++ x)) (sym (append-nil (row_edge q 0))) ∙ parts_keep_order p q x []

turned : (a b : List ℕ) → cmp a b ≡ ordering_reverse (cmp b a)
turned a b = nat_list_cmp_total.antisymm a b

le_turned : (a b : List ℕ) (r : Ordering) → cmp b a ≡ r → is_le (ordering_reverse r) ≡ true → is_le (cmp a b) ≡ true
le_turned a b r e h = ap is_le (turned a b ∙ ap ordering_reverse e) ∙ h

-- nothing is below the empty text
least : (x : List ℕ) → is_le (ordering_reverse (cmp x [])) ≡ true
least [] = refl
least (y ∷ ys) = refl

-- a row at or past the lower end
pub from_edge : (row low x : List ℕ) (edge : Bool) → match_ordering (cmp row low) false edge true ≡ true → is_le (cmp (row_edge low (bit (not edge))) (part_code row ++ x)) ≡ true
from_edge row low x true h = at (cmp row low) refl h
  where
    at : (r : Ordering) → cmp row low ≡ r → match_ordering r false true true ≡ true → is_le (cmp (row_edge low 0) (part_code row ++ x)) ≡ true
    at Less e k = cc
    at Equal e k = le_turned (row_edge low 0) (part_code row ++ x) (cmp x []) (row_against_start row low x ∙ ap (λ r. ordering_then r (cmp x [])) e) (least x)
    at Greater e k = le_turned (row_edge low 0) (part_code row ++ x) Greater (row_against_start row low x ∙ ap (λ r. ordering_then r (cmp x [])) e) refl
from_edge row low x false h = at (cmp row low) refl h
  where
    at : (r : Ordering) → cmp row low ≡ r → match_ordering r false false true ≡ true → is_le (cmp (row_edge low 1) (part_code row ++ x)) ≡ true
    at Less e k = cc
    at Equal e k = cc
    at Greater e k = le_turned (row_edge low 1) (part_code row ++ x) Greater (row_against_end row low x ∙ ap (λ r. ordering_then r Less) e) refl

-- a row at or before the upper end
pub to_edge : (row high x : List ℕ) (edge : Bool) → match_ordering (cmp row high) true edge false ≡ true → is_lt (cmp (part_code row ++ x) (row_edge high (bit edge))) ≡ true
to_edge row high x true h = at (cmp row high) refl h
  where
    at : (r : Ordering) → cmp row high ≡ r → match_ordering r true true false ≡ true → is_lt (cmp (part_code row ++ x) (row_edge high 1)) ≡ true
    at Less e k = ap is_lt (row_against_end row high x ∙ ap (λ r. ordering_then r Less) e)
    at Equal e k = ap is_lt (row_against_end row high x ∙ ap (λ r. ordering_then r Less) e)
    at Greater e k = cc
to_edge row high x false h = at (cmp row high) refl h
  where
    at : (r : Ordering) → cmp row high ≡ r → match_ordering r true false false ≡ true → is_lt (cmp (part_code row ++ x) (row_edge high 0)) ≡ true
    at Less e k = ap is_lt (row_against_start row high x ∙ ap (λ r. ordering_then r (cmp x [])) e)
    at Equal e k = cc
    at Greater e k = cc

-- ---- the rows that begin with a text

no_byte : {A : Type 0} (a b : ℕ) → (a < b) ⊎ (b < a) → nat_eq a b ≡ true → A
no_byte a b (inl lt) e = let q = eqb-true a b e in absurd (omega (arith, q))
no_byte a b (inr lt) e = let q = eqb-true a b e in absurd (omega (arith, q))

pub escaped_front : (row front x : List ℕ) → starts_with nat_eq row front ≡ true → starts_with nat_eq (escaped row ++ x) (escaped front) ≡ true
escaped_front row [] x h = at (escaped row ++ x)
  where
    at : (ys : List ℕ) → starts_with nat_eq ys [] ≡ true
    at [] = refl
    at (y ∷ ys) = refl
escaped_front [] (f ∷ fs) x h = cc
escaped_front (zero ∷ row) (zero ∷ fs) x h = escaped_front row fs x h
escaped_front (zero ∷ row) (suc f ∷ fs) x h = no_byte (suc f) 0 (inr (omega arith)) (and_parts (nat_eq (suc f) 0) (starts_with nat_eq row fs) h).0
escaped_front (suc r ∷ row) (zero ∷ fs) x h = no_byte 0 (suc r) (inl (omega arith)) (and_parts (nat_eq 0 (suc r)) (starts_with nat_eq row fs) h).0
escaped_front (suc r ∷ row) (suc f ∷ fs) x h =
    let p = and_parts (nat_eq (suc f) (suc r)) (starts_with nat_eq row fs) h in
    ap (λ t. t && starts_with nat_eq (escaped row ++ x) (escaped fs)) p.0 ∙ escaped_front row fs x p.1
