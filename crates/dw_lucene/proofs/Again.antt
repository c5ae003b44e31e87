-- The printed text of each query that is well made is read as that query.
use Rattle.std.proofs.Common.{◌≡◌, ℕ, ◌≤◌, Bool, true, false, cond, List, [], ◌∷◌, ◌++◌, length, map, refl, sym, ap, ◌∙◌, subst, arith, append_assoc, Some}
use Rattle.std.specs.Prelude.{not, ◌&&◌, ◌||◌, nat_lt, codes, chars, slice_index}
use Rattle.std.proofs.lemmas.Bool.{and_parts, and_from, ltb-true, false_from_ne_true}
use Rattle.std.proofs.lemmas.List.{append-nil}
use Rattle.dw_jexl.specs.declared.query.Op.{Op}
use Rattle.dw_jexl.specs.declared.query.Op.TheVariants.{Eq, Ne, Lt, Le, Gt, Ge}
use Rattle.dw_jexl.specs.declared.query.Query.{Query, map-Query}
use Rattle.dw_jexl.specs.declared.query.Query.TheVariants as query
use Rattle.dw_jexl.specs.declared.query.Query.TheOpen as layer
use Rattle.dw_jexl.specs.declared.query.Query.TheOpen.{Query-F}
use Rattle.dw_jexl.specs.declared.query.Query.TheViews.{roll-Query}
use Rattle.dw_jexl.specs.declared.query.Query.TheFolds.{fold-roll-Query, ind-Query}
use denote.Hole.Carrier.{roll}
use Rattle.dw_jexl.specs.declared.pattern.Piece.TheVariants.{Wild}
use Rattle.dw_jexl.specs.Grammar.{folded, joined, leaves}
use Rattle.dw_jexl.specs.Patterns.{is_right}
use Rattle.dw_jexl.specs.WellMade.{is_upper_field, are_all, are_several, well_made_step, is_well_made}
use Rattle.dw_jexl.specs.QueryLaws.{QueriesOfTextsAreWellMade}
use Rattle.dw_lucene.specs.declared.token.Token.{Token}
use Rattle.dw_lucene.specs.declared.token.Token.TheVariants.{Open, Close, Conjoin, Disjoin, Negate, To, Field, Bare, Quoted, Low, High}
use Rattle.dw_lucene.specs.Tokens.{is_special, ends_term, piece_of, piece, term, bare_token, term_token, sign_token, special_token, first_token, AreRead}
use Rattle.dw_jexl.specs.Tokens.{is_blank}
use Rattle.dw_lucene.specs.Grammar.{bare, quoted, end_of, ranged, Disjunction, one, more, Conjunction, alone, joins, Unary, negation, group, clause, range, disjunction_before, conjunction_before, unary_before, disjuncts, conjuncts, unary_query, query_of}
use Rattle.dw_lucene.specs.Patterns.{end_is_right, are_right}
use Rattle.dw_lucene.specs.Levels.{is_deep}
use Rattle.dw_lucene.specs.Spelling.{Spells}
use Rattle.dw_lucene.specs.Laws.{KeepsLimits, IsReadAs, PrintedTextsAreRead}
use Rattle.dw_lucene.specs.Printed.{string_of, bare_text, low_sign, high_sign, clause_text, range_text, compared_text, printed_step, Single, Several, Printed, child_text, children_text, printed, lucene_text, printable_step, is_printable}
use Rattle.dw_lucene.proofs.Wildcards.{pattern_back, leaf_back}
use Rattle.dw_lucene.proofs.Written.{Reads, ahead, beside, anywhere, free_right, spaced, open_read, close_read, and_read, or_read, not_read, string_read, IsUpper, upper_parts, field_read, bare_pieces, bare_read}

-- how each query is printed
cmp_printed : (w : List ℕ) (op : Op) (l : List ℕ) → printed (query.Cmp w op l) ≡ record { shape = Single; text = clause_text w (compared_text op l) }
unfolding roll-Query roll
cmp_printed w op l = fold-roll-Query Printed printed_step (layer.Cmp w op l)

pattern_printed : (w : List ℕ) (negated lead trail : Bool) (text : List ℕ) → printed (query.Pattern w negated lead trail text) ≡ record { shape = Single; text = clause_text w (bare_text lead trail text) }
unfolding roll-Query roll
pattern_printed w negated lead trail text = fold-roll-Query Printed printed_step (layer.Pattern w negated lead trail text)

bounded_printed : (w low : List ℕ) (low_open : Bool) (high : List ℕ) (high_open : Bool) → printed (query.Bounded w low low_open high high_open) ≡ record { shape = Single; text = clause_text w (range_text low_open (string_of low) (string_of high) high_open) }
unfolding roll-Query roll
bounded_printed w low low_open high high_open = fold-roll-Query Printed printed_step (layer.Bounded w low low_open high high_open)

not_printed : (q : Query) → printed (query.Not q) ≡ record { shape = Single; text = codes "NOT " ++ child_text (printed q) }
unfolding roll-Query roll
not_printed q = fold-roll-Query Printed printed_step (layer.Not q)

and_printed : (qs : List Query) → printed (query.And qs) ≡ record { shape = Several; text = children_text (codes " AND ") (map printed qs) }
unfolding roll-Query roll
and_printed qs = fold-roll-Query Printed printed_step (layer.And qs)

or_printed : (qs : List Query) → printed (query.Or qs) ≡ record { shape = Several; text = children_text (codes " OR ") (map printed qs) }
unfolding roll-Query roll
or_printed qs = fold-roll-Query Printed printed_step (layer.Or qs)

-- a query that has a text and is well made
pub record Fit (q : Query) : Type 0 where
  pub printable : is_printable q ≡ true
  pub made : is_well_made q ≡ true

cmp_fit : (w : List ℕ) (op : Op) (l : List ℕ) → Fit (query.Cmp w op l) → (printable_step (layer.Cmp w op l) ≡ true) × (is_upper_field w ≡ true)
unfolding roll-Query roll
cmp_fit w op l h = (sym (fold-roll-Query Bool printable_step (layer.Cmp w op l)) ∙ h.printable, sym (fold-roll-Query Bool well_made_step (layer.Cmp w op l)) ∙ h.made)

pattern_fit : (w : List ℕ) (negated lead trail : Bool) (text : List ℕ) → Fit (query.Pattern w negated lead trail text) → ((not negated && (lead || trail)) ≡ true) × ((is_upper_field w && nat_lt 0 (length text)) ≡ true)
unfolding roll-Query roll
pattern_fit w negated lead trail text h = (sym (fold-roll-Query Bool printable_step (layer.Pattern w negated lead trail text)) ∙ h.printable, sym (fold-roll-Query Bool well_made_step (layer.Pattern w negated lead trail text)) ∙ h.made)

bounded_fit : (w low : List ℕ) (low_open : Bool) (high : List ℕ) (high_open : Bool) → Fit (query.Bounded w low low_open high high_open) → is_upper_field w ≡ true
unfolding roll-Query roll
bounded_fit w low low_open high high_open h = sym (fold-roll-Query Bool well_made_step (layer.Bounded w low low_open high high_open)) ∙ h.made

not_fit : (q : Query) → Fit (query.Not q) → Fit q
unfolding roll-Query roll
not_fit q h = record { printable = sym (fold-roll-Query Bool printable_step (layer.Not q)) ∙ h.printable; made = sym (fold-roll-Query Bool well_made_step (layer.Not q)) ∙ h.made }

-- several queries that fit
record AreFit (qs : List Query) : Type 0 where
  several : are_several (map is_well_made qs) ≡ true
  made : are_all (map is_well_made qs) ≡ true
  printable : are_all (map is_printable qs) ≡ true

and_fit : (qs : List Query) → Fit (query.And qs) → AreFit qs
unfolding roll-Query roll
and_fit qs h =
    let m = and_parts _ _ (sym (fold-roll-Query Bool well_made_step (layer.And qs)) ∙ h.made) in
    record { several = m.0; made = m.1; printable = sym (fold-roll-Query Bool printable_step (layer.And qs)) ∙ h.printable }

or_fit : (qs : List Query) → Fit (query.Or qs) → AreFit qs
unfolding roll-Query roll
or_fit qs h =
    let m = and_parts _ _ (sym (fold-roll-Query Bool well_made_step (layer.Or qs)) ∙ h.made) in
    record { several = m.0; made = m.1; printable = sym (fold-roll-Query Bool printable_step (layer.Or qs)) ∙ h.printable }

-- A query, printed, is read as it: the whole text, and a child of another.
record Again (p : Printed) (q : Query) : Type 0 where
  whole : Disjunction
  whole_is : query_of whole ≡ q
  whole_read : Reads p.text (λ ts. disjunction_before whole ts)
  child : Unary
  child_is : unary_query child ≡ q
  child_read : Reads (child_text p) (λ ts. unary_before child ts)

at_end : (text : List ℕ) (tokens : List Token → List Token) → Reads text tokens → Reads (text ++ []) tokens
at_end text tokens r = subst (λ cs. Reads cs tokens) (sym (append-nil text)) r

grouped : (text : List ℕ) (d : Disjunction) → Reads text (λ ts. disjunction_before d ts) → Reads (codes "(" ++ (text ++ codes ")")) (λ ts. unary_before (group d) ts)
grouped text d r =
    ahead (codes "(") (text ++ codes ")") (λ ts. Open ∷ ts) (λ ts. disjunction_before d (Close ∷ ts)) open_read
    (beside text (codes ")") (λ ts. disjunction_before d ts) (λ ts. Close ∷ ts) r (anywhere (codes ")") (λ ts. Close ∷ ts) close_read) (λ cs. refl))

single_again : (text : List ℕ) (q : Query) (u : Unary) → unary_query u ≡ q → Reads text (λ ts. unary_before u ts) → Again (record { shape = Single; text = text }) q
single_again text q u e r =
    record {
      whole = one (alone u);
      whole_is = e;
      whole_read = r;
      child = u;
      child_is = e;
      child_read = at_end text (λ ts. unary_before u ts) r;
    }

several_again : (text : List ℕ) (q : Query) (d : Disjunction) → query_of d ≡ q → Reads text (λ ts. disjunction_before d ts) → Again (record { shape = Several; text = text }) q
several_again text q d e r =
    record {
      whole = d;
      whole_is = e;
      whole_read = r;
      child = group d;
      child_is = e;
      child_read = grouped text d r;
    }

not_again : (q : Query) → Again (printed q) q → Again (printed (query.Not q)) (query.Not q)
not_again q a =
    subst (λ p. Again p (query.Not q)) (sym (not_printed q))
    (single_again (codes "NOT " ++ child_text (printed q)) (query.Not q) (negation a.child) (ap query.Not a.child_is)
    (ahead (codes "NOT ") (child_text (printed q)) (λ ts. Negate ∷ ts) (λ ts. unary_before a.child ts) not_read a.child_read))

-- what is asked of a field, whatever follows it
record Asked (text : List ℕ) (tokens : List Token → List Token) : Type 0 where
  begins : (cs : List ℕ) → is_blank (slice_index (text ++ cs) 0) ≡ false
  read : (cs : List ℕ) (ts : List Token) (left : List ℕ) → AreRead cs ts left → AreRead (text ++ cs) (tokens ts) left

clause_is : (w asked cs : List ℕ) → folded w ≡ w → clause_text w asked ++ cs ≡ w ++ 58 ∷ (asked ++ cs)
unfolding clause_text
clause_is w asked cs e = append_assoc (folded w) (58 ∷ asked) cs ∙ ap (λ v. v ++ 58 ∷ (asked ++ cs)) e

asked_read : (w asked : List ℕ) (tokens : List Token → List Token) → IsUpper w → Asked asked tokens → ((ts : List Token) → are_right ts ≡ true → are_right (Field w ∷ tokens ts) ≡ true) → Reads (clause_text w asked) (λ ts. Field w ∷ tokens ts)
asked_read w asked tokens u a r =
    record {
      read = λ cs ts left e h. subst (λ xs. AreRead xs (Field w ∷ tokens ts) left) (sym (clause_is w asked cs u.same)) (field_read w (asked ++ cs) (tokens ts) left u (a.begins cs) (a.read cs ts left h));
      right = r;
    }

string_asked : (l : List ℕ) → Asked (string_of l) (λ ts. Quoted l ∷ ts)
unfolding is_blank
string_asked l = record { begins = λ cs. refl; read = λ cs ts left h. string_read l cs ts left h }

-- each kind of range
high_read : (high_open : Bool) (cs : List ℕ) (ts : List Token) (left : List ℕ) → AreRead cs ts left → AreRead (high_sign high_open ++ cs) (High high_open ∷ ts) left
unfolding is_blank is_special first_token special_token sign_token
high_read true cs ts left h = (1, refl, h)
high_read false cs ts left h = (1, refl, h)

low_read : (low_open : Bool) (cs : List ℕ) (ts : List Token) (left : List ℕ) → AreRead cs ts left → AreRead (low_sign low_open ++ cs) (Low low_open ∷ ts) left
unfolding is_blank is_special first_token special_token sign_token
low_read true cs ts left h = (1, refl, h)
low_read false cs ts left h = (1, refl, h)

low_begins : (low_open : Bool) (cs : List ℕ) → is_blank (slice_index (low_sign low_open ++ cs) 0) ≡ false
unfolding is_blank
low_begins true cs = refl
low_begins false cs = refl

to_read : (cs : List ℕ) (ts : List Token) (left : List ℕ) → AreRead cs ts left → AreRead (codes " TO " ++ cs) (To ∷ ts) left
unfolding is_blank is_special ends_term piece_of piece term bare_token term_token first_token
to_read cs ts left h = (2, refl, spaced cs ts left h)

to_star_read : (cs : List ℕ) (ts : List Token) (left : List ℕ) → AreRead cs ts left → AreRead (codes " TO *]" ++ cs) (To ∷ Bare (Wild ∷ []) ∷ High false ∷ ts) left
unfolding is_blank is_special ends_term piece_of piece term bare_token term_token sign_token special_token first_token
to_star_read cs ts left h = (2, refl, (1, refl, (1, refl, h)))

star_to_read : (cs : List ℕ) (ts : List Token) (left : List ℕ) → AreRead cs ts left → AreRead (codes "[* TO " ++ cs) (Low false ∷ Bare (Wild ∷ []) ∷ To ∷ ts) left
unfolding is_blank is_special ends_term piece_of piece term bare_token term_token sign_token special_token first_token
star_to_read cs ts left h = (1, refl, (1, refl, (2, refl, spaced cs ts left h)))

between_asked : (low_open : Bool) (l m : List ℕ) (high_open : Bool) → Asked (range_text low_open (string_of l) (string_of m) high_open) (λ ts. Low low_open ∷ Quoted l ∷ To ∷ Quoted m ∷ High high_open ∷ ts)
between_asked low_open l m high_open =
    let a = string_of l in
    let b = string_of m in
    let z = high_sign high_open in
    let tokens = λ (ts : List Token). Low low_open ∷ Quoted l ∷ To ∷ Quoted m ∷ High high_open ∷ ts in
    let flat = λ (cs : List ℕ). append_assoc (low_sign low_open) (a ++ (codes " TO " ++ (b ++ z))) cs ∙ ap (λ xs. low_sign low_open ++ xs) (append_assoc a (codes " TO " ++ (b ++ z)) cs ∙ ap (λ xs. a ++ (codes " TO " ++ xs)) (append_assoc b z cs)) in
    record {
      begins = λ cs. ap (λ xs. is_blank (slice_index xs 0)) (flat cs) ∙ low_begins low_open (a ++ (codes " TO " ++ (b ++ (z ++ cs))));
      read = λ cs ts left h.
          subst (λ xs. AreRead xs (tokens ts) left) (sym (flat cs))
          (low_read low_open (a ++ (codes " TO " ++ (b ++ (z ++ cs)))) (Quoted l ∷ To ∷ Quoted m ∷ High high_open ∷ ts) left
          (string_read l (codes " TO " ++ (b ++ (z ++ cs))) (To ∷ Quoted m ∷ High high_open ∷ ts) left
          (to_read (b ++ (z ++ cs)) (Quoted m ∷ High high_open ∷ ts) left
          (string_read m (z ++ cs) (High high_open ∷ ts) left (high_read high_open cs ts left h)))));
    }

from_asked : (low_open : Bool) (l : List ℕ) → Asked (range_text low_open (string_of l) (codes "*") false) (λ ts. Low low_open ∷ Quoted l ∷ To ∷ Bare (Wild ∷ []) ∷ High false ∷ ts)
from_asked low_open l =
    let a = string_of l in
    let z = codes " TO *]" in
    let flat = λ (cs : List ℕ). append_assoc (low_sign low_open) (a ++ z) cs ∙ ap (λ xs. low_sign low_open ++ xs) (append_assoc a z cs) in
    record {
      begins = λ cs. ap (λ xs. is_blank (slice_index xs 0)) (flat cs) ∙ low_begins low_open (a ++ (z ++ cs));
      read = λ cs ts left h.
          subst (λ xs. AreRead xs (Low low_open ∷ Quoted l ∷ To ∷ Bare (Wild ∷ []) ∷ High false ∷ ts) left) (sym (flat cs))
          (low_read low_open (a ++ (z ++ cs)) (Quoted l ∷ To ∷ Bare (Wild ∷ []) ∷ High false ∷ ts) left
          (string_read l (z ++ cs) (To ∷ Bare (Wild ∷ []) ∷ High false ∷ ts) left (to_star_read cs ts left h)));
    }

to_asked : (l : List ℕ) (high_open : Bool) → Asked (range_text false (codes "*") (string_of l) high_open) (λ ts. Low false ∷ Bare (Wild ∷ []) ∷ To ∷ Quoted l ∷ High high_open ∷ ts)
unfolding is_blank
to_asked l high_open =
    let a = string_of l in
    let z = high_sign high_open in
    record {
      begins = λ cs. refl;
      read = λ cs ts left h.
          subst (λ xs. AreRead (codes "[* TO " ++ xs) (Low false ∷ Bare (Wild ∷ []) ∷ To ∷ Quoted l ∷ High high_open ∷ ts) left) (sym (append_assoc a z cs))
          (star_to_read (a ++ (z ++ cs)) (Quoted l ∷ High high_open ∷ ts) left
          (string_read l (z ++ cs) (High high_open ∷ ts) left (high_read high_open cs ts left h)));
    }

range_right : (w : List ℕ) (low_open high_open : Bool) (a b : Token) → ((ts : List Token) → are_right (Low low_open ∷ a ∷ To ∷ b ∷ High high_open ∷ ts) ≡ are_right (High high_open ∷ ts)) → (ts : List Token) → are_right ts ≡ true → are_right (Field w ∷ Low low_open ∷ a ∷ To ∷ b ∷ High high_open ∷ ts) ≡ true
unfolding are_right
range_right w low_open high_open a b e ts h = e ts ∙ free_right (High high_open) (λ ps. refl) ts h

between_right : (low_open high_open : Bool) (l m : List ℕ) (ts : List Token) → are_right (Low low_open ∷ Quoted l ∷ To ∷ Quoted m ∷ High high_open ∷ ts) ≡ are_right (High high_open ∷ ts)
unfolding are_right
between_right low_open high_open l m ts = refl

from_right : (low_open : Bool) (l : List ℕ) (ts : List Token) → are_right (Low low_open ∷ Quoted l ∷ To ∷ Bare (Wild ∷ []) ∷ High false ∷ ts) ≡ are_right (High false ∷ ts)
unfolding are_right end_is_right
from_right low_open l ts = refl

to_right : (high_open : Bool) (l : List ℕ) (ts : List Token) → are_right (Low false ∷ Bare (Wild ∷ []) ∷ To ∷ Quoted l ∷ High high_open ∷ ts) ≡ are_right (High high_open ∷ ts)
unfolding are_right end_is_right
to_right high_open l ts = refl

string_right : (w l : List ℕ) (ts : List Token) → are_right ts ≡ true → are_right (Field w ∷ Quoted l ∷ ts) ≡ true
unfolding are_right
string_right w l ts h = free_right (Quoted l) (λ ps. refl) ts h

-- each kind of leaf
equal_again : (w : List ℕ) (l : List ℕ) → IsUpper w → Again (record { shape = Single; text = clause_text w (string_of l) }) (query.Cmp w Eq l)
equal_again w l u =
    single_again _ (query.Cmp w Eq l) (clause w u.field (quoted l)) (ap (λ v. query.Cmp v Eq l) u.same)
    (asked_read w (string_of l) (λ ts. Quoted l ∷ ts) u (string_asked l) (string_right w l))

from_by : (w : List ℕ) (low_open : Bool) (l : List ℕ) (op : Op) → IsUpper w → cond low_open Gt Ge ≡ op → ranged w low_open (end_of (quoted l)) (end_of (bare (Wild ∷ []))) false ≡ Some (query.Cmp w op l)
unfolding ranged
from_by w low_open l op u e = ap (λ v. Some (query.Cmp v (cond low_open Gt Ge) l)) u.same ∙ ap (λ o. Some (query.Cmp w o l)) e

to_by : (w : List ℕ) (l : List ℕ) (high_open : Bool) (op : Op) → IsUpper w → cond high_open Lt Le ≡ op → ranged w false (end_of (bare (Wild ∷ []))) (end_of (quoted l)) high_open ≡ Some (query.Cmp w op l)
unfolding ranged
to_by w l high_open op u e = ap (λ v. Some (query.Cmp v (cond high_open Lt Le) l)) u.same ∙ ap (λ o. Some (query.Cmp w o l)) e

between_by : (w : List ℕ) (low_open : Bool) (l m : List ℕ) (high_open : Bool) → IsUpper w → ranged w low_open (end_of (quoted l)) (end_of (quoted m)) high_open ≡ Some (query.Bounded w l low_open m high_open)
unfolding ranged
between_by w low_open l m high_open u = ap (λ v. Some (query.Bounded v l low_open m high_open)) u.same

from_again : (w : List ℕ) (low_open : Bool) (l : List ℕ) (op : Op) → IsUpper w → cond low_open Gt Ge ≡ op → Again (record { shape = Single; text = clause_text w (range_text low_open (string_of l) (codes "*") false) }) (query.Cmp w op l)
from_again w low_open l op u e =
    single_again _ (query.Cmp w op l) (range w u.field low_open (quoted l) (bare (Wild ∷ [])) false (query.Cmp w op l) (from_by w low_open l op u e)) refl
    (asked_read w (range_text low_open (string_of l) (codes "*") false) (λ ts. Low low_open ∷ Quoted l ∷ To ∷ Bare (Wild ∷ []) ∷ High false ∷ ts) u (from_asked low_open l) (range_right w low_open false (Quoted l) (Bare (Wild ∷ [])) (from_right low_open l)))

to_again : (w : List ℕ) (l : List ℕ) (high_open : Bool) (op : Op) → IsUpper w → cond high_open Lt Le ≡ op → Again (record { shape = Single; text = clause_text w (range_text false (codes "*") (string_of l) high_open) }) (query.Cmp w op l)
to_again w l high_open op u e =
    single_again _ (query.Cmp w op l) (range w u.field false (bare (Wild ∷ [])) (quoted l) high_open (query.Cmp w op l) (to_by w l high_open op u e)) refl
    (asked_read w (range_text false (codes "*") (string_of l) high_open) (λ ts. Low false ∷ Bare (Wild ∷ []) ∷ To ∷ Quoted l ∷ High high_open ∷ ts) u (to_asked l high_open) (range_right w false high_open (Bare (Wild ∷ [])) (Quoted l) (to_right high_open l)))

cmp_again : (w : List ℕ) (op : Op) (l : List ℕ) → Fit (query.Cmp w op l) → Again (printed (query.Cmp w op l)) (query.Cmp w op l)
cmp_again w op l f =
    let h = cmp_fit w op l f in
    subst (λ p. Again p (query.Cmp w op l)) (sym (cmp_printed w op l)) (by op h.0 (upper_parts w h.1))
  where
    by : (o : Op) → printable_step (layer.Cmp w o l) ≡ true → IsUpper w → Again (record { shape = Single; text = clause_text w (compared_text o l) }) (query.Cmp w o l)
    by Eq h u = equal_again w l u
    by Ne h u = cc
    by Lt h u = to_again w l true Lt u refl
    by Le h u = to_again w l false Le u refl
    by Gt h u = from_again w true l Gt u refl
    by Ge h u = from_again w false l Ge u refl

bounded_again : (w low : List ℕ) (low_open : Bool) (high : List ℕ) (high_open : Bool) → Fit (query.Bounded w low low_open high high_open) → Again (printed (query.Bounded w low low_open high high_open)) (query.Bounded w low low_open high high_open)
bounded_again w low low_open high high_open f =
    let u = upper_parts w (bounded_fit w low low_open high high_open f) in
    let q = query.Bounded w low low_open high high_open in
    subst (λ p. Again p q) (sym (bounded_printed w low low_open high high_open))
    (single_again _ q (range w u.field low_open (quoted low) (quoted high) high_open q (between_by w low_open low high high_open u)) refl
    (asked_read w (range_text low_open (string_of low) (string_of high) high_open) (λ ts. Low low_open ∷ Quoted low ∷ To ∷ Quoted high ∷ High high_open ∷ ts) u (between_asked low_open low high high_open) (range_right w low_open high_open (Quoted low) (Quoted high) (between_right low_open high_open low high))))

bare_asked : (w : List ℕ) (lead trail : Bool) (text : List ℕ) → IsUpper w → (lead || trail) ≡ true → is_right (bare_pieces lead trail text) ≡ true → Reads (clause_text w (bare_text lead trail text)) (λ ts. Field w ∷ Bare (bare_pieces lead trail text) ∷ ts)
unfolding are_right
bare_asked w lead trail text u some right =
    let asked = bare_text lead trail text in
    let ps = bare_pieces lead trail text in
    let b = bare_read lead trail text some in
    record {
      read = λ cs ts left stop h. subst (λ xs. AreRead xs (Field w ∷ Bare ps ∷ ts) left) (sym (clause_is w asked cs u.same)) (field_read w (asked ++ cs) (Bare ps ∷ ts) left u (b.begins cs stop) (b.read cs ts left stop h));
      right = λ ts h. and_from (is_right ps) (are_right (Bare ps ∷ ts)) right (free_right (Bare ps) (λ rs. refl) ts h);
    }

pattern_again : (w : List ℕ) (negated lead trail : Bool) (text : List ℕ) → Fit (query.Pattern w negated lead trail text) → Again (printed (query.Pattern w negated lead trail text)) (query.Pattern w negated lead trail text)
pattern_again w negated lead trail text f =
    let h = pattern_fit w negated lead trail text f in
    let p = and_parts (not negated) (lead || trail) h.0 in
    let m = and_parts (is_upper_field w) (nat_lt 0 (length text)) h.1 in
    let u = upper_parts w m.0 in
    let back = pattern_back lead trail text (ltb-true 0 (length text) m.1) in
    subst (λ p. Again p (query.Pattern w negated lead trail text)) (sym (pattern_printed w negated lead trail text))
    (single_again (clause_text w (bare_text lead trail text)) (query.Pattern w negated lead trail text) (clause w u.field (bare (bare_pieces lead trail text)))
    (leaf_back w lead trail text u.same p.1 back ∙ ap (λ n. query.Pattern w n lead trail text) (sym (plain negated p.0)))
    (bare_asked w lead trail text u p.1 back.right))
  where
    plain : (b : Bool) → not b ≡ true → b ≡ false
    plain true e = cc
    plain false e = refl

-- several children, printed with a sign between any two, are read as they
record Conjuncts (qs : List Query) : Type 0 where
  conjunction : Conjunction
  is : conjuncts conjunction ≡ qs
  read : Reads (children_text (codes " AND ") (map printed qs)) (λ ts. conjunction_before conjunction ts)

record Disjuncts (qs : List Query) : Type 0 where
  disjunction : Disjunction
  is : disjuncts disjunction ≡ qs
  read : Reads (children_text (codes " OR ") (map printed qs)) (λ ts. disjunction_before disjunction ts)

conjunct_alone : (q : Query) → Again (printed q) q → Conjuncts (q ∷ [])
conjunct_alone q a =
    record {
      conjunction = alone a.child;
      is = ap (λ r. r ∷ []) a.child_is;
      read = at_end (child_text (printed q)) (λ ts. unary_before a.child ts) a.child_read;
    }

conjunct_more : (q r : Query) (rs : List Query) → Again (printed q) q → Conjuncts (r ∷ rs) → Conjuncts (q ∷ r ∷ rs)
conjunct_more q r rs a b =
    let sign = codes " AND " in
    let more_text = children_text sign (map printed (r ∷ rs)) in
    record {
      conjunction = joins a.child b.conjunction;
      is = ap (λ x. x ∷ conjuncts b.conjunction) a.child_is ∙ ap (λ xs. q ∷ xs) b.is;
      read =
          beside (child_text (printed q)) (sign ++ more_text) (λ ts. unary_before a.child ts) (λ ts. Conjoin ∷ conjunction_before b.conjunction ts) a.child_read
          (ahead sign more_text (λ ts. Conjoin ∷ ts) (λ ts. conjunction_before b.conjunction ts) and_read b.read) (λ cs. refl);
    }

disjunct_alone : (q : Query) → Again (printed q) q → Disjuncts (q ∷ [])
disjunct_alone q a =
    record {
      disjunction = one (alone a.child);
      is = ap (λ r. r ∷ []) a.child_is;
      read = at_end (child_text (printed q)) (λ ts. unary_before a.child ts) a.child_read;
    }

disjunct_more : (q r : Query) (rs : List Query) → Again (printed q) q → Disjuncts (r ∷ rs) → Disjuncts (q ∷ r ∷ rs)
disjunct_more q r rs a b =
    let sign = codes " OR " in
    let more_text = children_text sign (map printed (r ∷ rs)) in
    record {
      disjunction = more (alone a.child) b.disjunction;
      is = ap (λ x. x ∷ disjuncts b.disjunction) a.child_is ∙ ap (λ xs. q ∷ xs) b.is;
      read =
          beside (child_text (printed q)) (sign ++ more_text) (λ ts. unary_before a.child ts) (λ ts. Disjoin ∷ disjunction_before b.disjunction ts) a.child_read
          (ahead sign more_text (λ ts. Disjoin ∷ ts) (λ ts. disjunction_before b.disjunction ts) or_read b.read) (λ cs. refl);
    }

abbrev IsAgain : Query → Type 0
IsAgain q = Fit q → Again (printed q) q

abbrev Child : Type 0
Child = (q : Query) × IsAgain q

abbrev those : List Child → List Query
those es = map (λ e. e.0) es

conjuncts_of : (e : Child) (es : List Child) → are_all (map is_well_made (those (e ∷ es))) ≡ true → are_all (map is_printable (those (e ∷ es))) ≡ true → Conjuncts (those (e ∷ es))
conjuncts_of e [] m p = conjunct_alone e.0 (e.1 (record { printable = (and_parts (is_printable e.0) true p).0; made = (and_parts (is_well_made e.0) true m).0 }))
conjuncts_of e (d ∷ es) m p =
    let n = and_parts (is_well_made e.0) _ m in
    let r = and_parts (is_printable e.0) _ p in
    conjunct_more e.0 d.0 (those es) (e.1 (record { printable = r.0; made = n.0 })) (conjuncts_of d es n.1 r.1)

disjuncts_of : (e : Child) (es : List Child) → are_all (map is_well_made (those (e ∷ es))) ≡ true → are_all (map is_printable (those (e ∷ es))) ≡ true → Disjuncts (those (e ∷ es))
disjuncts_of e [] m p = disjunct_alone e.0 (e.1 (record { printable = (and_parts (is_printable e.0) true p).0; made = (and_parts (is_well_made e.0) true m).0 }))
disjuncts_of e (d ∷ es) m p =
    let n = and_parts (is_well_made e.0) _ m in
    let r = and_parts (is_printable e.0) _ p in
    disjunct_more e.0 d.0 (those es) (e.1 (record { printable = r.0; made = n.0 })) (disjuncts_of d es n.1 r.1)

and_again : (es : List Child) → IsAgain (query.And (those es))
and_again [] f = let h = and_fit [] f in let no : false ≡ true = h.several in cc
and_again (e ∷ []) f = let h = and_fit (e.0 ∷ []) f in let no : false ≡ true = h.several in cc
and_again (e ∷ d ∷ es) f =
    let qs = those (e ∷ d ∷ es) in
    let h = and_fit qs f in
    let c = conjuncts_of e (d ∷ es) h.made h.printable in
    subst (λ p. Again p (query.And qs)) (sym (and_printed qs))
    (several_again (children_text (codes " AND ") (map printed qs)) (query.And qs) (one c.conjunction) (ap (joined query.And) c.is) c.read)

or_again : (es : List Child) → IsAgain (query.Or (those es))
or_again [] f = let h = or_fit [] f in let no : false ≡ true = h.several in cc
or_again (e ∷ []) f = let h = or_fit (e.0 ∷ []) f in let no : false ≡ true = h.several in cc
or_again (e ∷ d ∷ es) f =
    let qs = those (e ∷ d ∷ es) in
    let h = or_fit qs f in
    let c = disjuncts_of e (d ∷ es) h.made h.printable in
    subst (λ p. Again p (query.Or qs)) (sym (or_printed qs))
    (several_again (children_text (codes " OR ") (map printed qs)) (query.Or qs) c.disjunction (ap (joined query.Or) c.is) c.read)

-- a query whose children, printed, are read as they
layer_again : (y : Query-F Child) → IsAgain (roll-Query (map-Query Child Query (λ e. e.0) y))
unfolding roll-Query roll
layer_again (layer.Cmp w op l) = cmp_again w op l
layer_again (layer.Pattern w negated lead trail text) = pattern_again w negated lead trail text
layer_again (layer.Bounded w low low_open high high_open) = bounded_again w low low_open high high_open
layer_again (layer.Not e) = λ f. not_again e.0 (e.1 (not_fit e.0 f))
layer_again (layer.And es) = and_again es
layer_again (layer.Or es) = or_again es

query_again : (q : Query) → IsAgain q
query_again = ind-Query IsAgain (λ x y is. subst (λ z. IsAgain (roll-Query z)) is (layer_again y))

-- the printed text of a query that is well made and has few leaves is read as that query
pub fit_read : (q : Query) → Fit q → (text : List ℕ) → chars text ≡ lucene_text q → KeepsLimits text → leaves q ≤ 256 → Spells text q
unfolding first_token are_right
fit_read q f text e keeps few =
    let again = query_again q f in
    let tokens = disjunction_before again.whole [] in
    let read : AreRead (chars text) tokens [] = subst (λ cs. AreRead cs tokens []) (append-nil (lucene_text q) ∙ sym e) (again.whole_read.read [] [] [] refl (refl, refl)) in
    let short : length text ≤ 16384 = omega (arith, keeps.0) in
    let shallow : is_deep tokens ≡ false = false_from_ne_true (is_deep tokens) (λ deep. keeps.1 (short, (tokens, [], read, deep))) in
    record {
      tokens = tokens;
      spelt = record { limits = record { short = short; tokens_read = read; shallow = shallow }; sentence = (again.whole, refl, sym again.whole_is) };
      few = few;
      right = again.whole_read.right [] refl;
    }

pub printed_read : QueriesOfTextsAreWellMade → PrintedTextsAreRead
printed_read made source q s printable text e keeps =
    fit_read q (record { printable = printable; made = made source q s }) text e keeps s.few

pub read_as : (text : List ℕ) (q : Query) → is_printable q ≡ true → chars text ≡ lucene_text q → IsReadAs text q
read_as text q printable e made few keeps = fit_read q (record { printable = printable; made = made }) text e keeps few
