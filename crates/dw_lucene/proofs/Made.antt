-- What a text spells is well made.
use Rattle.std.proofs.Common.{◌≡◌, ℕ, Bool, true, false, cond, List, [], ◌∷◌, length, map, refl, sym, ap, ◌∙◌, subst}
use Rattle.std.specs.Prelude.{◌&&◌, ◌||◌, nat_lt, unwrap_or, Some, None, Result, Ok, Err, IfOk}
use Rattle.std.proofs.lemmas.Bool.{and_parts, and_from}
use Rattle.dw_jexl.specs.declared.error.QueryError.{QueryError}
use Rattle.dw_jexl.specs.declared.pattern.Piece.{Piece}
use Rattle.dw_jexl.specs.declared.query.Op.{Op}
use Rattle.dw_jexl.specs.declared.query.Op.TheVariants.{Eq, Lt, Le, Gt, Ge}
use Rattle.dw_jexl.specs.declared.query.Query.{Query}
use Rattle.dw_jexl.specs.declared.query.Query.TheVariants as query
use Rattle.dw_jexl.specs.declared.query.Query.TheOpen as layer
use Rattle.dw_jexl.specs.declared.query.Query.TheViews.{roll-Query}
use Rattle.dw_jexl.specs.declared.query.Query.TheFolds.{fold-roll-Query}
use denote.Hole.Carrier.{roll}
use Rattle.dw_jexl.specs.Grammar.{folded, joined}
use Rattle.dw_jexl.specs.Patterns.{text_of, begins_wild, ends_wild, is_right}
use Rattle.dw_jexl.specs.QueryLaws.{IsReadAgain, FieldsFold, WellMadeQueriesAreRead}
use Rattle.dw_jexl.specs.WellMade.{is_upper_field, are_all, are_several, well_made_step, is_well_made}
use Rattle.dw_lucene.specs.declared.end.End.{End}
use Rattle.dw_lucene.specs.declared.token.Token.{Token}
use Rattle.dw_lucene.specs.declared.token.Token.TheVariants.{Open, Close, Conjoin, Disjoin, Negate, To, Field, Bare, Quoted, Low, High}
use Rattle.dw_lucene.specs.Grammar.{bare, quoted, token_of, end_of, bare_leaf, ranged, Disjunction, one, more, Conjunction, alone, joins, Unary, negation, group, clause, range, disjunction_before, conjunction_before, unary_before, disjuncts, conjuncts, unary_query, query_of}
use Rattle.dw_lucene.specs.Patterns.{first_is_right, are_right}
use Rattle.dw_lucene.specs.Spelling.{Spells, Answers}

-- each kind of query
cmp_made : (w : List ℕ) (op : Op) (l : List ℕ) → is_well_made (query.Cmp w op l) ≡ is_upper_field w
unfolding roll-Query roll
cmp_made w op l = fold-roll-Query Bool well_made_step (layer.Cmp w op l)

pattern_made : (w : List ℕ) (negated lead trail : Bool) (text : List ℕ) → is_well_made (query.Pattern w negated lead trail text) ≡ (is_upper_field w && nat_lt 0 (length text))
unfolding roll-Query roll
pattern_made w negated lead trail text = fold-roll-Query Bool well_made_step (layer.Pattern w negated lead trail text)

bounded_made : (w low : List ℕ) (low_open : Bool) (high : List ℕ) (high_open : Bool) → is_well_made (query.Bounded w low low_open high high_open) ≡ is_upper_field w
unfolding roll-Query roll
bounded_made w low low_open high high_open = fold-roll-Query Bool well_made_step (layer.Bounded w low low_open high high_open)

not_made : (q : Query) → is_well_made (query.Not q) ≡ is_well_made q
unfolding roll-Query roll
not_made q = fold-roll-Query Bool well_made_step (layer.Not q)

and_made : (qs : List Query) → is_well_made (query.And qs) ≡ (are_several (map is_well_made qs) && are_all (map is_well_made qs))
unfolding roll-Query roll
and_made qs = fold-roll-Query Bool well_made_step (layer.And qs)

or_made : (qs : List Query) → is_well_made (query.Or qs) ≡ (are_several (map is_well_made qs) && are_all (map is_well_made qs))
unfolding roll-Query roll
or_made qs = fold-roll-Query Bool well_made_step (layer.Or qs)

joined_made : (node : List Query → Query) → ((qs : List Query) → is_well_made (node qs) ≡ (are_several (map is_well_made qs) && are_all (map is_well_made qs))) → (q : Query) (qs : List Query) → are_all (map is_well_made (q ∷ qs)) ≡ true → is_well_made (joined node (q ∷ qs)) ≡ true
joined_made node e q [] h = (and_parts (is_well_made q) true h).0
joined_made node e q (r ∷ qs) h = e (q ∷ r ∷ qs) ∙ h

-- tokens whose terms are right
record Right (ts : List Token) : Type 0 where
  right : are_right ts ≡ true

behind : (t : Token) (ts : List Token) → Right (t ∷ ts) → Right ts
unfolding are_right
behind t ts k = record { right = (and_parts (first_is_right t ts) (are_right ts) k.right).1 }

term_right : (f : List ℕ) (ps : List Piece) (ts : List Token) → Right (Field f ∷ Bare ps ∷ ts) → is_right ps ≡ true
unfolding are_right
term_right f ps ts k = (and_parts (is_right ps) (are_right (Bare ps ∷ ts)) k.right).0

right_has_text : (ps : List Piece) → is_right ps ≡ true → nat_lt 0 (length (text_of ps)) ≡ true
unfolding is_right
right_has_text ps h = (and_parts _ _ h).0

choose : (b : Bool) (q r : Query) → is_well_made q ≡ true → is_well_made r ≡ true → is_well_made (cond b q r) ≡ true
choose true q r h k = h
choose false q r h k = k

bare_made : (f : List ℕ) (ps : List Piece) → is_upper_field (folded f) ≡ true → is_right ps ≡ true → is_well_made (bare_leaf f ps) ≡ true
unfolding bare_leaf
bare_made f ps u h =
    choose (begins_wild ps || ends_wild ps) _ _
    (pattern_made (folded f) false (begins_wild ps) (ends_wild ps) (text_of ps) ∙ and_from _ _ u (right_has_text ps h))
    (cmp_made (folded f) Eq (text_of ps) ∙ u)

one_of : (x y z : Bool) (p r s q : Query) → is_well_made p ≡ true → is_well_made r ≡ true → is_well_made s ≡ true → cond x None (cond y (Some p) (cond z (Some r) (Some s))) ≡ Some q → is_well_made q ≡ true
one_of true y z p r s q a b c h = cc
one_of false true z p r s q a b c h = ap is_well_made (sym (ap (λ o. unwrap_or o q) h)) ∙ a
one_of false false true p r s q a b c h = ap is_well_made (sym (ap (λ o. unwrap_or o q) h)) ∙ b
one_of false false false p r s q a b c h = ap is_well_made (sym (ap (λ o. unwrap_or o q) h)) ∙ c

range_made : (f : List ℕ) (low_open : Bool) (a b : End) (high_open : Bool) (q : Query) → is_upper_field (folded f) ≡ true → ranged f low_open a b high_open ≡ Some q → is_well_made q ≡ true
unfolding ranged
range_made f low_open a b high_open q u h =
    one_of (a.is_open && b.is_open) b.is_open a.is_open _ _ _ q
    (cmp_made (folded f) (cond low_open Gt Ge) a.text ∙ u)
    (cmp_made (folded f) (cond high_open Lt Le) b.text ∙ u)
    (bounded_made (folded f) a.text low_open b.text high_open ∙ u) h

module _ (fields : FieldsFold) where
  mutual
    disjunction_made : (d : Disjunction) (rest : List Token) → Right (disjunction_before d rest) → (is_well_made (query_of d) ≡ true) × Right rest
    disjunction_made (one c) rest k = conjunction_made c rest k
    disjunction_made (more c d) rest k =
        let a = conjunction_made c (Disjoin ∷ disjunction_before d rest) k in
        let b = disjuncts_made d rest (behind Disjoin (disjunction_before d rest) a.1) in
        (joined_made query.Or or_made (joined query.And (conjuncts c)) (disjuncts d) (and_from _ _ a.0 b.0), b.1)

    disjuncts_made : (d : Disjunction) (rest : List Token) → Right (disjunction_before d rest) → (are_all (map is_well_made (disjuncts d)) ≡ true) × Right rest
    disjuncts_made (one c) rest k = let a = conjunction_made c rest k in (and_from _ _ a.0 refl, a.1)
    disjuncts_made (more c d) rest k =
        let a = conjunction_made c (Disjoin ∷ disjunction_before d rest) k in
        let b = disjuncts_made d rest (behind Disjoin (disjunction_before d rest) a.1) in
        (and_from _ _ a.0 b.0, b.1)

    conjunction_made : (c : Conjunction) (rest : List Token) → Right (conjunction_before c rest) → (is_well_made (joined query.And (conjuncts c)) ≡ true) × Right rest
    conjunction_made (alone u) rest k = unary_made u rest k
    conjunction_made (joins u c) rest k =
        let a = unary_made u (Conjoin ∷ conjunction_before c rest) k in
        let b = conjuncts_made c rest (behind Conjoin (conjunction_before c rest) a.1) in
        (joined_made query.And and_made (unary_query u) (conjuncts c) (and_from _ _ a.0 b.0), b.1)

    conjuncts_made : (c : Conjunction) (rest : List Token) → Right (conjunction_before c rest) → (are_all (map is_well_made (conjuncts c)) ≡ true) × Right rest
    conjuncts_made (alone u) rest k = let a = unary_made u rest k in (and_from _ _ a.0 refl, a.1)
    conjuncts_made (joins u c) rest k =
        let a = unary_made u (Conjoin ∷ conjunction_before c rest) k in
        let b = conjuncts_made c rest (behind Conjoin (conjunction_before c rest) a.1) in
        (and_from _ _ a.0 b.0, b.1)

    unary_made : (u : Unary) (rest : List Token) → Right (unary_before u rest) → (is_well_made (unary_query u) ≡ true) × Right rest
    unary_made (negation u) rest k =
        let a = unary_made u rest (behind Negate (unary_before u rest) k) in
        (not_made (unary_query u) ∙ a.0, a.1)
    unary_made (group d) rest k =
        let a = disjunction_made d (Close ∷ rest) (behind Open (disjunction_before d (Close ∷ rest)) k) in
        (a.0, behind Close rest a.1)
    unary_made (clause f ok (bare ps)) rest k =
        (bare_made f ps (fields f ok) (term_right f ps rest k), behind (Bare ps) rest (behind (Field f) (Bare ps ∷ rest) k))
    unary_made (clause f ok (quoted s)) rest k =
        (cmp_made (folded f) Eq s ∙ fields f ok, behind (Quoted s) rest (behind (Field f) (Quoted s ∷ rest) k))
    unary_made (range f ok low_open a b high_open q e) rest k =
        let r6 = High high_open ∷ rest in
        let r5 = token_of b ∷ r6 in
        let r4 = To ∷ r5 in
        let r3 = token_of a ∷ r4 in
        let k2 = behind (Low low_open) r3 (behind (Field f) (Low low_open ∷ r3) k) in
        let k4 = behind To r5 (behind (token_of a) r4 k2) in
        (range_made f low_open (end_of a) (end_of b) high_open q (fields f ok) e, behind (High high_open) rest (behind (token_of b) r6 k4))

  pub spells_made : (text : List ℕ) (q : Query) → Spells text q → is_well_made q ≡ true
  spells_made text q s =
      let right : Right s.tokens = record { right = s.right } in
      ap is_well_made s.spelt.sentence.2 ∙ (disjunction_made s.spelt.sentence.0 [] (subst (λ ts. Right ts) s.spelt.sentence.1 right)).0

  pub answers_made : (text : List ℕ) (r : Result Query QueryError) → Answers text r → IfOk r (λ q. is_well_made q ≡ true)
  answers_made text (Ok q) a = spells_made text q a
  answers_made text (Err e) a = tt

  pub answers_again : WellMadeQueriesAreRead → (text : List ℕ) (r : Result Query QueryError) → Answers text r → IfOk r (λ q. IsReadAgain q)
  answers_again read text (Ok q) a = read q (spells_made text q a) a.few
  answers_again read text (Err e) a = tt
