-- What a text spells is well made.
use Rattle.std.proofs.Common.{◌≡◌, ℕ, Bool, true, List, [], ◌∷◌, length, map, refl, sym, ap, ◌∙◌, subst, inl, inr}
use Rattle.std.specs.Prelude.{not, ◌&&◌, ◌⊎◌, nat_lt, bytes_eq, chars, Result, Ok, Err, Some, IfOk}
use Rattle.std.proofs.lemmas.Bool.{and_parts, and_from}
use Rattle.std.proofs.lemmas.Slice.Eq.{bytes_eq-Decides}
use Rattle.dw_jexl.specs.declared.error.QueryError.{QueryError}
use Rattle.dw_jexl.specs.declared.query.Op.{Op}
use Rattle.dw_jexl.specs.declared.query.Query.{Query}
use Rattle.dw_jexl.specs.declared.query.Query.TheVariants as query
use Rattle.dw_jexl.specs.declared.query.Query.TheOpen as layer
use Rattle.dw_jexl.specs.declared.query.Query.TheViews.{roll-Query}
use Rattle.dw_jexl.specs.declared.query.Query.TheFolds.{fold-roll-Query}
use denote.Hole.Carrier.{roll}
use Rattle.dw_jexl.specs.declared.token.Token.{Token}
use Rattle.dw_jexl.specs.declared.token.Token.TheVariants.{Open, Close, Conjoin, Disjoin, Negate, Match, Name, Quoted}
use Rattle.dw_jexl.specs.Tokens.{is_word, is_plain, is_operator, word_token, past_blanks}
use Rattle.dw_jexl.specs.Patterns.{pieces, text_of, begins_wild, ends_wild, is_right}
use Rattle.dw_jexl.specs.Grammar.{folded, names_field, is_lower, is_upper, is_strict, between, bounded_by, joined, Disjunction, one, more, Conjunction, alone, joins, Unary, operand, comparison, matching, Operand, negation, group, bounded, literal_text, bounded_before, disjunction_before, conjunction_before, unary_before, operand_before, disjuncts, conjuncts, unary_query, operand_query, query_of}
use Rattle.dw_jexl.specs.Spelling.{Spells, Answers}
use Rattle.dw_jexl.specs.WellMade.{is_upper_field, are_all, are_several, well_made_step, is_well_made}
use Rattle.dw_jexl.proofs.Upper.{IsUpper, upper}
use Rattle.dw_jexl.proofs.Named.{read_named}
use Rattle.dw_jexl.proofs.Known.{sides, Known, behind, past, matched}

-- each kind of query
pub cmp_made : (w : List ℕ) (op : Op) (l : List ℕ) → is_well_made (query.Cmp w op l) ≡ is_upper_field w
unfolding roll-Query roll
cmp_made w op l = fold-roll-Query Bool well_made_step (layer.Cmp w op l)

pub pattern_made : (w : List ℕ) (negated lead trail : Bool) (text : List ℕ) → is_well_made (query.Pattern w negated lead trail text) ≡ (is_upper_field w && nat_lt 0 (length text))
unfolding roll-Query roll
pattern_made w negated lead trail text = fold-roll-Query Bool well_made_step (layer.Pattern w negated lead trail text)

pub bounded_made : (w low : List ℕ) (low_open : Bool) (high : List ℕ) (high_open : Bool) → is_well_made (query.Bounded w low low_open high high_open) ≡ is_upper_field w
unfolding roll-Query roll
bounded_made w low low_open high high_open = fold-roll-Query Bool well_made_step (layer.Bounded w low low_open high high_open)

pub not_made : (q : Query) → is_well_made (query.Not q) ≡ is_well_made q
unfolding roll-Query roll
not_made q = fold-roll-Query Bool well_made_step (layer.Not q)

pub and_made : (qs : List Query) → is_well_made (query.And qs) ≡ (are_several (map is_well_made qs) && are_all (map is_well_made qs))
unfolding roll-Query roll
and_made qs = fold-roll-Query Bool well_made_step (layer.And qs)

pub or_made : (qs : List Query) → is_well_made (query.Or qs) ≡ (are_several (map is_well_made qs) && are_all (map is_well_made qs))
unfolding roll-Query roll
or_made qs = fold-roll-Query Bool well_made_step (layer.Or qs)

upper_field : (w : List ℕ) → IsUpper w → is_upper_field w ≡ true
unfolding is_upper_field names_field is_word is_operator
upper_field w u =
    let plain : not (not (is_plain (word_token w))) ≡ true = ap (λ t. not (not (is_plain t))) u.name in
    and_from _ _ (and_from _ _ (and_from _ _ (and_from _ _ u.word.starts u.word.goes_on) plain) u.field) ((bytes_eq-Decides (folded w) w).1 u.same)

pub fields_fold : (f : List ℕ) → names_field f ≡ true → is_upper_field (folded f) ≡ true
unfolding names_field is_word
fields_fold f h =
    let p = and_parts _ _ h in
    let q = and_parts _ _ p.0 in
    let r = and_parts _ _ q.0 in
    upper_field (folded f) (upper f (record { starts = r.0; goes_on = r.1 }) p.1)

right_has_text : (raw : List ℕ) → is_right (pieces raw) ≡ true → nat_lt 0 (length (text_of (pieces raw))) ≡ true
unfolding is_right
right_has_text raw h = (and_parts _ _ h).0

range_made : (f : List ℕ) (op : Op) (l g : List ℕ) (or : Op) (m : List ℕ) (q : Query) → IsUpper (folded f) → bounded_by f op l g or m ≡ Some q → is_well_made q ≡ true
unfolding bounded_by
range_made f op l g or m q u h = from (sides (bytes_eq (folded f) (folded g)) (is_lower op && is_upper or) (is_upper op && is_lower or) (between (folded f) op l or m) (between (folded f) or m op l) q h)
  where
    from : (((is_lower op && is_upper or) ≡ true) × (between (folded f) op l or m ≡ q)) ⊎ (((is_upper op && is_lower or) ≡ true) × (between (folded f) or m op l ≡ q)) → is_well_made q ≡ true
    from (inl a) = ap is_well_made (sym a.1) ∙ bounded_made (folded f) l (is_strict op) m (is_strict or) ∙ upper_field (folded f) u
    from (inr a) = ap is_well_made (sym a.1) ∙ bounded_made (folded f) m (is_strict or) l (is_strict op) ∙ upper_field (folded f) u

joined_made : (node : List Query → Query) → ((qs : List Query) → is_well_made (node qs) ≡ (are_several (map is_well_made qs) && are_all (map is_well_made qs))) → (q : Query) (qs : List Query) → are_all (map is_well_made (q ∷ qs)) ≡ true → is_well_made (joined node (q ∷ qs)) ≡ true
joined_made node e q [] h = (and_parts (is_well_made q) true h).0
joined_made node e q (r ∷ qs) h = e (q ∷ r ∷ qs) ∙ h

mutual
  disjunction_made : (d : Disjunction) (rest : List Token) → Known (disjunction_before d rest) → (is_well_made (query_of d) ≡ true) × Known rest
  disjunction_made (one c) rest k = conjunction_made c rest k
  disjunction_made (more c d) rest k =
      let a = conjunction_made c (Disjoin ∷ disjunction_before d rest) k in
      let b = disjuncts_made d rest (behind Disjoin (disjunction_before d rest) a.1) in
      (joined_made query.Or or_made (joined query.And (conjuncts c)) (disjuncts d) (and_from _ _ a.0 b.0), b.1)

  disjuncts_made : (d : Disjunction) (rest : List Token) → Known (disjunction_before d rest) → (are_all (map is_well_made (disjuncts d)) ≡ true) × Known rest
  disjuncts_made (one c) rest k = let a = conjunction_made c rest k in (and_from _ _ a.0 refl, a.1)
  disjuncts_made (more c d) rest k =
      let a = conjunction_made c (Disjoin ∷ disjunction_before d rest) k in
      let b = disjuncts_made d rest (behind Disjoin (disjunction_before d rest) a.1) in
      (and_from _ _ a.0 b.0, b.1)

  conjunction_made : (c : Conjunction) (rest : List Token) → Known (conjunction_before c rest) → (is_well_made (joined query.And (conjuncts c)) ≡ true) × Known rest
  conjunction_made (alone u) rest k = unary_made u rest k
  conjunction_made (joins u c) rest k =
      let a = unary_made u (Conjoin ∷ conjunction_before c rest) k in
      let b = conjuncts_made c rest (behind Conjoin (conjunction_before c rest) a.1) in
      (joined_made query.And and_made (unary_query u) (conjuncts c) (and_from _ _ a.0 b.0), b.1)

  conjuncts_made : (c : Conjunction) (rest : List Token) → Known (conjunction_before c rest) → (are_all (map is_well_made (conjuncts c)) ≡ true) × Known rest
  conjuncts_made (alone u) rest k = let a = unary_made u rest k in (and_from _ _ a.0 refl, a.1)
  conjuncts_made (joins u c) rest k =
      let a = unary_made u (Conjoin ∷ conjunction_before c rest) k in
      let b = conjuncts_made c rest (behind Conjoin (conjunction_before c rest) a.1) in
      (and_from _ _ a.0 b.0, b.1)

  unary_made : (u : Unary) (rest : List Token) → Known (unary_before u rest) → (is_well_made (unary_query u) ≡ true) × Known rest
  unary_made (operand o) rest k = operand_made o rest k
  unary_made (comparison f ok op l) rest k =
      (cmp_made (folded f) op (literal_text l) ∙ upper_field (folded f) (upper f k.named.0 ok), past 3 (unary_before (comparison f ok op l) rest) k)
  unary_made (matching f ok n raw) rest k =
      let m = behind (Name f) (Match n ∷ Quoted raw ∷ rest) k in
      (pattern_made (folded f) n (begins_wild (pieces raw)) (ends_wild (pieces raw)) (text_of (pieces raw)) ∙ and_from _ _ (upper_field (folded f) (upper f k.named.0 ok)) (right_has_text raw (matched n raw rest m)), past 3 (unary_before (matching f ok n raw) rest) k)

  operand_made : (o : Operand) (rest : List Token) → Known (operand_before o rest) → (is_well_made (operand_query o) ≡ true) × Known rest
  operand_made (negation o) rest k =
      let a = operand_made o rest (behind Negate (operand_before o rest) k) in
      (not_made (operand_query o) ∙ a.0, a.1)
  operand_made (group d) rest k =
      let a = disjunction_made d (Close ∷ rest) (behind Open (disjunction_before d (Close ∷ rest)) k) in
      (a.0, behind Close rest a.1)
  operand_made (bounded a b fa fb q e) rest k =
      let n = past 8 (bounded_before a b rest) k in
      (range_made a.field a.op (literal_text a.literal) b.field b.op (literal_text b.literal) q (upper a.field n.named.0 fa) e, past 17 (bounded_before a b rest) k)

pub spells_made : (text : List ℕ) (q : Query) → Spells text q → is_well_made q ≡ true
spells_made text q s =
    let known : Known s.tokens = record { named = read_named (past_blanks (chars text)) s.tokens [] s.spelt.limits.tokens_read; right = s.right } in
    ap is_well_made s.spelt.sentence.2
    ∙ (disjunction_made s.spelt.sentence.0 [] (subst (λ ts. Known ts) s.spelt.sentence.1 known)).0

pub answers_made : (text : List ℕ) (r : Result Query QueryError) → Answers text r → IfOk r (λ q. is_well_made q ≡ true)
answers_made text (Ok q) a = spells_made text q a
answers_made text (Err e) a = tt
