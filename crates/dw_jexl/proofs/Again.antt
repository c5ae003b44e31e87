-- The canonical text of each query that is read is read as it again.
use Rattle.std.proofs.Common.{◌≡◌, ℕ, ◌≤◌, Bool, true, false, cond, List, [], ◌∷◌, ◌++◌, length, map, Some, None, refl, sym, ap, ◌∙◌, subst, arith, append_assoc}
use Rattle.std.specs.Prelude.{not, ◌&&◌, codes, chars, nat_lt, Result, Ok, Err, IfOk}
use Rattle.std.proofs.lemmas.Bool.{and_parts, and_from, ltb-true, false_from_ne_true}
use Rattle.std.proofs.lemmas.List.{append-nil}
use Rattle.std.proofs.lemmas.Slice.Eq.{bytes_eq-Decides}
use Rattle.dw_jexl.specs.declared.error.QueryError.{QueryError}
use Rattle.dw_jexl.specs.declared.query.Op.{Op}
use Rattle.dw_jexl.specs.declared.query.Op.TheVariants.{Eq, Ne, Lt, Le, Gt, Ge}
use Rattle.dw_jexl.specs.declared.query.Query.{Query, map-Query}
use Rattle.dw_jexl.specs.declared.query.Query.TheVariants as query
use Rattle.dw_jexl.specs.declared.query.Query.TheOpen as layer
use Rattle.dw_jexl.specs.declared.query.Query.TheOpen.{Query-F}
use Rattle.dw_jexl.specs.declared.query.Query.TheViews.{roll-Query}
use Rattle.dw_jexl.specs.declared.query.Query.TheFolds.{fold-roll-Query, ind-Query}
use denote.Hole.Carrier.{roll}
use Rattle.dw_jexl.specs.declared.token.Token.{Token}
use Rattle.dw_jexl.specs.declared.token.Token.TheVariants.{Open, Close, Conjoin, Disjoin, Negate, Compare, Match, Name, Quoted}
use Rattle.dw_jexl.specs.Tokens.{first_token, AreRead}
use Rattle.dw_jexl.specs.Patterns.{pieces, text_of, begins_wild, ends_wild, is_right, are_right}
use Rattle.dw_jexl.specs.Grammar.{folded, string, End, is_lower, is_upper, is_strict, between, bounded_by, joined, Disjunction, one, more, Conjunction, alone, joins, Unary, operand, comparison, matching, Operand, negation, group, bounded, disjunction_before, conjunction_before, unary_before, operand_before, disjuncts, conjuncts, unary_query, operand_query, query_of}
use Rattle.dw_jexl.specs.Depth.{is_deep}
use Rattle.dw_jexl.specs.Canonical.{sign_of, string_of, pattern_chars, matching_sign, lower_sign, upper_sign, comparison_text, side_text, pattern_text, bounded_text, printed_step, Shape, Leaf, Negation, Several, Printed, child_text, not_opening, not_closing, children_text, printed, canonical}
use Rattle.dw_jexl.specs.Spelling.{Spells, Answers}
use Rattle.dw_jexl.specs.Limits.{HasFew}
use Rattle.dw_jexl.specs.WellMade.{is_upper_field, are_all, are_several, is_well_made}
use Rattle.dw_jexl.specs.QueryLaws.{IsReadAgain, SpellsAgain}
use Rattle.dw_jexl.proofs.Upper.{IsUpper, upper_parts}
use Rattle.dw_jexl.proofs.Written.{Reads, beside, open_read, close_read, conjoin_read, disjoin_read, not_open_read, negate_read, bounded_read, compare_read, match_read, name_read, string_read}
use Rattle.dw_jexl.proofs.Wildcards.{IsPattern, pattern_back}
use Rattle.dw_jexl.proofs.Made.{cmp_made, pattern_made, bounded_made, not_made, and_made, or_made, spells_made}

-- how each query is printed
cmp_printed : (w : List ℕ) (op : Op) (l : List ℕ) → printed (query.Cmp w op l) ≡ record { shape = Leaf; text = comparison_text w op l }
unfolding roll-Query roll
cmp_printed w op l = fold-roll-Query Printed printed_step (layer.Cmp w op l)

pattern_printed : (w : List ℕ) (negated lead trail : Bool) (text : List ℕ) → printed (query.Pattern w negated lead trail text) ≡ record { shape = Leaf; text = pattern_text w negated lead trail text }
unfolding roll-Query roll
pattern_printed w negated lead trail text = fold-roll-Query Printed printed_step (layer.Pattern w negated lead trail text)

bounded_printed : (w low : List ℕ) (low_open : Bool) (high : List ℕ) (high_open : Bool) → printed (query.Bounded w low low_open high high_open) ≡ record { shape = Leaf; text = bounded_text w low low_open high high_open }
unfolding roll-Query roll
bounded_printed w low low_open high high_open = fold-roll-Query Printed printed_step (layer.Bounded w low low_open high high_open)

not_printed : (q : Query) → printed (query.Not q) ≡ record { shape = Negation; text = not_opening (printed q).shape ++ ((printed q).text ++ not_closing (printed q).shape) }
unfolding roll-Query roll
not_printed q = fold-roll-Query Printed printed_step (layer.Not q)

and_printed : (qs : List Query) → printed (query.And qs) ≡ record { shape = Several; text = children_text (codes " && ") (map printed qs) }
unfolding roll-Query roll
and_printed qs = fold-roll-Query Printed printed_step (layer.And qs)

or_printed : (qs : List Query) → printed (query.Or qs) ≡ record { shape = Several; text = children_text (codes " || ") (map printed qs) }
unfolding roll-Query roll
or_printed qs = fold-roll-Query Printed printed_step (layer.Or qs)

-- A query, printed, is read as it again: the whole text, a child of an And or Or, and what stands for the negation of it.
record Again (p : Printed) (q : Query) : Type 0 where
  whole : Disjunction
  whole_is : query_of whole ≡ q
  whole_read : Reads p.text (λ ts. disjunction_before whole ts)
  child : Unary
  child_is : unary_query child ≡ q
  child_read : Reads (child_text p) (λ ts. unary_before child ts)
  under : Operand
  under_is : operand_query under ≡ q
  under_read : Reads (not_opening p.shape ++ (p.text ++ not_closing p.shape)) (λ ts. Negate ∷ operand_before under ts)

at_end : (text : List ℕ) (tokens : List Token → List Token) → Reads text tokens → Reads (text ++ []) tokens
at_end text tokens r = subst (λ cs. Reads cs tokens) (sym (append-nil text)) r

closed : (text : List ℕ) (d : Disjunction) → Reads text (λ ts. disjunction_before d ts) → Reads (text ++ codes ")") (λ ts. disjunction_before d (Close ∷ ts))
closed text d r = beside text (codes ")") (λ ts. disjunction_before d ts) (λ ts. Close ∷ ts) r close_read

grouped : (text : List ℕ) (d : Disjunction) → Reads text (λ ts. disjunction_before d ts) → Reads (codes "(" ++ (text ++ codes ")")) (λ ts. operand_before (group d) ts)
grouped text d r = beside (codes "(") (text ++ codes ")") (λ ts. Open ∷ ts) (λ ts. disjunction_before d (Close ∷ ts)) open_read (closed text d r)

under_group : (text : List ℕ) (d : Disjunction) → Reads text (λ ts. disjunction_before d ts) → Reads (codes "!(" ++ (text ++ codes ")")) (λ ts. Negate ∷ operand_before (group d) ts)
under_group text d r = beside (codes "!(") (text ++ codes ")") (λ ts. Negate ∷ Open ∷ ts) (λ ts. disjunction_before d (Close ∷ ts)) not_open_read (closed text d r)

leaf_again : (text : List ℕ) (q : Query) (u : Unary) → unary_query u ≡ q → Reads text (λ ts. unary_before u ts) → Again (record { shape = Leaf; text = text }) q
leaf_again text q u e r =
    record {
      whole = one (alone u);
      whole_is = e;
      whole_read = r;
      child = u;
      child_is = e;
      child_read = at_end text (λ ts. unary_before u ts) r;
      under = group (one (alone u));
      under_is = e;
      under_read = under_group text (one (alone u)) r;
    }

several_again : (text : List ℕ) (q : Query) (d : Disjunction) → query_of d ≡ q → Reads text (λ ts. disjunction_before d ts) → Again (record { shape = Several; text = text }) q
several_again text q d e r =
    record {
      whole = d;
      whole_is = e;
      whole_read = r;
      child = operand (group d);
      child_is = e;
      child_read = grouped text d r;
      under = group d;
      under_is = e;
      under_read = under_group text d r;
    }

-- `!` before the text of a negation
bang_read : (s : Shape) (rest cs : List ℕ) (ts : List Token) (left : List ℕ) → AreRead ((not_opening s ++ rest) ++ cs) ts left → AreRead (33 ∷ ((not_opening s ++ rest) ++ cs)) (Negate ∷ ts) left
bang_read Leaf rest cs ts left h = negate_read 33 (40 ∷ rest ++ cs) ts left refl refl h
bang_read Negation rest cs ts left h = negate_read 33 (rest ++ cs) ts left refl refl h
bang_read Several rest cs ts left h = negate_read 33 (40 ∷ rest ++ cs) ts left refl refl h

not_again : (p : Printed) (q : Query) → Again p q → Again (record { shape = Negation; text = not_opening p.shape ++ (p.text ++ not_closing p.shape) }) (query.Not q)
unfolding are_right
not_again p q a =
    let text = not_opening p.shape ++ (p.text ++ not_closing p.shape) in
    let r : Reads text (λ ts. operand_before (negation a.under) ts) = a.under_read in
    let two : Reads (codes "!" ++ text) (λ ts. Negate ∷ operand_before (negation a.under) ts) =
    record {
      read = λ cs ts left h. bang_read p.shape (p.text ++ not_closing p.shape) cs (operand_before (negation a.under) ts) left (r.read cs ts left h);
      right = λ ts h. r.right ts h;
    } in
    record {
      whole = one (alone (operand (negation a.under)));
      whole_is = ap query.Not a.under_is;
      whole_read = r;
      child = operand (negation a.under);
      child_is = ap query.Not a.under_is;
      child_read = at_end text (λ ts. operand_before (negation a.under) ts) r;
      under = negation a.under;
      under_is = ap query.Not a.under_is;
      under_read = subst (λ cs. Reads (codes "!" ++ cs) (λ ts. Negate ∷ operand_before (negation a.under) ts)) (sym (append-nil text)) two;
    }

-- a field in upper case, a sign between two spaces and a string
side_read : (w sign l cs : List ℕ) (t : Token) (ts : List Token) (left : List ℕ) → IsUpper w → (AreRead (string_of l ++ cs) (Quoted l ∷ ts) left → AreRead (32 ∷ sign ++ (string_of l ++ cs)) (t ∷ Quoted l ∷ ts) left) → AreRead cs ts left → AreRead (side_text w (32 ∷ sign) l ++ cs) (Name w ∷ t ∷ Quoted l ∷ ts) left
unfolding side_text
side_read w sign l cs t ts left u signed h =
    let e : (folded w ++ (32 ∷ sign ++ string_of l)) ++ cs ≡ w ++ 32 ∷ (sign ++ (string_of l ++ cs)) =
    append_assoc (folded w) (32 ∷ sign ++ string_of l) cs
    ∙ ap (λ xs. folded w ++ 32 ∷ xs) (append_assoc sign (string_of l) cs)
    ∙ ap (λ v. v ++ 32 ∷ (sign ++ (string_of l ++ cs))) u.same in
    subst (λ xs. AreRead xs (Name w ∷ t ∷ Quoted l ∷ ts) left) (sym e)
    (name_read w (sign ++ (string_of l ++ cs)) (t ∷ Quoted l ∷ ts) left u.word u.name (signed (string_read l cs ts left h)))

-- an operator between two spaces
abbrev spaced_sign : Op → List ℕ
spaced_sign op = codes " " ++ (sign_of op ++ codes " ")

compared_read : (w : List ℕ) (op : Op) (l : List ℕ) → IsUpper w → Reads (side_text w (spaced_sign op) l) (λ ts. Name w ∷ Compare op ∷ Quoted l ∷ ts)
unfolding are_right
compared_read w op l u =
    record {
      read = λ cs ts left h. side_read w (sign_of op ++ codes " ") l cs (Compare op) ts left u (λ k. signed op (string_of l ++ cs) (Quoted l ∷ ts) left k) h;
      right = λ ts h. h;
    }
  where
    signed : (o : Op) (cs : List ℕ) (ts : List Token) (left : List ℕ) → AreRead cs ts left → AreRead (32 ∷ (sign_of o ++ codes " ") ++ cs) (Compare o ∷ ts) left
    signed Eq cs ts left h = compare_read Eq cs ts left h
    signed Ne cs ts left h = compare_read Ne cs ts left h
    signed Lt cs ts left h = compare_read Lt cs ts left h
    signed Le cs ts left h = compare_read Le cs ts left h
    signed Gt cs ts left h = compare_read Gt cs ts left h
    signed Ge cs ts left h = compare_read Ge cs ts left h

comparison_side : (w : List ℕ) (op : Op) (l : List ℕ) → comparison_text w op l ≡ side_text w (spaced_sign op) l
unfolding side_text
comparison_side w Eq l = refl
comparison_side w Ne l = refl
comparison_side w Lt l = refl
comparison_side w Le l = refl
comparison_side w Gt l = refl
comparison_side w Ge l = refl

comparison_again : (w : List ℕ) (op : Op) (l : List ℕ) → IsUpper w → Again (printed (query.Cmp w op l)) (query.Cmp w op l)
comparison_again w op l u =
    subst (λ p. Again p (query.Cmp w op l)) (sym (cmp_printed w op l))
    (leaf_again (comparison_text w op l) (query.Cmp w op l) (comparison w u.field op (string l)) (ap (λ v. query.Cmp v op l) u.same)
    (subst (λ cs. Reads cs (λ ts. Name w ∷ Compare op ∷ Quoted l ∷ ts)) (sym (comparison_side w op l)) (compared_read w op l u)))

matched_read : (w : List ℕ) (negated : Bool) (raw : List ℕ) → IsUpper w → is_right (pieces raw) ≡ true → Reads (side_text w (matching_sign negated) raw) (λ ts. Name w ∷ Match negated ∷ Quoted raw ∷ ts)
unfolding are_right
matched_read w true raw u r =
    record {
      read = λ cs ts left h. side_read w (codes "!~ ") raw cs (Match true) ts left u (λ k. match_read true (string_of raw ++ cs) (Quoted raw ∷ ts) left k) h;
      right = λ ts h. and_from _ _ r h;
    }
matched_read w false raw u r =
    record {
      read = λ cs ts left h. side_read w (codes "=~ ") raw cs (Match false) ts left u (λ k. match_read false (string_of raw ++ cs) (Quoted raw ∷ ts) left k) h;
      right = λ ts h. and_from _ _ r h;
    }

matching_again : (w : List ℕ) (negated lead trail : Bool) (text : List ℕ) → IsUpper w → IsPattern lead trail text → Again (printed (query.Pattern w negated lead trail text)) (query.Pattern w negated lead trail text)
matching_again w negated lead trail text u p =
    let raw = pattern_chars lead trail text in
    subst (λ p. Again p (query.Pattern w negated lead trail text)) (sym (pattern_printed w negated lead trail text))
    (leaf_again (pattern_text w negated lead trail text) (query.Pattern w negated lead trail text) (matching w u.field negated raw)
    (ap (λ v. query.Pattern v negated (begins_wild (pieces raw)) (ends_wild (pieces raw)) (text_of (pieces raw))) u.same
    ∙ ap (λ v. query.Pattern w negated v (ends_wild (pieces raw)) (text_of (pieces raw))) p.begins
    ∙ ap (λ v. query.Pattern w negated lead v (text_of (pieces raw))) p.ends
    ∙ ap (λ v. query.Pattern w negated lead trail v) p.literal)
    (matched_read w negated raw u p.right))

lower_is : (op : Op) → is_lower op ≡ true → spaced_sign op ≡ lower_sign (is_strict op)
lower_is Gt h = refl
lower_is Ge h = refl
lower_is _ h = cc

upper_is : (op : Op) → is_upper op ≡ true → spaced_sign op ≡ upper_sign (is_strict op)
upper_is Lt h = refl
upper_is Le h = refl
upper_is _ h = cc

between_by : (w : List ℕ) (op : Op) (l : List ℕ) (or : Op) (m : List ℕ) → IsUpper w → is_lower op ≡ true → is_upper or ≡ true → bounded_by w op l w or m ≡ Some (between w op l or m)
unfolding bounded_by
between_by w op l or m u low high =
    ap (λ b. cond (not b) None (cond (is_lower op && is_upper or) (Some (between (folded w) op l or m)) (cond (is_upper op && is_lower or) (Some (between (folded w) or m op l)) None))) ((bytes_eq-Decides (folded w) (folded w)).1 refl)
    ∙ ap (λ b. cond b (Some (between (folded w) op l or m)) (cond (is_upper op && is_lower or) (Some (between (folded w) or m op l)) None)) (and_from (is_lower op) (is_upper or) low high)
    ∙ ap (λ v. Some (between v op l or m)) u.same

between_again : (w : List ℕ) (op : Op) (l : List ℕ) (or : Op) (m : List ℕ) → IsUpper w → is_lower op ≡ true → is_upper or ≡ true → Again (printed (between w op l or m)) (between w op l or m)
between_again w op l or m u low high =
    let a : End = record { field = w; op = op; literal = string l } in
    let b : End = record { field = w; op = or; literal = string m } in
    let left = side_text w (lower_sign (is_strict op)) l in
    let right = side_text w (upper_sign (is_strict or)) m in
    let lower : Reads left (λ ts. Name w ∷ Compare op ∷ Quoted l ∷ ts) =
    subst (λ sign. Reads (side_text w sign l) (λ ts. Name w ∷ Compare op ∷ Quoted l ∷ ts)) (lower_is op low) (compared_read w op l u) in
    let higher : Reads right (λ ts. Name w ∷ Compare or ∷ Quoted m ∷ ts) =
    subst (λ sign. Reads (side_text w sign m) (λ ts. Name w ∷ Compare or ∷ Quoted m ∷ ts)) (upper_is or high) (compared_read w or m u) in
    subst (λ p. Again p (between w op l or m)) (sym (bounded_printed w l (is_strict op) m (is_strict or)))
    (leaf_again (bounded_text w l (is_strict op) m (is_strict or)) (between w op l or m) (operand (bounded a b u.field u.field (between w op l or m) (between_by w op l or m u low high))) refl
    (beside (codes "((_Bounded_ = true) && (") (left ++ (codes " && " ++ (right ++ codes "))"))) _ (λ ts. Name w ∷ Compare op ∷ Quoted l ∷ Conjoin ∷ Name w ∷ Compare or ∷ Quoted m ∷ Close ∷ Close ∷ ts) bounded_read
    (beside left (codes " && " ++ (right ++ codes "))")) _ (λ ts. Conjoin ∷ Name w ∷ Compare or ∷ Quoted m ∷ Close ∷ Close ∷ ts) lower
    (beside (codes " && ") (right ++ codes "))") _ (λ ts. Name w ∷ Compare or ∷ Quoted m ∷ Close ∷ Close ∷ ts) conjoin_read
    (beside right (codes "))") _ (λ ts. Close ∷ Close ∷ ts) higher (beside (codes ")") (codes ")") (λ ts. Close ∷ ts) (λ ts. Close ∷ ts) close_read close_read))))))

-- several children, printed with a sign between any two, are read as they again
record Conjuncts (qs : List Query) : Type 0 where
  conjunction : Conjunction
  is : conjuncts conjunction ≡ qs
  read : Reads (children_text (codes " && ") (map printed qs)) (λ ts. conjunction_before conjunction ts)

record Disjuncts (qs : List Query) : Type 0 where
  disjunction : Disjunction
  is : disjuncts disjunction ≡ qs
  read : Reads (children_text (codes " || ") (map printed qs)) (λ ts. disjunction_before disjunction ts)

conjunct_alone : (q : Query) → Again (printed q) q → Conjuncts (q ∷ [])
conjunct_alone q a =
    record {
      conjunction = alone a.child;
      is = ap (λ r. r ∷ []) a.child_is;
      read = at_end (child_text (printed q)) (λ ts. unary_before a.child ts) a.child_read;
    }

conjunct_more : (q r : Query) (rs : List Query) → Again (printed q) q → Conjuncts (r ∷ rs) → Conjuncts (q ∷ r ∷ rs)
conjunct_more q r rs a b =
    let sign = codes " && " in
    let following = children_text sign (map printed (r ∷ rs)) in
    record {
      conjunction = joins a.child b.conjunction;
      is = ap (λ x. x ∷ conjuncts b.conjunction) a.child_is ∙ ap (λ xs. q ∷ xs) b.is;
      read =
          beside (child_text (printed q)) (sign ++ following) (λ ts. unary_before a.child ts) (λ ts. Conjoin ∷ conjunction_before b.conjunction ts) a.child_read
          (beside sign following (λ ts. Conjoin ∷ ts) (λ ts. conjunction_before b.conjunction ts) conjoin_read b.read);
    }

disjunct_alone : (q : Query) → Again (printed q) q → Disjuncts (q ∷ [])
disjunct_alone q a =
    record {
      disjunction = one (alone a.child);
      is = ap (λ r. r ∷ []) a.child_is;
      read = at_end (child_text (printed q)) (λ ts. unary_before a.child ts) a.child_read;
    }

disjunct_more : (q r : Query) (rs : List Query) → Again (printed q) q → Disjuncts (r ∷ rs) → Disjuncts (q ∷ r ∷ rs)
disjunct_more q r rs a b =
    let sign = codes " || " in
    let following = children_text sign (map printed (r ∷ rs)) in
    record {
      disjunction = more (alone a.child) b.disjunction;
      is = ap (λ x. x ∷ disjuncts b.disjunction) a.child_is ∙ ap (λ xs. q ∷ xs) b.is;
      read =
          beside (child_text (printed q)) (sign ++ following) (λ ts. unary_before a.child ts) (λ ts. Disjoin ∷ disjunction_before b.disjunction ts) a.child_read
          (beside sign following (λ ts. Disjoin ∷ ts) (λ ts. disjunction_before b.disjunction ts) disjoin_read b.read);
    }

-- a query that is read as it again where it is well made
abbrev IsAgain : Query → Type 0
IsAgain q = is_well_made q ≡ true → Again (printed q) q

abbrev Child : Type 0
Child = (q : Query) × IsAgain q

abbrev those : List Child → List Query
those es = map (λ e. e.0) es

conjuncts_of : (e : Child) (es : List Child) → are_all (map is_well_made (those (e ∷ es))) ≡ true → Conjuncts (those (e ∷ es))
conjuncts_of e [] m = conjunct_alone e.0 (e.1 (and_parts (is_well_made e.0) true m).0)
conjuncts_of e (d ∷ es) m =
    let n = and_parts (is_well_made e.0) _ m in
    conjunct_more e.0 d.0 (those es) (e.1 n.0) (conjuncts_of d es n.1)

disjuncts_of : (e : Child) (es : List Child) → are_all (map is_well_made (those (e ∷ es))) ≡ true → Disjuncts (those (e ∷ es))
disjuncts_of e [] m = disjunct_alone e.0 (e.1 (and_parts (is_well_made e.0) true m).0)
disjuncts_of e (d ∷ es) m =
    let n = and_parts (is_well_made e.0) _ m in
    disjunct_more e.0 d.0 (those es) (e.1 n.0) (disjuncts_of d es n.1)

-- at least two children, each well made
parts_made : (qs : List Query) (b : Bool) → b ≡ true → b ≡ (are_several (map is_well_made qs) && are_all (map is_well_made qs)) → (are_several (map is_well_made qs) ≡ true) × (are_all (map is_well_made qs) ≡ true)
parts_made qs b h e = and_parts (are_several (map is_well_made qs)) (are_all (map is_well_made qs)) (sym e ∙ h)

and_again : (es : List Child) → IsAgain (query.And (those es))
and_again [] m = let p = parts_made [] _ m (and_made []) in let no : false ≡ true = p.0 in cc
and_again (e ∷ []) m = let p = parts_made (e.0 ∷ []) _ m (and_made (e.0 ∷ [])) in let no : false ≡ true = p.0 in cc
and_again (e ∷ d ∷ es) m =
    let qs = those (e ∷ d ∷ es) in
    let p = parts_made qs _ m (and_made qs) in
    let c = conjuncts_of e (d ∷ es) p.1 in
    subst (λ p. Again p (query.And qs)) (sym (and_printed qs))
    (several_again (children_text (codes " && ") (map printed qs)) (query.And qs) (one c.conjunction) (ap (joined query.And) c.is) c.read)

or_again : (es : List Child) → IsAgain (query.Or (those es))
or_again [] m = let p = parts_made [] _ m (or_made []) in let no : false ≡ true = p.0 in cc
or_again (e ∷ []) m = let p = parts_made (e.0 ∷ []) _ m (or_made (e.0 ∷ [])) in let no : false ≡ true = p.0 in cc
or_again (e ∷ d ∷ es) m =
    let qs = those (e ∷ d ∷ es) in
    let p = parts_made qs _ m (or_made qs) in
    let c = disjuncts_of e (d ∷ es) p.1 in
    subst (λ p. Again p (query.Or qs)) (sym (or_printed qs))
    (several_again (children_text (codes " || ") (map printed qs)) (query.Or qs) c.disjunction (ap (joined query.Or) c.is) c.read)

bounded_again : (w low : List ℕ) (low_open : Bool) (high : List ℕ) (high_open : Bool) → IsUpper w → Again (printed (query.Bounded w low low_open high high_open)) (query.Bounded w low low_open high high_open)
bounded_again w low true high true u = between_again w Gt low Lt high u refl refl
bounded_again w low true high false u = between_again w Gt low Le high u refl refl
bounded_again w low false high true u = between_again w Ge low Lt high u refl refl
bounded_again w low false high false u = between_again w Ge low Le high u refl refl

pattern_again : (w : List ℕ) (negated lead trail : Bool) (text : List ℕ) → IsAgain (query.Pattern w negated lead trail text)
pattern_again w negated lead trail text m =
    let p = and_parts (is_upper_field w) (nat_lt 0 (length text)) (sym (pattern_made w negated lead trail text) ∙ m) in
    matching_again w negated lead trail text (upper_parts w p.0) (pattern_back lead trail text (ltb-true 0 (length text) p.1))

layer_again : (y : Query-F Child) → IsAgain (roll-Query (map-Query Child Query (λ e. e.0) y))
unfolding roll-Query roll
layer_again (layer.Cmp w op l) = λ m. comparison_again w op l (upper_parts w (sym (cmp_made w op l) ∙ m))
layer_again (layer.Pattern w negated lead trail text) = pattern_again w negated lead trail text
layer_again (layer.Bounded w low low_open high high_open) = λ m. bounded_again w low low_open high high_open (upper_parts w (sym (bounded_made w low low_open high high_open) ∙ m))
layer_again (layer.Not e) = λ m. subst (λ p. Again p (query.Not e.0)) (sym (not_printed e.0)) (not_again (printed e.0) e.0 (e.1 (sym (not_made e.0) ∙ m)))
layer_again (layer.And es) = and_again es
layer_again (layer.Or es) = or_again es

query_again : (q : Query) → IsAgain q
query_again = ind-Query IsAgain (λ x y is. subst (λ z. IsAgain (roll-Query z)) is (layer_again y))

-- The canonical text of each query that is well made and has few leaves is read as that query.
pub made_again : (q : Query) → is_well_made q ≡ true → HasFew q → IsReadAgain q
unfolding first_token are_right
made_again q m few text e keeps =
    let again : Again (printed q) q = query_again q m in
    let tokens = disjunction_before again.whole [] in
    let read : AreRead (chars text) tokens [] = subst (λ cs. AreRead cs tokens []) (append-nil (canonical q) ∙ sym e) (again.whole_read.read [] [] [] (refl, refl)) in
    let short : length text ≤ 16384 = omega (arith, keeps.0) in
    let shallow : is_deep tokens ≡ false = false_from_ne_true (is_deep tokens) (λ deep. keeps.1 (short, (tokens, [], read, deep))) in
    record {
      tokens = tokens;
      spelt = record { limits = record { short = short; tokens_read = read; shallow = shallow }; sentence = (again.whole, refl, sym again.whole_is) };
      few = few;
      right = again.whole_read.right [] refl;
    }

pub read_again : (source : List ℕ) (q : Query) → Spells source q → IsReadAgain q
read_again source q s = made_again q (spells_made source q s) s.few

pub answers_again : (source : List ℕ) (r : Result Query QueryError) → Answers source r → IfOk r (λ q. IsReadAgain q)
answers_again source (Ok q) a = read_again source q a
answers_again source (Err e) a = tt

pub printed_again : (text : List ℕ) (q : Query) → chars text ≡ canonical q → SpellsAgain text q
printed_again text q e source s keeps = read_again source q s text e keeps
