-- What a text spells and which rule it breaks, each at most one.
use Rattle.std.proofs.Common.{◌≡◌, ℕ, ◌+◌, ◌<◌, ◌≤◌, true, false, List, [], ◌∷◌, length, drop, Some, None, Result, Ok, Err, refl, sym, ap, ◌∙◌, subst, arith, inl, inr, ◌⊎◌}
use Rattle.std.specs.Prelude.{chars, unwrap_or}
use Rattle.std.proofs.lemmas.Option.{some_pair_parts}
use Rattle.std.proofs.lemmas.List.{drop_all, length-drop}
use Rattle.dw_jexl.specs.declared.error.QueryError.{QueryError}
use Rattle.dw_jexl.specs.declared.error.QueryError.TheVariants.{Rule, OutOfMemory}
use Rattle.dw_jexl.specs.declared.error.QueryRule.{QueryRule}
use Rattle.dw_jexl.specs.declared.error.QueryRule.TheVariants.{TooLong, TooDeep, Syntax, TooMany, Pattern}
use Rattle.dw_jexl.specs.declared.query.Query.{Query}
use Rattle.dw_lucene.specs.declared.token.Token.{Token}
use Rattle.dw_lucene.specs.Tokens.{past_blanks, AreReadAt, AreRead}
use Rattle.dw_lucene.specs.Levels.{is_deep}
use Rattle.dw_jexl.specs.Grammar.{leaves}
use Rattle.dw_jexl.specs.Reading.{Fails}
use Rattle.dw_lucene.specs.Reading.{whole}
use Rattle.dw_lucene.specs.Patterns.{are_right}
use Rattle.dw_lucene.specs.Spelling.{IsSentence, IsShallow, IsSpeltBy, Spells, Breaks, Answers}
use Rattle.dw_lucene.proofs.Sound.{whole_sound}
use Rattle.dw_lucene.proofs.Complete.{nest, whole_read}
use Rattle.dw_lucene.proofs.Nesting.{shallow_nest}

-- characters are read into one list of tokens
same_at : (ts us : List Token) (cs rest left : List ℕ) → AreReadAt cs ts rest → AreReadAt cs us left → (ts ≡ us) × (rest ≡ left)
same_at [] [] cs rest left a b = (refl, sym a.0 ∙ b.0)
same_at [] (u ∷ us) cs rest left a b = let e : None ≡ Some (u, b.0) = sym a.1 ∙ b.1 in cc
same_at (t ∷ ts) [] cs rest left a b = let e : Some (t, a.0) ≡ None = sym a.1 ∙ b.1 in cc
same_at (t ∷ ts) (u ∷ us) cs rest left a b =
    let p = some_pair_parts t u a.0 b.0 (sym a.1 ∙ b.1) in
    let r = same_at ts us (past_blanks (drop b.0 cs)) rest left (subst (λ n. AreReadAt (past_blanks (drop n cs)) ts rest) p.1 a.2) b.2 in
    (ap (λ v. v ∷ ts) p.0 ∙ ap (λ vs. u ∷ vs) r.0, r.1)

pub same_tokens : (cs : List ℕ) (ts us : List Token) (rest left : List ℕ) → AreRead cs ts rest → AreRead cs us left → (ts ≡ us) × (rest ≡ left)
same_tokens cs ts us rest left a b = same_at ts us (past_blanks cs) rest left a b

-- tokens are a sentence for one query, the one that is read
read_is : (levels : ℕ) (ts : List Token) (q : Query) (s : IsSentence ts q) → nest s.0 < levels → whole levels ts ≡ Some q
read_is levels ts q s n = whole_read levels ts s.0 n s.1 ∙ ap Some (sym s.2)

pub sentence_is : (levels : ℕ) (ts : List Token) (q : Query) → whole levels ts ≡ Some q → IsSentence ts q
sentence_is levels ts q h = whole_sound levels ts q h

one_query : (ts us : List Token) (q r : Query) → ts ≡ us → IsSentence ts q → IsSentence us r → q ≡ r
one_query ts us q r e a b =
    let levels = nest a.0 + nest b.0 + 1 in
    ap (λ o. unwrap_or o r) (sym (read_is levels ts q a (omega arith)) ∙ ap (whole levels) e ∙ read_is levels us r b (omega arith))

-- two spellings of one text
spelt_same : (text : List ℕ) (ts us : List Token) (q r : Query) → IsSpeltBy text ts q → IsSpeltBy text us r → (ts ≡ us) × (q ≡ r)
spelt_same text ts us q r a b =
    let e = same_tokens (chars text) ts us [] [] a.limits.tokens_read b.limits.tokens_read in
    (e.0, one_query ts us q r e.0 a.sentence b.sentence)

-- A text spells at most one query.
pub spells_one : (text : List ℕ) (q r : Query) → Spells text q → Spells text r → q ≡ r
spells_one text q r a b = (spelt_same text a.tokens b.tokens q r a.spelt b.spelt).1

-- a text that keeps the limits on length and depth breaks neither
shallow_long : (text : List ℕ) (ts : List Token) (rest : List ℕ) → IsShallow text ts rest → Breaks TooLong text → ⊥
shallow_long text ts rest s h = let n : length text ≤ 16384 = s.short in omega arith

shallow_deep : (text : List ℕ) (ts : List Token) (rest : List ℕ) → IsShallow text ts rest → Breaks TooDeep text → ⊥
shallow_deep text ts rest s h =
    let e = (same_tokens (chars text) ts h.1.0 rest h.1.1 s.tokens_read h.1.2).0 in
    let deep : false ≡ true = sym s.shallow ∙ ap is_deep e ∙ h.1.3 in
    cc

-- what spells a query breaks no rule
spells_breaks : (text : List ℕ) (q : Query) (r : QueryRule) → Spells text q → Breaks r text → ⊥
spells_breaks text q TooLong s h = shallow_long text s.tokens [] s.spelt.limits h
spells_breaks text q TooDeep s h = shallow_deep text s.tokens [] s.spelt.limits h
spells_breaks text q Syntax s h = h.1 s.tokens q s.spelt
spells_breaks text q TooMany s h =
    let e = ap leaves (spelt_same text s.tokens h.0 q h.1 s.spelt h.2).1 in
    let few : leaves q ≤ 256 = s.few in
    let many : 256 < leaves h.1 = h.3 in
    omega (arith, e, few, many)
spells_breaks text q Pattern s h =
    let e = (spelt_same text s.tokens h.0 q h.1 s.spelt h.2).0 in
    let wrong : true ≡ false = sym s.right ∙ ap are_right e ∙ h.4 in
    cc

-- a text has one first rule
breaks_one : (text : List ℕ) (r s : QueryRule) → Breaks r text → Breaks s text → r ≡ s
breaks_one text TooLong TooLong a b = refl
breaks_one text TooLong TooDeep a b = absurd (let n : length text ≤ 16384 = b.0 in omega arith)
breaks_one text TooLong Syntax a b = absurd (shallow_long text b.0.0 b.0.1 b.0.2 a)
breaks_one text TooLong TooMany a b = absurd (shallow_long text b.0 [] b.2.limits a)
breaks_one text TooLong Pattern a b = absurd (shallow_long text b.0 [] b.2.limits a)
breaks_one text TooDeep TooLong a b = absurd (let n : length text ≤ 16384 = a.0 in omega arith)
breaks_one text TooDeep TooDeep a b = refl
breaks_one text TooDeep Syntax a b = absurd (shallow_deep text b.0.0 b.0.1 b.0.2 a)
breaks_one text TooDeep TooMany a b = absurd (shallow_deep text b.0 [] b.2.limits a)
breaks_one text TooDeep Pattern a b = absurd (shallow_deep text b.0 [] b.2.limits a)
breaks_one text Syntax TooLong a b = absurd (shallow_long text a.0.0 a.0.1 a.0.2 b)
breaks_one text Syntax TooDeep a b = absurd (shallow_deep text a.0.0 a.0.1 a.0.2 b)
breaks_one text Syntax Syntax a b = refl
breaks_one text Syntax TooMany a b = absurd (a.1 b.0 b.1 b.2)
breaks_one text Syntax Pattern a b = absurd (a.1 b.0 b.1 b.2)
breaks_one text TooMany TooLong a b = absurd (shallow_long text a.0 [] a.2.limits b)
breaks_one text TooMany TooDeep a b = absurd (shallow_deep text a.0 [] a.2.limits b)
breaks_one text TooMany Syntax a b = absurd (b.1 a.0 a.1 a.2)
breaks_one text TooMany TooMany a b = refl
breaks_one text TooMany Pattern a b =
    let e = ap leaves (spelt_same text a.0 b.0 a.1 b.1 a.2 b.2).1 in
    let many : 256 < leaves a.1 = a.3 in
    let few : leaves b.1 ≤ 256 = b.3 in
    absurd (omega (arith, e, few, many))
breaks_one text Pattern TooLong a b = absurd (shallow_long text a.0 [] a.2.limits b)
breaks_one text Pattern TooDeep a b = absurd (shallow_deep text a.0 [] a.2.limits b)
breaks_one text Pattern Syntax a b = absurd (b.1 a.0 a.1 a.2)
breaks_one text Pattern TooMany a b =
    let e = ap leaves (spelt_same text a.0 b.0 a.1 b.1 a.2 b.2).1 in
    let few : leaves a.1 ≤ 256 = a.3 in
    let many : 256 < leaves b.1 = b.3 in
    absurd (omega (arith, e, few, many))
breaks_one text Pattern Pattern a b = refl

-- the clauses of parsing, from what it may answer
pub answers_only : (text : List ℕ) (r : Result Query QueryError) (q : Query) → Answers text r → Spells text q → (r ≡ Ok q) ⊎ (r ≡ Err OutOfMemory)
answers_only text (Ok p) q a s = inl (ap Ok (spells_one text p q a s))
answers_only text (Err (Rule r)) q a s = absurd (spells_breaks text q r s a)
answers_only text (Err OutOfMemory) q a s = inr refl

pub answers_refuses : (text : List ℕ) (r : Result Query QueryError) (s : QueryRule) → Answers text r → Breaks s text → (r ≡ Err (Rule s)) ⊎ (r ≡ Err OutOfMemory)
answers_refuses text (Ok p) s a b = absurd (spells_breaks text p s a b)
answers_refuses text (Err (Rule r)) s a b = inl (ap (λ t. Err (Rule t)) (breaks_one text r s a b))
answers_refuses text (Err OutOfMemory) s a b = inr refl

-- the exits of parsing
pub left_over : (text : List ℕ) (ts : List Token) (at : ℕ) → length text ≤ 16384 → AreRead (chars text) ts (drop at (chars text)) → is_deep ts ≡ false → at < length (chars text) → Breaks Syntax text
left_over text ts at n r d h = (
  (ts, drop at (chars text), record { short = n; tokens_read = r; shallow = d }),
  λ us q s.
      let e = (same_tokens (chars text) ts us (drop at (chars text)) [] r s.limits.tokens_read).1 in
      let l = ap length e in
      omega (arith, l, length-drop at (chars text)),
)

pub all_read : (text : List ℕ) (ts : List Token) (at : ℕ) → AreRead (chars text) ts (drop at (chars text)) → length (chars text) ≤ at → AreRead (chars text) ts []
all_read text ts at r h = subst (λ rest. AreRead (chars text) ts rest) (drop_all at (chars text) h) r

pub no_sentence : (text : List ℕ) (ts : List Token) (levels : ℕ) → 64 < levels → length text ≤ 16384 → AreRead (chars text) ts [] → is_deep ts ≡ false → whole levels ts ≡ None → Breaks Syntax text
no_sentence text ts levels l n r d h = (
  (ts, [], record { short = n; tokens_read = r; shallow = d }),
  λ us q s.
      let e = (same_tokens (chars text) us ts [] [] s.limits.tokens_read r).0 in
      let few : nest s.sentence.0 ≤ 64 = shallow_nest s.sentence.0 (ap is_deep (sym s.sentence.1) ∙ s.limits.shallow) in
      let impossible : Some q ≡ None = sym (read_is levels us q s.sentence (omega arith)) ∙ ap (whole levels) e ∙ h in
      cc,
)

pub is_spelt : (text : List ℕ) (ts : List Token) (levels : ℕ) (q : Query) → length text ≤ 16384 → AreRead (chars text) ts [] → is_deep ts ≡ false → whole levels ts ≡ Some q → IsSpeltBy text ts q
is_spelt text ts levels q n r d h =
    record { limits = record { short = n; tokens_read = r; shallow = d }; sentence = sentence_is levels ts q h }

pub failed : (text : List ℕ) (ts : List Token) (levels : ℕ) (e : QueryError) → 64 < levels → length text ≤ 16384 → AreRead (chars text) ts [] → is_deep ts ≡ false → Fails e (whole levels ts) → Answers text (Err e)
failed text ts levels OutOfMemory l n r d h = tt
failed text ts levels (Rule TooLong) l n r d h = absurd h
failed text ts levels (Rule TooDeep) l n r d h = absurd h
failed text ts levels (Rule Syntax) l n r d h = no_sentence text ts levels l n r d h
failed text ts levels (Rule TooMany) l n r d h = absurd h
failed text ts levels (Rule Pattern) l n r d h = absurd h
