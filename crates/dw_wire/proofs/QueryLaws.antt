-- Each text is the query that it spells, or the first rule that it breaks.
use Rattle.std.proofs.Common.{◌≡◌, ℕ, ◌<◌, ◌≤◌, Bool, true, false, nat_lt, List, [], ◌∷◌, length, Option, Some, None, Result, Ok, Err, refl, sym, ap, ◌∙◌, subst, arith, inl, inr, ◌⊎◌}
use Rattle.std.specs.Prelude.{chars, if◌then◌else◌}
use Rattle.std.proofs.lemmas.Bool.{ltb-true, ltb-false}
use Rattle.dw_jexl.specs.declared.error.QueryError.{QueryError}
use Rattle.dw_jexl.specs.declared.error.QueryError.TheVariants as error
use Rattle.dw_jexl.specs.declared.error.QueryRule.{QueryRule}
use Rattle.dw_jexl.specs.declared.error.QueryRule.TheVariants.{TooLong, TooDeep, Syntax, TooMany, Pattern}
use Rattle.dw_jexl.specs.declared.query.Query.{Query}
use Rattle.dw_jexl.specs.declared.token.Token.{Token}
use Rattle.dw_jexl.specs.Tokens.{AreRead}
use Rattle.dw_jexl.specs.Depth.{is_deep}
use Rattle.dw_jexl.specs.Grammar.{leaves}
use Rattle.dw_jexl.specs.Patterns.{are_right}
use Rattle.dw_jexl.specs.Reading.{whole}
use Rattle.dw_jexl.specs.Spelling.{IsSpeltBy, Breaks, Answers}
use Rattle.dw_jexl.proofs.Verdict.{same_tokens, no_sentence, is_spelt, answers_only, answers_refuses}
use Rattle.dw_wire.specs.QueryTexts.{tokens_of, limited, query_in, query_of, IsQueryOf, QueriesAreSpelt}
use Rattle.dw_wire.proofs.Tokens.{tokens_read}

either : (text : List ℕ) (b : Bool) (x y : Result Query QueryRule) → (b ≡ true → IsQueryOf text x) → (b ≡ false → IsQueryOf text y) → IsQueryOf text (if b then x else y)
either text true x y h k = h refl
either text false x y h k = k refl

limited_is : (text : List ℕ) (ts : List Token) (o : Option Query) → whole 65 ts ≡ o → length text ≤ 16384 → AreRead (chars text) ts [] → is_deep ts ≡ false → IsQueryOf text (limited ts o)
limited_is text ts None e n r d = no_sentence text ts 65 (omega arith) n r d e
limited_is text ts (Some q) e n r d =
    let spelt : IsSpeltBy text ts q = is_spelt text ts 65 q n r d e in
    either text (nat_lt 256 (leaves q)) (Err TooMany) _ (λ many. (ts, q, spelt, ltb-true 256 (leaves q) many)) (λ few.
    either text (are_right ts) (Ok q) (Err Pattern) (λ right. record { tokens = ts; spelt = spelt; few = ltb-false 256 (leaves q) few; right = right })
    (λ wrong. (ts, q, spelt, ltb-false 256 (leaves q) few, wrong)))

left_over : (text : List ℕ) (ts : List Token) (rest : List ℕ) → length text ≤ 16384 → AreRead (chars text) ts rest → is_deep ts ≡ false → 0 < length rest → Breaks Syntax text
left_over text ts rest n r d h = (
  (ts, rest, record { short = n; tokens_read = r; shallow = d }),
  λ us q s. let e = (same_tokens (chars text) ts us rest [] r s.limits.tokens_read).1 in let l = ap length e in omega (arith, l),
)

read_in : (text : List ℕ) (ts : List Token) (rest : List ℕ) → length text ≤ 16384 → AreRead (chars text) ts rest → IsQueryOf text (query_in (ts, rest))
read_in text ts rest n r =
    either text (is_deep ts) (Err TooDeep) _ (λ deep. (n, (ts, rest, r, deep))) (λ shallow.
    either text (nat_lt 0 (length rest)) (Err Syntax) _ (λ some. left_over text ts rest n r shallow (ltb-true 0 (length rest) some))
    (λ none. at rest r (ltb-false 0 (length rest) none) shallow))
  where
    at : (left : List ℕ) → AreRead (chars text) ts left → length left ≤ 0 → is_deep ts ≡ false → IsQueryOf text (limited ts (whole 65 ts))
    at [] k l d = limited_is text ts (whole 65 ts) refl n k d
    at (c ∷ cs) k l d = absurd (omega arith)

text_is : (text : List ℕ) → IsQueryOf text (query_of text)
unfolding query_of
text_is text =
    either text (nat_lt 16384 (length text)) (Err TooLong) _ (λ long. ltb-true 16384 (length text) long)
    (λ short. read_in text (tokens_of (chars text)).0 (tokens_of (chars text)).1 (ltb-false 16384 (length text) short) (tokens_read (chars text)))

-- the answer of parsing
answer : Result Query QueryRule → Result Query QueryError
answer (Ok q) = Ok q
answer (Err rule) = Err (error.Rule rule)

abbrev back : Result Query QueryError → Result Query QueryRule
back (Ok q) = Ok q
back (Err (error.Rule rule)) = Err rule
back (Err error.OutOfMemory) = Err TooLong

answers : (text : List ℕ) (r : Result Query QueryRule) → IsQueryOf text r → Answers text (answer r)
unfolding answer
answers text (Ok q) h = h
answers text (Err rule) h = h

back_again : (r : Result Query QueryRule) → back (answer r) ≡ r
unfolding answer
back_again (Ok q) = refl
back_again (Err rule) = refl

no_want : (r : Result Query QueryRule) → answer r ≡ Err error.OutOfMemory → ⊥
unfolding answer
no_want (Ok q) e = cc
no_want (Err rule) e = cc

pub one_answer : (text : List ℕ) (r : Result Query QueryRule) → IsQueryOf text r → query_of text ≡ r
one_answer text (Ok q) h = at (answers_only text (answer (query_of text)) q (answers text (query_of text) (text_is text)) h)
  where
    at : (answer (query_of text) ≡ Ok q) ⊎ (answer (query_of text) ≡ Err error.OutOfMemory) → query_of text ≡ Ok q
    at (inl e) = sym (back_again (query_of text)) ∙ ap back e
    at (inr e) = absurd (no_want (query_of text) e)
one_answer text (Err rule) h = at (answers_refuses text (answer (query_of text)) rule (answers text (query_of text) (text_is text)) h)
  where
    at : (answer (query_of text) ≡ Err (error.Rule rule)) ⊎ (answer (query_of text) ≡ Err error.OutOfMemory) → query_of text ≡ Err rule
    at (inl e) = sym (back_again (query_of text)) ∙ ap back e
    at (inr e) = absurd (no_want (query_of text) e)

pub queries_spelt : QueriesAreSpelt
queries_spelt text r = (λ e. subst (λ (s : Result Query QueryRule). IsQueryOf text s) e (text_is text), one_answer text r)
