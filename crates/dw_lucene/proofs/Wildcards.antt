-- The pieces of a printed pattern stand for its wildcards and its text.
use Rattle.std.proofs.Common.{◌≡◌, ℕ, ◌+◌, ◌<◌, Bool, true, false, cond, List, [], ◌∷◌, ◌++◌, length, refl, sym, ap, ◌∙◌, arith}
use Rattle.std.specs.Prelude.{◌||◌, ◌==◌, nat_lt}
use Rattle.std.proofs.lemmas.Bool.{and_from, eq-eqb, lt-ltb}
use Rattle.dw_jexl.specs.declared.pattern.Piece.TheVariants.{Literal}
use Rattle.dw_jexl.specs.declared.query.Op.TheVariants.{Eq}
use Rattle.dw_jexl.specs.declared.query.Query.TheVariants as query
use Rattle.dw_jexl.specs.Grammar.{folded}
use Rattle.dw_jexl.specs.Patterns.{text_of, begins_wild, ends_wild, bit, is_right}
use Rattle.dw_lucene.specs.Grammar.{bare_leaf}
use Rattle.dw_lucene.proofs.Written.{literals, wild_if, bare_pieces}

text_end : (text : List ℕ) (trail : Bool) → text_of (literals text ++ wild_if trail) ≡ text
text_end [] true = refl
text_end [] false = refl
text_end (c ∷ text) trail = ap (λ cs. c ∷ cs) (text_end text trail)

text_back : (lead trail : Bool) (text : List ℕ) → text_of (wild_if lead ++ (literals text ++ wild_if trail)) ≡ text
text_back true trail text = text_end text trail
text_back false trail text = text_end text trail

begins_back : (lead trail : Bool) (text : List ℕ) → 0 < length text → begins_wild (wild_if lead ++ (literals text ++ wild_if trail)) ≡ lead
begins_back true trail text h = refl
begins_back false trail [] h = absurd (omega arith)
begins_back false trail (c ∷ text) h = refl

ends_end : (c : ℕ) (text : List ℕ) (trail : Bool) → ends_wild (Literal c ∷ (literals text ++ wild_if trail)) ≡ trail
ends_end c [] true = refl
ends_end c [] false = refl
ends_end c (d ∷ text) trail = ends_end d text trail

ends_back : (lead trail : Bool) (text : List ℕ) → 0 < length text → ends_wild (wild_if lead ++ (literals text ++ wild_if trail)) ≡ trail
ends_back lead trail [] h = absurd (omega arith)
ends_back true trail (c ∷ text) h = ends_end c text trail
ends_back false trail (c ∷ text) h = ends_end c text trail

length_end : (text : List ℕ) (trail : Bool) → length (literals text ++ wild_if trail) ≡ length text + bit trail
length_end [] true = refl
length_end [] false = refl
length_end (c ∷ text) trail = let e = length_end text trail in omega (arith, e)

length_back : (lead trail : Bool) (text : List ℕ) → length (wild_if lead ++ (literals text ++ wild_if trail)) ≡ length text + bit lead + bit trail
length_back true trail text = let e = length_end text trail in omega (arith, e)
length_back false trail text = let e = length_end text trail in omega (arith, e)

-- the pieces make a right pattern with the same wildcards and the same text
pub record IsPattern (lead trail : Bool) (text : List ℕ) : Type 0 where
  pub begins : begins_wild (bare_pieces lead trail text) ≡ lead
  pub ends : ends_wild (bare_pieces lead trail text) ≡ trail
  pub literal : text_of (bare_pieces lead trail text) ≡ text
  pub right : is_right (bare_pieces lead trail text) ≡ true

pub pattern_back : (lead trail : Bool) (text : List ℕ) → 0 < length text → IsPattern lead trail text
unfolding is_right
pattern_back lead trail text h =
    let ps = bare_pieces lead trail text in
    let b = begins_back lead trail text h in
    let t = ends_back lead trail text h in
    let l = text_back lead trail text in
    let n = length_back lead trail text in
    record {
      begins = b;
      ends = t;
      literal = l;
      right = and_from _ _
          (ap (λ cs. nat_lt 0 (length cs)) l ∙ lt-ltb 0 (length text) h)
          (ap (λ cs. length cs + bit (begins_wild ps) + bit (ends_wild ps) == length ps) l
          ∙ ap (λ v. length text + bit v + bit (ends_wild ps) == length ps) b
          ∙ ap (λ v. length text + bit lead + bit v == length ps) t
          ∙ eq-eqb _ _ (sym n));
    }

pub leaf_back : (w : List ℕ) (lead trail : Bool) (text : List ℕ) → folded w ≡ w → (lead || trail) ≡ true → IsPattern lead trail text → bare_leaf w (bare_pieces lead trail text) ≡ query.Pattern w false lead trail text
unfolding bare_leaf
leaf_back w lead trail text u some p =
    let ps = bare_pieces lead trail text in
    ap (λ b. cond (b || ends_wild ps) (query.Pattern (folded w) false (begins_wild ps) (ends_wild ps) (text_of ps)) (query.Cmp (folded w) Eq (text_of ps))) p.begins
    ∙ ap (λ b. cond (lead || b) (query.Pattern (folded w) false (begins_wild ps) (ends_wild ps) (text_of ps)) (query.Cmp (folded w) Eq (text_of ps))) p.ends
    ∙ ap (λ b. cond b (query.Pattern (folded w) false (begins_wild ps) (ends_wild ps) (text_of ps)) (query.Cmp (folded w) Eq (text_of ps))) some
    ∙ ap (λ v. query.Pattern v false (begins_wild ps) (ends_wild ps) (text_of ps)) u
    ∙ ap (λ v. query.Pattern w false v (ends_wild ps) (text_of ps)) p.begins
    ∙ ap (λ v. query.Pattern w false lead v (text_of ps)) p.ends
    ∙ ap (λ v. query.Pattern w false lead trail v) p.literal
