-- The canonical characters of a pattern stand for its wildcards and its text.
use Rattle.std.proofs.Common.{◌≡◌, ℕ, ◌+◌, ◌<◌, Bool, true, false, cond, List, [], ◌∷◌, ◌++◌, length, refl, sym, ap, ◌∙◌, arith, append_assoc}
use Rattle.std.specs.Prelude.{◌||◌, ◌==◌, nat_lt, option_to_list, Some, None}
use Rattle.std.proofs.lemmas.Bool.{and_from, or_parts, ne_eqb, eq-eqb, lt-ltb}
use Rattle.dw_jexl.specs.declared.pattern.Piece.{Piece}
use Rattle.dw_jexl.specs.declared.pattern.Piece.TheVariants.{Literal, Wild, Broken}
use Rattle.dw_jexl.specs.declared.pattern.Pending.TheVariants.{Nothing, Escape, Dot}
use Rattle.dw_jexl.specs.Patterns.{is_meta, piece_of, pending_after, piece_at_end, pieces_from, pieces, text_of, begins_wild, ends_wild, bit, is_right}
use Rattle.dw_jexl.specs.Canonical.{literal_of, all_literal, wildcard_if, pattern_chars}

abbrev literals : List ℕ → List Piece
literals [] = []
literals (c ∷ cs) = Literal c ∷ literals cs

abbrev wild_if : Bool → List Piece
wild_if wild = cond wild (Wild ∷ []) []

wild_read : (wild : Bool) (cs : List ℕ) → pieces (wildcard_if wild ++ cs) ≡ wild_if wild ++ pieces cs
unfolding pieces_from piece_of pending_after
wild_read true cs = refl
wild_read false cs = refl

dot_is_meta : (c : ℕ) → is_meta c ≡ false → (c == 46) ≡ false
unfolding is_meta
dot_is_meta c h = ne_eqb c 46 (λ e. let no : true ≡ false = ap is_meta (sym e) ∙ h in cc)

bare_read : (c : ℕ) (cs : List ℕ) → is_meta c ≡ false → (c == 92) ≡ false → pieces (c ∷ cs) ≡ Literal c ∷ pieces cs
unfolding pieces_from piece_of pending_after
bare_read c cs m b =
    let d = dot_is_meta c m in
    ap (λ v. option_to_list (cond (v || c == 46) None (Some (cond (is_meta c) Broken (Literal c)))) ++ pieces_from (cond v Escape (cond (c == 46) Dot Nothing)) cs) b
    ∙ ap (λ v. option_to_list (cond v None (Some (cond (is_meta c) Broken (Literal c)))) ++ pieces_from (cond v Dot Nothing) cs) d
    ∙ ap (λ v. option_to_list (Some (cond v Broken (Literal c))) ++ pieces_from Nothing cs) m

literal_read : (c : ℕ) (cs : List ℕ) → pieces (literal_of c ++ cs) ≡ Literal c ∷ pieces cs
unfolding literal_of pieces_from piece_of pending_after
literal_read c cs = from (is_meta c || c == 92) refl
  where
    from : (b : Bool) → (is_meta c || c == 92) ≡ b → pieces (cond b (92 ∷ c ∷ []) (c ∷ []) ++ cs) ≡ Literal c ∷ pieces cs
    from true e = refl
    from false e = let p = or_parts (is_meta c) (c == 92) e in bare_read c cs p.0 p.1

all_read : (text cs : List ℕ) → pieces (all_literal text ++ cs) ≡ literals text ++ pieces cs
all_read [] cs = refl
all_read (c ∷ text) cs =
    ap pieces (append_assoc (literal_of c) (all_literal text) cs) ∙ literal_read c (all_literal text ++ cs) ∙ ap (λ ps. Literal c ∷ ps) (all_read text cs)

end_read : (wild : Bool) → pieces (wildcard_if wild) ≡ wild_if wild
unfolding pieces_from piece_of pending_after piece_at_end
end_read true = refl
end_read false = refl

chars_read : (lead trail : Bool) (text : List ℕ) → pieces (pattern_chars lead trail text) ≡ wild_if lead ++ (literals text ++ wild_if trail)
chars_read lead trail text =
    wild_read lead (all_literal text ++ wildcard_if trail)
    ∙ ap (λ ps. wild_if lead ++ ps) (all_read text (wildcard_if trail) ∙ ap (λ ps. literals text ++ ps) (end_read trail))

text_end : (text : List ℕ) (trail : Bool) → text_of (literals text ++ wild_if trail) ≡ text
text_end [] true = refl
text_end [] false = refl
text_end (c ∷ text) trail = ap (λ cs. c ∷ cs) (text_end text trail)

text_back : (lead trail : Bool) (text : List ℕ) → text_of (wild_if lead ++ (literals text ++ wild_if trail)) ≡ text
text_back true trail text = text_end text trail
text_back false trail text = text_end text trail

begins_back : (lead trail : Bool) (text : List ℕ) → 0 < length text → begins_wild (wild_if lead ++ (literals text ++ wild_if trail)) ≡ lead
begins_back true trail text h = refl
begins_back false trail [] h = absurd (omega arith)
begins_back false trail (c ∷ text) h = refl

ends_end : (c : ℕ) (text : List ℕ) (trail : Bool) → ends_wild (Literal c ∷ (literals text ++ wild_if trail)) ≡ trail
ends_end c [] true = refl
ends_end c [] false = refl
ends_end c (d ∷ text) trail = ends_end d text trail

ends_back : (lead trail : Bool) (text : List ℕ) → 0 < length text → ends_wild (wild_if lead ++ (literals text ++ wild_if trail)) ≡ trail
ends_back lead trail [] h = absurd (omega arith)
ends_back true trail (c ∷ text) h = ends_end c text trail
ends_back false trail (c ∷ text) h = ends_end c text trail

length_end : (text : List ℕ) (trail : Bool) → length (literals text ++ wild_if trail) ≡ length text + bit trail
length_end [] true = refl
length_end [] false = refl
length_end (c ∷ text) trail = let e = length_end text trail in omega (arith, e)

length_back : (lead trail : Bool) (text : List ℕ) → length (wild_if lead ++ (literals text ++ wild_if trail)) ≡ length text + bit lead + bit trail
length_back true trail text = let e = length_end text trail in omega (arith, e)
length_back false trail text = let e = length_end text trail in omega (arith, e)

-- the canonical characters of a pattern are a right pattern with the same wildcards and the same text
pub record IsPattern (lead trail : Bool) (text : List ℕ) : Type 0 where
  pub begins : begins_wild (pieces (pattern_chars lead trail text)) ≡ lead
  pub ends : ends_wild (pieces (pattern_chars lead trail text)) ≡ trail
  pub literal : text_of (pieces (pattern_chars lead trail text)) ≡ text
  pub right : is_right (pieces (pattern_chars lead trail text)) ≡ true

pub pattern_back : (lead trail : Bool) (text : List ℕ) → 0 < length text → IsPattern lead trail text
unfolding is_right
pattern_back lead trail text h =
    let e = chars_read lead trail text in
    let b = ap begins_wild e ∙ begins_back lead trail text h in
    let t = ap ends_wild e ∙ ends_back lead trail text h in
    let l = ap text_of e ∙ text_back lead trail text in
    let n = ap length e ∙ length_back lead trail text in
    record {
      begins = b;
      ends = t;
      literal = l;
      right = and_from _ _
          (ap (λ cs. nat_lt 0 (length cs)) l ∙ lt-ltb 0 (length text) h)
          (ap (λ cs. length cs + bit (begins_wild (pieces (pattern_chars lead trail text))) + bit (ends_wild (pieces (pattern_chars lead trail text))) == length (pieces (pattern_chars lead trail text))) l
          ∙ ap (λ v. length text + bit v + bit (ends_wild (pieces (pattern_chars lead trail text))) == length (pieces (pattern_chars lead trail text))) b
          ∙ ap (λ v. length text + bit lead + bit v == length (pieces (pattern_chars lead trail text))) t
          ∙ eq-eqb _ _ (sym n));
    }
