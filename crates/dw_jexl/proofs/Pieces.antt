-- The pieces of a pattern, one after another.
use Rattle.std.proofs.Common.{◌≡◌, ℕ, zero, suc, ◌+◌, ◌-◌, ◌<◌, ◌≤◌, true, List, [], ◌∷◌, ◌++◌, length, drop, get_or, refl, sym, ap, ◌∙◌, arith, append_assoc, length-append}
use Rattle.std.specs.Prelude.{◌&&◌, option_to_list, if◌then◌else◌}
use Rattle.std.proofs.lemmas.List.{append-nil, drop_more, drop_all}
use Rattle.dw_jexl.specs.declared.pattern.Piece.{Piece}
use Rattle.dw_jexl.specs.declared.pattern.Pending.{Pending}
use Rattle.dw_jexl.specs.declared.token.Token.{Token}
use Rattle.dw_jexl.specs.Tokens.{is_match, holds_at}
use Rattle.dw_jexl.specs.Patterns.{piece_of, pending_after, piece_at_end, pieces_from, literal_in, text_of, is_wild, ends_wild, first_is_right, is_right_at, are_right}

pub piece_goes_on : (p : Pending) (raw : List ℕ) (out : List Piece) (i : ℕ) → i < length raw → out ++ pieces_from p (drop i raw) ≡ (out ++ option_to_list (piece_of p (get_or raw i 0))) ++ pieces_from (pending_after p (get_or raw i 0)) (drop (i + 1) raw)
unfolding pieces_from
piece_goes_on p raw out i h =
    ap (λ xs. out ++ pieces_from p xs) (drop_more raw i 0 h)
    ∙ sym (append_assoc out (option_to_list (piece_of p (get_or raw i 0))) (pieces_from (pending_after p (get_or raw i 0)) (drop (i + 1) raw)))

pub pieces_end : (p : Pending) (raw : List ℕ) (i : ℕ) → length raw ≤ i → pieces_from p (drop i raw) ≡ option_to_list (piece_at_end p)
unfolding pieces_from
pieces_end p raw i h = ap (pieces_from p) (drop_all i raw h)

pub text_goes_on : (ps : List Piece) (text : List ℕ) (i : ℕ) (d : Piece) → i < length ps → text ++ text_of (drop i ps) ≡ (text ++ option_to_list (literal_in (get_or ps i d))) ++ text_of (drop (i + 1) ps)
text_goes_on ps text i d h =
    ap (λ xs. text ++ text_of xs) (drop_more ps i d h)
    ∙ sym (append_assoc text (option_to_list (literal_in (get_or ps i d))) (text_of (drop (i + 1) ps)))

pub text_ends : (ps : List Piece) (text : List ℕ) (i : ℕ) → length ps ≤ i → text ++ text_of (drop i ps) ≡ text
text_ends ps text i h = ap (λ xs. text ++ text_of xs) (drop_all i ps h) ∙ append-nil text

pub literals_go_on : (ps : List Piece) (i : ℕ) (d : Piece) → i < length ps → length (text_of (drop i ps)) ≡ length (option_to_list (literal_in (get_or ps i d))) + length (text_of (drop (i + 1) ps))
literals_go_on ps i d h =
    ap (λ xs. length (text_of xs)) (drop_more ps i d h)
    ∙ length-append (option_to_list (literal_in (get_or ps i d))) (text_of (drop (i + 1) ps))

pub literals_end : (ps : List Piece) (i : ℕ) → length ps ≤ i → length (text_of (drop i ps)) ≡ 0
literals_end ps i h = ap (λ xs. length (text_of xs)) (drop_all i ps h)

pub last_is_wild : (ps : List Piece) (d : Piece) → 0 < length ps → is_wild (get_or ps (length ps - 1) d) ≡ ends_wild ps
last_is_wild [] d h = absurd (omega arith)
last_is_wild (p ∷ []) d h = refl
last_is_wild (p ∷ q ∷ ps) d h =
    let e : suc (suc (length ps)) - 1 ≡ suc (suc (length ps) - 1) = omega arith in
    ap (λ n. is_wild (get_or (p ∷ q ∷ ps) n d)) e ∙ last_is_wild (q ∷ ps) d (omega arith)

pub right_goes_on : (ts : List Token) (i : ℕ) → i < length ts → are_right (drop i ts) ≡ (is_right_at ts i && are_right (drop (i + 1) ts))
unfolding are_right
right_goes_on [] i h = absurd (omega arith)
right_goes_on (t ∷ ts) zero h = refl
right_goes_on (t ∷ ts) (suc i) h =
    let e : suc i + 1 ≡ suc (i + 1) = omega arith in
    right_goes_on ts i (omega arith)
    ∙ ap (λ n. (if holds_at is_match ts i then first_is_right (drop n (t ∷ ts)) else true) && are_right (drop n (t ∷ ts))) (sym e)

pub right_at_end : (ts : List Token) (i : ℕ) → length ts ≤ i → are_right (drop i ts) ≡ true
unfolding are_right
right_at_end ts i h = ap are_right (drop_all i ts h)
