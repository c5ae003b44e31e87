-- Tokens cut off one after another.
use Rattle.std.proofs.Common.{◌≡◌, ℕ, ◌+◌, List, [], ◌∷◌, ◌++◌, drop, Some, None, refl, sym, ap, ◌∙◌, subst, append_assoc}
use Rattle.std.specs.List.{prefix_len}
use Rattle.std.proofs.lemmas.List.{append-nil, drop-drop}
use Rattle.dw_lucene.specs.declared.token.Token.{Token}
use Rattle.dw_jexl.specs.Tokens.{is_blank}
use Rattle.dw_lucene.specs.Tokens.{past_blanks, first_token, AreReadAt, AreRead}

-- what follows the tokens so far completes them
pub record Cuts (cs : List ℕ) (tokens : List Token) (left : List ℕ) : Type 0 where
  pub with : (ts : List Token) (rest : List ℕ) → AreReadAt left ts rest → AreRead cs (tokens ++ ts) rest

pub cuts_first : (cs left : List ℕ) → left ≡ past_blanks cs → Cuts cs [] left
cuts_first cs left e = record { with = λ ts rest h. subst (λ xs. AreReadAt xs ts rest) e h }

pub cuts_more : (cs left : List ℕ) (tokens : List Token) (t : Token) (used : ℕ) → Cuts cs tokens left → first_token left ≡ Some (t, used) → Cuts cs (tokens ++ t ∷ []) (past_blanks (drop used left))
cuts_more cs left tokens t used c e =
    record { with = λ ts rest h. subst (λ us. AreRead cs us rest) (sym (append_assoc tokens (t ∷ []) ts)) (c.with (t ∷ ts) rest (used, e, h)) }

pub cuts_all : (cs left : List ℕ) (tokens : List Token) → Cuts cs tokens left → first_token left ≡ None → AreRead cs tokens left
cuts_all cs left tokens c e = subst (λ us. AreRead cs us left) (append-nil tokens) (c.with [] left (refl, e))

-- the same by places
pub cuts_next : (cs : List ℕ) (tokens : List Token) (t : Token) (at used place : ℕ) → Cuts cs tokens (drop at cs) → first_token (drop at cs) ≡ Some (t, used) → place ≡ at + used + prefix_len is_blank (drop (at + used) cs) → Cuts cs (tokens ++ t ∷ []) (drop place cs)
cuts_next cs tokens t at used place c e p =
    let again = drop-drop used at cs in
    let ends : past_blanks (drop used (drop at cs)) ≡ drop place cs =
    ap past_blanks again ∙ drop-drop (prefix_len is_blank (drop (at + used) cs)) (at + used) cs ∙ ap (λ n. drop n cs) (sym p) in
    subst (λ xs. Cuts cs (tokens ++ t ∷ []) xs) ends (cuts_more cs (drop at cs) tokens t used c e)
