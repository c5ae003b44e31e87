-- The text of a query, piece by piece.
use Rattle.std.proofs.Common.{◌≡◌, ℕ, ◌+◌, ◌<◌, ◌≤◌, List, ◌++◌, length, drop, get_or, sym, ap, ◌∙◌, append_assoc}
use Rattle.std.specs.Prelude.{◌==◌, if◌then◌else◌}
use Rattle.std.proofs.lemmas.List.{append-nil, drop_more, drop_all}
use Rattle.dw_lucene.specs.Printed.{escaped, all_escaped, literal_of, all_literal, Printed, following_text, children_text}

pub escapes_go_on : (cs out : List ℕ) (i : ℕ) → i < length cs → out ++ all_escaped (drop i cs) ≡ (out ++ escaped (get_or cs i 0)) ++ all_escaped (drop (i + 1) cs)
escapes_go_on cs out i h =
    ap (λ xs. out ++ all_escaped xs) (drop_more cs i 0 h) ∙ sym (append_assoc out (escaped (get_or cs i 0)) (all_escaped (drop (i + 1) cs)))

pub escapes_end : (cs out : List ℕ) (i : ℕ) → length cs ≤ i → out ++ all_escaped (drop i cs) ≡ out
escapes_end cs out i h = ap (λ xs. out ++ all_escaped xs) (drop_all i cs h) ∙ append-nil out

pub literals_go_on : (cs out : List ℕ) (i : ℕ) → i < length cs → out ++ all_literal (drop i cs) ≡ (out ++ literal_of (get_or cs i 0)) ++ all_literal (drop (i + 1) cs)
literals_go_on cs out i h =
    ap (λ xs. out ++ all_literal xs) (drop_more cs i 0 h) ∙ sym (append_assoc out (literal_of (get_or cs i 0)) (all_literal (drop (i + 1) cs)))

pub literals_end : (cs out : List ℕ) (i : ℕ) → length cs ≤ i → out ++ all_literal (drop i cs) ≡ out
literals_end cs out i h = ap (λ xs. out ++ all_literal xs) (drop_all i cs h) ∙ append-nil out

-- the text of the children from a place on
abbrev pub text_from : List ℕ → ℕ → List Printed → List ℕ
text_from sign place ps = if place == 0 then children_text sign ps else following_text sign ps
