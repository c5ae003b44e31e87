-- Reversals of texts, and where texts end.
use Rattle.std.proofs.Common.{◌≡◌, ℕ, Bool, true, false, ◌-◌, List, [], ◌∷◌, ◌++◌, length, take, drop, reverse, chars, encode_utf8_all, IsUtf8, refl, sym, ap, subst, ◌∙◌}
use lib.Utf8.{scalars, encodes}
use Rattle.std.specs.Prelude.{nat_eq}
use Rattle.std.specs.List.{starts_with, ends_with}
use Rattle.std.proofs.lemmas.Bool.{and_parts, and_from}
use Rattle.std.proofs.lemmas.Bool.Decides.{Decides-eqb}
use Rattle.std.proofs.lemmas.List.{reverse-append, reverse-reverse, take_at}
use Rattle.std.proofs.lemmas.Slice.Eq.{starts_is, ends_is}
use Rattle.std.proofs.lemmas.Str.{IsUtf8-append, IsUtf8-take, IsCharBoundary-at_seam, encodes-append, encodes-chars, scalars-chars, chars-append, chars_from_encodes}
use Rattle.dw_norm.specs.Reversal.{rev}
use Rattle.dw_norm.specs.Laws.{ReversalTakesBack, EndsAreFrontsReversed}

utf8_backwards : (cs : List ℕ) → scalars cs ≡ true → IsUtf8 (encodes (reverse cs))
utf8_backwards [] h = ([], (refl, refl))
utf8_backwards (c ∷ cs) h =
    let parts = and_parts _ (scalars cs) h in
    let one : IsUtf8 (encodes (c ∷ [])) = (c ∷ [], (and_from _ true parts.0 refl, refl)) in
    subst IsUtf8 (sym (ap encodes (reverse-append (c ∷ []) cs) ∙ encodes-append (reverse cs) (c ∷ []))) (IsUtf8-append _ _ (utf8_backwards cs parts.1) one)

rev-is : (text : List ℕ) → rev text ≡ encode_utf8_all (reverse (chars text))
unfolding rev
rev-is text = refl

utf8_reversed : (text : List ℕ) → IsUtf8 text → IsUtf8 (rev text)
utf8_reversed text u = subst IsUtf8 (sym (rev-is text)) (utf8_backwards (chars text) (scalars-chars text u))

chars_reversed : (text : List ℕ) → IsUtf8 text → chars (rev text) ≡ reverse (chars text)
chars_reversed text u = sym (chars_from_encodes (reverse (chars text)) (rev text) (utf8_reversed text u) (sym (rev-is text)))

pub reversed_twice : ReversalTakesBack
reversed_twice text u =
    rev-is (rev text)
    ∙ ap (λ cs. encode_utf8_all (reverse cs)) (chars_reversed text u)
    ∙ ap encode_utf8_all (reverse-reverse (chars text))
    ∙ encodes-chars text u

rev-append : (xs ys : List ℕ) → IsUtf8 xs → rev (xs ++ ys) ≡ rev ys ++ rev xs
rev-append xs ys u =
    rev-is (xs ++ ys)
    ∙ ap (λ cs. encode_utf8_all (reverse cs)) (chars-append xs ys u)
    ∙ ap encode_utf8_all (reverse-append (chars xs) (chars ys))
    ∙ encodes-append (reverse (chars ys)) (reverse (chars xs))
    ∙ (λ i. sym (rev-is ys) i ++ sym (rev-is xs) i)

front_utf8 : (text front end : List ℕ) → IsUtf8 text → IsUtf8 end → text ≡ front ++ end → IsUtf8 front
front_utf8 text front end u v e =
    subst IsUtf8 (ap (take (length front)) e ∙ take_at front end (length front) refl) (IsUtf8-take text (length front) u (IsCharBoundary-at_seam text front end e v))

-- where a text ends with another, it begins with that one's reversal when it is reversed
reversed_front : (text front end : List ℕ) → IsUtf8 text → IsUtf8 end → text ≡ front ++ end → rev text ≡ rev end ++ rev front
reversed_front text front end u v e = ap rev e ∙ rev-append front end (front_utf8 text front end u v e)

-- and only there
end_reversed : (text end rest : List ℕ) → IsUtf8 text → IsUtf8 end → rev text ≡ rev end ++ rest → text ≡ rev rest ++ end
end_reversed text end rest u v e =
    sym (reversed_twice text u) ∙ ap rev e ∙ rev-append (rev end) rest (utf8_reversed end v) ∙ ap (λ xs. rev rest ++ xs) (reversed_twice end v)

same_tests : (b c : Bool) → (b ≡ true → c ≡ true) → (c ≡ true → b ≡ true) → b ≡ c
same_tests true c h k = sym (h refl)
same_tests false true h k = k refl
same_tests false false h k = refl

pub ends_reversed : EndsAreFrontsReversed
ends_reversed text end u v =
    let ends = ends_is Decides-eqb text end (ends_with nat_eq text end) refl in
    let starts = starts_is Decides-eqb (rev text) (rev end) (starts_with nat_eq (rev text) (rev end)) refl in
    same_tests _ _ (λ t. starts.1 (rev (take (length text - length end) text)) (reversed_front text (take (length text - length end) text) end u v (ends.0 t)))
    (λ t. ends.1 (rev (drop (length (rev end)) (rev text))) (end_reversed text end (drop (length (rev end)) (rev text)) u v (starts.0 t)))
