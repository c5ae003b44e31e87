-- The characters of a text that grows.
use Rattle.std.proofs.Common.{◌≡◌, ℕ, List, [], ◌∷◌, ◌++◌, Result, Ok, Err, sym, ap, ◌∙◌}
use Rattle.std.specs.Prelude.{chars, encode_utf8, IsUtf8, OnErr, OnOk, is_ok, if◌then◌else◌}
use Rattle.std.specs.Prelude.{bytes_eq, encode_utf8_all}
use Rattle.std.proofs.lemmas.Str.{encodes-chars}
use Rattle.std.proofs.lemmas.Bool.Decides.{same_from_decides, Decides-like}
use Rattle.std.proofs.lemmas.Slice.Eq.{bytes_eq-Decides}
use Rattle.std.specs.Char.{IsScalar}
use Rattle.std.proofs.lemmas.List.{append-nil}
use Rattle.std.proofs.lemmas.Str.{chars-append, chars-nil, chars_past_char, IsUtf8-encode}

one_char : (c : ℕ) → IsScalar c → chars (encode_utf8 c) ≡ c ∷ []
one_char c s = chars_past_char (encode_utf8 c) [] c (IsUtf8-encode c s) (sym (append-nil (encode_utf8 c))) ∙ ap (λ cs. c ∷ cs) chars-nil

pub pushed : {X E : Type 0} (r : Result X E) (old new word : List ℕ) (c : ℕ) → new ≡ (if is_ok r then old ++ encode_utf8 c else old) → IsUtf8 old → IsScalar c → chars old ≡ word → OnOk r (chars new ≡ word ++ c ∷ [])
pushed (Ok x) old new word c e u s w =
    ap chars e ∙ chars-append old (encode_utf8 c) u ∙ ap (λ cs. chars old ++ cs) (one_char c s) ∙ ap (λ cs. cs ++ c ∷ []) w
pushed (Err x) old new word c e u s w = tt

pub not_pushed : {X E : Type 0} (r : Result X E) (old new word : List ℕ) (c : ℕ) → new ≡ (if is_ok r then old ++ encode_utf8 c else old) → chars old ≡ word → OnErr r (chars new ≡ word)
not_pushed (Ok x) old new word c e w = tt
not_pushed (Err x) old new word c e w = ap chars e ∙ w

-- two texts are one exactly where their characters are
pub same_texts : (a b : List ℕ) → IsUtf8 a → IsUtf8 b → bytes_eq a b ≡ bytes_eq (chars a) (chars b)
same_texts a b ua ub =
    same_from_decides (bytes_eq a b) (bytes_eq (chars a) (chars b)) (bytes_eq-Decides a b)
    (Decides-like (bytes_eq (chars a) (chars b)) (λ e. sym (encodes-chars a ua) ∙ ap encode_utf8_all e ∙ encodes-chars b ub) (ap chars) (bytes_eq-Decides (chars a) (chars b)))
