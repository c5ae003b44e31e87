-- The first token, by its first character.
use Rattle.std.proofs.Common.{◌≡◌, ℕ, ◌<◌, true, false, cond, List, [], ◌∷◌, length, take, drop, Option, Some, None, refl, ap, ◌∙◌, arith}
use Rattle.std.specs.Prelude.{slice_index}
use Rattle.std.specs.List.{prefix_len}
use Rattle.dw_jexl.specs.declared.token.Token.{Token}
use Rattle.dw_jexl.specs.Tokens.{starts_word, in_word, starts_number, is_quote, word_token, number_token, string_token, sign_token, first_token}

abbrev word_of : List ℕ → Option (Token × ℕ)
word_of cs = Some (word_token (take (prefix_len in_word cs) cs), prefix_len in_word cs)

pub no_first : (cs : List ℕ) → length cs ≡ 0 → first_token cs ≡ None
unfolding first_token
no_first [] h = refl
no_first (c ∷ cs) h = absurd (omega arith)

pub first_word : (cs : List ℕ) → 0 < length cs → starts_word (slice_index cs 0) ≡ true → first_token cs ≡ Some (word_token (take (prefix_len in_word cs) cs), prefix_len in_word cs)
unfolding first_token
first_word [] h e = absurd (omega arith)
first_word (c ∷ cs) h e =
    ap (λ b. cond b (word_of (c ∷ cs)) (cond (starts_number c) (number_token (c ∷ cs)) (cond (is_quote c) (string_token c cs) (sign_token c (slice_index cs 0))))) e

pub first_number : (cs : List ℕ) → 0 < length cs → starts_word (slice_index cs 0) ≡ false → starts_number (slice_index cs 0) ≡ true → first_token cs ≡ number_token cs
unfolding first_token
first_number [] h e f = absurd (omega arith)
first_number (c ∷ cs) h e f =
    ap (λ b. cond b (word_of (c ∷ cs)) (cond (starts_number c) (number_token (c ∷ cs)) (cond (is_quote c) (string_token c cs) (sign_token c (slice_index cs 0))))) e
    ∙ ap (λ b. cond b (number_token (c ∷ cs)) (cond (is_quote c) (string_token c cs) (sign_token c (slice_index cs 0)))) f

pub first_string : (cs : List ℕ) → 0 < length cs → starts_word (slice_index cs 0) ≡ false → starts_number (slice_index cs 0) ≡ false → is_quote (slice_index cs 0) ≡ true → first_token cs ≡ string_token (slice_index cs 0) (drop 1 cs)
unfolding first_token
first_string [] h e f g = absurd (omega arith)
first_string (c ∷ cs) h e f g =
    ap (λ b. cond b (word_of (c ∷ cs)) (cond (starts_number c) (number_token (c ∷ cs)) (cond (is_quote c) (string_token c cs) (sign_token c (slice_index cs 0))))) e
    ∙ ap (λ b. cond b (number_token (c ∷ cs)) (cond (is_quote c) (string_token c cs) (sign_token c (slice_index cs 0)))) f
    ∙ ap (λ b. cond b (string_token c cs) (sign_token c (slice_index cs 0))) g

pub first_sign : (cs : List ℕ) → 0 < length cs → starts_word (slice_index cs 0) ≡ false → starts_number (slice_index cs 0) ≡ false → is_quote (slice_index cs 0) ≡ false → first_token cs ≡ sign_token (slice_index cs 0) (slice_index cs 1)
unfolding first_token
first_sign [] h e f g = absurd (omega arith)
first_sign (c ∷ cs) h e f g =
    ap (λ b. cond b (word_of (c ∷ cs)) (cond (starts_number c) (number_token (c ∷ cs)) (cond (is_quote c) (string_token c cs) (sign_token c (slice_index cs 0))))) e
    ∙ ap (λ b. cond b (number_token (c ∷ cs)) (cond (is_quote c) (string_token c cs) (sign_token c (slice_index cs 0)))) f
    ∙ ap (λ b. cond b (string_token c cs) (sign_token c (slice_index cs 0))) g
