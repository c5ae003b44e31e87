-- The first token, by its first character.
use Rattle.std.proofs.Common.{◌≡◌, ℕ, ◌<◌, true, false, cond, List, [], ◌∷◌, length, drop, Option, None, refl, ap, ◌∙◌, arith}
use Rattle.std.specs.Prelude.{slice_index, option_map}
use Rattle.std.proofs.lemmas.Bool.{or_from}
use Rattle.dw_jexl.specs.Tokens.{is_blank}
use Rattle.dw_lucene.specs.declared.token.Token.{Token}
use Rattle.dw_lucene.specs.Tokens.{is_special, ends_term, term, term_token, special_token, first_token}

abbrev word_of : List ℕ → Option (Token × ℕ)
word_of cs = option_map (term_token cs) (term false cs)

pub no_first : (cs : List ℕ) → length cs ≡ 0 → first_token cs ≡ None
unfolding first_token
no_first [] h = refl
no_first (c ∷ cs) h = absurd (omega arith)

pub first_special : (cs : List ℕ) → 0 < length cs → is_special (slice_index cs 0) ≡ true → first_token cs ≡ special_token (slice_index cs 0) (drop 1 cs)
unfolding first_token
first_special [] h e = absurd (omega arith)
first_special (c ∷ cs) h e = ap (λ b. cond b (special_token c cs) (cond (is_blank c) None (word_of (c ∷ cs)))) e

pub first_blank : (cs : List ℕ) → 0 < length cs → is_special (slice_index cs 0) ≡ false → is_blank (slice_index cs 0) ≡ true → first_token cs ≡ None
unfolding first_token
first_blank [] h e f = absurd (omega arith)
first_blank (c ∷ cs) h e f =
    ap (λ b. cond b (special_token c cs) (cond (is_blank c) None (word_of (c ∷ cs)))) e
    ∙ ap (λ b. cond b None (word_of (c ∷ cs))) f

pub first_term : (cs : List ℕ) → 0 < length cs → is_special (slice_index cs 0) ≡ false → is_blank (slice_index cs 0) ≡ false → first_token cs ≡ option_map (term_token cs) (term false cs)
unfolding first_token
first_term [] h e f = absurd (omega arith)
first_term (c ∷ cs) h e f =
    ap (λ b. cond b (special_token c cs) (cond (is_blank c) None (word_of (c ∷ cs)))) e
    ∙ ap (λ b. cond b None (word_of (c ∷ cs))) f

pub begins_term : (c : ℕ) → is_special c ≡ false → is_blank c ≡ false → ends_term c ≡ false
unfolding ends_term
begins_term c e f = or_from (is_blank c) (is_special c) f e
