-- What is known of a text that spells a query.
use Rattle.std.proofs.Common.{◌≡◌, ℕ, zero, suc, Bool, true, false, cond, List, [], ◌∷◌, drop, Some, None, refl, ap, inl, inr}
use Rattle.std.specs.Prelude.{not, ◌⊎◌, unwrap_or}
use Rattle.std.proofs.lemmas.Bool.{and_parts}
use Rattle.dw_jexl.specs.declared.query.Query.{Query}
use Rattle.dw_jexl.specs.declared.token.Token.{Token}
use Rattle.dw_jexl.specs.declared.token.Token.TheVariants.{Match, Quoted}
use Rattle.dw_jexl.specs.Tokens.{is_match}
use Rattle.dw_jexl.specs.Patterns.{pieces, is_right, first_is_right, are_right}
use Rattle.dw_jexl.proofs.Named.{AreNamed}

-- which two sides make a bounded
pub sides : (same low high : Bool) (x y q : Query) → cond (not same) None (cond low (Some x) (cond high (Some y) None)) ≡ Some q → ((low ≡ true) × (x ≡ q)) ⊎ ((high ≡ true) × (y ≡ q))
sides false low high x y q h = cc
sides true true high x y q h = inl (refl, ap (λ o. unwrap_or o q) h)
sides true false true x y q h = inr (refl, ap (λ o. unwrap_or o q) h)
sides true false false x y q h = cc

-- what is known of the tokens of a text that spells a query
pub record Known (ts : List Token) : Type 0 where
  pub named : AreNamed ts
  pub right : are_right ts ≡ true

pub behind : (t : Token) (ts : List Token) → Known (t ∷ ts) → Known ts
unfolding are_right
behind t ts k = record { named = k.named.1; right = (and_parts (cond (is_match t) (first_is_right ts) true) (are_right ts) k.right).1 }

pub past : (n : ℕ) (ts : List Token) → Known ts → Known (drop n ts)
past zero ts k = k
past (suc n) [] k = k
past (suc n) (t ∷ ts) k = past n ts (behind t ts k)

pub matched : (n : Bool) (raw : List ℕ) (ts : List Token) → Known (Match n ∷ Quoted raw ∷ ts) → is_right (pieces raw) ≡ true
unfolding are_right
matched n raw ts k = (and_parts (is_right (pieces raw)) (are_right (Quoted raw ∷ ts)) k.right).0
