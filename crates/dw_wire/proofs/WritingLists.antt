-- The tokens of a list of values, as its items are written one after another.
use Rattle.std.proofs.Common.{◌≡◌, ℕ, suc, ◌+◌, ◌<◌, List, [], ◌∷◌, ◌++◌, map, length, get_or, drop, sym, ap, ◌∙◌, append_assoc, add-one, drop-cons, Ok}
use Rattle.json.specs.Token.{Token}
use Rattle.json.specs.Tree.{items_tokens}
use Rattle.serde_json.specs.Data.{Data}
use Rattle.serde_json.specs.View.{items_of}
use Rattle.serde_json.specs.Written.{items_outline}
use Rattle.std.specs.declared.alloc.AllocError.{AllocError}
use Rattle.json.specs.Written.{Written, Writes}
use Rattle.dw_wire.specs.ReplyTokens.{data_tokens, Grows}

-- the tokens of these values, and the end of their list
abbrev pub list_tokens : {A : Type 0} → (A → Data) → List A → List Token
list_tokens f xs = items_tokens (items_outline (items_of (map f xs)))

-- one value more
pub list_step : {A : Type 0} (f : A → Data) (xs : List A) (i : ℕ) (x : A) (before after whole : List Token)
    → i < length xs → x ≡ get_or xs i x → after ≡ before ++ data_tokens (f x)
    → before ++ list_tokens f (drop i xs) ≡ whole → after ++ list_tokens f (drop (i + 1) xs) ≡ whole
list_step f xs i x before after whole within at e h =
    let cut : drop i xs ≡ x ∷ drop (i + 1) xs = rw add-one (drop-cons xs i x within ∙ ap (λ y. y ∷ drop (suc i) xs) (sym at)) in
    ap (λ ts. ts ++ list_tokens f (drop (i + 1) xs)) e ∙ append_assoc before (data_tokens (f x)) (list_tokens f (drop (i + 1) xs))
    ∙ sym (ap (λ ys. before ++ list_tokens f ys) cut) ∙ h

-- what two calls wrote, one after the other
pub then : {a b c : Written} {xs ys : List Token} → Grows a b xs → Grows b c ys → Grows a c (xs ++ ys)
then {a} {b} {c} {xs} {ys} first second = record {
  tokens = second.tokens ∙ ap (λ ts. ts ++ ys) first.tokens ∙ append_assoc a.tokens xs ys;
  before = second.before ∙ first.before;
}

-- what a call of the writer wrote
pub wrote : {a b : Written} {t : Token} → Writes {E = AllocError} (Ok tt) a b t → Grows a b (t ∷ [])
wrote w = record { tokens = w.ok; before = w.room.0 }
