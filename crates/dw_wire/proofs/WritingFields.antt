-- The fields of a view, as the pairs are written one after another.
use Rattle.std.proofs.Common.{◌≡◌, ℕ, List, [], ◌∷◌, ◌++◌, Bool, true, false, Option, Some, None, refl, sym, ap, ◌∙◌, ◌≤◌, length, drop, drop_of_length-le}
use Rattle.std.specs.Cmp.Lexicographic.{bytes_decides, texts_ties}
use Rattle.json.specs.Token.{Token}
use Rattle.json.specs.Tree.{items_tokens, members_tokens}
use Rattle.serde_json.specs.Data.{array, Items, no_items, item, Members, no_members, member}
use Rattle.serde_json.specs.Written.{items_outline, members_outline}
use Rattle.dw_event.specs.declared.views.Pair.{Pair}
use Rattle.dw_event.specs.Texts.{is_same}
use Rattle.dw_wire.specs.ReplyText.{word, before_fields, fields_data}
use Rattle.dw_wire.specs.ReplyTokens.{opening, closing}

-- what is written for the pairs that are left, by the field whose list is open
abbrev pub pairs_tokens : Option (List ℕ) → List Pair → List Token
pairs_tokens current [] = closing current
pairs_tokens current (c ∷ cs) = opening current c.field ++ Token.string c.raw ∷ pairs_tokens (Some c.field) cs

-- the first member of the fields is that of the first pair
record Begins (c : Pair) (cs : List Pair) : Type 0 where
  raws : Items
  others : Members
  is : fields_data (c ∷ cs) ≡ member c.field (array (item (word c.raw) raws)) others
  tokens : items_tokens (items_outline raws) ++ members_tokens (members_outline others) ≡ pairs_tokens (Some c.field) cs

same_bytes : (a b : List ℕ) → is_same a b ≡ true → a ≡ b
same_bytes a b e = (bytes_decides a b).0 (texts_ties a b ∙ e)

next : (same : Bool) (c d : Pair) (ds : List Pair) → is_same c.field d.field ≡ same → Begins d ds → Begins c (d ∷ ds)
next true c d ds e b = record {
  raws = item (word d.raw) b.raws;
  others = b.others;
  is = ap (before_fields c) b.is ∙ rw e (ap (λ f. member f (array (item (word c.raw) (item (word d.raw) b.raws))) b.others) (sym (same_bytes c.field d.field e)));
  tokens = rw e (ap (λ ts. Token.string d.raw ∷ ts) b.tokens);
}
next false c d ds e b = record {
  raws = no_items;
  others = member d.field (array (item (word d.raw) b.raws)) b.others;
  is = ap (before_fields c) b.is ∙ rw e;
  tokens = rw e (ap (λ ts. Token.end_array ∷ Token.key d.field ∷ Token.begin_array ∷ Token.string d.raw ∷ ts) b.tokens);
}

begins : (c : Pair) (cs : List Pair) → Begins c cs
begins c [] = record { raws = no_items; others = no_members; is = refl; tokens = refl }
begins c (d ∷ ds) = next (is_same c.field d.field) c d ds refl (begins d ds)

fields-pairs : (cs : List Pair) → members_tokens (members_outline (fields_data cs)) ≡ pairs_tokens None cs
fields-pairs [] = refl
fields-pairs (c ∷ cs) =
    let b = begins c cs in
    ap (λ ms. members_tokens (members_outline ms)) b.is ∙ ap (λ ts. Token.key c.field ∷ Token.begin_array ∷ Token.string c.raw ∷ ts) b.tokens

-- after the last pair
pub fields_end : (pairs : List Pair) (i : ℕ) (current : Option (List ℕ)) (start old new : List Token)
    → length pairs ≤ i → old ++ pairs_tokens current (drop i pairs) ≡ start ++ pairs_tokens None pairs → new ≡ old ++ closing current
    → new ≡ start ++ members_tokens (members_outline (fields_data pairs))
fields_end pairs i current start old new past kept e =
    e ∙ sym (ap (λ cs. old ++ pairs_tokens current cs) (drop_of_length-le pairs past)) ∙ kept ∙ ap (λ ts. start ++ ts) (sym (fields-pairs pairs))
