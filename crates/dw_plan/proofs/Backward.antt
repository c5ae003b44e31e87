-- On values of table 2, which stand back to front.
use Rattle.std.proofs.Common.{◌≡◌, ℕ, ◌==◌, Bool, true, false, cond, ◌&&◌, nat_eq, List, [], ◌∷◌, reverse, Option, Some, None, chars, IsUtf8, refl, sym, ap, subst, ◌∙◌}
use lib.Utf8.{scalars, encodes}
use Rattle.std.specs.Option.{option_map_or}
use Rattle.std.specs.List.{starts_with, ends_with}
use Rattle.std.specs.FinMap.{keys}
use Rattle.std.proofs.lemmas.Bool.{and_parts, and_from}
use Rattle.std.proofs.lemmas.List.{reverse-append}
use Rattle.std.proofs.lemmas.Str.{IsUtf8-append, IsUtf8-from_is_utf8, encodes-append, scalars-chars}
use Rattle.dw_key.specs.declared.key.Key.{Key}
use Rattle.dw_norm.specs.Reversal.{rev}
use Rattle.dw_norm.specs.Laws.{ReversalTakesBack, EndsAreFrontsReversed}
use Rattle.dw_event.specs.Texts.{is_same}
use Rattle.dw_event.specs.Wanted.{is_type_wanted}
use Rattle.dw_event.specs.declared.types.Types.{Types}
use Rattle.dw_outside.specs.declared.slot.Slot.{Slot}
use Rattle.dw_outside.specs.Tables.{Tables}
use Rattle.dw_derive.specs.Readers.{GlobalReading, global_reading}
use Rattle.dw_derive.specs.Decoded.{key_from, has_key}
use Rattle.dw_derive.proofs.Lists.{any_alike}
use Rattle.dw_plan.specs.Hit.{told_by, some_cell, says_value, backward}
use Rattle.dw_plan.specs.Cells.{is_open}
use Rattle.dw_plan.proofs.Keys.{reading_says}

utf8_backwards : (cs : List ℕ) → scalars cs ≡ true → IsUtf8 (encodes (reverse cs))
utf8_backwards [] h = ([], (refl, refl))
utf8_backwards (c ∷ cs) h =
    let parts = and_parts _ (scalars cs) h in
    let one : IsUtf8 (encodes (c ∷ [])) = (c ∷ [], (and_from _ true parts.0 refl, refl)) in
    subst IsUtf8 (sym (ap encodes (reverse-append (c ∷ []) cs) ∙ encodes-append (reverse cs) (c ∷ []))) (IsUtf8-append _ _ (utf8_backwards cs parts.1) one)

pub utf8_reversed : (text : List ℕ) → IsUtf8 text → IsUtf8 (rev text)
unfolding rev
utf8_reversed text u = utf8_backwards (chars text) (scalars-chars text u)

module _ (back : ReversalTakesBack) (fronts : EndsAreFrontsReversed) (names : List (List ℕ)) (types : Types) (s field text : List ℕ) (u : IsUtf8 text) where
  -- a row begins with the text back to front where it, back to front, ends with the text
  row_ends : (row : List ℕ) → IsUtf8 row → starts_with nat_eq row (rev text) ≡ ends_with nat_eq (rev row) text
  row_ends row v = sym (fronts (rev row) text (utf8_reversed row v) u ∙ ap (λ x. starts_with nat_eq x (rev text)) (back row v))

  abbrev first : GlobalReading → Bool
  first = says_value types s field (λ value. starts_with nat_eq value (rev text))

  abbrev second : GlobalReading → Bool
  second = says_value types s field (λ value. ends_with nat_eq (rev value) text)

  at_told : (k : Key) (b : Bool) (o : Option GlobalReading) → global_reading k ≡ o → option_map_or first (cond b o None) false ≡ option_map_or second (cond b o None) false
  at_told k true (Some r) e =
      let says = reading_says k r e in
      ap (λ b. is_same s r.shard && is_type_wanted types r.dtype && is_same field r.field && b) (row_ends r.value (subst IsUtf8 says.value (IsUtf8-from_is_utf8 k.row says.utf8)))
  at_told k true None e = refl
  at_told k false o e = refl

  at_key : (o : Option Key) → option_map_or (λ k. option_map_or first (told_by names k) false) o false ≡ option_map_or (λ k. option_map_or second (told_by names k) false) o false
  at_key None = refl
  at_key (Some k) = at_told k (is_open names k.vis) (global_reading k) refl

  pub ends_alike : (t : Tables) (front : List ℕ) → front ≡ rev text
      → some_cell t names 2 (says_value types s field (λ value. starts_with nat_eq value front)) ≡ backward t names types s field (λ form. ends_with nat_eq form text)
  ends_alike t front e =
      ap (λ f. some_cell t names 2 (says_value types s field (λ value. starts_with nat_eq value f))) e
      ∙ any_alike (has_key 2 (λ k. option_map_or first (told_by names k) false)) (has_key 2 (λ k. option_map_or second (told_by names k) false))
      (λ (q : Slot). ap (λ b. (q.table == 2) && b) (at_key (key_from q.key))) (keys t)
