-- Where no code is the beginning of another, bytes are a code or have one of the three faults, and never two of these.
use Rattle.std.proofs.Common.{◌≡◌, ℕ, ◌<◌, ◌^◌, List, [], ◌∷◌, ◌++◌, length, refl, sym, ap, subst, ◌∙◌, append_assoc, arith, ◌⊎◌, inl, inr}
use Rattle.std.proofs.lemmas.List.{append-nil, length-append}
use Rattle.std.specs.List.{AllByRecursion}
use Rattle.std.specs.Prelude.{Result, Ok, Err, IfOk}
use Rattle.dw_key.specs.declared.key.Key.{Key}
use Rattle.dw_key.specs.KeyCode.{code, code_of, part_code, stamp_code, escaped, AreBytes, IsKey, IsCode}
use Rattle.dw_key.specs.KeyFaults.{IsCut, HasTail, HasEscape, IsFault, IsCodeOf, IsSplit, Spells, IsCause, IsDecoded, GivesTheKey}
use Rattle.dw_key.specs.declared.decoding.BadKey.{BadKey}
use Rattle.dw_key.specs.declared.decoding.BadKey.TheVariants.{Cut, Escape, Tail, OutOfMemory}
use Rattle.dw_key.proofs.Escapes.{part_code-then, AreBytes-parts, AreBytes-escaped}
use Rattle.dw_key.proofs.Codes.{same_key}

-- two ways to cut a list: one front is the beginning of the other
two_cuts : (a b c d : List ℕ) → a ++ b ≡ c ++ d → ((m : List ℕ) × (a ≡ c ++ m) × (d ≡ m ++ b)) ⊎ ((m : List ℕ) × (c ≡ a ++ m) × (b ≡ m ++ d))
two_cuts [] b c d e = inr (c, refl, e)
two_cuts (x ∷ a) b [] d e = inl (x ∷ a, refl, sym e)
two_cuts (x ∷ a) b (y ∷ c) d e =
    let same : x ≡ y = cc in
    elim (two_cuts a b c d cc) [
      | inl h ↦ inl (h.0, (λ i. same i ∷ h.1 i), h.2)
      | inr h ↦ inr (h.0, (λ i. sym same i ∷ h.1 i), h.2)
    ]

nothing_more : (xs : List ℕ) → xs ≡ [] → 0 < length xs → ⊥
nothing_more xs e longer = omega (arith, longer, ap (λ (t : List ℕ). length t) e)

-- no code is the beginning of another
abbrev pub IsPrefixFree : (List ℕ → Type 0) → Type 0
IsPrefixFree Code = (bytes more : List ℕ) → Code bytes → Code (bytes ++ more) → more ≡ []

module _ (Code : List ℕ → Type 0) (free : IsPrefixFree Code) where
  code_not_cut : (bytes : List ℕ) → Code bytes → IsCut Code bytes → ⊥
  code_not_cut bytes c (more, longer, d) = nothing_more more (free bytes more c d) longer

  code_no_tail : (bytes : List ℕ) → Code bytes → HasTail Code bytes → ⊥
  code_no_tail bytes c (front, tail, d, longer, e) = nothing_more tail (free front tail d (subst Code e c)) longer

  -- bytes that lie in the beginning of a code have no such place
  begun_no_escape : (bytes more : List ℕ) → Code (bytes ++ more) → HasEscape Code bytes → ⊥
  begun_no_escape bytes more c h =
      let whole : bytes ++ more ≡ (h.before ++ 0 ∷ h.byte ∷ []) ++ (h.after ++ more) =
      ap (λ (t : List ℕ). t ++ more) h.place ∙ append_assoc h.before (0 ∷ h.byte ∷ h.after) more ∙ sym (append_assoc h.before (0 ∷ h.byte ∷ []) (h.after ++ more)) in
      h.stops (h.after ++ more, subst Code whole c)

  code_no_escape : (bytes : List ℕ) → Code bytes → HasEscape Code bytes → ⊥
  code_no_escape bytes c h = begun_no_escape bytes [] (subst Code (sym (append-nil bytes)) c) h

  cut_no_tail : (bytes : List ℕ) → IsCut Code bytes → HasTail Code bytes → ⊥
  cut_no_tail bytes (more, longer, c) (front, tail, d, longer', e) =
      let whole : bytes ++ more ≡ front ++ (tail ++ more) = ap (λ (t : List ℕ). t ++ more) e ∙ append_assoc front tail more in
      nothing_more (tail ++ more) (free front (tail ++ more) d (subst Code whole c)) (omega (arith, longer, length-append tail more))

  cut_no_escape : (bytes : List ℕ) → IsCut Code bytes → HasEscape Code bytes → ⊥
  cut_no_escape bytes (more, longer, c) h = begun_no_escape bytes more c h

  -- a code that reaches behind the place
  past_escape : (bytes front m : List ℕ) → (h : HasEscape Code bytes) → Code front → front ≡ (h.before ++ 0 ∷ []) ++ m → (tail : List ℕ) → h.byte ∷ h.after ≡ m ++ tail → ⊥
  past_escape bytes front [] h c e tail rest = code_not_cut (h.before ++ 0 ∷ []) (subst Code (e ∙ append-nil (h.before ++ 0 ∷ [])) c) h.begins
  past_escape bytes front (x ∷ m) h c e tail rest =
      let same : x ≡ h.byte = cc in
      let whole : front ≡ (h.before ++ 0 ∷ h.byte ∷ []) ++ m = e ∙ append_assoc h.before (0 ∷ []) (x ∷ m) ∙ (λ i. h.before ++ 0 ∷ same i ∷ m) ∙ sym (append_assoc h.before (0 ∷ h.byte ∷ []) m) in
      h.stops (m, subst Code whole c)

  tail_no_escape : (bytes : List ℕ) → HasTail Code bytes → HasEscape Code bytes → ⊥
  tail_no_escape bytes (front, tail, c, longer, e) h =
      let both : front ++ tail ≡ (h.before ++ 0 ∷ []) ++ (h.byte ∷ h.after) = sym e ∙ h.place ∙ sym (append_assoc h.before (0 ∷ []) (h.byte ∷ h.after)) in
      elim (two_cuts front tail (h.before ++ 0 ∷ []) (h.byte ∷ h.after) both) [
        | inl k ↦ past_escape bytes front k.0 h c k.1 tail k.2
        | inr k ↦
            let whole : (h.before ++ 0 ∷ []) ++ h.begins.0 ≡ front ++ (k.0 ++ h.begins.0) = ap (λ (t : List ℕ). t ++ h.begins.0) k.1 ∙ append_assoc front k.0 h.begins.0 in
            nothing_more (k.0 ++ h.begins.0) (free front (k.0 ++ h.begins.0) c (subst Code whole h.begins.2)) (omega (arith, h.begins.1, length-append k.0 h.begins.0))
      ]

  -- a code has no fault
  pub no_fault : (bytes : List ℕ) (fault : BadKey) → Code bytes → IsFault Code bytes fault → ⊥
  no_fault bytes Cut c h = code_not_cut bytes c h
  no_fault bytes Escape c h = code_no_escape bytes c h
  no_fault bytes Tail c h = code_no_tail bytes c h
  no_fault bytes OutOfMemory c h = h

  -- there is one fault at most
  pub one_fault : (bytes : List ℕ) (a b : BadKey) → IsFault Code bytes a → IsFault Code bytes b → a ≡ b
  one_fault bytes Cut Cut h k = refl
  one_fault bytes Cut Escape h k = absurd (cut_no_escape bytes h k)
  one_fault bytes Cut Tail h k = absurd (cut_no_tail bytes h k)
  one_fault bytes Escape Cut h k = absurd (cut_no_escape bytes k h)
  one_fault bytes Escape Escape h k = refl
  one_fault bytes Escape Tail h k = absurd (tail_no_escape bytes k h)
  one_fault bytes Tail Cut h k = absurd (cut_no_tail bytes k h)
  one_fault bytes Tail Escape h k = absurd (tail_no_escape bytes h k)
  one_fault bytes Tail Tail h k = refl
  one_fault bytes OutOfMemory b h k = absurd h
  one_fault bytes a OutOfMemory h k = absurd k

-- what holds of the same lists has the same faults
module _ (C D : List ℕ → Type 0) (to : (bytes : List ℕ) → C bytes → D bytes) (back : (bytes : List ℕ) → D bytes → C bytes) where
  pub IsFault-map : (bytes : List ℕ) (fault : BadKey) → IsFault C bytes fault → IsFault D bytes fault
  IsFault-map bytes Cut (more, longer, c) = (more, longer, to (bytes ++ more) c)
  IsFault-map bytes Tail (front, tail, c, longer, e) = (front, tail, to front c, longer, e)
  IsFault-map bytes OutOfMemory h = h
  IsFault-map bytes Escape h =
      record {
        before = h.before;
        byte = h.byte;
        after = h.after;
        place = h.place;
        begins = (h.begins.0, h.begins.1, to ((h.before ++ 0 ∷ []) ++ h.begins.0) h.begins.2);
        stops = λ begun. h.stops (begun.0, back ((h.before ++ 0 ∷ h.byte ∷ []) ++ begun.0) begun.1);
        other = h.other;
      }

-- the codes of keys are such lists
pub keys_free : IsPrefixFree IsCode
keys_free bytes more (a, is_key, e) (b, is_key', e') =
    let both : code b ++ [] ≡ code a ++ more = append-nil (code b) ∙ sym e' ∙ ap (λ (t : List ℕ). t ++ more) e in
    sym (same_key b a [] more is_key'.stamp is_key.stamp both).1

-- ---- from parts to keys

four : (parts : List (List ℕ)) (stamp : ℕ) (bytes : List ℕ) → length parts ≡ 4 → AllByRecursion AreBytes parts → stamp < 2 ^ 64 → bytes ≡ code_of parts stamp → IsCode bytes
four [] stamp bytes count fits stamp_fits e = absurd (omega (arith, count))
four (a ∷ []) stamp bytes count fits stamp_fits e = absurd (omega (arith, count))
four (a ∷ b ∷ []) stamp bytes count fits stamp_fits e = absurd (omega (arith, count))
four (a ∷ b ∷ c ∷ []) stamp bytes count fits stamp_fits e = absurd (omega (arith, count))
four (a ∷ b ∷ c ∷ d ∷ []) stamp bytes count fits stamp_fits e =
    (record { row = a; family = b; qualifier = c; vis = d; stamp = stamp }, record { row = fits.0; family = fits.1.0; qualifier = fits.1.1.0; vis = fits.1.1.1.0; stamp = stamp_fits }, e)
four (a ∷ b ∷ c ∷ d ∷ x ∷ parts) stamp bytes count fits stamp_fits e = absurd (omega (arith, count))

to_key : (bytes : List ℕ) → IsCodeOf 4 bytes → IsCode bytes
to_key bytes c = four c.parts c.stamp bytes c.count c.are_bytes c.stamp_fits c.spelled

to_parts : (bytes : List ℕ) → IsCode bytes → IsCodeOf 4 bytes
to_parts bytes (k, is_key, e) =
    record { parts = k.row ∷ k.family ∷ k.qualifier ∷ k.vis ∷ []; stamp = k.stamp; count = refl; are_bytes = (is_key.row, (is_key.family, (is_key.qualifier, (is_key.vis, tt)))); stamp_fits = is_key.stamp; spelled = e }

-- a fault is the cause of an error
pub fault_is_cause : (bytes : List ℕ) (e : BadKey) → IsFault (IsCodeOf 4) bytes e → IsCause bytes e
fault_is_cause bytes Cut h = IsFault-map (IsCodeOf 4) IsCode to_key to_parts bytes Cut h
fault_is_cause bytes Escape h = IsFault-map (IsCodeOf 4) IsCode to_key to_parts bytes Escape h
fault_is_cause bytes Tail h = IsFault-map (IsCodeOf 4) IsCode to_key to_parts bytes Tail h
fault_is_cause bytes OutOfMemory h = absurd h

-- ---- the pieces of a code

pub pieces_spell : (bytes row family qualifier vis : List ℕ) (stamp : ℕ) (key : Key) → IsSplit bytes row family qualifier vis stamp → Spells row family qualifier vis stamp key → bytes ≡ code key
pieces_spell bytes row family qualifier vis stamp key split spells =
    let behind_vis : vis ++ 0 ∷ 0 ∷ stamp_code stamp ≡ part_code key.vis ++ stamp_code key.stamp =
    (λ i. spells.of_vis i ++ 0 ∷ 0 ∷ stamp_code (spells.of_stamp i)) ∙ sym (part_code-then key.vis (stamp_code key.stamp)) in
    let step : (text part x y : List ℕ) → text ≡ escaped part → x ≡ y → text ++ 0 ∷ 0 ∷ x ≡ part_code part ++ y = λ text part x y e f. (λ i. e i ++ 0 ∷ 0 ∷ f i) ∙ sym (part_code-then part y) in
    split.whole ∙ step row key.row _ _ spells.of_row (step family key.family _ _ spells.of_family (step qualifier key.qualifier _ _ spells.of_qualifier behind_vis))

key_fits : (key : Key) → AreBytes (code key) → key.stamp < 2 ^ 64 → IsKey key
key_fits key fits stamp_fits =
    let row = AreBytes-parts (part_code key.row) (code_of (key.family ∷ key.qualifier ∷ key.vis ∷ []) key.stamp) fits in
    let family = AreBytes-parts (part_code key.family) (code_of (key.qualifier ∷ key.vis ∷ []) key.stamp) row.1 in
    let qualifier = AreBytes-parts (part_code key.qualifier) (code_of (key.vis ∷ []) key.stamp) family.1 in
    let vis = AreBytes-parts (part_code key.vis) (code_of [] key.stamp) qualifier.1 in
    let part : (p : List ℕ) → AreBytes (part_code p) → AreBytes p = λ p h. AreBytes-escaped p (AreBytes-parts (escaped p) (0 ∷ 0 ∷ []) h).0 in
    record { row = part key.row row.0; family = part key.family family.0; qualifier = part key.qualifier qualifier.0; vis = part key.vis vis.0; stamp = stamp_fits }

pub is_decoded : (bytes row family qualifier vis : List ℕ) (stamp : ℕ) (key : Key) → AreBytes bytes → IsSplit bytes row family qualifier vis stamp → Spells row family qualifier vis stamp key → IsDecoded bytes (Ok key)
is_decoded bytes row family qualifier vis stamp key fits split spells =
    let e = pieces_spell bytes row family qualifier vis stamp key split spells in
    (key_fits key (subst AreBytes e fits) (omega (arith, split.stamp_fits, spells.of_stamp)), e)

-- the pieces are those of a code
pub is_code : (bytes row family qualifier vis : List ℕ) (stamp : ℕ) → AreBytes bytes → IsSplit bytes row family qualifier vis stamp → IsCode bytes
is_code bytes row family qualifier vis stamp fits split =
    let key : Key = record { row = split.row_escaped.0; family = split.family_escaped.0; qualifier = split.qualifier_escaped.0; vis = split.vis_escaped.0; stamp = stamp } in
    let spells : Spells row family qualifier vis stamp key = record { of_row = split.row_escaped.1; of_family = split.family_escaped.1; of_qualifier = split.qualifier_escaped.1; of_vis = split.vis_escaped.1; of_stamp = refl } in
    let d = is_decoded bytes row family qualifier vis stamp key fits split spells in
    (key, d.0, d.1)

-- ---- what follows from the result

pub found_is : (bytes : List ℕ) (r : Result Key BadKey) → IsDecoded bytes r → IfOk r (λ key. bytes ≡ code key)
found_is bytes (Ok key) d = d.1
found_is bytes (Err e) d = tt

pub gives_the_key : (bytes : List ℕ) (r : Result Key BadKey) → AreBytes bytes → IsDecoded bytes r → GivesTheKey bytes r
gives_the_key bytes (Ok found) fits d key stamp_fits e = (same_key found key [] [] d.0.stamp stamp_fits (ap (λ (t : List ℕ). t ++ []) (sym d.1 ∙ e))).0
gives_the_key bytes (Err Cut) fits d key stamp_fits e = absurd (no_fault IsCode keys_free bytes Cut (key, key_fits key (subst AreBytes e fits) stamp_fits, e) d)
gives_the_key bytes (Err Escape) fits d key stamp_fits e = absurd (no_fault IsCode keys_free bytes Escape (key, key_fits key (subst AreBytes e fits) stamp_fits, e) d)
gives_the_key bytes (Err Tail) fits d key stamp_fits e = absurd (no_fault IsCode keys_free bytes Tail (key, key_fits key (subst AreBytes e fits) stamp_fits, e) d)
gives_the_key bytes (Err OutOfMemory) fits d key stamp_fits e = refl

-- an error's cause
pub cause_of : (bytes : List ℕ) (r : Result Key BadKey) (e : BadKey) → IsDecoded bytes r → r ≡ Err e → IsCause bytes e
cause_of bytes r e d is = subst (IsDecoded bytes) is d

-- the bytes' fault is the error
pub fault_is_told : (bytes : List ℕ) (r : Result Key BadKey) (fault : BadKey) → IsDecoded bytes r → IsFault IsCode bytes fault → r ≡ Err fault
fault_is_told bytes (Ok key) fault d h = absurd (no_fault IsCode keys_free bytes fault (key, d.0, d.1) h)
fault_is_told bytes (Err Cut) fault d h = ap (λ (e : BadKey). Err e) (one_fault IsCode keys_free bytes Cut fault d h)
fault_is_told bytes (Err Escape) fault d h = ap (λ (e : BadKey). Err e) (one_fault IsCode keys_free bytes Escape fault d h)
fault_is_told bytes (Err Tail) fault d h = ap (λ (e : BadKey). Err e) (one_fault IsCode keys_free bytes Tail fault d h)
fault_is_told bytes (Err OutOfMemory) fault d h = absurd (no_fault IsCode keys_free bytes fault d h)
