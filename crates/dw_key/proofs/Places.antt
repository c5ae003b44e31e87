-- What the places of a part say of the bytes: where a text is escaped, and where it is the beginning of a code.
use Rattle.std.proofs.Common.{◌≡◌, ℕ, zero, suc, ◌+◌, ◌^◌, ◌<◌, ◌≤◌, List, [], ◌∷◌, ◌++◌, length, get_or, take, drop, refl, sym, ap, subst, ◌∙◌, append_assoc, add-one, arith, lit<}
use Rattle.std.specs.Prelude.{◌≢◌}
use Rattle.std.specs.List.{AllByRecursion}
use Rattle.std.proofs.lemmas.List.{take-append-drop, take_more, length-drop}
use Rattle.std.proofs.Math.Seq.{drop-cons}
use Rattle.dw_key.specs.KeyCode.{escaped, part_code, code_of, AreBytes}
use Rattle.dw_key.specs.KeyFaults.{IsCut, HasEscape, IsFault, IsCodeOf, IsEscaped}
use Rattle.dw_key.specs.declared.decoding.BadKey.{BadKey}
use Rattle.dw_key.specs.declared.decoding.BadKey.TheVariants.{Cut, Escape, Tail, OutOfMemory}
use Rattle.dw_key.proofs.Escapes.{escaped-append, escaped-plain, part_code-then, AreBytes-parts, AreBytes-escaped, same_part, no_escape}

pub AreBytes-from : (bytes : List ℕ) → ((i : ℕ) → get_or bytes i 0 < 256) → AreBytes bytes
AreBytes-from [] fits = tt
AreBytes-from (b ∷ bytes) fits = (fits 0, AreBytes-from bytes (λ i. fits (suc i)))

-- ---- an escaped text grows

pub take-escaped-plain : (bytes part : List ℕ) (at : ℕ) → at < length bytes → get_or bytes at 0 ≢ 0 → take at bytes ≡ escaped part → take (at + 1) bytes ≡ escaped (part ++ get_or bytes at 0 ∷ [])
take-escaped-plain bytes part at lt other before =
    let b = get_or bytes at 0 in
    take_more bytes at 0 lt ∙ ap (λ (t : List ℕ). t ++ b ∷ []) before ∙ ap (λ (t : List ℕ). escaped part ++ t) (sym (escaped-plain b [] other)) ∙ sym (escaped-append part (b ∷ []))

pub take-escaped-zero : (bytes part : List ℕ) (at : ℕ) → at + 1 < length bytes → get_or bytes at 0 ≡ 0 → get_or bytes (at + 1) 0 ≡ 255 → take at bytes ≡ escaped part → take (at + 2) bytes ≡ escaped (part ++ 0 ∷ [])
take-escaped-zero bytes part at lt is_zero is_mark before =
    let two : at + 2 ≡ at + 1 + 1 = omega arith in
    let grown : take (at + 2) bytes ≡ take at bytes ++ 0 ∷ 255 ∷ [] =
    ap (λ n. take n bytes) two ∙ take_more bytes (at + 1) 0 lt ∙ (λ i. take_more bytes at 0 (omega (arith, lt)) i ++ is_mark i ∷ []) ∙ append_assoc (take at bytes) (get_or bytes at 0 ∷ []) (255 ∷ []) ∙ (λ i. take at bytes ++ is_zero i ∷ 255 ∷ []) in
    grown ∙ ap (λ (t : List ℕ). t ++ 0 ∷ 255 ∷ []) before ∙ sym (escaped-append part (0 ∷ []))

-- the bytes from a place on
pub cut_at : (bytes : List ℕ) (at : ℕ) → at < length bytes → bytes ≡ take at bytes ++ get_or bytes at 0 ∷ drop (at + 1) bytes
cut_at bytes at lt = sym (take-append-drop at bytes) ∙ ap (λ (t : List ℕ). take at bytes ++ t) (drop-cons bytes at 0 lt) ∙ (λ i. take at bytes ++ get_or bytes at 0 ∷ drop (sym (add-one at) i) bytes)

pub cut_at_two : (bytes : List ℕ) (at : ℕ) → at + 1 < length bytes → bytes ≡ take at bytes ++ get_or bytes at 0 ∷ get_or bytes (at + 1) 0 ∷ drop (at + 2) bytes
cut_at_two bytes at lt =
    let two : suc (at + 1) ≡ at + 2 = omega arith in
    let behind : drop (at + 1) bytes ≡ get_or bytes (at + 1) 0 ∷ drop (at + 2) bytes = drop-cons bytes (at + 1) 0 lt ∙ ap (λ n. get_or bytes (at + 1) 0 ∷ drop n bytes) two in
    cut_at bytes at (omega (arith, lt)) ∙ ap (λ (t : List ℕ). take at bytes ++ get_or bytes at 0 ∷ t) behind

-- ---- a text half way

-- up to a place the text spells the part, and from there on it is escaped too
pub record IsHalfRead (text part : List ℕ) (at : ℕ) : Type 0 where
  pub within : at ≤ length text
  pub done : take at text ≡ escaped part
  pub left : IsEscaped (drop at text)

-- the bytes behind a first byte other than 0
left_plain : (b : ℕ) (part text : List ℕ) → b ≢ 0 → b ∷ text ≡ escaped part → IsEscaped text
left_plain b [] text other e = absurd cc
left_plain b (zero ∷ part) text other e = absurd (other cc)
left_plain b (suc c ∷ part) text other e = (part, cc)

-- the bytes behind a first byte 0
left_zero : (part text : List ℕ) → 0 ∷ text ≡ escaped part → (rest : List ℕ) × (text ≡ 255 ∷ escaped rest)
left_zero [] text e = absurd cc
left_zero (zero ∷ part) text e = (part, cc)
left_zero (suc c ∷ part) text e = let bad : 0 ≡ suc c = cc in absurd (omega (arith, bad))

pub reads_plain : (text part : List ℕ) (at : ℕ) → at < length text → get_or text at 0 ≢ 0 → IsHalfRead text part at → IsHalfRead text (part ++ get_or text at 0 ∷ []) (at + 1)
reads_plain text part at lt other half =
    let next : drop (suc at) text ≡ drop (at + 1) text = ap (λ n. drop n text) (sym (add-one at)) in
    let behind = left_plain (get_or text at 0) half.left.0 (drop (suc at) text) other (sym (drop-cons text at 0 lt) ∙ half.left.1) in
    record {
      within = omega (arith, lt);
      done = take-escaped-plain text part at lt other half.done;
      left = subst IsEscaped next behind;
    }

pub reads_zero : (text part : List ℕ) (at : ℕ) → at < length text → get_or text at 0 ≡ 0 → IsHalfRead text part at → IsHalfRead text (part ++ get_or text at 0 ∷ []) (at + 2)
reads_zero text part at lt is_zero half =
    let behind = left_zero half.left.0 (drop (suc at) text) ((λ i. sym is_zero i ∷ drop (suc at) text) ∙ sym (drop-cons text at 0 lt) ∙ half.left.1) in
    let mark : drop (at + 1) text ≡ 255 ∷ escaped behind.0 = ap (λ n. drop n text) (add-one at) ∙ behind.1 in
    let len : length (drop (at + 1) text) ≡ suc (length (escaped behind.0)) = ap (λ (t : List ℕ). length t) mark in
    let lt_two : at + 1 < length text = omega (arith, len, length-drop (at + 1) text) in
    let cells : get_or text (at + 1) 0 ∷ drop (suc (at + 1)) text ≡ 255 ∷ escaped behind.0 = sym (drop-cons text (at + 1) 0 lt_two) ∙ mark in
    let is_mark : get_or text (at + 1) 0 ≡ 255 = cc in
    let rest : drop (suc (at + 1)) text ≡ escaped behind.0 = cc in
    let two : at + 2 ≡ suc (at + 1) = omega arith in
    record {
      within = omega (arith, lt_two);
      done = take-escaped-zero text part at lt_two is_zero is_mark half.done ∙ (λ i. escaped (part ++ sym is_zero i ∷ []));
      left = (behind.0, ap (λ n. drop n text) two ∙ rest);
    }

-- ---- a part that is not ended

-- empty parts
abbrev empties : ℕ → List (List ℕ)
empties zero = []
empties (suc n) = [] ∷ empties n

length-empties : (n : ℕ) → length (empties n) ≡ n
length-empties zero = refl
length-empties (suc n) = ap suc (length-empties n)

empties_are_bytes : (n : ℕ) → AllByRecursion AreBytes (empties n)
empties_are_bytes zero = tt
empties_are_bytes (suc n) = (tt, empties_are_bytes n)

-- a part makes a code with empty parts behind it
completed : (n : ℕ) (p bytes : List ℕ) → AreBytes p → bytes ≡ part_code p ++ code_of (empties n) 0 → IsCodeOf (suc n) bytes
completed n p bytes fits e = record { parts = p ∷ empties n; stamp = 0; count = ap suc (length-empties n); are_bytes = (fits, empties_are_bytes n); stamp_fits = lit< tt; spelled = e }

-- a text that ends within a part
pub ends_in_part : (n : ℕ) (bytes : List ℕ) → AreBytes bytes → IsEscaped bytes → IsCut (IsCodeOf (suc n)) bytes
ends_in_part n bytes fits text =
    let p = text.0 in
    let more = 0 ∷ 0 ∷ code_of (empties n) 0 in
    let are_bytes = AreBytes-escaped p (subst AreBytes text.1 fits) in
    (more, omega arith, completed n p (bytes ++ more) are_bytes (ap (λ (t : List ℕ). t ++ more) text.1 ∙ sym (part_code-then p (code_of (empties n) 0))))

-- a text that ends with a byte 0 within a part
pub ends_at_zero : (n : ℕ) (bytes text : List ℕ) → AreBytes text → IsEscaped text → bytes ≡ text ++ 0 ∷ [] → IsCut (IsCodeOf (suc n)) bytes
ends_at_zero n bytes text fits is_text e =
    let p = is_text.0 in
    let more = 0 ∷ code_of (empties n) 0 in
    let are_bytes = AreBytes-escaped p (subst AreBytes is_text.1 fits) in
    let whole : bytes ++ more ≡ escaped p ++ 0 ∷ 0 ∷ code_of (empties n) 0 = ap (λ (t : List ℕ). t ++ more) e ∙ append_assoc text (0 ∷ []) more ∙ ap (λ (t : List ℕ). t ++ 0 ∷ more) is_text.1 in
    (more, omega arith, completed n p (bytes ++ more) are_bytes (whole ∙ sym (part_code-then p (code_of (empties n) 0))))

-- no code begins so
no_code : (n : ℕ) (p : List ℕ) (b : ℕ) (more : List ℕ) → b ≢ 0 → b ≢ 255 → (parts : List (List ℕ)) (stamp : ℕ) → length parts ≡ suc n → escaped p ++ 0 ∷ b ∷ more ≡ code_of parts stamp → ⊥
no_code n p b more no_end no_zero [] stamp count e = omega (arith, count)
no_code n p b more no_end no_zero (q ∷ qs) stamp count e = no_escape q p (code_of qs stamp) more b no_end no_zero (sym (part_code-then q (code_of qs stamp)) ∙ sym e)

-- a byte 0 in a part, with another byte than 0 and 255 behind it
pub stops_at_escape : (n : ℕ) (bytes text : List ℕ) (b : ℕ) (after : List ℕ) → AreBytes text → IsEscaped text → b ≢ 0 → b ≢ 255 → bytes ≡ text ++ 0 ∷ b ∷ after → HasEscape (IsCodeOf (suc n)) bytes
stops_at_escape n bytes text b after fits is_text no_end no_zero e =
    record {
      before = text;
      byte = b;
      after = after;
      place = e;
      begins = ends_at_zero n (text ++ 0 ∷ []) text fits is_text refl;
      stops = λ begun.
          let whole : escaped is_text.0 ++ 0 ∷ b ∷ begun.0 ≡ code_of begun.1.parts begun.1.stamp = ap (λ (t : List ℕ). t ++ 0 ∷ b ∷ begun.0) (sym is_text.1) ∙ sym (append_assoc text (0 ∷ b ∷ []) begun.0) ∙ begun.1.spelled in
          no_code n is_text.0 b begun.0 no_end no_zero begun.1.parts begun.1.stamp begun.1.count whole;
      other = (no_end, no_zero);
    }

-- ---- a fault behind a part

-- a code behind a part makes a code of one part more
one_more : (n : ℕ) (p bytes : List ℕ) → AreBytes p → IsCodeOf n bytes → IsCodeOf (suc n) (escaped p ++ 0 ∷ 0 ∷ bytes)
one_more n p bytes fits c =
    record {
      parts = p ∷ c.parts;
      stamp = c.stamp;
      count = ap suc c.count;
      are_bytes = (fits, c.are_bytes);
      stamp_fits = c.stamp_fits;
      spelled = ap (λ (t : List ℕ). escaped p ++ 0 ∷ 0 ∷ t) c.spelled ∙ sym (part_code-then p (code_of c.parts c.stamp));
    }

-- a code of one part more, that begins with a part, goes on with a code
one_less : (n : ℕ) (p bytes : List ℕ) (parts : List (List ℕ)) (stamp : ℕ) → length parts ≡ suc n → AllByRecursion AreBytes parts → stamp < 2 ^ 64 → escaped p ++ 0 ∷ 0 ∷ bytes ≡ code_of parts stamp → IsCodeOf n bytes
one_less n p bytes [] stamp count fits stamp_fits e = absurd (omega (arith, count))
one_less n p bytes (q ∷ qs) stamp count fits stamp_fits e =
    let first = same_part p q bytes (code_of qs stamp) (e ∙ part_code-then q (code_of qs stamp)) in
    record { parts = qs; stamp = stamp; count = omega (arith, count); are_bytes = fits.1; stamp_fits = stamp_fits; spelled = first.1 }

-- a part in front of what more is put behind
behind : (p bytes more : List ℕ) → (escaped p ++ 0 ∷ 0 ∷ bytes) ++ more ≡ escaped p ++ 0 ∷ 0 ∷ (bytes ++ more)
behind p bytes more = append_assoc (escaped p) (0 ∷ 0 ∷ bytes) more

cut_behind : (n : ℕ) (p rest : List ℕ) → AreBytes p → IsCut (IsCodeOf n) rest → IsCut (IsCodeOf (suc n)) (escaped p ++ 0 ∷ 0 ∷ rest)
cut_behind n p rest fits cut = (cut.0, cut.1, subst (IsCodeOf (suc n)) (sym (behind p rest cut.0)) (one_more n p (rest ++ cut.0) fits cut.2))

pub fault_behind : (n : ℕ) (p rest : List ℕ) (fault : BadKey) → AreBytes p → IsFault (IsCodeOf n) rest fault → IsFault (IsCodeOf (suc n)) (escaped p ++ 0 ∷ 0 ∷ rest) fault
fault_behind n p rest Cut fits cut = cut_behind n p rest fits cut
fault_behind n p rest Tail fits (front, tail, is_code, longer, e) =
    (escaped p ++ 0 ∷ 0 ∷ front, tail, one_more n p front fits is_code, longer, ap (λ (t : List ℕ). escaped p ++ 0 ∷ 0 ∷ t) e ∙ sym (behind p front tail))
fault_behind n p rest OutOfMemory fits fault = absurd fault
fault_behind n p rest Escape fits h =
    record {
      before = escaped p ++ 0 ∷ 0 ∷ h.before;
      byte = h.byte;
      after = h.after;
      place = ap (λ (t : List ℕ). escaped p ++ 0 ∷ 0 ∷ t) h.place ∙ sym (behind p h.before (0 ∷ h.byte ∷ h.after));
      begins = subst (IsCut (IsCodeOf (suc n))) (sym (behind p h.before (0 ∷ []))) (cut_behind n p (h.before ++ 0 ∷ []) fits h.begins);
      stops = λ begun.
          let whole : escaped p ++ 0 ∷ 0 ∷ ((h.before ++ 0 ∷ h.byte ∷ []) ++ begun.0) ≡ code_of begun.1.parts begun.1.stamp =
          sym (behind p (h.before ++ 0 ∷ h.byte ∷ []) begun.0) ∙ ap (λ (t : List ℕ). t ++ begun.0) (sym (behind p h.before (0 ∷ h.byte ∷ []))) ∙ begun.1.spelled in
          h.stops (begun.0, one_less n p ((h.before ++ 0 ∷ h.byte ∷ []) ++ begun.0) begun.1.parts begun.1.stamp begun.1.count begun.1.are_bytes begun.1.stamp_fits whole);
      other = h.other;
    }

pub AreBytes-rest : (bytes text rest : List ℕ) → AreBytes bytes → bytes ≡ text ++ 0 ∷ 0 ∷ rest → AreBytes rest
AreBytes-rest bytes text rest fits e = (AreBytes-parts text (0 ∷ 0 ∷ rest) (subst AreBytes e fits)).1.1.1

-- the same of a text and what stands behind its end
pub fault_after : (n : ℕ) (bytes text rest : List ℕ) (fault : BadKey) → AreBytes bytes → IsEscaped text → bytes ≡ text ++ 0 ∷ 0 ∷ rest → IsFault (IsCodeOf n) rest fault → IsFault (IsCodeOf (suc n)) bytes fault
fault_after n bytes text rest fault fits is_text e h =
    let whole : escaped is_text.0 ++ 0 ∷ 0 ∷ rest ≡ bytes = ap (λ (t : List ℕ). t ++ 0 ∷ 0 ∷ rest) (sym is_text.1) ∙ sym e in
    let are_bytes = AreBytes-escaped is_text.0 (subst AreBytes is_text.1 (AreBytes-parts text (0 ∷ 0 ∷ rest) (subst AreBytes e fits)).0) in
    subst (λ (t : List ℕ). IsFault (IsCodeOf (suc n)) t fault) whole (fault_behind n is_text.0 rest fault are_bytes h)
