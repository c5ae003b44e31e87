-- Messages in more bytes, and one message more.
use Rattle.std.proofs.Common.{◌≡◌, ◌≤◌, ◌∙◌, ℕ, true, false, List, [], ◌∷◌, ◌++◌, length, refl, sym, ap, subst, append_assoc, append-nil, length-append, arith}
use Rattle.std.specs.Prelude.{Option, Some, None, IfSome}
use Rattle.std.specs.Io.KnownBytes.{append_known, prepend_known, IsAtEnd}
use Rattle.std.proofs.lemmas.List.{take-append-le, drop-append-le}
use Rattle.dw_http.specs.Messages.{Ask, ask_of, Takes, Begins, Closed}
use Rattle.dw_http.proofs.Heads.{stands_more}

pub takes_more : (bytes more left : List ℕ) (ask : Ask) → Takes bytes ask left → Takes (bytes ++ more) ask (left ++ more)
takes_more bytes more left ask t =
    let short : t.size ≤ length t.rest = t.whole in
    record {
      head = t.head;
      rest = t.rest ++ more;
      stands = stands_more bytes t.head t.rest more t.stands;
      size = t.size;
      size_is = t.size_is;
      whole = omega (arith, length-append t.rest more);
      ask_is = t.ask_is ∙ ap (ask_of t.head) (sym (take-append-le t.size t.rest more short));
      left_is = ap (λ xs. xs ++ more) t.left_is ∙ sym (drop-append-le t.size t.rest more short);
    }

pub begins_more : (asks : List Ask) (bytes more left : List ℕ) → Begins bytes asks left → Begins (bytes ++ more) asks (left ++ more)
begins_more [] bytes more left h = ap (λ xs. xs ++ more) h
begins_more (ask ∷ asks) bytes more left h = (h.0 ++ more, takes_more bytes more h.0 ask h.1, h.2, begins_more asks h.0 more left h.3)

-- one message more, after which the connection goes on
pub begins_next : (asks : List Ask) (bytes mid left : List ℕ) (ask : Ask) → Begins bytes asks mid → Takes mid ask left → ask.close ≡ false → Begins bytes (asks ++ ask ∷ []) left
begins_next [] bytes mid left ask h t goes = (left, subst (λ xs. Takes xs ask left) h t, goes, refl)
begins_next (first ∷ asks) bytes mid left ask h t goes = (h.0, h.1, h.2, begins_next asks h.0 mid left ask h.3 t goes)

-- one message more, after which it ends
pub closed_next : (asks : List Ask) (bytes mid left : List ℕ) (ask : Ask) → Begins bytes asks mid → Takes mid ask left → ask.close ≡ true → Closed bytes (asks ++ ask ∷ [])
closed_next asks bytes mid left ask h t ends = record { before = asks; last = ask; asks_are = refl; left = mid; begins = h; rest = left; takes = t; close = ends }

pub closed_more : (bytes more : List ℕ) (asks : List Ask) → Closed bytes asks → Closed (bytes ++ more) asks
closed_more bytes more asks c = record {
  before = c.before;
  last = c.last;
  asks_are = c.asks_are;
  left = c.left ++ more;
  begins = begins_more c.before bytes more c.left c.begins;
  rest = c.rest ++ more;
  takes = takes_more c.left more c.rest c.last c.takes;
  close = c.close;
}

-- known bytes

pub prepend_both : (xs ys : List ℕ) (known : Option (List ℕ)) → prepend_known xs (prepend_known ys known) ≡ prepend_known (xs ++ ys) known
prepend_both xs ys None = refl
prepend_both xs ys (Some zs) = ap Some (sym (append_assoc xs ys zs))

pub append_both : (known : Option (List ℕ)) (xs ys : List ℕ) → append_known (append_known known xs) ys ≡ append_known known (xs ++ ys)
append_both None xs ys = refl
append_both (Some zs) xs ys = ap Some (append_assoc zs xs ys)

-- what holds of each way that the input can go on holds of the input that is told
pub told : (known now : Option (List ℕ)) (front : List ℕ) (P : List ℕ → Type 0) → known ≡ prepend_known front now → ((left : List ℕ) → P (front ++ left)) → IfSome known P
told known None front P e f = subst (λ k. IfSome k P) (sym e) tt
told known (Some left) front P e f = subst (λ k. IfSome k P) (sym e) (f left)

pub told_end : (known now : Option (List ℕ)) (front : List ℕ) (P : List ℕ → Type 0) → known ≡ prepend_known front now → IsAtEnd now → P front → IfSome known P
told_end known None front P e end h = subst (λ k. IfSome k P) (sym e) tt
told_end known (Some left) front P e end h = subst (λ k. IfSome k P) (sym e) (subst P (sym (ap (λ xs. front ++ xs) end ∙ append-nil front)) h)

pub told_both : (known now : Option (List ℕ)) (front : List ℕ) (P : List ℕ → List ℕ → Type 0) → known ≡ prepend_known front now → ((left : List ℕ) → P (front ++ left) left) → IfSome known (λ input. IfSome now (P input))
told_both known None front P e f = subst (λ k. IfSome k (λ input. IfSome None (P input))) (sym e) tt
told_both known (Some left) front P e f = subst (λ k. IfSome k (λ input. IfSome (Some left) (P input))) (sym e) (f left)
