-- How bytes end in which no whole message stands.
use Rattle.std.proofs.Common.{◌≡◌, ◌<◌, ◌+◌, ◌⊎◌, ℕ, Bool, true, false, cond, List, [], ◌∷◌, ◌++◌, length, drop, refl, sym, ap, subst, length-append, length-drop, arith, inl, inr}
use Rattle.std.specs.Prelude.{Option, Some, None, Result, ◌==◌, IsSome}
use Rattle.std.proofs.lemmas.List.{drop-append-le}
use Rattle.dw_outside.specs.Links.{Meaning}
use Rattle.dw_http.specs.Heads.{Stands, NoneStands}
use Rattle.dw_http.specs.Lines.{is_large}
use Rattle.dw_http.specs.Held.{Held}
use Rattle.dw_http.specs.Looks.{HasHead}
use Rattle.dw_http.specs.Messages.{EndsAt, EndsInBody, End, done, bad, IsOpen}
use Rattle.dw_http.specs.Turns.{Goes}
use Rattle.dw_http.specs.declared.intake.Stop.{Stop}
use Rattle.dw_http.specs.declared.why.HttpWhy.{HttpWhy}
use Rattle.dw_http.specs.declared.why.HttpWhy.TheVariants.{Large, Cut}
use Rattle.dw_http.proofs.Heads.{stands_more}
use Rattle.dw_http.proofs.ManyLines.{none_large, large_stays, large_some}

-- no head stands in bytes that are all
pub ends_by : (bytes : List ℕ) (b : Bool) → 0 < length bytes → NoneStands bytes → is_large bytes ≡ b → EndsAt bytes (bad (cond b Large Cut))
ends_by bytes b some none e = inr (inl (some, none, inl (ap (λ (l : Bool). bad (cond l Large Cut)) (sym e))))

pub ends_somehow : (bytes : List ℕ) → NoneStands bytes → (end : End) × EndsAt bytes end
ends_somehow [] none = (done, inl (refl, refl))
ends_somehow (b ∷ bytes) none = (bad (cond (is_large (b ∷ bytes)) Large Cut), ends_by (b ∷ bytes) (is_large (b ∷ bytes)) (omega arith) none refl)

pub open_head : (bytes : List ℕ) → NoneStands bytes → is_large bytes ≡ false → IsOpen bytes
open_head [] none small = inl refl
open_head (b ∷ bytes) none small = inr (inl (omega arith, none, small))

-- too large, whatever follows
pub large_more : (bytes more : List ℕ) → is_large bytes ≡ true → NoneStands bytes → EndsAt (bytes ++ more) (bad Large)
large_more bytes more large none =
    ends_by (bytes ++ more) true (omega (arith, length-append bytes more, large_some bytes large)) (none_large bytes more none large) (large_stays bytes more large)

-- a head stands and its body is not whole
pub cut_in_body : (bytes : List ℕ) (head body : ℕ) → HasHead bytes head body → length bytes < head + body → EndsAt bytes (bad Cut)
cut_in_body bytes head body h short =
    inr (inr (h.is, drop head bytes, h.stands, subst (λ (r : Result ℕ HttpWhy). EndsInBody r (drop head bytes) (bad Cut)) (sym h.size_is) (omega (arith, length-drop head bytes), refl)))

pub open_body : (bytes : List ℕ) (head body : ℕ) → HasHead bytes head body → length bytes < head + body → IsOpen bytes
open_body bytes head body h short = inr (inr (h.is, drop head bytes, h.stands, body, h.size_is, omega (arith, length-drop head bytes)))

-- a head that stands goes on to stand
head_more : (bytes piece new : List ℕ) (head body : ℕ) → new ≡ bytes ++ piece → HasHead bytes head body → HasHead new head body
head_more bytes piece new head body is h =
    subst (λ (xs : List ℕ). HasHead xs head body) (sym is)
    (record {
      is = h.is;
      some = h.some;
      few = h.few;
      body_few = h.body_few;
      within = omega (arith, h.within, length-append bytes piece);
      stands = subst (λ (xs : List ℕ). Stands (bytes ++ piece) h.is xs) (sym (drop-append-le head bytes piece h.within)) (stands_more bytes h.is (drop head bytes) piece h.stands);
      size_is = h.size_is;
    })

pub head_goes : (before : Meaning) (old new : Held) (after : Meaning) (head body : ℕ) → Goes before old new after → HasHead old.bytes head body → HasHead new.bytes head body
head_goes before old new after head body (inl same) h = subst (λ (s : Held). HasHead s.bytes head body) (sym same.0) h
head_goes before old new after head body (inr more) h = head_more old.bytes more.1.piece new.bytes head body more.1.bytes h

-- what is held and what may still be taken are together the same
pub goes_sum : (before : Meaning) (old new : Held) (after : Meaning) → Goes before old new after → length new.bytes + new.budget ≡ length old.bytes + old.budget
goes_sum before old new after (inl same) = ap (λ (s : Held). length s.bytes + s.budget) same.0
goes_sum before old new after (inr more) = omega (arith, ap length more.1.bytes, length-append old.bytes more.1.piece, more.1.budget)

pub nonempty : (bytes : List ℕ) → (length bytes == 0) ≡ false → 0 < length bytes
nonempty [] e = absurd (cc)
nonempty (b ∷ bytes) e = omega arith

pub long_of : (stop : Option Stop) (P : Type 0) → stop ≡ None → IsSome stop ⊎ P → P
long_of None P e (inl h) = absurd (cc)
long_of None P e (inr p) = p
long_of (Some s) P e h = absurd (cc)
