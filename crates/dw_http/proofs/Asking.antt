-- The ask of a message that is held whole.
use Rattle.std.proofs.Common.{◌≡◌, ◌≤◌, ◌+◌, ◌∙◌, ℕ, Bool, List, ◌++◌, length, take, drop, refl, sym, ap, subst, drop-drop, length-drop, arith}
use Rattle.std.specs.Prelude.{codes, Result, Ok, Err, OnErr}
use Rattle.httparse.specs.Grammar.{RequestHead}
use Rattle.httparse.specs.declared.spans.RequestSpans.{RequestSpans}
use Rattle.dw_http.specs.Heads.{Stands, NoneStands, max_head}
use Rattle.dw_http.specs.Looks.{HasHead}
use Rattle.dw_http.specs.Fields.{values_named}
use Rattle.dw_http.specs.Messages.{Ask, Asker, Takes, asker_in, csv_in, closes, fields_of, ask_of}
use Rattle.dw_http.specs.Found.{OnNoHead}
use Rattle.dw_http.specs.declared.head.Found.{Found}
use Rattle.dw_http.specs.declared.head.Found.TheVariants.{Head, NotYet, TooMany, Never}
use Rattle.dw_http.proofs.Heads.{stands_unique, stands_front}
use Rattle.dw_http.proofs.Found.{stands_whole}

-- where no head is found none stands
pub not_found : (found : Found) (P : Type 0) → ((r : RequestSpans) → found ≡ Head r → ⊥) → OnNoHead found P → P
not_found (Head r) P apart h = absurd (apart r refl)
not_found NotYet P apart h = h
not_found TooMany P apart h = h
not_found Never P apart h = h

pub head_there : (bytes front : List ℕ) (head body : ℕ) → front ≡ take max_head bytes → HasHead bytes head body → NoneStands front → ⊥
head_there bytes front head body is h none =
    let there = stands_front bytes h.is (drop head bytes) h.stands in
    subst (λ (xs : List ℕ). NoneStands xs) is none h.is _ there

-- the ask whose parts are those of the head that stands there
pub takes_ask : (bytes : List ℕ) (head body : ℕ) (ask : Ask) (h : RequestHead) (rest : List ℕ) → HasHead bytes head body → head + body ≤ length bytes → Stands bytes h rest
    → ask ≡ ask_of h (take body (drop head bytes)) → Takes bytes ask (drop (head + body) bytes)
takes_ask bytes head body ask h rest there whole s is = record {
  head = there.is;
  rest = drop head bytes;
  stands = there.stands;
  size = body;
  size_is = there.size_is;
  whole = omega (arith, length-drop head bytes);
  ask_is = is ∙ ap (λ (k : RequestHead). ask_of k (take body (drop head bytes))) (stands_unique bytes h there.is rest (drop head bytes) s there.stands).0;
  left_is = sym (drop-drop body head bytes);
}

made : List ℕ → List ℕ → Asker → Bool → List ℕ → Bool → Ask
made method target asker csv body close = record { method = method; target = target; asker = asker; csv = csv; body = body; close = close }

-- an ask whose parts are those of a head is the head's
pub parts_are : (ask : Ask) (h : RequestHead) (fields : List (List ℕ × List ℕ)) (minor : ℕ) (body : List ℕ) → ask.method ≡ h.method → ask.target ≡ h.target → minor ≡ h.minor → fields ≡ fields_of h
    → ask.asker ≡ asker_in (values_named (codes "x-caller") fields) → ask.csv ≡ csv_in (values_named (codes "content-type") fields) → ask.body ≡ body → ask.close ≡ closes minor fields → ask ≡ ask_of h body
unfolding made
parts_are ask h fields minor body m t v f a s b k =
    let asker : ask.asker ≡ asker_in (values_named (codes "x-caller") (fields_of h)) = a ∙ ap (λ fs. asker_in (values_named (codes "x-caller") fs)) f in
    let csv : ask.csv ≡ csv_in (values_named (codes "content-type") (fields_of h)) = s ∙ ap (λ fs. csv_in (values_named (codes "content-type") fs)) f in
    let close : ask.close ≡ closes h.minor (fields_of h) = k ∙ ap (λ n. closes n fields) v ∙ ap (λ fs. closes h.minor fs) f in
    ap (λ x. made x ask.target ask.asker ask.csv ask.body ask.close) m
    ∙ ap (λ x. made h.method x ask.asker ask.csv ask.body ask.close) t
    ∙ ap (λ x. made h.method h.target x ask.csv ask.body ask.close) asker
    ∙ ap (λ x. made h.method h.target (asker_in (values_named (codes "x-caller") (fields_of h))) x ask.body ask.close) csv
    ∙ ap (λ x. made h.method h.target (asker_in (values_named (codes "x-caller") (fields_of h))) (csv_in (values_named (codes "content-type") (fields_of h))) x ask.close) b
    ∙ ap (λ x. made h.method h.target (asker_in (values_named (codes "x-caller") (fields_of h))) (csv_in (values_named (codes "content-type") (fields_of h))) body x) close

pub stands_front_of : (bytes front : List ℕ) (h : RequestHead) (rest : List ℕ) → front ≡ take max_head bytes → Stands front h rest → Stands bytes h (rest ++ drop max_head bytes)
stands_front_of bytes front h rest is s = stands_whole max_head bytes h rest (subst (λ (xs : List ℕ). Stands xs h rest) is s)

pub on_err : {T E : Type 0} (r : Result T E) (P : Type 0) → P → OnErr r P
on_err (Ok x) P p = tt
on_err (Err e) P p = p
