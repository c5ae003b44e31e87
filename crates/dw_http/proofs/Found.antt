-- What the parser finds at the front of bytes, as the definitions say it.
use Rattle.std.proofs.Common.{◌≡◌, ◌<◌, ◌≤◌, ◌∙◌, ℕ, Bool, true, false, cond, List, [], ◌∷◌, ◌++◌, length, map, take, drop, refl, sym, ap, subst, length-append, arith}
use Rattle.std.specs.Prelude.{Option, Some, None, Result, Ok, Err, nat_le, codes}
use Rattle.std.proofs.lemmas.Bool.{leb-true}
use Rattle.std.proofs.lemmas.List.{take-append-drop}
use Rattle.std.proofs.Math.Seq.{drop-append_seam}
use Rattle.httparse.specs.Grammar.{RequestHead, IsRequestHead, print_request}
use Rattle.httparse.specs.Spans.{IsRequestAt, header_bytes}
use Rattle.httparse.specs.declared.spans.HeaderSpan.{HeaderSpan}
use Rattle.httparse.specs.declared.spans.RequestSpans.{RequestSpans}
use Rattle.dw_http.specs.Heads.{Stands, NoneStands, max_head}
use Rattle.dw_http.specs.Lengths.{max_body, length_in, body_size, size_by, size_in}
use Rattle.dw_http.specs.Fields.{values_named}
use Rattle.dw_http.specs.Looks.{HasHead}
use Rattle.dw_http.specs.Messages.{fields_of, size_of}
use Rattle.dw_http.specs.declared.why.HttpWhy.{HttpWhy}
use Rattle.dw_http.specs.declared.why.HttpWhy.TheVariants.{Body}
use Rattle.dw_http.proofs.Heads.{stands_more, none_front}

-- a head has at least a byte
pub head_some : (h : RequestHead) → IsRequestHead h → 0 < length (print_request h)
unfolding print_request
head_some h is = simp length-append (omega (arith, is.method.0))

pub rest_is : (bytes : List ℕ) (h : RequestHead) (rest : List ℕ) → Stands bytes h rest → drop (length (print_request h)) bytes ≡ rest
rest_is bytes h rest s = ap (drop (length (print_request h))) s.reads.1 ∙ drop-append_seam (print_request h) rest

-- a head at the front of the first bytes stands at the front of all
pub stands_whole : (n : ℕ) (bytes : List ℕ) (h : RequestHead) (rest : List ℕ) → Stands (take n bytes) h rest → Stands bytes h (rest ++ drop n bytes)
stands_whole n bytes h rest s = subst (λ xs. Stands xs h (rest ++ drop n bytes)) (take-append-drop n bytes) (stands_more (take n bytes) h rest (drop n bytes) s)

few_body : (given : Option ℕ) (n : ℕ) → body_size given ≡ Ok n → n ≤ max_body
few_body None n e = absurd (cc)
few_body (Some m) n e = go (nat_le m max_body) refl e
  where
    go : (b : Bool) → nat_le m max_body ≡ b → cond b (Ok m) (Err Body) ≡ Ok n → n ≤ max_body
    go true t r = let same : m ≡ n = cc in omega (arith, leb-true m max_body t)
    go false t r = absurd (cc)

few_by : (codings lengths : List (List ℕ)) (n : ℕ) → size_by codings lengths ≡ Ok n → n ≤ max_body
few_by [] lengths n e = few_body (length_in lengths) n e
few_by (c ∷ codings) lengths n e = absurd (cc)

-- where the parser found a head, it stands before all that follows it
pub whole_found : (n : ℕ) (bytes : List ℕ) (r : RequestSpans) (h : RequestHead) → Stands (take n bytes) h (drop r.len (take n bytes)) → r.len ≡ length (print_request h) → Stands bytes h (drop r.len bytes)
whole_found n bytes r h s len =
    let whole = stands_whole n bytes h (drop r.len (take n bytes)) s in
    subst (λ xs. Stands bytes h xs) (sym (rest_is bytes h (drop r.len (take n bytes) ++ drop n bytes) whole) ∙ ap (λ k. drop k bytes) (sym len)) whole

pub head_found : (n : ℕ) (bytes : List ℕ) (headers : List HeaderSpan) (r : RequestSpans) (h : RequestHead) (size : Result ℕ HttpWhy) (body : ℕ) → Stands (take n bytes) h (drop r.len (take n bytes)) → IsRequestAt (take n bytes) headers r h
    → size ≡ size_in (map (header_bytes (take n bytes)) (take r.headers headers)) → size ≡ Ok body → HasHead bytes r.len body
head_found n bytes headers r h size body s at sized ok =
    let whole = whole_found n bytes r h s at.len in
    let is : size_of h ≡ Ok body = ap size_in (sym at.fields) ∙ sym sized ∙ ok in
    let length_is = ap length whole.reads.1 in
    record {
      is = h;
      some = omega (arith, head_some h s.reads.0, at.len);
      few = omega (arith, s.size, at.len);
      body_few = few_by (values_named (codes "transfer-encoding") (fields_of h)) (values_named (codes "content-length") (fields_of h)) body is;
      within = omega (arith, length_is, length-append (print_request h) (drop r.len bytes), at.len);
      stands = whole;
      size_is = is;
    }

pub refused_found : (n : ℕ) (bytes : List ℕ) (headers : List HeaderSpan) (r : RequestSpans) (h : RequestHead) (size : Result ℕ HttpWhy) (why : HttpWhy) → Stands (take n bytes) h (drop r.len (take n bytes)) → IsRequestAt (take n bytes) headers r h
    → size ≡ size_in (map (header_bytes (take n bytes)) (take r.headers headers)) → size ≡ Err why → (k : RequestHead) × (rest : List ℕ) × Stands bytes k rest × (size_of k ≡ Err why)
refused_found n bytes headers r h size why s at sized err =
    (h, drop r.len bytes, whole_found n bytes r h s at.len, ap size_in (sym at.fields) ∙ sym sized ∙ err)

-- the same, of a front that is those first bytes

abbrev pub FoundAt : List ℕ → List HeaderSpan → RequestSpans → Type 0
FoundAt front headers r = (h : RequestHead) × Stands front h (drop r.len front) × IsRequestAt front headers r h

pub head_at : (n : ℕ) (bytes front : List ℕ) (headers : List HeaderSpan) (r : RequestSpans) (size : Result ℕ HttpWhy) (body : ℕ) → front ≡ take n bytes → FoundAt front headers r
    → size ≡ size_in (map (header_bytes front) (take r.headers headers)) → size ≡ Ok body → HasHead bytes r.len body
head_at n bytes front headers r size body is =
    subst (λ (xs : List ℕ). FoundAt xs headers r → size ≡ size_in (map (header_bytes xs) (take r.headers headers)) → size ≡ Ok body → HasHead bytes r.len body) (sym is)
    (λ found sized ok. head_found n bytes headers r found.0 size body found.1 found.2 sized ok)

pub refused_at : (n : ℕ) (bytes front : List ℕ) (headers : List HeaderSpan) (r : RequestSpans) (size : Result ℕ HttpWhy) (why : HttpWhy) → front ≡ take n bytes → FoundAt front headers r
    → size ≡ size_in (map (header_bytes front) (take r.headers headers)) → size ≡ Err why → (k : RequestHead) × (rest : List ℕ) × Stands bytes k rest × (size_of k ≡ Err why)
refused_at n bytes front headers r size why is =
    subst (λ (xs : List ℕ). FoundAt xs headers r → size ≡ size_in (map (header_bytes xs) (take r.headers headers)) → size ≡ Err why → (k : RequestHead) × (rest : List ℕ) × Stands bytes k rest × (size_of k ≡ Err why)) (sym is)
    (λ found sized err. refused_found n bytes headers r found.0 size why found.1 found.2 sized err)

pub none_at : (bytes front : List ℕ) → front ≡ take max_head bytes → NoneStands front → NoneStands bytes
none_at bytes front is none = none_front bytes (subst (λ xs. NoneStands xs) is none)

pub none_short : (bytes : List ℕ) → length bytes ≡ 0 → NoneStands bytes
none_short bytes short h rest s = let some = head_some h s.reads.0 in absurd (omega (arith, ap length s.reads.1, length-append (print_request h) rest))
