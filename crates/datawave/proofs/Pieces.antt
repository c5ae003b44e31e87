-- On taking the lines of a piece of the input, and the last one.
use Rattle.std.proofs.Common.{◌≡◌, ◌++◌, ◌∷◌, [], ℕ, Bool, true, false, cond, nat_le, length, List, Option, Some, None, refl, sym, ap, ◌∙◌, subst, append_assoc, append-nil}
use Rattle.dw_wire.specs.ReadLine.{max_line}
use Rattle.datawave.specs.Lines.{kept, lines, last_line, whole_lines, whole_lines_after, rest_after}
use Rattle.dw_derive.specs.World.{World}
use Rattle.dw_desk.specs.declared.desk.Desk.{Desk}
use Rattle.dw_desk.specs.Session.{Digest, Asked}
use Rattle.datawave.specs.Outside.{Outside}
use Rattle.datawave.specs.Exchange.{RequestsPut, RequestsLack}
use Rattle.datawave.proofs.Cutting.{whole_then, rest_then}
use Rattle.datawave.proofs.Sessions.{lack_more, lack_all}

-- where a walk over a piece stands, which follows the bytes in front: the lines so far were taken, and those of the rest, where the
-- first begins with what is kept, are still to come
pub record Walk (Taken : List (List ℕ) → Type 0) (front piece : List ℕ) (line : Option (List ℕ)) (rest : List ℕ) : Type 0 where
  pub done : List (List ℕ)
  pub here : List ℕ
  pub cut : whole_lines (front ++ piece) ≡ done ++ whole_lines_after here rest
  pub ends : rest_after [] (front ++ piece) ≡ rest_after here rest
  pub keeps : line ≡ kept here
  pub takes : Taken done

pub walk_start : (Taken : List (List ℕ) → Type 0) (front piece : List ℕ) (line : Option (List ℕ)) → line ≡ kept (rest_after [] front) → Taken (whole_lines front)
    → Walk Taken front piece line piece
walk_start Taken front piece line e takes =
    record { done = whole_lines front; here = rest_after [] front; cut = whole_then [] front piece; ends = rest_then [] front piece; keeps = e; takes = takes }

-- one line more
pub walk_line : (Taken Taken' : List (List ℕ) → Type 0) (front piece : List ℕ) (line empty : Option (List ℕ)) (rest text more : List ℕ)
    → (x : Walk Taken front piece line rest)
    → whole_lines_after x.here rest ≡ (x.here ++ text) ∷ whole_lines_after [] more → rest_after x.here rest ≡ rest_after [] more
    → Taken' (x.done ++ (x.here ++ text) ∷ []) → empty ≡ kept []
    → Walk Taken' front piece empty more
walk_line Taken Taken' front piece line empty rest text more x cut left takes e = record {
  done = x.done ++ (x.here ++ text) ∷ [];
  here = [];
  cut = x.cut ∙ ap (λ ls. x.done ++ ls) cut ∙ sym (append_assoc x.done ((x.here ++ text) ∷ []) (whole_lines_after [] more));
  ends = x.ends ∙ left;
  keeps = e;
  takes = takes;
}

-- ---- what lines ask for grows with them

abbrev pub Grows : (List (List ℕ) → List Asked) → Type 0
Grows whole = (xs ys : List (List ℕ)) → (more : List Asked) × (whole (xs ++ ys) ≡ whole xs ++ more)

grown : (whole : List (List ℕ) → List Asked) (grows : Grows whole) (digest : Digest) (w : World) (before after : Outside) (d : Desk) (all xs ys : List (List ℕ)) → all ≡ xs ++ ys
    → RequestsLack digest w before (whole xs) d after → RequestsLack digest w before (whole all) d after
grown whole grows digest w before after d all xs ys e lack =
    let g = grows xs ys in
    subst (λ (rs : List Asked). RequestsLack digest w before rs d after) (sym (ap whole e ∙ g.1)) (lack_more digest w before after d (whole xs) g.0 lack)

-- memory was wanting for more lines
pub stopped : (whole : List (List ℕ) → List Asked) (grows : Grows whole) (digest : Digest) (w : World) (before after : Outside) (d : Desk) (xs ys : List (List ℕ))
    → RequestsPut digest w before (whole xs) d after → RequestsLack digest w before (whole (xs ++ ys)) d after
stopped whole grows digest w before after d xs ys puts = grown whole grows digest w before after d (xs ++ ys) xs ys refl (lack_all digest w before after d (whole xs) puts)

-- the answer to a line broke off
pub walk_broken : (whole : List (List ℕ) → List Asked) (grows : Grows whole) (digest : Digest) (w : World) (before after : Outside) (d : Desk)
    → (Taken : List (List ℕ) → Type 0) (front piece : List ℕ) (line : Option (List ℕ)) (rest text more : List ℕ) (x : Walk Taken front piece line rest)
    → whole_lines_after x.here rest ≡ (x.here ++ text) ∷ whole_lines_after [] more
    → RequestsLack digest w before (whole (x.done ++ (x.here ++ text) ∷ [])) d after → RequestsLack digest w before (whole (whole_lines (front ++ piece))) d after
walk_broken whole grows digest w before after d Taken front piece line rest text more x cut lacks =
    grown whole grows digest w before after d (whole_lines (front ++ piece)) (x.done ++ (x.here ++ text) ∷ []) (whole_lines_after [] more)
    (x.cut ∙ ap (λ ls. x.done ++ ls) cut ∙ sym (append_assoc x.done ((x.here ++ text) ∷ []) (whole_lines_after [] more))) lacks

-- memory was wanting for what is kept
pub walk_stopped : (whole : List (List ℕ) → List Asked) (grows : Grows whole) (digest : Digest) (w : World) (before after : Outside) (d : Desk)
    → (Taken : List (List ℕ) → Type 0) (front piece : List ℕ) (line : Option (List ℕ)) (rest : List ℕ) (x : Walk Taken front piece line rest)
    → RequestsPut digest w before (whole x.done) d after → RequestsLack digest w before (whole (whole_lines (front ++ piece))) d after
walk_stopped whole grows digest w before after d Taken front piece line rest x puts =
    grown whole grows digest w before after d (whole_lines (front ++ piece)) x.done (whole_lines_after x.here rest) x.cut (lack_all digest w before after d (whole x.done) puts)

-- no line feed is left
pub walk_end : (Taken : List (List ℕ) → Type 0) (front piece : List ℕ) (line : Option (List ℕ)) (rest : List ℕ) (x : Walk Taken front piece line rest)
    → whole_lines_after x.here rest ≡ [] → Taken (whole_lines (front ++ piece))
walk_end Taken front piece line rest x none = subst Taken (sym (x.cut ∙ ap (λ ls. x.done ++ ls) none ∙ append-nil x.done)) x.takes

-- ---- the last line

kept_some : (b : Bool) (bytes : List ℕ) → Some [] ≡ cond b (Some bytes) None → bytes ≡ []
kept_some true bytes e = cc
kept_some false bytes e = cc

-- the last line feed ends the input
pub last_none : (front : List ℕ) (line : Option (List ℕ)) → line ≡ kept (rest_after [] front) → line ≡ Some [] → whole_lines front ≡ lines front
last_none front line keeps empty =
    let none : rest_after [] front ≡ [] = kept_some (nat_le (length (rest_after [] front)) max_line) (rest_after [] front) (sym empty ∙ keeps) in
    sym (ap (λ r. whole_lines front ++ last_line r) none ∙ append-nil (whole_lines front))

last_is : (rest : List ℕ) → (kept rest ≡ Some [] → ⊥) → last_line rest ≡ rest ∷ []
last_is [] h = absurd (h refl)
last_is (b ∷ bs) h = refl

pub last_some : (front : List ℕ) (line : Option (List ℕ)) → line ≡ kept (rest_after [] front) → (line ≡ Some [] → ⊥) → whole_lines front ++ rest_after [] front ∷ [] ≡ lines front
last_some front line keeps some = ap (λ ls. whole_lines front ++ ls) (sym (last_is (rest_after [] front) (λ e. some (keeps ∙ e))))

-- what is whole was answered in part, and so was all
pub ended : (whole all : List (List ℕ) → List Asked) (ends : (ls : List (List ℕ)) → (more : List Asked) × (all ls ≡ whole ls ++ more)) (digest : Digest) (w : World) (before after : Outside) (d : Desk) (ls : List (List ℕ))
    → RequestsLack digest w before (whole ls) d after → RequestsLack digest w before (all ls) d after
ended whole all ends digest w before after d ls lack =
    let e = ends ls in
    subst (λ (rs : List Asked). RequestsLack digest w before rs d after) (sym e.1) (lack_more digest w before after d (whole ls) e.0 lack)
