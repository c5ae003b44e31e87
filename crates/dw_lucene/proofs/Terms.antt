-- A term read character by character.
use Rattle.std.proofs.Common.{◌≡◌, ℕ, zero, suc, ◌+◌, ◌<◌, ◌≤◌, Bool, true, false, cond, List, [], ◌∷◌, ◌++◌, length, drop, get_or, Option, Some, None, refl, sym, ap, ◌∙◌, subst, arith, append_assoc}
use Rattle.std.specs.Prelude.{not, ◌&&◌, ◌==◌, slice_index, IfSome}
use Rattle.std.proofs.lemmas.List.{append-nil, drop_more, drop_all}
use Rattle.dw_jexl.specs.declared.pattern.Piece.{Piece}
use Rattle.dw_lucene.specs.Tokens.{ends_term, piece, before, term}

-- what is read so far, before what is left
abbrev pub so_far : List Piece → ℕ → Option (List Piece × ℕ) → Option (List Piece × ℕ)
so_far ps n None = None
so_far ps n (Some p) = Some (ps ++ p.0, n + p.1)

so_far-before : (ps front : List Piece) (n : ℕ) (r : Option (List Piece × ℕ)) → so_far ps n (before front r) ≡ so_far (ps ++ front) (n + 1) r
so_far-before ps front n None = refl
so_far-before ps front n (Some p) =
    let e : n + (p.1 + 1) ≡ n + 1 + p.1 = omega arith in
    ap (λ xs. Some (xs, n + (p.1 + 1))) (sym (append_assoc ps front p.0)) ∙ ap (λ k. Some (ps ++ front ++ p.0, k)) e

cell : (escaped : Bool) (cs : List ℕ) (i : ℕ) → i < length cs → term escaped (drop i cs) ≡ cond (not escaped && ends_term (get_or cs i 0)) (Some ([], 0)) (before (piece escaped (get_or cs i 0)) (term (not escaped && get_or cs i 0 == 92) (drop (i + 1) cs)))
unfolding term
cell escaped cs i h = ap (term escaped) (drop_more cs i 0 h)

pub term_ends : (escaped : Bool) (cs : List ℕ) (ps : List Piece) (i : ℕ) → i < length cs → (not escaped && ends_term (get_or cs i 0)) ≡ true → so_far ps i (term escaped (drop i cs)) ≡ Some (ps, i)
term_ends escaped cs ps i h e =
    let next = before (piece escaped (get_or cs i 0)) (term (not escaped && get_or cs i 0 == 92) (drop (i + 1) cs)) in
    let n : i + 0 ≡ i = omega arith in
    ap (so_far ps i) (cell escaped cs i h ∙ ap (λ b. cond b (Some ([], 0)) next) e) ∙ ap (λ xs. Some (xs, i + 0)) (append-nil ps) ∙ ap (λ k. Some (ps, k)) n

pub term_goes_on : (escaped : Bool) (cs : List ℕ) (ps : List Piece) (i : ℕ) → i < length cs → (not escaped && ends_term (get_or cs i 0)) ≡ false → so_far ps i (term escaped (drop i cs)) ≡ so_far (ps ++ piece escaped (get_or cs i 0)) (i + 1) (term (not escaped && get_or cs i 0 == 92) (drop (i + 1) cs))
term_goes_on escaped cs ps i h e =
    let left = term (not escaped && get_or cs i 0 == 92) (drop (i + 1) cs) in
    let next = before (piece escaped (get_or cs i 0)) left in
    ap (so_far ps i) (cell escaped cs i h ∙ ap (λ b. cond b (Some ([], 0)) next) e)
    ∙ so_far-before ps (piece escaped (get_or cs i 0)) i left

pub term_is_open : (escaped : Bool) (cs : List ℕ) (ps : List Piece) (i : ℕ) → length cs ≤ i → escaped ≡ true → so_far ps i (term escaped (drop i cs)) ≡ None
unfolding term
term_is_open escaped cs ps i h e = ap (λ xs. so_far ps i (term escaped xs)) (drop_all i cs h) ∙ ap (λ b. so_far ps i (cond b None (Some ([], 0)))) e

pub term_closes : (escaped : Bool) (cs : List ℕ) (ps : List Piece) (i : ℕ) → length cs ≤ i → escaped ≡ false → so_far ps i (term escaped (drop i cs)) ≡ Some (ps, i)
unfolding term
term_closes escaped cs ps i h e =
    let n : i + 0 ≡ i = omega arith in
    ap (λ xs. so_far ps i (term escaped xs)) (drop_all i cs h) ∙ ap (λ b. so_far ps i (cond b None (Some ([], 0)))) e
    ∙ ap (λ xs. Some (xs, i + 0)) (append-nil ps) ∙ ap (λ k. Some (ps, k)) n

pub term_begins : (cs : List ℕ) → so_far [] 0 (term false cs) ≡ term false cs
term_begins cs = same (term false cs)
  where
    same : (r : Option (List Piece × ℕ)) → so_far [] 0 r ≡ r
    same None = refl
    same (Some p) = let e : 0 + p.1 ≡ p.1 = omega arith in ap (λ n. Some (p.0, n)) e

-- a term takes a character at least, where the first does not end it
pub record TakesSome (r : Option (List Piece × ℕ)) : Type 0 where
  pub some : IfSome r (λ p. 0 < p.1)

takes_some : (front : List Piece) (r : Option (List Piece × ℕ)) → TakesSome (before front r)
takes_some front None = record { some = tt }
takes_some front (Some p) = record { some = omega arith }

pub term_is_some : (cs : List ℕ) → 0 < length cs → ends_term (slice_index cs 0) ≡ false → IfSome (term false cs) (λ p. 0 < p.1)
unfolding term
term_is_some [] h e = absurd (omega arith)
term_is_some (c ∷ cs) h e = from (ends_term c) e
  where
    from : (b : Bool) → b ≡ false → IfSome (cond b (Some ([], 0)) (before (piece false c) (term (c == 92) cs))) (λ p. 0 < p.1)
    from true k = cc
    from false k = let t = takes_some (piece false c) (term (c == 92) cs) in t.some

pub term_takes : (cs : List ℕ) (r : Option (List Piece × ℕ)) (p : List Piece × ℕ) → 0 < length cs → ends_term (slice_index cs 0) ≡ false → r ≡ term false cs → r ≡ Some p → 0 < p.1
term_takes cs r p h k e f = subst (λ o. IfSome o (λ x. 0 < x.1)) (sym e ∙ f) (term_is_some cs h k)

pub colon_within : (cs : List ℕ) (i : ℕ) → slice_index cs i ≡ 58 → i < length cs
colon_within [] i h = cc
colon_within (c ∷ cs) zero h = omega arith
colon_within (c ∷ cs) (suc i) h = let l = colon_within cs i h in omega (arith, l)
