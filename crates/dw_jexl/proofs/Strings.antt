-- A string read character by character.
use Rattle.std.proofs.Common.{◌≡◌, ℕ, ◌+◌, ◌<◌, ◌≤◌, Bool, true, false, cond, List, [], ◌++◌, length, drop, get_or, Option, Some, None, refl, sym, ap, ◌∙◌, arith, append_assoc}
use Rattle.std.specs.Prelude.{not, ◌&&◌, ◌==◌}
use Rattle.std.proofs.lemmas.List.{append-nil, drop_more, drop_all}
use Rattle.dw_jexl.specs.Tokens.{piece, before, quoted}

-- what is read so far, before what is left
abbrev pub so_far : List ℕ → ℕ → Option (List ℕ × ℕ) → Option (List ℕ × ℕ)
so_far text n None = None
so_far text n (Some p) = Some (text ++ p.0, n + p.1)

so_far-before : (text front : List ℕ) (n : ℕ) (r : Option (List ℕ × ℕ)) → so_far text n (before front r) ≡ so_far (text ++ front) (n + 1) r
so_far-before text front n None = refl
so_far-before text front n (Some p) =
    let e : n + (p.1 + 1) ≡ n + 1 + p.1 = omega arith in
    ap (λ xs. Some (xs, n + (p.1 + 1))) (sym (append_assoc text front p.0)) ∙ ap (λ k. Some (text ++ front ++ p.0, k)) e

cell : (quote : ℕ) (escaped : Bool) (cs : List ℕ) (i : ℕ) → i < length cs → quoted quote escaped (drop i cs) ≡ cond (not escaped && get_or cs i 0 == quote) (Some ([], 1)) (before (piece quote escaped (get_or cs i 0)) (quoted quote (not escaped && get_or cs i 0 == 92) (drop (i + 1) cs)))
unfolding quoted
cell quote escaped cs i h = ap (quoted quote escaped) (drop_more cs i 0 h)

pub string_ends : (quote : ℕ) (escaped : Bool) (cs text : List ℕ) (i : ℕ) → i < length cs → (not escaped && get_or cs i 0 == quote) ≡ true → so_far text i (quoted quote escaped (drop i cs)) ≡ Some (text, i + 1)
string_ends quote escaped cs text i h e =
    let next = before (piece quote escaped (get_or cs i 0)) (quoted quote (not escaped && get_or cs i 0 == 92) (drop (i + 1) cs)) in
    ap (so_far text i) (cell quote escaped cs i h ∙ ap (λ b. cond b (Some ([], 1)) next) e) ∙ ap (λ xs. Some (xs, i + 1)) (append-nil text)

pub string_goes_on : (quote : ℕ) (escaped : Bool) (cs text : List ℕ) (i : ℕ) → i < length cs → (not escaped && get_or cs i 0 == quote) ≡ false → so_far text i (quoted quote escaped (drop i cs)) ≡ so_far (text ++ piece quote escaped (get_or cs i 0)) (i + 1) (quoted quote (not escaped && get_or cs i 0 == 92) (drop (i + 1) cs))
string_goes_on quote escaped cs text i h e =
    let left = quoted quote (not escaped && get_or cs i 0 == 92) (drop (i + 1) cs) in
    let next = before (piece quote escaped (get_or cs i 0)) left in
    ap (so_far text i) (cell quote escaped cs i h ∙ ap (λ b. cond b (Some ([], 1)) next) e)
    ∙ so_far-before text (piece quote escaped (get_or cs i 0)) i left

pub string_is_open : (quote : ℕ) (escaped : Bool) (cs text : List ℕ) (i : ℕ) → length cs ≤ i → so_far text i (quoted quote escaped (drop i cs)) ≡ None
unfolding quoted
string_is_open quote escaped cs text i h = ap (λ xs. so_far text i (quoted quote escaped xs)) (drop_all i cs h)

pub string_begins : (quote : ℕ) (cs : List ℕ) → so_far [] 0 (quoted quote false cs) ≡ quoted quote false cs
string_begins quote cs = same (quoted quote false cs)
  where
    same : (r : Option (List ℕ × ℕ)) → so_far [] 0 r ≡ r
    same None = refl
    same (Some p) = let e : 0 + p.1 ≡ p.1 = omega arith in ap (λ n. Some (p.0, n)) e
