-- On reads that are made.
use Rattle.std.proofs.Common.{◌≡◌, Bool, true, List, [], ◌∷◌, ◌++◌, length, drop, Option, Some, None, refl, sym, ap, subst, ◌∙◌, append_assoc}
use Rattle.std.specs.List.{list_all}
use Rattle.std.proofs.lemmas.Bool.{and_from}
use Rattle.std.proofs.lemmas.List.{append-nil}
use Rattle.std.proofs.lemmas.List.Folds.{list_all-append}
use Rattle.dw_outside.specs.declared.cell.Reading.{Reading}
use Rattle.dw_plan.specs.Reads.{Adds, made}

module _ (test : Reading → Bool) where
  behind : (xs ys : List Reading) → drop (length xs) (xs ++ ys) ≡ ys
  behind [] ys = refl
  behind (x ∷ xs) ys = behind xs ys

  -- some reads that pass, put behind
  adds_some : (xs ys zs : List Reading) → ys ≡ xs ++ zs → list_all test zs ≡ true → Adds test (Some xs) (Some ys)
  adds_some xs ys zs e h =
      let m : made xs ys ≡ zs = ap (drop (length xs)) e ∙ behind xs zs in
      (e ∙ ap (λ w. xs ++ w) (sym m), ap (list_all test) m ∙ h)

  pub adds_same : (o : Option (List Reading)) → Adds test o o
  adds_same None = refl
  adds_same (Some xs) = adds_some xs xs [] (sym (append-nil xs)) refl

  pub adds_more : (a b c : Option (List Reading)) → Adds test a b → Adds test b c → Adds test a c
  adds_more None b c h k = subst (λ o. Adds test o c) h k
  adds_more (Some xs) None c h k = absurd h
  adds_more (Some xs) (Some ys) None h k = absurd k
  adds_more (Some xs) (Some ys) (Some zs) h k =
      adds_some xs zs (made xs ys ++ made ys zs)
      (k.0 ∙ ap (λ w. w ++ made ys zs) h.0 ∙ append_assoc xs (made xs ys) (made ys zs))
      (list_all-append test (made xs ys) (made ys zs) ∙ and_from (list_all test (made xs ys)) (list_all test (made ys zs)) h.1 k.1)
