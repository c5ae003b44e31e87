-- Sentences of the grammar as sentences with mixed signs, and back where no signs are mixed.
use Rattle.std.proofs.Common.{◌≡◌, ℕ, Bool, true, false, cond, List, ◌∷◌, Option, Some, None, refl, sym, ap, ◌∙◌, subst}
use Rattle.dw_vis.specs.declared.reading.Sign.{Sign}
use Rattle.dw_vis.specs.declared.reading.Sign.TheVariants.{All, Any}
use Rattle.dw_vis.specs.Trees.{Tree, Trees, with_last}
use Rattle.dw_vis.specs.Grammar.{sign_byte, Expression, alone, several, Ones, two, further, One, term, group, expression_before, ones_before, one_before, node, expression_tree, ones_trees, one_tree}
use Rattle.dw_vis.specs.Mixing.{Mix, mix_alone, mix_joined, mix_before, MixOne, mix_term, mix_group, mix_one_before}
use Rattle.dw_vis.specs.Reading.{is_same_sign, joined, both, joined_worth, level_with}
use Rattle.dw_vis.proofs.Levels.{mix_level, mix_one_worth, further_tree, two_tree, trees}

abbrev mutual
  pub mix_of : Expression → Mix
  mix_of (alone o) = mix_alone (mix_one_of o)
  mix_of (several s os) = mix_ones s os

  mix_ones : Sign → Ones → Mix
  mix_ones s (two a b) = mix_joined (mix_alone (mix_one_of a)) s (mix_one_of b)
  mix_ones s (further os o) = mix_joined (mix_ones s os) s (mix_one_of o)

  mix_one_of : One → MixOne
  mix_one_of (term t) = mix_term t
  mix_one_of (group e) = mix_group (mix_of e)

-- the same text
mutual
  pub same_text : (e : Expression) (rest : List ℕ) → expression_before e rest ≡ mix_before (mix_of e) rest
  same_text (alone o) rest = same_one o rest
  same_text (several s os) rest = same_ones s os rest

  same_ones : (s : Sign) (os : Ones) (rest : List ℕ) → ones_before s os rest ≡ mix_before (mix_ones s os) rest
  same_ones s (two a b) rest =
      ap (λ r. one_before a (sign_byte s ∷ r)) (same_one b rest) ∙ same_one a (sign_byte s ∷ mix_one_before (mix_one_of b) rest)
  same_ones s (further os o) rest =
      ap (λ r. ones_before s os (sign_byte s ∷ r)) (same_one o rest) ∙ same_ones s os (sign_byte s ∷ mix_one_before (mix_one_of o) rest)

  same_one : (o : One) (rest : List ℕ) → one_before o rest ≡ mix_one_before (mix_one_of o) rest
  same_one (term t) rest = refl
  same_one (group e) rest = ap (λ r. 40 ∷ r) (same_text e (41 ∷ rest))

same_sign : (s : Sign) → is_same_sign s s ≡ true
same_sign All = refl
same_sign Any = refl

further-node : (s : Sign) (ts : Trees) (u : Tree) → further_tree s (node s ts) u ≡ node s (with_last ts u)
further-node All ts u = refl
further-node Any ts u = refl

-- the same tree
mutual
  pub same_tree : (e : Expression) → (mix_level trees (mix_of e)).worth ≡ Some (expression_tree e)
  same_tree (alone o) = same_one_tree o
  same_tree (several s os) = ap (λ l. l.worth) (same_level s os)

  same_level : (s : Sign) (os : Ones) → mix_level trees (mix_ones s os) ≡ record { sign = Some s; worth = Some (node s (ones_trees os)) }
  same_level s (two a b) =
      ap (λ w. level_with trees (joined (record { sign = None; worth = w }) s) (mix_one_worth trees (mix_one_of b))) (same_one_tree a)
      ∙ ap (λ w. level_with trees (joined (record { sign = None; worth = Some (one_tree a) }) s) w) (same_one_tree b)
  same_level s (further os o) =
      ap (λ l. level_with trees (joined l s) (mix_one_worth trees (mix_one_of o))) (same_level s os)
      ∙ ap (λ w. level_with trees (joined (record { sign = Some s; worth = Some (node s (ones_trees os)) }) s) w) (same_one_tree o)
      ∙ ap (λ p. record { sign = Some s; worth = cond p (Some (further_tree s (node s (ones_trees os)) (one_tree o))) None }) (same_sign s)
      ∙ ap (λ t. record { sign = Some s; worth = Some t }) (further-node s (ones_trees os) (one_tree o))

  same_one_tree : (o : One) → mix_one_worth trees (mix_one_of o) ≡ Some (one_tree o)
  same_one_tree (term t) = refl
  same_one_tree (group e) = same_tree e

-- the sign of an expression, if it has two ones or more
abbrev sign_of : Expression → Option Sign
sign_of (alone o) = None
sign_of (several s os) = Some s

-- what spells as a sentence with mixed signs does
pub record Unmixed (x : Mix) : Type 0 where
  pub expression : Expression
  pub text : (rest : List ℕ) → expression_before expression rest ≡ mix_before x rest
  pub tree : (mix_level trees x).worth ≡ Some (expression_tree expression)
  sign : (mix_level trees x).sign ≡ sign_of expression

record UnmixedOne (o : MixOne) : Type 0 where
  one : One
  text : (rest : List ℕ) → one_before one rest ≡ mix_one_before o rest
  tree : mix_one_worth trees o ≡ Some (one_tree one)

both_some : (f : Tree → Tree → Tree) (x y : Option Tree) (t : Tree) → both f x y ≡ Some t → (a : Tree) × (b : Tree) × (x ≡ Some a) × (y ≡ Some b)
both_some f None y t h = cc
both_some f (Some a) None t h = cc
both_some f (Some a) (Some b) t h = (a, b, refl, refl)

-- a joined level has trees on both sides, and one sign
joined_some : (r : Option Sign) (s : Sign) (x y : Option Tree) (t : Tree) → joined_worth trees r s x y ≡ Some t → (a : Tree) × (b : Tree) × (x ≡ Some a) × (y ≡ Some b)
joined_some None s x y t h = both_some (two_tree s) x y t h
joined_some (Some r) s x y t h = by_sign (is_same_sign r s) h
  where
    by_sign : (p : Bool) → cond p (both (further_tree s) x y) None ≡ Some t → (a : Tree) × (b : Tree) × (x ≡ Some a) × (y ≡ Some b)
    by_sign true e = both_some (further_tree s) x y t e
    by_sign false e = cc

-- a joined level by what both sides are
joined_as : (x : Mix) (s : Sign) (o : MixOne) (r : Option Sign) (a b : Tree) → (mix_level trees x).sign ≡ r → (mix_level trees x).worth ≡ Some a → mix_one_worth trees o ≡ Some b → (mix_level trees (mix_joined x s o)).worth ≡ joined_worth trees r s (Some a) (Some b)
joined_as x s o r a b sign left right =
    ap (λ q. joined_worth trees q s (mix_level trees x).worth (mix_one_worth trees o)) sign
    ∙ ap (λ w. joined_worth trees r s w (mix_one_worth trees o)) left
    ∙ ap (λ w. joined_worth trees r s (Some a) w) right

signs_same : (r s : Sign) (a b t : Tree) → joined_worth trees (Some r) s (Some a) (Some b) ≡ Some t → r ≡ s
signs_same All All a b t h = refl
signs_same Any Any a b t h = refl
signs_same All Any a b t h = cc
signs_same Any All a b t h = cc

-- one more behind a sentence whose signs are the same
grown : (x : Mix) (s : Sign) (o : MixOne) (t : Tree) → (mix_level trees (mix_joined x s o)).worth ≡ Some t → (e : Expression) → ((rest : List ℕ) → expression_before e rest ≡ mix_before x rest) → (mix_level trees x).worth ≡ Some (expression_tree e) → (mix_level trees x).sign ≡ sign_of e → UnmixedOne o → Unmixed (mix_joined x s o)
grown x s o t h (alone a) same tree sign v = record {
  expression = several s (two a v.one);
  text = λ rest. ap (λ r. one_before a (sign_byte s ∷ r)) (v.text rest) ∙ same (sign_byte s ∷ mix_one_before o rest);
  tree = joined_as x s o None (one_tree a) (one_tree v.one) sign tree v.tree;
  sign = refl;
}
grown x s o t h (several r os) same tree sign v =
    let e = signs_same r s (node r (ones_trees os)) (one_tree v.one) t (sym (joined_as x s o (Some r) (node r (ones_trees os)) (one_tree v.one) sign tree v.tree) ∙ h) in
    let same_s = subst (λ q. (rest : List ℕ) → ones_before q os rest ≡ mix_before x rest) e same in
    let tree_s = subst (λ q. (mix_level trees x).worth ≡ Some (node q (ones_trees os))) e tree in
    record {
      expression = several s (further os v.one);
      text = λ rest. ap (λ r. ones_before s os (sign_byte s ∷ r)) (v.text rest) ∙ same_s (sign_byte s ∷ mix_one_before o rest);
      tree =
          joined_as x s o (Some s) (node s (ones_trees os)) (one_tree v.one) (sign ∙ ap Some e) tree_s v.tree
          ∙ ap (λ p. cond p (Some (further_tree s (node s (ones_trees os)) (one_tree v.one))) None) (same_sign s)
          ∙ ap Some (further-node s (ones_trees os) (one_tree v.one));
      sign = refl;
    }

-- signs that are the same
mutual
  pub unmixed : (x : Mix) (t : Tree) → (mix_level trees x).worth ≡ Some t → Unmixed x
  unmixed (mix_alone o) t h =
      let u = unmixed_one o t h in
      record { expression = alone u.one; text = u.text; tree = u.tree; sign = refl }
  unmixed (mix_joined x s o) t h =
      let p = joined_some (mix_level trees x).sign s (mix_level trees x).worth (mix_one_worth trees o) t h in
      let u = unmixed x p.0 p.2 in
      grown x s o t h u.expression u.text u.tree u.sign (unmixed_one o p.1 p.3)

  unmixed_one : (o : MixOne) (t : Tree) → mix_one_worth trees o ≡ Some t → UnmixedOne o
  unmixed_one (mix_term t) u h = record { one = term t; text = λ rest. refl; tree = refl }
  unmixed_one (mix_group x) t h =
      let u = unmixed x t h in
      record { one = group u.expression; text = λ rest. ap (λ r. 40 ∷ r) (u.text (41 ∷ rest)); tree = u.tree }
