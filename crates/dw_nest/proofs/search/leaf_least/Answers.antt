use Rattle.std.proofs.Common.{◌≡◌, true, subst, List, []}
use Rattle.std.specs.Prelude.{Contains, slice_get, Some}
use Rattle.dw_nest.specs.Bounds.{meets, rest}
use Rattle.dw_nest.specs.declared.bound.Bound.{Bound}
use Rattle.dw_key.specs.declared.doc_key.DocKey.{DocKey}
use Rattle.dw_nest.proofs.Lists.{first_in, none_in, none_before}
use Rattle.dw_nest.proofs.search.leaf_least.Goals as goal

pub returns-in-Key-clause-found : goal.returns-in-Key-clause-found
returns-in-Key-clause-found g c =
    let first = λ (all : List DocKey) (s : g.L.DocIter.stands c.args.leaf.now all). subst (λ (b : Bound). slice_get (rest all b) 0 ≡ Some c.in-Key.key) c.seek.ensures.at (c.in-Key.ensures.key all ((c.seek.ensures.same all).1 s)) in
    record {
      met = subst (λ (b : Bound). meets b c.in-Key.key ≡ true) c.seek.ensures.at c.in-Key.ensures.met;
      held = subst (λ (ks : List DocKey). Contains ks c.in-Key.key) c.seek.ensures.keys c.in-Key.ensures.known;
      passing = λ all s. first_in c.args.bound.now all c.in-Key.key (first all s);
      least = λ all s other m b. none_before c.args.bound.now all other c.in-Key.key (c.in-Key.ensures.ascends all ((c.seek.ensures.same all).1 s)) (first all s) m b;
    }

pub returns-in-End-clause-found : goal.returns-in-End-clause-found
returns-in-End-clause-found g c = λ all s other m.
    none_in c.args.bound.now all other (subst (λ (b : Bound). rest all b ≡ []) c.seek.ensures.at (c.top.ensures.end c.in-End.is all ((c.seek.ensures.same all).1 s))) m
