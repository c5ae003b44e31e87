use Rattle.std.proofs.Common.{◌≡◌, sym, subst, List, [], Some}
use Rattle.std.specs.Prelude.{slice_get}
use Rattle.dw_key.specs.declared.doc_key.DocKey.{DocKey}
use Rattle.dw_nest.specs.Bounds.{meets, rest}
use Rattle.dw_nest.proofs.Finds.{first_of, none_of, found_in}
use Rattle.dw_nest.proofs.known_keys.KnownKeysDocIter.top.Goals as goal

pub returns-in-Some-clause-key : goal.returns-in-Some-clause-key
returns-in-Some-clause-key c = λ all s. subst (λ (a : List DocKey). slice_get (rest a c.args.self.now.bound) 0 ≡ Some c.in-Some.key) (sym s.0)
    (first_of (meets c.args.self.now.bound) c.args.self.now.keys.now c.in-Some.key (sym c.in-Some.ensures))

pub returns-in-Some-clause-known : goal.returns-in-Some-clause-known
returns-in-Some-clause-known c = (found_in (meets c.args.self.now.bound) c.args.self.now.keys.now c.in-Some.key (sym c.in-Some.ensures)).0

pub returns-in-Some-clause-met : goal.returns-in-Some-clause-met
returns-in-Some-clause-met c = (found_in (meets c.args.self.now.bound) c.args.self.now.keys.now c.in-Some.key (sym c.in-Some.ensures)).1

pub returns-in-None-clause-end : goal.returns-in-None-clause-end
returns-in-None-clause-end c = λ _ all s. subst (λ (a : List DocKey). rest a c.args.self.now.bound ≡ []) (sym s.0) (none_of (meets c.args.self.now.bound) c.args.self.now.keys.now (sym c.in-None.ensures))
