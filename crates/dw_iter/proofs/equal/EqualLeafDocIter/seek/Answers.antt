use Rattle.dw_iter.proofs.EqualTops.{stands_alike}
use Rattle.dw_iter.proofs.equal.EqualLeafDocIter.seek.Goals as goal

pub returns-clause-same : goal.returns-clause-same
returns-clause-same c =
    let made = c.at_bound.ensures in
    let old = c.args.self.now in
    let new = c.at_bound.result in
    stands_alike (new.tablet.now, (new.field.now, (new.value.now, (new.types.now, (new.auths.now, new.snapshot))))) (old.tablet.now, (old.field.now, (old.value.now, (old.types.now, (old.auths.now, old.snapshot)))))
    (λ i. (made.tablet i, (made.field i, (made.value i, (made.types i, (made.auths i, made.snapshot i))))))
