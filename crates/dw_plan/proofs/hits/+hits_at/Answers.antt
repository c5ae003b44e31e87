use Rattle.std.proofs.Common.{◌≡◌, ◌&&◌, ◌+◌, not, true, false, map, refl, sym, ap, subst, ◌∙◌, arith}
use Rattle.std.proofs.lemmas.Result.{IfOk-weaker}
use Rattle.dw_eval.specs.declared.nquery.NQuery.TheVariants as nquery
use Rattle.dw_plan.specs.Anchored.{anchored_at}
use Rattle.dw_plan.specs.Hit.{is_in_days}
use Rattle.dw_plan.specs.Staying.{stays}
use Rattle.dw_plan.specs.Joins.{has}
use Rattle.dw_plan.specs.Reads.{Adds, is_of_index}
use Rattle.dw_plan.proofs.Walking.{and_of, or_of}
use Rattle.dw_plan.proofs.Gathering.{led, Gathered, and_led, or_led, none_gathered, child_gathered, child_skipped, child_open, settled, gathered, and_stays, or_stays}
use Rattle.dw_plan.proofs.Valued.{open_stays, equal_stays, between_stays, starts_stays, ends_stays, not_stays}
use Rattle.dw_plan.proofs.Making.{adds_same, adds_more}
use Rattle.dw_plan.proofs.hits.+hits_at.Goals as goal
use Rattle.dw_plan.proofs.hits.+hits_at.Goals.{then-anchored_at+in_ok-more-in-And+in_ok-joined-in-And, else-anchored_at, then-anchored_at-2+in_ok-more-in-Or+in_ok-joined-in-Or, else-anchored_at-2}

pub returns-then-is_settled-clause-hits : goal.returns-then-is_settled-clause-hits
returns-then-is_settled-clause-hits g t c = λ m is s.
    let n = c.args.scope.now.auths.now in
    let d = c.args.scope.now.days.now in
    let ty = c.args.scope.now.types.now in
    let p = c.args.positive in
    let qs = c.as_slice-child-items.result.now in
    let end = c.is_settled.ensures c.if-is_settled.true in
    let query : nquery.And qs ≡ c.args.query.now = ap nquery.And c.as_slice-child-items.ensures ∙ sym c.in-And.is in
    ap (λ l. has l s) c.new-then-is_settled.ensures
    ∙ settled m n d ty p p qs c.loop-child.child-index c.loop-child.found s (c.loop-child.invariant.hits m is) end.0 end.1
    ∙ ap (λ b. is_in_days d s && b) (and_stays m n d ty qs p s ∙ ap (λ q. stays m n ty s q p) query)

pub returns-then-is_settled-2-clause-hits : goal.returns-then-is_settled-2-clause-hits
returns-then-is_settled-2-clause-hits g t c = λ m is s.
    let n = c.args.scope.now.auths.now in
    let d = c.args.scope.now.days.now in
    let ty = c.args.scope.now.types.now in
    let p = c.args.positive in
    let qs = c.as_slice-child-items-in-Or.result.now in
    let end = c.is_settled-in-loop-child-2.ensures c.if-is_settled-2.true in
    let query : nquery.Or qs ≡ c.args.query.now = ap nquery.Or c.as_slice-child-items-in-Or.ensures ∙ sym c.in-Or.is in
    ap (λ l. has l s) c.new-then-is_settled-2.ensures
    ∙ settled m n d ty (not p) p qs c.loop-child-2.child-index c.loop-child-2.found s (c.loop-child-2.invariant.hits m is) end.0 end.1
    ∙ ap (λ b. is_in_days d s && b) (or_stays m n d ty qs p s ∙ ap (λ q. stays m n ty s q p) query)

pub loop-child-preserved : goal.loop-child-preserved
loop-child-preserved g t c =
    let n = c.args.scope.now.auths.now in
    let d = c.args.scope.now.days.now in
    let ty = c.args.scope.now.types.now in
    let p = c.args.positive in
    let qs = c.as_slice-child-items.result.now in
    let i = c.loop-child.child-index in
    let q = c.child-item.result in
    let old = c.loop-child.invariant in
    let query : nquery.And qs ≡ c.args.query.now = ap nquery.And c.as_slice-child-items.ensures ∙ sym c.in-And.is in
    let lead : led p (map anchored_at qs) p ≡ true = sym (and_led (map anchored_at qs) p) ∙ and_of qs p ∙ ap (λ z. anchored_at z p) query ∙ c.requires in
    elim c.if-anchored_at.branch [
      | then-anchored_at+in_ok-more-in-And+in_ok-joined-in-And w ↦
          let faults : g.K.Keeper.faults c.if-anchored_at.keeper ≡ g.K.Keeper.faults w.hits_at-then-anchored_at.new.keeper = ap g.K.Keeper.faults w.keeper-is in
          record {
            same = ap g.K.Keeper.told w.keeper-is ∙ w.hits_at-then-anchored_at.ensures.same ∙ old.same;
            hits = λ m is.
                subst (λ f. Gathered m n d ty p p qs (i + 1) f) (sym w.found-is)
                (child_gathered m n d ty p p qs i q c.loop-child.found w.in_ok-more-in-And.more w.in_ok-joined-in-And.field-0 (old.hits m is) c.loop-child-test.true c.child-item.is (w.in_ok-more-in-And.ensures.hits m (old.same ∙ is)) w.in_ok-joined-in-And.ensures);
            reads = subst (λ k. Adds is_of_index (g.K.Keeper.reads c.args.keeper.now) (g.K.Keeper.reads k)) (sym w.keeper-is)
                (adds_more is_of_index (g.K.Keeper.reads c.args.keeper.now) (g.K.Keeper.reads c.loop-child.keeper) (g.K.Keeper.reads w.hits_at-then-anchored_at.new.keeper) old.reads w.hits_at-then-anchored_at.ensures.reads);
            unasked = ap g.K.Keeper.asked w.keeper-is ∙ w.hits_at-then-anchored_at.ensures.unasked ∙ old.unasked;
            counted = omega (arith, faults, w.hits_at-then-anchored_at.ensures.counted, old.counted);
          }
      | else-anchored_at w ↦
          let no_anchor : anchored_at q p ≡ false = sym c.anchored_at.ensures ∙ w.if-anchored_at.false in
          let faults : g.K.Keeper.faults c.if-anchored_at.keeper ≡ g.K.Keeper.faults c.loop-child.keeper = ap g.K.Keeper.faults w.keeper-is in
          record {
            same = ap g.K.Keeper.told w.keeper-is ∙ old.same;
            hits = λ m is.
                subst (λ f. Gathered m n d ty p p qs (i + 1) f) (sym w.found-is)
                (child_skipped m n d ty p p qs i q c.loop-child.found (old.hits m is) c.loop-child-test.true c.child-item.is (child_open p p qs i q lead c.loop-child-test.true c.child-item.is no_anchor) no_anchor (λ s. open_stays m n ty s q p no_anchor));
            reads = subst (λ k. Adds is_of_index (g.K.Keeper.reads c.args.keeper.now) (g.K.Keeper.reads k)) (sym w.keeper-is) old.reads;
            unasked = ap g.K.Keeper.asked w.keeper-is ∙ old.unasked;
            counted = omega (arith, faults, old.counted);
          }
    ]

pub loop-child-2-init : goal.loop-child-2-init
loop-child-2-init g t c =
    let p = c.args.positive in
    let qs = c.as_slice-child-items-in-Or.result.now in
    let query : nquery.Or qs ≡ c.args.query.now = ap nquery.Or c.as_slice-child-items-in-Or.ensures ∙ sym c.in-Or.is in
    record {
      same = refl;
      hits = λ m is. none_gathered m c.args.scope.now.auths.now c.args.scope.now.days.now c.args.scope.now.types.now (not p) p qs
          (sym (or_led (map anchored_at qs) p) ∙ or_of qs p ∙ ap (λ q. anchored_at q p) query ∙ c.requires);
      reads = adds_same is_of_index (g.K.Keeper.reads c.args.keeper.now);
      unasked = refl;
      counted = omega arith;
    }

pub loop-child-2-preserved : goal.loop-child-2-preserved
loop-child-2-preserved g t c =
    let n = c.args.scope.now.auths.now in
    let d = c.args.scope.now.days.now in
    let ty = c.args.scope.now.types.now in
    let p = c.args.positive in
    let qs = c.as_slice-child-items-in-Or.result.now in
    let i = c.loop-child-2.child-index in
    let q = c.child-item-in-loop-child-2.result in
    let old = c.loop-child-2.invariant in
    let query : nquery.Or qs ≡ c.args.query.now = ap nquery.Or c.as_slice-child-items-in-Or.ensures ∙ sym c.in-Or.is in
    let lead : led (not p) (map anchored_at qs) p ≡ true = sym (or_led (map anchored_at qs) p) ∙ or_of qs p ∙ ap (λ z. anchored_at z p) query ∙ c.requires in
    elim c.if-anchored_at-2.branch [
      | then-anchored_at-2+in_ok-more-in-Or+in_ok-joined-in-Or w ↦
          let faults : g.K.Keeper.faults c.if-anchored_at-2.keeper ≡ g.K.Keeper.faults w.hits_at-then-anchored_at-2.new.keeper = ap g.K.Keeper.faults w.keeper-is in
          record {
            same = ap g.K.Keeper.told w.keeper-is ∙ w.hits_at-then-anchored_at-2.ensures.same ∙ old.same;
            hits = λ m is.
                subst (λ f. Gathered m n d ty (not p) p qs (i + 1) f) (sym w.found-is)
                (child_gathered m n d ty (not p) p qs i q c.loop-child-2.found w.in_ok-more-in-Or.more w.in_ok-joined-in-Or.field-0 (old.hits m is) c.loop-child-2-test.true c.child-item-in-loop-child-2.is (w.in_ok-more-in-Or.ensures.hits m (old.same ∙ is)) w.in_ok-joined-in-Or.ensures);
            reads = subst (λ k. Adds is_of_index (g.K.Keeper.reads c.args.keeper.now) (g.K.Keeper.reads k)) (sym w.keeper-is)
                (adds_more is_of_index (g.K.Keeper.reads c.args.keeper.now) (g.K.Keeper.reads c.loop-child-2.keeper) (g.K.Keeper.reads w.hits_at-then-anchored_at-2.new.keeper) old.reads w.hits_at-then-anchored_at-2.ensures.reads);
            unasked = ap g.K.Keeper.asked w.keeper-is ∙ w.hits_at-then-anchored_at-2.ensures.unasked ∙ old.unasked;
            counted = omega (arith, faults, w.hits_at-then-anchored_at-2.ensures.counted, old.counted);
          }
      | else-anchored_at-2 w ↦
          let no_anchor : anchored_at q p ≡ false = sym c.anchored_at-in-loop-child-2.ensures ∙ w.if-anchored_at-2.false in
          let faults : g.K.Keeper.faults c.if-anchored_at-2.keeper ≡ g.K.Keeper.faults c.loop-child-2.keeper = ap g.K.Keeper.faults w.keeper-is in
          record {
            same = ap g.K.Keeper.told w.keeper-is ∙ old.same;
            hits = λ m is.
                subst (λ f. Gathered m n d ty (not p) p qs (i + 1) f) (sym w.found-is)
                (child_skipped m n d ty (not p) p qs i q c.loop-child-2.found (old.hits m is) c.loop-child-2-test.true c.child-item-in-loop-child-2.is (child_open (not p) p qs i q lead c.loop-child-2-test.true c.child-item-in-loop-child-2.is no_anchor) no_anchor (λ s. open_stays m n ty s q p no_anchor));
            reads = subst (λ k. Adds is_of_index (g.K.Keeper.reads c.args.keeper.now) (g.K.Keeper.reads k)) (sym w.keeper-is) old.reads;
            unasked = ap g.K.Keeper.asked w.keeper-is ∙ old.unasked;
            counted = omega (arith, faults, old.counted);
          }
    ]

pub returns-in-Equal-clause-hits : goal.returns-in-Equal-clause-hits
returns-in-Equal-clause-hits g t c = λ m is.
    IfOk-weaker c.read_shards.result _ _ (λ l h s. h s ∙ ap (λ b. is_in_days c.args.scope.now.days.now s && b)
    (equal_stays m c.args.scope.now.auths.now c.args.scope.now.types.now s c.args.query.now c.args.positive c.in-Equal.field c.in-Equal.rule c.in-Equal.value c.as_str-value.result.now c.in-Equal.is c.as_str-value.ensures.same c.requires))
    (c.read_shards.ensures.hits m is)

pub returns-in-Between-clause-hits : goal.returns-in-Between-clause-hits
returns-in-Between-clause-hits g t c = λ m is.
    IfOk-weaker c.read_shards-in-Between.result _ _ (λ l h s. h s ∙ ap (λ b. is_in_days c.args.scope.now.days.now s && b)
    (between_stays m c.args.scope.now.auths.now c.args.scope.now.types.now s c.args.query.now c.args.positive c.in-Between.field c.in-Between.rule c.in-Between.low c.in-Between.low_edge c.in-Between.high c.in-Between.high_edge c.as_str.result.now c.as_str-in-Between.result.now c.in-Between.is c.as_str.ensures.same c.as_str-in-Between.ensures.same c.requires))
    (c.read_shards-in-Between.ensures.hits m is)

pub returns-in-Starts-clause-hits : goal.returns-in-Starts-clause-hits
returns-in-Starts-clause-hits g t c = λ m is.
    IfOk-weaker c.read_shards-in-Starts.result _ _ (λ l h s. h s ∙ ap (λ b. is_in_days c.args.scope.now.days.now s && b)
    (starts_stays m c.args.scope.now.auths.now c.args.scope.now.types.now s c.args.query.now c.args.positive c.in-Starts.field c.in-Starts.rule c.in-Starts.text c.as_str-front.result.now c.in-Starts.is c.as_str-front.ensures.same c.requires))
    (c.read_shards-in-Starts.ensures.hits m is)

pub returns-in-Ends-clause-hits : goal.returns-in-Ends-clause-hits
returns-in-Ends-clause-hits g t c = λ m is.
    IfOk-weaker c.backward_shards.result _ _ (λ l h s. h s ∙ ap (λ b. is_in_days c.args.scope.now.days.now s && b)
    (ends_stays m c.args.scope.now.auths.now c.args.scope.now.types.now s c.args.query.now c.args.positive c.in-Ends.field c.in-Ends.rule c.in-Ends.text c.in-Ends.is c.requires))
    (c.backward_shards.ensures.hits m is)

pub returns-in-Not-clause-hits : goal.returns-in-Not-clause-hits
returns-in-Not-clause-hits g t c = λ m is.
    IfOk-weaker c.hits_at.result _ _ (λ l h s. h s ∙ ap (λ b. is_in_days c.args.scope.now.days.now s && b)
    (not_stays m c.args.scope.now.auths.now c.args.scope.now.types.now s c.args.query.now c.get.result.now c.args.positive (c.in-Not.is ∙ ap nquery.Not (sym c.get.ensures))))
    (c.hits_at.ensures.hits m is)

pub returns-after-loop-child-clause-hits : goal.returns-after-loop-child-clause-hits
returns-after-loop-child-clause-hits g t c = λ m is s.
    let n = c.args.scope.now.auths.now in
    let d = c.args.scope.now.days.now in
    let ty = c.args.scope.now.types.now in
    let p = c.args.positive in
    let qs = c.as_slice-child-items.result.now in
    let query : nquery.And qs ≡ c.args.query.now = ap nquery.And c.as_slice-child-items.ensures ∙ sym c.in-And.is in
    ap (λ l. has l s) c.all_found.ensures
    ∙ gathered m n d ty p p qs c.loop-child.child-index c.loop-child.found s (c.loop-child.invariant.hits m is) c.loop-child-test.false
    ∙ ap (λ b. is_in_days d s && b) (and_stays m n d ty qs p s ∙ ap (λ q. stays m n ty s q p) query)

pub returns-after-loop-child-2-clause-hits : goal.returns-after-loop-child-2-clause-hits
returns-after-loop-child-2-clause-hits g t c = λ m is s.
    let n = c.args.scope.now.auths.now in
    let d = c.args.scope.now.days.now in
    let ty = c.args.scope.now.types.now in
    let p = c.args.positive in
    let qs = c.as_slice-child-items-in-Or.result.now in
    let query : nquery.Or qs ≡ c.args.query.now = ap nquery.Or c.as_slice-child-items-in-Or.ensures ∙ sym c.in-Or.is in
    ap (λ l. has l s) c.all_found-in-Or.ensures
    ∙ gathered m n d ty (not p) p qs c.loop-child-2.child-index c.loop-child-2.found s (c.loop-child-2.invariant.hits m is) c.loop-child-2-test.false
    ∙ ap (λ b. is_in_days d s && b) (or_stays m n d ty qs p s ∙ ap (λ q. stays m n ty s q p) query)
