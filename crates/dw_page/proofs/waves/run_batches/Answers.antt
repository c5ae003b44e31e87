use Rattle.std.proofs.Common.{arith, filter}
use Rattle.std.proofs.lemmas.Result.{IfOk-weaker}
use Rattle.std.proofs.lemmas.Slice.Zip.{AllZip-long}
use Rattle.dw_page.specs.Placed.{is_open}
use Rattle.dw_page.specs.Waves.{IsJobOf}
use Rattle.dw_page.proofs.WaveLemmas.{batches, filter_short}
use Rattle.dw_page.proofs.waves.run_batches.Goals as goal

pub run_wave-requires-clause-few : goal.run_wave-requires-clause-few
run_wave-requires-clause-few g c κs within =
    let slots = c.args.slots.now in
    let jobs = c.in_ok-jobs.jobs in
    omega (arith, c.requires.few, filter_short is_open slots, AllZip-long (IsJobOf c.args.ask.now) (filter is_open slots) jobs.items c.in_ok-jobs.ensures, jobs.ok.0)

pub returns : goal.returns
returns g c =
    let slots = filter is_open c.args.slots.now in
    IfOk-weaker c.run_wave.result _ _
    (λ outs given. batches c.args.ask.now slots c.in_ok-jobs.jobs.items outs.items c.in_ok-jobs.ensures given)
    c.run_wave.ensures
