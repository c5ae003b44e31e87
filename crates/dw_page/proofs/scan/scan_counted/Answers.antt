use Rattle.std.proofs.lemmas.Result.{IfOk-weaker}
use Rattle.dw_scan.proofs.WorldSeen.{they_answer}
use Rattle.dw_page.proofs.ScanLemmas.{both, scanned_of}
use Rattle.dw_page.proofs.scan.scan_counted.Goals as goal

pub returns : goal.returns
returns g c =
    let t = c.args.tablet.now in
    let r = c.args.resume.now in
    IfOk-weaker c.scan_batch.result _ _
    (λ b h. scanned_of c.args.ask.now t r c.args.want b they_answer c.requires.shard h.0 h.1)
    (both c.scan_batch.result _ _ c.scan_batch.ensures.shard c.scan_batch.ensures.scanned)
