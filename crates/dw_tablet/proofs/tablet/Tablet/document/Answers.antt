use Rattle.std.proofs.Common.{refl, sym, ap, ◌∙◌, None, []}
use Rattle.dw_derive.specs.Entries.{doc_text}
use Rattle.dw_tablet.specs.Documents.{document_start, document_end}
use Rattle.dw_tablet.specs.Positions.{document_front}
use Rattle.dw_tablet.specs.Cursors.{gap_place}
use Rattle.dw_tablet.proofs.Ranges.{under}
use Rattle.dw_tablet.proofs.Shown.{whole}
use Rattle.dw_tablet.proofs.tablet.Tablet.document.Goals as goal

pub returns-in-Nowhere-clause-lent : goal.returns-in-Nowhere-clause-lent
returns-in-Nowhere-clause-lent g c =
    let t = c.args.self.now in
    let key = c.args.key.now in
    let start = document_start t.shard key in (
      refl,
      λ content fits.
          c.document_ahead-ahead.ensures.keys
          ∙ whole t content start (document_end t.shard key) (λ _. None) c.spans-spans.ensures.apart fits (under (document_front t.shard (doc_text key)) [])
          (sym c.document_ahead-ahead.ensures.gap ∙ ap (gap_place start) c.in-Nowhere.is),
    )
