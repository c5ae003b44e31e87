use Rattle.dw_page.proofs.JoinedLemmas.{joined_done}
use Rattle.dw_page.proofs.gather.Gather.finish.Goals as goal

pub returns : goal.returns
returns c = record {
  shown = λ page rest j e. (joined_done page rest c.args.self j e).0;
  more = λ page rest j e. (joined_done page rest c.args.self j e).1;
}
