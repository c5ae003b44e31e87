use Rattle.std.proofs.Common.{◌≡◌, sym, ap, ◌∙◌, ◌++◌, take, drop, rules}
use Rattle.dw_tablet.proofs.Searching.{run_put}
use Rattle.dw_tablet.proofs.run.put_run.Goals as goal

pub returns-clause-ok : goal.returns-clause-ok
returns-clause-ok c =
    let keys = c.args.keys.now.items in
    let run = c.args.run.items in
    let low = c.count_below-low.result in
    let high = c.count_below-high.result in
    let all : c.append-2.new.self.items ≡ (take low (take high keys) ++ run) ++ drop high keys = search rules in
    all ∙ run_put keys run c.args.from.now c.args.upto.now low high c.requires.long (search rules) (search rules) (search rules) (search rules) (search rules)
