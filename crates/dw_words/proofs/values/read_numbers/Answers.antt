use Rattle.std.proofs.Common.{lit<, rules}
use Rattle.std.proofs.lemmas.Iterator.{YieldsList-from_map, items_from_collect}
use Rattle.std.proofs.lemmas.Iterator.Consumers.{YieldsList-at}
use Rattle.std.proofs.lemmas.Iterator.Splits.{YieldsList-from_str_split}
use Rattle.dw_words.specs.Values.{size_of}
use Rattle.dw_words.proofs.values.read_numbers.Goals as goal

pub returns : goal.returns
returns c =
    items_from_collect _ c.collect.ensures.ran (YieldsList-from_map _ size_of
    (YieldsList-at c.map.ensures.source (YieldsList-from_str_split 44 c.args.text.now (lit< tt) c.split.ensures.text c.split.ensures.has_more c.split.ensures.pattern))
    c.map.ensures.closure (λ x r q k. search rules))
