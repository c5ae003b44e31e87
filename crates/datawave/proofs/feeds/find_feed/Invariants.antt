use Rattle.std.proofs.Common.{◌≡◌, ◌++◌, ℕ, List, take, drop}
use Rattle.datawave.specs.Lines.{whole_lines_after, rest_after}
use Rattle.datawave.proofs.feeds.find_feed.Given as goal

abbrev pub invariant-loop-i : goal.invariant-loop-i
invariant-loop-i l = record {
  whole : (front : List ℕ) → whole_lines_after front l.bytes ≡ whole_lines_after (front ++ take l.i l.bytes) (drop l.i l.bytes);
  rest : (front : List ℕ) → rest_after front l.bytes ≡ rest_after (front ++ take l.i l.bytes) (drop l.i l.bytes);
}
