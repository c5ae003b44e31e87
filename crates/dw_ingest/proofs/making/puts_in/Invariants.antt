use Rattle.std.proofs.Common.{◌≡◌, ◌≤◌, ◌++◌, drop, map}
use Rattle.std.specs.Prelude.{All}
use Rattle.dw_derive.specs.Entries.{slot_of}
use Rattle.dw_derive.specs.Laws.{put_of}
use Rattle.dw_ingest.proofs.making.puts_in.Given as goal

abbrev pub invariant-loop-entry : goal.invariant-loop-entry
invariant-loop-entry l = record {
  puts : l.puts.items ++ map (put_of l.batch l.uid) (map slot_of (drop l.entry-index l.entries)) ≡ map (put_of l.batch l.uid) (map slot_of l.entries);
  fits : All (λ p. p.table ≤ 3) l.puts.items;
}
