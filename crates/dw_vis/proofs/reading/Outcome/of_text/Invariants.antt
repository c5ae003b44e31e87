use Rattle.std.proofs.Common.{◌≡◌, ◌≤◌, false, drop, length}
use Rattle.dw_vis.specs.Depth.{is_deep_from}
use Rattle.dw_vis.specs.Reading.{read_from, first_state}
use Rattle.dw_vis.specs.Sight.{seen_by}
use Rattle.dw_vis.specs.States.{state_of}
use Rattle.dw_vis.proofs.Places.{walk_of}
use Rattle.dw_vis.proofs.reading.Outcome.of_text.Given as goal

abbrev pub invariant-loop-byte : goal.invariant-loop-byte
invariant-loop-byte l = record {
  few : length l.reader.name.items ≤ l.byte-index;
  shallow : is_deep_from (walk_of (state_of l.reader)) (drop l.byte-index l.text) ≡ false;
  so_far : read_from (seen_by l.auths) (state_of l.reader) (drop l.byte-index l.text) ≡ read_from (seen_by l.auths) first_state l.text;
}
