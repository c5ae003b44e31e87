use Rattle.std.proofs.Common.{◌≡◌, drop}
use Rattle.std.specs.Prelude.{◌||◌}
use Rattle.dw_http.specs.Scans.{walked, ends_within}
use Rattle.dw_http.proofs.scan.Scan.walk.Given as goal

abbrev pub invariant-loop-byte : goal.invariant-loop-byte
invariant-loop-byte l = record {
  walked : walked l.self (drop l.byte-index l.bytes) ≡ walked l.fn.self l.bytes;
  ends : (l.ends || ends_within l.self (drop l.byte-index l.bytes)) ≡ ends_within l.fn.self l.bytes;
}
