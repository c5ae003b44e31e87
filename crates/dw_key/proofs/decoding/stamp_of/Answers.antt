use Rattle.std.proofs.Common.{◌≡◌, ◌-◌, ◌^◌, ◌<◌, ℕ, length, get_or, sym, arith}
use Rattle.std.specs.Int.{w64, from_be_bytes}
use Rattle.std.proofs.lemmas.Nat.{be_bytes_8}
use Rattle.dw_key.proofs.Places.{AreBytes-from}
use Rattle.dw_key.proofs.Ends.{ends_in_stamp, goes_past_stamp}
use Rattle.dw_key.proofs.decoding.stamp_of.Goals as goal

pub returns-then-bytes-lt8-clause-fault : goal.returns-then-bytes-lt8-clause-fault
returns-then-bytes-lt8-clause-fault c = ends_in_stamp c.args.bytes.now (AreBytes-from c.args.bytes.now (λ i. omega (arith, c.type_inv.bytes i))) c.if-bytes-lt8.true

pub returns-then-bytes-gt8-clause-fault : goal.returns-then-bytes-gt8-clause-fault
returns-then-bytes-gt8-clause-fault c = goes_past_stamp c.args.bytes.now (AreBytes-from c.args.bytes.now (λ i. omega (arith, c.type_inv.bytes i))) c.if-bytes-gt8.true

pub returns-clause-stamp : goal.returns-clause-stamp
returns-clause-stamp c =
    let bytes = c.args.bytes.now in
    let d = c.from_be_bytes-distance.result in
    let e : d ≡ from_be_bytes w64 bytes = c.from_be_bytes-distance.ensures in
    let len : length bytes ≡ 8 = omega (arith, c.if-bytes-lt8.false, c.if-bytes-gt8.false) in
    let fits : (i : ℕ) → get_or bytes i 0 < 256 = λ i. omega (arith, c.type_inv.bytes i) in
    let twice : 2 ^ 64 - 1 - (2 ^ 64 - 1 - d) ≡ from_be_bytes w64 bytes = omega (arith, e, fits 0, fits 1, fits 2, fits 3, fits 4, fits 5, fits 6, fits 7) in
    sym (be_bytes_8 bytes (2 ^ 64 - 1 - (2 ^ 64 - 1 - d)) len fits twice)
