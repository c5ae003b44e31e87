-- How long a disk is told to be.
use Rattle.std.proofs.Common.{◌≡◌, ℕ, ◌+◌, ◌^◌, ◌<◌, ◌≤◌, List, ◌++◌, length, take, drop, Option, Some, None, inl, inr, sym, ap, subst, arith, length-append, length-take, length-drop}
use Rattle.std.specs.Prelude.{is_some}
use Rattle.dw_outside.specs.Disks.{DiskState, DiskModel, Now, after, overlay, wrote, wrote_to, synced, IsTorn}
use Rattle.dw_outside.specs.DiskStands.{size}
use Rattle.dw_journal.specs.Fixed.{told_length}

pub told_now : (at : ℕ) (m : Option DiskModel) → at ≤ told_length m → Now (λ s. at ≤ length s.seen) m
told_now at None le = tt
told_now at (Some m) le = le

pub told_same : (old new : Option DiskModel) → new ≡ old → told_length old ≤ told_length new
told_same old new is = omega (arith, ap told_length is)

pub told_synced : (old new : Option DiskModel) → new ≡ after synced old → told_length old ≤ told_length new
told_synced None new is = omega (arith, ap told_length is)
told_synced (Some m) new is = omega (arith, ap told_length is)

wrote_to_longer : (at end : ℕ) (bytes : List ℕ) (old new : Option DiskModel) → new ≡ after (wrote_to at bytes end) old → told_length old ≤ told_length new
wrote_to_longer at end bytes None new is = omega (arith, ap told_length is)
wrote_to_longer at end bytes (Some m) new is = omega (arith, ap told_length is, (size at bytes m.now.seen).0)

pub told_wrote : (at : ℕ) (bytes : List ℕ) (old new : Option DiskModel) → new ≡ after (wrote at bytes) old → told_length old ≤ told_length new
told_wrote at bytes old new is = wrote_to_longer at (at + length bytes) bytes old new is

pub told_torn : (at n : ℕ) (old new : Option DiskModel) → IsTorn at n old new → told_length old ≤ told_length new
told_torn at n old new (inl same) = told_same old new same
told_torn at n old new (inr torn) = wrote_to_longer at (at + n) torn.0 old new torn.2

end_within : (at : ℕ) (bytes seen : List ℕ) → at ≤ length seen → at + length bytes ≤ length (overlay at bytes seen)
end_within at bytes seen le =
    let behind = drop (at + length bytes) seen in
    omega (arith, le, length-append (take at seen) (bytes ++ behind), length-append bytes behind, length-take at seen)

pub told_end : (at : ℕ) (bytes : List ℕ) (old new : Option DiskModel) → new ≡ after (wrote at bytes) old → at ≤ told_length old → at + length bytes < 2 ^ 63 → at + length bytes ≤ told_length new
told_end at bytes None new is le small = omega (arith, ap told_length is, small)
told_end at bytes (Some m) new is le small = omega (arith, ap told_length is, end_within at bytes m.now.seen le)

pub told_size : (m : Option DiskModel) (n : ℕ) → Now (λ s. n ≡ length s.seen) m → n < 2 ^ 64 → n ≤ told_length m
told_size None n is small = omega (arith, small)
told_size (Some m) n is small = omega (arith, is)

pub is_told_same : (old new : Option DiskModel) → new ≡ old → is_some new ≡ is_some old
is_told_same old new is = ap is_some is

pub is_told_after : (f : DiskState → DiskState) (old new : Option DiskModel) → new ≡ after f old → is_some new ≡ is_some old
is_told_after f None new is = ap is_some is
is_told_after f (Some m) new is = ap is_some is

pub is_told_torn : (at n : ℕ) (old new : Option DiskModel) → IsTorn at n old new → is_some new ≡ is_some old
is_told_torn at n old new (inl same) = ap is_some same
is_told_torn at n old new (inr torn) = is_told_after (wrote_to at torn.0 (at + n)) old new torn.2
