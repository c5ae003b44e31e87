use Rattle.std.proofs.Common.{◌≤◌, length}
use Rattle.std.specs.Vec.{vec_len}
use Rattle.dw_base.specs.declared.limits.TheConstants.{MAX_NAMES}
use Rattle.dw_derive.proofs.MetaSpellings.{Goes}
use Rattle.dw_derive.proofs.meta_readers.names_in.Given as goal

abbrev pub invariant-loop-rest : goal.invariant-loop-rest
invariant-loop-rest l = (vec_len l.names ≤ MAX_NAMES) × Goes l.content l.names.items (vec_len l.names) l.rest

abbrev pub decreases-loop-rest : goal.decreases-loop-rest
decreases-loop-rest l = length l.rest
