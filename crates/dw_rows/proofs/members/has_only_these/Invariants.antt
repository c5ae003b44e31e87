use Rattle.std.proofs.Common.{◌≡◌, map}
use Rattle.serde_json.specs.View.{members_view}
use Rattle.dw_rows.specs.Values.{has_only_names}
use Rattle.dw_rows.proofs.members.has_only_these.Given as goal

abbrev pub invariant-loop-name : goal.invariant-loop-name
invariant-loop-name l = has_only_names (map (λ n. n.now) l.names) (members_view l.members.entries) ≡ has_only_names (map (λ n. n.now) l.names) (members_view l.name-iterator)
