use Rattle.std.proofs.Common.{◌≡◌, option_map}
use Rattle.serde_json.specs.View.{members_view}
use Rattle.dw_rows.specs.Gathering.{with_entries}
use Rattle.dw_rows.specs.JsonRecords.{field_entries}
use Rattle.dw_rows.proofs.json_records.with_fields.Given as goal

abbrev pub invariant-loop-name : goal.invariant-loop-name
invariant-loop-name l =
    option_map (with_entries l.fn.gathered) (field_entries l.default (members_view l.fields.entries))
    ≡ option_map (with_entries l.gathered) (field_entries l.default (members_view l.name-iterator))
