-- What lines ask for grows with them.
use Rattle.std.specs.Prelude.{◌≡◌, ◌++◌, [], List, ℕ, map}
use Rattle.std.proofs.Common.{sym, ap, ◌∙◌}
use Rattle.std.proofs.lemmas.List.{map-append, append-nil}
use Rattle.dw_wire.specs.ReadLine.{read_line}
use Rattle.dw_groups.specs.Groups.{full_groups, full_groups_after, last_items, last_group}
use Rattle.dw_groups.proofs.Grouping.{full_then}
use Rattle.dw_desk.specs.Session.{Asked}
use Rattle.datawave.specs.Readings.{requests}
use Rattle.datawave.specs.Groups.{ingest, full_ingests, ingests, line_record, line_records}

-- the requests of more lines follow those of the first
abbrev pub requests_grow : (xs ys : List (List ℕ)) → (more : List Asked) × (requests (xs ++ ys) ≡ requests xs ++ more)
requests_grow xs ys = (requests ys, map-append read_line xs ys)

-- nothing follows the requests of whole lines
abbrev pub requests_end : (ls : List (List ℕ)) → (more : List Asked) × (requests ls ≡ requests ls ++ more)
requests_end ls = ([], sym (append-nil (requests ls)))

-- the groups that more lines end follow those that were whole
abbrev pub groups_grow : (xs ys : List (List ℕ)) → (more : List Asked) × (full_ingests (line_records (xs ++ ys)) ≡ full_ingests (line_records xs) ++ more)
groups_grow xs ys = (
  map ingest (full_groups_after (last_items (line_records xs)) (line_records ys)),
  ap full_ingests (map-append line_record xs ys) ∙ ap (map ingest) (full_then [] (line_records xs) (line_records ys))
      ∙ map-append ingest (full_groups (line_records xs)) (full_groups_after (last_items (line_records xs)) (line_records ys)),
)

-- a last group follows the whole ones
abbrev pub groups_end : (ls : List (List ℕ)) → (more : List Asked) × (ingests (line_records ls) ≡ full_ingests (line_records ls) ++ more)
groups_end ls = (map ingest (last_group (last_items (line_records ls))), map-append ingest (full_groups (line_records ls)) (last_group (last_items (line_records ls))))
