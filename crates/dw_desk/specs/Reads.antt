-- Which reads a request makes, where they are told.
use Rattle.std.specs.Prelude.{ℕ, ◌-◌, ◌*◌, ◌==◌, Bool, true, false, List, Option, None, Result, Ok, Err, drop, if◌then◌else◌}
use Rattle.std.specs.Option.{option_map}
use Rattle.std.specs.BTreeMap.{BTreeMap}
use Rattle.dw_dict.specs.declared.rule.FieldRule.{FieldRule}
use Rattle.dw_dict.specs.Dictionary.{rule_of}
use Rattle.dw_outside.specs.declared.cell.Reading.{Reading}
use Rattle.dw_derive.specs.World.{World}
use Rattle.dw_eval.specs.Answer.{answer_of}
use Rattle.dw_ingest.specs.Reindexed.{with_rule_read}
use Rattle.dw_page.specs.Asked.{hits_in}
use Rattle.dw_page.specs.Marks.{place_before, walked}
use Rattle.dw_page.specs.Reads.{ReadsPage}
use Rattle.dw_wire.specs.declared.request.Request.{Request}
use Rattle.dw_wire.specs.declared.request.Request.TheVariants.{Define, Grant, Ingest, Create, Page, Close}
use Rattle.dw_wire.specs.declared.request.Why.{Why}
use Rattle.dw_desk.specs.declared.caller.Caller.{Caller}
use Rattle.dw_desk.specs.declared.desk.Desk.{Desk}
use Rattle.dw_desk.specs.declared.kept_query.KeptQuery.{KeptQuery}
use Rattle.dw_desk.specs.Accounts.{query_kept}
use Rattle.dw_desk.specs.Stands.{kept_of}

-- none for what is no request, to grant, to create and to close
abbrev pub reads_nothing : Result Request Why → Bool
reads_nothing (Err why) = true
reads_nothing (Ok (Define field rule)) = false
reads_nothing (Ok (Grant caller names)) = true
reads_nothing (Ok (Ingest records)) = false
reads_nothing (Ok (Create caller query days types size asked)) = true
reads_nothing (Ok (Page caller number page)) = false
reads_nothing (Ok (Close caller number)) = true

-- a field is to be defined
abbrev pub defines : Result Request Why → Bool
defines (Err why) = false
defines (Ok (Define field rule)) = true
defines (Ok (Grant caller names)) = false
defines (Ok (Ingest records)) = false
defines (Ok (Create caller query days types size asked)) = false
defines (Ok (Page caller number page)) = false
defines (Ok (Close caller number)) = false

-- for that, all of table 0 by one read, where a batch was taken and the rule adds cells
abbrev pub with_rule_reads : Desk → List ℕ → FieldRule → Option (List Reading) → Option (List Reading)
with_rule_reads d field rule reads = if d.last == 0 then reads else with_rule_read (rule_of d.dict field) rule reads

abbrev pub with_definition : Desk → Result Request Why → Option (List Reading) → Option (List Reading)
with_definition d (Err why) reads = reads
with_definition d (Ok (Define field rule)) reads = with_rule_reads d field rule reads
with_definition d (Ok (Grant caller names)) reads = reads
with_definition d (Ok (Ingest records)) reads = reads
with_definition d (Ok (Create caller query days types size asked)) reads = reads
with_definition d (Ok (Page caller number page)) reads = reads
with_definition d (Ok (Close caller number)) reads = reads

-- the kept query of which a page is asked for, and the number of that page
abbrev pub page_asked : BTreeMap (List ℕ) Caller → Result Request Why → Option (KeptQuery × ℕ)
page_asked callers (Err why) = None
page_asked callers (Ok (Define field rule)) = None
page_asked callers (Ok (Grant caller names)) = None
page_asked callers (Ok (Ingest records)) = None
page_asked callers (Ok (Create caller query days types size asked)) = None
page_asked callers (Ok (Page caller number page)) = option_map (λ k. (k, page)) ((kept_of callers caller).queries number)
page_asked callers (Ok (Close caller number)) = None

-- for that, those of the shards that the query hits, from its mark on
abbrev pub PageReads : World → KeptQuery × ℕ → ℕ → Option (List Reading) → Option (List Reading) → Type 0
PageReads w p workers before now =
    ReadsPage before now (walked (place_before p.0.mark p.1) (hits_in p.0.asked.ask p.0.days w)) workers (drop p.0.size (drop ((p.1 - 1) * p.0.size) (answer_of (query_kept p.0) w.events)))
