-- On what is made of sound tables.
use Rattle.std.proofs.Common.{◌≡◌, ap, sym, subst, ◌∙◌}
use Rattle.std.specs.FinMap.{insert}
use Rattle.dw_outside.specs.Tables.{Tables}
use Rattle.dw_derive.specs.Meta.{field_slot, rule_bytes, grant_slot, names_bytes}
use Rattle.dw_derive.specs.MetaTables.{MetaIsRead, with_rule, with_grant, RulesAreCells, RulesKeepWorlds, GrantsAreCells, GrantsKeepWorlds}
use Rattle.dw_derive.specs.Lawful.{IsWorld}
use Rattle.dw_derive.specs.Tables.{tables}
use Rattle.dw_derive.specs.World.{World}
use Rattle.dw_ingest.specs.Ingested.{after_taken}
use Rattle.dw_event.specs.Take.{taken}
use Rattle.dw_audit.specs.WorldOf.{world_of}
use Rattle.dw_audit.specs.Sound.{AreSound}
use Rattle.dw_audit.specs.Laws.{ChangesAreSound}
use Rattle.dw_audit.proofs.StoodFor.{world_is}
use Rattle.dw_audit.proofs.WholeAgain.{worlds_sound}

-- tables of a world are sound
of_world : MetaIsRead → (u : Tables) (w : World) → u ≡ tables w → IsWorld w → AreSound u
of_world meta u w e is = subst AreSound (sym e) (worlds_sound meta w is)

pub changes : MetaIsRead → RulesAreCells → RulesKeepWorlds → GrantsAreCells → GrantsKeepWorlds → ChangesAreSound
changes meta rules rules_keep grants grants_keep = record {
  ingested = λ digest t u records r i. of_world meta u (after_taken (world_of t) (taken digest (world_of t).events (world_of t).last records)) (cc i.tables) i.world;
  reindexed = λ t u field rule new folded i. of_world meta u (with_rule (world_of t) field rule) (cc i.tables) (i.world folded);
  defined = λ t field rule sound none folded. of_world meta (insert t (field_slot field) (rule_bytes rule)) (with_rule (world_of t) field rule)
      (ap (λ m. insert m (field_slot field) (rule_bytes rule)) (sym sound) ∙ rules (world_of t) field rule none)
      (rules_keep (world_of t) field rule none (world_is t) folded);
  granted = λ t caller names sound named granted. of_world meta (insert t (grant_slot caller) (names_bytes names)) (with_grant (world_of t) caller names)
      (ap (λ m. insert m (grant_slot caller) (names_bytes names)) (sym sound) ∙ grants (world_of t) caller names)
      (grants_keep (world_of t) caller names (world_is t) named granted);
}
