use Rattle.std.proofs.Common.{◌≡◌, drop}
use Rattle.std.specs.List.{list_all}
use Rattle.std.specs.Str.{is_utf8}
use Rattle.dw_base.specs.Callers.{is_auth}
use Rattle.dw_desk.proofs.grants.may_be_granted.Given as goal

abbrev pub invariant-naming : goal.invariant-naming
invariant-naming l = record {
  rules : list_all is_auth l.names ≡ list_all is_auth (drop l.name-index l.names);
  texts : list_all is_utf8 l.names ≡ list_all is_utf8 (drop l.name-index l.names);
}
