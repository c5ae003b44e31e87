use Rattle.std.proofs.Common.{◌≡◌, drop, false}
use Rattle.dw_jexl.specs.Tokens.{quoted}
use Rattle.dw_jexl.proofs.Strings.{so_far}
use Rattle.dw_jexl.proofs.lex.quoted.Given as goal

abbrev pub invariant-loop-i : goal.invariant-loop-i
invariant-loop-i l = so_far l.text l.i (quoted l.quote l.escaped (drop l.i l.chars)) ≡ quoted l.quote false l.chars
