-- The normal form of a text for each kind of field.
use Rattle.std.specs.Prelude.{ℕ, List, Option}
use Rattle.dw_norm.specs.declared.kind.Kind.{Kind}
use Rattle.dw_norm.specs.declared.kind.Kind.TheVariants.{Text, Noop, Number, Date, Ipv4}
use Rattle.dw_norm.specs.NormalText.{norm_text}
use Rattle.dw_norm.specs.Unchanged.{unless_empty}
use Rattle.dw_norm.specs.Numbers.{norm_number}
use Rattle.dw_norm.specs.Dates.{norm_date}
use Rattle.dw_norm.specs.Addresses.{norm_address}

-- none where the kind does not read the text
abbrev pub norm : Kind → List ℕ → Option (List ℕ)
norm Text raw = norm_text raw
norm Noop raw = unless_empty raw
norm Number raw = norm_number raw
norm Date raw = norm_date raw
norm Ipv4 raw = norm_address raw
