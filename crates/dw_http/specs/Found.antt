use Rattle.std.specs.Prelude.{⊤}
use Rattle.httparse.specs.declared.spans.RequestSpans.{RequestSpans}
use Rattle.dw_http.specs.declared.head.Found.{Found}
use Rattle.dw_http.specs.declared.head.Found.TheVariants.{Head, NotYet, TooMany, Never}

abbrev pub IfHead : Found → (RequestSpans → Type 0) → Type 0
IfHead (Head r) P = P r
IfHead NotYet P = ⊤
IfHead TooMany P = ⊤
IfHead Never P = ⊤

abbrev pub OnNoHead : Found → Type 0 → Type 0
OnNoHead (Head r) P = ⊤
OnNoHead NotYet P = P
OnNoHead TooMany P = P
OnNoHead Never P = P

abbrev pub OnNever : Found → Type 0 → Type 0
OnNever (Head r) P = ⊤
OnNever NotYet P = ⊤
OnNever TooMany P = ⊤
OnNever Never P = P
