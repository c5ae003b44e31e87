-- A turn, from where it began to take bytes.
use Rattle.std.proofs.Common.{ℕ, List, arith}
use Rattle.std.specs.Prelude.{Option, Some, None}
use Rattle.dw_outside.specs.Links.{Meaning}
use Rattle.dw_http.specs.Held.{Held}
use Rattle.dw_http.specs.Messages.{Ask}
use Rattle.dw_http.specs.Turns.{Goes, Turns, Ends}
use Rattle.dw_http.specs.declared.talk.Ended.{Ended}
use Rattle.dw_http.proofs.Soon.{so_far_goes}
use Rattle.dw_http.proofs.Ends.{goes_sum}

module _ {H : Type 0} (answers : H → Ask → List ℕ → H → Type 0) (stays : H → H → Type 0) where
  pub turns_after : (now : Meaning) (old mid : Held) (later : Meaning) (state : H) (r : Option Ended) (held : Held) (after : Meaning) (state' : H) → Goes now old mid later → Turns answers stays later mid state r held after state' → Turns answers stays now old state r held after state'
  turns_after now old mid later state None held after state' goes t = λ before start asks s.
      let next = t before start asks (so_far_goes answers stays before start asks old now state mid later goes s) in
      (next.0, next.1, omega (arith, next.2, goes_sum now old mid later goes))
  turns_after now old mid later state (Some ended) held after state' goes t = λ before start asks s. t before start asks (so_far_goes answers stays before start asks old now state mid later goes s)

  pub ends_after : (now : Meaning) (old mid : Held) (later : Meaning) (state : H) (ended : Ended) (after : Meaning) (state' : H) → Goes now old mid later → Ends answers stays later mid state ended after state' → Ends answers stays now old state ended after state'
  ends_after now old mid later state ended after state' goes t = λ before start asks s. t before start asks (so_far_goes answers stays before start asks old now state mid later goes s)
