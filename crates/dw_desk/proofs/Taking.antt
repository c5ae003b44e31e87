-- On the events that a filter keeps, where one is put in.
use Rattle.std.proofs.Common.{◌≡◌, ◌∷◌, [], Bool, false, cond, List, filter, Some, None, ap}
use Rattle.std.specs.declared.cmp.Ordering.{Ordering}
use Rattle.std.specs.declared.cmp.Ordering.TheVariants.{Less, Equal, Greater}
use Rattle.std.specs.Map.{lookup}
use Rattle.std.specs.Ordering.{is_eq, match_ordering}
use Rattle.std.specs.BTreeMap.{is_at, insert_entry}
use Rattle.dw_event.specs.Places.{place_cmp}
use Rattle.dw_event.specs.declared.records.Place.{Place}
use Rattle.dw_event.specs.declared.records.Held.{Held}
use Rattle.dw_event.specs.Take.{Event, held_at}

filter_at : (p : Event → Bool) (o : Ordering) (place : Place) (held : Held) (e : Event) (es more : List Event) → p (place, held) ≡ false
    → cond (is_eq o) (Some e.1) (lookup (is_at (place_cmp place)) es) ≡ None
    → (lookup (is_at (place_cmp place)) es ≡ None → filter p more ≡ filter p es)
    → filter p (match_ordering o ((place, held) ∷ e ∷ es) ((e.0, held) ∷ es) (e ∷ more)) ≡ filter p (e ∷ es)
filter_at p Less place held e es more out none h = ap (λ b. cond b ((place, held) ∷ filter p (e ∷ es)) (filter p (e ∷ es))) out
filter_at p Equal place held e es more out none h = cc
filter_at p Greater place held e es more out none h = ap (λ ys. cond (p e) (e ∷ ys) ys) (h none)

-- an event at a free place is none of those that a filter keeps, where it is not kept itself
pub filter_insert : (p : Event → Bool) (es : List Event) (place : Place) (held : Held) → p (place, held) ≡ false → held_at es place ≡ None
    → filter p (insert_entry place_cmp es place held) ≡ filter p es
filter_insert p [] place held out none = ap (λ b. cond b ((place, held) ∷ []) []) out
filter_insert p (e ∷ es) place held out none =
    filter_at p (place_cmp place e.0) place held e es (insert_entry place_cmp es place held) out none (filter_insert p es place held out)
