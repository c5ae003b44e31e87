-- A reader over a text, one byte after another.
use Rattle.std.proofs.Common.{◌≡◌, ℕ, ◌+◌, ◌<◌, ◌≤◌, Bool, true, false, List, [], ◌∷◌, length, map, drop, get_or, refl, sym, ap, ◌∙◌, arith}
use Rattle.std.proofs.lemmas.List.{drop_more, drop_all, length-reverse, length-map}
use Rattle.dw_vis.specs.declared.depth.Walk.{Walk}
use Rattle.dw_vis.specs.declared.depth.Quotes.TheVariants as quotes
use Rattle.dw_vis.specs.declared.depth.Step as walk_step
use Rattle.dw_vis.specs.declared.reading.Place as kept_place
use Rattle.dw_vis.specs.declared.reading.Place.TheVariants.{AtOne, InBare, InQuotes, InEscape, Behind}
use Rattle.dw_vis.specs.declared.reading.Reader.{Reader}
use Rattle.dw_vis.specs.declared.reading.Step.TheVariants.{On, Failed}
use Rattle.dw_vis.specs.Depth.{next, next_by, is_deep_then, is_deep_from}
use Rattle.dw_vis.specs.Reading.{Meaning, State, Next, goes, fails, Outcome, refused, reads, outcome_then, step, read_from, first_state, read, ended}
use Rattle.dw_vis.specs.States.{before_of, place_of, outside_of, state_of, Leads, is_at_one, HasRoom}
use Rattle.dw_vis.proofs.Places.{quotes_of, walk_of, Follows, step_follows, open_room}

-- a text that is not empty is read byte after byte
pub read_some : {V : Type 0} (m : Meaning V) (text : List ℕ) → 0 < length text → read m text ≡ read_from m first_state text
read_some m [] h = absurd (omega arith)
read_some m (b ∷ bs) h = refl

pub read_none : {V : Type 0} (m : Meaning V) (text : List ℕ) → length text ≡ 0 → reads m.nothing ≡ read m text
read_none m [] h = refl
read_none m (b ∷ bs) h = absurd (omega arith)

-- the rest of a text from a byte on
pub reads_on : {V : Type 0} (m : Meaning V) (st : State V) (text : List ℕ) (i : ℕ) → i < length text → read_from m st (drop i text) ≡ outcome_then (step m st (get_or text i 0)) (λ next. read_from m next (drop (i + 1) text))
unfolding read_from
reads_on m st text i l = ap (read_from m st) (drop_more text i 0 l)

pub reads_end : {V : Type 0} (m : Meaning V) (st : State V) (text : List ℕ) (i : ℕ) → length text ≤ i → read_from m st (drop i text) ≡ ended m st
unfolding read_from
reads_end m st text i h = ap (read_from m st) (drop_all i text h)

pub led_on : (n : Next Bool) (st : State Bool) (follows : State Bool → Outcome Bool) → Leads n On st → outcome_then n follows ≡ follows st
led_on (goes to) st follows h = ap follows (sym h)
led_on fails st follows h = absurd h

pub led_off : (n : Next Bool) (st : State Bool) (follows : State Bool → Outcome Bool) → Leads n Failed st → outcome_then n follows ≡ refused
led_off (goes to) st follows h = absurd h
led_off fails st follows h = refl

-- the walk goes on where the reader does
walks_on : (s : walk_step.Step) (n : Next Bool) (st : State Bool) (follows : Walk → Bool) → Leads n On st → Follows n s → is_deep_then s follows ≡ false → follows (walk_of st) ≡ false
walks_on s (goes to) st follows h f d = ap (λ t. follows (walk_of t)) h ∙ f follows d
walks_on s fails st follows h f d = absurd h

deep_at : (w : Walk) (text : List ℕ) (i : ℕ) → i < length text → is_deep_from w (drop i text) ≡ is_deep_then (next w (get_or text i 0)) (λ v. is_deep_from v (drop (i + 1) text))
unfolding is_deep_from
deep_at w text i l = ap (is_deep_from w) (drop_more text i 0 l)

pub stays_shallow : (m : Meaning Bool) (st next_st : State Bool) (text : List ℕ) (i : ℕ) → i < length text → is_deep_from (walk_of st) (drop i text) ≡ false → Leads (step m st (get_or text i 0)) On next_st → is_deep_from (walk_of next_st) (drop (i + 1) text) ≡ false
stays_shallow m st next_st text i l d h =
    walks_on (next (walk_of st) (get_or text i 0)) (step m st (get_or text i 0)) next_st (λ v. is_deep_from v (drop (i + 1) text)) h (step_follows m st (get_or text i 0)) (sym (deep_at (walk_of st) text i l) ∙ d)

at_one_outside : (name : List ℕ) (place : kept_place.Place) → is_at_one place ≡ true → quotes_of (place_of name place) ≡ quotes.Outside
at_one_outside name (AtOne before) h = refl
at_one_outside name (InBare before) h = cc
at_one_outside name (InQuotes before) h = cc
at_one_outside name (InEscape before) h = cc
at_one_outside name (Behind l) h = cc

-- there is room for a parenthesis that opens
room_outside : (r : Reader) (b : ℕ) (follows : Walk → Bool) → is_deep_then (next (walk_of (state_of r)) b) follows ≡ false → is_at_one r.place ≡ true → b ≡ 40 → length r.outside.items < 32
room_outside r b follows d at e =
    let n = length (outside_of r) in
    let q = at_one_outside r.name.items r.place at in
    let l = length-reverse (map before_of r.outside.items) in
    let k = length-map r.outside.items before_of in
    let room = open_room n b follows e (sym (ap (λ p. is_deep_then (next_by p n b) follows) q) ∙ d) in
    omega (arith, l, k, room)

pub has_room : (r : Reader) (text : List ℕ) (i : ℕ) → i < length text → length text ≤ 512 → length r.name.items ≤ i → is_deep_from (walk_of (state_of r)) (drop i text) ≡ false → HasRoom r (get_or text i 0)
has_room r text i l short few d = record {
  in_name = omega arith;
  in_outside = λ at e. room_outside r (get_or text i 0) (λ v. is_deep_from v (drop (i + 1) text)) (sym (deep_at (walk_of (state_of r)) text i l) ∙ d) at e;
}
