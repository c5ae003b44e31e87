-- The order of options is free.
use Rattle.std.proofs.Common.{◌≡◌, ◌∙◌, ◌&&◌, Bool, true, false, not, cond, List, ◌∷◌, Option, Some, None, is_some, option_and_then, codes, refl, sym, ap, ap₂, true≢false}
use Rattle.std.specs.List.{list_all}
use Rattle.std.specs.Str.{bytes_eq}
use Rattle.std.proofs.lemmas.Slice.Eq.{bytes_eq-Decides}
use Rattle.dw_words.specs.declared.kind.Kind.{Kind}
use Rattle.dw_words.specs.declared.kind.Kind.TheVariants as kind
use Rattle.dw_words.specs.Options.{Options, Text, options, value_of, are_once, checked}
use Rattle.dw_words.specs.Words.{kind_named, takes, command_of, command_after}
use Rattle.dw_words.specs.Laws.{Reordered, same, swapped, behind, through, OrderIsFree}

exchanged : (a b c : Bool) → (a && (b && c)) ≡ (b && (a && c))
exchanged true true c = refl
exchanged true false c = refl
exchanged false true c = refl
exchanged false false c = refl

-- ---- each name is taken as before

pub all_stay : (t : Text → Bool) {ps qs : Options} → Reordered ps qs → list_all (λ p. t p.0) ps ≡ list_all (λ p. t p.0) qs
all_stay t same = refl
all_stay t (swapped {p} {q} {ps}) = exchanged (t p.0) (t q.0) (list_all (λ p. t p.0) ps)
all_stay t (behind {p} r) = ap (λ b. t p.0 && b) (all_stay t r)
all_stay t (through r s) = all_stay t r ∙ all_stay t s

-- ---- a name is given as before

either : (a b : Bool) (v w : Text) (o : Option Text) → is_some (cond a (Some v) (cond b (Some w) o)) ≡ is_some (cond b (Some w) (cond a (Some v) o))
either true true v w o = refl
either true false v w o = refl
either false true v w o = refl
either false false v w o = refl

under : (a : Bool) (v : Text) (o u : Option Text) → is_some o ≡ is_some u → is_some (cond a (Some v) o) ≡ is_some (cond a (Some v) u)
under true v o u e = refl
under false v o u e = e

given_stays : (name : Text) {ps qs : Options} → Reordered ps qs → is_some (value_of name ps) ≡ is_some (value_of name qs)
given_stays name same = refl
given_stays name (swapped {p} {q} {ps}) = either (bytes_eq p.0 name) (bytes_eq q.0 name) p.1 q.1 (value_of name ps)
given_stays name (behind {p} {ps} {qs} r) = under (bytes_eq p.0 name) p.1 (value_of name ps) (value_of name qs) (given_stays name r)
given_stays name (through r s) = given_stays name r ∙ given_stays name s

-- ---- none is given twice, as before

yes : (a b : Bool) → (a ≡ true → b ≡ true) → (b ≡ true → a ≡ true) → a ≡ b
yes true b there back = sym (there refl)
yes false true there back = back refl
yes false false there back = refl

bytes_eq-sym : (x y : Text) → bytes_eq x y ≡ bytes_eq y x
bytes_eq-sym x y =
    yes (bytes_eq x y) (bytes_eq y x) (λ e. (bytes_eq-Decides y x).1 (sym ((bytes_eq-Decides x y).0 e))) (λ e. (bytes_eq-Decides x y).1 (sym ((bytes_eq-Decides y x).0 e)))

once_by : (a b c d : Bool) (v w : Text) (o u : Option Text) → a ≡ b
    → (not (is_some (cond a (Some v) o)) && (not (is_some u) && c)) ≡ (not (is_some (cond b (Some w) u)) && (not (is_some o) && c))
once_by true true c d v w o u e = refl
once_by false false c d v w o u e = exchanged (not (is_some o)) (not (is_some u)) c
once_by true false c d v w o u e = absurd (true≢false e)
once_by false true c d v w o u e = absurd (true≢false (sym e))

once_stays : {ps qs : Options} → Reordered ps qs → are_once ps ≡ are_once qs
once_stays same = refl
once_stays (swapped {p} {q} {ps}) =
    once_by (bytes_eq q.0 p.0) (bytes_eq p.0 q.0) (are_once ps) true q.1 p.1 (value_of p.0 ps) (value_of q.0 ps) (bytes_eq-sym q.0 p.0)
once_stays (behind {p} r) = ap₂ (λ a b. not a && b) (given_stays p.0 r) (once_stays r)
once_stays (through r s) = once_stays r ∙ once_stays s

-- ---- the value of a name is as before

both : (a b : Bool) → (a && b) ≡ true → (a ≡ true) × (b ≡ true)
both true b e = (refl, e)
both false b e = absurd (true≢false (sym e))

one_of : (a b : Bool) (p q : Text × Text) (name : Text) (o : Option Text) → bytes_eq p.0 name ≡ a → bytes_eq q.0 name ≡ b → bytes_eq q.0 p.0 ≡ false
    → cond a (Some p.1) (cond b (Some q.1) o) ≡ cond b (Some q.1) (cond a (Some p.1) o)
one_of true true p q name o ea eb differ =
    absurd (true≢false (sym ((bytes_eq-Decides q.0 p.0).1 ((bytes_eq-Decides q.0 name).0 eb ∙ sym ((bytes_eq-Decides p.0 name).0 ea))) ∙ differ))
one_of true false p q name o ea eb differ = refl
one_of false true p q name o ea eb differ = refl
one_of false false p q name o ea eb differ = refl

differ_by : (a : Bool) (v : Text) (o : Option Text) → not (is_some (cond a (Some v) o)) ≡ true → a ≡ false
differ_by true v o e = absurd (true≢false (sym e))
differ_by false v o e = refl

value_stays : (name : Text) {ps qs : Options} → Reordered ps qs → are_once ps ≡ true → value_of name ps ≡ value_of name qs
value_stays name same once = refl
value_stays name (swapped {p} {q} {ps}) once =
    let parts = both (not (is_some (value_of p.0 (q ∷ ps)))) (are_once (q ∷ ps)) once in
    one_of (bytes_eq p.0 name) (bytes_eq q.0 name) p q name (value_of name ps) refl refl (differ_by (bytes_eq q.0 p.0) q.1 (value_of p.0 ps) parts.0)
value_stays name (behind {p} {ps} r) once =
    ap (λ o. cond (bytes_eq p.0 name) (Some p.1) o) (value_stays name r ((both (not (is_some (value_of p.0 ps))) (are_once ps) once).1))
value_stays name (through r s) once = value_stays name r once ∙ value_stays name s (sym (once_stays r) ∙ once)

command_stays : (k : Kind) {ps qs : Options} → Reordered ps qs → are_once ps ≡ true → command_of k ps ≡ command_of k qs
command_stays kind.Exec r once =
    rw (value_stays (codes "workers") r once, value_stays (codes "batches") r once, value_stays (codes "store") r once, value_stays (codes "journal") r once) refl
command_stays kind.Ingest r once = rw (value_stays (codes "form") r once, value_stays (codes "store") r once, value_stays (codes "journal") r once) refl
command_stays kind.Audit r once = rw (value_stays (codes "store") r once, value_stays (codes "journal") r once) refl
command_stays kind.Demo r once = rw (value_stays (codes "seed") r once, value_stays (codes "events") r once, value_stays (codes "workers") r once) refl
command_stays kind.Serve r once =
    rw (value_stays (codes "port") r once, value_stays (codes "connections") r once, value_stays (codes "workers") r once, value_stays (codes "batches") r once, value_stays (codes "store") r once, value_stays (codes "journal") r once) refl

checked_by : (k : Kind) (a b c : Bool) {ps qs : Options} → Reordered ps qs → are_once ps ≡ b → a ≡ c
    → option_and_then (command_of k) (cond (a && b) (Some ps) None) ≡ option_and_then (command_of k) (cond (c && b) (Some qs) None)
checked_by k true true true r once e = command_stays k r once
checked_by k true false true r once e = refl
checked_by k false b false r once e = refl
checked_by k true b false r once e = absurd (true≢false e)
checked_by k false b true r once e = absurd (true≢false (sym e))

checked_stays : (k : Kind) {ps qs : Options} → Reordered ps qs → option_and_then (command_of k) (checked (takes k) ps) ≡ option_and_then (command_of k) (checked (takes k) qs)
checked_stays k {ps} {qs} r =
    checked_by k (list_all (λ p. takes k p.0) ps) (are_once ps) (list_all (λ p. takes k p.0) qs) r refl (all_stay (takes k) r)
    ∙ ap (λ b. option_and_then (command_of k) (cond (list_all (λ p. takes k p.0) qs && b) (Some qs) None)) (once_stays r)

after_stays : (k : Kind) (ws vs : List Text) (ps qs : Options) → options ws ≡ Some ps → options vs ≡ Some qs → Reordered ps qs → command_after ws k ≡ command_after vs k
after_stays k ws vs ps qs e f r = rw (e, f) (checked_stays k r)

by_kind : (o : Option Kind) (ws vs : List Text) (ps qs : Options) → options ws ≡ Some ps → options vs ≡ Some qs → Reordered ps qs
    → option_and_then (command_after ws) o ≡ option_and_then (command_after vs) o
by_kind None ws vs ps qs e f r = refl
by_kind (Some k) ws vs ps qs e f r = after_stays k ws vs ps qs e f r

pub order_stays : OrderIsFree
order_stays word ws vs ps qs e f r = by_kind (kind_named word) ws vs ps qs e f r
