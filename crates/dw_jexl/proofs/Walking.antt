-- The walk over the tokens, one after another.
use Rattle.std.proofs.Common.{◌≡◌, ℕ, ◌+◌, ◌<◌, ◌≤◌, Bool, true, false, cond, List, length, drop, get_or, refl, sym, ap, ◌∙◌, subst}
use Rattle.std.proofs.lemmas.List.{drop_more, drop_all}
use Rattle.std.specs.Prelude.{nat_lt}
use Rattle.dw_jexl.specs.declared.token.Token.{Token}
use Rattle.dw_jexl.specs.declared.depth.Step.{Step}
use Rattle.dw_jexl.specs.declared.depth.Step.TheVariants.{On, Ended}
use Rattle.dw_jexl.specs.Depth.{Place, Next, Goes, Ends, next, is_deep_then, is_deep_from}
use Rattle.dw_jexl.specs.Walks.{Leads}

pub walk_goes_on : (w : Place) (ts : List Token) (i : ℕ) (d : Token) → i < length ts → is_deep_from w (drop i ts) ≡ is_deep_then (next w (get_or ts i d)) (λ v. is_deep_from v (drop (i + 1) ts))
unfolding is_deep_from
walk_goes_on w ts i d h = ap (is_deep_from w) (drop_more ts i d h)

pub walk_ends : (n : Next) (w : Place) (follows : Place → Bool) → Leads n Ended w → is_deep_then n follows ≡ false
walk_ends Ends w follows h = refl
walk_ends (Goes v) w follows h = absurd h

pub walk_is_over : (n : Next) (w : Place) (follows : Place → Bool) → Leads n On w → nat_lt 64 (w.open_levels + w.run) ≡ true → is_deep_then n follows ≡ true
walk_is_over Ends w follows h e = absurd h
walk_is_over (Goes v) w follows h e = let f : nat_lt 64 (v.open_levels + v.run) ≡ true = ap (λ u. nat_lt 64 (u.open_levels + u.run)) (sym h) ∙ e in ap (λ b. cond b true (follows v)) f

pub walk_is_on : (n : Next) (w : Place) (follows : Place → Bool) → Leads n On w → nat_lt 64 (w.open_levels + w.run) ≡ false → is_deep_then n follows ≡ follows w
walk_is_on Ends w follows h e = absurd h
walk_is_on (Goes v) w follows h e = let f : nat_lt 64 (v.open_levels + v.run) ≡ false = ap (λ u. nat_lt 64 (u.open_levels + u.run)) (sym h) ∙ e in ap (λ b. cond b true (follows v)) f ∙ ap follows (sym h)

pub walk_at_end : (w : Place) (ts : List Token) (i : ℕ) → length ts ≤ i → is_deep_from w (drop i ts) ≡ false
unfolding is_deep_from
walk_at_end w ts i h = ap (is_deep_from w) (drop_all i ts h)

step_at : (w : Place) (ts : List Token) (i : ℕ) (t : Token) (deep : Bool) → i < length ts → t ≡ get_or ts i t → is_deep_from w (drop i ts) ≡ deep → is_deep_then (next w t) (λ v. is_deep_from v (drop (i + 1) ts)) ≡ deep
step_at w ts i t deep h e d = ap (λ u. is_deep_then (next w u) (λ v. is_deep_from v (drop (i + 1) ts))) e ∙ sym (walk_goes_on w ts i t h) ∙ d

pub deep_ended : (w v : Place) (ts : List Token) (i : ℕ) (t : Token) (s : Step) (deep : Bool) → i < length ts → t ≡ get_or ts i t → is_deep_from w (drop i ts) ≡ deep → Leads (next w t) s v → s ≡ Ended → false ≡ deep
deep_ended w v ts i t s deep h e d l is =
    sym (walk_ends (next w t) v (λ u. is_deep_from u (drop (i + 1) ts)) (subst (λ r. Leads (next w t) r v) is l)) ∙ step_at w ts i t deep h e d

pub deep_over : (w v : Place) (ts : List Token) (i : ℕ) (t : Token) (s : Step) (deep : Bool) → i < length ts → t ≡ get_or ts i t → is_deep_from w (drop i ts) ≡ deep → Leads (next w t) s v → s ≡ On → nat_lt 64 (v.open_levels + v.run) ≡ true → true ≡ deep
deep_over w v ts i t s deep h e d l is over =
    sym (walk_is_over (next w t) v (λ u. is_deep_from u (drop (i + 1) ts)) (subst (λ r. Leads (next w t) r v) is l) over) ∙ step_at w ts i t deep h e d

pub deep_on : (w v : Place) (ts : List Token) (i : ℕ) (t : Token) (s : Step) (deep : Bool) → i < length ts → t ≡ get_or ts i t → is_deep_from w (drop i ts) ≡ deep → Leads (next w t) s v → s ≡ On → nat_lt 64 (v.open_levels + v.run) ≡ false → is_deep_from v (drop (i + 1) ts) ≡ deep
deep_on w v ts i t s deep h e d l is over =
    sym (walk_is_on (next w t) v (λ u. is_deep_from u (drop (i + 1) ts)) (subst (λ r. Leads (next w t) r v) is l) over) ∙ step_at w ts i t deep h e d
