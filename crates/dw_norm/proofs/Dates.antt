-- The order of dates.
use Rattle.std.proofs.Common.{◌≡◌, ℕ, ◌/◌, ◌%◌, ◌^◌, ◌<◌, ◌≤◌, Bool, true, false, cond, List, [], ◌∷◌, ◌++◌, Option, Some, None, refl, sym, ap, ◌∙◌, arith, append_assoc}
use Rattle.std.specs.Ordering.{nat_cmp, ordering_then}
use Rattle.std.specs.Option.{option_map}
use Rattle.std.specs.Cmp.Lexicographic.{slice_cmp}
use Rattle.std.proofs.lemmas.Option.{none-some, same_Some}
use Rattle.dw_norm.specs.Digits.{decimal}
use Rattle.dw_norm.specs.Calendar.{Day, Moment, IsDay, IsMoment, day_number, instant, moment_at}
use Rattle.dw_norm.specs.Dates.{moment_text, instant_of, is_date, norm_date}
use Rattle.dw_norm.specs.Laws.{InstantsKeepOrder}
use Rattle.dw_norm.proofs.Orders.{then_Equal, ordering_then-assoc, by_parts}
use Rattle.dw_norm.proofs.Addresses.{digits_decide}
use Rattle.dw_norm.proofs.DayNumbers.{by_year_month_day, moments_told, month_days-le}

right_first : (a b c d e f g : List ℕ) → a ++ b ++ c ++ d ++ e ++ f ++ g ≡ a ++ (b ++ (c ++ (d ++ (e ++ (f ++ g)))))
right_first a b c d e f g = simp append_assoc

-- the parts of a text of a moment, each in front of what follows it
text_parts : (m : Moment) → moment_text m ≡ decimal 4 m.day.year ++ (45 ∷ (decimal 2 m.day.month ++ (45 ∷ (decimal 2 m.day.day ++ (84 ∷ (decimal 2 (m.second / 3600) ++ (58 ∷ (decimal 2 (m.second / 60 % 60) ++ (58 ∷ (decimal 2 (m.second % 60) ++ 90 ∷ []))))))))))
unfolding moment_text
text_parts m = right_first (decimal 4 m.day.year) (45 ∷ decimal 2 m.day.month) (45 ∷ decimal 2 m.day.day) (84 ∷ decimal 2 (m.second / 3600)) (58 ∷ decimal 2 (m.second / 60 % 60)) (58 ∷ decimal 2 (m.second % 60)) (90 ∷ [])

day_order : (d e : Day) → IsDay d → IsDay e → d.year ≤ 9999 → e.year ≤ 9999 → (us vs : List ℕ) → slice_cmp nat_cmp (decimal 4 d.year ++ (45 ∷ (decimal 2 d.month ++ (45 ∷ (decimal 2 d.day ++ us))))) (decimal 4 e.year ++ (45 ∷ (decimal 2 e.month ++ (45 ∷ (decimal 2 e.day ++ vs))))) ≡ ordering_then (nat_cmp (day_number d) (day_number e)) (slice_cmp nat_cmp us vs)
day_order d e h k d_year e_year us vs =
    let rest = slice_cmp nat_cmp us vs in
    let d_day : d.day < 10 ^ 2 = omega (arith, h.day_to, month_days-le d.year d.month) in
    let e_day : e.day < 10 ^ 2 = omega (arith, k.day_to, month_days-le e.year e.month) in
    digits_decide 4 d.year e.year _ _ (omega arith) (omega arith)
    ∙ ap (ordering_then (nat_cmp d.year e.year)) (digits_decide 2 d.month e.month _ _ (omega (arith, h.month_to)) (omega (arith, k.month_to)))
    ∙ ap (λ o. ordering_then (nat_cmp d.year e.year) (ordering_then (nat_cmp d.month e.month) o)) (digits_decide 2 d.day e.day us vs d_day e_day)
    ∙ ap (ordering_then (nat_cmp d.year e.year)) (sym (ordering_then-assoc (nat_cmp d.month e.month) (nat_cmp d.day e.day) rest))
    ∙ sym (ordering_then-assoc (nat_cmp d.year e.year) (ordering_then (nat_cmp d.month e.month) (nat_cmp d.day e.day)) rest)
    ∙ ap (λ o. ordering_then o rest) (by_year_month_day d e h k)

second_order : (s t : ℕ) → s < 86_400 → t < 86_400 → slice_cmp nat_cmp (decimal 2 (s / 3600) ++ (58 ∷ (decimal 2 (s / 60 % 60) ++ (58 ∷ (decimal 2 (s % 60) ++ 90 ∷ []))))) (decimal 2 (t / 3600) ++ (58 ∷ (decimal 2 (t / 60 % 60) ++ (58 ∷ (decimal 2 (t % 60) ++ 90 ∷ []))))) ≡ nat_cmp s t
second_order s t p q =
    digits_decide 2 (s / 3600) (t / 3600) _ _ (omega arith) (omega arith)
    ∙ ap (ordering_then (nat_cmp (s / 3600) (t / 3600))) (digits_decide 2 (s / 60 % 60) (t / 60 % 60) _ _ (omega arith) (omega arith))
    ∙ ap (λ o. ordering_then (nat_cmp (s / 3600) (t / 3600)) (ordering_then (nat_cmp (s / 60 % 60) (t / 60 % 60)) o)) (digits_decide 2 (s % 60) (t % 60) (90 ∷ []) (90 ∷ []) (omega arith) (omega arith) ∙ then_Equal (nat_cmp (s % 60) (t % 60)))
    ∙ ap (ordering_then (nat_cmp (s / 3600) (t / 3600))) (by_parts (s / 60 % 60) (t / 60 % 60) (s % 60) (t % 60) 60 (omega arith) (omega arith) (s % 3600) (t % 3600) (omega arith) (omega arith))
    ∙ by_parts (s / 3600) (t / 3600) (s % 3600) (t % 3600) 3600 (omega arith) (omega arith) s t (omega arith) (omega arith)

text_order : (m n : Moment) → IsMoment m → IsMoment n → slice_cmp nat_cmp (moment_text m) (moment_text n) ≡ nat_cmp (instant m) (instant n)
text_order m n h k =
    (λ i. slice_cmp nat_cmp (text_parts m i) (text_parts n i))
    ∙ day_order m.day n.day h.is_day k.is_day h.year_to k.year_to _ _
    ∙ ap (ordering_then (nat_cmp (day_number m.day) (day_number n.day))) (second_order m.second n.second h.second_to k.second_to)
    ∙ by_parts (day_number m.day) (day_number n.day) m.second n.second 86_400 h.second_to k.second_to (instant m) (instant n) (omega arith) (omega arith)

-- a normal form is the text of a moment that has the instant
pub record IsTextAt (t : ℕ) (x : List ℕ) : Type 0 where
  pub moment : Moment
  pub valid : IsMoment moment
  pub at : instant moment ≡ t
  pub text : moment_text moment ≡ x

from_map : (t : ℕ) (x : List ℕ) (o : Option Moment) → moment_at t ≡ o → option_map moment_text o ≡ Some x → IsTextAt t x
from_map t x None e h = absurd (none-some x h)
from_map t x (Some m) e h = let told = (moments_told t m).0 e in record { moment = m; valid = told.0; at = told.1; text = same_Some (moment_text m) x h }

pub read_text : (raw x : List ℕ) → norm_date raw ≡ Some x → IsTextAt (instant_of raw) x
unfolding norm_date
read_text raw x e = by (is_date raw) e
  where
    by : (b : Bool) → cond b (option_map moment_text (moment_at (instant_of raw))) None ≡ Some x → IsTextAt (instant_of raw) x
    by true h = from_map (instant_of raw) x (moment_at (instant_of raw)) refl h
    by false h = absurd (none-some x h)

pub slice_cmp-dates : InstantsKeepOrder
slice_cmp-dates a b x y h k =
    let p = read_text a x h in
    let q = read_text b y k in
    (λ i. slice_cmp nat_cmp (sym p.text i) (sym q.text i))
    ∙ text_order p.moment q.moment p.valid q.valid
    ∙ (λ i. nat_cmp (p.at i) (q.at i))
