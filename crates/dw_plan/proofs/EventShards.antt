-- The shard of an event has the name of one.
use Rattle.std.proofs.Common.{◌≡◌, ℕ, zero, suc, ◌+◌, ◌<◌, ◌≤◌, ◌==◌, true, ◌&&◌, List, [], ◌∷◌, ◌++◌, length, take, drop, get_or, refl, sym, ap, ◌∙◌, append_assoc, arith, length-append}
use Rattle.std.specs.Prelude.{nat_le, slice_index, decimal}
use Rattle.std.specs.Fmt.{digits}
use Rattle.std.specs.List.{list_all}
use Rattle.std.specs.Char.{is_ascii_digit}
use Rattle.std.proofs.lemmas.Bool.{and_from, eqb-true, eq-eqb}
use Rattle.std.proofs.lemmas.Bool.Decides.{nat_tests}
use Rattle.std.proofs.lemmas.List.{drop_at}
use Rattle.std.proofs.Math.Seq.{get_or-append_seam}
use Rattle.dw_event.specs.Take.{Event}
use Rattle.dw_derive.specs.Lawful.{record_of, IsEvent}
use Rattle.dw_derive.proofs.Shards.{left, right, KeepsRules, rules_of}
use Rattle.dw_plan.specs.Hit.{is_shard_name}

-- a number below 16 has one digit or two
abbrev Few : ℕ → Type 0
Few n = (nat_le 1 (length (decimal n)) && nat_le (length (decimal n)) 2 && list_all is_ascii_digit (decimal n)) ≡ true

small : (n : ℕ) → n < 16 → Few n
unfolding digits
small zero h = refl
small (suc zero) h = refl
small (suc (suc zero)) h = refl
small (suc (suc (suc zero))) h = refl
small (suc (suc (suc (suc zero)))) h = refl
small (suc (suc (suc (suc (suc zero))))) h = refl
small (suc (suc (suc (suc (suc (suc zero)))))) h = refl
small (suc (suc (suc (suc (suc (suc (suc zero))))))) h = refl
small (suc (suc (suc (suc (suc (suc (suc (suc zero)))))))) h = refl
small (suc (suc (suc (suc (suc (suc (suc (suc (suc zero))))))))) h = refl
small (suc (suc (suc (suc (suc (suc (suc (suc (suc (suc zero)))))))))) h = refl
small (suc (suc (suc (suc (suc (suc (suc (suc (suc (suc (suc zero))))))))))) h = refl
small (suc (suc (suc (suc (suc (suc (suc (suc (suc (suc (suc (suc zero)))))))))))) h = refl
small (suc (suc (suc (suc (suc (suc (suc (suc (suc (suc (suc (suc (suc zero))))))))))))) h = refl
small (suc (suc (suc (suc (suc (suc (suc (suc (suc (suc (suc (suc (suc (suc zero)))))))))))))) h = refl
small (suc (suc (suc (suc (suc (suc (suc (suc (suc (suc (suc (suc (suc (suc (suc zero))))))))))))))) h = refl
small (suc (suc (suc (suc (suc (suc (suc (suc (suc (suc (suc (suc (suc (suc (suc (suc n)))))))))))))))) h = absurd (omega arith)

at_least : (a b : ℕ) → a ≤ b → nat_le a b ≡ true
at_least a b h = grind (arith, nat_tests)

is_le : (a b : ℕ) → nat_le a b ≡ true → a ≤ b
is_le a b h = grind (arith, nat_tests)

spelled_name : (s day number : List ℕ) → s ≡ day ++ 95 ∷ number → day ≡ take 8 s → length day ≡ 8 → list_all is_ascii_digit day ≡ true → 1 ≤ length number → length number ≤ 2 → list_all is_ascii_digit number ≡ true → is_shard_name s ≡ true
spelled_name s day number e front size digits one two more =
    let long : length s ≡ 9 + length number = omega (arith, ap length e, length-append day (95 ∷ number)) in
    let nine : length (day ++ 95 ∷ []) ≡ 9 = omega (arith, size, length-append day (95 ∷ [])) in
    let sign : slice_index s 8 ≡ 95 = ap (λ z. slice_index z 8) e ∙ ap (λ k. get_or (day ++ 95 ∷ number) k 0) (sym size) ∙ get_or-append_seam day 95 number 0 in
    let behind : drop 9 s ≡ number = ap (drop 9) (e ∙ sym (append_assoc day (95 ∷ []) number)) ∙ drop_at (day ++ 95 ∷ []) number 9 nine in
    and_from (nat_le 10 (length s) && nat_le (length s) 11 && list_all is_ascii_digit (take 8 s) && (slice_index s 8 == 95)) (list_all is_ascii_digit (drop 9 s))
    (and_from (nat_le 10 (length s) && nat_le (length s) 11 && list_all is_ascii_digit (take 8 s)) (slice_index s 8 == 95)
    (and_from (nat_le 10 (length s) && nat_le (length s) 11) (list_all is_ascii_digit (take 8 s))
    (and_from (nat_le 10 (length s)) (nat_le (length s) 11) (at_least 10 (length s) (omega (arith, long))) (at_least (length s) 11 (omega (arith, long))))
    (ap (list_all is_ascii_digit) (sym front) ∙ digits))
    (eq-eqb (slice_index s 8) 95 sign))
    (ap (list_all is_ascii_digit) behind ∙ more)

pub event_shard : (e : Event) → IsEvent e → is_shard_name e.0.shard ≡ true
event_shard e h =
    let rules : KeepsRules (record_of e) = rules_of (record_of e) h.rules.rules in
    let day = take 8 e.0.shard in
    let number = decimal h.number in
    let two : ((length day == 8) && list_all is_ascii_digit day) ≡ true = left ((length day == 8) && list_all is_ascii_digit day) _ rules.date in
    let few = small h.number h.shard.below in
    let lengths : (nat_le 1 (length number) && nat_le (length number) 2) ≡ true = left (nat_le 1 (length number) && nat_le (length number) 2) (list_all is_ascii_digit number) few in
    spelled_name e.0.shard day number h.shard.spelled refl (eqb-true (length day) 8 (left (length day == 8) (list_all is_ascii_digit day) two)) (right (length day == 8) (list_all is_ascii_digit day) two)
    (is_le 1 (length number) (left (nat_le 1 (length number)) (nat_le (length number) 2) lengths)) (is_le (length number) 2 (right (nat_le 1 (length number)) (nat_le (length number) 2) lengths))
    (right (nat_le 1 (length number) && nat_le (length number) 2) (list_all is_ascii_digit number) few)
