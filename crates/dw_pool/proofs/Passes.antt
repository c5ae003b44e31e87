-- What a pass keeps true over a draw.
use Rattle.std.proofs.Common.{ℕ, ◌≡◌, ◌-◌, ◌<◌, ◌≤◌, false, List, [], ◌∷◌, ◌++◌, length, refl, ap, sym, ◌∙◌, arith, length-append}
use Rattle.std.specs.Prelude.{Option, Some, None, is_some, option_to_list}
use Rattle.std.specs.List.{All}
use Rattle.std.proofs.lemmas.List.{append-nil}
use Rattle.dw_pool.specs.declared.drawing.Hand.{Hand}
use Rattle.dw_pool.specs.Counter.{Counter, Holding}
use Rattle.dw_pool.specs.Numbers.{Climbs}
use Rattle.dw_pool.specs.Drawn.{hand, drew, past}
use Rattle.dw_pool.proofs.Lists.{climbs_room, past-climbs, climbs_below, climbs_push, room_before}

abbrev Me : Type 0
Me = Hand × List (ℕ × ℕ)

pub none_kept : (kept : Option ℕ) → is_some kept ≡ false → kept ≡ None
none_kept None is = refl
none_kept (Some n) is = absurd (cc)

-- a pass that keeps no number has drawn its numbers and nothing else
pub drawn_so_far : (me : Me) (numbers : List ℕ) (kept : Option ℕ) → me ≡ (hand 1 (numbers ++ option_to_list kept), []) → kept ≡ None → me ≡ (hand 1 numbers, [])
drawn_so_far me numbers kept is none = is ∙ ap (λ k. (hand 1 (numbers ++ option_to_list k), [])) none ∙ ap (λ ns. (hand 1 ns, [])) (append-nil numbers)

pub may_draw : (jobs : ℕ) (me : Me) (numbers : List ℕ) → me ≡ (hand 1 numbers, []) → Climbs 0 jobs numbers → past jobs me.0.drawn < me.0.parts
may_draw jobs me numbers is climbs = rw is (let none = past-climbs 0 jobs numbers climbs in omega arith)

-- the numbers of a pass go up to the number that it draws
pub climbs_to_drawn : (jobs n : ℕ) (me : Me) (numbers : List ℕ) → me ≡ (hand 1 numbers, []) → Climbs 0 jobs numbers → All (λ m. m < n) me.0.drawn → Climbs 0 n numbers
climbs_to_drawn jobs n me numbers is climbs above = climbs_below 0 jobs n numbers (omega arith) climbs (rw is at above)

-- a number below the jobs that is drawn has room in the pass's list
pub drawn_room : (jobs n capacity : ℕ) (me : Me) (numbers : List ℕ) → me ≡ (hand 1 numbers, []) → Climbs 0 jobs numbers → All (λ m. m < n) me.0.drawn → n < jobs → jobs ≤ capacity → length numbers < capacity
drawn_room jobs n capacity me numbers is climbs above less fits =
    let room = climbs_room 0 n numbers (climbs_to_drawn jobs n me numbers is climbs above) in omega arith

-- what a pass has drawn after a number that it claims
pub drawn_claimed : (n : ℕ) (me new : Me) (numbers : List ℕ) (kept : Option ℕ) → me ≡ (hand 1 numbers, []) → kept ≡ None → new ≡ (drew me.0 n, me.1) → new ≡ (hand 1 ((numbers ++ n ∷ []) ++ option_to_list kept), [])
drawn_claimed n me new numbers kept is none drawn =
    drawn ∙ ap (λ m. (drew m.0 n, m.1)) is ∙ sym (ap (λ k. (hand 1 ((numbers ++ n ∷ []) ++ option_to_list k), [])) none ∙ ap (λ ns. (hand 1 ns, [])) (append-nil (numbers ++ n ∷ [])))

pub same_jobs : (p q : Holding) (k l : Counter) → p ≡ q → q.counter ≡ l → k ≡ l → p.counter.jobs ≡ k.jobs
same_jobs p q k l pass mine counter = ap (λ h. h.counter.jobs) pass ∙ ap (λ c. c.jobs) mine ∙ sym (ap (λ c. c.jobs) counter)

pub climbs_claimed : (jobs n : ℕ) (me : Me) (numbers pushed : List ℕ) → me ≡ (hand 1 numbers, []) → Climbs 0 jobs numbers → All (λ m. m < n) me.0.drawn → n < jobs → pushed ≡ numbers ++ n ∷ [] → Climbs 0 jobs pushed
climbs_claimed jobs n me numbers pushed is climbs above less more = rw more (climbs_push 0 n jobs numbers less (climbs_to_drawn jobs n me numbers is climbs above))

-- before a pass claimed one more number there was room for it
pub room_before_claim : (p q : Holding) (n jobs : ℕ) → q ≡ record p { numbers = p.numbers ++ n ∷ [] } → Climbs 0 jobs q.numbers → length p.numbers < jobs
room_before_claim p q n jobs is climbs = room_before p.numbers q.numbers n jobs (ap (λ h. h.numbers) is) climbs

-- each claim leaves fewer numbers
pub left_falls : (p q : Holding) (n top jobs : ℕ) → q ≡ record p { numbers = p.numbers ++ n ∷ [] } → Climbs 0 top q.numbers → top ≡ jobs → jobs - length q.numbers < jobs - length p.numbers
left_falls p q n top jobs is climbs same =
    let before = room_before_claim p q n top is climbs in
    omega (arith, ap length (ap (λ h. h.numbers) is), length-append p.numbers (n ∷ []))
