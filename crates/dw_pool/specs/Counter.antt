-- What contracts see of a claim counter and of its passes.
use Rattle.std.specs.Prelude.{ℕ, ◌≤◌, List, [], ◌++◌, Option, Some, None, IfSome, option_to_list, refl}
use Rattle.std.specs.Coded.{Coded, code_by, coded×, coded_ℕ, coded_list, coded_option}
use Rattle.atomic_table.specs.Seated.{TableId, table_id_coded}
use Rattle.atomic_table.specs.declared.shared.Seat.{Seat}
use Rattle.dw_pool.specs.declared.drawing.Hand.{Hand}
use Rattle.dw_pool.specs.declared.claims.Claimed.{Claimed}
use Rattle.dw_pool.specs.Numbers.{Climbs}
use Rattle.dw_pool.specs.Drawn.{hand}

-- a counter: which one it is, how many jobs it gives out, and among how many passes
pub record Counter : Type 0 where
  pub id : TableId
  pub jobs : ℕ
  pub passes : ℕ

abbrev pub counter_code : Coded Counter
counter_code =
    code_by (TableId × (ℕ × ℕ)) (coded× table_id_coded (coded× coded_ℕ coded_ℕ)) (λ c. (c.id, (c.jobs, c.passes)))
    (λ p. record { id = p.0; jobs = p.1.0; passes = p.1.1 }) (λ _. refl)

-- a pass: its counter, the numbers that it claimed, in order, and the number past the jobs that it keeps once it was told None
pub record Holding : Type 0 where
  pub counter : Counter
  pub numbers : List ℕ
  pub kept : Option ℕ

abbrev pub holding_code : Coded Holding
holding_code =
    code_by (Counter × (List ℕ × Option ℕ)) (coded× counter_code (coded× (coded_list coded_ℕ) (coded_option coded_ℕ))) (λ p. (p.counter, (p.numbers, p.kept)))
    (λ p. record { counter = p.0; numbers = p.1.0; kept = p.1.1 }) (λ _. refl)

-- a new pass: it claimed nothing, and was not told None
abbrev pub fresh : Counter → Holding
fresh c = record { counter = c; numbers = []; kept = None }

-- all that a pass has drawn
abbrev pub drawn_by : Holding → List ℕ
drawn_by p = p.numbers ++ option_to_list p.kept

-- the list that `close` gives for a pass
abbrev pub claimed_by : Holding → Claimed
claimed_by p = record { numbers = p.numbers }

-- what a seat has drawn, or nothing where there is no seat
abbrev pub held : Option (Seat ℕ Hand) → Hand
held None = hand 0 []
held (Some s) = s.me.0

-- a pass's numbers go up and are below the number of jobs, and what it keeps is not
pub record IsSound (p : Holding) : Type 0 where
  pub climbs : Climbs 0 p.counter.jobs p.numbers
  pub kept_past : IfSome p.kept (λ n. p.counter.jobs ≤ n)
