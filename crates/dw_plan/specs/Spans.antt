-- Which keys of an index a leaf reads.
use Rattle.std.specs.Prelude.{ℕ, ◌+◌, ◌==◌, ◌&&◌, not, nat_eq, Bool, List, [], ◌∷◌, ◌++◌, take, if◌then◌else◌}
use Rattle.std.specs.List.{starts_with}
use Rattle.dw_key.specs.KeyCode.{escaped, part_code}
use Rattle.dw_derive.specs.Meta.{bit}
use Rattle.dw_event.specs.Texts.{is_same}
use Rattle.dw_event.specs.declared.days.Days.{Days}
use Rattle.dw_eval.specs.Leaves.{is_above, is_below}
use Rattle.dw_plan.specs.declared.wanted.Wanted.{Wanted}
use Rattle.dw_plan.specs.declared.wanted.Wanted.TheVariants.{Equal, Between, Front}

-- the value of a row is wanted
abbrev pub is_wanted : Wanted → List ℕ → Bool
is_wanted (Equal value) row = is_same row value.now
is_wanted (Between low low_edge high high_edge) row = is_above row low.now low_edge && is_below row high.now high_edge
is_wanted (Front front) row = starts_with nat_eq row front.now

abbrev pub past_byte : ℕ → List ℕ → List ℕ
past_byte b [] = if b == 255 then [] else (b + 1) ∷ []
past_byte b (c ∷ cs) = b ∷ c ∷ cs

-- the first bytes past all that begin with these, or none where nothing is past them
abbrev pub past : List ℕ → List ℕ
past [] = []
past (b ∷ bs) = past_byte b (past bs)

-- with 0 the first key of a row, and with 1 the first key past it
abbrev pub row_edge : List ℕ → ℕ → List ℕ
row_edge row last = escaped row ++ 0 ∷ last ∷ []

-- the keys of a row and a field whose qualifier begins with a text
abbrev pub day_front : List ℕ → List ℕ → List ℕ → List ℕ
day_front row field day = part_code row ++ (part_code field ++ escaped day)

-- an equality reads its row, its field and its days; a range its rows; a text at the front the rows that begin with it
abbrev pub span_from : List ℕ → Days → Wanted → List ℕ
span_from field days (Equal value) = day_front value.now field days.first
span_from field days (Between low low_edge high high_edge) = row_edge low.now (bit (not low_edge))
span_from field days (Front front) = escaped front.now

abbrev pub span_before : List ℕ → Days → Wanted → List ℕ
span_before field days (Equal value) = past (day_front value.now field (take 8 days.last))
span_before field days (Between low low_edge high high_edge) = row_edge high.now (bit high_edge)
span_before field days (Front front) = past (escaped front.now)
