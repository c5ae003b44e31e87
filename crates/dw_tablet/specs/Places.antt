-- Places, which are byte strings, and which of them a tablet covers.
use Rattle.std.specs.Prelude.{◌≡◌, ℕ, List, [], ◌∷◌, ◌++◌, Bool, true, false, cond, not, ◌&&◌, ◌||◌, ◌==◌, filter, take, length, Option, Some, None, unwrap_or}
use Rattle.std.specs.List.{AllByRecursion}
use Rattle.std.specs.Ordering.{nat_cmp, is_lt}
use Rattle.std.specs.Cmp.Lexicographic.{slice_cmp}
use Rattle.dw_key.specs.KeyCode.{escaped, part_code}
use Rattle.dw_tablet.specs.declared.span.Span.{Span}

-- places stand as lists of unsigned bytes
abbrev pub below : List ℕ → List ℕ → Bool
below a b = is_lt (slice_cmp nat_cmp a b)

-- the first place of a shard, which its keys begin with
abbrev pub shard_start : List ℕ → List ℕ
shard_start shard = part_code shard

-- and the first one past them
abbrev pub shard_end : List ℕ → List ℕ
shard_end shard = escaped shard ++ 0 ∷ 1 ∷ []

-- the place is in the span
abbrev pub in_span : Span → List ℕ → Bool
in_span s p = not (below p s.from) && below p s.upto

-- some span has it
abbrev pub covers : List Span → List ℕ → Bool
covers [] p = false
covers (s ∷ ss) p = in_span s p || covers ss p

-- no span is empty, and each ends before the later ones begin
abbrev pub IsApart : List Span → Type 0
IsApart [] = Unit {0}
IsApart (s ∷ ss) = (below s.from s.upto ≡ true) × AllByRecursion (λ t. below s.upto t.from ≡ true) ss × IsApart ss

-- keys ascend strictly
abbrev pub Ascends : List (List ℕ) → Type 0
Ascends [] = Unit {0}
Ascends (k ∷ ks) = AllByRecursion (λ j. below k j ≡ true) ks × Ascends ks

-- keys stand before a place
abbrev pub AreBefore : List ℕ → List (List ℕ) → Type 0
AreBefore end keys = AllByRecursion (λ k. below k end ≡ true) keys

-- and at or after one
abbrev pub AreFrom : List ℕ → List (List ℕ) → Type 0
AreFrom a keys = AllByRecursion (λ k. below k a ≡ false) keys

-- what a tablet keeps: its spans stand apart and within the shard, its keys ascend, and each is covered
pub record IsTablet (end : List ℕ) (spans : List Span) (keys : List (List ℕ)) : Type 0 where
  pub apart : IsApart spans
  pub within : AllByRecursion (λ s. below end s.upto ≡ false) spans
  pub ascends : Ascends keys
  pub covered : AllByRecursion (λ k. covers spans k ≡ true) keys

-- the keys of a shard, which are a content of it: they ascend, and lie in the shard
pub record IsContent (shard : List ℕ) (content : List (List ℕ)) : Type 0 where
  pub ascends : Ascends content
  pub from : AreFrom (shard_start shard) content
  pub before : AreBefore (shard_end shard) content

-- the content has at the covered places the keys, and no others
abbrev pub AgreesAt : List Span → List (List ℕ) → List (List ℕ) → Type 0
AgreesAt spans keys content = filter (λ k. covers spans k) content ≡ keys

-- all places from `a` on and before `b` are covered
abbrev pub CoversAll : List Span → List ℕ → List ℕ → Type 0
CoversAll spans a b = (r : List ℕ) → below r a ≡ false → below r b ≡ true → covers spans r ≡ true

-- the first place at or after `p` that is not covered
pub record IsGap (spans : List Span) (p q : List ℕ) : Type 0 where
  pub after : below q p ≡ false
  pub covered : CoversAll spans p q
  pub missing : covers spans q ≡ false

-- the end of the span that has a place
abbrev pub covered_upto : List Span → List ℕ → Option (List ℕ)
covered_upto [] p = None
covered_upto (s ∷ ss) p = cond (below p s.from) None (cond (below p s.upto) (Some s.upto) (covered_upto ss p))

-- the first place at or after this one that is not covered
abbrev pub gap : List Span → List ℕ → List ℕ
gap spans p = unwrap_or (covered_upto spans p) p

-- the keys from `a` on
abbrev pub onward : List ℕ → List (List ℕ) → List (List ℕ)
onward a = filter (λ k. not (below k a))

-- the keys from `a` on and before `b`
abbrev pub between : List ℕ → List ℕ → List (List ℕ) → List (List ℕ)
between a b = filter (λ k. not (below k a) && below k b)

-- one span for two that meet or touch
abbrev pub joined : Span → Span → Span
joined t s = record { from = cond (below t.from s.from) t.from s.from; upto = cond (below t.upto s.upto) s.upto t.upto }

-- the spans with one more, joined with those that it meets or touches
abbrev pub with_span : List Span → Span → List Span
with_span [] s = s ∷ []
with_span (t ∷ ts) s = cond (below t.upto s.from) (t ∷ with_span ts s) (cond (below s.upto t.from) (s ∷ t ∷ ts) (with_span ts (joined t s)))

-- the same where the new span may stand already
abbrev pub with_open : Option Span → List Span → List Span
with_open None ts = ts
with_open (Some s) ts = with_span ts s

-- the keys of a run in place of those held from `from` on and before `upto`
abbrev pub with_run : List ℕ → List ℕ → List (List ℕ) → List (List ℕ) → List (List ℕ)
with_run from upto run keys = filter (λ k. below k from) keys ++ (run ++ onward upto keys)

-- the first place after the last of some keys
abbrev pub after_last : List ℕ → List (List ℕ) → List ℕ
after_last none [] = none
after_last none (k ∷ ks) = after_last (k ++ 0 ∷ []) ks

abbrev pub after_key : List ℕ → Option (List ℕ) → List ℕ
after_key none None = none
after_key none (Some k) = k ++ 0 ∷ []

-- where a run ends: after its last key if it was cut, and else with the shard
abbrev pub run_end : List ℕ → ℕ → List (List ℕ) → List ℕ
run_end end limit run = cond (not (limit == 0) && (length run == limit)) (after_last end run) end

-- at most so many, where `limit` is not 0
abbrev pub at_most : ℕ → List (List ℕ) → List (List ℕ)
at_most limit keys = cond (limit == 0) keys (take limit keys)

-- the span that a run covers
abbrev pub run_span : List ℕ → List ℕ → ℕ → List (List ℕ) → Span
run_span from end limit run = record { from = from; upto = run_end end limit run }
