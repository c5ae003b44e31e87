-- What one stop leaves of a disk in memory.
use Rattle.std.proofs.Common.{◌≡◌, ◌⊎◌, inl, inr, ℕ, zero, suc, ◌+◌, ◌<◌, ◌≤◌, List, [], ◌∷◌, length, take, get_or, refl, sym, subst, ◌∙◌, arith, add-one}
use Rattle.std.specs.Prelude.{Result, Ok, Err, IfOk}
use Rattle.std.proofs.lemmas.Bool.{cases_lt}
use Rattle.dw_outside.specs.Disks.{DiskState, MayLeave, IsLoose}
use Rattle.dw_outside.specs.MemoryDisks.{IsLeft, IsFilled}
use Rattle.dw_outside.specs.declared.mem_disk.Leave.{Leave}
use Rattle.dw_outside.specs.declared.mem_disk.Leave.TheVariants.{Old, New, Byte}

abbrev In : ℕ × ℕ → ℕ → Type 0
In range place = (range.0 ≤ place) × (place < range.1)

in_or_not : (range : ℕ × ℕ) (place : ℕ) → In range place ⊎ (In range place → ⊥)
in_or_not range place = elim (cases_lt place range.0) [
  | inl lt ↦ inr (λ both. absurd (omega (arith, lt, both.0)))
  | inr ge ↦ elim (cases_lt place range.1) [
    | inl below ↦ inl (ge, below)
    | inr past ↦ inr (λ both. absurd (omega (arith, past, both.1)))
  ]
]

loose_or_not : (ranges : List (ℕ × ℕ)) (place : ℕ) → IsLoose ranges place ⊎ (IsLoose ranges place → ⊥)
loose_or_not [] place = inr (λ none. none)
loose_or_not (range ∷ ranges) place = elim (in_or_not range place) [
  | inl here ↦ inl (inl here)
  | inr out ↦ elim (loose_or_not ranges place) [
    | inl there ↦ inl (inr there)
    | inr none ↦ inr (λ some. elim some [ inl here ↦ out here | inr there ↦ none there ])
  ]
]

filled_among : (byte : ℕ) (s : DiskState) (c : List ℕ) → MayLeave s s.seen → IsFilled byte s c → MayLeave s c
filled_among byte s c stands left = record {
  no_shorter = omega (arith, stands.no_shorter, left.size);
  no_longer = omega (arith, stands.no_longer, left.size);
  same = λ place within. elim (loose_or_not s.loose place) [
    | inl loose ↦ inl loose
    | inr stable ↦ elim (stands.same place within) [
      | inl loose ↦ inl loose
      | inr kept ↦ inr (left.stable place stable ∙ kept)
    ]
  ];
}

-- what a stop leaves is among what it may leave
pub left_among : (leave : Leave) (s : DiskState) (c : List ℕ) → MayLeave s s.seen → IsLeft leave s c → MayLeave s c
left_among Old s c stands left = subst (λ (l : List ℕ). MayLeave s l) (sym left) (record {
  no_shorter = omega arith;
  no_longer = omega (arith, stands.no_shorter, stands.no_longer);
  same = λ place within. inr refl;
})
left_among New s c stands left = subst (λ (l : List ℕ). MayLeave s l) (sym left) stands
left_among (Byte byte) s c stands left = filled_among byte s c stands left

-- the first ranges and one more

loose_of : (ranges : List (ℕ × ℕ)) (i : ℕ) (range : ℕ × ℕ) (place : ℕ) → i < length ranges → range ≡ get_or ranges i range → IsLoose (take (suc i) ranges) place → IsLoose (take i ranges) place ⊎ In range place
loose_of [] i range place lt is loose = absurd (omega (arith, lt))
loose_of (r ∷ ranges) zero range place lt is (inl here) = inr (subst (λ (x : ℕ × ℕ). In x place) (sym is) here)
loose_of (r ∷ []) zero range place lt is (inr there) = absurd there
loose_of (r ∷ s ∷ ranges) zero range place lt is (inr there) = absurd there
loose_of (r ∷ ranges) (suc i) range place lt is (inl here) = inl (inl here)
loose_of (r ∷ ranges) (suc i) range place lt is (inr there) = elim (loose_of ranges i range place (omega (arith, lt)) is there) [
  | inl before ↦ inl (inr before)
  | inr here ↦ inr here
]

loose_before : (ranges : List (ℕ × ℕ)) (i place : ℕ) → IsLoose (take i ranges) place → IsLoose (take (suc i) ranges) place
loose_before [] zero place loose = absurd loose
loose_before [] (suc i) place loose = absurd loose
loose_before (r ∷ ranges) zero place loose = absurd loose
loose_before (r ∷ ranges) (suc i) place (inl here) = inl here
loose_before (r ∷ ranges) (suc i) place (inr there) = inr (loose_before ranges i place there)

loose_last : (ranges : List (ℕ × ℕ)) (i : ℕ) (range : ℕ × ℕ) (place : ℕ) → i < length ranges → range ≡ get_or ranges i range → In range place → IsLoose (take (suc i) ranges) place
loose_last [] i range place lt is here = absurd (omega (arith, lt))
loose_last (r ∷ ranges) zero range place lt is here = inl (subst (λ (x : ℕ × ℕ). In x place) is here)
loose_last (r ∷ ranges) (suc i) range place lt is here = inr (loose_last ranges i range place (omega (arith, lt)) is here)

-- the list with the places of the first ranges filled
pub record FilledBy (ranges : List (ℕ × ℕ)) (byte : ℕ) (first now : List ℕ) : Type 0 where
  pub inside : (place : ℕ) → place < length now → IsLoose ranges place → get_or now place 0 ≡ byte
  pub outside : (place : ℕ) → (IsLoose ranges place → ⊥) → get_or now place 0 ≡ get_or first place 0

pub filled_more : (ranges : List (ℕ × ℕ)) (i : ℕ) (range : ℕ × ℕ) (byte : ℕ) (first old now : List ℕ) → i < length ranges → range ≡ get_or ranges i range → length now ≡ length old
    → ((place : ℕ) → place < length now → range.0 ≤ place → place < range.1 → get_or now place 0 ≡ byte)
    → ((place : ℕ) → ((range.0 ≤ place) × (place < range.1) → ⊥) → get_or now place 0 ≡ get_or old place 0)
    → ((place : ℕ) → place < length old → IsLoose (take i ranges) place → get_or old place 0 ≡ byte)
    → ((place : ℕ) → (IsLoose (take i ranges) place → ⊥) → get_or old place 0 ≡ get_or first place 0)
    → FilledBy (take (i + 1) ranges) byte first now
filled_more ranges i range byte first old now lt is size fills keeps inside outside =
    subst (λ (n : ℕ). FilledBy (take n ranges) byte first now) (sym (add-one i)) (record {
      inside = λ place within loose. elim (in_or_not range place) [
        | inl here ↦ fills place within here.0 here.1
        | inr out ↦ elim (loose_of ranges i range place lt is loose) [
          | inl before ↦ keeps place out ∙ inside place (omega (arith, within, size)) before
          | inr here ↦ absurd (out here)
        ]
      ];
      outside = λ place stable. keeps place (λ here. stable (loose_last ranges i range place lt is here)) ∙ outside place (λ before. stable (loose_before ranges i place before));
    })

pub ok_among : {T E : Type 0} (bytes : T → List ℕ) (leave : Leave) (s : DiskState) (result : Result T E) → MayLeave s s.seen → IfOk result (λ t. IsLeft leave s (bytes t)) → IfOk result (λ t. MayLeave s (bytes t))
ok_among bytes leave s (Ok t) stands left = left_among leave s (bytes t) stands left
ok_among bytes leave s (Err e) stands left = left
