-- What a disk in memory holds is among what a stop may leave.
use Rattle.std.proofs.Common.{◌≡◌, ◌⊎◌, inl, inr, ℕ, ◌+◌, ◌-◌, ◌<◌, ◌≤◌, max, List, [], ◌∷◌, ◌++◌, length, take, drop, get_or, refl, sym, subst, ◌∙◌, ap, arith, take-append-drop, length-append, length-take, length-drop}
use Rattle.std.proofs.lemmas.List.{get_or-take, get_or-drop, get_or-append-add}
use Rattle.std.proofs.Math.ListN.{get_or-append}
use Rattle.std.proofs.lemmas.Bool.{cases_lt}
use Rattle.dw_outside.specs.Disks.{DiskState, DiskModel, MayLeave, IsLoose, overlay, moved, wrote_to, wrote, synced, settled}
use Rattle.dw_outside.specs.MemoryDisks.{MemoryDisk, run, memory_model}
use Rattle.dw_outside.specs.declared.mem_disk.Step.{Step}
use Rattle.dw_outside.specs.declared.mem_disk.Step.TheVariants.{Write, Torn, Sync}

pub size : (at : ℕ) (bytes seen : List ℕ) → (length seen ≤ length (overlay at bytes seen)) × (length (overlay at bytes seen) ≤ max (length seen) (at + length bytes))
size at bytes seen =
    let behind = drop (at + length bytes) seen in
    let first = length-append (take at seen) (bytes ++ behind) in
    let second = length-append bytes behind in (
      omega (arith, first, second, length-take at seen, length-drop (at + length bytes) seen),
      omega (arith, first, second, length-take at seen, length-drop (at + length bytes) seen),
    )

before : (at place : ℕ) (bytes seen : List ℕ) → place < at → place < length seen → get_or (overlay at bytes seen) place 0 ≡ get_or seen place 0
before at place bytes seen lt within = get_or-append (take at seen) (bytes ++ drop (at + length bytes) seen) 0 place (omega (arith, lt, within, length-take at seen)) ∙ get_or-take at seen place 0 lt

behind : (at place : ℕ) (bytes seen : List ℕ) → at + length bytes ≤ place → place < length seen → get_or (overlay at bytes seen) place 0 ≡ get_or seen place 0
behind at place bytes seen past within =
    let rest = drop (at + length bytes) seen in
    let k = place - (at + length bytes) in
    let is : place ≡ length (take at seen) + (length bytes + k) = omega (arith, past, within, length-take at seen) in
    let back : at + length bytes + k ≡ place = omega (arith, past) in
    ap (λ (i : ℕ). get_or (overlay at bytes seen) i 0) is
    ∙ get_or-append-add (take at seen) (bytes ++ rest) (length bytes + k) 0
    ∙ get_or-append-add bytes rest k 0
    ∙ get_or-drop (at + length bytes) seen k 0
    ∙ ap (λ (i : ℕ). get_or seen i 0) back

-- so it is after a write, a torn one too
pub stands_written : (at end : ℕ) (bytes : List ℕ) (s : DiskState) → at + length bytes ≤ end → MayLeave s s.seen → MayLeave (wrote_to at bytes end s) (overlay at bytes s.seen)
stands_written at end bytes s short old = record {
  no_shorter = omega (arith, old.no_shorter, (size at bytes s.seen).0);
  no_longer = omega (arith, old.no_longer, (size at bytes s.seen).1, short);
  same = same;
}
  where
    same : (place : ℕ) → place < length s.kept → IsLoose ((at, end) ∷ s.loose) place ⊎ (get_or (overlay at bytes s.seen) place 0 ≡ get_or s.kept place 0)
    same place within = elim (cases_lt place at) [
      | inl lt ↦ goes (before at place bytes s.seen lt (omega (arith, within, old.no_shorter)))
      | inr ge ↦ elim (cases_lt place end) [
        | inl lt ↦ inl (inl (ge, lt))
        | inr past ↦ goes (behind at place bytes s.seen (omega (arith, past, short)) (omega (arith, within, old.no_shorter)))
      ]
    ]
      where
        goes : get_or (overlay at bytes s.seen) place 0 ≡ get_or s.seen place 0 → IsLoose ((at, end) ∷ s.loose) place ⊎ (get_or (overlay at bytes s.seen) place 0 ≡ get_or s.kept place 0)
        goes is = elim (old.same place within) [
          | inl loose ↦ inl (inr loose)
          | inr kept ↦ inr (is ∙ kept)
        ]

pub none_over : (at : ℕ) (seen : List ℕ) → overlay at [] seen ≡ seen
none_over at seen = let none : at + 0 ≡ at = omega arith in ap (λ (n : ℕ). take at seen ++ drop n seen) none ∙ take-append-drop at seen

-- so it is after a write that failed and put nothing
stands_torn : (at end : ℕ) (s : DiskState) → MayLeave s s.seen → MayLeave (wrote_to at [] end s) (overlay at [] s.seen)
stands_torn at end s old = subst (λ (l : List ℕ). MayLeave (wrote_to at [] end s) l) (sym (none_over at s.seen)) (record {
  no_shorter = old.no_shorter;
  no_longer = omega (arith, old.no_longer);
  same = λ place within. elim (old.same place within) [ inl loose ↦ inl (inr loose) | inr kept ↦ inr kept ];
})

pub stands_settled : (bytes : List ℕ) → MayLeave (settled bytes) bytes
stands_settled bytes = record { no_shorter = omega arith; no_longer = omega arith; same = λ place within. inr refl }

stands_run : (written : List ℕ) (m : DiskModel) (steps : List Step) → MayLeave m.now m.now.seen → MayLeave (run written m steps).now (run written m steps).now.seen
stands_run written m [] old = old
stands_run written m (Write at start count ∷ steps) old =
    let bytes = take count (drop start written) in
    stands_run written (moved (wrote at bytes) m) steps (stands_written at (at + length bytes) bytes m.now (omega arith) old)
stands_run written m (Torn at end ∷ steps) old = stands_run written (moved (wrote_to at [] end) m) steps (stands_torn at end m.now old)
stands_run written m (Sync ∷ steps) old = stands_run written (moved synced m) steps (stands_settled m.now.seen)

pub memory_stands : (d : MemoryDisk) → MayLeave (memory_model d).now (memory_model d).now.seen
memory_stands d = stands_run d.written _ d.steps (stands_settled d.first)
