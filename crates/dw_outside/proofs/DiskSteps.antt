-- One more step joins those of a disk in memory.
use Rattle.std.proofs.Common.{◌≡◌, List, [], ◌∷◌, ◌++◌, ℕ, ◌+◌, ◌^◌, ◌<◌, ◌≤◌, max, length, take, drop, refl, sym, ◌∙◌, ap, arith, length-append, length-drop}
use Rattle.std.proofs.lemmas.List.{take-append-le, drop-append-le, drop_at, take_all}
use Rattle.dw_outside.specs.Faults.{one_more}
use Rattle.dw_outside.specs.Disks.{DiskModel, moved, wrote, wrote_to, synced, overlay}
use Rattle.dw_outside.specs.MemoryDisks.{MemoryDisk, StandsFor, run, replayed, memory_model, named}
use Rattle.dw_outside.specs.DiskStands.{size, none_over}
use Rattle.dw_outside.specs.declared.mem_disk.Step.{Step}
use Rattle.dw_outside.specs.declared.mem_disk.Step.TheVariants.{Write, Torn, Sync}

run_both : (w : List ℕ) (m : DiskModel) (before later : List Step) → run w m (before ++ later) ≡ run w (run w m before) later
run_both w m [] later = refl
run_both w m (Write at start count ∷ before) later = run_both w (moved (wrote at (take count (drop start w))) m) before later
run_both w m (Torn at end ∷ before) later = run_both w (moved (wrote_to at [] end) m) before later
run_both w m (Sync ∷ before) later = run_both w (moved synced m) before later

-- bytes that no step names
run_kept : (w more : List ℕ) (m : DiskModel) (steps : List Step) → named steps ≤ length w → run (w ++ more) m steps ≡ run w m steps
run_kept w more m [] ranged = refl
run_kept w more m (Write at start count ∷ steps) ranged =
    let same : take count (drop start (w ++ more)) ≡ take count (drop start w) =
    ap (λ (l : List ℕ). take count l) (drop-append-le start w more (omega (arith, ranged))) ∙ take-append-le count (drop start w) more (omega (arith, ranged, length-drop start w)) in
    ap (λ (l : List ℕ). run (w ++ more) (moved (wrote at l) m) steps) same ∙ run_kept w more (moved (wrote at (take count (drop start w))) m) steps (omega (arith, ranged))
run_kept w more m (Torn at end ∷ steps) ranged = run_kept w more (moved (wrote_to at [] end) m) steps ranged
run_kept w more m (Sync ∷ steps) ranged = run_kept w more (moved synced m) steps ranged

named_both : (before later : List Step) → named (before ++ later) ≡ max (named before) (named later)
named_both [] later = omega arith
named_both (Write a s c ∷ before) later = omega (arith, named_both before later)
named_both (Torn a e ∷ before) later = named_both before later
named_both (Sync ∷ before) later = named_both before later

pushed_write : (first w bytes : List ℕ) (steps : List Step) (at : ℕ) → named steps ≤ length w
    → replayed first (w ++ bytes) (steps ++ Write at (length w) (length bytes) ∷ []) ≡ moved (wrote at bytes) (replayed first w steps)
pushed_write first w bytes steps at ranged =
    let whole = w ++ bytes in
    let named : take (length bytes) (drop (length w) whole) ≡ bytes =
    ap (λ (l : List ℕ). take (length bytes) l) (drop_at w bytes (length w) refl) ∙ take_all (length bytes) bytes (omega arith) in
    run_both whole _ steps (Write at (length w) (length bytes) ∷ [])
    ∙ ap (λ (l : List ℕ). moved (wrote at l) (replayed first whole steps)) named
    ∙ ap (moved (wrote at bytes)) (run_kept w bytes _ steps ranged)

pushed : (first w : List ℕ) (steps : List Step) (step : Step) → replayed first w (steps ++ step ∷ []) ≡ run w (replayed first w steps) (step ∷ [])
pushed first w steps step = run_both w _ steps (step ∷ [])

-- the disk with other bytes written, steps, and calls
abbrev pub with_steps : MemoryDisk → List ℕ → List Step → ℕ → ℕ → MemoryDisk
with_steps d w steps calls faults = record d { written = w; steps = steps; calls = calls; faults = faults }

pub wrote_model : (d : MemoryDisk) (bytes : List ℕ) (at calls faults : ℕ) (new_w : List ℕ) (new_steps : List Step)
    → named d.steps ≤ length d.written → new_w ≡ d.written ++ bytes → new_steps ≡ d.steps ++ Write at (length d.written) (length bytes) ∷ []
    → memory_model (with_steps d new_w new_steps calls faults) ≡ moved (wrote at bytes) (memory_model d)
wrote_model d bytes at calls faults new_w new_steps ranged more is =
    ap (λ (w : List ℕ). replayed d.first w new_steps) more ∙ ap (λ (steps : List Step). replayed d.first (d.written ++ bytes) steps) is ∙ pushed_write d.first d.written bytes d.steps at ranged

pub torn_model : (d : MemoryDisk) (at end calls faults : ℕ) (new_steps : List Step) → new_steps ≡ d.steps ++ Torn at end ∷ []
    → memory_model (with_steps d d.written new_steps calls faults) ≡ moved (wrote_to at [] end) (memory_model d)
torn_model d at end calls faults new_steps is = ap (λ (steps : List Step). replayed d.first d.written steps) is ∙ pushed d.first d.written d.steps (Torn at end)

pub synced_model : (d : MemoryDisk) (calls faults : ℕ) (new_steps : List Step) → new_steps ≡ d.steps ++ Sync ∷ []
    → memory_model (with_steps d d.written new_steps calls faults) ≡ moved synced (memory_model d)
synced_model d calls faults new_steps is = ap (λ (steps : List Step). replayed d.first d.written steps) is ∙ pushed d.first d.written d.steps Sync

one_step : (steps : List Step) (step : Step) → length (steps ++ step ∷ []) ≡ length steps + 1
one_step steps step = length-append steps (step ∷ [])

module _ (d : MemoryDisk) (seen kept : List ℕ) (loose : List (ℕ × ℕ)) (old : StandsFor d seen kept loose) (calls faults : ℕ) (called : calls ≡ one_more d.calls) (small : d.limit < 2 ^ 32) where
  pub stands_called : StandsFor (record d { calls = calls; faults = faults }) seen kept loose
  stands_called = record {
    seen = old.seen;
    kept = old.kept;
    loose = old.loose;
    ranged = old.ranged;
    counted = omega (arith, old.counted, old.limited, called, small);
    limited = old.limited;
    shorter = old.shorter;
    fewer = old.fewer;
    within = old.within;
  }

  module _ (new_steps : List Step) (left : d.calls < d.limit) where
    pub stands_wrote : (at : ℕ) (bytes new_seen new_w : List ℕ) (new_loose : List (ℕ × ℕ)) → at ≤ length seen → length d.written + length bytes ≤ d.room
        → new_w ≡ d.written ++ bytes → new_steps ≡ d.steps ++ Write at (length d.written) (length bytes) ∷ [] → new_seen ≡ overlay at bytes seen → new_loose ≡ (at, at + length bytes) ∷ loose
        → StandsFor (with_steps d new_w new_steps calls faults) new_seen kept new_loose
    stands_wrote at bytes new_seen new_w new_loose there room more is over ranges =
        let model = wrote_model d bytes at calls faults new_w new_steps old.ranged more is in
        record {
          seen = over ∙ ap (overlay at bytes) old.seen ∙ sym (ap (λ (m : DiskModel). m.now.seen) model);
          kept = old.kept ∙ sym (ap (λ (m : DiskModel). m.now.kept) model);
          loose = ranges ∙ ap (λ (l : List (ℕ × ℕ)). (at, at + length bytes) ∷ l) old.loose ∙ sym (ap (λ (m : DiskModel). m.now.loose) model);
          ranged = omega (arith, old.ranged, ap length more, length-append d.written bytes, ap named is, named_both d.steps (Write at (length d.written) (length bytes) ∷ []));
          counted = omega (arith, old.counted, called, ap length is, one_step d.steps (Write at (length d.written) (length bytes)), left, small);
          limited = omega (arith, old.counted, ap length is, one_step d.steps (Write at (length d.written) (length bytes)), left);
          shorter = omega (arith, old.shorter, there, ap length over, (size at bytes seen).1, ap length more, length-append d.written bytes);
          fewer = omega (arith, old.fewer, ap length ranges, ap length is, one_step d.steps (Write at (length d.written) (length bytes)));
          within = omega (arith, room, ap length more, length-append d.written bytes);
        }

    pub stands_tore : (at end : ℕ) (new_loose : List (ℕ × ℕ)) → new_steps ≡ d.steps ++ Torn at end ∷ [] → new_loose ≡ (at, end) ∷ loose → StandsFor (with_steps d d.written new_steps calls faults) seen kept new_loose
    stands_tore at end new_loose is ranges =
        let model = torn_model d at end calls faults new_steps is in
        record {
          seen = old.seen ∙ sym (none_over at (memory_model d).now.seen) ∙ sym (ap (λ (m : DiskModel). m.now.seen) model);
          kept = old.kept ∙ sym (ap (λ (m : DiskModel). m.now.kept) model);
          loose = ranges ∙ ap (λ (l : List (ℕ × ℕ)). (at, end) ∷ l) old.loose ∙ sym (ap (λ (m : DiskModel). m.now.loose) model);
          ranged = omega (arith, old.ranged, ap named is, named_both d.steps (Torn at end ∷ []));
          counted = omega (arith, old.counted, called, ap length is, one_step d.steps (Torn at end), left, small);
          limited = omega (arith, old.counted, ap length is, one_step d.steps (Torn at end), left);
          shorter = old.shorter;
          fewer = omega (arith, old.fewer, ap length ranges, ap length is, one_step d.steps (Torn at end));
          within = old.within;
        }

    pub stands_synced : (new_kept : List ℕ) (new_loose : List (ℕ × ℕ)) → new_steps ≡ d.steps ++ Sync ∷ [] → new_kept ≡ seen → new_loose ≡ [] → StandsFor (with_steps d d.written new_steps calls faults) seen new_kept new_loose
    stands_synced new_kept new_loose is same none =
        let model = synced_model d calls faults new_steps is in
        record {
          seen = old.seen ∙ sym (ap (λ (m : DiskModel). m.now.seen) model);
          kept = same ∙ old.seen ∙ sym (ap (λ (m : DiskModel). m.now.kept) model);
          loose = none ∙ sym (ap (λ (m : DiskModel). m.now.loose) model);
          ranged = omega (arith, old.ranged, ap named is, named_both d.steps (Sync ∷ []));
          counted = omega (arith, old.counted, called, ap length is, one_step d.steps Sync, left, small);
          limited = omega (arith, old.counted, ap length is, one_step d.steps Sync, left);
          shorter = old.shorter;
          fewer = omega (arith, ap length none);
          within = old.within;
        }
