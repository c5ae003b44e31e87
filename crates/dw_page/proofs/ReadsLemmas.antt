-- Reads, and then more.
use Rattle.std.proofs.Common.{◌≡◌, ◌++◌, ◌∷◌, [], ℕ, List, Option, Some, None, map, refl, ap, sym, ◌∙◌, ◌≤◌, ◌+◌, append_assoc, append-nil, length-append, length, take, arith}
use Rattle.std.proofs.lemmas.List.{map-append, length-map}
use Rattle.std.proofs.Math.Seq.{take-append_seam}
use Rattle.dw_event.specs.declared.reports.Shown.{Shown}
use Rattle.dw_outside.specs.declared.cell.Reading.{Reading}
use Rattle.dw_outside.specs.Reads.{with_read, with_reads}
use Rattle.dw_plan.specs.Reads.{Adds, is_of_index}
use Rattle.dw_plan.proofs.Making.{adds_same}
use Rattle.dw_scan.specs.declared.ask.Resume.{Resume}
use Rattle.dw_page.specs.Reads.{shard_read, count_before, Opens, ReadsPage}
use Rattle.dw_page.specs.Remains.{shards_of}
use Rattle.dw_page.specs.declared.mark.MarkPlace.{MarkPlace}
use Rattle.dw_page.specs.Marks.{walked, resume_in, lined}

reads_none : (o : Option (List Reading)) → o ≡ with_reads o []
reads_none None = refl
reads_none (Some rs) = ap Some (sym (append-nil rs))

reads_then : (o : Option (List Reading)) (xs ys : List Reading) → with_reads (with_reads o xs) ys ≡ with_reads o (xs ++ ys)
reads_then None xs ys = refl
reads_then (Some rs) xs ys = ap Some (append_assoc rs xs ys)

abbrev read_of : Resume → Reading
read_of r = shard_read r.shard

pub opens_none : (o : Option (List Reading)) (waiting : List Resume) → Opens o o waiting waiting
opens_none o waiting = record { first = []; parts = refl; reads = reads_none o }

pub opens_more : (before now new : Option (List Reading)) (waiting rest last : List Resume) → Opens before now waiting rest → Opens now new rest last → Opens before new waiting last
opens_more before now new waiting rest last a b = record {
  first = a.first ++ b.first;
  parts = a.parts ∙ ap (λ xs. a.first ++ xs) b.parts ∙ sym (append_assoc a.first b.first last);
  reads = b.reads ∙ ap (λ o. with_reads o (map read_of b.first)) a.reads ∙ reads_then before (map read_of a.first) (map read_of b.first) ∙ ap (with_reads before) (sym (map-append read_of a.first b.first));
}

pub opens_still : (before now : Option (List Reading)) (waiting rest last : List Resume) → last ≡ rest → Opens before now waiting rest → Opens before now waiting last
opens_still before now waiting rest last e o = record { first = o.first; parts = o.parts ∙ ap (λ xs. o.first ++ xs) (sym e); reads = o.reads }

-- one more shard is read
pub opens_one : (before now new : Option (List Reading)) (waiting left rest : List Resume) (r : Resume) → Opens before now waiting left → left ≡ r ∷ rest → new ≡ with_read now (shard_read r.shard) → Opens before new waiting rest
opens_one before now new waiting left rest r o l e = opens_more before now new waiting left rest o record { first = r ∷ []; parts = l; reads = e }

reads_of_shards : (rs : List Resume) → map read_of rs ≡ map shard_read (map (λ (r : Resume). r.shard) rs)
reads_of_shards [] = refl
reads_of_shards (r ∷ rs) = ap (λ xs. read_of r ∷ xs) (reads_of_shards rs)

pub shards_lined : (start : Option MarkPlace) (shards : List (List ℕ)) → map (λ (r : Resume). r.shard) (map (resume_in start) shards) ≡ shards
shards_lined start [] = refl
shards_lined start (k ∷ shards) = ap (λ xs. k ∷ xs) (shards_lined start shards)

taken_first : (xs ys zs : List (List ℕ)) → zs ≡ xs ++ ys → take (length xs) zs ≡ xs
taken_first xs ys zs e = ap (take (length xs)) e ∙ take-append_seam xs ys

-- the reads of a page that opened the first of the shards that waited
pub reads_page : (before planned now : Option (List Reading)) (waiting rest : List Resume) (start : Option MarkPlace) (hits : List (List ℕ)) (workers : ℕ) (past : List Shown)
    → Adds is_of_index before planned → Opens planned now waiting rest → waiting ≡ lined start hits
    → ((next : Shown) (later : List Shown) → past ≡ next ∷ later → length waiting ≤ length rest + (count_before next.shard (shards_of waiting) + workers))
    → ReadsPage before now (walked start hits) workers past
reads_page before planned now waiting rest start hits workers past a o w near =
    let first = shards_of o.first in
    let all : shards_of waiting ≡ walked start hits = ap shards_of w ∙ shards_lined start (walked start hits) in
    let parts : walked start hits ≡ first ++ shards_of rest = sym all ∙ ap shards_of o.parts ∙ map-append (λ (r : Resume). r.shard) o.first rest in
    let long : length waiting ≡ length o.first + length rest = ap length o.parts ∙ length-append o.first rest in
    let count : length first ≡ length o.first = length-map o.first (λ (r : Resume). r.shard) in
    record {
      planned = planned;
      index = a;
      count = length first;
      within = let whole : length (walked start hits) ≡ length first + length (shards_of rest) = ap length parts ∙ length-append first (shards_of rest) in omega arith;
      reads = o.reads ∙ ap (with_reads planned) (reads_of_shards o.first ∙ ap (map shard_read) (sym (taken_first first (shards_of rest) (walked start hits) parts)));
      near = λ next later e. let most = near next later e in let same : count_before next.shard (shards_of waiting) ≡ count_before next.shard (walked start hits) = ap (count_before next.shard) all in omega arith;
    }

-- nothing is read
pub unread_page : (before now : Option (List Reading)) (workers : ℕ) (past : List Shown) → now ≡ before → ReadsPage before now [] workers past
unread_page before now workers past e = record {
  planned = before;
  index = adds_same is_of_index before;
  count = 0;
  within = omega arith;
  reads = e ∙ reads_none before;
  near = λ next later h. omega arith;
}
