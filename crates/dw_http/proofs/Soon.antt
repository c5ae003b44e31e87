-- A conversation goes on.
use Rattle.std.proofs.Common.{◌≡◌, ◌<◌, ◌≤◌, ◌+◌, ◌∙◌, ℕ, Bool, true, false, cond, List, [], ◌∷◌, ◌++◌, drop, refl, sym, ap, subst, append_assoc, append-nil, length-append, zero-add, arith, inl, inr}
use Rattle.std.specs.Prelude.{Option, Some, None, IfSome, IfNone, is_none, is_some, not}
use Rattle.std.specs.Io.KnownBytes.{append_known, prepend_known, IsAtEnd}
use Rattle.dw_outside.specs.Faults.{Rose}
use Rattle.dw_outside.specs.Links.{Meaning}
use Rattle.dw_http.specs.Held.{Held, StoppedBy, Gathered}
use Rattle.dw_http.specs.declared.intake.Stop.{Stop}
use Rattle.dw_http.specs.declared.intake.Stop.TheVariants.{Ended, TooMuch, ReadFault}
use Rattle.dw_http.specs.Messages.{Ask, Takes, Begins}
use Rattle.dw_http.specs.Talks.{joined, Answered, Wrote, Starts, most_bytes}
use Rattle.dw_http.specs.Turns.{Goes, SoFar}
use Rattle.dw_http.proofs.More.{begins_more, begins_next, prepend_both, append_both, told}

-- a count that rose from a later value rose from an earlier one
pub rose_before : (a b c : ℕ) → a ≤ b → Rose b c → Rose a c
rose_before a b c h k = omega arith

pub stopped_before : (stop : Option Stop) (budget : ℕ) (lost : List ℕ) (before now after : Meaning) → before.reading.faults ≤ now.reading.faults → StoppedBy stop budget lost now after → StoppedBy stop budget lost before after
stopped_before None budget lost before now after le s = s
stopped_before (Some Ended) budget lost before now after le s = s
stopped_before (Some TooMuch) budget lost before now after le s = s
stopped_before (Some ReadFault) budget lost before now after le s = (s.0, rose_before before.reading.faults now.reading.faults after.reading.faults le s.1)

-- two times that bytes were taken, one after the other
pub gathered_then : (before : Meaning) (old mid : Held) (now : Meaning) (new : Held) (after : Meaning) → mid.stop ≡ None → Gathered before old mid now → Gathered now mid new after → Gathered before old new after
gathered_then before old mid now new after going first second =
    let kept : first.lost ≡ [] = subst (λ (s : Option Stop). StoppedBy s mid.budget first.lost before now) going first.stopped in
    record {
      piece = first.piece ++ second.piece;
      lost = second.lost;
      bytes = second.bytes ∙ ap (λ xs. xs ++ second.piece) first.bytes ∙ append_assoc old.bytes first.piece second.piece;
      budget = omega (arith, first.budget, second.budget, length-append first.piece second.piece);
      reading = first.reading ∙ ap (λ xs. prepend_known (first.piece ++ xs) now.reading.bytes) kept
          ∙ ap (λ xs. prepend_known xs now.reading.bytes) (append-nil first.piece)
          ∙ ap (prepend_known first.piece) second.reading
          ∙ prepend_both first.piece (second.piece ++ second.lost) after.reading.bytes
          ∙ ap (λ xs. prepend_known xs after.reading.bytes) (sym (append_assoc first.piece second.piece second.lost));
      counted = omega (arith, first.counted, second.counted);
      writing = second.writing ∙ first.writing;
      stopped = stopped_before new.stop new.budget second.lost before now after first.counted second.stopped;
    }

-- more was taken after what went before
pub goes_then : (before : Meaning) (old mid : Held) (now : Meaning) (new : Held) (after : Meaning) → mid.stop ≡ None → Goes before old mid now → Gathered now mid new after → Goes before old new after
goes_then before old mid now new after going (inl same) g =
    inr (
      ap (λ (h : Held). h.stop) (sym same.0) ∙ going,
      subst (λ (m : Meaning). Gathered m old new after) same.1 (subst (λ (h : Held). Gathered now h new after) same.0 g),
    )
goes_then before old mid now new after going (inr more) g = inr (more.0, gathered_then before old mid now new after going more.1 g)

none_of : (stop : Option Stop) → is_some stop ≡ false → stop ≡ None
none_of None e = refl
none_of (Some s) e = absurd (cc)

pub none_by : (seen stop : Option Stop) (answer : Bool) → seen ≡ stop → is_some seen ≡ not answer → answer ≡ true → stop ≡ None
none_by seen stop answer is by told = sym is ∙ none_of seen (by ∙ ap not told)

-- each time that more is taken, less may be taken, or no more is
pub falls : (before : Meaning) (old new : Held) (after : Meaning) → old.stop ≡ None → Gathered before old new after → IfNone new.stop (new.budget < old.budget) → new.budget + cond (is_none new.stop) 1 0 < old.budget + cond (is_none old.stop) 1 0
falls before old new after going g less =
    subst (λ (s : Option Stop). new.budget + cond (is_none new.stop) 1 0 < old.budget + cond (is_none s) 1 0) (sym going) (go new.stop less)
  where
    go : (stop : Option Stop) → IfNone stop (new.budget < old.budget) → new.budget + cond (is_none stop) 1 0 < old.budget + 1
    go None h = omega arith
    go (Some s) h = omega (arith, g.budget)

module _ {H : Type 0} (answers : H → Ask → List ℕ → H → Type 0) (stays : H → H → Type 0) where
  pub answered_next : (asks : List Ask) (texts : List (List ℕ)) (start mid state : H) (ask : Ask) (text : List ℕ) → Answered answers stays start asks texts mid → answers mid ask text state
      → Answered answers stays start (asks ++ ask ∷ []) (texts ++ text ∷ []) state
  answered_next [] [] start mid state ask text h a = (state, subst (λ (s : H). answers s ask text state) h a, refl)
  answered_next [] (t ∷ texts) start mid state ask text h a = absurd h
  answered_next (b ∷ asks) [] start mid state ask text h a = absurd h
  answered_next (b ∷ asks) (t ∷ texts) start mid state ask text h a = (h.0, h.1, answered_next asks texts h.0 mid state ask text h.2 a)

  -- what is written stays where no byte is
  pub wrote_still : (before : Meaning) (start : H) (asks : List Ask) (now after : Meaning) (state : H) → after.writing ≡ now.writing → Wrote answers stays before start asks [] now state → Wrote answers stays before start asks [] after state
  wrote_still before start asks now after state same w = record { texts = w.texts; answered = w.answered; written = ap (λ s. s.bytes) same ∙ w.written }

  -- more was taken
  pub so_far_goes : (before : Meaning) (start : H) (asks : List Ask) (old : Held) (now : Meaning) (state : H) (new : Held) (after : Meaning) → Goes now old new after → SoFar answers stays before start asks old now state → SoFar answers stays before start asks new after state
  so_far_goes before start asks old now state new after (inl same) s =
      subst (λ (m : Meaning). SoFar answers stays before start asks new m state) (sym same.1) (subst (λ (h : Held). SoFar answers stays before start asks h now state) (sym same.0) s)
  so_far_goes before start asks old now state new after (inr more) s =
      let g : Gathered now old new after = more.1 in
      let kept : s.lost ≡ [] = subst (λ (t : Option Stop). StoppedBy t old.budget s.lost before now) more.0 s.stopped in
      record {
        taken = s.taken ++ g.piece;
        lost = g.lost;
        begins = subst (λ xs. Begins (s.taken ++ g.piece) asks xs) (sym g.bytes) (begins_more asks s.taken g.piece old.bytes s.begins);
        count = omega (arith, s.count, g.budget, length-append s.taken g.piece);
        reading = s.reading ∙ ap (λ xs. prepend_known (s.taken ++ xs) now.reading.bytes) kept
            ∙ ap (λ xs. prepend_known xs now.reading.bytes) (append-nil s.taken)
            ∙ ap (prepend_known s.taken) g.reading
            ∙ prepend_both s.taken (g.piece ++ g.lost) after.reading.bytes
            ∙ ap (λ xs. prepend_known xs after.reading.bytes) (sym (append_assoc s.taken g.piece g.lost));
        stopped = stopped_before new.stop new.budget g.lost before now after s.read_counted g.stopped;
        read_counted = omega (arith, s.read_counted, g.counted);
        write_counted = omega (arith, s.write_counted, ap (λ t. t.faults) g.writing);
        wrote = wrote_still before start asks now after state g.writing s.wrote;
      }

  joined_next : (texts : List (List ℕ)) (text : List ℕ) → joined (texts ++ text ∷ []) ≡ joined texts ++ text
  joined_next [] text = append-nil text
  joined_next (t ∷ texts) text = ap (λ xs. t ++ xs) (joined_next texts text) ∙ sym (append_assoc t (joined texts) text)

  -- one more response was written
  pub wrote_next : (before : Meaning) (start : H) (asks : List Ask) (now : Meaning) (mid : H) (after : Meaning) (state : H) (ask : Ask) (text : List ℕ) → Wrote answers stays before start asks [] now mid
      → answers mid ask text state → after.writing.bytes ≡ append_known now.writing.bytes text → Wrote answers stays before start (asks ++ ask ∷ []) [] after state
  wrote_next before start asks now mid after state ask text w a sent = record {
    texts = w.texts ++ text ∷ [];
    answered = answered_next asks w.texts start mid state ask text w.answered a;
    written = sent ∙ ap (λ k. append_known k text) w.written
        ∙ append_both before.writing.bytes (joined w.texts ++ []) text
        ∙ ap (append_known before.writing.bytes) (ap (λ xs. xs ++ text) (append-nil (joined w.texts)) ∙ sym (joined_next w.texts text) ∙ sym (append-nil (joined (w.texts ++ text ∷ []))));
  }

  -- one more message was answered
  pub so_far_next : (before : Meaning) (start : H) (asks : List Ask) (held : Held) (now : Meaning) (mid : H) (count : ℕ) (after : Meaning) (state : H) (ask : Ask) (text : List ℕ) → SoFar answers stays before start asks held now mid
      → Takes held.bytes ask (drop count held.bytes) → ask.close ≡ false → answers mid ask text state → after.writing.bytes ≡ append_known now.writing.bytes text → now.writing.faults ≤ after.writing.faults → after.reading ≡ now.reading
      → SoFar answers stays before start (asks ++ ask ∷ []) (record held { bytes = drop count held.bytes }) after state
  so_far_next before start asks held now mid count after state ask text s t goes a sent counted same = record {
    taken = s.taken;
    lost = s.lost;
    begins = begins_next asks s.taken held.bytes (drop count held.bytes) ask s.begins t goes;
    count = s.count;
    reading = s.reading ∙ ap (λ r. prepend_known (s.taken ++ s.lost) r.bytes) (sym same);
    stopped = stopped_side held.stop held.budget s.lost before now after same s.stopped;
    read_counted = omega (arith, s.read_counted, ap (λ r. r.faults) same);
    write_counted = omega (arith, s.write_counted, counted);
    wrote = wrote_next before start asks now mid after state ask text s.wrote a sent;
  }
    where
      stopped_side : (stop : Option Stop) (budget : ℕ) (lost : List ℕ) (before now after : Meaning) → after.reading ≡ now.reading → StoppedBy stop budget lost before now → StoppedBy stop budget lost before after
      stopped_side None budget lost before now after same h = h
      stopped_side (Some Ended) budget lost before now after same h = (h.0, subst (λ r. IsAtEnd r.bytes) (sym same) h.1)
      stopped_side (Some TooMuch) budget lost before now after same h = h
      stopped_side (Some ReadFault) budget lost before now after same h = (h.0, subst (λ r. Rose before.reading.faults r.faults) (sym same) h.1)

  -- the asks so far are the first of the input
  pub starts_so_far : (before : Meaning) (start : H) (asks : List Ask) (held : Held) (now : Meaning) (state : H) → SoFar answers stays before start asks held now state → IfSome before.reading.bytes (λ input. Starts input asks)
  starts_so_far before start asks held now state s =
      told before.reading.bytes now.reading.bytes (s.taken ++ s.lost) (λ input. Starts input asks) s.reading
      (λ left. inl (held.bytes ++ (s.lost ++ left), subst (λ xs. Begins xs asks (held.bytes ++ (s.lost ++ left))) (sym (append_assoc s.taken s.lost left)) (begins_more asks s.taken (s.lost ++ left) held.bytes s.begins)))

  -- nothing was taken yet
  pub so_far_start : (before : Meaning) (start : H) (held : Held) → held.bytes ≡ [] → held.budget ≡ most_bytes → held.stop ≡ None → SoFar answers stays before start [] held before start
  so_far_start before start held empty all going = record {
    taken = [];
    lost = [];
    begins = empty;
    count = zero-add held.budget ∙ all;
    reading = prepend_nothing before.reading.bytes;
    stopped = subst (λ (s : Option Stop). StoppedBy s held.budget [] before before) (sym going) refl;
    read_counted = omega arith;
    write_counted = omega arith;
    wrote = record { texts = []; answered = refl; written = append_nothing before.writing.bytes };
  }
    where
      prepend_nothing : (known : Option (List ℕ)) → known ≡ prepend_known [] known
      prepend_nothing None = refl
      prepend_nothing (Some xs) = refl

      append_nothing : (known : Option (List ℕ)) → known ≡ append_known known []
      append_nothing None = refl
      append_nothing (Some xs) = ap Some (sym (append-nil xs))
