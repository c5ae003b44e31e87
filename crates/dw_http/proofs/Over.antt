-- A conversation ends.
use Rattle.std.proofs.Common.{◌≡◌, ◌<◌, ◌≤◌, ◌∙◌, ◌⊎◌, ℕ, Bool, true, false, List, [], ◌∷◌, ◌++◌, length, take, drop, refl, sym, ap, subst, append_assoc, append-nil, length-append, arith, inl, inr}
use Rattle.std.specs.Prelude.{Option, Some, IfSome, Err, Result}
use Rattle.std.specs.Io.KnownBytes.{append_known, IsAtEnd}
use Rattle.std.proofs.lemmas.List.{take-append-drop, take-append-le, length-take}
use Rattle.dw_outside.specs.Faults.{Rose}
use Rattle.dw_outside.specs.Links.{Meaning}
use Rattle.httparse.specs.Grammar.{RequestHead, ReadsRequest, NeverHasRequest}
use Rattle.dw_http.specs.Heads.{Stands, NoneStands, max_head}
use Rattle.dw_http.specs.Held.{Held, StoppedBy}
use Rattle.dw_http.specs.Messages.{Ask, Takes, Begins, Closed, EndsAt, EndsInBody, End, done, bad, IsOpen, size_of}
use Rattle.dw_http.specs.Talks.{joined, Starts, Concludes, Exceeds, Stopped, Conversed}
use Rattle.dw_http.specs.Texts.{last_reply}
use Rattle.dw_http.specs.Turns.{SoFar, Refuses}
use Rattle.dw_http.specs.declared.intake.Stop.{Stop}
use Rattle.dw_http.specs.declared.intake.Stop.TheVariants.{Ended as AtEnd, TooMuch as Spent, ReadFault as Failed}
use Rattle.dw_http.specs.declared.why.HttpWhy.{HttpWhy}
use Rattle.dw_http.specs.declared.why.HttpWhy.TheVariants.{Head}
use Rattle.dw_http.specs.declared.talk.Ended.{Ended}
use Rattle.dw_http.specs.declared.talk.Ended.TheVariants.{Done, ReadFault, WriteFault, BadHttp, TooMuch, OutOfMemory}
use Rattle.dw_http.proofs.Heads.{stands_more, none_front}
use Rattle.dw_http.proofs.More.{begins_more, begins_next, closed_next, closed_more, told, told_end, told_both, append_both}
use Rattle.dw_http.proofs.Soon.{rose_before, wrote_next, wrote_still, starts_so_far, answered_next}

-- how bytes end, whatever follows them

pub refused_ends : (bytes more : List ℕ) (h : RequestHead) (rest : List ℕ) (why : HttpWhy) → Stands bytes h rest → size_of h ≡ Err why → EndsAt (bytes ++ more) (bad why)
refused_ends bytes more h rest why s e =
    inr (inr (h, rest ++ more, stands_more bytes h rest more s, subst (λ (r : Result ℕ HttpWhy). EndsInBody r (rest ++ more) (bad why)) (sym e) refl))

pub none_more : (bytes more : List ℕ) → max_head < length bytes → NoneStands bytes → NoneStands (bytes ++ more)
none_more bytes more long none =
    none_front (bytes ++ more) (λ h rest s. none h (rest ++ drop max_head bytes)
    (subst (λ xs. Stands xs h (rest ++ drop max_head bytes)) (take-append-drop max_head bytes)
    (stands_more (take max_head bytes) h rest (drop max_head bytes) (subst (λ xs. Stands xs h rest) (take-append-le max_head bytes more (omega arith)) s))))

pub never_ends : (bytes more : List ℕ) → 0 < length bytes → NeverHasRequest (take max_head bytes) → EndsAt (bytes ++ more) (bad Head)
never_ends bytes more some never =
    let whole : bytes ++ more ≡ take max_head bytes ++ (drop max_head bytes ++ more) = sym (sym (append_assoc (take max_head bytes) (drop max_head bytes) more) ∙ ap (λ xs. xs ++ more) (take-append-drop max_head bytes)) in
    inr (inl (
      omega (arith, length-append bytes more),
      λ h rest s. never (drop max_head bytes ++ more) h rest (subst (λ xs. ReadsRequest xs h rest) whole s.reads),
      inr (refl, (take max_head bytes, drop max_head bytes ++ more, whole, length_take max_head bytes, λ next h r. never next h [] r)),
    ))
  where
    length_take : (n : ℕ) (xs : List ℕ) → length (take n xs) ≤ n
    length_take n xs = omega (arith, length-take n xs)

module _ {H : Type 0} (answers : H → Ask → List ℕ → H → Type 0) (stays : H → H → Type 0) where
  -- the first bytes tell the end, whatever follows
  pub concludes_so_far : (before : Meaning) (start : H) (asks : List Ask) (held : Held) (now : Meaning) (state : H) (end : End) → SoFar answers stays before start asks held now state
      → ((more : List ℕ) → EndsAt (held.bytes ++ more) end) → IfSome before.reading.bytes (λ input. Concludes input asks end)
  concludes_so_far before start asks held now state end s ends =
      told before.reading.bytes now.reading.bytes (s.taken ++ s.lost) (λ input. Concludes input asks end) s.reading
      (λ left. record {
        taken = s.taken;
        rest = s.lost ++ left;
        input_is = append_assoc s.taken s.lost left;
        few = omega (arith, s.count);
        told = inr (λ more. inl (held.bytes ++ more, begins_more asks s.taken more held.bytes s.begins, ends more));
      })

  -- the input is at its end
  pub concludes_at_end : (before : Meaning) (start : H) (asks : List Ask) (held : Held) (now : Meaning) (state : H) (end : End) → SoFar answers stays before start asks held now state
      → held.stop ≡ Some AtEnd → EndsAt held.bytes end → IfSome before.reading.bytes (λ input. Concludes input asks end)
  concludes_at_end before start asks held now state end s stop ends =
      let by : (s.lost ≡ []) × IsAtEnd now.reading.bytes = subst (λ (t : Option Stop). StoppedBy t held.budget s.lost before now) stop s.stopped in
      told_end before.reading.bytes now.reading.bytes (s.taken ++ s.lost) (λ input. Concludes input asks end) s.reading by.1
      (record {
        taken = s.taken;
        rest = [];
        input_is = ap (λ xs. s.taken ++ xs) by.0;
        few = omega (arith, s.count);
        told = inl (refl, inl (held.bytes, s.begins, ends));
      })

  -- the connection ends after a message
  pub done_so_far : (before : Meaning) (start : H) (asks : List Ask) (held : Held) (now : Meaning) (state : H) (ask : Ask) (left : List ℕ) → SoFar answers stays before start asks held now state
      → Takes held.bytes ask left → ask.close ≡ true → IfSome before.reading.bytes (λ input. Concludes input (asks ++ ask ∷ []) done)
  done_so_far before start asks held now state ask left s t closes =
      told before.reading.bytes now.reading.bytes (s.taken ++ s.lost) (λ input. Concludes input (asks ++ ask ∷ []) done) s.reading
      (λ rest. record {
        taken = s.taken;
        rest = s.lost ++ rest;
        input_is = append_assoc s.taken s.lost rest;
        few = omega (arith, s.count);
        told = inr (λ more. inr (closed_more s.taken more (asks ++ ask ∷ []) (closed_next asks s.taken held.bytes left ask s.begins t closes), refl));
      })

  -- the asks so far and one more are the first of the input
  pub starts_next : (before : Meaning) (start : H) (asks : List Ask) (held : Held) (now : Meaning) (state : H) (ask : Ask) (left : List ℕ) → SoFar answers stays before start asks held now state
      → Takes held.bytes ask left → IfSome before.reading.bytes (λ input. Starts input (asks ++ ask ∷ []))
  starts_next before start asks held now state ask left s t = go ask.close refl
    where
      go : (b : Bool) → ask.close ≡ b → IfSome before.reading.bytes (λ input. Starts input (asks ++ ask ∷ []))
      go true e = told before.reading.bytes now.reading.bytes (s.taken ++ s.lost) (λ input. Starts input (asks ++ ask ∷ [])) s.reading
          (λ rest. inr (subst (λ xs. Closed xs (asks ++ ask ∷ [])) (sym (append_assoc s.taken s.lost rest)) (closed_more s.taken (s.lost ++ rest) (asks ++ ask ∷ []) (closed_next asks s.taken held.bytes left ask s.begins t e))))
      go false e = told before.reading.bytes now.reading.bytes (s.taken ++ s.lost) (λ input. Starts input (asks ++ ask ∷ [])) s.reading
          (λ rest. inl (left ++ (s.lost ++ rest), subst (λ xs. Begins xs (asks ++ ask ∷ []) (left ++ (s.lost ++ rest))) (sym (append_assoc s.taken s.lost rest)) (begins_more (asks ++ ask ∷ []) s.taken (s.lost ++ rest) left (begins_next asks s.taken held.bytes left ask s.begins t e))))

  -- no memory, before an ask was answered
  pub wanted_still : (before : Meaning) (start : H) (asks : List Ask) (held : Held) (now after : Meaning) (state : H) → after.writing ≡ now.writing → SoFar answers stays before start asks held now state → Conversed answers stays before start OutOfMemory after state
  wanted_still before start asks held now after state same s = record {
    asks = asks;
    mid = state;
    wrote = wrote_still answers stays before start asks now after state same s.wrote;
    starts = starts_so_far answers stays before start asks held now state s;
    next = inl refl;
  }

  -- no memory, in the answer to an ask
  pub wanted_next : (before : Meaning) (start : H) (asks : List Ask) (held : Held) (now : Meaning) (mid state : H) (left : List ℕ) → SoFar answers stays before start asks held now mid
      → (state ≡ mid) ⊎ ((ask : Ask) × Takes held.bytes ask left × (stays mid state ⊎ ((text : List ℕ) × answers mid ask text state))) → Conversed answers stays before start OutOfMemory now state
  wanted_next before start asks held now mid state left s how = record {
    asks = asks;
    mid = mid;
    wrote = s.wrote;
    starts = starts_so_far answers stays before start asks held now mid s;
    next = elim how [ inl same ↦ inl same | inr more ↦ inr (more.0, starts_next before start asks held now mid more.0 left s more.1, more.2) ];
  }

  -- the last reply is written, or not
  pub refused : (before : Meaning) (start : H) (asks : List Ask) (held : Held) (now : Meaning) (state : H) (why : HttpWhy) (ended : Ended) (after : Meaning) → SoFar answers stays before start asks held now state
      → IfSome before.reading.bytes (λ input. Concludes input asks (bad why)) → Refuses now why ended after → Conversed answers stays before start ended after state
  refused before start asks held now state why (BadHttp w) after s c r = (
    asks,
    record { texts = s.wrote.texts; answered = s.wrote.answered; written = r.1 ∙ ap (λ k. append_known k (last_reply why)) (s.wrote.written ∙ ap (append_known before.writing.bytes) (append-nil (joined s.wrote.texts))) ∙ append_both before.writing.bytes (joined s.wrote.texts) (last_reply why) ∙ ap (λ (x : HttpWhy). append_known before.writing.bytes (joined s.wrote.texts ++ last_reply x)) (sym r.0) },
    subst (λ (x : HttpWhy). IfSome before.reading.bytes (λ input. Concludes input asks (bad x))) (sym r.0) c,
  )
  refused before start asks held now state why WriteFault after s c r = (
    record {
      asks = asks;
      texts = s.wrote.texts;
      answered = s.wrote.answered;
      sent = s.wrote.texts;
      last = last_reply why;
      count = r.1.0;
      written = r.1.1 ∙ ap (λ k. append_known k (take r.1.0 (last_reply why))) (s.wrote.written ∙ ap (append_known before.writing.bytes) (append-nil (joined s.wrote.texts))) ∙ append_both before.writing.bytes (joined s.wrote.texts) (take r.1.0 (last_reply why));
      which = inr (refl, (why, refl, c));
    },
    rose_before before.writing.faults now.writing.faults after.writing.faults s.write_counted r.0,
  )
  refused before start asks held now state why OutOfMemory after s c r = wanted_still before start asks held now after state (ap (λ (m : Meaning). m.writing) r) s
  refused before start asks held now state why Done after s c r = absurd r
  refused before start asks held now state why ReadFault after s c r = absurd r
  refused before start asks held now state why TooMuch after s c r = absurd r

  -- a write failed in a response
  pub wrote_less : (before : Meaning) (start : H) (asks : List Ask) (held : Held) (now : Meaning) (mid : H) (left : List ℕ) (ask : Ask) (text : List ℕ) (count : ℕ) (after : Meaning) (state : H) → SoFar answers stays before start asks held now mid
      → Takes held.bytes ask left → answers mid ask text state → Rose now.writing.faults after.writing.faults → after.writing.bytes ≡ append_known now.writing.bytes (take count text) → Conversed answers stays before start WriteFault after state
  wrote_less before start asks held now mid left ask text count after state s t a rose sent = (
    record {
      asks = asks ++ ask ∷ [];
      texts = s.wrote.texts ++ text ∷ [];
      answered = answered_next answers stays asks s.wrote.texts start mid state ask text s.wrote.answered a;
      sent = s.wrote.texts;
      last = text;
      count = count;
      written = sent ∙ ap (λ k. append_known k (take count text)) (s.wrote.written ∙ ap (append_known before.writing.bytes) (append-nil (joined s.wrote.texts))) ∙ append_both before.writing.bytes (joined s.wrote.texts) (take count text);
      which = inl (refl, starts_next before start asks held now mid ask left s t);
    },
    rose_before before.writing.faults now.writing.faults after.writing.faults s.write_counted rose,
  )

  -- a message was answered after which the connection ends
  pub done_next : (before : Meaning) (start : H) (asks : List Ask) (held : Held) (now : Meaning) (mid : H) (left : List ℕ) (ask : Ask) (text : List ℕ) (after : Meaning) (state : H) → SoFar answers stays before start asks held now mid
      → Takes held.bytes ask left → ask.close ≡ true → answers mid ask text state → after.writing.bytes ≡ append_known now.writing.bytes text → Conversed answers stays before start Done after state
  done_next before start asks held now mid left ask text after state s t closes a sent =
      (asks ++ ask ∷ [], wrote_next answers stays before start asks now mid after state ask text s.wrote a sent, done_so_far before start asks held now mid ask left s t closes)

  -- the input ended between messages
  pub done_at_end : (before : Meaning) (start : H) (asks : List Ask) (held : Held) (now : Meaning) (state : H) → held.stop ≡ Some AtEnd → held.bytes ≡ [] → SoFar answers stays before start asks held now state → Conversed answers stays before start Done now state
  done_at_end before start asks held now state stop none s =
      (asks, s.wrote, concludes_at_end before start asks held now state done s stop (inl (none, refl)))

  -- the link failed in reading
  pub failed : (before : Meaning) (start : H) (asks : List Ask) (held : Held) (now : Meaning) (state : H) (end : End) → held.stop ≡ Some Failed → EndsAt held.bytes end → SoFar answers stays before start asks held now state → Conversed answers stays before start ReadFault now state
  failed before start asks held now state end stop ends s =
      let by : (s.lost ≡ []) × Rose before.reading.faults now.reading.faults = subst (λ (t : Option Stop). StoppedBy t held.budget s.lost before now) stop s.stopped in (
        asks,
        s.wrote,
        by.1,
        told_both before.reading.bytes now.reading.bytes (s.taken ++ s.lost) (λ input left. Stopped input left asks) s.reading
            (λ left. record { taken = s.taken; input_is = ap (λ xs. (s.taken ++ xs) ++ left) by.0 ∙ ap (λ xs. xs ++ left) (append-nil s.taken); end = end; messages = inl (held.bytes, s.begins, ends) }),
      )

  -- all that may be taken was taken, and more is there
  pub spent : (before : Meaning) (start : H) (asks : List Ask) (held : Held) (now : Meaning) (state : H) → held.stop ≡ Some Spent → IsOpen held.bytes → SoFar answers stays before start asks held now state → Conversed answers stays before start TooMuch now state
  spent before start asks held now state stop is_open s =
      let by : (held.budget ≡ 0) × (0 < length s.lost) = subst (λ (t : Option Stop). StoppedBy t held.budget s.lost before now) stop s.stopped in (
        asks,
        s.wrote,
        told before.reading.bytes now.reading.bytes (s.taken ++ s.lost) (λ input. Exceeds input asks) s.reading
            (λ left. record {
              taken = s.taken;
              rest = s.lost ++ left;
              input_is = append_assoc s.taken s.lost left;
              all = omega (arith, s.count, by.0);
              more = omega (arith, by.1, length-append s.lost left);
              left = held.bytes;
              begins = s.begins;
              open_end = is_open;
            }),
      )
