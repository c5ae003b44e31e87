-- What stands at a gate, from the bytes that were read of it.
use Rattle.std.proofs.Common.{◌≡◌, ◌≢◌, ℕ, ◌+◌, ◌-◌, ◌^◌, ◌<◌, ◌≤◌, min, max, get_or, Option, Some, None, List, [], ◌∷◌, ◌++◌, length, take, drop, refl, sym, ◌∙◌, ap, subst, arith, append_assoc, length-append, take-append-drop, length-take, length-drop}
use Rattle.std.proofs.lemmas.List.{take_all}
use Rattle.dw_outside.specs.declared.cell.Put.{Put}
use Rattle.dw_outside.specs.Disks.{DiskModel, Now}
use Rattle.dw_journal.specs.Frames.{number, text_bytes, body_of, frame_of, IsBatch}
use Rattle.dw_journal.specs.Reading.{IsClosed, IsFramed, IsNoFrame, HasFrame, ShowsFrom}
use Rattle.dw_journal.proofs.Codes.{head, text_split, text_length}

-- a list as long as a front has it
cut_front : (a f rest after : List ℕ) → a ++ rest ≡ f ++ after → length f ≤ length a → (more : List ℕ) × (a ≡ f ++ more)
cut_front a [] rest after is le = (a, refl)
cut_front [] (y ∷ f) rest after is le = absurd (omega (arith, le))
cut_front (x ∷ a) (y ∷ f) rest after is le =
    let next = cut_front a f rest after (ap (drop 1) is) (omega (arith, le)) in
    (next.0, ap (λ (z : ℕ). z ∷ a) (ap head is) ∙ ap (λ (l : List ℕ). y ∷ l) next.1)

pub after_gate : (l : List ℕ) → 1 ≤ length l → l ≡ get_or l 0 0 ∷ take (length l - 1) (drop 1 l)
after_gate [] some = absurd (omega (arith, some))
after_gate (x ∷ xs) some = ap (λ (ys : List ℕ). x ∷ ys) (sym (take_all (length (x ∷ xs) - 1) xs (omega arith)))

pub first_of_some : (l : List ℕ) → (length l ≡ 0 → ⊥) → (g : ℕ) × (more : List ℕ) × (l ≡ g ∷ more)
first_of_some [] some = absurd (some refl)
first_of_some (g ∷ more) some = (g, more, refl)

module _ (rest whole after : List ℕ) (gate left : ℕ) (is : rest ≡ gate ∷ after) (sized : length whole ≡ left) (shown : rest ≡ take (length rest) whole) where
  behind : List ℕ
  behind = drop (length rest) whole

  whole_is : whole ≡ gate ∷ (after ++ drop (length rest) whole)
  whole_is = sym (take-append-drop (length rest) whole) ∙ ap (λ (l : List ℕ). l ++ drop (length rest) whole) (sym shown ∙ is)

  pub is_closed : gate ≢ 1 → IsClosed whole
  is_closed closed = record { gate = gate; more = after ++ drop (length rest) whole; closed = closed; split = whole_is }

  module _ (opened : gate ≡ 1) where
    open_is : whole ≡ 1 ∷ (after ++ drop (length rest) whole)
    open_is = whole_is ∙ ap (λ (g : ℕ). g ∷ (after ++ drop (length rest) whole)) opened

    pub is_framed : (puts : List Put) (body more : List ℕ) → IsBatch puts → body ≡ body_of puts → after ≡ text_bytes body ++ more → (length more ≡ 0 → ⊥) → IsFramed puts whole
    is_framed puts body more lawful same split some =
        let first = first_of_some more some in
        let front = text_bytes body in
        record {
          lawful = lawful;
          gate = first.0;
          more = first.1 ++ drop (length rest) whole;
          split = open_is ∙ ap (λ (l : List ℕ). 1 ∷ (l ++ drop (length rest) whole)) split ∙ ap (λ (l : List ℕ). 1 ∷ l) (append_assoc front more (drop (length rest) whole))
              ∙ ap (λ (l : List ℕ). 1 ∷ (front ++ (l ++ drop (length rest) whole))) first.2 ∙ ap (λ (b : List ℕ). 1 ∷ (text_bytes b ++ first.0 ∷ (first.1 ++ drop (length rest) whole))) same;
        }

    module _ (some : min 10 left ≤ length rest) (enough : HasFrame rest left) where
      -- a frame that stands there is seen whole
      seen : (puts : List Put) (g : ℕ) (more : List ℕ) → IsBatch puts → after ++ drop (length rest) whole ≡ frame_of puts ++ g ∷ more → (m : List ℕ) × (after ≡ frame_of puts ++ g ∷ m)
      seen puts g more lawful spelled =
          let body = body_of puts in
          let n = length body in
          let size : length (frame_of puts ++ g ∷ more) ≡ 8 + n + 1 + length more = omega (arith, length-append (frame_of puts) (g ∷ more), text_length body) in
          let long : n + 10 ≤ left = omega (arith, sized, ap length open_is, ap length spelled, size) in
          let seen_ten : 9 ≤ length after = omega (arith, some, long, ap length is) in
          let counted = cut_front after (number n) (drop (length rest) whole) (body ++ g ∷ more) (spelled ∙ append_assoc (number n) body (g ∷ more)) (omega (arith, seen_ten)) in
          let reached = enough n counted.0 lawful.small (is ∙ ap (λ (b : ℕ). b ∷ after) opened ∙ ap (λ (l : List ℕ). 1 ∷ l) counted.1) long in
          let front = frame_of puts ++ g ∷ [] in
          let found = cut_front after front (drop (length rest) whole) more (spelled ∙ sym (append_assoc (frame_of puts) (g ∷ []) more)) (omega (arith, reached, ap length is, length-append (frame_of puts) (g ∷ []), text_length body)) in
          (found.0, found.1 ∙ append_assoc (frame_of puts) (g ∷ []) found.0)

      is_no_frame : ((puts : List Put) (g : ℕ) (m : List ℕ) → IsBatch puts → after ≡ frame_of puts ++ g ∷ m → ⊥) → IsNoFrame whole
      is_no_frame none = record {
        more = after ++ drop (length rest) whole;
        split = open_is;
        none = λ puts g more lawful spelled. (let found = seen puts g more lawful spelled in none puts g found.0 lawful found.1);
      }

      -- no bytes behind a count stand there
      pub no_text : ((text more : List ℕ) → length text < 2 ^ 64 → after ≡ text_bytes text ++ more → ⊥) → IsNoFrame whole
      no_text none = is_no_frame (λ puts g m lawful spelled. none (body_of puts) (g ∷ m) lawful.small spelled)

      -- the file ends before the next gate
      pub no_gate : (body more : List ℕ) → length body < 2 ^ 64 → after ≡ text_bytes body ++ more → length more ≡ 0 → IsNoFrame whole
      no_gate body more small split none = is_no_frame (λ puts g m lawful spelled.
          (let parts = text_split body (body_of puts) more (g ∷ m) small lawful.small (sym split ∙ spelled) in absurd (omega (arith, none, ap length parts.1))))

      -- the body is none
      pub no_body : (body more : List ℕ) → length body < 2 ^ 64 → after ≡ text_bytes body ++ more → ((puts : List Put) → IsBatch puts → body ≡ body_of puts → ⊥) → IsNoFrame whole
      no_body body more small split none = is_no_frame (λ puts g m lawful spelled.
          none puts lawful (text_split body (body_of puts) more (g ∷ m) small lawful.small (sym split ∙ spelled)).0)

-- bytes of the same file from the same place, as many as the first of them want
pub wanted_seen : (first second whole : List ℕ) (left need : ℕ) → length whole ≡ left → first ≡ take (length first) whole → second ≡ take (length second) whole → min 10 left ≤ length first
    → ((count : ℕ) (more : List ℕ) → count < 2 ^ 64 → first ≡ 1 ∷ (number count ++ more) → count + 10 ≤ left → count + 10 ≤ need) → need ≤ length second → HasFrame second left
wanted_seen first second whole left need sized shown also some wants reaches count more small spelled long =
    let front = 1 ∷ number count in
    let same : first ++ drop (length first) whole ≡ front ++ (more ++ drop (length second) whole) =
    ap (λ (l : List ℕ). l ++ drop (length first) whole) shown ∙ take-append-drop (length first) whole ∙ sym (take-append-drop (length second) whole) ∙ ap (λ (l : List ℕ). l ++ drop (length second) whole) (sym also ∙ spelled)
    ∙ append_assoc front more (drop (length second) whole) in
    let found = cut_front first front (drop (length first) whole) (more ++ drop (length second) whole) same (omega (arith, some, long)) in
    omega (arith, wants count found.0 small found.1 long, reaches)

pub next_now : (m : Option DiskModel) (place left few wants need : ℕ) (first second : List ℕ) (Next : List ℕ → Type 0) → few ≡ min 10 left → 0 < left → Now (λ s. place + left ≡ length s.seen) m
    → Now (ShowsFrom place first) m → Now (λ s. place + few ≤ length s.seen → few ≤ length first) m
    → wants ≤ left → ((count : ℕ) (more : List ℕ) → count < 2 ^ 64 → first ≡ 1 ∷ (number count ++ more) → count + 10 ≤ left → count + 10 ≤ wants) → need ≡ max wants few
    → Now (ShowsFrom place second) m → Now (λ s. place + need ≤ length s.seen → need ≤ length second) m
    → ((whole : List ℕ) → length whole ≡ left → 0 < left → second ≡ take (length second) whole → min 10 left ≤ length second → HasFrame second left → Next whole)
    → Now (λ s. Next (drop place s.seen)) m
next_now None place left few wants need first second Next ten some sized shown enough within wanted most also reaches next = tt
next_now (Some m) place left few wants need first second Next ten some sized shown enough within wanted most also reaches next =
    let whole = drop place m.now.seen in
    let long : length whole ≡ left = omega (arith, length-drop place m.now.seen, sized) in
    let early : few ≤ length first = enough (omega (arith, ten, sized)) in
    let late : need ≤ length second = reaches (omega (arith, ten, most, within, sized)) in
    next whole long some also (omega (arith, ten, most, late)) (wanted_seen first second whole left need long shown also (omega (arith, ten, early)) (λ count more small is le. omega (arith, wanted count more small is le, most)) late)
