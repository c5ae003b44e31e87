-- How a body is read, put by put.
use Rattle.std.proofs.Common.{◌≡◌, ℕ, zero, suc, ◌+◌, ◌^◌, ◌<◌, ◌≤◌, List, [], ◌∷◌, ◌++◌, length, take, get_or, refl, sym, ◌∙◌, ap, subst, arith, add-one, append_assoc, length-append}
use Rattle.std.proofs.lemmas.List.{append-nil}
use Rattle.dw_outside.specs.declared.cell.Put.{Put}
use Rattle.dw_outside.specs.Disks.{Each}
use Rattle.dw_journal.specs.Frames.{number, put_bytes, puts_bytes, body_of, IsBatch}
use Rattle.dw_journal.proofs.Codes.{IsFit, number_split, put_split, puts_fit, puts_count, puts_more, body_length}

-- the puts read so far are the first of any that the bytes spell
prefix : (got all : List Put) (rest : List ℕ) → Each IsFit got → Each IsFit all → length got ≤ length all → puts_bytes got ++ rest ≡ puts_bytes all → (more : List Put) × (all ≡ got ++ more) × (rest ≡ puts_bytes more)
prefix [] all rest fit too le is = (all, refl, is)
prefix (p ∷ got) [] rest fit too le is = absurd (omega (arith, le))
prefix (p ∷ got) (q ∷ all) rest fit too le is =
    let parts = put_split p q (puts_bytes got ++ rest) (puts_bytes all) fit.0 too.0 (sym (append_assoc (put_bytes p) (puts_bytes got) rest) ∙ is) in
    let next = prefix got all rest fit.1 too.1 (omega (arith, le)) parts.1 in
    (next.0, ap (λ (r : Put). r ∷ all) (sym parts.0) ∙ ap (λ (l : List Put). p ∷ l) next.1, next.2)

both_each : (P : Put → Type 0) (xs ys : List Put) → Each P (xs ++ ys) → Each P ys
both_each P [] ys all = all
both_each P (x ∷ xs) ys all = both_each P xs ys all.1

pub each_push : {X : Type 0} (P : X → Type 0) (xs : List X) (x : X) → Each P xs → P x → Each P (xs ++ x ∷ [])
each_push P [] p all this = (this, tt)
each_push P (x ∷ xs) p all this = (all.0, each_push P xs p all.1 this)

module _ (body first rest : List ℕ) (count : ℕ) (got : List Put) (starts : body ≡ number count ++ first) (split : first ≡ puts_bytes got ++ rest) (small : count < 2 ^ 64) (short : length body < 2 ^ 64) where
  got_short : length (puts_bytes got) < 2 ^ 64
  got_short = omega (arith, short, ap length starts, length-append (number count) first, ap length split, length-append (puts_bytes got) rest)

  others : (puts : List Put) → length got ≤ count → IsBatch puts → body ≡ body_of puts → (count ≡ length puts) × ((more : List Put) × (puts ≡ got ++ more) × (rest ≡ puts_bytes more))
  others puts le lawful is =
      let fits : length (puts_bytes puts) < 2 ^ 64 = omega (arith, lawful.small, body_length puts) in
      let parts = number_split count (length puts) first (puts_bytes puts) small (omega (arith, fits, puts_count puts)) (sym starts ∙ is) in
      (parts.0, prefix got puts rest (puts_fit got got_short) (puts_fit puts fits) (omega (arith, le, parts.0)) (sym split ∙ parts.1))

  -- no put stands where one is wanted
  pub stuck : length got < count → ((p : Put) (more : List ℕ) → p.table ≤ 3 → length p.key < 2 ^ 64 → length p.content < 2 ^ 64 → rest ≡ put_bytes p ++ more → ⊥) → (puts : List Put) → IsBatch puts → body ≡ body_of puts → ⊥
  stuck lt none puts lawful is = out (others puts (omega (arith, lt)) lawful is)
    where
      next : (more : List Put) → puts ≡ got ++ more → rest ≡ puts_bytes more → count ≡ length puts → ⊥
      next [] whole spelled counted = absurd (omega (arith, lt, counted, ap length whole, length-append got []))
      next (p ∷ more) whole spelled counted =
          let fits : length (puts_bytes puts) < 2 ^ 64 = omega (arith, lawful.small, body_length puts) in
          let fit = both_each IsFit got (p ∷ more) (subst (Each IsFit) whole (puts_fit puts fits)) in
          let tables = both_each (λ (q : Put). q.table ≤ 3) got (p ∷ more) (subst (Each (λ (q : Put). q.table ≤ 3)) whole lawful.tables) in
          none p (puts_bytes more) tables.0 fit.0.key fit.0.content spelled

      out : (count ≡ length puts) × ((more : List Put) × (puts ≡ got ++ more) × (rest ≡ puts_bytes more)) → ⊥
      out found = next found.1.0 found.1.1 found.1.2 found.0

  -- bytes are left over
  pub trailing : length got ≡ count → (rest ≡ [] → ⊥) → (puts : List Put) → IsBatch puts → body ≡ body_of puts → ⊥
  trailing same left puts lawful is = out (others puts (omega (arith, same)) lawful is)
    where
      none : (more : List Put) → puts ≡ got ++ more → rest ≡ puts_bytes more → count ≡ length puts → ⊥
      none [] whole spelled counted = left spelled
      none (p ∷ more) whole spelled counted = absurd (omega (arith, same, counted, ap length whole, length-append got (p ∷ more)))

      out : (count ≡ length puts) × ((more : List Put) × (puts ≡ got ++ more) × (rest ≡ puts_bytes more)) → ⊥
      out found = none found.1.0 found.1.1 found.1.2 found.0

  -- the whole body is read
  pub whole_body : length got ≡ count → rest ≡ [] → Each (λ (p : Put). p.table ≤ 3) got → (body ≡ body_of got) × IsBatch got
  whole_body same none tables =
      let is : body ≡ body_of got = starts ∙ ap (λ (n : ℕ). number n ++ first) (sym same) ∙ ap (λ (l : List ℕ). number (length got) ++ l) (split ∙ ap (λ (l : List ℕ). puts_bytes got ++ l) none ∙ append-nil (puts_bytes got)) in
      (is, record { tables = tables; small = omega (arith, short, ap length is) })

pub body_step : (first rest after : List ℕ) (got new : List Put) (p q : Put) → first ≡ puts_bytes got ++ rest → rest ≡ put_bytes p ++ after → q ≡ p → new ≡ got ++ q ∷ [] → first ≡ puts_bytes new ++ after
body_step first rest after got new p q split next same is =
    split ∙ ap (λ (l : List ℕ). puts_bytes got ++ l) next ∙ sym (append_assoc (puts_bytes got) (put_bytes p) after) ∙ ap (λ (l : List ℕ). l ++ after) (sym (puts_more got p))
    ∙ ap (λ (r : Put). puts_bytes (got ++ r ∷ []) ++ after) (sym same) ∙ ap (λ (ps : List Put). puts_bytes ps ++ after) (sym is)

puts_take_suc : (puts : List Put) (i : ℕ) (p : Put) → i < length puts → p ≡ get_or puts i p → puts_bytes (take (suc i) puts) ≡ puts_bytes (take i puts) ++ put_bytes p
puts_take_suc [] i p lt is = absurd (omega (arith, lt))
puts_take_suc (q ∷ []) zero p lt is = ap (λ (r : Put). put_bytes r ++ []) (sym is) ∙ append-nil (put_bytes p)
puts_take_suc (q ∷ r ∷ puts) zero p lt is = ap (λ (r : Put). put_bytes r ++ []) (sym is) ∙ append-nil (put_bytes p)
puts_take_suc (q ∷ puts) (suc i) p lt is = ap (λ (l : List ℕ). put_bytes q ++ l) (puts_take_suc puts i p (omega (arith, lt)) is) ∙ sym (append_assoc (put_bytes q) (puts_bytes (take i puts)) (put_bytes p))

pub puts_take : (puts : List Put) (i : ℕ) (p : Put) → i < length puts → p ≡ get_or puts i p → puts_bytes (take (i + 1) puts) ≡ puts_bytes (take i puts) ++ put_bytes p
puts_take puts i p lt is = ap (λ (n : ℕ). puts_bytes (take n puts)) (add-one i) ∙ puts_take_suc puts i p lt is
