use Rattle.std.proofs.Common.{ℕ, zero, suc, ◌≡◌, ◌≤◌, ◌<◌, ◌-◌, ◌++◌, ◌∷◌, [], List, Bool, true, false, length, take, drop, refl, ap, sym, ◌∙◌, inl, inr, append_assoc, append-nil, length-append, arith}
use Rattle.std.specs.Prelude.{◌⊎◌, ◌↔◌, IsTrue}
use Rattle.std.proofs.lemmas.List.{take_at, take_all, drop_all}
use Rattle.dw_event.specs.declared.reports.Shown.{Shown}
use Rattle.dw_page.specs.declared.gather.Gather.{Gather}
use Rattle.dw_page.specs.Joined.{Joined}

-- past the page, an item changes nothing
pub joined_full : (page rest : List Shown) (x : Shown) (g : Gather) → g.more ≡ true → Joined page (x ∷ rest) g → Joined page rest g
joined_full page rest x g m j = record {
  joined = λ e. absurd (cc);
  room = λ e. absurd (cc);
  full = j.full;
  longer = j.longer;
}

drop_next : (n : ℕ) (x : Shown) (rest : List Shown) → 0 < n → drop n (x ∷ rest) ≡ drop (n - 1) rest
drop_next zero x rest h = absurd (omega arith)
drop_next (suc n) x rest h = ap (λ m. drop m rest) (omega arith)

-- an item is passed over
pub joined_skip : (page rest : List Shown) (x : Shown) (g n : Gather) → g.more ≡ false → 0 < g.skip → n.skip ≡ g.skip - 1 → n.size ≡ g.size → n.kept ≡ g.kept → n.more ≡ g.more → Joined page (x ∷ rest) g → Joined page rest n
joined_skip page rest x g n m s ns nz nk nm j = record {
  joined = λ e. let d = drop_next g.skip x rest s in rw (nk, ns, ← d) (j.joined m);
  room = λ e. rw (nk, nz) (j.room m);
  full = λ e. absurd (cc);
  longer = λ e. absurd (cc);
}

-- an item is shown
pub joined_keep : (page rest : List Shown) (x : Shown) (g n : Gather) → g.more ≡ false → g.skip ≡ 0 → length g.kept < g.size → n.skip ≡ g.skip → n.size ≡ g.size → n.kept ≡ g.kept ++ x ∷ [] → n.more ≡ g.more → Joined page (x ∷ rest) g → Joined page rest n
joined_keep page rest x g n m s r ns nz nk nm j = record {
  joined = λ e. let h : g.kept ++ x ∷ rest ≡ page = rw s at (j.joined m) in rw (nk, ns, s, append_assoc) h;
  room = λ e. rw (nk, nz) (omega (arith, length-append g.kept (x ∷ [])));
  full = λ e. absurd (cc);
  longer = λ e. absurd (cc);
}

-- an item comes besides
pub joined_more : (page rest : List Shown) (x : Shown) (g n : Gather) → g.more ≡ false → g.skip ≡ 0 → g.size ≤ length g.kept → n.size ≡ g.size → n.kept ≡ g.kept → n.more ≡ true → Joined page (x ∷ rest) g → Joined page rest n
joined_more page rest x g n m s r nz nk nm j =
    let h : g.kept ++ x ∷ rest ≡ page = rw s at (j.joined m) in
    let room : length g.kept ≤ g.size = j.room m in
    record {
      joined = λ e. absurd (cc);
      room = λ e. absurd (cc);
      full = λ e. rw (nk, nz, ← h) (sym (take_at g.kept (x ∷ rest) g.size (omega arith)));
      longer = λ e. rw (nz, ← h) (omega (arith, length-append g.kept (x ∷ rest)));
    }

-- what came so far, and the next item
pub joined_next : (page rest done : List Shown) (x : Shown) (g : Gather) → Joined page ((done ++ x ∷ []) ++ rest) g → Joined page (done ++ x ∷ rest) g
joined_next page rest done x g j = rw append_assoc at j

drop_nil : (n : ℕ) (rest : List Shown) → rest ≡ [] → drop n rest ≡ []
drop_nil n rest e = drop_all n rest (let z : length rest ≡ 0 = ap length e in omega arith)

-- at the end, what is kept is the page
pub joined_done : (page rest : List Shown) (g : Gather) → Joined page rest g → (g.more ≡ true) ⊎ (rest ≡ []) → (g.kept ≡ take g.size page) × (IsTrue g.more ↔ g.size < length page)
joined_done page rest g j (inl m) = (j.full m, (λ t. j.longer m, λ l. m))
joined_done page rest g j (inr e) = by_more g.more refl
  where
    by_more : (v : Bool) → g.more ≡ v → (g.kept ≡ take g.size page) × (IsTrue g.more ↔ g.size < length page)
    by_more true m = (j.full m, (λ t. j.longer m, λ l. m))
    by_more false m =
        let whole : g.kept ≡ page = let none : drop g.skip rest ≡ [] = drop_nil g.skip rest e in sym (append-nil g.kept) ∙ ap (λ xs. g.kept ++ xs) (sym none) ∙ j.joined m in
        let room : length g.kept ≤ g.size = j.room m in
        (rw (← whole) (sym (take_all g.size g.kept room)), (λ t. absurd (cc), λ l. let long : length g.kept ≡ length page = ap length whole in absurd (omega arith)))
