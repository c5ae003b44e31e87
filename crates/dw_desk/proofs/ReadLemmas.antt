-- On the reads of requests.
use Rattle.std.proofs.Common.{◌≡◌, ◌≢◌, ◌≤◌, ◌==◌, ℕ, Bool, true, false, cond, max, List, Option, Some, None, refl, sym, ap, ◌∙◌, arith}
use Rattle.std.specs.Option.{option_map}
use Rattle.std.proofs.lemmas.Bool.{eqb-true}
use Rattle.std.proofs.lemmas.Grind.{common_steps}
use Rattle.dw_event.specs.declared.reports.Shown.{Shown}
use Rattle.dw_outside.specs.declared.cell.Reading.{Reading}
use Rattle.dw_outside.specs.declared.keeper_error.KeeperError.{KeeperError}
use Rattle.dw_outside.specs.declared.keeper_error.KeeperError.TheVariants.{Failed, OutOfMemory as KeeperWants}
use Rattle.dw_wire.specs.declared.reply.Reply.TheVariants.{Defined, NotEmpty, Paged}
use Rattle.dw_desk.specs.declared.kept_query.KeptQuery.{KeptQuery}
use Rattle.dw_desk.specs.Desk.{refusal}

-- an error of the keeper is answered by none of these
pub not_defined : {A : Type 0} (e : KeeperError) → refusal e ≡ Defined → A
not_defined Failed is = cc
not_defined KeeperWants is = cc

pub not_empty : {A : Type 0} (e : KeeperError) → refusal e ≡ NotEmpty → A
not_empty Failed is = cc
not_empty KeeperWants is = cc

pub not_paged : {A : Type 0} (e : KeeperError) (shown : List Shown) (more : Bool) → refusal e ≡ Paged shown more → A
not_paged Failed shown more is = cc
not_paged KeeperWants shown more is = cc

-- two tests that differ
pub apart : {A : Type 0} (b : Bool) → b ≡ false → b ≡ true → A
apart true e f = cc
apart false e f = cc

-- no page is asked for
pub none_asked : {A : Type 0} (o : Option (KeptQuery × ℕ)) (p : KeptQuery × ℕ) → o ≡ None → o ≡ Some p → A
none_asked None p e f = cc
none_asked (Some q) p e f = cc

-- the kept query and the number of a page that is asked for
pub asked_of : (o : Option KeptQuery) (page : ℕ) (p : KeptQuery × ℕ) → option_map (λ k. (k, page)) o ≡ Some p → (o ≡ Some p.0) × (page ≡ p.1)
asked_of None page p e = cc
asked_of (Some k) page p e =
    let pair : (k, page) ≡ p = cc in
    (ap (λ (q : KeptQuery × ℕ). Some q.0) pair, ap (λ (q : KeptQuery × ℕ). q.1) pair)

-- by the last number, as two clauses say
pub by_last : (n : ℕ) (x y z : Option (List Reading)) → (n ≡ 0 → z ≡ x) → (n ≢ 0 → z ≡ y) → z ≡ cond (n == 0) x y
by_last n x y z first later = at (n == 0) refl
  where
    unequal : (m : ℕ) → (m == 0) ≡ false → m ≢ 0
    unequal m e is = apart (m == 0) e (ap (λ k. k == 0) is)

    at : (b : Bool) → (n == 0) ≡ b → z ≡ cond b x y
    at true e = first (eqb-true n 0 e)
    at false e = later (unequal n e)

pub same_kept : (o : Option KeptQuery) (k l : KeptQuery) → o ≡ Some k → o ≡ Some l → k ≡ l
same_kept o k l is at = let both : Some k ≡ Some l = sym is ∙ at in cc

pub counted_from_one : (page other : ℕ) → 1 ≤ page → other ≡ max page 1 → other ≡ page
counted_from_one page other some is = grind (arith, common_steps)
