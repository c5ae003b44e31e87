-- On what is kept of a caller, as the map of queries changes.
use Rattle.std.proofs.Common.{◌≡◌, ℕ, Bool, true, false, cond, ◌+◌, [], Option, Some, None, IsSome, rules, refl, sym, ap, ◌∙◌}
use mathlib.Core.Path.{fun_ext}
use Rattle.std.specs.declared.cmp.Ordering.{Ordering}
use Rattle.std.specs.declared.cmp.Ordering.TheVariants.{Less, Equal, Greater}
use Rattle.std.specs.Ordering.{nat_cmp, is_eq}
use Rattle.std.specs.BTreeMap.{BTreeMap, get, is_at}
use Rattle.std.specs.Option.{option_map}
use Rattle.std.specs.Map.{lookup, set_value}
use Rattle.std.specs.Cmp.{eq_by_cmp_equiv, nat_cmp_total}
use Rattle.std.proofs.lemmas.Map.{lookup-set_value}
use Rattle.std.proofs.lemmas.Map.Lookups.{exact_unsigned}
use Rattle.dw_desk.specs.State.{AccountOf, nobody, at_number}
use Rattle.dw_desk.specs.declared.kept_query.KeptQuery.{KeptQuery}
use Rattle.dw_page.specs.declared.mark.Mark.{Mark}
use Rattle.dw_desk.specs.Accounts.{account, closed, marked, opened, query_kept, with_mark}

abbrev Queries : Type 0
Queries = BTreeMap ℕ KeptQuery

-- an account of these parts
pub account_is : {Q : Type 0} (given : ℕ) (old new : ℕ → Option Q) → ((n : ℕ) → new n ≡ old n)
    → let a : AccountOf Q = record { given = given; queries = new } in a ≡ record { given = given; queries = old }
account_is {Q} given old new h = ap (λ (q : ℕ → Option Q). record { given = given; queries = q }) (fun_ext h)

-- no query stands in an empty map
pub none_kept : (m : Queries) → m.entries ≡ []
    → let a : AccountOf KeptQuery = record { given = 0; queries = get nat_cmp m } in a ≡ nobody
none_kept m e = account_is 0 (λ _. None) (get nat_cmp m) (λ n. ap (lookup (is_at (nat_cmp n))) e)

equal_is : (o : Ordering) → is_eq o ≡ true → o ≡ Equal
equal_is Less e = cc
equal_is Equal e = refl
equal_is Greater e = cc

pub same_number : (a b : ℕ) → is_at (nat_cmp a) b ≡ true → a ≡ b
same_number a b e = exact_unsigned a b (equal_is (nat_cmp a b) e)

-- nothing is dropped where there is nothing
pub none_dropped : {Q : Type 0} (number : ℕ) (f : ℕ → Option Q) → f number ≡ None → at_number number None f ≡ f
none_dropped number f e = fun_ext (λ q. at_q q (is_at (nat_cmp number) q) refl)
  where
    at_q : (q : ℕ) (b : Bool) → is_at (nat_cmp number) q ≡ b → cond b None (f q) ≡ f q
    at_q q true s = sym e ∙ ap f (same_number number q s)
    at_q q false s = refl

pub none_closed_in : {Q : Type 0} (number : ℕ) (a : AccountOf Q) → a.queries number ≡ None → closed number a ≡ a
none_closed_in {Q} number a e = ap (λ (q : ℕ → Option Q). record { given = a.given; queries = q }) (none_dropped number a.queries e)

pub nobody_closed : {Q : Type 0} (number : ℕ) → let a : AccountOf Q = nobody in closed number a ≡ a
nobody_closed number = none_closed_in number nobody refl

-- ---- what is kept, as accounts

pub opened_account : (k : KeptQuery) (a : AccountOf KeptQuery) → account (opened k a) ≡ opened (query_kept k) (account a)
opened_account k a = account_is (a.given + 1) _ _ (λ n. at n (is_at (nat_cmp (a.given + 1)) n))
  where
    at : (n : ℕ) (b : Bool) → option_map query_kept (cond b (Some k) (a.queries n)) ≡ cond b (Some (query_kept k)) (option_map query_kept (a.queries n))
    at n true = refl
    at n false = refl

pub closed_account : (number : ℕ) (a : AccountOf KeptQuery) → account (closed number a) ≡ closed number (account a)
closed_account number a = account_is a.given _ _ (λ n. at n (is_at (nat_cmp number) n))
  where
    at : (n : ℕ) (b : Bool) → option_map query_kept (cond b None (a.queries n)) ≡ cond b None (option_map query_kept (a.queries n))
    at n true = refl
    at n false = refl

-- ---- marks

pub marked_account : (number : ℕ) (mark : Mark) (a : AccountOf KeptQuery) → account (marked number mark a) ≡ account a
marked_account number mark a = account_is a.given _ _ (λ n. at n (is_at (nat_cmp number) n) refl)
  where
    same : (o : Option KeptQuery) → option_map query_kept (option_map (with_mark mark) o) ≡ option_map query_kept o
    same None = refl
    same (Some k) = refl

    at : (n : ℕ) (b : Bool) → is_at (nat_cmp number) n ≡ b
        → option_map query_kept (cond b (option_map (with_mark mark) (a.queries number)) (a.queries n)) ≡ option_map query_kept (a.queries n)
    at n true e = same (a.queries number) ∙ ap (λ k. option_map query_kept (a.queries k)) (same_number number n e)
    at n false e = refl

-- no query has no mark
pub none_marked_in : (number : ℕ) (mark : Mark) (a : AccountOf KeptQuery) → a.queries number ≡ None → marked number mark a ≡ a
none_marked_in number mark a none = account_is a.given _ _ (λ n. at n (is_at (nat_cmp number) n) refl)
  where
    at : (n : ℕ) (b : Bool) → is_at (nat_cmp number) n ≡ b → cond b (option_map (with_mark mark) (a.queries number)) (a.queries n) ≡ a.queries n
    at n true e = ap (option_map (with_mark mark)) none ∙ sym none ∙ ap a.queries (same_number number n e)
    at n false e = refl

some_query : (o : Option KeptQuery) (k : KeptQuery) → o ≡ Some k → IsSome o
some_query None k e = cc
some_query (Some x) k e = search rules

-- the map with another query at a number that it has
query_written : (m n : Queries) (number : ℕ) (k l : KeptQuery) → get nat_cmp m number ≡ Some k → n.entries ≡ set_value (is_at (nat_cmp number)) m.entries l
    → (q : ℕ) → get nat_cmp n q ≡ cond (is_at (nat_cmp number) q) (Some l) (get nat_cmp m q)
query_written m n number k l has at q =
    ap (lookup (is_at (nat_cmp q))) at
    ∙ lookup-set_value (eq_by_cmp_equiv nat_cmp_total) (is_at (nat_cmp number))
    (λ x y e. ap (λ a. is_at (nat_cmp a) y) (same_number number x e)) q l m.entries (some_query (get nat_cmp m number) k has)

-- a query written back with another mark
pub mark_written : (m n : Queries) (given number : ℕ) (mark : Mark) (k : KeptQuery) → get nat_cmp m number ≡ Some k → n.entries ≡ set_value (is_at (nat_cmp number)) m.entries (with_mark mark k)
    → let a : AccountOf KeptQuery = record { given = given; queries = get nat_cmp n } in a ≡ marked number mark (record { given = given; queries = get nat_cmp m })
mark_written m n given number mark k has at =
    account_is given _ _ (λ q. query_written m n number k (with_mark mark k) has at q ∙ ap (λ o. cond (is_at (nat_cmp number) q) o (get nat_cmp m q)) (ap (option_map (with_mark mark)) (sym has)))
