-- On what is kept of each caller, as the map of callers changes at one name.
use Rattle.std.proofs.Common.{◌≡◌, ◌≢◌, ◌+◌, ℕ, Bool, true, false, cond, List, Option, Some, None, IsSome, MatchOption, is_some, rules, refl, sym, ap, ◌∙◌}
use mathlib.Core.Path.{fun_ext}
use Rattle.std.specs.declared.cmp.Ordering.{Ordering}
use Rattle.std.specs.declared.cmp.Ordering.TheVariants.{Less, Equal, Greater}
use Rattle.std.specs.Ordering.{nat_cmp, is_eq}
use Rattle.std.specs.Option.{option_map_or}
use Rattle.std.specs.Cmp.{eq_by_cmp_equiv}
use Rattle.std.specs.Cmp.Lexicographic.{slice_cmp}
use Rattle.std.specs.Map.{lookup, set_value}
use Rattle.std.specs.BTreeMap.{BTreeMap, get, is_at}
use Rattle.std.proofs.lemmas.Cmp.{nat_list_cmp_total}
use Rattle.std.proofs.lemmas.Map.{lookup-set_value}
use Rattle.std.proofs.lemmas.Map.Lookups.{exact_bytes}
use Rattle.dw_desk.specs.declared.caller.Caller.{Caller}
use Rattle.dw_desk.specs.declared.kept_query.KeptQuery.{KeptQuery}
use Rattle.dw_desk.specs.State.{AccountOf, nobody, at_caller}
use Rattle.dw_page.specs.declared.mark.Mark.{Mark}
use Rattle.dw_desk.specs.Accounts.{entry_account, opened, closed, marked}
use Rattle.dw_ingest.specs.Ingested.{last_number}
use Rattle.dw_desk.specs.Stands.{kept_of}
use Rattle.dw_desk.specs.Desk.{SameAccounts, Changes, Gives}
use Rattle.dw_desk.proofs.Entries.{nobody_closed, none_marked_in}

abbrev Callers : Type 0
Callers = BTreeMap (List ℕ) Caller

abbrev found : Callers → List ℕ → Option Caller
found m name = get (slice_cmp nat_cmp) m name

abbrev is_name : List ℕ → List ℕ → Bool
is_name name q = is_at (slice_cmp nat_cmp name) q

-- what is kept, by what is found
abbrev kept : Option Caller → AccountOf KeptQuery
kept o = option_map_or entry_account o nobody

equal_is : (o : Ordering) → is_eq o ≡ true → o ≡ Equal
equal_is Less e = cc
equal_is Equal e = refl
equal_is Greater e = cc

pub same_name : (a b : List ℕ) → is_name a b ≡ true → a ≡ b
same_name a b e = exact_bytes a b (equal_is (slice_cmp nat_cmp a b) e)

is_some_from : (o : Option Caller) (c : Caller) → o ≡ Some c → IsSome o
is_some_from None c e = cc
is_some_from (Some x) c e = search rules

-- what is not there
pub absent : (o : Option Caller) (b : Bool) → b ≡ is_some o → b ≡ false → o ≡ None
absent None b e f = refl
absent (Some x) b e f = cc

-- the map with another value at a name that it has
found_written : (m n : Callers) (name : List ℕ) (c d : Caller) → found m name ≡ Some c → n.entries ≡ set_value (is_name name) m.entries d
    → (q : List ℕ) → found n q ≡ cond (is_name name q) (Some d) (found m q)
found_written m n name c d has at q =
    ap (lookup (is_name q)) at
    ∙ lookup-set_value (eq_by_cmp_equiv nat_list_cmp_total) (is_name name)
    (λ x y e. ap (λ a. is_name a y) (same_name name x e)) q d m.entries (is_some_from (found m name) c has)

kept_at : (m n : Callers) (q : List ℕ) (d : Caller) (b : Bool) → found n q ≡ cond b (Some d) (found m q)
    → kept_of n q ≡ cond b (entry_account d) (kept_of m q)
kept_at m n q d true e = ap kept e
kept_at m n q d false e = ap kept e

-- the function with the value that it has at a caller
pub unchanged : {A : Type 0} (f : List ℕ → A) (name : List ℕ) → at_caller name (f name) f ≡ f
unchanged f name = fun_ext (λ q. at_q q (is_name name q) refl)
  where
    at_q : (q : List ℕ) (b : Bool) → is_name name q ≡ b → cond b (f name) (f q) ≡ f q
    at_q q true s = ap f (same_name name q s)
    at_q q false s = refl

-- one of whom nothing is kept changes nothing where no caller stood
pub same_entered : (m n : Callers) (name : List ℕ) (d : Caller) → found m name ≡ None → ((q : List ℕ) → found n q ≡ cond (is_name name q) (Some d) (found m q))
    → entry_account d ≡ nobody → SameAccounts m n
same_entered m n name d none at is =
    fun_ext (λ q. kept_at m n q d (is_name name q) (at q) ∙ ap (λ a. cond (is_name name q) a (kept_of m q)) (is ∙ ap kept (sym none)))
    ∙ unchanged (kept_of m) name

-- a caller written back changes what is kept of him alone
pub changes_written : (m n : Callers) (name : List ℕ) (c d : Caller) (f : AccountOf KeptQuery → AccountOf KeptQuery) → found m name ≡ Some c → n.entries ≡ set_value (is_name name) m.entries d
    → entry_account d ≡ f (entry_account c) → Changes m n name f
changes_written m n name c d f has at is =
    fun_ext (λ q. kept_at m n q d (is_name name q) (found_written m n name c d has at q)
    ∙ ap (λ a. cond (is_name name q) a (kept_of m q)) (is ∙ ap f (ap kept (sym has))))

pub same_written : (m n : Callers) (name : List ℕ) (c d : Caller) → found m name ≡ Some c → n.entries ≡ set_value (is_name name) m.entries d
    → entry_account d ≡ entry_account c → SameAccounts m n
same_written m n name c d has at is = changes_written m n name c d (λ a. a) has at is ∙ unchanged (kept_of m) name

pub same_then : (a b c : Callers) → SameAccounts a b → SameAccounts b c → SameAccounts a c
same_then a b c x y = y ∙ x

pub changes_then : (a b c : Callers) (name : List ℕ) (f : AccountOf KeptQuery → AccountOf KeptQuery) → SameAccounts a b → Changes b c name f → Changes a c name f
changes_then a b c name f x y = y ∙ ap (λ (g : List ℕ → AccountOf KeptQuery). at_caller name (f (g name)) g) x

-- what the caller answered, where it is written back
pub gives_from : (old m n : Callers) (name : List ℕ) (c d : Caller) (query : KeptQuery) → SameAccounts old m
    → found m name ≡ Some c → n.entries ≡ set_value (is_name name) m.entries d → (o : Option ℕ)
    → MatchOption o ((c.given ≡ last_number) × (entry_account d ≡ entry_account c))
    (λ number. (c.given ≢ last_number) × (number ≡ c.given + 1) × (entry_account d ≡ opened query (entry_account c)))
    → Gives old n name query o
gives_from old m n name c d query same has at None h =
    let had : kept_of old name ≡ entry_account c = ap (λ (g : List ℕ → AccountOf KeptQuery). g name) (sym same) ∙ ap kept has in
    (ap (λ (a : AccountOf KeptQuery). a.given) had ∙ h.0, same_then old m n same (same_written m n name c d has at h.1))
gives_from old m n name c d query same has at (Some number) h =
    let had : kept_of old name ≡ entry_account c = ap (λ (g : List ℕ → AccountOf KeptQuery). g name) (sym same) ∙ ap kept has in (
      (λ e. h.0 (ap (λ (a : AccountOf KeptQuery). a.given) (sym had) ∙ e)),
      h.1 ∙ ap (λ (a : AccountOf KeptQuery). a.given + 1) (sym had),
      changes_then old m n name (opened query) same (changes_written m n name c d (opened query) has at h.2),
    )

-- a query of one of whom nothing is kept
pub none_open : (m : Callers) (name : List ℕ) (number : ℕ) → found m name ≡ None → false ≡ is_some ((kept_of m name).queries number)
none_open m name number none = ap (λ (a : AccountOf KeptQuery). is_some (a.queries number)) (ap kept (sym none))

pub none_closed : (m : Callers) (name : List ℕ) (number : ℕ) → found m name ≡ None → Changes m m name (closed number)
none_closed m name number none =
    sym (unchanged (kept_of m) name)
    ∙ ap (λ a. at_caller name a (kept_of m)) (ap kept none ∙ sym (nobody_closed number) ∙ ap (closed number) (ap kept (sym none)))

pub some_open : (m : Callers) (name : List ℕ) (number : ℕ) (c : Caller) (b : Bool) → found m name ≡ Some c → b ≡ is_some ((entry_account c).queries number) → b ≡ is_some ((kept_of m name).queries number)
some_open m name number c b has e = e ∙ ap (λ (a : AccountOf KeptQuery). is_some (a.queries number)) (ap kept (sym has))

-- one of whom nothing is kept has no query to mark
pub none_marked : (m : Callers) (name : List ℕ) (number : ℕ) (mark : Mark) → found m name ≡ None → Changes m m name (marked number mark)
none_marked m name number mark none =
    sym (unchanged (kept_of m) name)
    ∙ ap (λ a. at_caller name a (kept_of m)) (ap kept none ∙ sym (none_marked_in number mark nobody refl) ∙ ap (marked number mark) (ap kept (sym none)))
