-- A head at the front of some bytes, and of more bytes.
use Rattle.std.proofs.Common.{◌≡◌, ◌≤◌, ◌-◌, ◌+◌, ◌∙◌, ℕ, List, ◌++◌, length, take, ap, arith}
use Rattle.std.proofs.Math.Seq.{take-append-add}
use Rattle.httparse.specs.Grammar.{RequestHead, print_request}
use Rattle.httparse.proofs.GrammarLemmas.{request_unique, ReadsRequest-append}
use Rattle.dw_http.specs.Heads.{Stands, NoneStands, max_head}

pub stands_unique : (bytes : List ℕ) (h k : RequestHead) (r q : List ℕ) → Stands bytes h r → Stands bytes k q → (h ≡ k) × (r ≡ q)
stands_unique bytes h k r q a b = request_unique bytes h k r q a.reads b.reads

-- more bytes leave the head where it is
pub stands_more : (bytes : List ℕ) (h : RequestHead) (rest more : List ℕ) → Stands bytes h rest → Stands (bytes ++ more) h (rest ++ more)
stands_more bytes h rest more a = record { reads = ReadsRequest-append bytes h rest more a.reads; size = a.size; fields = a.fields }

front_of : (n : ℕ) (bytes xs rest : List ℕ) → bytes ≡ xs ++ rest → length xs ≤ n → take n bytes ≡ xs ++ take (n - length xs) rest
front_of n bytes xs rest e short =
    let whole : n ≡ length xs + (n - length xs) = omega arith in
    ap (take n) e ∙ ap (λ (k : ℕ). take k (xs ++ rest)) whole ∙ take-append-add xs rest (n - length xs)

-- a head that keeps the limits stands within the first bytes
pub stands_front : (bytes : List ℕ) (h : RequestHead) (rest : List ℕ) → Stands bytes h rest → Stands (take max_head bytes) h (take (max_head - length (print_request h)) rest)
stands_front bytes h rest a = record {
  reads = (a.reads.0, front_of max_head bytes (print_request h) rest a.reads.1 a.size);
  size = a.size;
  fields = a.fields;
}

pub none_front : (bytes : List ℕ) → NoneStands (take max_head bytes) → NoneStands bytes
none_front bytes none h rest a = none h _ (stands_front bytes h rest a)
