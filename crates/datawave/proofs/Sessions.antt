-- On runs: what two stretches of requests come to together.
use Rattle.std.proofs.Common.{◌≡◌, ◌+◌, ◌++◌, ◌∷◌, [], ℕ, List, Option, Some, None, refl, sym, ap, ◌∙◌, subst, inl, inr, append_assoc, append-nil, zero-add, add-zero, add_assoc, Result, IfOk, take, drop, take-append-drop}
use Rattle.std.specs.List.{concat}
use Rattle.std.proofs.lemmas.List.Folds.{concat-append}
use Rattle.std.specs.Io.KnownBytes.{append_known, prepend_known}
use Rattle.dw_derive.specs.World.{World}
use Rattle.dw_desk.specs.State.{State, start}
use Rattle.dw_desk.specs.Stands.{state_of}
use Rattle.dw_desk.specs.declared.desk.Desk.{Desk}
use Rattle.dw_desk.specs.Session.{Digest, Asked, Answers, Session}
use Rattle.datawave.specs.Session.{AllAnswered, LastLacks, FrontAnswered, SomeAnswered}
use Rattle.datawave.specs.Outside.{Outside}
use Rattle.datawave.proofs.Rising.{rose_none, rose_then}
use Rattle.dw_desk.specs.Desk.{IsFormed}
use Rattle.datawave.specs.Asking.{Asks}
use Rattle.datawave.specs.Exchange.{Begun, RequestPut, RequestLacks, RequestsPut, RequestsLack, PartPut}

session_then : (digest : Digest) (w : State) (xs : List Asked) (ts : List (List ℕ)) (ys : List Asked) (us : List (List ℕ)) (mid last : State) (m n : ℕ)
    → Session digest w xs ts mid m → Session digest mid ys us last n → Session digest w (xs ++ ys) (ts ++ us) last (m + n)
session_then digest w [] [] ys us mid last m n s r =
    subst (λ (k : ℕ). Session digest w ys us last k) (sym (zero-add n) ∙ ap (λ k. k + n) (sym s.1)) (subst (λ (v : State). Session digest v ys us last n) s.0 r)
session_then digest w [] (t ∷ ts) ys us mid last m n s r = absurd s
session_then digest w (x ∷ xs) [] ys us mid last m n s r = absurd s
session_then digest w (x ∷ xs) (t ∷ ts) ys us mid last m n s r =
    (s.0, s.1, s.2 + n, s.3, session_then digest s.0 xs ts ys us mid last s.2 n s.4 r, ap (λ k. k + n) s.5 ∙ add_assoc s.1 s.2 n)

-- the requests of one stretch, and then those of another
answered_then : (digest : Digest) (w mid last : State) (xs ys : List Asked) (a b : List ℕ) (m n : ℕ)
    → AllAnswered digest w xs a mid m → AllAnswered digest mid ys b last n → AllAnswered digest w (xs ++ ys) (a ++ b) last (m + n)
answered_then digest w mid last xs ys a b m n x y = record {
  texts = x.texts ++ y.texts;
  session = session_then digest w xs x.texts ys y.texts mid last m n x.session y.session;
  joined = ap (λ c. c ++ b) x.joined ∙ ap (λ c. concat x.texts ++ c) y.joined ∙ sym (concat-append x.texts y.texts);
}

lacks_then : (digest : Digest) (w mid last : State) (xs ys : List Asked) (a b : List ℕ) (m n : ℕ)
    → AllAnswered digest w xs a mid m → LastLacks digest mid ys b last n → LastLacks digest w (xs ++ ys) (a ++ b) last (m + n)
lacks_then digest w mid last xs ys a b m n x y = record {
  texts = x.texts ++ y.texts;
  part = y.part;
  missing = y.missing;
  session = subst (λ (ts : List (List ℕ)). Session digest w (xs ++ ys) ts last (m + n)) (sym (append_assoc x.texts y.texts ((y.part ++ y.missing) ∷ [])))
      (session_then digest w xs x.texts ys (y.texts ++ (y.part ++ y.missing) ∷ []) mid last m n x.session y.session);
  joined = ap (λ c. c ++ b) x.joined ∙ ap (λ c. concat x.texts ++ c) y.joined ∙ sym (append_assoc (concat x.texts) (concat y.texts) y.part)
      ∙ ap (λ c. c ++ y.part) (sym (concat-append x.texts y.texts));
}

front_then : (digest : Digest) (w mid last : State) (xs ys : List Asked) (a b : List ℕ) (m n : ℕ)
    → AllAnswered digest w xs a mid m → FrontAnswered digest mid ys b last n → FrontAnswered digest w (xs ++ ys) (a ++ b) last (m + n)
front_then digest w mid last xs ys a b m n x (inl y) = inl (answered_then digest w mid last xs ys a b m n x y)
front_then digest w mid last xs ys a b m n x (inr y) = inr (lacks_then digest w mid last xs ys a b m n x y)

some_then : (digest : Digest) (w mid last : State) (xs ys : List Asked) (a b : List ℕ) (m n : ℕ)
    → AllAnswered digest w xs a mid m → SomeAnswered digest mid ys b last n → SomeAnswered digest w (xs ++ ys) (a ++ b) last (m + n)
some_then digest w mid last xs ys a b m n x y = record {
  front = xs ++ y.front;
  rest = y.rest;
  split = ap (λ c. xs ++ c) y.split ∙ sym (append_assoc xs y.front y.rest);
  answered = front_then digest w mid last xs y.front a b m n x y.answered;
}

-- requests that follow and were not answered
some_more : (digest : Digest) (w last : State) (xs ys : List Asked) (a : List ℕ) (m : ℕ) → SomeAnswered digest w xs a last m → SomeAnswered digest w (xs ++ ys) a last m
some_more digest w last xs ys a m x = record {
  front = x.front;
  rest = x.rest ++ ys;
  split = ap (λ c. c ++ ys) x.split ∙ append_assoc x.front x.rest ys;
  answered = x.answered;
}

pub some_all : (digest : Digest) (w last : State) (xs : List Asked) (a : List ℕ) (m : ℕ) → AllAnswered digest w xs a last m → SomeAnswered digest w xs a last m
some_all digest w last xs a m x = record { front = xs; rest = []; split = sym (append-nil xs); answered = inl x }

pub answered_none : (digest : Digest) (w : State) → AllAnswered digest w [] [] w 0
answered_none digest w = record { texts = []; session = (refl, refl); joined = refl }

answered_one : (digest : Digest) (w next : State) (request : Asked) (text : List ℕ) (n : ℕ) → Answers digest w request text next n → AllAnswered digest w (request ∷ []) text next n
answered_one digest w next request text n h = record { texts = text ∷ []; session = (next, n, 0, h, (refl, refl), sym (add-zero n)); joined = sym (append-nil text) }

lacks_one : (digest : Digest) (w next : State) (request : Asked) (part missing : List ℕ) (n : ℕ) → Answers digest w request (part ++ missing) next n → SomeAnswered digest w (request ∷ []) part next n
lacks_one digest w next request part missing n h = record {
  front = request ∷ [];
  rest = [];
  split = refl;
  answered = inr (record { texts = []; part = part; missing = missing; session = (next, n, 0, h, (refl, refl), sym (add-zero n)); joined = refl });
}

pub known_nothing : (out : Option (List ℕ)) → out ≡ append_known out []
known_nothing None = refl
known_nothing (Some xs) = ap Some (sym (append-nil xs))

known_then : (out : Option (List ℕ)) (a b : List ℕ) → append_known (append_known out a) b ≡ append_known out (a ++ b)
known_then None a b = refl
known_then (Some xs) a b = ap Some (append_assoc xs a b)

pub prepend_then : (left : Option (List ℕ)) (a b : List ℕ) → prepend_known a (prepend_known b left) ≡ prepend_known (a ++ b) left
prepend_then None a b = refl
prepend_then (Some xs) a b = ap Some (sym (append_assoc a b xs))

pub prepend_nothing : (left : Option (List ℕ)) → left ≡ prepend_known [] left
prepend_nothing None = refl
prepend_nothing (Some xs) = refl

-- ---- the same with the desk, the tables and the output

-- no request was answered yet
pub put_none : (digest : Digest) (w : World) (before after : Outside) (d : Desk) → Begun w before d after → RequestsPut digest w before [] d after
put_none digest w before after d begun = record {
  written = [];
  faults = 0;
  last = w;
  stands = begun.stands;
  answered = subst (λ (s : State). AllAnswered digest (start w) [] [] s 0) (sym begun.first) (answered_none digest (start w));
  rose = rose_none before.faults after.faults begun.counted;
  output = sym begun.output ∙ known_nothing before.out;
}

-- one request more
put_next : (digest : Digest) (w : World) (before between after : Outside) (d now : Desk) (xs : List Asked) (request : Asked)
    → (x : RequestsPut digest w before xs d between) → RequestPut digest x.last d between request now after → RequestsPut digest w before (xs ++ request ∷ []) now after
put_next digest w before between after d now xs request x y =
    let a = y.answered in
    record {
      written = x.written ++ y.text;
      faults = x.faults + a.faults;
      last = a.next;
      stands = a.stands;
      answered = answered_then digest (start w) (state_of x.last d) (state_of a.next now) xs (request ∷ []) x.written y.text x.faults a.faults x.answered
          (answered_one digest (state_of x.last d) (state_of a.next now) request y.text a.faults a.answers);
      rose = rose_then before.faults between.faults after.faults x.faults a.faults x.rose a.rose;
      output = y.output ∙ ap (λ o. append_known o y.text) x.output ∙ known_then before.out x.written y.text;
    }

-- the answer to one more broke off
lack_next : (digest : Digest) (w : World) (before between after : Outside) (d now : Desk) (xs : List Asked) (request : Asked)
    → (x : RequestsPut digest w before xs d between) → RequestLacks digest x.last d between request now after → RequestsLack digest w before (xs ++ request ∷ []) now after
lack_next digest w before between after d now xs request x y =
    let a = y.answered in
    record {
      written = x.written ++ y.part;
      faults = x.faults + a.faults;
      last = a.next;
      stands = a.stands;
      answered = some_then digest (start w) (state_of x.last d) (state_of a.next now) xs (request ∷ []) x.written y.part x.faults a.faults x.answered
          (lacks_one digest (state_of x.last d) (state_of a.next now) request y.part y.missing a.faults a.answers);
      rose = rose_then before.faults between.faults after.faults x.faults a.faults x.rose a.rose;
      output = y.output ∙ ap (λ o. append_known o y.part) x.output ∙ known_then before.out x.written y.part;
    }

pub lack_more : (digest : Digest) (w : World) (before after : Outside) (d : Desk) (xs ys : List Asked) → RequestsLack digest w before xs d after → RequestsLack digest w before (xs ++ ys) d after
lack_more digest w before after d xs ys x = record {
  written = x.written;
  faults = x.faults;
  last = x.last;
  stands = x.stands;
  answered = some_more digest (start w) (state_of x.last d) xs ys x.written x.faults x.answered;
  rose = x.rose;
  output = x.output;
}

pub lack_all : (digest : Digest) (w : World) (before after : Outside) (d : Desk) (xs : List Asked) → RequestsPut digest w before xs d after → RequestsLack digest w before xs d after
lack_all digest w before after d xs x = record {
  written = x.written;
  faults = x.faults;
  last = x.last;
  stands = x.stands;
  answered = some_all digest (start w) (state_of x.last d) xs x.written x.faults x.answered;
  rose = x.rose;
  output = x.output;
}

-- ---- the next request, where there is one

pub next_none : {E : Type 0} (digest : Digest) (w : World) (before after : Outside) (d : Desk) (request : Option (Result Asked E)) (rs more : List Asked) → request ≡ None → Asks request rs more
    → RequestsPut digest w before rs d after → RequestsPut digest w before more d after
next_none digest w before after d None rs more is same puts = subst (λ (xs : List Asked). RequestsPut digest w before xs d after) (sym same) puts
next_none digest w before after d (Some read) rs more is asks puts = cc

pub next_put : {E : Type 0} (digest : Digest) (w : World) (before between after : Outside) (d now : Desk) (request : Option (Result Asked E)) (read : Result Asked E) (rs more : List Asked) → request ≡ Some read
    → Asks request rs more → (x : RequestsPut digest w before rs d between)
    → ((asked : Asked) → IfOk read (λ r. r ≡ asked) → IsFormed asked → RequestPut digest x.last d between asked now after) → RequestsPut digest w before more now after
next_put digest w before between after d now None read rs more is asks x put = cc
next_put digest w before between after d now (Some other) read rs more is asks x put =
    let same : other ≡ read = cc in
    subst (λ (xs : List Asked). RequestsPut digest w before xs now after) (sym asks.3)
    (put_next digest w before between after d now rs asks.0 x (put asks.0 (subst (λ r. IfOk r (λ q. q ≡ asks.0)) same asks.1) asks.2))

pub next_lacks : {E : Type 0} (digest : Digest) (w : World) (before between after : Outside) (d now : Desk) (request : Option (Result Asked E)) (read : Result Asked E) (rs more : List Asked) → request ≡ Some read
    → Asks request rs more → (x : RequestsPut digest w before rs d between)
    → ((asked : Asked) → IfOk read (λ r. r ≡ asked) → IsFormed asked → RequestLacks digest x.last d between asked now after) → RequestsLack digest w before more now after
next_lacks digest w before between after d now None read rs more is asks x lacks = cc
next_lacks digest w before between after d now (Some other) read rs more is asks x lacks =
    let same : other ≡ read = cc in
    subst (λ (xs : List Asked). RequestsLack digest w before xs now after) (sym asks.3)
    (lack_next digest w before between after d now rs asks.0 x (lacks asks.0 (subst (λ r. IfOk r (λ q. q ≡ asks.0)) same asks.1) asks.2))

-- ---- a text that is put in parts

-- a front of the text was put, and this is the rest
pub record Putting (out : Option (List ℕ)) (text rest : List ℕ) (after : Option (List ℕ)) : Type 0 where
  pub front : List ℕ
  pub whole : text ≡ front ++ rest
  pub output : after ≡ append_known out front

pub putting_start : (out : Option (List ℕ)) (text : List ℕ) → Putting out text text out
putting_start out text = record { front = []; whole = refl; output = known_nothing out }

pub putting_more : (out between after : Option (List ℕ)) (text rest : List ℕ) (n : ℕ) → Putting out text rest between
    → after ≡ append_known between (take n rest) → Putting out text (drop n rest) after
putting_more out between after text rest n p e = record {
  front = p.front ++ take n rest;
  whole = p.whole ∙ ap (λ xs. p.front ++ xs) (sym (take-append-drop n rest)) ∙ sym (append_assoc p.front (take n rest) (drop n rest));
  output = e ∙ ap (λ o. append_known o (take n rest)) p.output ∙ known_then out p.front (take n rest);
}

pub putting_broken : (out after : Option (List ℕ)) (text rest : List ℕ) → Putting out text rest after → PartPut out text after
putting_broken out after text rest p = record { part = p.front; missing = rest; whole = p.whole; output = p.output }

pub putting_done : (out after : Option (List ℕ)) (text : List ℕ) → Putting out text [] after → after ≡ append_known out text
putting_done out after text p = p.output ∙ ap (append_known out) (sym (p.whole ∙ append-nil p.front))
