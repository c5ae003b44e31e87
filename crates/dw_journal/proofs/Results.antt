use Rattle.std.proofs.Common.{◌≡◌, ℕ, Bool, true, false, subst, ap, ◌∙◌}
use Rattle.std.proofs.lemmas.Bool.{false≢true}
use Rattle.std.specs.Prelude.{Result, Ok, Err, OnOk, OnErr, Option, Some, None, IfOk, IfSome, ◌==◌}
use Rattle.dw_outside.specs.Disks.{DiskState, DiskModel, Now}

pub on_err : {T E : Type 0} (result : Result T E) (P : Type 0) → P → OnErr result P
on_err (Ok t) P p = tt
on_err (Err e) P p = p

pub on_err_more : {T E : Type 0} (result : Result T E) (P Q : Type 0) → (P → Q) → OnErr result P → OnErr result Q
on_err_more (Ok t) P Q more p = tt
on_err_more (Err e) P Q more p = more p

pub some_is : {X : Type 0} (result : Option X) (x : X) (P : X → Type 0) → result ≡ Some x → IfSome result P → P x
some_is {X = X} result x P is holds = subst (λ (r : Option X). IfSome r P) is holds

pub not_zero : (n : ℕ) → false ≡ (n == 0) → n ≡ 0 → ⊥
not_zero n is zero = false≢true (is ∙ ap (λ (k : ℕ). k == 0) zero)

pub on_ok_more : {T E : Type 0} (result : Result T E) (P Q : Type 0) → (P → Q) → OnOk result P → OnOk result Q
on_ok_more (Ok t) P Q more p = more p
on_ok_more (Err e) P Q more p = tt

pub ok_now : {T E : Type 0} (result : Result T E) (m : Option DiskModel) (R : T → DiskState → Type 0) → Now (λ s. IfOk result (λ t. R t s)) m → IfOk result (λ t. Now (R t) m)
ok_now (Ok t) None R now = tt
ok_now (Ok t) (Some m) R now = now
ok_now (Err e) m R now = tt

pub now_both : (P Q R : DiskState → Type 0) (m : Option DiskModel) → ((s : DiskState) → P s → Q s → R s) → Now P m → Now Q m → Now R m
now_both P Q R None both p q = tt
now_both P Q R (Some m) both p q = both m.now p q

pub if_ok_more : {T E : Type 0} (result : Result T E) (P Q : T → Type 0) → ((t : T) → P t → Q t) → IfOk result P → IfOk result Q
if_ok_more (Ok t) P Q more p = more t p
if_ok_more (Err e) P Q more p = tt
