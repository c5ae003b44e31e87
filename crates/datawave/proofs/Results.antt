-- On what is said of one variant of a result, where it is the other.
use Rattle.std.proofs.Common.{Result, Ok, Err, IfOk, OnOk, OnErr, IsErr, rules}

pub on_err_always : {T E P : Type 0} (r : Result T E) → P → OnErr r P
on_err_always (Ok x) p = search rules
on_err_always (Err e) p = p

pub if_ok_of_err : {T E : Type 0} (r : Result T E) (P : T → Type 0) → IsErr r → IfOk r P
if_ok_of_err (Ok x) P e = absurd (search rules)
if_ok_of_err (Err e) P h = search rules

-- what is said of the variant that is there follows from something else that is
pub on_ok_then : {T E P Q : Type 0} (r : Result T E) → (P → Q) → OnOk r P → OnOk r Q
on_ok_then (Ok x) f p = f p
on_ok_then (Err e) f p = p

pub on_err_then : {T E P Q : Type 0} (r : Result T E) → (P → Q) → OnErr r P → OnErr r Q
on_err_then (Ok x) f p = p
on_err_then (Err e) f p = f p
