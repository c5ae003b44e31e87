-- What is read of the words of `ingest`.
use Rattle.std.proofs.Common.{◌≡◌, ◌∙◌, ℕ, List, [], ◌∷◌, Bool, true, false, cond, Option, Some, None, option_and_then, option_map, refl, sym, ap, subst, codes, true≢false, IsSome}
use Rattle.std.specs.Str.{bytes_eq}
use Rattle.std.proofs.lemmas.Slice.Eq.{bytes_eq-Decides}
use Rattle.clap.specs.Walk.{Row, first_of, walked}
use Rattle.clap.specs.Simple.{is_simple, matches_of}
use Rattle.datawave.specs.declared.command.Form.{Form}
use Rattle.datawave.specs.declared.command.Form.TheVariants.{Json, Csv}
use Rattle.datawave.specs.declared.command.Command.{Command}
use Rattle.datawave.specs.declared.command.Command.TheVariants.{Exec, Ingest}
use Rattle.datawave.specs.Words.{begins_exec, command, exec_of, form_named, form_of, ingest_app}

-- the form that is read of the words after the command
abbrev read_of : List (List ℕ) → Option Form
read_of ws = option_and_then form_named (first_of (codes "form") (matches_of ingest_app (codes "ingest" ∷ ws)))

same : (xs ys : List ℕ) → bytes_eq xs ys ≡ true → xs ≡ ys
same xs ys e = (bytes_eq-Decides xs ys).0 e

-- one word
one : (a b : Bool) (w : List ℕ) → bytes_eq w (codes "--form=json") ≡ a → bytes_eq w (codes "--form=csv") ≡ b → IsSome (cond a (Some Json) (cond b (Some Csv) None))
    → read_of (w ∷ []) ≡ cond a (Some Json) (cond b (Some Csv) None)
unfolding walked
one true b w ea eb some = subst (λ (v : List ℕ). read_of (v ∷ []) ≡ Some Json) (sym (same w (codes "--form=json") ea)) refl
one false true w ea eb some = subst (λ (v : List ℕ). read_of (v ∷ []) ≡ Some Csv) (sym (same w (codes "--form=csv") eb)) refl
one false false w ea eb some = absurd (true≢false (sym some))

-- two words
two : (a b c : Bool) (w n : List ℕ) → bytes_eq w (codes "--form") ≡ a → bytes_eq n (codes "json") ≡ b → bytes_eq n (codes "csv") ≡ c
    → IsSome (cond a (cond b (Some Json) (cond c (Some Csv) None)) None)
    → read_of (w ∷ n ∷ []) ≡ cond a (cond b (Some Json) (cond c (Some Csv) None)) None
unfolding walked
two true true c w n ea eb ec some =
    subst (λ (v : List ℕ). read_of (v ∷ n ∷ []) ≡ Some Json) (sym (same w (codes "--form") ea))
    (subst (λ (m : List ℕ). read_of (codes "--form" ∷ m ∷ []) ≡ Some Json) (sym (same n (codes "json") eb)) refl)
two true false true w n ea eb ec some =
    subst (λ (v : List ℕ). read_of (v ∷ n ∷ []) ≡ Some Csv) (sym (same w (codes "--form") ea))
    (subst (λ (m : List ℕ). read_of (codes "--form" ∷ m ∷ []) ≡ Some Csv) (sym (same n (codes "csv") ec)) refl)
two true false false w n ea eb ec some = absurd (true≢false (sym some))
two false b c w n ea eb ec some = absurd (true≢false (sym some))

pub form_read : (ws : List (List ℕ)) → IsSome (form_of ws) → read_of ws ≡ form_of ws
form_read [] some = absurd (true≢false (sym some))
form_read (w ∷ []) some = one (bytes_eq w (codes "--form=json")) (bytes_eq w (codes "--form=csv")) w refl refl some
form_read (w ∷ n ∷ []) some = two (bytes_eq w (codes "--form")) (bytes_eq n (codes "json")) (bytes_eq n (codes "csv")) w n refl refl refl some
form_read (w ∷ n ∷ next ∷ ws) some = absurd (true≢false (sym some))

-- the same from what the reader's parts say
pub form_from : (ws : List (List ℕ)) (rows : List Row) (got : Option (List ℕ)) → IsSome (form_of ws) → rows ≡ matches_of ingest_app (codes "ingest" ∷ ws)
    → got ≡ first_of (codes "form") rows → option_and_then form_named got ≡ form_of ws
form_from ws rows got some rows_are got_is = ap (option_and_then form_named) (got_is ∙ ap (first_of (codes "form")) rows_are) ∙ form_read ws some

pub is_simple_ingest : is_simple ingest_app ≡ true
is_simple_ingest = refl

-- ---- the command

some_form : (o : Option Form) → IsSome (option_map Ingest o) → IsSome o
some_form None some = some
some_form (Some f) some = refl

at_ingest : (a b : Bool) (w : List ℕ) (ws : List (List ℕ)) → bytes_eq w (codes "exec") ≡ a → bytes_eq w (codes "ingest") ≡ b → a ≡ false
    → IsSome (cond a (exec_of ws) (cond b (option_map Ingest (form_of ws)) None)) → (rest : List (List ℕ)) × (w ∷ ws ≡ codes "ingest" ∷ rest) × IsSome (form_of rest)
at_ingest true b w ws ea eb other some = absurd (true≢false other)
at_ingest false true w ws ea eb other some = (ws, ap (λ (v : List ℕ). v ∷ ws) (same w (codes "ingest") eb), some_form (form_of ws) some)
at_ingest false false w ws ea eb other some = absurd (true≢false (sym some))

-- the words of a command that is not `exec`
pub ingest_words : (words : List (List ℕ)) → begins_exec words ≡ false → IsSome (command words) → (rest : List (List ℕ)) × (words ≡ codes "ingest" ∷ rest) × IsSome (form_of rest)
ingest_words [] other some = absurd (true≢false (sym some))
ingest_words (w ∷ ws) other some = at_ingest (bytes_eq w (codes "exec")) (bytes_eq w (codes "ingest")) w ws refl refl other some

at_exec : (a : Bool) (ws : List (List ℕ)) (more : Option Command) → a ≡ true → IsSome (cond a (exec_of ws) more) → Some Exec ≡ cond a (exec_of ws) more
at_exec true [] more e some = refl
at_exec true (w ∷ ws) more e some = absurd (true≢false (sym some))
at_exec false ws more e some = absurd (true≢false (sym e))

pub exec_words : (words : List (List ℕ)) → begins_exec words ≡ true → IsSome (command words) → Some Exec ≡ command words
exec_words [] e some = absurd (true≢false (sym some))
exec_words (w ∷ ws) e some = at_exec (bytes_eq w (codes "exec")) ws (cond (bytes_eq w (codes "ingest")) (option_map Ingest (form_of ws)) None) e some

-- the command of a form
pub ingest_is : (words rest : List (List ℕ)) (o : Option Form) → words ≡ codes "ingest" ∷ rest → o ≡ form_of rest → option_map Ingest o ≡ command words
ingest_is words rest o e is = ap (option_map Ingest) is ∙ sym (ap command e)
