-- The words of a command.
use Rattle.std.specs.Prelude.{ℕ, Bool, false, List, [], ◌∷◌, Option, Some, None, option_map, codes, if◌then◌else◌}
use Rattle.std.specs.Str.{bytes_eq}
use Rattle.clap.specs.Simple.{App, new_app, new_rule, with_rule}
use Rattle.datawave.specs.declared.command.Form.{Form}
use Rattle.datawave.specs.declared.command.Form.TheVariants.{Json, Csv}
use Rattle.datawave.specs.declared.command.Command.{Command}
use Rattle.datawave.specs.declared.command.Command.TheVariants.{Exec, Ingest}

-- the form of a name
abbrev pub form_named : List ℕ → Option Form
form_named name = if bytes_eq name (codes "json") then Some Json else if bytes_eq name (codes "csv") then Some Csv else None

-- the form that one word says, `--form=json` or `--form=csv`
abbrev pub form_in : List ℕ → Option Form
form_in word = if bytes_eq word (codes "--form=json") then Some Json else if bytes_eq word (codes "--form=csv") then Some Csv else None

-- the form that words say, as one or as two
abbrev pub form_of : List (List ℕ) → Option Form
form_of [] = None
form_of (word ∷ []) = form_in word
form_of (word ∷ name ∷ []) = if bytes_eq word (codes "--form") then form_named name else None
form_of (word ∷ name ∷ next ∷ words) = None

-- the words after `exec`, which are none
abbrev pub exec_of : List (List ℕ) → Option Command
exec_of [] = Some Exec
exec_of (word ∷ words) = None

-- the command that words are: `exec` alone, or `ingest` and a form
abbrev pub command : List (List ℕ) → Option Command
command [] = None
command (word ∷ words) =
    if bytes_eq word (codes "exec") then exec_of words
    else if bytes_eq word (codes "ingest") then option_map Ingest (form_of words)
    else None

-- the first word is `exec`
abbrev pub begins_exec : List (List ℕ) → Bool
begins_exec [] = false
begins_exec (word ∷ words) = bytes_eq word (codes "exec")

-- the words of `ingest`: one option with its value
abbrev pub ingest_app : App
ingest_app = with_rule (new_app (codes "ingest")) (record (new_rule (codes "form")) { long = Some (codes "form") })
