-- The command that words are.
use Rattle.std.specs.Prelude.{ℕ, ◌||◌, ◌&&◌, nat_le, true, List, [], ◌∷◌, Bool, Option, Some, None, option_map, option_and_then, codes, if◌then◌else◌}
use Rattle.std.specs.Str.{bytes_eq}
use Rattle.dw_words.specs.declared.kind.Kind.{Kind}
use Rattle.dw_words.specs.declared.kind.Kind.TheVariants as kind
use Rattle.dw_words.specs.declared.command.Place.{Place}
use Rattle.dw_words.specs.declared.command.Place.TheVariants.{Memory, Store, Journal}
use Rattle.dw_words.specs.declared.command.Command.{Command}
use Rattle.dw_words.specs.declared.command.Command.TheVariants.{Exec, Ingest, Audit, Demo, Serve}
use Rattle.dw_words.specs.Options.{Options, Text, options_for, value_in, value_of}
use Rattle.dw_words.specs.Values.{workers, batches, form, place, given_number}

-- the command that a word names
abbrev pub kind_named : Text → Option Kind
kind_named word =
    if bytes_eq word (codes "exec") then Some kind.Exec
    else if bytes_eq word (codes "ingest") then Some kind.Ingest
    else if bytes_eq word (codes "audit") then Some kind.Audit
    else if bytes_eq word (codes "demo") then Some kind.Demo
    else if bytes_eq word (codes "serve") then Some kind.Serve
    else None

abbrev pub names_place : Text → Bool
names_place name = bytes_eq name (codes "store") || bytes_eq name (codes "journal")

abbrev pub names_search : Text → Bool
names_search name = bytes_eq name (codes "workers") || bytes_eq name (codes "batches")

-- the names of the options that a command takes
abbrev pub takes : Kind → Text → Bool
takes kind.Exec name = names_search name || names_place name
takes kind.Ingest name = bytes_eq name (codes "form") || names_place name
takes kind.Audit name = names_place name
takes kind.Demo name = bytes_eq name (codes "seed") || (bytes_eq name (codes "events") || bytes_eq name (codes "workers"))
takes kind.Serve name = bytes_eq name (codes "port") || (bytes_eq name (codes "connections") || (names_search name || names_place name))

-- ---- each command, by the values of its options

abbrev pub exec_of : Option Text → Option Text → Option Place → Option Command
exec_of w b p =
    option_and_then (λ workers. option_and_then (λ batches. option_map (λ place. Exec workers batches place) p) (batches b)) (workers w)

abbrev pub ingest_of : Option Text → Option Place → Option Command
ingest_of f p = option_and_then (λ form. option_map (λ place. Ingest form place) p) (form f)

abbrev pub audit_of : Option Place → Option Command
audit_of p = option_map (λ place. Audit place) p

abbrev pub demo_of : Option Text → Option Text → Option Text → Option Command
demo_of s e w =
    option_and_then (λ seed. option_and_then (λ events. option_map (λ workers. Demo seed events workers) (workers w))
    (given_number 1 100000 e)) (given_number 0 4294967295 s)

abbrev pub serve_of : Option Text → Option Text → Option Text → Option Text → Option Place → Option Command
serve_of q c w b p =
    option_and_then (λ port. option_and_then (λ connections. option_and_then (λ workers. option_and_then (λ batches.
    option_map (λ place. Serve port connections workers batches place) p) (batches b)) (workers w))
    (given_number 1 1000000 c)) (given_number 1 65535 q)

abbrev pub place_of : Options → Option Place
place_of ps = place (value_of (codes "store") ps) (value_of (codes "journal") ps)

-- a command by its options
abbrev pub command_of : Kind → Options → Option Command
command_of kind.Exec ps = exec_of (value_of (codes "workers") ps) (value_of (codes "batches") ps) (place_of ps)
command_of kind.Ingest ps = ingest_of (value_of (codes "form") ps) (place_of ps)
command_of kind.Audit ps = audit_of (place_of ps)
command_of kind.Demo ps = demo_of (value_of (codes "seed") ps) (value_of (codes "events") ps) (value_of (codes "workers") ps)
command_of kind.Serve ps =
    serve_of (value_of (codes "port") ps) (value_of (codes "connections") ps) (value_of (codes "workers") ps) (value_of (codes "batches") ps) (place_of ps)

-- a command by the words after its name
abbrev pub command_after : List Text → Kind → Option Command
command_after words kind = option_and_then (command_of kind) (options_for (takes kind) words)

-- the command that words are
abbrev pub command : List Text → Option Command
command [] = None
command (word ∷ words) = option_and_then (command_after words) (kind_named word)

-- ---- each command, by what words give that are options

abbrev pub place_given : List Text → Option Place
place_given ws = place (value_in (codes "store") ws) (value_in (codes "journal") ws)

abbrev pub workers_given : List Text → Option ℕ
workers_given ws = workers (value_in (codes "workers") ws)

abbrev pub batches_given : List Text → Option (List ℕ)
batches_given ws = batches (value_in (codes "batches") ws)

abbrev pub exec_in : List Text → Option Command
exec_in ws = exec_of (value_in (codes "workers") ws) (value_in (codes "batches") ws) (place_given ws)

abbrev pub ingest_in : List Text → Option Command
ingest_in ws = ingest_of (value_in (codes "form") ws) (place_given ws)

abbrev pub audit_in : List Text → Option Command
audit_in ws = audit_of (place_given ws)

abbrev pub demo_in : List Text → Option Command
demo_in ws = demo_of (value_in (codes "seed") ws) (value_in (codes "events") ws) (value_in (codes "workers") ws)

abbrev pub serve_in : List Text → Option Command
serve_in ws =
    serve_of (value_in (codes "port") ws) (value_in (codes "connections") ws) (value_in (codes "workers") ws) (value_in (codes "batches") ws) (place_given ws)

abbrev pub command_in : List Text → Kind → Option Command
command_in ws kind.Exec = exec_in ws
command_in ws kind.Ingest = ingest_in ws
command_in ws kind.Audit = audit_in ws
command_in ws kind.Demo = demo_in ws
command_in ws kind.Serve = serve_in ws

-- the port and how many events and connections are within their limits
abbrev pub is_within : Command → Bool
is_within (Demo seed events workers) = nat_le 1 events && nat_le events 100000
is_within (Serve port connections workers batches place) = nat_le 1 port && (nat_le port 65535 && (nat_le 1 connections && nat_le connections 1000000))
is_within _ = true

-- ---- where a command's tables are

abbrev pub place_in : Command → Place
place_in (Exec workers batches place) = place
place_in (Ingest form place) = place
place_in (Audit place) = place
place_in (Demo seed events workers) = Memory
place_in (Serve port connections workers batches place) = place

abbrev pub store_at : Place → Option Text
store_at (Store path) = Some path
store_at _ = None

abbrev pub journal_at : Place → Option Text
journal_at (Journal path) = Some path
journal_at _ = None

-- the value of `--store`, where words are a command that has it
abbrev pub store_named : List Text → Option Text
store_named words = option_and_then (λ c. store_at (place_in c)) (command words)

-- the value of `--journal`, where words are a command that has it
abbrev pub journal_named : List Text → Option Text
journal_named words = option_and_then (λ c. journal_at (place_in c)) (command words)
