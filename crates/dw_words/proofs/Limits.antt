-- The limits of numbers that a command gives.
use Rattle.std.proofs.Common.{◌≡◌, ◌∙◌, ◌&&◌, ℕ, Bool, true, false, nat_le, List, Option, Some, None, option_map, option_and_then, is_some, codes, IfSome, IsTrue, refl, sym, ap, true≢false}
use Rattle.std.specs.Str.Parse.{digits_value}
use Rattle.dw_words.specs.declared.kind.Kind.{Kind}
use Rattle.dw_words.specs.declared.kind.Kind.TheVariants as kind
use Rattle.dw_words.specs.declared.command.Place.{Place}
use Rattle.dw_words.specs.declared.command.Command.{Command}
use Rattle.dw_words.specs.Options.{Options, Text, options_for, value_of}
use Rattle.dw_words.specs.Values.{number, given_number, workers, batches, form}
use Rattle.dw_words.specs.Words.{exec_of, ingest_of, demo_of, serve_of, place_of, command_of, command_after, takes, is_within}
use Rattle.dw_words.proofs.Numbers.{number_is}

abbrev Holds : Option Command → Type 0
Holds o = IfSome o (λ c. IsTrue (is_within c))

-- what holds of each command that an option gives
through : {A : Type 0} (o : Option A) (f : A → Option Command) → ((x : A) → o ≡ Some x → Holds (f x)) → Holds (option_and_then f o)
through None f each = tt
through (Some x) f each = each x refl

mapped : {A : Type 0} (o : Option A) (f : A → Command) → ((x : A) → IsTrue (is_within (f x))) → Holds (option_map f o)
mapped None f each = tt
mapped (Some x) f each = each x

number_within : (least most n : ℕ) (text : Text) → number least most text ≡ Some n → (nat_le least n && nat_le n most) ≡ true
number_within least most n text e =
    let is = number_is least most text (ap (λ (o : Option ℕ). is_some o) e) in
    let same : n ≡ digits_value 10 text = cc in
    ap (λ k. nat_le least k && nat_le k most) same ∙ is.1

given_within : (least most n : ℕ) (value : Option Text) → given_number least most value ≡ Some n → (nat_le least n && nat_le n most) ≡ true
given_within least most n None e = cc
given_within least most n (Some text) e = number_within least most n text e

joined : (a b c d : Bool) → (a && b) ≡ true → (c && d) ≡ true → (a && (b && (c && d))) ≡ true
joined true true c d e f = f
joined true false c d e f = absurd (true≢false (sym e))
joined false b c d e f = absurd (true≢false (sym e))

exec_within : (w b : Option Text) (p : Option Place) → Holds (exec_of w b p)
exec_within w b p = through (workers w) _ (λ n e. through (batches b) _ (λ l e. mapped p _ (λ x. refl)))

ingest_within : (f : Option Text) (p : Option Place) → Holds (ingest_of f p)
ingest_within f p = through (form f) _ (λ x e. mapped p _ (λ y. refl))

demo_within : (s e w : Option Text) → Holds (demo_of s e w)
demo_within s e w = through (given_number 0 4294967295 s) _ (λ seed _. through (given_number 1 100000 e) _ (λ n is. mapped (workers w) _ (λ x. given_within 1 100000 n e is)))

serve_within : (q c w b : Option Text) (p : Option Place) → Holds (serve_of q c w b p)
serve_within q c w b p =
    through (given_number 1 65535 q) _ (λ port at. through (given_number 1 1000000 c) _ (λ n is. through (workers w) _ (λ k _. through (batches b) _ (λ l _. mapped p _
    (λ x. joined (nat_le 1 port) (nat_le port 65535) (nat_le 1 n) (nat_le n 1000000) (given_within 1 65535 port q at) (given_within 1 1000000 n c is))))))

command_within : (k : Kind) (ps : Options) → Holds (command_of k ps)
command_within kind.Exec ps = exec_within (value_of (codes "workers") ps) (value_of (codes "batches") ps) (place_of ps)
command_within kind.Ingest ps = ingest_within (value_of (codes "form") ps) (place_of ps)
command_within kind.Audit ps = mapped (place_of ps) _ (λ x. refl)
command_within kind.Demo ps = demo_within (value_of (codes "seed") ps) (value_of (codes "events") ps) (value_of (codes "workers") ps)
command_within kind.Serve ps =
    serve_within (value_of (codes "port") ps) (value_of (codes "connections") ps) (value_of (codes "workers") ps) (value_of (codes "batches") ps) (place_of ps)

pub after_within : (k : Kind) (ws : List Text) → IfSome (command_after ws k) (λ c. IsTrue (is_within c))
after_within k ws = through (options_for (takes k) ws) (command_of k) (λ ps e. command_within k ps)
