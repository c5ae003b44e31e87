use Rattle.std.proofs.Common.{◌≡◌, ◌∙◌, List, ℕ, Bor, Option, codes, map, ap, subst, option_map, option_and_then, IsSome}
use Rattle.clap.specs.Matches.{found_of}
use Rattle.clap.specs.Walk.{rows_of}
use Rattle.clap.specs.Simple.{App, is_simple, matches_of}
use Rattle.clap.proofs.WalkLemmas.{first_value-rows}
use Rattle.datawave.specs.Words.{form_named, form_of, ingest_app}
use Rattle.datawave.proofs.ReadingWords.{form_from, is_simple_ingest}
use Rattle.datawave.proofs.command.read_form.Goals as goal

pub returns-in-Some : goal.returns-in-Some
returns-in-Some c ws e =
    let words : List (List ℕ) = map (λ (w : Bor (List ℕ)). w.now) c.args.words.now in
    let app = c.in_ok-ingest_command.ensures in
    let rest : c.requires.0 ≡ ws = cc in
    let some : IsSome (form_of ws) = subst (λ (v : List (List ℕ)). IsSome (form_of v)) rest c.requires.2 in
    let rows = c.in-Ok.ensures.matches (ap is_simple app ∙ is_simple_ingest) in
    let read = form_from ws (rows_of (found_of c.in-Ok.matches)) (option_map (λ (s : Bor (List ℕ)). s.now) c.get_str.result) some
    (rows.0 ∙ ap (λ (a : App). matches_of a words) app ∙ ap (matches_of ingest_app) e) (c.get_str.ensures ∙ first_value-rows (found_of c.in-Ok.matches) (codes "form")) in
    c.named_form.ensures ∙ subst (λ (o : Option (Bor (List ℕ))). option_and_then form_named (option_map (λ (s : Bor (List ℕ)). s.now) o) ≡ form_of ws) c.in-Some.is read

pub returns-in-Ok : goal.returns-in-Ok
returns-in-Ok c ws e =
    let words : List (List ℕ) = map (λ (w : Bor (List ℕ)). w.now) c.args.words.now in
    let app = c.in_ok-ingest_command.ensures in
    let rest : c.requires.0 ≡ ws = cc in
    let some : IsSome (form_of ws) = subst (λ (v : List (List ℕ)). IsSome (form_of v)) rest c.requires.2 in
    let rows = c.in-Ok.ensures.matches (ap is_simple app ∙ is_simple_ingest) in
    let read = form_from ws (rows_of (found_of c.in-Ok.matches)) (option_map (λ (s : Bor (List ℕ)). s.now) c.get_str.result) some
    (rows.0 ∙ ap (λ (a : App). matches_of a words) app ∙ ap (matches_of ingest_app) e) (c.get_str.ensures ∙ first_value-rows (found_of c.in-Ok.matches) (codes "form")) in
    subst (λ (o : Option (Bor (List ℕ))). option_and_then form_named (option_map (λ (s : Bor (List ℕ)). s.now) o) ≡ form_of ws) c.in-None.is read
