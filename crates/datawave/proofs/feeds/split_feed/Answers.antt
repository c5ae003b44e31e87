use Rattle.std.proofs.Common.{◌≡◌, ◌∙◌, ◌++◌, ◌∷◌, [], ◌+◌, ap, sym, List, ℕ, drop}
use Rattle.std.proofs.lemmas.List.{drop-drop}
use Rattle.datawave.specs.Lines.{whole_lines_after, rest_after}
use Rattle.datawave.proofs.feeds.split_feed.Goals as goal

pub returns-clause-found : goal.returns-clause-found
returns-clause-found c front =
    let at : ℕ = c.in_ok-at.at in
    let more : drop (at + 1) c.args.bytes.now ≡ c.after.result.now =
    sym (c.after.ensures ∙ ap (drop 1) c.split_at.ensures.back ∙ drop-drop 1 at c.args.bytes.now) in
    c.in_ok-at.ensures.found front
    ∙ ap (λ (text : List ℕ). (front ++ text) ∷ whole_lines_after [] (drop (at + 1) c.args.bytes.now)) (sym c.split_at.ensures.front)
    ∙ ap (λ (rest : List ℕ). (front ++ c.split_at.result.0.now) ∷ whole_lines_after [] rest) more

pub returns-clause-left : goal.returns-clause-left
returns-clause-left c front =
    let at : ℕ = c.in_ok-at.at in
    c.in_ok-at.ensures.left front
    ∙ ap (rest_after []) (sym (c.after.ensures ∙ ap (drop 1) c.split_at.ensures.back ∙ drop-drop 1 at c.args.bytes.now))
