use Rattle.std.proofs.Common.{List, ℕ, ◌++◌, ap, ◌∙◌}
use Rattle.std.specs.Prelude.{codes, option_map}
use Rattle.http.specs.StatusCode.{status_text}
use Rattle.dw_http.specs.Texts.{allow_line, close_line}
use Rattle.dw_http.proofs.response.write_head.Goals as goal

pub returns : goal.returns
returns c =
    let first : List ℕ = codes "HTTP/1.1 " ++ status_text c.args.status ++ codes "\r\n" in
    let second : List ℕ = first ++ allow_line (option_map (λ m. m.now) c.args.allow) in
    let third : List ℕ = second ++ close_line c.args.close ++ codes "content-length: " in
    c.in_ok-push_str-5.ensures.bytes
    ∙ ap (λ xs. xs ++ codes "\r\ncontent-type: application/json\r\n\r\n")
    (c.in_ok-push_str-4.ensures.bytes
    ∙ ap (λ xs. xs ++ c.as_str-2.result.now)
    (c.in_ok-push_str-3.ensures.bytes
    ∙ ap (λ xs. xs ++ codes "content-length: ")
    (c.in_ok-push_str-2.ensures.bytes
    ∙ ap (λ xs. xs ++ c.closing.result.now)
    (c.in_ok-push_str.ensures.bytes
    ∙ ap (λ xs. xs ++ c.as_str.result.now) c.in_ok-head.ensures.ok
    ∙ ap (λ xs. first ++ xs) (c.as_str.ensures.value ∙ c.in_ok-allow.ensures))
    ∙ ap (λ xs. second ++ xs) c.closing.ensures))
    ∙ ap (λ xs. third ++ xs) (c.as_str-2.ensures.value ∙ c.in_ok-count.ensures.ok))
