use Rattle.std.proofs.Common.{◌≡◌, [], ◌∷◌, ◌++◌, ap, ap₂, ◌∙◌}
use Rattle.json.specs.Print.{print}
use Rattle.serde_json.proofs.Texts.{print-outline}
use Rattle.dw_wire.specs.ReplyText.{reply_data, reply_text}
use Rattle.dw_wire.specs.ReplyTokens.{data_tokens}
use Rattle.dw_wire.proofs.writing.write_reply.Goals as goal

pub returns : goal.returns
unfolding reply_text
returns c =
    let said = reply_data c.args.reply.now in
    let tokens : c.put_reply.new.out.tokens ≡ data_tokens said = c.in_ok-put_reply.ensures.tokens ∙ ap (λ ts. ts ++ data_tokens said) c.new-out.ensures.tokens in
    let before : c.put_reply.new.out.before ≡ [] = c.in_ok-put_reply.ensures.before ∙ c.new-out.ensures.before ∙ c.new.ensures.items in
    c.from_vec.ensures ∙ c.in_ok-push.ensures.items
    ∙ ap (λ bytes. bytes ++ 10 ∷ []) (c.into_inner-text.ensures.items ∙ ap₂ (λ bytes ts. bytes ++ print ts) before tokens ∙ print-outline said)
