use Rattle.std.proofs.Common.{◌∙◌, [], ◌∷◌, ◌++◌, map, ap, string_bytes}
use Rattle.std.specs.List.{before_first, after_first, join_with_byte}
use Rattle.std.proofs.lemmas.Result.{on_ok_weaker}
use Rattle.std.specs.Str.Parse.{digits_value}
use Rattle.dw_norm.specs.Digits.{decimal}
use Rattle.dw_norm.specs.Addresses.{is_point, address_of}
use Rattle.dw_norm.proofs.Addresses.{joined}
use Rattle.dw_norm.proofs.address.put_groups.Goals as goal

pub returns : goal.returns
unfolding address_of
returns c =
    let one = c.behind_point-behind_first.ensures in
    let two = c.behind_point-behind_second.ensures ∙ ap (after_first is_point) one in
    let first = c.before_point.ensures in
    let second = c.before_point-2.ensures ∙ ap (before_first is_point) one in
    let third = c.before_point-3.ensures ∙ ap (before_first is_point) two in
    let fourth = c.behind_point.ensures ∙ ap (after_first is_point) two in
    on_ok_weaker c.put_group-4.result
    (λ h.
    joined (string_bytes c.args.out.now) _ _ _ _ _ _ _ _ _ _ _ c.in_ok-put_group.ensures c.in_ok-put.ensures c.in_ok-put_group-2.ensures c.in_ok-put-2.ensures c.in_ok-put_group-3.ensures c.in_ok-put-3.ensures h
    ∙ (λ i. string_bytes c.args.out.now ++ join_with_byte 46 (map (decimal 3) (map (digits_value 10) (first i ∷ second i ∷ third i ∷ fourth i ∷ [])))))
    c.put_group-4.ensures
