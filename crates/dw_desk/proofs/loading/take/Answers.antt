use Rattle.std.proofs.Common.{◌≡◌, ap, sym, ◌∙◌}
use Rattle.std.specs.Prelude.{Some, unwrap_or}
use Rattle.std.proofs.lemmas.Result.{on_ok_weaker}
use Rattle.dw_derive.specs.Decoded.{key_from}
use Rattle.dw_derive.specs.MetaReaders.{commit_reading, field_reading, grant_reading}
use Rattle.dw_outside.specs.Tables.{cell_pair}
use Rattle.dw_desk.specs.Stands.{grants_of}
use Rattle.dw_desk.specs.Loading.{with_entry}
use Rattle.dw_desk.proofs.MetaSaid.{said_more}
use Rattle.dw_desk.proofs.loading.take.Goals as goal

pub returns : goal.returns
returns c = λ cells said.
    let old = c.args.start.now in
    let cell = c.args.cell.now in
    let key = c.in-Some.key in
    let content : c.as_slice-content.result.now ≡ cell.content = c.as_slice-content.ensures in
    let read : key_from cell.key ≡ Some key = ap key_from (sym c.as_slice.ensures) ∙ sym c.in_ok-key.ensures ∙ c.in-Some.is in
    let last : c.unwrap_or-start.result ≡ unwrap_or (commit_reading key cell.content) old.last =
    c.unwrap_or-start.ensures ∙ ap (λ n. unwrap_or n old.last) (c.commit_number.ensures ∙ ap (commit_reading key) content) in
    let grants : grants_of c.take_grant.new.grants ≡ with_entry (grant_reading key cell.content) (grants_of old.grants) =
    c.in_ok-take_grant.ensures ∙ ap (λ bytes. with_entry (grant_reading key bytes) (grants_of old.grants)) content in
    on_ok_weaker c.take_field.result
    (λ dict. said_more (cell_pair cell) key cells old (record { dict = c.take_field.new.dict; grants = c.take_grant.new.grants; last = c.unwrap_or-start.result })
    read said last grants (dict ∙ ap (λ bytes. with_entry (field_reading key bytes) old.dict) content))
    c.take_field.ensures
