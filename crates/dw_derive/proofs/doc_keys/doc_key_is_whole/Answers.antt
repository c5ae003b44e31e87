use Rattle.dw_derive.proofs.doc_keys.doc_key_is_whole.Goals as goal

pub returns : goal.returns
returns c = record { dtype = c.as_slice-dtype.ensures.rule; uid = c.uid_is_whole.ensures }
