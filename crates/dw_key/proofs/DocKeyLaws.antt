-- The order of document keys is total, and keys that compare alike are one.
use Rattle.std.specs.Cmp.Lexicographic.{nat_list_cmp_total}
use Rattle.std.specs.Cmp.{IsTotalOrder, on_total, then_total}
use Rattle.std.proofs.lemmas.Map.Lookups.{CmpEqualImpliesEq}
use Rattle.dw_key.specs.DocKeys.{doc_key_cmp, exact_doc_keys}

pub doc_keys_total : IsTotalOrder doc_key_cmp
doc_keys_total = then_total (on_total (λ k. k.dtype) nat_list_cmp_total) (on_total (λ k. k.uid) nat_list_cmp_total)

pub doc_keys_exact : CmpEqualImpliesEq doc_key_cmp
doc_keys_exact = exact_doc_keys
