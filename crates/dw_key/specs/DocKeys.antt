-- The order of document keys.
use Rattle.std.specs.Prelude.{ℕ, List, refl}
use Rattle.std.specs.Ordering.{nat_cmp, on, then_cmp}
use Rattle.std.specs.Cmp.Lexicographic.{slice_cmp}
use Rattle.std.specs.Coded.{Coded, code_by, coded×, coded_list, coded_ℕ}
use Rattle.std.specs.declared.cmp.Ordering.{Ordering}
use Rattle.std.proofs.Common.{ap}
use Rattle.std.proofs.lemmas.Map.Lookups.{CmpEqualImpliesEq, exact_pairs, exact_bytes}
use Rattle.dw_key.specs.declared.doc_key.DocKey.{DocKey}

-- by the bytes of the type, and then by those of the uid
abbrev pub doc_key_cmp : DocKey → DocKey → Ordering
doc_key_cmp = then_cmp (on (λ k. k.dtype) (slice_cmp nat_cmp)) (on (λ k. k.uid) (slice_cmp nat_cmp))

-- a document key as the pair of its type and its uid, by which a model holds it
abbrev pub coded_doc_key : Coded DocKey
coded_doc_key = code_by (List ℕ × List ℕ) (coded× (coded_list coded_ℕ) (coded_list coded_ℕ)) (λ k. (k.dtype, k.uid)) (λ p. record { dtype = p.0; uid = p.1 }) (λ _. refl)

-- keys that are ordered alike are one
pub exact_doc_keys : CmpEqualImpliesEq doc_key_cmp
exact_doc_keys a b e = ap (λ (p : List ℕ × List ℕ). record { dtype = p.0; uid = p.1 }) (exact_pairs (slice_cmp nat_cmp) (slice_cmp nat_cmp) exact_bytes exact_bytes (a.dtype, a.uid) (b.dtype, b.uid) e)
