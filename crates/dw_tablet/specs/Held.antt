-- What contracts see of a tablet, and which contents agree with it.
use Rattle.std.specs.Prelude.{◌≡◌, ℕ, List, refl}
use Rattle.std.specs.Coded.{Coded, code_by, coded×, coded_list, coded_ℕ}
use Rattle.dw_tablet.specs.declared.span.Span.{Span}
use Rattle.dw_tablet.specs.Places.{IsContent, AgreesAt, CoversAll, between, shard_end}

-- the shard, the covered spans, and the keys of the cells at covered places
pub record Held : Type 0 where
  pub shard : List ℕ
  pub spans : List Span
  pub keys : List (List ℕ)

abbrev pub coded_span : Coded Span
coded_span = code_by (List ℕ × List ℕ) (coded× (coded_list coded_ℕ) (coded_list coded_ℕ)) (λ s. (s.from, s.upto)) (λ p. record { from = p.0; upto = p.1 }) (λ _. refl)

abbrev pub coded_held : Coded Held
coded_held =
    code_by (List ℕ × (List Span × List (List ℕ))) (coded× (coded_list coded_ℕ) (coded× (coded_list coded_span) (coded_list (coded_list coded_ℕ))))
    (λ t. (t.shard, (t.spans, t.keys))) (λ p. record { shard = p.0; spans = p.1.0; keys = p.1.1 }) (λ _. refl)

-- the content is one of the shard, and has the tablet's keys at its covered places, and no others there
pub record Agrees (t : Held) (content : List (List ℕ)) : Type 0 where
  pub is : IsContent t.shard content
  pub same : AgreesAt t.spans t.keys content

-- where all is covered, tablet and content have the same keys
abbrev pub SameBetween : Type 0
SameBetween = (t : Held) (content : List (List ℕ)) (a b : List ℕ) → Agrees t content → CoversAll t.spans a b → between a b content ≡ between a b t.keys
