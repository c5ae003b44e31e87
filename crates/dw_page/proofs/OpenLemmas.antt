-- The tablet of a shard that was read whole agrees with the tables.
use Rattle.std.proofs.Common.{◌≡◌, ℕ, List, [], ◌∷◌, refl, ap, sym, subst, ◌∙◌}
use Rattle.std.specs.Prelude.{map, Option}
use Rattle.dw_outside.specs.Tables.{Tables, cell_pair, span_of}
use Rattle.dw_outside.specs.declared.cell.Cell.{Cell}
use Rattle.dw_derive.specs.World.{World}
use Rattle.dw_derive.specs.Tables.{tables}
use Rattle.dw_tablet.specs.Places.{shard_start, shard_end}
use Rattle.dw_tablet.specs.Held.{Held, Agrees}
use Rattle.dw_scan.specs.declared.ask.Ask.{Ask}
use Rattle.dw_scan.specs.Batches.{IsOfWorld}
use Rattle.dw_scan.specs.Worlds.{content_of}
use Rattle.dw_page.specs.Asked.{IsTold}

-- the keys of cells that are given as pairs
pub keys_of_pairs : (cells : List Cell) → map (λ (c : Cell). c.key) cells ≡ map (λ p. p.0) (map cell_pair cells)
keys_of_pairs [] = refl
keys_of_pairs (c ∷ cells) = ap (λ ks. c.key ∷ ks) (keys_of_pairs cells)

-- the cells that stand in the tables at the places of the shard
pub agrees_of : (t : Held) (cells : List Cell) (shard from before : List ℕ) (w : World) → from ≡ shard_start shard → before ≡ shard_end shard → map cell_pair cells ≡ span_of 0 from before (tables w) → Agrees t (map (λ (c : Cell). c.key) cells) → Agrees t (content_of w shard)
agrees_of t cells shard from before w f b pairs a =
    let same : map (λ (c : Cell). c.key) cells ≡ content_of w shard = keys_of_pairs cells ∙ ap (map (λ p. p.0)) pairs ∙ (λ i. map (λ p. p.0) (span_of 0 (f i) (b i) (tables w))) in
    subst (Agrees t) same a

pub tablet_of_world : (kept : Option Tables) (ask : Ask) (w : World) (t : Held) (shard : List ℕ) → IsTold kept ask w → t.shard ≡ shard → Agrees t (content_of w shard) → IsOfWorld t ask w
tablet_of_world kept ask w t shard is e a = record {
  events = is.events;
  agrees = let P : List ℕ → Type 0 = λ s. Agrees t (content_of w s) in subst P (sym e) a;
  indexed = is.indexed;
}
