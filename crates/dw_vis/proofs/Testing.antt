-- The test says whether a text keeps every rule.
use Rattle.std.proofs.Common.{◌≡◌, ℕ, Bool, true, false, ◌&&◌, not, nat_le, List, [], length, Result, Ok, Err, refl, ap, ◌∙◌}
use Rattle.std.specs.Str.{is_utf8}
use Rattle.std.proofs.lemmas.Bool.{leb-true, le-leb}
use Rattle.std.proofs.lemmas.Str.{IsUtf8-from_is_utf8, is_utf8-from_IsUtf8}
use Rattle.dw_vis.specs.declared.error.VisError.{VisError}
use Rattle.dw_vis.specs.declared.error.VisError.TheVariants.{TooLong, TooDeep, Syntax, Mixed, OutOfMemory}
use Rattle.dw_vis.specs.Depth.{is_deep}
use Rattle.dw_vis.specs.Reading.{Outcome, refused, mixes, reads, read}
use Rattle.dw_vis.specs.Sight.{seen_by}
use Rattle.dw_vis.specs.Verdict.{IsVis, IsParsed}
use Rattle.dw_vis.specs.Test.{is_read, is_vis, VisIsTested, IsTested}
use Rattle.dw_vis.proofs.Standing.{and_parts, read_vis, vis_read}
use Rattle.dw_vis.proofs.Verdicts.{kept_breaks}

and_true : (a b : Bool) → a ≡ true → b ≡ true → (a && b) ≡ true
and_true a b e f = ap (λ x. x && b) e ∙ f

not_true : (b : Bool) → not b ≡ true → b ≡ false
not_true true e = cc
not_true false e = refl

read_some : (o : Outcome Bool) → is_read o ≡ true → (b : Bool) × (o ≡ reads b)
read_some refused e = cc
read_some mixes e = cc
read_some (reads b) e = (b, refl)

keeps_all : (text : List ℕ) → is_vis text ≡ true → IsVis text
unfolding is_vis
keeps_all text h =
    let short = and_parts (nat_le (length text) 512) _ h in
    let shallow = and_parts (not (is_deep text)) _ short.1 in
    let utf8 = and_parts (is_utf8 text) _ shallow.1 in
    let some = read_some (read (seen_by []) text) utf8.1 in
    let v = read_vis text [] some.0 (IsUtf8-from_is_utf8 text utf8.0) some.1 in
    record {
      limits = record { short = leb-true (length text) 512 short.0; shallow = not_true (is_deep text) shallow.0 };
      tree = v.tree;
      spelt = v.spelt;
    }

passes : (text : List ℕ) → IsVis text → is_vis text ≡ true
unfolding is_vis
passes text v =
    and_true (nat_le (length text) 512) _ (le-leb (length text) 512 v.limits.short)
    (and_true (not (is_deep text)) _ (ap not v.limits.shallow)
    (and_true (is_utf8 text) _ (is_utf8-from_IsUtf8 text v.spelt.utf8) (ap is_read (vis_read text [] v.tree v.spelt))))

pub vis_is_tested : VisIsTested
vis_is_tested text = (keeps_all text, passes text)

fails : (text : List ℕ) → (IsVis text → ⊥) → is_vis text ≡ false
fails text h = at (is_vis text) refl
  where
    at : (b : Bool) → is_vis text ≡ b → b ≡ false
    at true e = absurd (h (keeps_all text e))
    at false e = refl

-- by the answer of parsing
pub tested : (text : List ℕ) (r : Result (List ℕ) VisError) → IsParsed text r → IsTested text r
tested text (Ok vis) p = (p.0, passes text p.1)
tested text (Err TooLong) p = fails text (λ v. kept_breaks text TooLong v p)
tested text (Err TooDeep) p = fails text (λ v. kept_breaks text TooDeep v p)
tested text (Err Syntax) p = fails text (λ v. kept_breaks text Syntax v p)
tested text (Err Mixed) p = fails text (λ v. kept_breaks text Mixed v p)
tested text (Err OutOfMemory) p = passes text p
