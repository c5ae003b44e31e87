-- A text keeps every rule, or has one first rule that it breaks.
use Rattle.std.proofs.Common.{◌≡◌, ℕ, ◌<◌, ◌≤◌, Bool, true, false, List, [], length, Result, Ok, Err, refl, sym, ap, ◌∙◌, arith, inl, inr, ◌⊎◌}
use Rattle.std.specs.Str.{IsUtf8}
use Rattle.std.proofs.lemmas.Str.{IsUtf8-nil}
use Rattle.dw_vis.specs.declared.error.VisError.{VisError}
use Rattle.dw_vis.specs.declared.error.VisError.TheVariants.{TooLong, TooDeep, Syntax, Mixed, OutOfMemory}
use Rattle.dw_vis.specs.Trees.{Tree, Everyone}
use Rattle.dw_vis.specs.Grammar.{Sentence, nothing, an, sentence_text, VisIn}
use Rattle.dw_vis.specs.Mixing.{mix_nothing, mix_an, MixedIn}
use Rattle.dw_vis.specs.Depth.{is_deep_from, is_deep}
use Rattle.dw_vis.specs.Verdict.{IsShallow, IsVis, Breaks, IsParsed}
use Rattle.dw_vis.specs.Reading.{mixes, reads, read}
use Rattle.dw_vis.specs.Sight.{seen_by}
use Rattle.dw_vis.proofs.Standing.{read_mixed, mixed_is_no_vis, read_vis}
use Rattle.dw_vis.proofs.Strict.{mix_of, same_text}

shallow_long : (text : List ℕ) → IsShallow text → 512 < length text → ⊥
shallow_long text s h = let n : length text ≤ 512 = s.short in omega arith

shallow_deep : (text : List ℕ) → IsShallow text → is_deep text ≡ true → ⊥
shallow_deep text s h = let impossible : false ≡ true = sym s.shallow ∙ h in cc

-- a text that is in the grammar is in the one with mixed signs
pub vis_mixed : (text : List ℕ) (tree : Tree) → VisIn text tree → MixedIn text
vis_mixed text tree v = by_sentence v.sentence v.spells
  where
    by_sentence : (s : Sentence) → text ≡ sentence_text s → MixedIn text
    by_sentence nothing e = record { utf8 = v.utf8; sentence = mix_nothing; spells = e }
    by_sentence (an x) e = record { utf8 = v.utf8; sentence = mix_an (mix_of x); spells = e ∙ same_text x [] }

-- what keeps every rule breaks none
pub kept_breaks : (text : List ℕ) (e : VisError) → IsVis text → Breaks e text → ⊥
kept_breaks text TooLong v h = shallow_long text v.limits h
kept_breaks text TooDeep v h = shallow_deep text v.limits h.1
kept_breaks text Syntax v h = h.1 (vis_mixed text v.tree v.spelt)
kept_breaks text Mixed v h = h.2 v.tree v.spelt
kept_breaks text OutOfMemory v h = h

-- a text has one first rule that it breaks
breaks_one : (text : List ℕ) (a b : VisError) → Breaks a text → Breaks b text → a ≡ b
breaks_one text TooLong TooLong g h = refl
breaks_one text TooLong TooDeep g h = absurd (let n : length text ≤ 512 = h.0 in omega arith)
breaks_one text TooLong Syntax g h = absurd (shallow_long text h.0 g)
breaks_one text TooLong Mixed g h = absurd (shallow_long text h.0 g)
breaks_one text TooLong OutOfMemory g h = absurd h
breaks_one text TooDeep TooLong g h = absurd (let n : length text ≤ 512 = g.0 in omega arith)
breaks_one text TooDeep TooDeep g h = refl
breaks_one text TooDeep Syntax g h = absurd (shallow_deep text h.0 g.1)
breaks_one text TooDeep Mixed g h = absurd (shallow_deep text h.0 g.1)
breaks_one text TooDeep OutOfMemory g h = absurd h
breaks_one text Syntax TooLong g h = absurd (shallow_long text g.0 h)
breaks_one text Syntax TooDeep g h = absurd (shallow_deep text g.0 h.1)
breaks_one text Syntax Syntax g h = refl
breaks_one text Syntax Mixed g h = absurd (g.1 h.1)
breaks_one text Syntax OutOfMemory g h = absurd h
breaks_one text Mixed TooLong g h = absurd (shallow_long text g.0 h)
breaks_one text Mixed TooDeep g h = absurd (shallow_deep text g.0 h.1)
breaks_one text Mixed Syntax g h = absurd (h.1 g.1)
breaks_one text Mixed Mixed g h = refl
breaks_one text Mixed OutOfMemory g h = absurd h
breaks_one text OutOfMemory b g h = absurd g

-- the clauses of parsing, from what it may answer
pub parsed_kept : (text : List ℕ) (r : Result (List ℕ) VisError) → IsParsed text r → IsVis text → (r ≡ Ok text) ⊎ (r ≡ Err OutOfMemory)
parsed_kept text (Ok v) p k = inl (ap Ok p.0)
parsed_kept text (Err TooLong) p k = absurd (kept_breaks text TooLong k p)
parsed_kept text (Err TooDeep) p k = absurd (kept_breaks text TooDeep k p)
parsed_kept text (Err Syntax) p k = absurd (kept_breaks text Syntax k p)
parsed_kept text (Err Mixed) p k = absurd (kept_breaks text Mixed k p)
parsed_kept text (Err OutOfMemory) p k = inr refl

pub parsed_broken : (text : List ℕ) (r : Result (List ℕ) VisError) (e : VisError) → IsParsed text r → Breaks e text → r ≡ Err e
parsed_broken text (Ok v) e p b = absurd (kept_breaks text e p.1 b)
parsed_broken text (Err TooLong) e p b = ap Err (breaks_one text TooLong e p b)
parsed_broken text (Err TooDeep) e p b = ap Err (breaks_one text TooDeep e p b)
parsed_broken text (Err Syntax) e p b = ap Err (breaks_one text Syntax e p b)
parsed_broken text (Err Mixed) e p b = ap Err (breaks_one text Mixed e p b)
parsed_broken text (Err OutOfMemory) e p b = absurd (kept_breaks text e p b)

-- a fault is answered as an error
pub parsed_error : (text : List ℕ) (e : VisError) → Breaks e text → IsParsed text (Err e)
parsed_error text TooLong b = b
parsed_error text TooDeep b = b
parsed_error text Syntax b = b
parsed_error text Mixed b = b
parsed_error text OutOfMemory b = absurd b

-- the empty text keeps every rule
pub empty_kept : IsVis []
unfolding is_deep_from
empty_kept = record {
  limits = record { short = omega arith; shallow = refl };
  tree = Everyone;
  spelt = record { utf8 = IsUtf8-nil; sentence = nothing; spells = refl; stands_for = refl };
}

-- a text within the limits that is read with mixed signs alone
pub broken_mixed : (text : List ℕ) (names : List (List ℕ)) → IsShallow text → IsUtf8 text → read (seen_by names) text ≡ mixes → Breaks Mixed text
broken_mixed text names s u h = (s, read_mixed (seen_by names) text u h, λ tree v. mixed_is_no_vis text names tree h v)

pub kept : (text : List ℕ) (names : List (List ℕ)) (seen : Bool) → IsShallow text → IsUtf8 text → read (seen_by names) text ≡ reads seen → IsVis text
kept text names seen s u h =
    let v = read_vis text names seen u h in
    record { limits = s; tree = v.tree; spelt = v.spelt }
