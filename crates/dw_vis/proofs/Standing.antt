-- What texts stand for, by how they are read.
use Rattle.std.proofs.Common.{◌≡◌, ℕ, Bool, true, false, List, [], ◌∷◌, Option, Some, None, refl, sym, ap, ◌∙◌}
use Rattle.std.specs.Prelude.{◌&&◌, ◌↔◌}
use Rattle.std.specs.Str.{IsUtf8, is_utf8}
use Rattle.std.proofs.lemmas.Str.{IsUtf8-from_is_utf8, is_utf8-from_IsUtf8}
use Rattle.dw_vis.specs.Trees.{Tree, Everyone, value}
use Rattle.dw_vis.specs.Grammar.{Sentence, nothing, an, sentence_text, sentence_tree, expression_tree, VisIn, Sees}
use Rattle.dw_vis.specs.Mixing.{MixSentence, mix_nothing, mix_an, mix_text, MixedIn}
use Rattle.dw_vis.specs.Reading.{Meaning, Outcome, refused, mixes, reads, outcome_of, read}
use Rattle.dw_vis.specs.Sight.{seen_by, is_seen, sees}
use Rattle.dw_vis.proofs.Levels.{mix_level, seen_of, trees, seen-worth}
use Rattle.dw_vis.proofs.Strict.{mix_of, same_text, same_tree, unmixed}
use Rattle.dw_vis.proofs.Complete.{sentence_read}
use Rattle.dw_vis.proofs.Sound.{read_spelt}

read_or : {V : Type 0} → V → Outcome V → V
read_or d refused = d
read_or d mixes = d
read_or d (reads v) = v

pub same_read : {V : Type 0} (v w : V) → reads v ≡ reads w → v ≡ w
unfolding read_or
same_read v w h = ap (read_or v) h

-- a text that spells a tree is read as that tree
tree_read : (text : List ℕ) (t : Tree) (s : Sentence) → text ≡ sentence_text s → t ≡ sentence_tree s → read trees text ≡ reads t
tree_read text t nothing e f = ap (read trees) e ∙ ap reads (sym f)
tree_read text t (an e) h f =
    sentence_read trees text (mix_of e) (h ∙ same_text e []) ∙ ap outcome_of (same_tree e) ∙ ap reads (sym f)

-- A text spells at most one tree.
pub spells_one : (text : List ℕ) (a b : Tree) → VisIn text a → VisIn text b → a ≡ b
spells_one text a b v w =
    same_read a b (sym (tree_read text a v.sentence v.spells v.stands_for) ∙ tree_read text b w.sentence w.spells w.stands_for)

-- and as whether it is seen
seen_as : (text : List ℕ) (names : List (List ℕ)) (t : Tree) (s : Sentence) → text ≡ sentence_text s → t ≡ sentence_tree s → read (seen_by names) text ≡ reads (value t names)
seen_as text names t nothing e f = ap (read (seen_by names)) e ∙ ap (λ u. reads (value u names)) (sym f)
seen_as text names t (an e) h f =
    sentence_read (seen_by names) text (mix_of e) (h ∙ same_text e [])
    ∙ ap outcome_of (seen-worth (mix_of e) names ∙ ap (seen_of names) (same_tree e))
    ∙ ap (λ u. reads (value u names)) (sym f)

pub vis_read : (text : List ℕ) (names : List (List ℕ)) (t : Tree) → VisIn text t → read (seen_by names) text ≡ reads (value t names)
vis_read text names t v = seen_as text names t v.sentence v.spells v.stands_for

-- a text with mixed signs is read as something
outcome_is_some : {V : Type 0} (w : Option V) → outcome_of w ≡ refused → ⊥
outcome_is_some None h = cc
outcome_is_some (Some v) h = cc

mix_not_refused : {V : Type 0} (m : Meaning V) (text : List ℕ) (s : MixSentence) → text ≡ mix_text s → read m text ≡ refused → ⊥
mix_not_refused m text mix_nothing e h =
    let impossible : reads m.nothing ≡ refused = sym (ap (read m) e) ∙ h in
    cc
mix_not_refused m text (mix_an x) e h = outcome_is_some (mix_level m x).worth (sym (sentence_read m text x e) ∙ h)

pub not_refused : {V : Type 0} (m : Meaning V) (text : List ℕ) → read m text ≡ refused → MixedIn text → ⊥
not_refused m text h s = mix_not_refused m text s.sentence s.spells h

-- what is read with mixed signs is spelt with them
pub read_mixed : {V : Type 0} (m : Meaning V) (text : List ℕ) → IsUtf8 text → read m text ≡ mixes → MixedIn text
read_mixed m [] u h = absurd (let impossible : reads m.nothing ≡ mixes = h in cc)
read_mixed m (b ∷ bs) u h =
    let s = read_spelt m (b ∷ bs) None h in
    record { utf8 = u; sentence = mix_an s.0; spells = s.1 }

pub mixed_is_no_vis : (text : List ℕ) (names : List (List ℕ)) (t : Tree) → read (seen_by names) text ≡ mixes → VisIn text t → ⊥
mixed_is_no_vis text names t h v =
    let impossible : reads (value t names) ≡ mixes = sym (vis_read text names t v) ∙ h in
    cc

-- what is read as seen or not spells a tree
pub record Spelt (text : List ℕ) (names : List (List ℕ)) (seen : Bool) : Type 0 where
  pub tree : Tree
  pub spelt : VisIn text tree
  pub is : value tree names ≡ seen

seen_some : (names : List (List ℕ)) (w : Option Tree) (b : Bool) → seen_of names w ≡ Some b → (t : Tree) × (w ≡ Some t)
seen_some names None b h = cc
seen_some names (Some t) b h = (t, refl)

some_or : {V : Type 0} → V → Option V → V
some_or d None = d
some_or d (Some v) = v

same_some : {V : Type 0} (v w : V) → Some v ≡ Some w → v ≡ w
unfolding some_or
same_some v w h = ap (some_or v) h

pub read_vis : (text : List ℕ) (names : List (List ℕ)) (seen : Bool) → IsUtf8 text → read (seen_by names) text ≡ reads seen → Spelt text names seen
read_vis [] names seen u h = record {
  tree = Everyone;
  spelt = record { utf8 = u; sentence = nothing; spells = refl; stands_for = refl };
  is = same_read true seen h;
}
read_vis (b ∷ bs) names seen u h =
    let s = read_spelt (seen_by names) (b ∷ bs) (Some seen) h in
    let e = sym (seen-worth s.0 names) ∙ s.2 in
    let t = seen_some names (mix_level trees s.0).worth seen e in
    let x = unmixed s.0 t.0 t.1 in
    record {
      tree = expression_tree x.expression;
      spelt = record { utf8 = u; sentence = an x.expression; spells = s.1 ∙ sym (x.text []); stands_for = refl };
      is = same_some (value (expression_tree x.expression) names) seen (sym (ap (seen_of names) x.tree) ∙ e);
    }

seen_is : (o : Outcome Bool) → is_seen o ≡ true → o ≡ reads true
seen_is refused h = cc
seen_is mixes h = cc
seen_is (reads b) h = ap reads h

pub and_parts : (a b : Bool) → (a && b) ≡ true → (a ≡ true) × (b ≡ true)
and_parts true b h = (refl, h)
and_parts false b h = (h, cc)

-- what is read from left to right is what the grammar says
pub sees_is : (text : List ℕ) (names : List (List ℕ)) → (sees text names ≡ true) ↔ Sees text names
sees_is text names = (
  λ h.
      let p = and_parts (is_utf8 text) (is_seen (read (seen_by names) text)) h in
      let s = read_vis text names true (IsUtf8-from_is_utf8 text p.0) (seen_is (read (seen_by names) text) p.1) in
      record { tree = s.tree; spelt = s.spelt; holds = s.is },
  λ s.
      ap (λ b. b && is_seen (read (seen_by names) text)) (is_utf8-from_IsUtf8 text s.spelt.utf8)
      ∙ ap is_seen (vis_read text names s.tree s.spelt ∙ ap reads s.holds),
)

-- a visibility is seen as it is read
pub sees_read : (text : List ℕ) (names : List (List ℕ)) (o : Outcome Bool) (t : Tree) → VisIn text t → o ≡ read (seen_by names) text → is_seen o ≡ sees text names
sees_read text names o t v e =
    ap is_seen e ∙ ap (λ b. b && is_seen (read (seen_by names) text)) (sym (is_utf8-from_IsUtf8 text v.utf8))
