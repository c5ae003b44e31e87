-- A tablet with a run more is one.
use Rattle.std.proofs.Common.{◌≡◌, ℕ, List, [], ◌∷◌, ◌++◌, refl, sym, ap, ◌∙◌, subst, Bool, true, false, not, cond, ◌&&◌, length}
use Rattle.std.specs.Prelude.{filter, ◌==◌}
use Rattle.std.specs.List.{AllByRecursion}
use Rattle.std.proofs.lemmas.Bool.{or_left, or_right, not-true, cond_both}
use Rattle.dw_tablet.specs.declared.span.Span.{Span}
use Rattle.dw_key.specs.KeyCode.{escaped}
use Rattle.dw_tablet.specs.Held.{Held, Agrees}
use Rattle.dw_tablet.specs.Places.{shard_start, shard_end, IsContent, below, in_span, covers, AreFrom, IsTablet, Ascends, AreBefore, AgreesAt, with_span, with_run, after_last, run_end, run_span, at_most, onward}
use Rattle.dw_tablet.proofs.Order.{not_itself, upto_below, below_upto, upto, back}
use Rattle.dw_tablet.proofs.Gap.{in_it}
use Rattle.dw_tablet.proofs.Spans.{covers_with, apart_still, within_all}
use Rattle.dw_tablet.proofs.Cut.{filter_up, grows, stays, from_next, before_next, onward_all, no_first, from_start, run_between}
use Rattle.dw_tablet.proofs.Load.{agrees_still}

passes : (f : List ℕ → Bool) (xs : List (List ℕ)) → AllByRecursion (λ c. f c ≡ true) (filter f xs)
passes f [] = tt
passes f (x ∷ xs) = by_test (f x) refl (passes f xs)
  where
    by_test : (b : Bool) → f x ≡ b → AllByRecursion (λ c. f c ≡ true) (filter f xs) → AllByRecursion (λ c. f c ≡ true) (cond b (x ∷ filter f xs) (filter f xs))
    by_test true e k = (e, k)
    by_test false e k = k

each : (P Q : List ℕ → Type 0) (xs : List (List ℕ)) → ((x : List ℕ) → P x → Q x) → AllByRecursion P xs → AllByRecursion Q xs
each P Q [] f h = tt
each P Q (x ∷ xs) f h = (f x h.0, each P Q xs f h.1)

each_both : (P Q R : List ℕ → Type 0) (xs : List (List ℕ)) → ((x : List ℕ) → P x → Q x → R x) → AllByRecursion P xs → AllByRecursion Q xs → AllByRecursion R xs
each_both P Q R [] f h k = tt
each_both P Q R (x ∷ xs) f h k = (f x h.0 k.0, each_both P Q R xs f h.1 k.1)

all_joined : (P : List ℕ → Type 0) (xs ys : List (List ℕ)) → AllByRecursion P xs → AllByRecursion P ys → AllByRecursion P (xs ++ ys)
all_joined P [] ys h k = k
all_joined P (x ∷ xs) ys h k = (h.0, all_joined P xs ys h.1 k)

-- keys before a place, and then keys from it on
up_joined : (a : List ℕ) (xs ys : List (List ℕ)) → Ascends xs → Ascends ys → AllByRecursion (λ x. below x a ≡ true) xs → AreFrom a ys → Ascends (xs ++ ys)
up_joined a [] ys up down h k = down
up_joined a (x ∷ xs) ys up down h k = (
  all_joined (λ d. below x d ≡ true) xs ys up.0 (each (λ y. below y a ≡ false) (λ y. below x y ≡ true) ys (λ y g. below_upto x a y h.0 g) k),
  up_joined a xs ys up.1 down h.1 k,
)

high_from : (b : List ℕ) (xs : List (List ℕ)) → AreFrom b (filter (λ c. not (below c b)) xs)
high_from b xs = each (λ c. not (below c b) ≡ true) (λ c. below c b ≡ false) (filter (λ c. not (below c b)) xs) (λ c h. not-true (below c b) h) (passes (λ c. not (below c b)) xs)

module _ (end : List ℕ) (spans : List Span) (keys run : List (List ℕ)) (s : Span) where
  pub kept : IsTablet end spans keys → below s.from s.upto ≡ true → below end s.upto ≡ false → Ascends run → AreFrom s.from run → AllByRecursion (λ c. below c s.upto ≡ true) run
      → IsTablet end (with_span spans s) (with_run s.from s.upto run keys)
  kept t long inside up after before =
      let lows = filter (λ c. below c s.from) keys in
      let highs = filter (λ c. not (below c s.upto)) keys in
      let far : AreFrom s.upto highs = high_from s.upto keys in
      let farther : AreFrom s.from highs = each (λ c. below c s.upto ≡ false) (λ c. below c s.from ≡ false) highs (λ c h. upto s.from s.upto c (back s.from s.upto long) h) far in
      let still : (f : List ℕ → Bool) → AllByRecursion (λ c. covers (with_span spans s) c ≡ true) (filter f keys) =
      λ f. each (λ c. covers spans c ≡ true) (λ c. covers (with_span spans s) c ≡ true) (filter f keys)
      (λ c h. covers_with spans s c ∙ or_right (in_span s c) (covers spans c) h)
      (onward_all (λ c. covers spans c ≡ true) f keys t.covered) in
      let fresh : AllByRecursion (λ c. covers (with_span spans s) c ≡ true) run =
      each_both (λ c. below c s.from ≡ false) (λ c. below c s.upto ≡ true) (λ c. covers (with_span spans s) c ≡ true) run
      (λ c h k. covers_with spans s c ∙ or_left (in_span s c) (covers spans c) (in_it s c h k)) after before in
      record {
        apart = apart_still spans s t.apart long;
        within = within_all end spans s t.within inside;
        ascends =
            up_joined s.from lows (run ++ highs) (filter_up (λ c. below c s.from) keys t.ascends)
            (up_joined s.upto run highs up (filter_up (λ c. not (below c s.upto)) keys t.ascends) before far)
            (passes (λ c. below c s.from) keys) (all_joined (λ c. below c s.from ≡ false) run highs after farther);
        covered =
            all_joined (λ c. covers (with_span spans s) c ≡ true) lows (run ++ highs) (still (λ c. below c s.from))
            (all_joined (λ c. covers (with_span spans s) c ≡ true) run highs fresh (still (λ c. not (below c s.upto))));
      }

last_after : (a : List ℕ) (xs : List (List ℕ)) → Ascends xs → AreFrom a xs → AllByRecursion (λ c. below c (after_last a xs) ≡ true) xs
last_after a [] up h = tt
last_after a (x ∷ xs) up h =
    let later = from_next x xs up.0 in
    (below_upto x (x ++ 0 ∷ []) (after_last (x ++ 0 ∷ []) xs) (before_next x) (grows (x ++ 0 ∷ []) xs up.1 later), last_after (x ++ 0 ∷ []) xs up.1 later)

all_last : (end : List ℕ) (xs : List (List ℕ)) → Ascends xs → AllByRecursion (λ c. below c (after_last end xs) ≡ true) xs
all_last end [] up = tt
all_last end (x ∷ xs) up = last_after [] (x ∷ xs) up (from_start (x ∷ xs))

long_last : (from end : List ℕ) (xs : List (List ℕ)) → below from end ≡ true → Ascends xs → AreFrom from xs → below from (after_last end xs) ≡ true
long_last from end [] h up k = h
long_last from end (x ∷ xs) h up k = upto_below from x (after_last end (x ∷ xs)) k.0 (all_last end (x ∷ xs) up).0

module _ (from end : List ℕ) (n : ℕ) (run : List (List ℕ)) where
  abbrev is_cut : Bool
  is_cut = not (n == 0) && (length run == n)

  -- where a run ends is after all of it, after its beginning, and not after the shard's end
  pub run_before : Ascends run → AreBefore end run → AllByRecursion (λ c. below c (run_end end n run) ≡ true) run
  run_before up h = cond_both is_cut (after_last end run) end (λ p. AllByRecursion (λ c. below c p ≡ true) run) (λ _. all_last end run up) (λ _. h)

  pub run_long : below from end ≡ true → Ascends run → AreFrom from run → below from (run_end end n run) ≡ true
  run_long h up k = cond_both is_cut (after_last end run) end (λ p. below from p ≡ true) (λ _. long_last from end run h up k) (λ _. h)

  pub run_in : AreBefore end run → below end (run_end end n run) ≡ false
  run_in h = cond_both is_cut (after_last end run) end (λ p. below end p ≡ false) (λ _. stays end end run (not_itself end) h) (λ _. not_itself end)

  pub loaded : (spans : List Span) (keys : List (List ℕ)) → IsTablet end spans keys → below from end ≡ true → Ascends run → AreFrom from run → AreBefore end run
      → IsTablet end (with_span spans (run_span from end n run)) (with_run from (run_end end n run) run keys)
  loaded spans keys t h up k l = kept end spans keys run (run_span from end n run) t (run_long h up k) (run_in l) up k (run_before up l)

  pub agrees_loaded : (spans : List Span) (keys content : List (List ℕ)) → below from end ≡ true → Ascends run → AreFrom from run → Ascends content → AreBefore end content → AgreesAt spans keys content → run ≡ at_most n (onward from content)
      → AgreesAt (with_span spans (run_span from end n run)) (with_run from (run_end end n run) run keys) content
  agrees_loaded spans keys content h up k asc ins g is =
      agrees_still spans (run_span from end n run) keys content run asc g (run_long h up k) (run_between n from end content run asc ins is)

pub tablet_by : (end end2 : List ℕ) (spans spans2 : List Span) (keys cells2 : List (List ℕ)) → end ≡ end2 → spans ≡ spans2 → keys ≡ cells2 → IsTablet end2 spans2 cells2 → IsTablet end spans keys
tablet_by end end2 spans spans2 keys cells2 e f g t =
    subst (λ x. IsTablet x spans keys) (sym e) (subst (λ x. IsTablet end2 x keys) (sym f) (subst (λ x. IsTablet end2 spans2 x) (sym g) t))

-- what covers nothing agrees with every content
pub none_covered : (content : List (List ℕ)) → filter (λ c. covers [] c) content ≡ []
none_covered [] = refl
none_covered (x ∷ xs) = none_covered xs

-- what covers nothing agrees with each content of its shard
pub nothing_agrees : (t : Held) (shard : List ℕ) → t.shard ≡ shard → t.spans ≡ [] → t.keys ≡ [] → (content : List (List ℕ)) → IsContent shard content → Agrees t content
nothing_agrees t shard e f g content is = record {
  is = subst (λ s. IsContent s content) (sym e) is;
  same = subst (λ ss. AgreesAt ss t.keys content) (sym f) (none_covered content ∙ sym g);
}

-- what agreed with the content that a run was read from agrees with it still
pub agrees_after : (old new : Held) (from : List ℕ) (n : ℕ) (run : List (List ℕ)) → new.shard ≡ old.shard
    → new.spans ≡ with_span old.spans (run_span from (shard_end old.shard) n run) → new.keys ≡ with_run from (run_end (shard_end old.shard) n run) run old.keys
    → below from (shard_end old.shard) ≡ true → Ascends run → AreFrom from run
    → (content : List (List ℕ)) → Agrees old content → run ≡ at_most n (onward from content) → Agrees new content
agrees_after old new from n run e f g place up after content old_agrees is = record {
  is = subst (λ s. IsContent s content) (sym e) old_agrees.is;
  same =
      subst (λ ss. AgreesAt ss new.keys content) (sym f)
      (subst (λ ks. AgreesAt (with_span old.spans (run_span from (shard_end old.shard) n run)) ks content) (sym g)
      (agrees_loaded from (shard_end old.shard) n run old.spans old.keys content place up after old_agrees.is.ascends old_agrees.is.before old_agrees.same is));
}

-- all keys from their first place on
pub first_held : (a : List ℕ) (keys : List (List ℕ)) → AreFrom a keys → keys ≡ onward a keys
first_held a [] h = refl
first_held a (x ∷ xs) h = ap (λ l. x ∷ l) (first_held a xs h.1) ∙ sym (ap (λ b. cond (not b) (x ∷ onward a xs) (onward a xs)) h.0)
