-- On what the cells say that a leaf reads.
use Rattle.std.proofs.Common.{◌≡◌, ℕ, Bool, true, false, cond, ◌||◌, List, [], ◌∷◌, ◌++◌, Option, Some, None, refl, sym, ap, ◌∙◌}
use Rattle.std.specs.Option.{option_and_then, option_map_or}
use Rattle.std.proofs.lemmas.List.Folds.{list_any-append}
use Rattle.dw_key.specs.declared.key.Key.{Key}
use Rattle.dw_event.specs.Texts.{is_same}
use Rattle.dw_event.specs.declared.days.Days.{Days}
use Rattle.dw_event.specs.declared.types.Types.{Types}
use Rattle.dw_derive.specs.Readers.{global_reading}
use Rattle.dw_derive.specs.Decoded.{key_from}
use Rattle.dw_plan.specs.declared.wanted.Wanted.{Wanted}
use Rattle.dw_plan.specs.Joins.{has}
use Rattle.dw_plan.specs.Cells.{is_open, shard_of, shard_of_key, shard_from}
use Rattle.dw_plan.proofs.Named.{or_none, same_is}

module _ (names : List (List ℕ)) (days : Days) (types : Types) (field : List ℕ) (wanted : Wanted) where
  -- what a key names, whoever sees it
  abbrev pub asked : Key → Option (List ℕ)
  asked k = option_and_then (shard_of days types field wanted) (global_reading k)

  pub told_shut : (k : Key) → is_open names k.vis ≡ false → shard_of_key names days types field wanted k ≡ None
  told_shut k h = ap (λ b. option_and_then (shard_of days types field wanted) (cond b (global_reading k) None)) h

  pub told_open : (k : Key) → is_open names k.vis ≡ true → shard_of_key names days types field wanted k ≡ asked k
  told_open k h = ap (λ b. option_and_then (shard_of days types field wanted) (cond b (global_reading k) None)) h

  pub told_none : (k : Key) → asked k ≡ None → shard_of_key names days types field wanted k ≡ None
  told_none k h = at (is_open names k.vis)
    where
      at : (b : Bool) → option_and_then (shard_of days types field wanted) (cond b (global_reading k) None) ≡ None
      at true = h
      at false = refl

  pub from_key : (bytes b : List ℕ) (o : Option Key) (k : Key) → o ≡ key_from b → b ≡ bytes → o ≡ Some k → shard_from names days types field wanted bytes ≡ shard_of_key names days types field wanted k
  from_key bytes b o k e f g = ap (option_and_then (shard_of_key names days types field wanted)) (ap key_from (sym f) ∙ sym e ∙ g)

-- a list with what a cell names, where that is nothing, or stands in the list, or is put behind it
pub adds_none : (all : List (List ℕ)) (o : Option (List ℕ)) (s : List ℕ) → o ≡ None → has all s ≡ (has all s || option_map_or (is_same s) o false)
adds_none all o s e = sym (ap (λ p. has all s || option_map_or (is_same s) p false) e ∙ or_none (has all s))

pub adds_again : (all : List (List ℕ)) (o : Option (List ℕ)) (x s : List ℕ) → o ≡ Some x → has all x ≡ true → has all s ≡ (has all s || option_map_or (is_same s) o false)
adds_again all o x s e h = sym (ap (λ p. has all s || option_map_or (is_same s) p false) e ∙ at (is_same s x) refl)
  where
    at : (b : Bool) → is_same s x ≡ b → (has all s || is_same s x) ≡ has all s
    at true q = let there : has all s ≡ true = ap (has all) (same_is s x q) ∙ h in ap (λ b. b || is_same s x) there ∙ sym there
    at false q = ap (λ b. has all s || b) q ∙ or_none (has all s)

pub adds_one : (all : List (List ℕ)) (o : Option (List ℕ)) (x s : List ℕ) → o ≡ Some x → has (all ++ x ∷ []) s ≡ (has all s || option_map_or (is_same s) o false)
adds_one all o x s e = list_any-append (is_same s) all (x ∷ []) ∙ ap (λ b. has all s || b) (or_none (is_same s x)) ∙ sym (ap (λ p. has all s || option_map_or (is_same s) p false) e)

module _ (names : List (List ℕ)) (days : Days) (types : Types) (field : List ℕ) (wanted : Wanted) (bytes : List ℕ) (k : Key) (key : shard_from names days types field wanted bytes ≡ shard_of_key names days types field wanted k) (all : List (List ℕ)) (s : List ℕ) where
  abbrev named : Bool
  named = option_map_or (is_same s) (shard_from names days types field wanted bytes) false

  -- a cell that names nothing that is asked for
  pub not_asked : asked names days types field wanted k ≡ None → has all s ≡ (has all s || named)
  not_asked h = adds_none all (shard_from names days types field wanted bytes) s (key ∙ told_none names days types field wanted k h)

  -- or a shard that is there
  pub there_already : (x : List ℕ) → asked names days types field wanted k ≡ Some x → has all x ≡ true → has all s ≡ (has all s || named)
  there_already x h there = at (is_open names k.vis) refl
    where
      at : (b : Bool) → is_open names k.vis ≡ b → has all s ≡ (has all s || named)
      at true e = adds_again all (shard_from names days types field wanted bytes) x s (key ∙ told_open names days types field wanted k e ∙ h) there
      at false e = adds_none all (shard_from names days types field wanted bytes) s (key ∙ told_shut names days types field wanted k e)

  -- or one that is new
  pub put_behind : (x : List ℕ) → asked names days types field wanted k ≡ Some x → is_open names k.vis ≡ true → has (all ++ x ∷ []) s ≡ (has all s || named)
  put_behind x h e = adds_one all (shard_from names days types field wanted bytes) x s (key ∙ told_open names days types field wanted k e ∙ h)

  -- or one that is not seen
  pub not_open : is_open names k.vis ≡ false → has all s ≡ (has all s || named)
  not_open e = adds_none all (shard_from names days types field wanted bytes) s (key ∙ told_shut names days types field wanted k e)
