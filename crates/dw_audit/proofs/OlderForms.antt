-- On the lists of the older form in the tables of a world.
use Rattle.std.proofs.Common.{◌≡◌, ◌≤◌, ◌&&◌, ◌==◌, ℕ, Bool, true, false, not, nat_le, cond, List, [], map, length, refl, sym, ap, ◌∙◌, arith}
use Rattle.std.specs.Prelude.{Option, Some, None, Ok, min}
use Rattle.std.specs.List.{list_any}
use Rattle.std.specs.FinMap.{find, get}
use Rattle.std.specs.FinSet.{contains, contains-empty}
use Rattle.std.proofs.lemmas.Bool.Decides.{nat_tests}
use Rattle.dw_key.specs.KeyLaws.{CodesTellKeys}
use Rattle.dw_outside.specs.declared.slot.Slot.{Slot}
use Rattle.dw_outside.specs.Tables.{Tables, slot_cmp}
use Rattle.dw_derive.specs.declared.uid_list.Form.TheVariants.{One, Two}
use Rattle.dw_derive.specs.declared.uid_list.UidList.TheVariants.{Kept, Counted}
use Rattle.dw_derive.specs.UidLists.{largest_count, list_of, list_bytes, list_read}
use Rattle.dw_derive.specs.Entries.{slots_of}
use Rattle.dw_derive.specs.Tables.{gives, givers, uid_of, form_at, meta_cells, tables}
use Rattle.dw_derive.specs.World.{World}
use Rattle.dw_derive.proofs.Given.{one_shard, meta_cells_are_meta, not_meta}
use Rattle.dw_derive.proofs.Growing.{OneShard, content_at, get_tables, read_again}
use Rattle.dw_derive.proofs.Shards.{shard_lacks}
use Rattle.dw_derive.proofs.Stepping.{none_given}
use Rattle.dw_audit.specs.WorldOf.{begins_with_one, world_of}
use Rattle.dw_audit.specs.Comparing.{older_list, older_read, older_bytes, formed, wanted_beside}
use Rattle.dw_audit.specs.Making.{newer_world, newer_tables}
use Rattle.dw_audit.proofs.KeptEvents.{stored_lawful, stored_ascend}
use Rattle.dw_audit.proofs.StoodFor.{contains_older}

-- a list of the newer form tells that of the older one
older_is : (us : List (List ℕ)) → older_list (list_of Two us) ≡ list_of One us
older_is us = at (nat_le (length us) 50) refl
  where
    few : nat_le (length us) 50 ≡ true → length us ≡ min (length us) largest_count
    few e = let low : length us ≤ 50 = grind (arith, nat_tests) in omega (arith, low)

    many : nat_le (length us) 50 ≡ false → nat_le (length us) 20 ≡ false
    many e = grind (arith, nat_tests)

    at : (b : Bool) → nat_le (length us) 50 ≡ b → older_list (cond b (Kept us) (Counted (min (length us) largest_count))) ≡ list_of One us
    at true e = ap (λ n. cond (nat_le (length us) 20) (Kept us) (Counted n)) (few e)
    at false e = sym (ap (λ b. cond b (Kept us) (Counted (min (length us) largest_count))) (many e))

older_again : (us : List (List ℕ)) → list_read (list_bytes Two (list_of Two us)) ≡ Ok (Two, list_of Two us) → older_bytes (list_bytes Two (list_of Two us)) ≡ list_bytes One (list_of One us)
older_again us read = ap (older_read (list_bytes Two (list_of Two us))) read ∙ ap (list_bytes One) (older_is us)

-- beside what is no list a content is wanted as it is
plain_beside : (o p : Option (List ℕ)) → p ≡ wanted_beside false o p
plain_beside o None = refl
plain_beside o (Some c) = refl

nothing_beside : (lists : Bool) (o p : Option (List ℕ)) → p ≡ None → p ≡ wanted_beside lists o p
nothing_beside lists o None e = refl
nothing_beside lists o (Some c) e = cc

module _ (tell : CodesTellKeys) (t : Tables) (s : Slot) where
  abbrev w : World
  w = world_of t

  abbrev v : World
  v = newer_world t

  abbrev given : Bool
  given = list_any (gives (slots_of w.dict) s) w.events

  newer_form : form_at v.old s ≡ Two
  newer_form = ap (λ b. cond b One Two) (contains-empty slot_cmp s)

  abbrev uids : List (List ℕ)
  uids = map uid_of (givers (slots_of w.dict) w.events s)

  same_meta : find slot_cmp s (meta_cells v) ≡ find slot_cmp s (meta_cells w)
  same_meta = refl

  -- in the tables 0 and 3 no form tells anything
  same_get : content_at w s ≡ content_at v s → get (tables w) s ≡ get (tables v) s
  same_get h = get_tables w s ∙ ap (λ c. cond given (Some c) (find slot_cmp s (meta_cells w))) h ∙ sym (get_tables v s)

  no_given : given ≡ false → get (tables w) s ≡ get (tables v) s
  no_given h =
      get_tables w s
      ∙ ap (λ b. cond b (Some (content_at w s)) (find slot_cmp s (meta_cells w))) h
      ∙ sym (get_tables v s ∙ ap (λ b. cond b (Some (content_at v s)) (find slot_cmp s (meta_cells w))) h)

  pub plain_table : (s.table ≡ 0) → get (tables w) s ≡ wanted_beside false (get t s) (get (newer_tables t) s)
  plain_table z = same_get (none (content_at w s) w refl ∙ sym (none (content_at v s) v refl)) ∙ plain_beside (get t s) (get (newer_tables t) s)
    where
      zero_is : (s.table == 0) ≡ true
      zero_is = grind (arith, nat_tests)

      none : (c : List ℕ) (x : World) → c ≡ content_at x s → c ≡ []
      none c x e = e ∙ ap (λ b. cond b [] (list_bytes (form_at x.old s) (list_of (form_at x.old s) (map uid_of (givers (slots_of x.dict) x.events s))))) zero_is

  pub meta_table : (s.table ≡ 3) → get (tables w) s ≡ wanted_beside false (get t s) (get (newer_tables t) s)
  meta_table z = no_given (none_given w s z w.events) ∙ plain_beside (get t s) (get (newer_tables t) s)

  module _ (not_plain : (s.table == 0) ≡ false) (no_meta : s.table ≡ 3 → ⊥) where
    no_cell : find slot_cmp s (meta_cells w) ≡ None
    no_cell = not_meta s no_meta (meta_cells w) (meta_cells_are_meta w)

    list_at : (x : World) → content_at x s ≡ list_bytes (form_at x.old s) (list_of (form_at x.old s) (map uid_of (givers (slots_of x.dict) x.events s)))
    list_at x = ap (λ b. cond b [] (list_bytes (form_at x.old s) (list_of (form_at x.old s) (map uid_of (givers (slots_of x.dict) x.events s))))) not_plain

    newer_at : content_at v s ≡ list_bytes Two (list_of Two uids)
    newer_at = list_at v ∙ ap (λ f. list_bytes f (list_of f uids)) newer_form

    one : OneShard (slots_of w.dict) s
    one d e i j g h = one_shard tell w.dict s d e (shard_lacks d i) (shard_lacks e j) not_plain g h

    unfolded : given ≡ true → list_read (list_bytes Two (list_of Two uids)) ≡ Ok (Two, list_of Two uids)
    unfolding world_of
    unfolded g = read_again (slots_of w.dict) s one w.events (stored_ascend t) (stored_lawful t) g Two

    is_one : given ≡ true → contains w.old s ≡ begins_with_one (get t s)
    unfolding world_of
    is_one g =
        contains_older t w.dict w.events s
        ∙ (λ i. (not (not_plain i) && begins_with_one (get t s)) && g i)
        ∙ and_true (begins_with_one (get t s))
      where
        and_true : (a : Bool) → (a && true) ≡ a
        and_true true = refl
        and_true false = refl

    wanted_form : given ≡ true → content_at w s ≡ formed true (get t s) (content_at v s)
    wanted_form g =
        list_at w
        ∙ ap (λ b. list_bytes (cond b One Two) (list_of (cond b One Two) uids)) (is_one g)
        ∙ at (begins_with_one (get t s))
        ∙ ap (formed true (get t s)) (sym newer_at)
      where
        at : (b : Bool) → list_bytes (cond b One Two) (list_of (cond b One Two) uids) ≡ cond b (older_bytes (list_bytes Two (list_of Two uids))) (list_bytes Two (list_of Two uids))
        at true = sym (older_again uids (unfolded g))
        at false = refl

    pub list_table : get (tables w) s ≡ wanted_beside true (get t s) (get (newer_tables t) s)
    list_table = at given refl
      where
        at : (b : Bool) → given ≡ b → get (tables w) s ≡ wanted_beside true (get t s) (get (newer_tables t) s)
        at true g =
            get_tables w s
            ∙ ap (λ b. cond b (Some (content_at w s)) (find slot_cmp s (meta_cells w))) g
            ∙ ap (λ c. Some c) (wanted_form g)
            ∙ sym (ap (wanted_beside true (get t s)) (get_tables v s ∙ ap (λ b. cond b (Some (content_at v s)) (find slot_cmp s (meta_cells w))) g))
        at false g =
            let none : get (tables v) s ≡ None = get_tables v s ∙ ap (λ b. cond b (Some (content_at v s)) (find slot_cmp s (meta_cells w))) g ∙ no_cell in
            no_given g ∙ nothing_beside true (get t s) (get (newer_tables t) s) none
