-- The normal form of a text.
use Rattle.std.specs.Prelude.{ℕ, Bool, not, ◌==◌, List, filter, chars, encode_utf8_all, Option}
use Rattle.ucd_category.specs.GeneralCategory.{general_category, general_category_number}
use Rattle.unicode_normalization.specs.Forms.{nfd}
use Rattle.caseless.specs.Caseless.{default_case_fold}
use Rattle.dw_norm.specs.Unchanged.{unless_empty}

-- no nonspacing mark; 5 is the number of the general category Mn
abbrev pub is_no_mark : ℕ → Bool
is_no_mark c = not (general_category_number (general_category c) == 5)

-- decomposed canonically, without nonspacing marks, and then case folded; none where nothing is left
unfoldable pub norm_text : List ℕ → Option (List ℕ)
norm_text raw = unless_empty (encode_utf8_all (default_case_fold (filter is_no_mark (nfd (chars raw)))))
