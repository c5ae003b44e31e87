-- The order of addresses.
use Rattle.std.proofs.Common.{◌≡◌, ℕ, ◌^◌, ◌<◌, true, ◌&&◌, leb, List, [], ◌∷◌, ◌++◌, length, map, Some, refl, sym, ap, ◌∙◌, arith, append_assoc}
use Rattle.std.specs.Ordering.{nat_cmp, ordering_then}
use Rattle.std.specs.Cmp.Lexicographic.{slice_cmp}
use Rattle.std.specs.List.{list_all, join_with_byte}
use Rattle.std.specs.Char.{is_ascii_digit}
use Rattle.std.proofs.lemmas.Bool.{and_parts, leb-true}
use Rattle.std.proofs.lemmas.Option.{cond_some}
use Rattle.std.specs.Str.Parse.{digits_value}
use Rattle.dw_norm.specs.Digits.{decimal}
use Rattle.dw_norm.specs.Addresses.{is_group, is_address, address_of, norm_address}
use Rattle.dw_norm.specs.Laws.{AddressesKeepOrder}
use Rattle.dw_norm.proofs.Orders.{then_Equal, slice_cmp-append}
use Rattle.dw_norm.proofs.Decimals.{length-decimal, slice_cmp-decimal}

-- so many digits decide before what stands behind them
pub digits_decide : (w m n : ℕ) (us vs : List ℕ) → m < 10 ^ w → n < 10 ^ w → slice_cmp nat_cmp (decimal w m ++ us) (decimal w n ++ vs) ≡ ordering_then (nat_cmp m n) (slice_cmp nat_cmp us vs)
digits_decide w m n us vs p q =
    slice_cmp-append (decimal w m) (decimal w n) us vs (length-decimal w m ∙ sym (length-decimal w n))
    ∙ ap (λ o. ordering_then o (slice_cmp nat_cmp us vs)) (slice_cmp-decimal w m n p q)

all_below : List ℕ → Type 0
all_below [] = Unit {0}
all_below (n ∷ ns) = (n < 10 ^ 3) × all_below ns

join_order : (m n : ℕ) (ms ns : List ℕ) → length ms ≡ length ns → m < 10 ^ 3 → n < 10 ^ 3 → all_below ms → all_below ns → slice_cmp nat_cmp (join_with_byte 46 (map (decimal 3) (m ∷ ms))) (join_with_byte 46 (map (decimal 3) (n ∷ ns))) ≡ slice_cmp nat_cmp (m ∷ ms) (n ∷ ns)
unfolding all_below
join_order m n [] [] e p q ps qs = slice_cmp-decimal 3 m n p q ∙ sym (then_Equal (nat_cmp m n))
join_order m n [] (k ∷ ns) e p q ps qs = absurd (omega arith)
join_order m n (l ∷ ms) [] e p q ps qs = absurd (omega arith)
join_order m n (l ∷ ms) (k ∷ ns) e p q ps qs =
    digits_decide 3 m n (46 ∷ join_with_byte 46 (map (decimal 3) (l ∷ ms))) (46 ∷ join_with_byte 46 (map (decimal 3) (k ∷ ns))) p q
    ∙ ap (ordering_then (nat_cmp m n)) (join_order l k ms ns (omega arith) ps.0 qs.0 ps.1 qs.1)

group_below : (g : List ℕ) → is_group g ≡ true → digits_value 10 g < 10 ^ 3
unfolding is_group
group_below g h =
    let last = and_parts (leb 1 (length g) && leb (length g) 3 && list_all is_ascii_digit g) (leb (digits_value 10 g) 255) h in
    let small = leb-true (digits_value 10 g) 255 last.1 in
    omega arith

-- the text of an address, and its groups fit
address_parts : (raw x : List ℕ) → norm_address raw ≡ Some x → (is_address raw ≡ true) × (join_with_byte 46 (map (decimal 3) (address_of raw)) ≡ x)
unfolding norm_address
address_parts raw x e = cond_some (is_address raw) (join_with_byte 46 (map (decimal 3) (address_of raw))) x e

groups_below : (a b c d : List ℕ) → list_all is_group (a ∷ b ∷ c ∷ d ∷ []) ≡ true → (digits_value 10 a < 10 ^ 3) × all_below (digits_value 10 b ∷ digits_value 10 c ∷ digits_value 10 d ∷ [])
unfolding all_below
groups_below a b c d h =
    let first = and_parts (is_group a) (list_all is_group (b ∷ c ∷ d ∷ [])) h in
    let second = and_parts (is_group b) (list_all is_group (c ∷ d ∷ [])) first.1 in
    let third = and_parts (is_group c) (list_all is_group (d ∷ [])) second.1 in
    let fourth = and_parts (is_group d) true third.1 in
    (group_below a first.0, (group_below b second.0, (group_below c third.0, (group_below d fourth.0, tt))))

pub slice_cmp-addresses : AddressesKeepOrder
unfolding address_of is_address
slice_cmp-addresses a b x y h k =
    let p = address_parts a x h in
    let q = address_parts b y k in
    let a_fits = groups_below _ _ _ _ p.0 in
    let b_fits = groups_below _ _ _ _ q.0 in
    (λ i. slice_cmp nat_cmp (sym p.1 i) (sym q.1 i))
    ∙ join_order _ _ _ _ refl a_fits.0 b_fits.0 a_fits.1 b_fits.1

-- four pieces with points between them, one after another
pub joined : (o p q r s t u v a b c d : List ℕ) → p ≡ o ++ a → q ≡ p ++ 46 ∷ [] → r ≡ q ++ b → s ≡ r ++ 46 ∷ [] → t ≡ s ++ c → u ≡ t ++ 46 ∷ [] → v ≡ u ++ d → v ≡ o ++ (a ++ (46 ∷ (b ++ (46 ∷ (c ++ (46 ∷ d))))))
joined o p q r s t u v a b c d e f g h i j k = k ∙ ap (λ n. n ++ d) (j ∙ ap (λ n. n ++ 46 ∷ []) (i ∙ ap (λ n. n ++ c) (h ∙ ap (λ n. n ++ 46 ∷ []) (g ∙ ap (λ n. n ++ b) (f ∙ ap (λ n. n ++ 46 ∷ []) e))))) ∙ right_first o a (46 ∷ []) b (46 ∷ []) c (46 ∷ []) d
  where
    right_first : (o a x b y c z d : List ℕ) → o ++ a ++ x ++ b ++ y ++ c ++ z ++ d ≡ o ++ (a ++ (x ++ (b ++ (y ++ (c ++ (z ++ d))))))
    right_first o a x b y c z d = simp append_assoc
