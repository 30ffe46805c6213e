-- How long a term and a list can be: each part's greatest length, added up.
use Rattle.std.proofs.Common.{ℕ, ◌+◌, ◌*◌, ◌≤◌, List, [], ◌∷◌, refl, arith, suc-mul, length, length-append}
use mathlib.Core.List.{Memᴰ}
use Rattle.lists.specs.Lists.{flat_map}
use Rattle.lists.specs.Order.{sum_of}
use Rattle.lists.proofs.OrderLaws.{length_flat}
use Rattle.rebac.specs.Words.{Word}
use Rattle.fields.specs.Numbers.{u16_bytes}
use Rattle.rule_bytes.specs.ListBytes.{encode_word, encode_term, encode_list}

-- the list's length: at most 992 terms of at most 993 words of at most 31 symbols
sum_bound : {A : Type 0} (g : A → ℕ) (c : ℕ) (l : List A) → ((x : A) → Memᴰ x l → g x ≤ c) → sum_of g l ≤ length l * c
unfolding sum_of
sum_bound g c [] h = omega arith
sum_bound g c (x ∷ l) h = omega (arith, h x (Memᴰ.head refl), sum_bound g c l (λ y m. h y (Memᴰ.tail m)), suc-mul (length l) c)

pub term_bound : (t : List Word) → length t ≤ 993 → ((w : Word) → Memᴰ w t → length w ≤ 31) → length (encode_term t) ≤ 31778
unfolding encode_term u16_bytes encode_word
term_bound t n h =
    let s = sum_bound (λ w. length (encode_word w)) 32 t (λ w m. omega (arith, h w m)) in
    omega (arith, length-append (u16_bytes (length t)) (flat_map encode_word t), length_flat encode_word t, s)

pub list_bound : (l : List (List Word)) → length l ≤ 992 → ((t : List Word) → Memᴰ t l → length (encode_term t) ≤ 31778)
    → length (encode_list l) ≤ 2 + 992 * 31778
unfolding encode_list u16_bytes
list_bound l n h =
    let s = sum_bound (λ t. length (encode_term t)) 31778 l h in
    omega (arith, length-append (u16_bytes (length l)) (flat_map encode_term l), length_flat encode_term l, s)
