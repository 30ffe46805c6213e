-- Two letters that stand next to each other in a word of a path lead over three different parties, so the second follows the first.
-- A letter that does not follow the one before it begins no rest of a word. By induction on the letters before. Assumes nothing.
use Rattle.std.proofs.Common.{◌≡◌, sym, ◌∙◌, true, false, List, [], ◌∷◌, ◌++◌, ℕ, zero, suc, ◌+◌, ◌-◌}
use Rattle.std.proofs.Common.{◌*◌, ◌/◌, ◌%◌, ◌≤◌, ◌<◌, arith, length, get_or, replicate, get_or-take}
use mathlib.Core.List.Memᴰ
use Rattle.std.proofs.Math.ListN.{get_or-append}
use Rattle.lists.specs.Order.{Distinct}
use Rattle.lists.proofs.Cases.{by_test, both}
use Rattle.limits.specs.Limits.{most_parties, symbol_count}
use Rattle.masks.specs.promises.Mask.{test_bit}
use Rattle.masks.specs.promises.Table.{mask_in, mask_at}
use Rattle.masks.specs.declared.Row.{Row}
use Rattle.masks.specs.declared.Table.{Table}
use Rattle.rebac.specs.Matter.{pair}
use Rattle.rebac.specs.Paths.{Walk, has}
use Rattle.rebac.proofs.Reach.{has_walk}
use Rattle.search.specs.declared.word.Word.{Word}
use Rattle.search.specs.promises.WordValues.{Short}
use Rattle.search.specs.promises.PairSearch.{table_graph}
use Rattle.words.specs.promises.Next.{Places}
use Rattle.letters.specs.promises.Following.{Follows}
use Rattle.classes.specs.promises.Prefixes.{Closed, After}
use Rattle.classes.specs.declared.pairs.PairsInLetters.{PairsInLetters}

module _ (g : Table) (row : Row) (n : ℕ) (few : n ≤ most_parties) (F : Follows g row) where
  -- over three parties
  two_letters : (x y z b c : ℕ) → x < n → y < n → z < n → (z ≡ x → ⊥) → b < symbol_count
      → test_bit (mask_at g x y) b ≡ true → test_bit (mask_at g y z) c ≡ true
      → test_bit (mask_in row b) c ≡ true
  two_letters x y z b c i j k apart small s t =
      let first : (most_parties * x + y) / most_parties ≡ x = omega arith in
      let second : (most_parties * x + y) % most_parties ≡ y = omega arith in
      F (most_parties * x + y) z b c (omega arith) (omega arith) (λ e. apart (e ∙ first)) small (rw (first, second) s) (rw second t)

  walk_follows : (fixed rest via : List ℕ) (m c a e : ℕ) → length fixed ≡ suc m → get_or fixed m 0 < symbol_count → a < n
      → Distinct (a ∷ via) → Walk (table_graph n g) a via (fixed ++ (c ∷ rest)) e → test_bit (mask_in row (get_or fixed m 0)) c ≡ true
  walk_follows [] rest via m c a e l small inside apart k = absurd (omega (arith, l))
  walk_follows (b ∷ fixed) rest [] m c a e l small inside apart k = absurd k
  walk_follows (b ∷ []) rest (y ∷ []) m c a e l small inside apart k = absurd k.2
  walk_follows (b ∷ []) rest (y ∷ (z ∷ via)) zero c a e l small inside apart k =
      two_letters a y z b c inside k.0 k.2.0 (λ q. apart.0 (Memᴰ.tail (Memᴰ.head (sym q)))) small k.1 k.2.1
  walk_follows (b ∷ []) rest (y ∷ (z ∷ via)) (suc m) c a e l small inside apart k = absurd (omega (arith, l))
  walk_follows (b ∷ (d ∷ fixed)) rest (y ∷ via) zero c a e l small inside apart k = absurd (omega (arith, l))
  walk_follows (b ∷ (d ∷ fixed)) rest (y ∷ via) (suc m) c a e l small inside apart k =
      walk_follows (d ∷ fixed) rest via m c y e (omega (arith, l)) small k.0 apart.1 k.2

  module _ (first second : ℕ) (inside : first < n) where
    after_closed : (fixed : List ℕ) (m k c : ℕ) → length fixed ≡ suc m → get_or fixed m 0 < symbol_count
        → test_bit (mask_in row (get_or fixed m 0)) c ≡ false → Closed (table_graph n g) (pair first second) fixed k c
    after_closed fixed m k c l small e rest size =
        by_test (has (table_graph n g) (pair first second) (fixed ++ (c ∷ rest)))
        (λ h.
        let x = has_walk (table_graph n g) (pair first second) (fixed ++ (c ∷ rest)) h in
        both (walk_follows fixed rest x.0 m c first second l small inside x.1.simple x.1.walk) e)
        (λ h. h)

-- the letter before a place, in the word and in the letters before
before_place : (w : Word) (fixed : List ℕ) (k : ℕ) {at : ℕ} → Places w fixed 0 k → length fixed ≡ at → 0 < at → at < w.len
    → get_or fixed (at - 1) 0 ≡ get_or w.symbols (at - 1) 0
before_place w fixed k {at} p l some h =
    sym (get_or-append fixed (0 ∷ replicate k 0) 0 (at - 1) (omega (arith, l)))
    ∙ rw (← p) (get_or-take w.len w.symbols (at - 1) 0 (omega arith))

pub after_row : (s : PairsInLetters) (w : Word) (at : ℕ) → Short w → 0 < at → at < w.len
    → After s w at (mask_in s.follow (get_or w.symbols (at - 1) 0))
after_row s w at short some h x follow fixed k p size c low high e =
    let same = before_place w fixed k p size some h in
    let q = x.pairs in
    after_closed q.graph.table x.follow q.graph.parties q.graph.within x.follows q.first q.second q.is_pair.first fixed (at - 1) k c
    (omega (arith, size)) (omega (arith, same, short.symbols (at - 1) (omega arith))) (rw (same, follow) e)
