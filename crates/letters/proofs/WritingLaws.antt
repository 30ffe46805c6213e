-- What the loops that write a graph in letters keep, and that what they made is the graph in letters. Assumes nothing.
use Rattle.std.proofs.Common.{◌≡◌, refl, sym, ap, ◌∙◌, true, lit<, List, [], ◌∷◌, zero, suc, ℕ, ◌+◌, ◌-◌}
use Rattle.std.proofs.Common.{◌*◌, ◌/◌, ◌%◌, ◌^◌, ◌≤◌, ◌<◌, arith, bit_or, eqb, get_or, set, length-set}
use Rattle.std.proofs.Common.{get_or-set_same, get_or-set_other, eqb-true, eq-eqb, lt-ltb, le-ltb}
use Rattle.std.proofs.Math.Logic.{by_cases}
use Rattle.std.proofs.Math.Decide.{dec_lt, ℕ_discrete}
use lib.Bits.{or_self}
use Rattle.std.proofs.lemmas.List.{length-map, map-set}
use Rattle.lists.proofs.Cases.{both}
use Rattle.limits.specs.Limits.{most_parties, symbol_count, mask_places, pair_numbers}
use Rattle.masks.specs.promises.Mask.{test_bit}
use Rattle.masks.specs.promises.Table.{mask_at}
use Rattle.masks.specs.declared.Table.{Table}
use Rattle.masks.proofs.BitLaws.{test_or_left, test_or_right}
use Rattle.masks.proofs.MaskLaws.{zero_bit, high_bit}
use Rattle.letters.specs.declared.least.Least.{Least}
use Rattle.letters.specs.declared.different.Classes.{Classes}
use Rattle.letters.specs.declared.legend.Legend.{Legend}
use Rattle.letters.specs.declared.written.Letters.{Letters}
use Rattle.letters.specs.promises.Writing.{pair_mask, UsedBelow, StandsFor, LeastOf, letter_on}
use Rattle.letters.specs.promises.Writing.{AllLeast, ClassesOf, InLetters}
use Rattle.letters.specs.promises.Letters.{numbers, Classed, LeastLetter, Lettered, MaskClass, InClasses}
use Rattle.search.specs.promises.PairSearch.{table_graph}
use Rattle.search.specs.declared.symbol.Symbol.{Symbol}

-- what holds below k and of k holds below k + 1
pub one_more : (P : ℕ → Type 0) (k : ℕ) → ((i : ℕ) → i < k → P i) → P k → (i : ℕ) → i < k + 1 → P i
one_more P k f h i l = by_cases (ℕ_discrete i k) (λ e. rw e h) (λ n. f i (omega (arith, n)))

-- one pair more
pub used_more : (g : Table) (used k : ℕ) → UsedBelow g k used → UsedBelow g (k + 1) (bit_or used (pair_mask g k))
used_more g used k h i s l =
    one_more (λ (j : ℕ). test_bit (pair_mask g j) s ≡ true → test_bit (bit_or used (pair_mask g k)) s ≡ true) k
    (λ j b e. test_or_left used (pair_mask g k) s (h j s b e))
    (λ e. test_or_right used (pair_mask g k) s e) i l

-- a letter below `base` by its symbol, any other by its class
module _ (symbols : List ℕ) (base : ℕ) (classes : List ℕ) (mask i : ℕ) where
  pub letter_low : i < base → letter_on symbols base classes mask i ≡ test_bit mask (get_or symbols i 0)
  unfolding letter_on
  letter_low h = rw (lt-ltb i base h)

  pub letter_high : base ≤ i → letter_on symbols base classes mask i ≡ eqb (bit_or mask (get_or classes (i - base) 0)) mask
  unfolding letter_on
  letter_high h = rw (le-ltb i base h)

-- the number of a symbol among others is a place of a mask
numbers_small : (l : List Symbol) (i : ℕ) → get_or (numbers l) i 0 < symbol_count
numbers_small [] i = lit< tt
numbers_small (x ∷ l) zero = x.within
numbers_small (x ∷ l) (suc i) = numbers_small l i

-- one symbol more is looked at: it holds for no pair, or another stands for it
module _ (g : Table) (l : Least) where
  pub least_same : (s : ℕ) → LeastOf g s l
      → ((k : ℕ) → k < pair_numbers → test_bit (pair_mask g k) s ≡ true → (i : ℕ) × StandsFor g (numbers l.symbols) l.count s i)
      → LeastOf g (s + 1) l
  least_same s h f = record {
    full = h.full;
    fits = omega (arith, h.fits);
    below = λ i b. omega (arith, h.below i b);
    ascending = h.ascending;
    stands = λ k x a b e. by_cases (ℕ_discrete x s) (λ q. rw q (f k a (rw q at e))) (λ q. h.stands k x a (omega (arith, q)) e);
  }

  -- or it is put last
  module _ (s : Symbol) (h : LeastOf g s.number l) where
    abbrev pub with_symbol : Least
    with_symbol = record { count = l.count + 1; symbols = set l.symbols l.count s }

    abbrev before : ℕ → ℕ
    before i = get_or (numbers l.symbols) i 0

    abbrev after : ℕ → ℕ
    after i = get_or (numbers with_symbol.symbols) i 0

    kept : (i : ℕ) → i < l.count → after i ≡ before i
    kept i b = rw (map-set (λ (x : Symbol). x.number) l.symbols l.count s)
        (get_or-set_other (numbers l.symbols) l.count i s.number 0 (λ e. omega arith))

    last : after l.count ≡ s.number
    last = rw (map-set (λ (x : Symbol). x.number) l.symbols l.count s)
        (get_or-set_same (numbers l.symbols) l.count s.number 0
        (omega (arith, h.fits, h.full, s.within, length-map l.symbols (λ (x : Symbol). x.number))))

    last_stands : StandsFor g (numbers with_symbol.symbols) with_symbol.count s.number l.count
    last_stands = record { low = omega arith; least = omega (arith, last); same = λ k b. ap (test_bit (pair_mask g k)) last }

    kept_stands : (x i : ℕ) → StandsFor g (numbers l.symbols) l.count x i
        → StandsFor g (numbers with_symbol.symbols) with_symbol.count x i
    kept_stands x i r = record {
      low = omega (arith, r.low);
      least = omega (arith, kept i r.low, r.least);
      same = λ k b. ap (test_bit (pair_mask g k)) (kept i r.low) ∙ r.same k b;
    }

    pub least_more : LeastOf g (s.number + 1) with_symbol
    least_more = record {
      full = length-set l.symbols l.count s ∙ h.full;
      fits = omega (arith, h.fits);
      below = λ i b. by_cases (ℕ_discrete i l.count)
          (λ e. rw e (omega (arith, last)))
          (λ n. let k : i < l.count = omega (arith, n) in omega (arith, kept i k, h.below i k));
      ascending = λ i j a b. by_cases (ℕ_discrete j l.count)
          (λ e. let k : i < l.count = omega arith in rw e (omega (arith, kept i k, h.below i k, last)))
          (λ n.
          let k : j < l.count = omega (arith, n) in
          let m : i < l.count = omega arith in
          omega (arith, kept i m, kept j k, h.ascending i j a k));
      stands = λ k x a b e. by_cases (ℕ_discrete x s.number)
          (λ q. (l.count, rw q last_stands))
          (λ q. let r = h.stands k x a (omega (arith, q)) e in (r.0, kept_stands x r.0 r.1));
    }

-- a used symbol is a place of a mask
pub used_small : (g : Table) (mask : ℕ) → UsedBelow g pair_numbers mask → mask < 2 ^ mask_places
    → (k x : ℕ) → k < pair_numbers → test_bit (pair_mask g k) x ≡ true → x < symbol_count
used_small g mask u small k x l e =
    by_cases (dec_lt x symbol_count)
    (λ h. h)
    (λ h. both (u k x l e) (high_bit mask_places mask x small (omega arith)))

-- pair (u, v) has number 32u + v
pair_mask_lem : (g : Table) (u v : ℕ) → v < most_parties → pair_mask g (most_parties * u + v) ≡ mask_at g u v
pair_mask_lem g u v h =
    let q : (most_parties * u + v) / most_parties ≡ u = omega arith in
    let r : (most_parties * u + v) % most_parties ≡ v = omega arith in
    rw (q, r)

-- the letters that were written, of which those from the base on are classes
module _ {g : Table} {l : Legend} {b : ℕ} {r : Letters} (made : InLetters g l b r) (c : Classes) (classes : ClassesOf g pair_numbers c)
    (same : l.classes ≡ c.masks) (all : l.span.end ≡ l.span.base + c.count) (n : ℕ) (parties : n ≤ most_parties) where
  letter_at : (u v i : ℕ) → u < n → v < n → i < l.span.end
      → test_bit (mask_at r.graph u v) i ≡ letter_on (numbers l.symbols) l.span.base l.classes (mask_at g u v) i
  letter_at u v i p q h = made.written u (omega arith) v (omega arith) i ∙ rw (lt-ltb i l.span.end h)

  -- of the letters from the base on
  high : (u v k : ℕ) → u < n → v < n → k < c.count
      → test_bit (mask_at r.graph u v) (l.span.base + k) ≡ eqb (bit_or (mask_at g u v) (get_or c.masks k 0)) (mask_at g u v)
  high u v k a b h =
      let e : l.span.base + k - l.span.base ≡ k = omega arith in
      letter_at u v (l.span.base + k) a b (omega arith)
      ∙ letter_high (numbers l.symbols) l.span.base l.classes (mask_at g u v) (l.span.base + k) (omega arith)
      ∙ rw (e, same)

  mask_class : (u v s : ℕ) → u < n → v < n → test_bit (mask_at g u v) s ≡ true
      → (j : ℕ) × MaskClass (table_graph n g) (table_graph n r.graph) l.span.base l.span.end u v j
  mask_class u v s a b e =
      let some : pair_mask g (most_parties * u + v) ≡ 0 → ⊥ =
      λ z.
      let none : mask_at g u v ≡ 0 = sym (pair_mask_lem g u v (omega arith)) ∙ z in
      both e (ap (λ (m : ℕ). test_bit m s) none ∙ zero_bit s) in
      let k = classes (most_parties * u + v) (omega arith) some in
      let here : get_or c.masks k.place 0 ≡ mask_at g u v = k.here ∙ pair_mask_lem g u v (omega arith) in (
        l.span.base + k.place,
        record {
          low = omega arith;
          high = omega (arith, k.low, all);
          here = high u v k.place a b k.low ∙ eq-eqb _ _ (ap (bit_or (mask_at g u v)) here ∙ or_self (mask_at g u v));
          all = λ x y z p q o m.
              let within : bit_or (mask_at g x y) (get_or c.masks k.place 0) ≡ mask_at g x y =
              eqb-true _ _ (sym (high x y k.place p q k.low) ∙ o) in
              rw within at (test_or_right (mask_at g x y) (get_or c.masks k.place 0) z (rw here m));
        },
      )

  -- what was made of classes alone is the graph in classes
  pub in_classes_lem : l.span.base ≡ 0 → InClasses (table_graph n g) (table_graph n r.graph) r.span.end
  in_classes_lem alone = record {
    parties = refl;
    few = rw made.end l.span.few;
    classed = rw made.end (rw alone at mask_class);
  }

  -- what was made of symbols and classes is the graph in letters
  module _ (s : Least) (least : AllLeast g s) (base : l.span.base ≡ s.count) (symbols : l.symbols ≡ s.symbols) where
    plain : (u v i : ℕ) → u < n → v < n → i < l.span.base
        → test_bit (mask_at r.graph u v) i ≡ test_bit (mask_at g u v) (get_or (numbers l.symbols) i 0)
    plain u v i a b h =
        letter_at u v i a b (omega (arith, l.span.order)) ∙ letter_low (numbers l.symbols) l.span.base l.classes (mask_at g u v) i h

    stands : (u v x : ℕ) → u < n → v < n → test_bit (mask_at g u v) x ≡ true
        → (i : ℕ) × LeastLetter (table_graph n g) (numbers l.symbols) l.span.base x i
    stands u v x a b e =
        let k : most_parties * u + v < pair_numbers = omega arith in
        let here : test_bit (pair_mask g (most_parties * u + v)) x ≡ true = rw (pair_mask_lem g u v (omega arith)) e in
        let r = least.least.stands (most_parties * u + v) x k (least.below (most_parties * u + v) x k here) here in (
          r.0,
          record {
            low = rw base r.1.low;
            least = rw symbols r.1.least;
            same = λ y z p q. rw symbols (rw (pair_mask_lem g y z (omega arith)) at (r.1.same (most_parties * y + z) (omega arith)));
          },
        )

    classed : Classed (table_graph n r.graph) l.span.base l.span.end
    classed u v i a b h e =
        let here : test_bit (mask_at g u v) (get_or (numbers l.symbols) i 0) ≡ true = sym (plain u v i a b h) ∙ e in
        let k = mask_class u v _ a b here in (
          k.0,
          record {
            low = k.1.low;
            high = k.1.high;
            here = k.1.here;
            all = λ x y j p q w o m. plain x y j p q w ∙ k.1.all x y (get_or (numbers l.symbols) j 0) p q o (sym (plain u v j a b w) ∙ m);
          },
        )

    pub lettered : Lettered (table_graph n g) (table_graph n r.graph) (numbers r.symbols) l.span.base r.span.end
    lettered = rw (made.symbols, made.end) (record {
      parties = refl;
      order = l.span.order;
      few = l.span.few;
      below = λ i h. numbers_small l.symbols i;
      ascending = rw (base, symbols) least.least.ascending;
      plain = plain;
      stands = stands;
      classed = classed;
    })
