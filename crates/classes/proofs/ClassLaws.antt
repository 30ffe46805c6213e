-- The law of lengths: where the second pair has every word of k classes that the first has, it has every word of k symbols that the
-- first has. On a path of the first pair each symbol has a class, and a path of the second along the classes is one along the symbols.
-- By induction on the symbols. Assumes nothing.
use Rattle.std.proofs.Common.{◌≡◌, refl, ap, ◌∙◌, true, List, [], ◌∷◌, ℕ, suc, ◌<◌, arith, length}
use mathlib.Core.List.Memᴰ
use Rattle.std.proofs.Math.Option.{none}
use Rattle.lists.specs.Lists.{range}
use Rattle.lists.proofs.Cases.{by_mem}
use Rattle.lists.proofs.ListLaws.{find_none, find_none_of, range_in}
use Rattle.rebac.specs.Matter.{Pair}
use Rattle.rebac.specs.Words.{words_of_length, Over}
use Rattle.rebac.specs.Paths.{Graph, Walk, has}
use Rattle.rebac.specs.promises.Telling.{tells, first_telling}
use Rattle.rebac.proofs.Reach.{has_walk, walk_has}
use Rattle.rebac.proofs.WordsLaws.{length_in, length_out}
use Rattle.letters.specs.promises.Letters.{InClasses}
use Rattle.classes.proofs.PrefixLaws.{tells_not, not_tells}

module _ (g t : Graph ℕ) (end : ℕ) (C : InClasses g t end) where
  -- classes in the place of the symbols on a walk
  record ClassWord (w : List ℕ) (a : ℕ) (via : List ℕ) (b : ℕ) : Type 0 where
    classes : List ℕ
    size : length classes ≡ length w
    over : Over (range end) classes
    walk : Walk t a via classes b
    leads : (x y : ℕ) (other : List ℕ) → x < g.parties → Walk t x other classes y → Walk g x other w y

  class_word : (w via : List ℕ) (a b : ℕ) → a < g.parties → Walk g a via w b → ClassWord w a via b
  class_word [] [] a b l k = record {
    classes = [];
    size = refl;
    over = λ j m. absurd (Memᴰ.not-nil m);
    walk = k;
    leads = λ x y other h z. ends x y other z;
  }
    where
      ends : (x y : ℕ) (other : List ℕ) → Walk t x other [] y → Walk g x other [] y
      ends x y [] z = z
      ends x y (c ∷ other) z = absurd z
  class_word [] (c ∷ via) a b l k = absurd k
  class_word (s ∷ w) [] a b l k = absurd k
  class_word (s ∷ w) (c ∷ via) a b l k =
      let r = class_word w via c b k.0 k.2 in
      let j = C.classed a c s l k.0 k.1 in
      record {
        classes = j.0 ∷ r.classes;
        size = ap suc r.size;
        over = λ x m. by_mem m (λ e. rw e (range_in end j.0 j.1.high)) (λ n. r.over x n);
        walk = (omega (arith, k.0, C.parties), j.1.here, r.walk);
        leads = leads j.0 r.classes (λ x y h i e. j.1.all x y s h i e k.1) r.leads;
      }
    where
      leads : (j : ℕ) (v : List ℕ) → ((x y : ℕ) → x < g.parties → y < g.parties → t.edge x y j ≡ true → g.edge x y s ≡ true)
          → ((x y : ℕ) (other : List ℕ) → x < g.parties → Walk t x other v y → Walk g x other w y)
          → (x y : ℕ) (other : List ℕ) → x < g.parties → Walk t x other (j ∷ v) y → Walk g x other (s ∷ w) y
      leads j v f r x y [] h z = absurd z
      leads j v f r x y (c ∷ other) h z =
          let i : c < g.parties = omega (arith, z.0, C.parties) in
          (i, f x c h i z.1, r c y other i z.2)

  module _ (p q : Pair) (l : p.first < g.parties) (m : q.first < g.parties) where
    class_law : (w : List ℕ)
        → ((v : List ℕ) → length v ≡ length w → Over (range end) v → has t p v ≡ true → has t q v ≡ true)
        → has g p w ≡ true → has g q w ≡ true
    class_law w covered e =
        let r = has_walk g p w e in
        let i = class_word w r.0 p.first p.second l r.1.walk in
        let h = walk_has t p i.classes r.0 (record { walk = i.walk; simple = r.1.simple }) in
        let o = has_walk t q i.classes (covered i.classes i.size i.over h) in
        walk_has g q w o.0 (record {
          walk = i.leads q.first q.second o.0 m o.1.walk;
          simple = o.1.simple;
        })

    -- where no word of k classes tells, none of k symbols does
    pub length_none : (al : List ℕ) (k : ℕ) → first_telling t p q (range end) k ≡ none → first_telling g p q al k ≡ none
    unfolding first_telling
    length_none al k e =
        find_none_of (tells g p q) (words_of_length al k)
        (λ w n. not_tells g p q w (class_law w (λ v h o.
        let z : length v ≡ k = h ∙ (length_out al k n).1 in
        tells_not t p q v (find_none (tells t p q) (words_of_length (range end) k) e (rw z at (length_in (range end) v o))))))
