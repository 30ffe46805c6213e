-- The law of prefixes: where the second pair has every word of fixed letters and then classes that the first has, it has every word of
-- these letters and then letters below the classes. On a path of the first pair each letter has a class, and a path of the second
-- along the classes is one along the letters. By induction on the letters. Assumes nothing.
use Rattle.std.proofs.Common.{◌≡◌, refl, ap, ◌∙◌, true, false, List, [], ◌∷◌, ◌++◌, map, append_assoc}
use Rattle.std.proofs.Common.{append-nil, ℕ, suc, ◌-◌, ◌≤◌, ◌<◌, arith, length}
use mathlib.Core.List.{Memᴰ}
use Rattle.std.proofs.Math.Option.{none}
use Rattle.lists.specs.Lists.{first_by, flat_map, range}
use Rattle.lists.proofs.Cases.{by_test, by_mem, both}
use Rattle.lists.proofs.ListLaws.{find_none, find_none_of, map_in, map_out, up_in, up_out}
use Rattle.lists.proofs.Pointwise.{map_append}
use Rattle.rebac.specs.Matter.{Pair}
use Rattle.rebac.specs.Words.{words_of_length}
use Rattle.rebac.specs.Paths.{Graph, Walk, has}
use Rattle.rebac.specs.promises.Options.{first_some}
use Rattle.rebac.specs.promises.Telling.{tells, first_telling}
use Rattle.rebac.proofs.Reach.{has_walk, walk_has}
use Rattle.rebac.proofs.WordsLaws.{length_in, length_out}
use Rattle.rebac.proofs.LackedLaws.{find_append}
use Rattle.letters.specs.promises.Letters.{Classed}
use Rattle.classes.specs.promises.Prefixes.{letters_from, first_onward, Closed}

module _ (g : Graph ℕ) where
  -- the parties of each walk along the first word walk along the second too
  abbrev Leads : List ℕ → List ℕ → Type 0
  Leads w z = (x y : ℕ) (via : List ℕ) → x < g.parties → Walk g x via w y → Walk g x via z y

  leads_step : (s t : ℕ) (w z : List ℕ)
      → ((x y : ℕ) → x < g.parties → y < g.parties → g.edge x y s ≡ true → g.edge x y t ≡ true) → Leads w z → Leads (s ∷ w) (t ∷ z)
  leads_step s t w z f r x y [] l k = absurd k
  leads_step s t w z f r x y (c ∷ via) l k = (k.0, f x c l k.0 k.1, r c y via k.0 k.2)

  -- classes in the place of the letters after `fixed` on a walk
  record Instead (base end : ℕ) (fixed rest : List ℕ) (a : ℕ) (via : List ℕ) (b : ℕ) : Type 0 where
    classes : List ℕ
    size : length classes ≡ length rest
    among : (j : ℕ) → Memᴰ j classes → (base ≤ j) × (j < end)
    walk : Walk g a via (fixed ++ classes) b
    leads : Leads (fixed ++ classes) (fixed ++ rest)

  module _ (base end : ℕ) (C : Classed g base end) where
    instead : (fixed rest via : List ℕ) (a b : ℕ) → ((i : ℕ) → Memᴰ i rest → i < base) → a < g.parties
        → Walk g a via (fixed ++ rest) b → Instead base end fixed rest a via b
    instead [] [] via a b low h k = record {
      classes = [];
      size = refl;
      among = λ j m. absurd (mathlib.Core.List.Memᴰ.not-nil m);
      walk = k;
      leads = λ x y other l w. w;
    }
    instead [] (i ∷ rest) [] a b low h k = absurd k
    instead [] (i ∷ rest) (c ∷ via) a b low h k =
        let r = instead [] rest via c b (λ j m. low j (mathlib.Core.List.Memᴰ.tail m)) k.0 k.2 in
        let j = C a c i h k.0 (low i (mathlib.Core.List.Memᴰ.head refl)) k.1 in
        record {
          classes = j.0 ∷ r.classes;
          size = ap suc r.size;
          among = λ x m. by_mem m (λ e. rw e (j.1.low, j.1.high)) (λ n. r.among x n);
          walk = (k.0, j.1.here, r.walk);
          leads = leads_step j.0 i r.classes rest
              (λ x y l m e. j.1.all x y i l m (low i (mathlib.Core.List.Memᴰ.head refl)) e k.1) r.leads;
        }
    instead (s ∷ fixed) rest [] a b low h k = absurd k
    instead (s ∷ fixed) rest (c ∷ via) a b low h k =
        let r = instead fixed rest via c b low k.0 k.2 in
        record {
          classes = r.classes;
          size = r.size;
          among = r.among;
          walk = (k.0, k.1, r.walk);
          leads = leads_step s s (fixed ++ r.classes) (fixed ++ rest) (λ x y l m e. e) r.leads;
        }

    -- q has every word that p has of these letters and then k classes
    abbrev HasThese : Pair → Pair → List ℕ → ℕ → Type 0
    HasThese p q fixed k = (w : List ℕ) → length w ≡ k → ((j : ℕ) → Memᴰ j w → (base ≤ j) × (j < end))
        → has g p (fixed ++ w) ≡ true → has g q (fixed ++ w) ≡ true

    pub prefix_law : (p q : Pair) → p.first < g.parties → q.first < g.parties → (fixed rest : List ℕ)
        → HasThese p q fixed (length rest) → ((i : ℕ) → Memᴰ i rest → i < base)
        → has g p (fixed ++ rest) ≡ true → has g q (fixed ++ rest) ≡ true
    prefix_law p q l m fixed rest covered low e =
        let r = has_walk g p (fixed ++ rest) e in
        let i = instead fixed rest r.0 p.first p.second low l r.1.walk in
        let h = walk_has g p (fixed ++ i.classes) r.0 (record { walk = i.walk; simple = r.1.simple }) in
        let o = has_walk g q (fixed ++ i.classes) (covered i.classes i.size i.among h) in
        walk_has g q (fixed ++ rest) o.0 (record {
          walk = i.leads q.first q.second o.0 m o.1.walk;
          simple = o.1.simple;
        })

module _ (g : Graph ℕ) (p q : Pair) where
  -- a word that does not tell the pairs apart is the second's too if it is the first's
  pub tells_not : (w : List ℕ) → tells g p q w ≡ false → has g p w ≡ true → has g q w ≡ true
  unfolding tells
  tells_not w e h = by_test (has g q w) (λ k. k) (λ k. both (rw (h, k)) e)

  pub not_tells : (w : List ℕ) → (has g p w ≡ true → has g q w ≡ true) → tells g p q w ≡ false
  unfolding tells
  not_tells w f = by_test (has g p w) (λ h. rw (h, f h)) (λ h. rw h)

  lacked_tells : (w : List ℕ) → has g p w ≡ false → tells g p q w ≡ false
  unfolding tells
  lacked_tells w h = rw h

  -- no word that begins so tells, letter by letter
  onward_none : (al fixed : List ℕ) (k : ℕ) → first_onward g p q al fixed k ≡ none
      → (w : List ℕ) → length w ≡ k → ((j : ℕ) → Memᴰ j w → Memᴰ j al) → tells g p q (fixed ++ w) ≡ false
  unfolding first_onward
  onward_none al fixed k e w h o =
      let m : Memᴰ w (words_of_length al k) = rw (← h) (length_in al w o) in
      find_none (tells g p q) (map (λ v. fixed ++ v) (words_of_length al k)) e (map_in (λ v. fixed ++ v) (words_of_length al k) m)

  none_onward : (al fixed : List ℕ) (k : ℕ)
      → ((w : List ℕ) → length w ≡ k → ((j : ℕ) → Memᴰ j w → Memᴰ j al) → tells g p q (fixed ++ w) ≡ false)
      → first_onward g p q al fixed k ≡ none
  unfolding first_onward
  none_onward al fixed k f =
      find_none_of (tells g p q) (map (λ v. fixed ++ v) (words_of_length al k))
      (λ x m.
      let r = map_out (λ v. fixed ++ v) (words_of_length al k) m in
      let o = length_out al k r.1 in
      rw r.2 (f r.0 o.1 o.0))

  -- where no word with classes after these letters tells, none with letters below the classes does
  pub prefix_none : (low base end : ℕ) → base ≤ end → Classed g base end → p.first < g.parties → q.first < g.parties
      → (fixed : List ℕ) (k : ℕ) → first_onward g p q (letters_from base end) fixed k ≡ none
      → first_onward g p q (letters_from low base) fixed k ≡ none
  prefix_none low base end b C l m fixed k e =
      none_onward (letters_from low base) fixed k
      (λ w h o. not_tells (fixed ++ w) (prefix_law g base end C p q l m fixed w
      (λ v n among. tells_not (fixed ++ v) (onward_none (letters_from base end) fixed k e v (n ∙ h)
      (λ j i. up_in base (end - base) j (among j i).0 (omega (arith, (among j i).1)))))
      (λ j i. let r = up_out low (base - low) (o j i) in omega (arith, r.0, r.1))))

  -- nothing more, or one letter more: the letters of the alphabet one after another
  pub onward_end : (al fixed : List ℕ) → first_onward g p q al fixed 0 ≡ first_by (tells g p q) (fixed ∷ [])
  unfolding first_onward words_of_length
  onward_end al fixed = ap (λ (w : List ℕ). first_by (tells g p q) (w ∷ [])) (append-nil fixed)

  map_onto : (fixed : List ℕ) (s : ℕ) (l : List (List ℕ))
      → map (λ w. fixed ++ w) (map (λ w. s ∷ w) l) ≡ map (λ w. (fixed ++ (s ∷ [])) ++ w) l
  map_onto fixed s [] = refl
  map_onto fixed s (w ∷ l) = rw (append_assoc fixed (s ∷ []) w, map_onto fixed s l)

  find_flat : (fixed : List ℕ) (l : List (List ℕ)) (al : List ℕ)
      → first_by (tells g p q) (map (λ w. fixed ++ w) (flat_map (λ s. map (λ w. s ∷ w) l) al))
      ≡ first_some (λ s. first_by (tells g p q) (map (λ w. (fixed ++ (s ∷ [])) ++ w) l)) al
  unfolding flat_map first_some first_by
  find_flat fixed l [] = refl
  find_flat fixed l (s ∷ al) =
      ap (first_by (tells g p q)) (map_append (λ w. fixed ++ w) (map (λ w. s ∷ w) l) (flat_map (λ s. map (λ w. s ∷ w) l) al))
      ∙ find_append (tells g p q) (map (λ w. fixed ++ w) (map (λ w. s ∷ w) l)) _
      ∙ rw (map_onto fixed s l, find_flat fixed l al)

  pub onward_step : (al fixed : List ℕ) (k : ℕ)
      → first_onward g p q al fixed (suc k) ≡ first_some (λ s. first_onward g p q al (fixed ++ (s ∷ [])) k) al
  unfolding first_onward words_of_length
  onward_step al fixed k = find_flat fixed (words_of_length al k) al

  -- a letter with which no path exists
  pub onward_closed : (al fixed : List ℕ) (k c : ℕ) → Closed g p fixed k c → first_onward g p q al (fixed ++ (c ∷ [])) k ≡ none
  onward_closed al fixed k c f =
      none_onward al (fixed ++ (c ∷ [])) k (λ w h o. lacked_tells _ (ap (has g p) (append_assoc fixed (c ∷ []) w) ∙ f w h))

  -- from the empty word on
  pub onward_start : (base k : ℕ) → first_onward g p q (letters_from 0 base) [] k ≡ first_telling g p q (range base) k
  unfolding first_onward first_telling range
  onward_start base k = let e : base - 0 ≡ base = omega arith in rw e (ap (first_by (tells g p q)) (map_nothing _))
    where
      map_nothing : (l : List (List ℕ)) → map (λ w. [] ++ w) l ≡ l
      map_nothing [] = refl
      map_nothing (w ∷ l) = ap (λ (r : List (List ℕ)). w ∷ r) (map_nothing l)
