-- A word of a form exists exactly where a path of that form does, along the same parties; next word follows from such searches,
-- place by place.
use Rattle.std.proofs.Common.{◌≡◌, refl, sym, ap, ◌∙◌, ◌⊎◌, inl, inr, ⊎_elim, ◌↔◌, Bool, true, false, ◌&&◌, List, [], ◌∷◌, ◌++◌, map}
use Rattle.std.proofs.Common.{append_assoc, append-nil, ℕ, zero, suc, ◌-◌, ◌≤◌, ◌<◌, arith, eqb, leb, ltb, length, take, drop, get_or}
use Rattle.std.proofs.Common.{length-drop, take-suc, drop-cons, eqb-true, eq-eqb, le-leb, leb-true, lt-ltb, le-ltb, ltb-true}
use Rattle.std.proofs.lemmas.Bool.{eqb-false}
use mathlib.Core.List.{Memᴰ}
use mathlib.Core.List.Memᴰ
use Rattle.std.proofs.Math.Option.{Option, none, some}
use Rattle.std.proofs.Math.Seq.{drop-length}
use Rattle.lists.specs.Lists.{first_by, range}
use Rattle.lists.specs.Order.{Ascending}
use Rattle.lists.proofs.Cases.{by_test, by_found, by_mem, clash, both, and_left, and_right, and_both}
use Rattle.lists.proofs.ListLaws.{any_in, any_out, any_none, any_same, range_in, find_none, find_none_of, find_some}
use Rattle.lists.proofs.OrderLaws.{first_least, first_agree, range_ascending}
use Rattle.rebac.specs.Matter.{Matter, Pair}
use Rattle.rebac.specs.Words.{Word, lex_less, before, Over}
use Rattle.rebac.specs.Paths.{Graph, Walk, has}
use Rattle.rebac.proofs.Reach.{reach, has_reach, has_walk, walk_has}
use Rattle.rebac.specs.Symbols.{alphabet, enlarged}
use Rattle.rebac.proofs.NextWords.{Finds, Later}
use Rattle.rebac.specs.NextWord.{next_word}
use Rattle.rebac.specs.promises.Options.{or_else}
use Rattle.rebac.proofs.FormStatements.{Formed, Extends, HasForm, SameLength, Longer, NextUpTo, Fits}
use Rattle.rebac.specs.promises.Forms.{Place, exactly, from, allows, free, fixed_then_free, form, place_graph, find_form, least_symbol}
use Rattle.rebac.specs.promises.Forms.{complete, next_same_length, first_longer, search_next, next_by_forms}
use Rattle.rebac.proofs.LexOrder.{by_first, first_lower, first_same, before_irreflexive, before_transitive}
use Rattle.rebac.proofs.SymbolsLaws.{holds_listed, alphabet_ascending}
use Rattle.rebac.proofs.SearchLaws.{Agree}
use Rattle.rebac.proofs.NextWordLaws.{next_finds, finds_same}

-- the same list of parties is a walk along a form and along some word of that form
record WordWalk (al : List ℕ) (g : Graph ℕ) (a : ℕ) (via : List ℕ) (xs : List Place) (b : ℕ) : Type 0 where
  word : Word
  fits : Fits xs word
  over : Over al word
  walk : Walk g a via word b

walk_out : (al : List ℕ) (g : Graph ℕ) (a : ℕ) (via : List ℕ) (xs : List Place) (b : ℕ)
    → Walk (place_graph al g) a via xs b → WordWalk al g a via xs b
unfolding place_graph
walk_out al g a [] [] b k = record { word = []; fits = tt; over = λ s m. absurd (Memᴰ.not-nil m); walk = k }
walk_out al g a [] (x ∷ xs) b k = absurd k
walk_out al g a (c ∷ via) [] b k = absurd k
walk_out al g a (c ∷ via) (x ∷ xs) b k =
    let r = walk_out al g c via xs b k.2 in
    let e = any_out (λ s. allows x s && g.edge a c s) al k.1 in
    record {
      word = e.0 ∷ r.word;
      fits = (and_left (allows x e.0) (g.edge a c e.0) e.2, r.fits);
      over = λ s m. by_mem m (λ q. rw q e.1) (λ n. r.over s n);
      walk = (k.0, and_right (allows x e.0) (g.edge a c e.0) e.2, r.walk);
    }

walk_in : (al : List ℕ) (g : Graph ℕ) (a : ℕ) (via : List ℕ) (xs : List Place) (b : ℕ) (w : Word)
    → Fits xs w → Over al w → Walk g a via w b → Walk (place_graph al g) a via xs b
unfolding place_graph
walk_in al g a [] [] b [] f o k = k
walk_in al g a [] [] b (s ∷ w) f o k = absurd f
walk_in al g a [] (x ∷ xs) b [] f o k = absurd f
walk_in al g a [] (x ∷ xs) b (s ∷ w) f o k = absurd k
walk_in al g a (c ∷ via) [] b [] f o k = absurd k
walk_in al g a (c ∷ via) [] b (s ∷ w) f o k = absurd f
walk_in al g a (c ∷ via) (x ∷ xs) b [] f o k = absurd f
walk_in al g a (c ∷ via) (x ∷ xs) b (s ∷ w) f o k = (
  k.0,
  any_in (λ s. allows x s && g.edge a c s) al (o s (Memᴰ.head refl)) (rw (f.0, k.1)),
  walk_in al g c via xs b w f.1 (λ t m. o t (Memᴰ.tail m)) k.2,
)

-- a walk's symbols are of the alphabet where every edge's are
walk_over : (al : List ℕ) (g : Graph ℕ) → ((u v s : ℕ) → g.edge u v s ≡ true → Memᴰ s al)
    → (a b : ℕ) (via : List ℕ) (w : Word) → Walk g a via w b → Over al w
walk_over al g f a b via [] k s m = absurd (Memᴰ.not-nil m)
walk_over al g f a b [] (t ∷ w) k s m = absurd k
walk_over al g f a b (c ∷ via) (t ∷ w) k s m = by_mem m (λ e. rw e (f a c t k.1)) (λ n. walk_over al g f c b via w k.2 s n)

free_out : (k : ℕ) (w : Word) → Fits (free k) w → length w ≡ k
unfolding free
free_out zero [] f = refl
free_out zero (s ∷ w) f = absurd f
free_out (suc k) [] f = absurd f
free_out (suc k) (s ∷ w) f = ap suc (free_out k w f.1)

free_in : (w : Word) → Fits (free (length w)) w
unfolding free
free_in [] = tt
free_in (s ∷ w) = (le-leb 0 s (omega arith), free_in w)

record FloorThenFree (floor k : ℕ) (w : Word) : Type 0 where
  symbol : ℕ
  rest : Word
  split : w ≡ symbol ∷ rest
  least : floor ≤ symbol
  size : length rest ≡ k

floor_out : (floor k : ℕ) (w : Word) → Fits (from floor ∷ free k) w → FloorThenFree floor k w
floor_out floor k [] f = absurd f
floor_out floor k (s ∷ w) f = record { symbol = s; rest = w; split = refl; least = leb-true floor s f.0; size = free_out k w f.1 }

-- fixed symbols, then what fits the places after them
fixed_out : (xs : List Place) (fixed w : Word) → Fits (map exactly fixed ++ xs) w → (rest : Word) × (w ≡ fixed ++ rest) × Fits xs rest
fixed_out xs [] w f = (w, refl, f)
fixed_out xs (t ∷ fixed) [] f = absurd f
fixed_out xs (t ∷ fixed) (s ∷ w) f =
    let r = fixed_out xs fixed w f.1 in
    let q : t ≡ s = eqb-true t s f.0 in
    let e : w ≡ fixed ++ r.0 = r.1 in
    let h : s ∷ w ≡ t ∷ (fixed ++ r.0) = cc in
    (r.0, h, r.2)

fixed_in : (xs : List Place) (fixed rest : Word) → Fits xs rest → Fits (map exactly fixed ++ xs) (fixed ++ rest)
fixed_in xs [] rest f = f
fixed_in xs (t ∷ fixed) rest f = (eq-eqb t t refl, fixed_in xs fixed rest f)

lex_cases : (s t : ℕ) (v w : Word) → lex_less (s ∷ v) (t ∷ w) ≡ true → (s < t) ⊎ ((s ≡ t) × (lex_less v w ≡ true))
unfolding lex_less
lex_cases s t v w h = by_first s t (lex_less v w) h

lex_prefix : (fixed v w : Word) → lex_less v w ≡ true → lex_less (fixed ++ v) (fixed ++ w) ≡ true
unfolding lex_less
lex_prefix [] v w h = h
lex_prefix (t ∷ fixed) v w h = first_same t t (lex_less (fixed ++ v) (fixed ++ w)) refl (lex_prefix fixed v w h)

-- graphs that agree on every symbol agree on every place
pub place_agree : (al : List ℕ) (g h : Graph ℕ) → g.parties ≤ h.parties
    → ((u v s : ℕ) → u < g.parties → v < g.parties → g.edge u v s ≡ h.edge u v s)
    → ((u v s : ℕ) → u < g.parties → g.parties ≤ v → v < h.parties → h.edge u v s ≡ false)
    → (xs : List Place) → Agree (place_graph al g) (place_graph al h) xs
unfolding place_graph
place_agree al g h n inside outside xs =
    record {
      parties = n;
      inside = λ u v x a b m. any_same _ _ al (λ s k. rw (inside u v s a b));
      outside = λ u v x a b c m. any_none _ al (λ s k e. both (and_right (allows x s) (h.edge u v s) e) (outside u v s a b c));
    }

-- searches for the least word with a property
module _ (R : Word → Word → Bool) where
  finds_none : {A : Word → Type 0} → ((w : Word) → A w → ⊥) → Finds R A none
  finds_none f = record { missing = λ e w a. f w a; found = λ v e. clash (cc e); least = λ v e w a. clash (cc e) }

  finds_only : {A : Word → Type 0} {v : Word} → A v → ((w : Word) → A w → v ≡ w) → Finds R A (some v)
  finds_only {A} {v} a f = record {
    missing = λ e w b. clash (cc e);
    found = λ w e. let q : v ≡ w = cc in rw (← q) a;
    least = λ w e u b. let q : v ≡ w = cc in inl (sym q ∙ f u b);
  }

  finds_iff : {A B : Word → Type 0} {o : Option Word} → Finds R A o → ((w : Word) → A w → B w) → ((w : Word) → B w → A w) → Finds R B o
  finds_iff h f g = record {
    missing = λ e w b. h.missing e w (g w b);
    found = λ v e. f v (h.found v e);
    least = λ v e w b. h.least v e w (g w b);
  }

  -- one search, and where it finds none another, whose words all come later
  or_else_lem : {A B C : Word → Type 0} {o k : Option Word} → Finds R A o → Finds R B k
      → ((w : Word) → C w → A w ⊎ B w) → ((w : Word) → A w → C w) → ((w : Word) → B w → C w)
      → ((v w : Word) → A v → B w → R v w ≡ true) → Finds R C (or_else o k)
  or_else_lem {A} {B} {C} {o = none} {k} f g split a b later =
      record {
        missing = λ e w c. ⊎_elim (λ (x : A w). f.missing refl w x) (λ (x : B w). g.missing e w x) (split w c);
        found = λ v e. b v (g.found v e);
        least = λ v e w c. ⊎_elim (λ (x : A w). absurd (f.missing refl w x)) (λ (x : B w). g.least v e w x) (split w c);
      }
  or_else_lem {A} {B} {C} {o = some v} {k} f g split a b later =
      record {
        missing = λ e w c. clash (cc e);
        found = λ w e. a w (f.found w e);
        least = λ w e u c. ⊎_elim (λ (x : A u). f.least w e u x) (λ (x : B u). inr (later w u (f.found w e) x)) (split u c);
      }

  -- the same in another order that agrees on the words in question
  finds_order : (Q : Word → Word → Bool) {A : Word → Type 0} {o : Option Word} → Finds R A o
      → ((v w : Word) → A v → A w → R v w ≡ true → Q v w ≡ true) → Finds Q A o
  finds_order Q h f = record {
    missing = h.missing;
    found = h.found;
    least = λ v e w a. ⊎_elim (λ (q : v ≡ w). inl q) (λ (q : R v w ≡ true). inr (f v w (h.found v e) a q)) (h.least v e w a);
  }

module _ (al : List ℕ) (g : Graph ℕ) (listed : (u v s : ℕ) → g.edge u v s ≡ true → Memᴰ s al) (p : Pair) where
  pub has_over : (w : Word) → has g p w ≡ true → Over al w
  has_over w h = let r = has_walk g p w h in walk_over al g listed p.first p.second r.0 w r.1.walk

  -- the search succeeds exactly where the pair has a word of the form
  pub find_form_out : (xs : List Place) → find_form al g p xs ≡ true → (w : Word) × Formed g p xs w
  unfolding find_form place_graph
  find_form_out xs e =
      let r = has_walk (place_graph al g) p xs e in
      let k = walk_out al g p.first r.0 xs p.second r.1.walk in
      (k.word, record { fits = k.fits; held = walk_has g p k.word r.0 (record { walk = k.walk; simple = r.1.simple }) })

  pub find_form_in : (xs : List Place) (w : Word) → Formed g p xs w → find_form al g p xs ≡ true
  unfolding find_form place_graph
  find_form_in xs w f =
      let r = has_walk g p w f.held in
      let k = walk_in al g p.first r.0 xs p.second w f.fits (has_over w f.held) r.1.walk in
      walk_has (place_graph al g) p xs r.0 (record { walk = k; simple = r.1.simple })

  pub find_form_iff : (xs : List Place) → (find_form al g p xs ≡ true) ↔ ((w : Word) × Formed g p xs w)
  find_form_iff xs = (find_form_out xs, λ r. find_form_in xs r.0 r.1)

  -- one search serves the word test too: places that fix every symbol
  pub exactly_edge : (u v s : ℕ) → (place_graph al g).edge u v (exactly s) ≡ g.edge u v s
  unfolding place_graph
  exactly_edge u v s =
      by_test (g.edge u v s)
      (λ e. any_in (λ t. eqb s t && g.edge u v t) al (listed u v s e) (rw (eq-eqb s s refl, e)) ∙ sym e)
      (λ e. any_none (λ t. eqb s t && g.edge u v t) al (λ t m h.
      let q : s ≡ t = eqb-true s t (and_left (eqb s t) _ h) in
      both (rw (← q) at (and_right (eqb s t) _ h)) e) ∙ sym e)

  pub reach_exactly : (w : Word) (seen : List ℕ) (a b : ℕ) → reach (place_graph al g) seen a b (map exactly w) ≡ reach g seen a b w
  unfolding reach place_graph
  reach_exactly [] seen a b = refl
  reach_exactly (s ∷ w) seen a b =
      any_same _ _ (range g.parties) (λ c m. rw (exactly_edge a c s, reach_exactly w (c ∷ seen) c b))

  pub find_exactly : (w : Word) → find_form al g p (map exactly w) ≡ has g p w
  unfolding find_form
  find_exactly w =
      has_reach (place_graph al g) p (map exactly w) ∙ reach_exactly w (p.first ∷ []) p.first p.second ∙ sym (has_reach g p w)

  pub extends_out : (fixed : Word) (k : ℕ) → find_form al g p (fixed_then_free fixed k) ≡ true → (w : Word) × Extends g p fixed k w
  unfolding fixed_then_free
  extends_out fixed k e =
      let r = find_form_out (map exactly fixed ++ free k) e in
      let x = fixed_out (free k) fixed r.0 r.1.fits in
      (r.0, record { rest = x.0; split = x.1; size = free_out k x.0 x.2; held = r.1.held })

  pub extends_in : (fixed : Word) (k : ℕ) (w : Word) → Extends g p fixed k w → find_form al g p (fixed_then_free fixed k) ≡ true
  unfolding fixed_then_free
  extends_in fixed k w x = find_form_in (map exactly fixed ++ free k) w (record {
    fits = rw (x.split, ← x.size) (fixed_in (free (length x.rest)) fixed x.rest (free_in x.rest));
    held = x.held;
  })

  -- the same for fixed symbols and k free places
  pub extends_iff : (fixed : Word) (k : ℕ) → (find_form al g p (fixed_then_free fixed k) ≡ true) ↔ ((w : Word) × Extends g p fixed k w)
  extends_iff fixed k = (extends_out fixed k, λ r. extends_in fixed k r.0 r.1)

  -- a word with these fixed symbols, this floor and k free places exists exactly where a path of that form does
  pub form_out : (fixed : Word) (floor k : ℕ) → find_form al g p (form fixed floor k) ≡ true → (w : Word) × HasForm g p fixed floor k w
  unfolding form
  form_out fixed floor k e =
      let r = find_form_out (map exactly fixed ++ (from floor ∷ free k)) e in
      let x = fixed_out (from floor ∷ free k) fixed r.0 r.1.fits in
      let y = floor_out floor k x.0 x.2 in (
        r.0,
        record {
          symbol = y.symbol;
          rest = y.rest;
          split = x.1 ∙ ap (λ v. fixed ++ v) y.split;
          least = y.least;
          size = y.size;
          held = r.1.held;
        },
      )

  pub form_in : (fixed : Word) (floor k : ℕ) (w : Word) → HasForm g p fixed floor k w → find_form al g p (form fixed floor k) ≡ true
  unfolding form
  form_in fixed floor k w x =
      let f : Fits (from floor ∷ free (length x.rest)) (x.symbol ∷ x.rest) =
      (le-leb floor x.symbol x.least, free_in x.rest) in
      find_form_in (map exactly fixed ++ (from floor ∷ free k)) w (record {
        fits = rw (x.split, ← x.size) (fixed_in (from floor ∷ free (length x.rest)) fixed (x.symbol ∷ x.rest) f);
        held = x.held;
      })

  pub form_iff : (fixed : Word) (floor k : ℕ) → (find_form al g p (form fixed floor k) ≡ true) ↔ ((w : Word) × HasForm g p fixed floor k w)
  form_iff fixed floor k = (form_out fixed floor k, λ r. form_in fixed floor k r.0 r.1)

  -- the test by which the least symbol is chosen
  abbrev chooses : Word → ℕ → ℕ → ℕ → Bool
  chooses fixed floor k s = leb floor s && find_form al g p (fixed_then_free (fixed ++ (s ∷ [])) k)

  symbol_extends : {fixed : Word} {floor k : ℕ} {w : Word} (x : HasForm g p fixed floor k w) → Extends g p (fixed ++ (x.symbol ∷ [])) k w
  symbol_extends {fixed} x = record {
    rest = x.rest;
    split = x.split ∙ sym (append_assoc fixed (x.symbol ∷ []) x.rest);
    size = x.size;
    held = x.held;
  }

  chosen : {fixed : Word} {floor k : ℕ} {w : Word} (x : HasForm g p fixed floor k w) → chooses fixed floor k x.symbol ≡ true
  chosen {fixed} {floor} {k} {w} x =
      and_both (le-leb floor x.symbol x.least) (extends_in (fixed ++ (x.symbol ∷ [])) k w (symbol_extends x))

  symbol_listed : {fixed : Word} {floor k : ℕ} {w : Word} (x : HasForm g p fixed floor k w) → Memᴰ x.symbol al
  symbol_listed {fixed} {w} x = has_over w x.held x.symbol (rw x.split (Memᴰ.append_right fixed (Memᴰ.head refl)))

  extends_form : {fixed : Word} {floor k s : ℕ} {w : Word} → floor ≤ s → Extends g p (fixed ++ (s ∷ [])) k w → HasForm g p fixed floor k w
  extends_form {fixed} {s} h x = record {
    symbol = s;
    rest = x.rest;
    split = x.split ∙ append_assoc fixed (s ∷ []) x.rest;
    least = h;
    size = x.size;
    held = x.held;
  }

  -- a symbol that is chosen is at least the floor, and a word has it after `fixed`
  chosen_floor : (fixed : Word) (floor k s : ℕ) → chooses fixed floor k s ≡ true → floor ≤ s
  chosen_floor fixed floor k s h = leb-true floor s (and_left (leb floor s) _ h)

  chosen_word : (fixed : Word) (floor k s : ℕ) → chooses fixed floor k s ≡ true → (w : Word) × Extends g p (fixed ++ (s ∷ [])) k w
  chosen_word fixed floor k s h = extends_out (fixed ++ (s ∷ [])) k (and_right (leb floor s) _ h)

  chosen_form : (fixed : Word) (floor k s : ℕ) → chooses fixed floor k s ≡ true → (w : Word) × HasForm g p fixed floor k w
  chosen_form fixed floor k s h =
      let r = chosen_word fixed floor k s h in
      (r.0, extends_form (chosen_floor fixed floor k s h) r.1)

  -- the least symbol is none exactly where no word has the form
  pub symbol_none : (fixed : Word) (floor k : ℕ) → least_symbol al g p fixed floor k ≡ none → (w : Word) → HasForm g p fixed floor k w → ⊥
  unfolding least_symbol
  symbol_none fixed floor k e w x = both (chosen x) (find_none (chooses fixed floor k) al e (symbol_listed x))

  pub symbol_none_iff : (fixed : Word) (floor k : ℕ)
      → (least_symbol al g p fixed floor k ≡ none) ↔ (find_form al g p (form fixed floor k) ≡ false)
  unfolding least_symbol
  symbol_none_iff fixed floor k = (
    λ e. by_test (find_form al g p (form fixed floor k))
        (λ h. let r = form_out fixed floor k h in absurd (symbol_none fixed floor k e r.0 r.1))
        (λ h. h),
    λ e. find_none_of (chooses fixed floor k) al (λ s m. by_test (chooses fixed floor k s)
        (λ h. let r = chosen_form fixed floor k s h in both (form_in fixed floor k r.0 r.1) e)
        (λ h. h)),
  )

  -- the alphabet in order: the least symbol is the least
  module _ (up : Ascending ltb al) where
    -- the symbols may be tried as numbers below any bound on the alphabet: others are never chosen
    pub symbol_below : (m : ℕ) → ((s : ℕ) → Memᴰ s al → s < m) → (fixed : Word) (floor k : ℕ)
        → least_symbol al g p fixed floor k ≡ first_by (λ s. leb floor s && find_form al g p (fixed_then_free (fixed ++ (s ∷ [])) k))
        (range m)
    unfolding least_symbol chosen_form extends_form
    symbol_below m bound fixed floor k =
        first_agree ltb
        (λ x. le-ltb x x (omega arith))
        (λ x y z a b. lt-ltb x z (omega (arith, ltb-true x y a, ltb-true y z b)))
        (chooses fixed floor k) al (range m) up (range_ascending m)
        (λ s h n. range_in m s (bound s n))
        (λ s h n. symbol_listed (chosen_form fixed floor k s h).1)

    -- one symbol and k others are k + 1 others
    form_extends : (fixed : Word) (k : ℕ) (w : Word) → HasForm g p fixed 0 k w → Extends g p fixed (suc k) w
    form_extends fixed k w x = record { rest = x.symbol ∷ x.rest; split = x.split; size = ap suc x.size; held = x.held }

    extends_more : (fixed : Word) (k : ℕ) (w : Word) → Extends g p fixed (suc k) w → HasForm g p fixed 0 k w
    extends_more fixed k w x = go x.rest x.split x.size
      where
        go : (rest : Word) → w ≡ fixed ++ rest → length rest ≡ suc k → HasForm g p fixed 0 k w
        go [] e z = absurd (omega arith)
        go (s ∷ rest) e z = record { symbol = s; rest = rest; split = e; least = omega arith; size = omega arith; held = x.held }

    -- with no others the word is the fixed symbols
    extends_whole : (fixed w : Word) → Extends g p fixed 0 w → fixed ≡ w
    extends_whole fixed w x = go x.rest x.split x.size
      where
        go : (rest : Word) → w ≡ fixed ++ rest → length rest ≡ 0 → fixed ≡ w
        go [] e z = sym (e ∙ append-nil fixed)
        go (s ∷ rest) e z = absurd (omega arith)

    whole_finds : (fixed w : Word) → Extends g p fixed 0 w → Finds lex_less (Extends g p fixed 0) (some fixed)
    whole_finds fixed w x = finds_only lex_less (rw (← extends_whole fixed w x) at x) (λ v y. extends_whole fixed v y)

    -- a word with the least symbol exists
    found_one : (fixed : Word) (floor k s : ℕ) → least_symbol al g p fixed floor k ≡ some s
        → (w : Word) × Extends g p (fixed ++ (s ∷ [])) k w
    unfolding least_symbol
    found_one fixed floor k s e = chosen_word fixed floor k s (find_some (chooses fixed floor k) al e).here

    -- with the least symbol fixed, the least word with it is the least word of the form
    symbol_some : (fixed : Word) (floor k s : ℕ) → least_symbol al g p fixed floor k ≡ some s
        → {o : Option Word} → Finds lex_less (Extends g p (fixed ++ (s ∷ [])) k) o → Finds lex_less (HasForm g p fixed floor k) o
    unfolding least_symbol lex_less extends_form
    symbol_some fixed floor k s e f =
        let h : floor ≤ s = chosen_floor fixed floor k s (find_some (chooses fixed floor k) al e).here in
        let x = found_one fixed floor k s e in
        record {
          missing = λ q w y. f.missing q x.0 x.1;
          found = λ v q. extends_form h (f.found v q);
          least = λ v q w y.
              ⊎_elim
              (λ (z : s ≡ y.symbol). f.least v q w (rw z (symbol_extends y)))
              (λ (z : ltb s y.symbol ≡ true).
              let c : HasForm g p fixed floor k v = extends_form h (f.found v q) in
              let lower : lex_less (s ∷ c.rest) (y.symbol ∷ y.rest) ≡ true =
              first_lower s y.symbol (lex_less c.rest y.rest) (ltb-true s y.symbol z) in
              inr (rw (c.split, y.split) (lex_prefix fixed (s ∷ c.rest) (y.symbol ∷ y.rest) lower)))
              (first_least ltb (chooses fixed floor k) al up e (symbol_listed y) (chosen y));
        }

    -- so the places one by one give the least word of the form, or none where there is none
    pub complete_finds : (fixed : Word) (floor k : ℕ) → Finds lex_less (HasForm g p fixed floor k) (complete al g p fixed floor k)
    unfolding complete
    complete_finds fixed floor zero =
        by_found (least_symbol al g p fixed floor 0)
        (λ e. rw (e, complete) (finds_none lex_less (symbol_none fixed floor 0 e)))
        (λ s e.
        let x = found_one fixed floor 0 s e in
        rw (e, complete) (symbol_some fixed floor 0 s e (whole_finds (fixed ++ (s ∷ [])) x.0 x.1)))
    complete_finds fixed floor (suc k) =
        by_found (least_symbol al g p fixed floor (suc k))
        (λ e. rw (e, complete) (finds_none lex_less (symbol_none fixed floor (suc k) e)))
        (λ s e.
        let longer : Word = fixed ++ (s ∷ []) in
        let f = finds_iff lex_less (complete_finds longer 0 k) (form_extends longer k) (extends_more longer k) in
        rw (e, complete) (symbol_some fixed floor (suc k) s e f))

    -- the next word of the same length
    no_shorter : (v : Word) → length v ≡ 0 → lex_less [] v ≡ false
    unfolding lex_less
    no_shorter [] e = refl
    no_shorter (s ∷ v) e = absurd (omega arith)

    -- it keeps the first symbol, or has a greater one in its place
    same_cases : (fixed : Word) (s : ℕ) (w v : Word) → SameLength g p fixed (s ∷ w) v
        → SameLength g p (fixed ++ (s ∷ [])) w v ⊎ HasForm g p fixed (suc s) (length w) v
    same_cases fixed s w v x = go x.rest x.split x.size x.after
      where
        go : (rest : Word) → v ≡ fixed ++ rest → length rest ≡ suc (length w) → lex_less (s ∷ w) rest ≡ true
            → SameLength g p (fixed ++ (s ∷ [])) w v ⊎ HasForm g p fixed (suc s) (length w) v
        go [] e z h = absurd (omega arith)
        go (t ∷ rest) e z h =
            ⊎_elim
            (λ (q : s < t). inr (record { symbol = t; rest = rest; split = e; least = omega arith; size = omega arith; held = x.held }))
            (λ (q : (s ≡ t) × (lex_less w rest ≡ true)). inl (record {
              rest = rest;
              split = e ∙ rw q.0 (sym (append_assoc fixed (t ∷ []) rest));
              size = omega arith;
              after = q.1;
              held = x.held;
            }))
            (lex_cases s t w rest h)

    pub same_finds : (fixed w : Word) → Finds lex_less (SameLength g p fixed w) (next_same_length al g p fixed w)
    unfolding next_same_length lex_less
    same_finds fixed [] = finds_none lex_less (λ v x. both x.after (unfold lex_less in no_shorter x.rest x.size))
    same_finds fixed (s ∷ w) =
        or_else_lem lex_less (same_finds (fixed ++ (s ∷ [])) w) (complete_finds fixed (suc s) (length w))
        (same_cases fixed s w)
        (λ v x. record {
          rest = s ∷ x.rest;
          split = x.split ∙ append_assoc fixed (s ∷ []) x.rest;
          size = ap suc x.size;
          after = first_same s s (lex_less w x.rest) refl x.after;
          held = x.held;
        })
        (λ v x. record {
          rest = x.symbol ∷ x.rest;
          split = x.split;
          size = ap suc x.size;
          after = first_lower s x.symbol (lex_less w x.rest) x.least;
          held = x.held;
        })
        (λ u v x y.
        let lower : lex_less (s ∷ x.rest) (y.symbol ∷ y.rest) ≡ true =
        first_lower s y.symbol (lex_less x.rest y.rest) y.least in
        rw (x.split ∙ append_assoc fixed (s ∷ []) x.rest, y.split) (lex_prefix fixed (s ∷ x.rest) (y.symbol ∷ y.rest) lower))

    -- the first word of more than k symbols, and of k + j at most
    any_size : (k : ℕ) (v : Word) → HasForm g p [] 0 k v → length v ≡ suc k
    any_size k v x = rw x.split (ap suc x.size)

    any_form : (k : ℕ) (v : Word) → length v ≡ suc k → has g p v ≡ true → HasForm g p [] 0 k v
    any_form k [] e h = absurd (omega arith)
    any_form k (s ∷ v) e h = record { symbol = s; rest = v; split = refl; least = omega arith; size = omega arith; held = h }

    pub longer_finds : (k j : ℕ) → Finds before (Longer g p k j) (first_longer al g p k j)
    unfolding first_longer before
    longer_finds k zero = finds_none before (λ v x. omega (arith, x.more, x.at_most))
    longer_finds k (suc j) =
        let first : Finds before (HasForm g p [] 0 k) (complete al g p [] 0 k) =
        finds_order lex_less before (complete_finds [] 0 k)
        (λ v w x y h. first_same (length v) (length w) (lex_less v w) (any_size k v x ∙ sym (any_size k w y)) h) in
        or_else_lem before first (longer_finds (suc k) j)
        (λ v x. by_test (eqb (length v) (suc k))
        (λ e. inl (any_form k v (eqb-true (length v) (suc k) e) x.held))
        (λ e.
        let n : length v ≡ suc k → ⊥ = eqb-false (length v) (suc k) e in
        inr (record { more = omega (arith, n, x.more); at_most = omega (arith, x.at_most); held = x.held })))
        (λ v x. record { more = omega (arith, any_size k v x); at_most = omega (arith, any_size k v x); held = x.held })
        (λ v x. record { more = omega (arith, x.more); at_most = omega (arith, x.at_most); held = x.held })
        (λ v w x y. first_lower (length v) (length w) (lex_less v w) (omega (arith, any_size k v x, y.more)))

    -- the next word of at most d symbols
    pub search_finds : (d : ℕ) (w : Word) → length w ≤ d → Finds before (NextUpTo g p d w) (search_next al g p d w)
    unfolding search_next before
    search_finds d w h =
        let first : Finds before (SameLength g p [] w) (next_same_length al g p [] w) =
        finds_order lex_less before (same_finds [] w)
        (λ u v x y k. first_same (length u) (length v) (lex_less u v) (rw (x.split, y.split) (x.size ∙ sym y.size)) k) in
        or_else_lem before first (longer_finds (length w) (d - length w))
        (λ v x. ⊎_elim
        (λ (q : length w < length v). inr (record { more = q; at_most = omega (arith, x.at_most); held = x.held }))
        (λ (q : (length w ≡ length v) × (lex_less w v ≡ true)).
        inl (record { rest = v; split = refl; size = sym q.0; after = q.1; held = x.held }))
        (by_first (length w) (length v) (lex_less w v) x.after))
        (λ v x. record {
          after = first_same (length w) (length v) (lex_less w v) (rw x.split (sym x.size)) (rw x.split x.after);
          at_most = rw x.split (omega (arith, x.size));
          held = x.held;
        })
        (λ v x. record {
          after = first_lower (length w) (length v) (lex_less w v) x.more;
          at_most = omega (arith, x.at_most);
          held = x.held;
        })
        (λ u v x y. first_lower (length u) (length v) (lex_less u v) (rw x.split (omega (arith, x.size, y.more))))

-- The next word of the same length by places: at place i of w the places before are kept
module _ (al : List ℕ) (g : Graph ℕ) (p : Pair) (w : Word) where
  pub same_end : next_same_length al g p (take (length w) w) (drop (length w) w) ≡ none
  unfolding next_same_length
  same_end = rw (drop-length w)

  pub same_step : (i : ℕ) → i < length w → next_same_length al g p (take i w) (drop i w)
      ≡ or_else (next_same_length al g p (take (suc i) w) (drop (suc i) w))
      (complete al g p (take i w) (suc (get_or w i 0)) (length w - suc i))
  unfolding next_same_length
  same_step i h = rw (drop-cons w i 0 h, take-suc w i 0 h, length-drop (suc i) w)

-- a word of the matter that the pair has: its symbols are of the language because they hold
module _ (M : Matter) (p : Pair) where
  pub pair_word_over : (w : Word) → has (enlarged M) p w ≡ true → Over (alphabet M.language M.labels) w
  pair_word_over w h = has_over (alphabet M.language M.labels) (enlarged M) (holds_listed M) p w h

  lex_end : (w : Word) → lex_less w [] ≡ false
  unfolding lex_less
  lex_end [] = refl
  lex_end (s ∷ w) = refl

  before_some : (w v : Word) → before w v ≡ true → 1 ≤ length v
  unfolding before
  before_some w [] h =
      ⊎_elim
      (λ (q : length w < 0). absurd (omega arith))
      (λ (q : (length w ≡ 0) × (lex_less w [] ≡ true)). both q.1 (lex_end w))
      (by_first (length w) 0 (lex_less w []) h)
  before_some w (t ∷ v) h = omega arith

  -- next word is what the searches give
  pub next_by_forms_lem : (w : Word) → length w ≤ M.longest → next_word M p w ≡ next_by_forms M p w
  unfolding next_by_forms
  next_by_forms_lem w h =
      finds_same before before_irreflexive before_transitive (Later M p w) (next_word M p w) (next_by_forms M p w) (next_finds M p w)
      (finds_iff before (search_finds al (enlarged M) (holds_listed M) p up M.longest w h)
      (λ v x. record {
        fits = record { over = pair_word_over v x.held; some = before_some w v x.after; short = x.at_most };
        held = x.held;
        after = x.after;
      })
      (λ v x. record { after = x.after; at_most = x.fits.short; held = x.held }))
    where
      al : List ℕ
      al = alphabet M.language M.labels

      up : Ascending ltb al
      up = alphabet_ascending M.language M.labels
