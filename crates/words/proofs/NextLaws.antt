-- Next word by searches: a search over masks is a search for a word of a form, and the least symbol is the first with which it succeeds.
-- Assumes nothing.
use Rattle.std.proofs.Common.{◌≡◌, refl, sym, ap, ◌∙◌, Bool, true, false, ◌&&◌, List, [], ◌∷◌, ◌++◌, append_assoc, append-nil}
use Rattle.std.proofs.Common.{ℕ, zero, suc, ◌+◌, ◌-◌, ◌/◌, ◌^◌, ◌≤◌, ◌<◌, arith, add-one, eqb, leb, Result}
use Rattle.std.proofs.Common.{MatchOption, Some, None, is_ok, length, replicate, set, take, drop, get_or, length-append}
use Rattle.std.proofs.Common.{get_or-take, take-suc, length-take-le, eq-eqb, ne_eqb, eqb-true, le-leb, leb-true}
use mathlib.Core.List.{Memᴰ}
use Rattle.std.proofs.Math.Logic.{by_cases}
use Rattle.std.proofs.Math.Option.{Option, none, some}
use Rattle.std.proofs.Math.Decide.{ℕ_discrete, dec_lt}
use Rattle.std.specs.Prelude.{Option as Maybe, is_some as some_given}
use Rattle.std.specs.Option.{unwrap_or}
use Rattle.std.proofs.lemmas.List.{length-replicate}
use Rattle.std.proofs.Math.Seq.{take-set-lt}
use Rattle.std.proofs.lemmas.List.{set_at, get_or_at}
use Rattle.lists.specs.Lists.{any_of, first_by, up_from, range}
use Rattle.lists.proofs.Cases.{by_test, by_found, both, clash, and_left, and_right, and_both}
use Rattle.lists.proofs.Ranges.{NoneGiven, FirstGiven}
use Rattle.lists.proofs.ListLaws.{any_in, any_none, find_some, find_in, range_out}
use Rattle.masks.specs.promises.Mask.{test_bit, bit_at, with_bit}
use Rattle.masks.specs.promises.Table.{mask_at}
use Rattle.masks.specs.declared.Table.{Table}
use Rattle.masks.proofs.BitLaws.{none_from, some_from}
use Rattle.rebac.specs.Matter.{Pair}
use Rattle.rebac.specs.Paths.{Graph, has}
use Rattle.rebac.specs.promises.Options.{or_else}
use Rattle.rebac.specs.promises.Forms.{Place, exactly, from, allows, free, fixed_then_free, form, place_graph, find_form}
use Rattle.rebac.specs.promises.Forms.{least_symbol, complete, next_same_length, first_longer}
use Rattle.rebac.proofs.MatterLaws.{graph_equal}
use Rattle.rebac.proofs.FormLaws.{symbol_none_iff, symbol_below, same_step}
use Rattle.search.specs.Word.{symbols_in}
use Rattle.search.specs.promises.Search.{place_on, mask_graph, form_of, FoundAs}
use Rattle.search.specs.promises.PairSearch.{graph_of, pair_of, search_form}
use Rattle.words.specs.promises.Next.{Alphabet, Places, WordAs, complete_zeros, SymbolTried, LeastPut, CompletedTo}
use Rattle.search.specs.declared.word.Word.{Word}
use Rattle.search.specs.declared.word.ShortWord.{ShortWord}
use Rattle.search.specs.declared.word.Form.{Form}
use Rattle.search.specs.declared.pair.PairIn.{PairIn}
use Rattle.search.specs.declared.path.Path.{Path}
use Rattle.search.specs.declared.path.NoPath.{NoPath}
use Rattle.search.proofs.SearchLaws.{path_is}
use Rattle.search.proofs.PairSearchLaws.{search_has}

-- a place allows a symbol of the mask where the shift says so
module _ (al : List ℕ) (m : ℕ) (listed : (s : ℕ) → test_bit m s ≡ true → Memᴰ s al) where
  some_place : (x : Place) → place_on x m ≡ any_of (λ s. allows x s && test_bit m s) al
  unfolding test_bit
  some_place (exactly t) =
      by_test (test_bit m t)
      (λ e. e ∙ sym (any_in (λ s. eqb t s && test_bit m s) al (listed t e) (and_both (eq-eqb t t refl) e)))
      (λ e. e ∙ sym (any_none (λ s. eqb t s && test_bit m s) al (λ s k h.
      let q : t ≡ s = eqb-true t s (and_left (eqb t s) (test_bit m s) h) in
      both (and_right (eqb t s) (test_bit m s) h) (ap (test_bit m) (sym q) ∙ e))))
  some_place (from f) =
      by_cases (ℕ_discrete (m / 2 ^ f) 0)
      (λ e. rw (eq-eqb (m / 2 ^ f) 0 e) (sym (any_none (λ s. leb f s && test_bit m s) al (λ s k h.
      let l : f ≤ s = leb-true f s (and_left (leb f s) (test_bit m s) h) in
      both (and_right (leb f s) (test_bit m s) h) (ne_eqb (bit_at m s) 1 (λ o. omega (arith, none_from m f s e l)))))))
      (λ e. let w = some_from m f e in
      let t : test_bit m w.0 ≡ true = eq-eqb (bit_at m w.0) 1 w.1.1 in
      rw (ne_eqb (m / 2 ^ f) 0 e)
      (sym (any_in (λ s. leb f s && test_bit m s) al (listed w.0 t) (and_both (le-leb f w.0 w.1.0) t))))

-- the forms of a word
zeros_free : (k : ℕ) → form_of 0 (replicate k 0) ≡ free k
unfolding form_of free
zeros_free zero = refl
zeros_free (suc k) = ap (λ (xs : List Place). from 0 ∷ xs) (zeros_free k)

pub form_floor : (fixed : List ℕ) (floor k : ℕ) → form_of (length fixed) (fixed ++ (floor ∷ replicate k 0)) ≡ form fixed floor k
unfolding form_of form
form_floor [] floor k = ap (λ (xs : List Place). from floor ∷ xs) (zeros_free k)
form_floor (s ∷ fixed) floor k = ap (λ (xs : List Place). exactly s ∷ xs) (form_floor fixed floor k)

pub form_fixed : (fixed : List ℕ) (s k : ℕ)
    → form_of (suc (length fixed)) (fixed ++ (s ∷ replicate k 0)) ≡ fixed_then_free (fixed ++ (s ∷ [])) k
unfolding form_of fixed_then_free
form_fixed [] s k = ap (λ (xs : List Place). exactly s ∷ xs) (zeros_free k)
form_fixed (t ∷ fixed) s k = ap (λ (xs : List Place). exactly t ∷ xs) (form_fixed fixed s k)

-- the same at a place whose number is known
pub form_floor_at : (fixed : List ℕ) (floor k at : ℕ) → length fixed ≡ at
    → form_of at (fixed ++ (floor ∷ replicate k 0)) ≡ form fixed floor k
form_floor_at fixed floor k at l = rw (← l) (form_floor fixed floor k)

pub form_fixed_at : (fixed : List ℕ) (s k at : ℕ) → length fixed ≡ at
    → form_of (at + 1) (fixed ++ (s ∷ replicate k 0)) ≡ fixed_then_free (fixed ++ (s ∷ [])) k
form_fixed_at fixed s k at l = rw (← l, add-one) (form_fixed fixed s k)

pub form_zero : (fixed : List ℕ) (k : ℕ) → fixed_then_free fixed (suc k) ≡ form fixed 0 k
unfolding fixed_then_free form free
form_zero fixed k = refl

-- the first of a range that passes: none below it does
find_below : (p : ℕ → Bool) (a m s : ℕ) → first_by p (up_from a m) ≡ some s → (x : ℕ) → a ≤ x → x < s → p x ≡ false
unfolding first_by up_from
find_below p a zero s e x l h = clash (cc e)
find_below p a (suc m) s e x l h =
    by_test (p a)
    (λ q. let z : a ≡ s = cc (rw (q, first_by) at e) in absurd (omega arith))
    (λ q. by_cases (ℕ_discrete x a) (λ o. ap p o ∙ q) (λ o. find_below p (suc a) m s (rw (q, first_by) at e) x (omega (arith, o)) h))

module _ {al : List ℕ} (q : PairIn) (A : Alphabet al q.graph.parties q.graph.table) where
  abbrev G : Graph ℕ
  G = graph_of q.graph

  abbrev P : Pair
  P = pair_of q

  -- a search over masks is a search for a word of the form
  pub found_form : (f : Form) (r : Result Path NoPath) → FoundAs 0 (with_bit 0 q.first) (search_form q f) r
      → is_ok r ≡ find_form al G P (form_of f.fixed (symbols_in f.word.word))
  unfolding find_form place_graph
  found_form f r h =
      let n : ℕ = q.graph.parties in
      let t : Table = q.graph.table in
      let xs : List Place = form_of f.fixed (symbols_in f.word.word) in
      let e : mask_graph n t ≡ place_graph al G =
      graph_equal (mask_graph n t) (place_graph al G) refl (λ u v x. some_place al (mask_at t u v) (A.listed u v) x) in
      path_is 0 (with_bit 0 q.first) (search_form q f) r h ∙ search_has n t q.first q.second xs ∙ ap (λ (g : Graph Place). has g P xs) e

  -- of a word with a floor at its place, or with the symbol there fixed
  pub found_floor : (w : ShortWord) (fixed : List ℕ) (floor k : ℕ) {at : ℕ} → Places w.word fixed floor k → length fixed ≡ at
      → (r : Result Path NoPath) → FoundAs 0 (with_bit 0 q.first) (search_form q (record { word = w; fixed = at })) r
      → is_ok r ≡ find_form al G P (form fixed floor k)
  found_floor w fixed floor k {at} p l r h =
      found_form (record { word = w; fixed = at }) r h
      ∙ ap (find_form al G P) (ap (form_of at) p ∙ form_floor_at fixed floor k at l)

  pub found_fixed : (w : ShortWord) (fixed : List ℕ) (s k : ℕ) {at : ℕ} → Places w.word fixed s k → length fixed ≡ at
      → (r : Result Path NoPath) → FoundAs 0 (with_bit 0 q.first) (search_form q (record { word = w; fixed = at + 1 })) r
      → is_ok r ≡ find_form al G P (fixed_then_free (fixed ++ (s ∷ [])) k)
  found_fixed w fixed s k {at} p l r h =
      found_form (record { word = w; fixed = at + 1 }) r h
      ∙ ap (find_form al G P) (ap (form_of (at + 1)) p ∙ form_fixed_at fixed s k at l)

  -- the least symbol
  pub record Least (fixed : List ℕ) (floor k s : ℕ) : Type 0 where
    pub from : floor ≤ s
    pub below : s < 32
    pub finds : find_form al G P (fixed_then_free (fixed ++ (s ∷ [])) k) ≡ true
    pub earlier : (x : ℕ) → floor ≤ x → x < s → find_form al G P (fixed_then_free (fixed ++ (x ∷ [])) k) ≡ false

  pub least_is : (fixed : List ℕ) (floor k s : ℕ) → least_symbol al G P fixed floor k ≡ some s → Least fixed floor k s
  unfolding range
  least_is fixed floor k s e =
      let q = sym (symbol_below al G A.listed P A.ascending 32 A.below fixed floor k) ∙ e in
      let p : ℕ → Bool = λ x. leb floor x && find_form al G P (fixed_then_free (fixed ++ (x ∷ [])) k) in
      let h : p s ≡ true = (find_some p (up_from 0 32) q).here in
      record {
        from = leb-true floor s (and_left (leb floor s) _ h);
        below = range_out 32 (find_in p (range 32) q);
        finds = and_right (leb floor s) _ h;
        earlier = λ x l m. let f = find_below p 0 32 s q x (omega arith) m in rw (le-leb floor x l) at f;
      }

  -- it exists where the search from the floor on succeeds
  pub least_there : (fixed : List ℕ) (floor k : ℕ) → find_form al G P (form fixed floor k) ≡ true
      → (s : ℕ) × (least_symbol al G P fixed floor k ≡ some s)
  least_there fixed floor k e =
      by_found (least_symbol al G P fixed floor k)
      (λ q. both e ((symbol_none_iff al G A.listed P fixed floor k).0 q))
      (λ s q. (s, q))

  pub least_gone : (fixed : List ℕ) (floor k : ℕ) → find_form al G P (form fixed floor k) ≡ false → least_symbol al G P fixed floor k ≡ none
  least_gone fixed floor k e = (symbol_none_iff al G A.listed P fixed floor k).1 e

  pub complete_step : (fixed : List ℕ) (floor k s : ℕ) → least_symbol al G P fixed floor k ≡ some s
      → complete al G P fixed floor k ≡ complete_zeros al G P (fixed ++ (s ∷ [])) k
  unfolding complete complete_zeros
  complete_step fixed floor zero s e = rw (e, complete)
  complete_step fixed floor (suc k) s e = rw (e, complete)

  pub complete_none : (fixed : List ℕ) (floor k : ℕ) → least_symbol al G P fixed floor k ≡ none → complete al G P fixed floor k ≡ none
  unfolding complete
  complete_none fixed floor zero e = rw (e, complete)
  complete_none fixed floor (suc k) e = rw (e, complete)

-- a symbol put at a place
pub symbol_places : (w : Word) {at : ℕ} (y : ℕ) {r : Word} → r.len ≡ w.len → r.symbols ≡ set w.symbols at y
    → (fixed : List ℕ) (x k : ℕ) → Places w fixed x k → length fixed ≡ at → at < w.len → Places r fixed y k
symbol_places w {at} y n s fixed x k p l h =
    rw (n, s, take-set-lt w.len w.symbols at y h, p) (set_at fixed x (replicate k 0) y at l)

pub place_at : (w : Word) (fixed : List ℕ) (x k : ℕ) {at : ℕ} → Places w fixed x k → length fixed ≡ at → at < w.len
    → get_or w.symbols at 0 ≡ x
place_at w fixed x k {at} p l h = sym (get_or-take w.len w.symbols at 0 h) ∙ rw p (get_or_at fixed x (replicate k 0) 0 at l)

-- the first symbol from the floor on with which a path still exists is the least
pub least_first : (q : PairIn) (w : ShortWord) {at : ℕ} → at < w.word.len → (r : Maybe ShortWord)
    → FirstGiven (SymbolTried q w.word at) (get_or w.word.symbols at 0) 32 r → LeastPut q w.word at (unwrap_or r w).word
least_first q w {at} h None f = record {
  len = refl;
  least = λ al fixed floor k s A p l e.
      let m = least_is q A fixed floor k s e in
      let from : get_or w.word.symbols at 0 ≤ s = omega (arith, place_at w.word fixed floor k p l h, m.from) in
      both m.finds ((f s from m.below).1 al fixed floor k A p l);
}
least_first q w {at} h (Some t) (x, low, high, g, f) = record {
  len = g.0;
  least = λ al fixed floor k s A p l e.
      let m = least_is q A fixed floor k s e in
      let start : get_or w.word.symbols at 0 ≡ floor = place_at w.word fixed floor k p l h in
      let found = g.1 al fixed floor k A p l in
      by_cases (dec_lt s x)
      (λ i. both m.finds ((f s (omega (arith, start, m.from)) i).1 al fixed floor k A p l))
      (λ i. by_cases (ℕ_discrete x s)
      (λ y. rw y at found.0)
      (λ y. both found.1 (m.earlier x (omega (arith, start, low)) (omega (arith, i, y)))));
}

-- where the filling of the places from `done` on stands: those before place i are done
pub record Filling (al : List ℕ) (q : PairIn) (done : List ℕ) (m : ℕ) (t : Word) (i : ℕ) : Type 0 where
  pub now : List ℕ
  pub left : ℕ
  pub shape : symbols_in t ≡ now ++ replicate left 0
  pub place : length now ≡ i
  pub same : complete_zeros al (graph_of q.graph) (pair_of q) done m ≡ complete_zeros al (graph_of q.graph) (pair_of q) now left
  pub leads : find_form al (graph_of q.graph) (pair_of q) (fixed_then_free now left) ≡ true

pub record FillTurn (q : PairIn) (w : Word) (from : ℕ) (t : Word) (i : ℕ) : Type 0 where
  pub len : t.len ≡ w.len
  pub filling : (al done : List ℕ) (m : ℕ) → Alphabet al q.graph.parties q.graph.table → symbols_in w ≡ done ++ replicate m 0
      → length done ≡ from → find_form al (graph_of q.graph) (pair_of q) (fixed_then_free done m) ≡ true → Filling al q done m t i

module _ {al : List ℕ} (q : PairIn) (A : Alphabet al q.graph.parties q.graph.table) {done : List ℕ} {m : ℕ} {t : Word} {i : ℕ}
    (h : Filling al q done m t i) (size : length (symbols_in t) ≡ t.len) where
  count : i + h.left ≡ t.len
  count =
      let e = ap length h.shape ∙ length-append h.now (replicate h.left 0) in
      omega (arith, size, e, h.place, length-replicate {A = ℕ} h.left 0)

  pub filling_next : {r : Word} → i < t.len → LeastPut q t i r → Filling al q done m r (i + 1)
  unfolding complete_zeros
  filling_next {r} l f = go h.left refl
    where
      go : (k : ℕ) → h.left ≡ k → Filling al q done m r (i + 1)
      go zero e = absurd (omega (arith, count))
      go (suc k) e =
          let p : Places t h.now 0 k = h.shape ∙ rw e in
          let leads = sym (ap (find_form al (graph_of q.graph) (pair_of q)) (form_zero h.now k)) ∙ rw e at h.leads in
          let w = least_there q A h.now 0 k leads in
          record {
            now = h.now ++ (w.0 ∷ []);
            left = k;
            shape = f.least al h.now 0 k w.0 A p h.place w.1 ∙ sym (append_assoc h.now (w.0 ∷ []) (replicate k 0));
            place = length-append h.now (w.0 ∷ []) ∙ rw h.place;
            same = h.same ∙ rw e (complete_step q A h.now 0 k w.0 w.1);
            leads = (least_is q A h.now 0 k w.0 w.1).finds;
          }

  pub filling_end : t.len ≤ i → complete_zeros al (graph_of q.graph) (pair_of q) done m ≡ some (symbols_in t)
  unfolding complete_zeros
  filling_end l =
      let z : h.left ≡ 0 = omega (arith, count) in
      let end : symbols_in t ≡ h.now = h.shape ∙ rw z (append-nil h.now) in
      h.same ∙ rw z (ap some (sym end))

-- no symbol is 32 or more
pub complete_high : {al : List ℕ} (q : PairIn) → Alphabet al q.graph.parties q.graph.table → (fixed : List ℕ) (floor k : ℕ) → 32 ≤ floor
    → complete al (graph_of q.graph) (pair_of q) fixed floor k ≡ none
complete_high {al} q A fixed floor k h =
    complete_none q A fixed floor k
    (by_found (least_symbol al (graph_of q.graph) (pair_of q) fixed floor k) (λ e. e)
    (λ s e. let l = least_is q A fixed floor k s e in absurd (omega (arith, l.from, l.below))))

-- the next word of the same length: what a later place finds is the answer
module _ (al : List ℕ) (g : Graph ℕ) (p : Pair) (w : List ℕ) where
  pub same_up : (v : List ℕ) (i : ℕ) → i ≤ length w → next_same_length al g p (take i w) (drop i w) ≡ some v
      → next_same_length al g p [] w ≡ some v
  same_up v zero h e = e
  same_up v (suc i) h e = same_up v i (omega arith) (same_step al g p w i (omega arith) ∙ rw e)

  pub same_here : (i : ℕ) (o : Option (List ℕ)) → i < length w → next_same_length al g p (take (i + 1) w) (drop (i + 1) w) ≡ none
      → complete al g p (take i w) (suc (get_or w i 0)) (length w - (i + 1)) ≡ o → next_same_length al g p (take i w) (drop i w) ≡ o
  same_here i o h e f =
      let q : i + 1 ≡ suc i = add-one i in
      same_step al g p w i h ∙ rw (rw q at e) (rw q at f)

-- a word whose first i symbols are kept, and zeros after
abbrev pub Kept : Word → Word → ℕ → Type 0
Kept w t i = symbols_in t ≡ take i (symbols_in w) ++ replicate (w.len - i) 0

module _ (w t : Word) (size : length (symbols_in w) ≡ w.len) (i : ℕ) (h : i < w.len) (k : Kept w t (i + 1)) where
  -- the last symbol kept
  pub kept_last : Places t (take i (symbols_in w)) (get_or (symbols_in w) i 0) (w.len - (i + 1))
  kept_last =
      let one_more = ap (λ (j : ℕ). take j (symbols_in w)) (add-one i) ∙ take-suc (symbols_in w) i 0 (omega arith) in
      k ∙ ap (λ (l : List ℕ). l ++ replicate (w.len - (i + 1)) 0) one_more
      ∙ append_assoc (take i (symbols_in w)) (get_or (symbols_in w) i 0 ∷ []) (replicate (w.len - (i + 1)) 0)

  pub kept_length : length (take i (symbols_in w)) ≡ i
  kept_length = length-take-le i (symbols_in w) (omega arith)

  pub kept_fewer : (r : Word) → Places r (take i (symbols_in w)) 0 (w.len - (i + 1)) → Kept w r i
  kept_fewer r q = let e : w.len - i ≡ suc (w.len - (i + 1)) = omega arith in q ∙ rw e

-- where the raising stands: the symbols before place i are kept, zeros stand after, and no place from i on led to a word
pub record RaiseTurn (q : PairIn) (w t : Word) (i : ℕ) : Type 0 where
  pub len : t.len ≡ w.len
  pub within : i ≤ w.len
  pub kept : Kept w t i
  pub passed : (al : List ℕ) → Alphabet al q.graph.parties q.graph.table
      → next_same_length al (graph_of q.graph) (pair_of q) (take i (symbols_in w)) (drop i (symbols_in w)) ≡ none

module _ {q : PairIn} {w t : Word} {i : ℕ} (h : RaiseTurn q w t i) (size : length (symbols_in w) ≡ w.len)
    (l : 0 < i) where
  pub raise_place : i - 1 < w.len
  raise_place = omega (arith, h.within)

  last_kept : Kept w t (i - 1 + 1)
  last_kept =
      let e : i ≡ i - 1 + 1 = omega arith in
      h.kept ∙ ap (λ (j : ℕ). take j (symbols_in w) ++ replicate (w.len - j) 0) e

  -- the symbol before place i is raised,
  pub raise_next : (r : Maybe ShortWord) → CompletedTo q t (i - 1) suc r → {al : List ℕ} → Alphabet al q.graph.parties q.graph.table
      → WordAs (next_same_length al (graph_of q.graph) (pair_of q) (take (i - 1) (symbols_in w)) (drop (i - 1) (symbols_in w))) r
  raise_next r c {al} A =
      let e : i ≡ i - 1 + 1 = omega arith in
      let last = kept_last w t size (i - 1) raise_place last_kept in
      let len = kept_length w t size (i - 1) raise_place last_kept in
      let raised = c al (take (i - 1) (symbols_in w)) (get_or (symbols_in w) (i - 1) 0) (w.len - (i - 1 + 1)) A last len in
      let next : ℕ → Option (List ℕ) =
      λ j. next_same_length al (graph_of q.graph) (pair_of q) (take j (symbols_in w)) (drop j (symbols_in w)) in
      let z : next (i - 1 + 1) ≡ none = ap next (sym e) ∙ h.passed al A in
      rw (same_here al (graph_of q.graph) (pair_of q) (symbols_in w) (i - 1) _ (omega (arith, size, raise_place)) z refl, size) raised

  -- or becomes a zero
  pub raise_zero : {r : Word} → r.len ≡ t.len → r.symbols ≡ set t.symbols (i - 1) 0 → Kept w r (i - 1)
  raise_zero {r} n s =
      let last = kept_last w t size (i - 1) raise_place last_kept in
      let len = kept_length w t size (i - 1) raise_place last_kept in
      kept_fewer w t size (i - 1) raise_place last_kept r
      (symbol_places t 0 n s (take (i - 1) (symbols_in w)) (get_or (symbols_in w) (i - 1) 0) (w.len - (i - 1 + 1)) last len
      (omega (arith, raise_place, h.len)))

-- a word that was found, or none
pub word_not : (o : Option (List ℕ)) (r : Maybe ShortWord) → WordAs o r → some_given r ≡ false → o ≡ none
word_not o None h f = h
word_not o (Some w) h f = both refl f

pub word_as : (o p : Option (List ℕ)) (r : Maybe ShortWord) → WordAs o r → some_given r ≡ true
    → ((v : List ℕ) → o ≡ some v → p ≡ some v) → WordAs p r
word_as o p None h f e = both f refl
word_as o p (Some w) h f e = e (symbols_in w.word) h

-- the word that was found, or else what another search gives
pub word_or : {o p : Option (List ℕ)} (r result : Maybe ShortWord) {P : Type 0} → WordAs o r
    → MatchOption r P (λ w. result ≡ Some w) → (P → o ≡ none → WordAs p result) → ((v : List ℕ) → o ≡ some v → p ≡ some v)
    → WordAs p result
word_or None result h m n s = n m h
word_or (Some w) result h m n s = rw m (s (symbols_in w.word) h)

-- the first longer word, length by length
module _ (al : List ℕ) (g : Graph ℕ) (p : Pair) where
  pub longer_step : (k d : ℕ) → k < d
      → first_longer al g p k (d - k) ≡ or_else (complete al g p [] 0 k) (first_longer al g p (k + 1) (d - (k + 1)))
  unfolding first_longer
  longer_step k d h = let e : d - k ≡ suc (d - (k + 1)) = omega arith in rw (e, add-one)

  pub longer_end : (k d : ℕ) → d ≤ k → first_longer al g p k (d - k) ≡ none
  unfolding first_longer
  longer_end k d h = let e : d - k ≡ 0 = omega arith in rw e

pub or_found : (o p : Option (List ℕ)) (v : List ℕ) → o ≡ some v → or_else o p ≡ some v
or_found o p v e = rw e

-- the lengths above k and up to d, one after another
module _ (al : List ℕ) (g : Graph ℕ) (p : Pair) (d : ℕ) where
  abbrev above : ℕ → Option (List ℕ)
  above k = first_longer al g p k (d - k)

  -- the least word of j + 1 symbols
  abbrev pub LeastOfNext : ℕ → Maybe ShortWord → Type 0
  LeastOfNext j r = WordAs (complete al g p [] 0 (j + 1 - 1)) r

  of_next : (j : ℕ) (r : Maybe ShortWord) → LeastOfNext j r → WordAs (complete al g p [] 0 j) r
  of_next j r h = let e : j + 1 - 1 ≡ j = omega arith in rw e at h

  none_above : (k i j : ℕ) → k + i ≡ j → j ≤ d → NoneGiven LeastOfNext k j → above k ≡ above j
  none_above k zero j e h f = let same : j ≡ k = omega (arith, e) in rw same
  none_above k (suc i) j e h f =
      let next : k + i + 1 ≡ j = omega (arith, e) in
      none_above k i (k + i) refl (omega (arith, e)) (λ x a b. f x a (omega (arith, e)))
      ∙ longer_step al g p (k + i) d (omega (arith, e))
      ∙ rw (of_next (k + i) None (f (k + i) (omega arith) (omega (arith, e))), next)

  pub longer_given : (k : ℕ) → k ≤ d → (r : Maybe ShortWord) → FirstGiven LeastOfNext k d r → WordAs (above k) r
  longer_given k h None f = none_above k (d - k) d (omega arith) (omega arith) f ∙ longer_end al g p d d (omega arith)
  longer_given k h (Some w) (j, low, high, x, f) =
      none_above k (j - k) j (omega arith) (omega arith) f
      ∙ longer_step al g p j d high
      ∙ or_found _ _ (symbols_in w.word) (of_next j (Some w) x)
