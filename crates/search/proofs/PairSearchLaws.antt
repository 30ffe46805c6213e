-- The search for a pair is the word test and the least path: fixed places lead where their symbols do. Assumes nothing.
use Rattle.std.proofs.Common.{◌≡◌, ℕ, zero, suc, ◌-◌, ◌<◌, ◌≤◌, get_or, Bool, false, ◌||◌}
use Rattle.std.proofs.Common.{eqb, List, [], ◌∷◌, map, length, sym, refl, ap, ◌∙◌, arith}
use Rattle.std.proofs.Math.Option.{none, some}
use Rattle.lists.specs.Lists.{any_of, flat_map}
use Rattle.masks.specs.promises.Mask.{test_bit, with_bit}
use Rattle.masks.specs.declared.Table.{Table}
use Rattle.masks.proofs.BitLaws.{test_with_other}
use Rattle.masks.proofs.MaskLaws.{zero_bit}
use Rattle.rebac.specs.Matter.{Pair, pair}
use Rattle.rebac.specs.Paths.{has, routes, candidates, paths_of, least_path}
use Rattle.rebac.specs.promises.Forms.{Place, exactly}
use Rattle.rebac.specs.promises.Options.{is_some}
use Rattle.rebac.specs.promises.Marked.{prepend, PartyMarks}
use Rattle.rebac.proofs.SearchLaws.{long_word, no_empty_word}
use Rattle.rebac.proofs.MarkedLaws.{marked_has, marked_path}
use Rattle.search.specs.Word.{symbols_in}
use Rattle.search.specs.promises.Search.{place_on, place_at, mask_graph, form_of, search_from, places_from}
use Rattle.search.specs.promises.PairSearch.{table_graph, search_pair, search_form}
use Rattle.search.specs.promises.Walk.{NoStep}
use Rattle.search.specs.declared.word.Form.{Form}
use Rattle.search.specs.declared.word.Word.{Word}
use Rattle.masks.specs.promises.Table.{no_row, mask_at}
use Rattle.masks.proofs.BitLaws.{ones_bit}
use Rattle.rebac.specs.Options.{given}
use Rattle.search.specs.declared.pair.PairIn.{PairIn}
use Rattle.search.proofs.SearchLaws.{mark_law, search_last, search_none, through_not, places_cons, places_last, short_fits}
use Rattle.rebac.proofs.OptionLaws.{none_of}

module _ (n : ℕ) (t : Table) (first second : ℕ) where
  start_marks : PartyMarks n (λ c v. test_bit v c) (with_bit 0 first) (first ∷ [])
  unfolding any_of
  start_marks c h = mark_law c first 0 ∙ ap (λ (b : Bool). eqb c first || b) (zero_bit c)

  pub search_has : (xs : List Place) → is_some (search_pair n t first second xs) ≡ has (mask_graph n t) (pair first second) xs
  unfolding search_from
  search_has xs =
      marked_has (mask_graph n t) (λ c v. test_bit v c) (λ c v. with_bit v c) (λ c d v h k. mark_law c d v)
      (pair first second) xs (with_bit 0 first) start_marks

  pub search_path : (xs : List Place) → prepend first (search_pair n t first second xs) ≡ least_path (mask_graph n t) (pair first second) xs
  unfolding search_from
  search_path xs =
      marked_path (mask_graph n t) (λ c v. test_bit v c) (λ c v. with_bit v c) (λ c d v h k. mark_law c d v)
      (pair first second) xs (with_bit 0 first) start_marks

  pub search_empty : (first ≡ second → ⊥) → search_pair n t first second [] ≡ none
  search_empty d = none_of _ (search_has [] ∙ no_empty_word (mask_graph n t) (pair first second) d)

  pub search_long : first < n → (xs : List Place) → n ≤ length xs → search_pair n t first second xs ≡ none
  search_long h xs l = none_of _ (search_has xs ∙ long_word (mask_graph n t) (pair first second) xs h l)

-- the second party is not visited yet
pub unvisited : (q : PairIn) {visited : ℕ} → visited ≡ with_bit 0 q.first → test_bit visited q.second ≡ false
unvisited q e = rw e (test_with_other 0 q.first q.second (λ d. q.is_pair.different (sym d)) ∙ zero_bit q.second)

-- from place 0 on the places are the form's
pub places_start : (f : Form) → form_of f.fixed (symbols_in f.word.word) ≡ places_from f.word.word f.fixed 0
places_start f = let z : f.fixed - 0 ≡ f.fixed = omega arith in rw z

-- a form of one place leads where the pair's mask has a symbol for it
pub search_one : (q : PairIn) (f : Form) → f.word.word.len ≡ 1
    → search_form q f ≡ given (place_on (place_at f.word.word f.fixed 0) (mask_at q.graph.table q.first q.second)) (some (q.second ∷ []))
search_one q f e =
    ap (search_pair q.graph.parties q.graph.table q.first q.second) (places_start f ∙ places_last f.word.short f.fixed 0 (sym e))
    ∙ search_last q.graph.parties q.graph.table (with_bit 0 q.first) q.first q.second q.is_pair.second (place_at f.word.word f.fixed 0)
    ∙ rw (unvisited q refl)

-- where no party may stand at place 0 there is no path
pub search_nowhere : (q : PairIn) (f : Form) → 0 < f.word.word.len
    → NoStep (place_at f.word.word f.fixed 0) (get_or q.graph.table.rows q.first no_row) 4294967295 q.graph.parties q.graph.parties
    → search_form q f ≡ none
search_nowhere q f h s =
    let n : ℕ = q.graph.parties in
    let t : Table = q.graph.table in
    let w : Word = f.word.word in
    let visited : ℕ = with_bit 0 q.first in
    ap (search_pair n t q.first q.second) (places_start f ∙ places_cons w f.fixed 0 h (short_fits f.word.short))
    ∙ search_none n t visited q.first q.second (place_at w f.fixed 0) (places_from w f.fixed 1)
    (λ c l. through_not n t visited q.first q.second (place_at w f.fixed 0) (places_from w f.fixed 1) c
    (s c l l (ones_bit 32 c (omega (arith, q.graph.within)))))

-- fixed places lead where their symbols do
module _ (n : ℕ) (t : Table) where
  flat_same : {A B : Type 0} (f g : A → List B) (l : List A) → ((x : A) → f x ≡ g x) → flat_map f l ≡ flat_map g l
  unfolding flat_map
  flat_same f g [] e = refl
  flat_same f g (x ∷ l) e = rw (e x, flat_same f g l e)

  routes_fixed : (w seen : List ℕ) (a b : ℕ) → routes (mask_graph n t) seen a b (map exactly w) ≡ routes (table_graph n t) seen a b w
  unfolding routes candidates
  routes_fixed [] seen a b = refl
  routes_fixed (s ∷ w) seen a b = flat_same _ _ _ (λ c. rw (routes_fixed w (c ∷ seen) c b))

  pub least_fixed : (p : Pair) (w : List ℕ) → least_path (mask_graph n t) p (map exactly w) ≡ least_path (table_graph n t) p w
  unfolding least_path paths_of
  least_fixed p w = rw (routes_fixed w (p.first ∷ []) p.first p.second)

pub all_fixed : (w : List ℕ) (k : ℕ) → length w ≤ k → form_of k w ≡ map exactly w
unfolding form_of
all_fixed [] k h = refl
all_fixed (s ∷ w) zero h = absurd (omega arith)
all_fixed (s ∷ w) (suc k) h = ap (λ (xs : List Place). exactly s ∷ xs) (all_fixed w k (omega arith))

pub form_length : (k : ℕ) (w : List ℕ) → length (form_of k w) ≡ length w
unfolding form_of
form_length k [] = refl
form_length zero (s ∷ w) = ap suc (form_length zero w)
form_length (suc k) (s ∷ w) = ap suc (form_length k w)
