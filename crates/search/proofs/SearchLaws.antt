-- The search's definition turn by turn: the last step goes to the target itself, and before it the candidates are tried in ascending order.
-- Assumes nothing.
use Rattle.std.proofs.Common.{◌≡◌, ℕ, zero, suc, ◌+◌, ◌-◌, ◌<◌, ◌≤◌, Bool, true, false, not, ◌&&◌, ◌||◌, eqb, ltb}
use Rattle.std.proofs.Common.{List, [], ◌∷◌, length, get_or, drop, set, sym, refl, ap, ◌∙◌, add-one, arith, length-set}
use Rattle.std.proofs.Common.{drop_of_length-le, length-take, drop-cons, get_or-set_other, get_or-take}
use Rattle.std.proofs.Common.{get_or-set_same, ltb-false, ltb-true, eq-eqb, ne_eqb, Result, Ok, Err, is_ok}
use Rattle.std.proofs.Math.Logic.{by_cases}
use Rattle.std.proofs.Math.Option.{Option, none, some}
use Rattle.std.proofs.Math.Decide.{ℕ_discrete}
use Rattle.lists.specs.Lists.{filter_by, member, range, up_from}
use Rattle.lists.specs.Order.{first_element}
use Rattle.lists.proofs.Cases.{by_test, both}
use Rattle.lists.proofs.ListLaws.{filter_in, filter_out, member_in, member_out, range_in}
use Rattle.masks.specs.promises.Mask.{test_bit, with_bit}
use Rattle.masks.specs.promises.Table.{mask_at}
use Rattle.masks.specs.declared.Table.{Table}
use Rattle.masks.proofs.BitLaws.{test_with_same, test_with_other}
use Rattle.rebac.specs.Paths.{routes}
use Rattle.rebac.specs.promises.Forms.{Place}
use Rattle.rebac.specs.Options.{given}
use Rattle.rebac.specs.promises.Options.{is_some, or_else, first_some}
use Rattle.rebac.specs.promises.Marked.{prepend, PartyMarks, least_marked}
use Rattle.rebac.proofs.MarkedLaws.{marked_least, least_last, least_seen}
use Rattle.search.specs.Word.{symbols_in}
use Rattle.search.specs.promises.WordValues.{Short}
use Rattle.search.specs.promises.Search.{place_on, pick_place, place_at, mask_graph, form_of, search_from, places_from, visit_all}
use Rattle.search.specs.promises.Search.{PathAs, FoundAs}
use Rattle.search.specs.declared.word.Word.{Word}
use Rattle.search.specs.declared.path.NoPath.{NoPath}
use Rattle.search.specs.declared.path.Path.{Path}

-- a mask stands for the list of the parties that it has
visited_list : ℕ → ℕ → List ℕ
visited_list n visited = filter_by (test_bit visited) (range n)

marks_list : (n visited : ℕ) → PartyMarks n (λ c v. test_bit v c) visited (visited_list n visited)
unfolding visited_list
marks_list n visited c h =
    by_test (test_bit visited c)
    (λ e. e ∙ sym (member_in c _ (filter_in (test_bit visited) (range n) (range_in n c h) e)))
    (λ e. by_test (member c (filter_by (test_bit visited) (range n)))
    (λ m. both (filter_out (test_bit visited) (range n) (member_out c _ m)).1 e)
    (λ m. e ∙ sym m))

pub mark_law : (c d v : ℕ) → test_bit (with_bit v d) c ≡ (eqb c d || test_bit v c)
mark_law c d v =
    by_cases (ℕ_discrete c d)
    (λ q. rw (q, eq-eqb d d refl) (test_with_same v d))
    (λ q. rw (ne_eqb c d q) (test_with_other v d c q))

module _ (n : ℕ) (t : Table) (visited u target : ℕ) where
  is_routes : (xs : List Place)
      → search_from n t visited u target xs ≡ first_element (routes (mask_graph n t) (visited_list n visited) u target xs)
  unfolding search_from
  is_routes xs =
      marked_least (mask_graph n t) (λ c v. test_bit v c) (λ c v. with_bit v c) (λ c d v h k. mark_law c d v)
      xs visited (visited_list n visited) u target (marks_list n visited)

  -- the last step
  pub search_last : target < n → (x : Place) → search_from n t visited u target (x ∷ [])
      ≡ given (not (test_bit visited target) && place_on x (mask_at t u target)) (some (target ∷ []))
  search_last h x =
      is_routes (x ∷ []) ∙ least_last (mask_graph n t) (visited_list n visited) u target x h
      ∙ ap (λ (b : Bool). given (not b && place_on x (mask_at t u target)) (some (target ∷ []))) (sym (marks_list n visited target h))

  -- the target was passed already
  pub search_passed : target < n → test_bit visited target ≡ true → (x : Place) (xs : List Place)
      → search_from n t visited u target (x ∷ xs) ≡ none
  search_passed h e x xs =
      is_routes (x ∷ xs)
      ∙ least_seen (mask_graph n t) (visited_list n visited) u target x xs (member_out target _ (sym (marks_list n visited target h) ∙ e))

-- what a candidate gives
unfoldable pub through : ℕ → Table → ℕ → ℕ → ℕ → Place → List Place → ℕ → Option (List ℕ)
through n t visited u target x xs c =
    given (not (test_bit visited c) && place_on x (mask_at t u c)) (prepend c (search_from n t (with_bit visited c) c target xs))

module _ (n : ℕ) (t : Table) (visited u target : ℕ) (x : Place) (xs : List Place) where
  -- the candidates from v on
  unfoldable pub onwards : ℕ → Option (List ℕ)
  onwards v = first_some (through n t visited u target x xs) (up_from v (n - v))

  pub search_start : search_from n t visited u target (x ∷ xs) ≡ onwards 0
  unfolding search_from least_marked onwards through range
  search_start = let e : n - 0 ≡ n = omega arith in rw e

  pub onwards_end : (v : ℕ) → n ≤ v → onwards v ≡ none
  unfolding onwards first_some up_from
  onwards_end v h = let e : n - v ≡ 0 = omega arith in rw e

  turn : (v : ℕ) → v < n → onwards v ≡ or_else (through n t visited u target x xs v) (onwards (v + 1))
  unfolding onwards first_some up_from
  turn v h = let e : n - v ≡ suc (n - (v + 1)) = omega arith in rw (e, add-one)

  pub onwards_skip : (v : ℕ) → v < n → through n t visited u target x xs v ≡ none → onwards v ≡ onwards (v + 1)
  onwards_skip v h e = turn v h ∙ rw e

  pub onwards_hit : (v : ℕ) (l : List ℕ) → v < n → through n t visited u target x xs v ≡ some l → onwards v ≡ some l
  onwards_hit v l h e = turn v h ∙ rw e

  -- the candidates before v are passed where none of them leads on, and where none does at all the search finds nothing
  pub onwards_past : (v : ℕ) → v ≤ n → ((c : ℕ) → c < v → through n t visited u target x xs c ≡ none) → onwards 0 ≡ onwards v
  onwards_past zero h f = refl
  onwards_past (suc v) h f =
      onwards_past v (omega arith) (λ c l. f c (omega arith)) ∙ onwards_skip v (omega arith) (f v (omega arith)) ∙ rw (add-one)

  pub search_none : ((c : ℕ) → c < n → through n t visited u target x xs c ≡ none) → search_from n t visited u target (x ∷ xs) ≡ none
  search_none f = search_start ∙ onwards_past n (omega arith) f ∙ onwards_end n (omega arith)

  pub search_hit : (v : ℕ) (l : List ℕ) → v < n → ((c : ℕ) → c < v → through n t visited u target x xs c ≡ none)
      → through n t visited u target x xs v ≡ some l → search_from n t visited u target (x ∷ xs) ≡ some l
  search_hit v l h f e = search_start ∙ onwards_past v (omega arith) f ∙ onwards_hit v l h e

  -- a candidate that does not lead on
  pub through_visited : (c : ℕ) → test_bit visited c ≡ true → through n t visited u target x xs c ≡ none
  unfolding through
  through_visited c e = rw e

  pub through_not : (c : ℕ) → place_on x (mask_at t u c) ≡ false → through n t visited u target x xs c ≡ none
  unfolding through
  through_not c e = by_test (test_bit visited c) (λ q. rw q) (λ q. rw (q, e))

  pub through_lost : (c : ℕ) → search_from n t (with_bit visited c) c target xs ≡ none → through n t visited u target x xs c ≡ none
  unfolding through
  through_lost c e = rw e (by_test (not (test_bit visited c) && place_on x (mask_at t u c)) (λ q. rw q) (λ q. rw q))

  pub through_on : (c : ℕ) → test_bit visited c ≡ false → place_on x (mask_at t u c) ≡ true
      → through n t visited u target x xs c ≡ prepend c (search_from n t (with_bit visited c) c target xs)
  unfolding through
  through_on c e f = rw (e, f)

-- while places remain the target itself leads nowhere
pub through_target : (n : ℕ) (t : Table) (visited u target : ℕ) (x y : Place) (xs ys : List Place) → xs ≡ y ∷ ys → target < n
    → through n t visited u target x xs target ≡ none
unfolding through
through_target n t visited u target x y xs ys e h =
    rw (e, search_passed n t (with_bit visited target) target target h (test_with_same visited target) y ys)
    (by_test (not (test_bit visited target) && place_on x (mask_at t u target)) (λ q. rw q) (λ q. rw q))

-- the places of a word, taken apart
formed : (fixed at s : ℕ) (w : List ℕ) → form_of (fixed - at) (s ∷ w) ≡ pick_place (ltb at fixed) s ∷ form_of (fixed - (at + 1)) w
unfolding form_of
formed fixed at s w =
    by_test (ltb at fixed)
    (λ q. let h : at < fixed = ltb_out q in
    let e : fixed - at ≡ suc (fixed - (at + 1)) = omega arith in
    rw (q, e))
    (λ q. let h : fixed ≤ at = ltb_not q in
    let e : fixed - at ≡ 0 = omega arith in
    let d : fixed - (at + 1) ≡ 0 = omega arith in
    rw (q, e, d))
  where
    ltb_out : ltb at fixed ≡ true → at < fixed
    ltb_out = ltb-true at fixed

    ltb_not : ltb at fixed ≡ false → fixed ≤ at
    ltb_not = ltb-false at fixed

pub symbols_length : (w : Word) → w.len ≤ length w.symbols → length (symbols_in w) ≡ w.len
symbols_length w b = length-take w.len w.symbols ∙ omega arith

pub places_cons : (w : Word) (fixed at : ℕ) → at < w.len → w.len ≤ length w.symbols
    → places_from w fixed at ≡ place_at w fixed at ∷ places_from w fixed (at + 1)
places_cons w fixed at h b =
    let n = symbols_length w b in
    let s : ℕ = get_or w.symbols at 0 in
    let d : drop at (symbols_in w) ≡ s ∷ drop (at + 1) (symbols_in w) =
    rw add-one
    (drop-cons (symbols_in w) at 0 (omega arith)
    ∙ ap (λ (x : ℕ). x ∷ drop (suc at) (symbols_in w)) (get_or-take w.len w.symbols at 0 h)) in
    ap (form_of (fixed - at)) d ∙ formed fixed at s (drop (at + 1) (symbols_in w))

pub places_end : (w : Word) (fixed at : ℕ) → w.len ≤ at → w.len ≤ length w.symbols → places_from w fixed at ≡ []
unfolding form_of
places_end w fixed at h b =
    let n = symbols_length w b in
    ap (form_of (fixed - at)) (drop_of_length-le (symbols_in w) {i = at} (omega arith))

pub short_fits : {w : Word} → Short w → w.len ≤ length w.symbols
short_fits s = omega arith

-- at the last place there is one place left
pub places_last : {w : Word} → Short w → (fixed at : ℕ) → at + 1 ≡ w.len → places_from w fixed at ≡ place_at w fixed at ∷ []
places_last {w} s fixed at e =
    places_cons w fixed at (omega arith) (short_fits s)
    ∙ ap (λ (xs : List Place). place_at w fixed at ∷ xs) (places_end w fixed (at + 1) (omega arith) (short_fits s))

pub places_two : {w : Word} → Short w → (fixed at : ℕ) → at + 2 ≡ w.len
    → places_from w fixed at ≡ place_at w fixed at ∷ place_at w fixed (w.len - 1) ∷ []
places_two {w} s fixed at e =
    let d : at + 1 ≡ w.len - 1 = omega arith in
    places_cons w fixed at (omega arith) (short_fits s)
    ∙ ap (λ (xs : List Place). place_at w fixed at ∷ xs) (places_last s fixed (at + 1) (omega arith) ∙ rw d)

-- what was found is handed on, one party more in front
pub path_onto : (at visited c : ℕ) (l : List ℕ) (p q : Path) → at + 1 < 32 → PathAs (at + 1) (with_bit visited c) l p
    → q.visited ≡ p.visited → q.parties ≡ set p.parties (at + 1) c → PathAs at visited (c ∷ l) q
unfolding visit_all
path_onto at visited c l p q b h v e = record {
  visited = v ∙ h.visited;
  full = ap length e ∙ length-set p.parties (at + 1) c ∙ h.full;
  parties = λ i k. rw e (written i k);
}
  where
    written : (i : ℕ) → i < length (c ∷ l) → get_or (set p.parties (at + 1) c) (at + suc i) 0 ≡ get_or (c ∷ l) i 0
    written zero k = get_or-set_same p.parties (at + 1) c 0 (omega (arith, h.full))
    written (suc i) k =
        get_or-set_other p.parties (at + 1) (at + suc (suc i)) c 0 (λ e. omega arith)
        ∙ ap (λ (j : ℕ). get_or p.parties j 0) (omega arith) ∙ h.parties i (omega arith)

pub path_last : (at visited target : ℕ) (p : Path) → p.visited ≡ with_bit visited target → length p.parties ≡ 32
    → get_or p.parties (at + 1) 0 ≡ target → PathAs at visited (target ∷ []) p
unfolding visit_all
path_last at visited target p v n e = record { visited = v; full = n; parties = written }
  where
    written : (i : ℕ) → i < length (target ∷ []) → get_or p.parties (at + suc i) 0 ≡ get_or (target ∷ []) i 0
    written zero k = e
    written (suc i) k = absurd (omega arith)

-- whether there is a path, as an equation
pub path_is : (at visited : ℕ) (o : Option (List ℕ)) (r : Result Path NoPath) → FoundAs at visited o r → is_ok r ≡ is_some o
path_is at visited o (Ok p) h = rw h.1.0
path_is at visited o (Err e) h = rw h
