-- Marks that say which parties were seen give the search's answer and its least path: by induction on the word.
use Rattle.std.proofs.Common.{◌≡◌, refl, sym, ap, ◌∙◌, Bool, false, not, ◌&&◌, ◌||◌, List, []}
use Rattle.std.proofs.Common.{◌∷◌, ◌++◌, map, ℕ, suc, ◌<◌, arith, eqb, leb, length, le-leb}
use mathlib.Core.List.{Memᴰ}
use Rattle.std.proofs.Math.Option.{Option, none, some}
use Rattle.lists.specs.Lists.{any_of, filter_by, flat_map, member, range}
use Rattle.lists.specs.Order.{first_element}
use Rattle.lists.proofs.ListLaws.{range_out}
use Rattle.lists.proofs.Cases.{by_test, by_found, both}
use Rattle.lists.proofs.OrderLaws.{head_in}
use Rattle.rebac.specs.Matter.{Pair}
use Rattle.rebac.specs.Paths.{Graph, has, candidates, routes, paths_of, least_path}
use Rattle.rebac.proofs.Reach.{reach, has_reach, Onward, routes_out, routes_reach}
use Rattle.rebac.specs.Options.{given}
use Rattle.rebac.specs.promises.Options.{is_some, or_else, first_some}
use Rattle.rebac.specs.promises.Marked.{prepend, PartyMarks, least_marked}
use Rattle.rebac.proofs.SearchLaws.{reach_last, reach_seen}

head_append : {A : Type 0} (l m : List A) → first_element (l ++ m) ≡ or_else (first_element l) (first_element m)
head_append [] m = refl
head_append (x ∷ l) m = refl

head_map : (c : ℕ) (l : List (List ℕ)) → first_element (map (λ v. c ∷ v) l) ≡ prepend c (first_element l)
head_map c [] = refl
head_map c (v ∷ l) = refl

head_flat : {A B : Type 0} (t : A → Bool) (f : A → List B) (l : List A)
    → first_element (flat_map f (filter_by t l)) ≡ first_some (λ x. given (t x) (first_element (f x))) l
unfolding flat_map filter_by first_some
head_flat t f [] = refl
head_flat t f (x ∷ l) =
    by_test (t x)
    (λ q. rw (q, filter_by, flat_map, head_append, head_flat t f l))
    (λ q. rw (q, filter_by) (head_flat t f l))

some_same : {A B : Type 0} (f h : A → Option B) (l : List A) → ((x : A) → Memᴰ x l → f x ≡ h x) → first_some f l ≡ first_some h l
unfolding first_some
some_same f h [] k = refl
some_same f h (x ∷ l) k = rw (k x (Memᴰ.head refl), some_same f h l (λ y m. k y (Memᴰ.tail m)))

some_length : {A : Type 0} (l : List A) → is_some (first_element l) ≡ leb 1 (length l)
some_length [] = refl
some_length (x ∷ l) = sym (le-leb 1 (suc (length l)) (omega arith))

module _ {S K : Type 0} (g : Graph S) (seen : ℕ → K → Bool) (mark : ℕ → K → K)
    (marks : (c d : ℕ) (v : K) → c < g.parties → d < g.parties → seen c (mark d v) ≡ (eqb c d || seen c v)) where
  -- one party more is marked
  pub marks_more : (v : K) (past : List ℕ) (d : ℕ) → d < g.parties
      → PartyMarks g.parties seen v past → PartyMarks g.parties seen (mark d v) (d ∷ past)
  unfolding any_of
  marks_more v past d l m c k = marks c d v k l ∙ rw (m c k)

  pub marked_least : (w : List S) (v : K) (past : List ℕ) (a b : ℕ) → PartyMarks g.parties seen v past
      → least_marked g seen mark v a b w ≡ first_element (routes g past a b w)
  unfolding least_marked routes candidates
  marked_least [] v past a b m = by_test (eqb a b) (λ e. rw (e, routes)) (λ e. rw (e, routes))
  marked_least (s ∷ w) v past a b m =
      some_same _ _ (range g.parties) (λ c n.
      let l = range_out g.parties n in
      let e = marked_least w (mark c v) (c ∷ past) c b (marks_more v past c l m) in
      rw (m c l, e, ← head_map c (routes g (c ∷ past) c b w)))
      ∙ sym (head_flat (λ c. not (member c past) && g.edge a c s) (λ c. map (λ l. c ∷ l) (routes g (c ∷ past) c b w)) (range g.parties))

  -- there is a continuation exactly where the search is true
  pub marked_reach : (w : List S) (v : K) (past : List ℕ) (a b : ℕ) → PartyMarks g.parties seen v past
      → is_some (least_marked g seen mark v a b w) ≡ reach g past a b w
  marked_reach w v past a b m = ap is_some (marked_least w v past a b m) ∙ some_length (routes g past a b w) ∙ routes_reach g past a b w

  -- so with the pair's first party marked it gives the word test and the least path
  pub marked_has : (p : Pair) (w : List S) (v : K) → PartyMarks g.parties seen v (p.first ∷ [])
      → is_some (least_marked g seen mark v p.first p.second w) ≡ has g p w
  marked_has p w v m = marked_reach w v (p.first ∷ []) p.first p.second m ∙ sym (has_reach g p w)

  pub marked_path : (p : Pair) (w : List S) (v : K) → PartyMarks g.parties seen v (p.first ∷ [])
      → prepend p.first (least_marked g seen mark v p.first p.second w) ≡ least_path g p w
  unfolding least_path paths_of
  marked_path p w v m =
      ap (prepend p.first) (marked_least w v (p.first ∷ []) p.first p.second m)
      ∙ sym (head_map p.first (routes g (p.first ∷ []) p.first p.second w))

-- Short cuts: the last step goes to the second party itself, and while symbols remain the second party need not be tried.
module _ {S : Type 0} (g : Graph S) where
  first_reach : (past : List ℕ) (a b : ℕ) (w : List S) → is_some (first_element (routes g past a b w)) ≡ reach g past a b w
  first_reach past a b w = some_length (routes g past a b w) ∙ routes_reach g past a b w

  none_where : (past : List ℕ) (a b : ℕ) (w : List S) → reach g past a b w ≡ false → first_element (routes g past a b w) ≡ none
  none_where past a b w e =
      by_found (first_element (routes g past a b w)) (λ h. h) (λ l h. both (sym (rw h at (first_reach past a b w))) e)

  pub least_seen : (past : List ℕ) (a b : ℕ) (s : S) (w : List S) → Memᴰ b past → first_element (routes g past a b (s ∷ w)) ≡ none
  least_seen past a b s w m = none_where past a b (s ∷ w) (reach_seen g past a b s w m)

  one_step_lem : (past : List ℕ) (a b : ℕ) (s : S) (via : List ℕ) → Onward g past a b (s ∷ []) via → via ≡ b ∷ []
  one_step_lem past a b s [] o = absurd o.walk
  one_step_lem past a b s (c ∷ []) o = ap (λ x. x ∷ []) o.walk.2
  one_step_lem past a b s (c ∷ d ∷ via) o = absurd o.walk.2

  pub least_last : (past : List ℕ) (a b : ℕ) (s : S) → b < g.parties
      → first_element (routes g past a b (s ∷ [])) ≡ given (not (member b past) && g.edge a b s) (some (b ∷ []))
  least_last past a b s l =
      by_test (not (member b past) && g.edge a b s)
      (λ e. by_found (first_element (routes g past a b (s ∷ [])))
      (λ h. both (reach_last g past a b s l ∙ e) (sym (rw h at (first_reach past a b (s ∷ [])))))
      (λ v h. rw (e, h) (ap some (one_step_lem past a b s v (routes_out g past a b (s ∷ []) (head_in (routes g past a b (s ∷ [])) h))))))
      (λ e. rw e (none_where past a b (s ∷ []) (reach_last g past a b s l ∙ e)))
