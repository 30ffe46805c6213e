-- 000's linked sequences of triples and 01's walks in which no party occurs twice
-- are the same walks, where no edge joins a party to itself.
use Rattle.std.proofs.Common.{◌≡◌, refl, sym, ap, ◌∙◌, ◌↔◌, true, false, List, [], ◌∷◌, map, ℕ, suc, ◌≤◌, ◌<◌, arith, length}
use mathlib.Core.List.Memᴰ
use mathlib.Core.List.{Memᴰ}
use Rattle.lists.specs.Order.{Distinct}
use Rattle.lists.proofs.Cases.{by_mem, both}
use Rattle.lists.proofs.ListLaws.{map_in, map_out}
use Rattle.rebac.specs.Matter.{Pair}
use Rattle.rebac.specs.Paths.{Graph, Walk, Path, HasPath}
use Rattle.rebac.specs.TriplePaths.{Triple, Linked, NoReturn, TriplePath, path_label}

module _ {S : Type 0} where
  -- the vertices after the first
  abbrev pub finishes : List (Triple S) → List ℕ
  finishes ts = map (λ t. t.finish) ts

  -- the triples of a walk that starts at a and passes the parties of the list
  abbrev pub triples : ℕ → List ℕ → List S → List (Triple S)
  triples a (c ∷ l) (s ∷ w) = record { start = a; finish = c; symbol = s } ∷ triples c l w
  triples a [] w = []
  triples a (c ∷ l) [] = []

module _ {S : Type 0} (g : Graph S) where
  -- a walk has as many parties after the first as symbols
  pub walk_length : (a b : ℕ) (l : List ℕ) (w : List S) → Walk g a l w b → length l ≡ length w
  walk_length a b [] [] k = refl
  walk_length a b [] (s ∷ w) k = absurd k
  walk_length a b (c ∷ l) [] k = absurd k
  walk_length a b (c ∷ l) (s ∷ w) k = ap suc (walk_length c b l w k.2)

  pub walk_inside : (a b : ℕ) (l : List ℕ) (w : List S) → Walk g a l w b → (x : ℕ) → Memᴰ x l → x < g.parties
  walk_inside a b [] w k x m = absurd (Memᴰ.not-nil m)
  walk_inside a b (c ∷ l) [] k x m = absurd k
  walk_inside a b (c ∷ l) (s ∷ w) k x m = by_mem m (λ e. rw e k.0) (λ n. walk_inside c b l w k.2 x n)

  pub walk_end : (a b : ℕ) (via : List ℕ) (s : S) (w : List S) → Walk g a via (s ∷ w) b → Memᴰ b via
  walk_end a b [] s w k = absurd k
  walk_end a b (c ∷ via) s [] k = go via k.2
    where
      go : (l : List ℕ) → Walk g c l [] b → Memᴰ b (c ∷ l)
      go [] e = Memᴰ.head (sym e)
      go (x ∷ l) e = absurd e
  walk_end a b (c ∷ via) s (t ∷ w) k = Memᴰ.tail (walk_end c b via t w k.2)

  -- one symbol or more and no party twice: the two ends differ
  pub path_ends : (p : Pair) (w : List S) (via : List ℕ) → Path g p w via → p.first ≡ p.second → ⊥
  path_ends p [] via r e = omega (arith, r.some)
  path_ends p (s ∷ w) via r e = r.simple.0 (rw e (walk_end p.first p.second via s w r.walk))

  -- two ends that differ: one triple or more
  linked_some : (a b : ℕ) (ts : List (Triple S)) → (a ≡ b → ⊥) → Linked a ts b → 1 ≤ length (path_label ts)
  linked_some a b [] d k = absurd (d k)
  linked_some a b (t ∷ ts) d k = omega arith

  -- the triples of a walk give back its word and its parties
  pub parts_of : (a b : ℕ) (l : List ℕ) (w : List S) → Walk g a l w b → (path_label (triples a l w) ≡ w) × (finishes (triples a l w) ≡ l)
  parts_of a b [] [] k = (refl, refl)
  parts_of a b [] (s ∷ w) k = absurd k
  parts_of a b (c ∷ l) [] k = absurd k
  parts_of a b (c ∷ l) (s ∷ w) k = let r = parts_of c b l w k.2 in (rw r.0, rw r.1)

  -- every linked sequence is the triples of the walk that it gives
  pub triples_of : (a b : ℕ) (ts : List (Triple S)) → Linked a ts b → triples a (finishes ts) (path_label ts) ≡ ts
  triples_of a b [] k = refl
  triples_of a b (t ∷ ts) k = rw (← k.0, triples_of t.finish b ts k.1)

  linked_of : (a b : ℕ) (l : List ℕ) (w : List S) → Walk g a l w b → Linked a (triples a l w) b
  linked_of a b [] [] k = k
  linked_of a b [] (s ∷ w) k = absurd k
  linked_of a b (c ∷ l) [] k = absurd k
  linked_of a b (c ∷ l) (s ∷ w) k = (refl, linked_of c b l w k.2)

  -- what a walk says of each of its triples
  each_edge : (a b : ℕ) (l : List ℕ) (w : List S) → Walk g a l w b → (t : Triple S) → Memᴰ t (triples a l w)
      → (g.edge t.start t.finish t.symbol ≡ true) × (t.finish < g.parties)
  each_edge a b [] w k t m = absurd (Memᴰ.not-nil m)
  each_edge a b (c ∷ l) [] k t m = absurd k
  each_edge a b (c ∷ l) (s ∷ w) k t m = by_mem m (λ e. rw e (k.1, k.0)) (λ n. each_edge c b l w k.2 t n)

  walk_of : (a b : ℕ) (ts : List (Triple S)) → Linked a ts b
      → ((t : Triple S) → Memᴰ t ts → (g.edge t.start t.finish t.symbol ≡ true) × (t.finish < g.parties))
      → Walk g a (finishes ts) (path_label ts) b
  walk_of a b [] k f = k
  walk_of a b (t ∷ ts) k f =
      let h = f t (Memᴰ.head refl) in
      (h.1, rw (← k.0) h.0, walk_of t.finish b ts k.1 (λ x m. f x (Memᴰ.tail m)))

  -- no party twice: no later triple ends at an earlier start
  no_return_of : (a b : ℕ) (l : List ℕ) (w : List S) → Walk g a l w b → Distinct (a ∷ l) → NoReturn (triples a l w)
  no_return_of a b [] [] k d = tt
  no_return_of a b [] (s ∷ w) k d = absurd k
  no_return_of a b (c ∷ l) [] k d = absurd k
  no_return_of a b (c ∷ l) (s ∷ w) k d = (
    λ x m e. d.0 (rw (← e) (Memᴰ.tail (rw (parts_of c b l w k.2).1 at (map_in (λ t. t.finish) (triples c l w) m)))),
    no_return_of c b l w k.2 d.1,
  )

  -- and the converse: a first triple that ends at its own start is no edge
  distinct_of : ((u : ℕ) (s : S) → g.edge u u s ≡ false) → (a b : ℕ) (ts : List (Triple S)) → Linked a ts b → NoReturn ts
      → ((t : Triple S) → Memᴰ t ts → g.edge t.start t.finish t.symbol ≡ true) → Distinct (a ∷ finishes ts)
  distinct_of loop a b [] k r f = (λ m. Memᴰ.not-nil m, tt)
  distinct_of loop a b (t ∷ ts) k r f = (
    λ m. by_mem m
        (λ e. let q : t.finish ≡ t.start = sym e ∙ sym k.0 in both (rw q at (f t (Memᴰ.head refl))) (loop t.start t.symbol))
        (λ n. let x = map_out (λ t. t.finish) ts n in r.0 x.0 x.1 (sym x.2 ∙ sym k.0)),
    distinct_of loop t.finish b ts k.1 r.1 (λ x m. f x (Memᴰ.tail m)),
  )

  pub path_triples : (p : Pair) (w : List S) (via : List ℕ) → Path g p w via → TriplePath g p (triples p.first via w)
  path_triples p w via r =
      let e = each_edge p.first p.second via w r.walk in
      record {
        different = path_ends p w via r;
        linked = linked_of p.first p.second via w r.walk;
        simple = no_return_of p.first p.second via w r.walk r.simple;
        edges = λ t m. (e t m).0;
        inside = λ t m. (e t m).1;
      }

  pub triples_path : ((u : ℕ) (s : S) → g.edge u u s ≡ false) → (p : Pair) (ts : List (Triple S))
      → TriplePath g p ts → Path g p (path_label ts) (finishes ts)
  triples_path loop p ts r =
      record {
        some = linked_some p.first p.second ts r.different r.linked;
        walk = walk_of p.first p.second ts r.linked (λ t m. (r.edges t m, r.inside t m));
        simple = distinct_of loop p.first p.second ts r.linked r.simple r.edges;
      }

  -- Definitions 3.4 and 3.5 against 01's sentence: the same words
  pub same_paths : ((u : ℕ) (s : S) → g.edge u u s ≡ false)
      → (p : Pair) (w : List S) → HasPath g p w ↔ ((ts : List (Triple S)) × TriplePath g p ts × (path_label ts ≡ w))
  same_paths loop p w = (
    λ x. (triples p.first x.0 w, path_triples p w x.0 x.1, (parts_of p.first p.second x.0 w x.1.walk).0),
    λ x. (finishes x.0, rw x.2 at (triples_path loop p x.0 x.1)),
  )
