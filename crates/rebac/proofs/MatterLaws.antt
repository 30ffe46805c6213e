-- Laws of a matter for its callers: 000's paths in the enlarged graph, the bound on
-- words, and that answers depend on the graph only edge by edge.
use Rattle.std.proofs.Common.{◌≡◌, refl, sym, ◌↔◌, Bool, true, false, List, [], ◌∷◌, ℕ, ◌+◌, ◌*◌, ◌≤◌, ◌<◌, arith, length}
use Rattle.std.proofs.Math.Path.{fun_ext}
use mathlib.Core.List.Memᴰ
use mathlib.Core.List.{Memᴰ}
use Rattle.rebac.specs.Matter.{Matter, Pair, IsPair, pairs_of, permitted}
use Rattle.rebac.specs.Words.{Word}
use Rattle.rebac.specs.Paths.{Graph, HasPath, has, path_count}
use Rattle.rebac.specs.TriplePaths.{Triple, TriplePath, path_label, plain, Held, VariationPath}
use Rattle.rebac.specs.Symbols.{alphabet, holds, enlarged, cap_of}
use Rattle.rebac.specs.Existence.{matter_words, score, problem_over, problem_of}
use Rattle.rebac.proofs.SymbolsLaws.{holds_loop, holds_in, holds_out, holds_listed}
use Rattle.rebac.proofs.Triples.{same_paths}
use Rattle.rebac.proofs.PairsLaws.{pairs_out}
use Rattle.rebac.proofs.Reach.{has_in}
use Rattle.rebac.proofs.Conversion.{pair_words_in}
use Rattle.rebac.specs.NextWord.{pair_words, next_word}
use Rattle.rebac.specs.promises.Forms.{search_next, next_by_forms}
use Rattle.rebac.proofs.FormLaws.{next_by_forms_lem}
use Rattle.rebac.proofs.SearchLaws.{long_word, count_more}

-- Lemma 4.4, for the four languages at once: the path variations of Definition 4.1 are the paths of the enlarged graph
pub lemma_4_4 : (M : Matter) (p : Pair) (ts : List (Triple ℕ)) → VariationPath M p ts ↔ TriplePath (enlarged M) p ts
lemma_4_4 M p ts = (
  λ r. record {
    different = r.different;
    linked = r.linked;
    simple = r.simple;
    edges = λ t m. holds_in M t.start t.finish t.symbol (r.admitted t m);
    inside = λ t m. (r.admitted t m).second;
  },
  λ r. record {
    different = r.different;
    linked = r.linked;
    simple = r.simple;
    admitted = λ t m. holds_out M t.start t.finish t.symbol (r.edges t m);
  },
)

-- Definitions 3.4, 3.5 and 4.1 against 01's path: a pair has a word exactly where a path variation has it as its label
pub matter_paths : (M : Matter) (p : Pair) (w : Word)
    → HasPath (enlarged M) p w ↔ ((ts : List (Triple ℕ)) × VariationPath M p ts × (path_label ts ≡ w))
matter_paths M p w =
    let r = same_paths (enlarged M) (holds_loop M) p w in (
      λ x. let y = r.0 x in (y.0, (lemma_4_4 M p y.0).1 y.1, y.2),
      λ x. r.1 (x.0, (lemma_4_4 M p x.0).0 x.1, x.2),
    )

-- 01: "D may exceed n−1; longer words then don't occur."
pub matter_long_word : (M : Matter) (p : Pair) (w : Word) → Memᴰ p (pairs_of M.parties)
    → M.parties ≤ length w → has (enlarged M) p w ≡ false
matter_long_word M p w m h = long_word (enlarged M) p w (pairs_out M.parties m).first h

-- every relation of a pair is a word of the pair, the label's plain symbol, whatever relations the pair has besides
pub relation_word : (M : Matter) (p : Pair) (label : ℕ) → IsPair M.parties p → 1 ≤ M.longest → label < M.labels
    → M.edge p.first p.second label ≡ true → Memᴰ ((4 * label + 0) ∷ []) (pair_words M p)
relation_word M p label i d l e =
    let r : Held M p.first p.second (4 * label + 0) =
    record { first = i.first; second = i.second; different = i.different; row = plain label l refl e } in
    let h : holds M p.first p.second (4 * label + 0) ≡ true = holds_in M p.first p.second (4 * label + 0) r in
    pair_words_in M p ((4 * label + 0) ∷ [])
    (record {
      over = λ s m. rw (Memᴰ.eq_of_singleton m) (holds_listed M p.first p.second (4 * label + 0) h);
      some = omega arith;
      short = omega arith;
    })
    (has_in (enlarged M) p ((4 * label + 0) ∷ []) (p.second ∷ [])
    (record {
      some = omega arith;
      walk = (i.second, h, refl);
      simple = (λ m. i.different (Memᴰ.eq_of_singleton m), (λ m. absurd (Memᴰ.not-nil m), tt));
    }))

-- the score does not fall when more symbols hold, nor when the cap rises
pub score_more : (M N : Matter) → M.parties ≡ N.parties → ((u v s : ℕ) → holds M u v s ≡ true → holds N u v s ≡ true)
    → cap_of M.language ≤ cap_of N.language → (p : Pair) (w : Word) → score M p w ≤ score N p w
score_more M N e f c p w =
    let a = count_more (enlarged M) (enlarged N) e f (cap_of M.language) p w in
    let b = cap_more (enlarged N) (cap_of M.language) (cap_of N.language) p w c in
    omega (arith, a, b)
  where
    cap_more : (g : Graph ℕ) (c d : ℕ) (p : Pair) (w : Word) → c ≤ d → path_count g c p w ≤ path_count g d p w
    cap_more g c d p w h = unfold path_count in omega arith

-- graphs with the same edges are the same graph
pub graph_equal : {S : Type 0} (g h : Graph S) → g.parties ≡ h.parties → ((u v : ℕ) (s : S) → g.edge u v s ≡ h.edge u v s) → g ≡ h
graph_equal g h e f = λ i. record { parties = e i; edge = λ u v s. f u v s i }

-- so a graph and permits that agree with a matter's, one by one, give the matter's problem, and with it its verdict and its list
pub problem_equal : (M : Matter) (g : Graph ℕ) (permit : Pair → Bool) → g.parties ≡ M.parties
    → ((u v s : ℕ) → g.edge u v s ≡ holds M u v s) → ((p : Pair) → permit p ≡ permitted M p)
    → problem_over g (cap_of M.language) (matter_words M) permit ≡ problem_of M
unfolding problem_of
problem_equal M g permit e f h =
    let a : g ≡ enlarged M = graph_equal g (enlarged M) e f in
    let b : permit ≡ permitted M = fun_ext h in
    rw (a, b)

-- and the searches over such a graph give the matter's next word
pub next_search_equal : (M : Matter) (g : Graph ℕ) → g.parties ≡ M.parties → ((u v s : ℕ) → g.edge u v s ≡ holds M u v s)
    → (p : Pair) (w : Word) → length w ≤ M.longest → search_next (alphabet M.language M.labels) g p M.longest w ≡ next_word M p w
unfolding next_by_forms
next_search_equal M g e f p w h =
    let a : g ≡ enlarged M = graph_equal g (enlarged M) e f in
    rw a (sym (next_by_forms_lem M p w h))
