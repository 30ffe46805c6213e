-- What the calls answer, by the outcome of their tests; a path's parties as bytes, and their number as the ones of a mask. Assumes nothing.
use Rattle.std.proofs.Common.{◌≡◌, refl, sym, ap, ◌∙◌, Bool, true, false, ◌&&◌, List, [], ◌∷◌, ℕ, zero, suc, ◌+◌}
use Rattle.std.proofs.Common.{◌/◌, ◌≤◌, ◌<◌, arith, ltb, leb, length, take, set, get_or, length-set, ext_get_or, length-take-le}
use Rattle.std.proofs.Common.{get_or-take, ltb-true, leb-true, eq-eqb, ne_eqb, le-leb, Option, Ok}
use Rattle.std.proofs.lemmas.Bool.{lt-leb}
use mathlib.Core.List.{Memᴰ}
use Rattle.std.proofs.Math.Option.{Option as Searched, none, some}
use lib.Count.{ones}
use Rattle.lists.specs.Lists.{all_of}
use Rattle.lists.specs.Order.{Distinct}
use Rattle.lists.proofs.Cases.{and_left, and_right, and_false}
use Rattle.masks.specs.promises.Mask.{test_bit, with_bit}
use Rattle.masks.proofs.BitLaws.{test_ones, test_with_other}
use Rattle.masks.proofs.MaskLaws.{zero_bit}
use Rattle.rebac.specs.Matter.{Matter, Pair, pair}
use Rattle.rebac.specs.Paths.{Graph, least_path}
use Rattle.rebac.specs.Symbols.{alphabet, enlarged}
use Rattle.rebac.specs.promises.Marked.{prepend}
use Rattle.rebac.proofs.MatterLaws.{graph_equal, next_search_equal}
use Rattle.rebac.specs.promises.Forms.{search_next}
use Rattle.rebac.specs.NextWord.{next_word}
use Rattle.rebac.proofs.Reach.{least_is_walk}
use Rattle.rebac.proofs.SearchLaws.{least_size}
use Rattle.rebac.proofs.SymbolsLaws.{holds_listed, alphabet_ascending, alphabet_below}
use Rattle.house_layout.proofs.Exits.{left_with}
use Rattle.house_layout.specs.declared.reply.Refusal.TheVariants.{PartyPair, GivenWord, Output}
use Rattle.graph.specs.FileMatter.{Limits}
use Rattle.graph.specs.promises.Archive.{Shows, PairGiven}
use Rattle.graph.specs.Legal.{is_pair, legal_symbol}
use Rattle.graph.specs.declared.archive.Archive.{Archive}
use Rattle.graph.proofs.ShownLaws.{shown_by}
use Rattle.search.specs.Word.{symbols_in}
use Rattle.search.specs.promises.WordValues.{Short}
use Rattle.search.specs.promises.Search.{visit_all, form_of, mask_graph, PathAs, FoundAs}
use Rattle.paths.specs.Calls.{refuses, found, legal_given_word, GivenAs, path_in, next_in}
use Rattle.search.specs.declared.word.ShortWord.{ShortWord}
use Rattle.search.specs.declared.word.Word.{Word}
use Rattle.search.specs.declared.pair.PairIn.{PairIn}
use Rattle.search.specs.declared.path.Path.{Path}
use Rattle.search.proofs.SearchLaws.{symbols_length}
use Rattle.search.specs.promises.PairSearch.{table_graph, search_pair, search_form}
use Rattle.words.specs.promises.Next.{Alphabet, WordAs, WordBy}
use Rattle.search.proofs.PairSearchLaws.{search_path, least_fixed, all_fixed}

-- an archive's graph is the matter's enlarged graph
module _ (M : Matter) (a : Archive) (h : Shows M a) where
  pub shown_graph : table_graph a.graph.parties a.graph.table ≡ enlarged M
  shown_graph = graph_equal (table_graph a.graph.parties a.graph.table) (enlarged M) h.parties h.graph

  pub shown_alphabet : Alphabet (alphabet M.language M.labels) a.graph.parties a.graph.table
  shown_alphabet = record {
    listed = λ u v s e. holds_listed M u v s (sym (h.graph u v s) ∙ e);
    ascending = alphabet_ascending M.language M.labels;
    below = λ s m. omega (arith, alphabet_below M.language M.labels m, h.limits.labels.1);
  }

-- the ones of a mask in which these parties were visited one after another
visit_ones :
    (m : ℕ) (l : List ℕ) → Distinct l → ((x : ℕ) → Memᴰ x l → test_bit m x ≡ false)
    → ones (visit_all m l) ≡ ones m + length l
unfolding visit_all
visit_ones m [] d f = omega arith
visit_ones m (c ∷ l) d f =
    let e : ones (with_bit m c) ≡ ones m + 1 = test_ones m c (f c (Memᴰ.head refl)) in
    let g : (x : ℕ) → Memᴰ x l → test_bit (with_bit m c) x ≡ false =
    λ x k. test_with_other m c x (λ q. d.0 (rw q at k)) ∙ f x (Memᴰ.tail k) in
    visit_ones (with_bit m c) l d.1 g ∙ omega (arith, e)

pub path_ones : (a : ℕ) (l : List ℕ) → Distinct (a ∷ l) → ones (visit_all (with_bit 0 a) l) ≡ length (a ∷ l)
unfolding visit_all ones
path_ones a l d = visit_ones 0 (a ∷ l) d (λ x m. zero_bit x) ∙ omega arith

-- the first party and those after it, as bytes
pub path_bytes :
    (a : ℕ) (l p : List ℕ) → length p ≡ 32 → length l < 32 → ((i : ℕ) → i < length l → get_or p (0 + suc i) 0 ≡ get_or l i 0)
    → take (length (a ∷ l)) (set p 0 a) ≡ a ∷ l
path_bytes a l [] n h f = absurd (omega arith)
path_bytes a l (x ∷ p) n h f =
    ap (λ (q : List ℕ). a ∷ q)
    (ext_get_or 0 (take (length l) p) l (length-take-le (length l) p (omega arith))
    (λ i k. let j : i < length l = omega (arith, length-take-le (length l) p (omega arith)) in
    let z : 0 + suc i ≡ suc i = omega arith in
    get_or-take (length l) p i 0 j ∙ (rw z at (f i j))))

-- what a test along a list says of its elements
all_at : (p : ℕ → Bool) (l : List ℕ) (i : ℕ) → all_of p l ≡ true → i < length l → p (get_or l i 0) ≡ true
unfolding all_of
all_at p [] i e h = absurd (omega arith)
all_at p (x ∷ l) zero e h = and_left (p x) (all_of p l) e
all_at p (x ∷ l) (suc i) e h = all_at p l i (and_right (p x) (all_of p l) e) (omega arith)

-- a legal word fits its array and its symbols are below 32
pub legal_short : (M : Matter) → Limits M → (w : Word) → length w.symbols ≡ 31 → legal_given_word M w ≡ true → Short w
unfolding legal_given_word legal_symbol
legal_short M h w n e =
    let l : w.len ≤ M.longest = leb-true w.len M.longest (and_left (leb w.len M.longest) _ e) in
    let b : w.len ≤ 31 = omega (arith, h.longest.1) in
    let z : length (symbols_in w) ≡ w.len = symbols_length w (omega arith) in
    record {
      len = b;
      full = n;
      symbols = λ i k.
          let x : ℕ = get_or (symbols_in w) i 0 in
          let all = and_right (leb w.len M.longest) _ e in
          let q = all_at (legal_symbol M.labels M.language) (symbols_in w) i all (omega arith) in
          let c : x / 4 < M.labels = ltb-true _ M.labels (and_left (ltb (x / 4) M.labels) _ q) in
          let t : x ≡ get_or w.symbols i 0 = get_or-take w.len w.symbols i 0 k in
          omega (arith, h.labels.1);
    }

-- what the archive's test of a pair says of the matter
pub pair_is : (M : Matter) (s : Archive) → Shows M s → (a b : ℕ) {v : Bool} → is_pair s.graph.parties a b ≡ v → is_pair M.parties a b ≡ v
pair_is M s h a b e = rw h.parties at e

-- and its two tests of a word together
shown_legal :
    (M : Matter) (s : Archive) → Shows M s → (w : Word)
    → (leb w.len s.words.longest && all_of (legal_symbol s.words.labels s.words.language) (symbols_in w)) ≡ legal_given_word M w
unfolding legal_given_word
shown_legal M s h w = rw (h.longest, h.labels, h.language)

pub legal_is :
    (M : Matter) (s : Archive) → Shows M s → (w : Word) {r v : Bool}
    → r ≡ (leb w.len s.words.longest && all_of (legal_symbol s.words.labels s.words.language) (symbols_in w)) → r ≡ v
    → legal_given_word M w ≡ v
legal_is M s h w e t = sym (shown_legal M s h w) ∙ sym e ∙ t

pub short_given :
    (s : Archive) → ((M : Matter) × Shows M s) → (w : Word) → length w.symbols ≡ 31 → {r : Bool}
    → r ≡ (leb w.len s.words.longest && all_of (legal_symbol s.words.labels s.words.language) (symbols_in w)) → r ≡ true → Short w
short_given s p w n e t = legal_short p.0 p.1.limits w n (legal_is p.0 s p.1 w e t)

-- the path call, by the outcome of its tests
module _ (M : Matter) (a b : ℕ) (w : Word) (size : ℕ) where
  pub path_pair : is_pair M.parties a b ≡ false → path_in M a b w size ≡ refuses PartyPair
  unfolding path_in
  path_pair e = rw e

  pub next_pair : is_pair M.parties a b ≡ false → next_in M a b w size ≡ refuses PartyPair
  unfolding next_in
  next_pair e = rw e

  module _ (p : is_pair M.parties a b ≡ true) where
    pub path_word : legal_given_word M w ≡ false → path_in M a b w size ≡ refuses GivenWord
    unfolding path_in
    path_word e = rw (p, e)

    pub path_empty : w.len ≡ 0 → path_in M a b w size ≡ refuses GivenWord
    unfolding path_in
    path_empty e = rw (p, eq-eqb w.len 0 e, and_false (legal_given_word M w) refl)

    pub next_word_bad : legal_given_word M w ≡ false → next_in M a b w size ≡ refuses GivenWord
    unfolding next_in
    next_word_bad e = rw (p, e)

    module _ (l : legal_given_word M w ≡ true) where
      pub next_short : size < 31 → next_in M a b w size ≡ refuses Output
      unfolding next_in
      next_short h = rw (p, l, lt-leb 31 size h)

      pub next_answer : 31 ≤ size → next_in M a b w size ≡ found (next_word M (pair a b) (symbols_in w))
      unfolding next_in
      next_answer h = rw (p, l, le-leb 31 size h)

      module _ (z : w.len ≡ 0 → ⊥) where
        pub path_short : size < w.len + 1 → path_in M a b w size ≡ refuses Output
        unfolding path_in
        path_short h = rw (p, l, ne_eqb w.len 0 z, lt-leb (w.len + 1) size h)

        pub path_answer : w.len + 1 ≤ size → path_in M a b w size ≡ found (least_path (enlarged M) (pair a b) (symbols_in w))
        unfolding path_in
        path_answer h = rw (p, l, ne_eqb w.len 0 z, le-leb (w.len + 1) size h)

-- by these the goals of refusals in the calls are found
pub ruleset refusal_laws = (left_with, pair_is, path_pair, path_word, path_empty, path_short, next_pair, next_word_bad, next_short)

-- what the search for a word's path gives: the parties after the first
abbrev via_of : Archive → ℕ → ℕ → Word → Searched (List ℕ)
via_of s a b w = search_pair s.graph.parties s.graph.table a b (form_of w.len (symbols_in w))

-- what the search for a word's path found
pub record PathFound (M : Matter) (a b : ℕ) (w : Word) (p : Path) : Type 0 where
  pub via : List ℕ
  pub least : least_path (enlarged M) (pair a b) (symbols_in w) ≡ some (a ∷ via)
  pub count : ones p.visited ≡ length (a ∷ via)
  pub size : length (a ∷ via) ≡ w.len + 1
  pub bytes : take (length (a ∷ via)) (set p.parties 0 a) ≡ a ∷ via
  pub full : length p.parties ≡ 32
  pub room : ones p.visited ≤ length (set p.parties 0 a)

module _ (M : Matter) (s : Archive) (h : Shows M s) (a b : ℕ) (w : Word) (short : Short w) where
  words : length (symbols_in w) ≡ w.len
  words = symbols_length w (omega (arith, short.len, short.full))

  least_of : prepend a (via_of s a b w) ≡ least_path (enlarged M) (pair a b) (symbols_in w)
  least_of =
      search_path s.graph.parties s.graph.table a b (form_of w.len (symbols_in w))
      ∙ ap (least_path (mask_graph s.graph.parties s.graph.table) (pair a b)) (all_fixed (symbols_in w) w.len (omega (arith, words)))
      ∙ least_fixed s.graph.parties s.graph.table (pair a b) (symbols_in w)
      ∙ ap (λ (g : Graph ℕ). least_path g (pair a b) (symbols_in w)) (shown_graph M s h)

  pub path_found : (p : Path) → FoundAs 0 (with_bit 0 a) (via_of s a b w) (Ok p) → PathFound M a b w p
  path_found p r =
      let l = r.0 in
      let path_as = r.1.1 in
      let least : least_path (enlarged M) (pair a b) (symbols_in w) ≡ some (a ∷ l) = sym least_of ∙ ap (prepend a) r.1.0 in
      let path = least_is_walk (enlarged M) (pair a b) (symbols_in w) least in
      let after : l ≡ path.0 = cc path.1 in
      let d : Distinct (a ∷ l) = rw after path.2.simple in
      let size : length (a ∷ l) ≡ w.len + 1 = least_size (enlarged M) (pair a b) (symbols_in w) least ∙ omega (arith, words) in
      let count : ones p.visited ≡ length (a ∷ l) = ap ones path_as.visited ∙ path_ones a l d in
      record {
        via = l;
        least = least;
        count = count;
        size = size;
        bytes = path_bytes a l p.parties path_as.full (omega (arith, size, short.len)) path_as.parties;
        full = path_as.full;
        room = omega (arith, count, size, short.len, length-set p.parties 0 a, path_as.full);
      }

-- the same for the pair and the word that a call was given
module _ (M : Matter) (s : Archive) (h : Shows M s) (a b : ℕ) (q : PairIn) (given : PairGiven s a b (Ok q))
    (w : Word) (v : ShortWord) (legal : GivenAs M w (Ok v)) where
  short : Short w
  short = rw legal.1 at v.short

  via_is : {o : Searched (List ℕ)} → search_form q (record { word = v; fixed = w.len }) ≡ o → via_of s a b w ≡ o
  via_is e = rw (given.1.0, given.1.1.0, given.1.1.1, legal.1) at e

  pub path_not : search_form q (record { word = v; fixed = w.len }) ≡ none → least_path (enlarged M) (pair a b) (symbols_in w) ≡ none
  path_not e = sym (least_of M s h a b w short) ∙ ap (prepend a) (via_is e)

  pub path_given : (p : Path)
      → FoundAs 0 (with_bit 0 q.first) (search_form q (record { word = v; fixed = w.len })) (Ok p) → PathFound M a b w p
  path_given p r =
      let path_as : PathAs 0 (with_bit 0 a) r.0 p = rw given.1.1.0 at r.1.1 in
      path_found M s h a b w short p (r.0, (via_is r.1.0, path_as))

-- a found path has a party more than the word has symbols, and its parties fit their array: of any matter that the archive stands for
pub path_fits :
    (s : Archive) (a b : ℕ) (q : PairIn) → PairGiven s a b (Ok q) → (w : Word) (v : ShortWord)
    → ((M : Matter) → Shows M s → GivenAs M w (Ok v)) → (p : Path)
    → FoundAs 0 (with_bit 0 q.first) (search_form q (record { word = v; fixed = w.len })) (Ok p)
    → (ones p.visited ≡ w.len + 1) × (ones p.visited ≤ length (set p.parties 0 a))
path_fits s a b q given w v legal p r =
    let S = shown_by s in
    let f = path_given S.0 s S.1 a b q given w v (legal S.0 S.1) p r in
    (f.count ∙ f.size, f.room)

pub legal_length : (M : Matter) (w : Word) → legal_given_word M w ≡ true → w.len ≤ M.longest
unfolding legal_given_word
legal_length M w e = leb-true w.len M.longest (and_left (leb w.len M.longest) _ e)

-- the searches over an archive give the matter's next word
pub next_shown :
    (M : Matter) (a : Archive) → Shows M a → (p : Pair) (w : Word) → Short w → w.len ≤ a.words.longest → (r : Option ShortWord)
    → ((al : List ℕ) → Alphabet al a.graph.parties a.graph.table
    → WordAs (search_next al (table_graph a.graph.parties a.graph.table) p a.words.longest (symbols_in w)) r)
    → WordAs (next_word M p (symbols_in w)) r
next_shown M a S p w s l r f =
    let z : length (symbols_in w) ≡ w.len = symbols_length w (omega (arith, s.len, s.full)) in
    let h : length (symbols_in w) ≤ M.longest = omega (arith, z, l, S.longest) in
    let e = next_search_equal M (table_graph a.graph.parties a.graph.table) S.parties S.graph p (symbols_in w) h in
    let q = f (alphabet M.language M.labels) (shown_alphabet M a S) in
    rw (S.longest, e) at q

-- the same of a given pair and a given word
module _ (M : Matter) (s : Archive) (h : Shows M s) (w : Word) (v : ShortWord) (legal : GivenAs M w (Ok v)) where
  pub given_within : v.word.len ≤ s.words.longest
  given_within =
      let e : v.word.len ≡ w.len = ap (λ (x : Word). x.len) legal.1 in
      omega (arith, e, legal_length M w legal.0, h.longest)

  pub given_next :
      (a b : ℕ) (q : PairIn) → PairGiven s a b (Ok q) → (r : Option ShortWord)
      → WordBy q (λ al G p. search_next al G p s.words.longest (symbols_in v.word)) r → WordAs (next_word M (pair a b) (symbols_in w)) r
  given_next a b q given r f =
      rw legal.1 at (next_shown M s h (pair a b) v.word v.short given_within r (rw (given.1.0, given.1.1.0, given.1.1.1) at f))
