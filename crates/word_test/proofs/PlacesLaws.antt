-- The search back from the second party: which masks it begins with, and where it ends at once. Assumes nothing.
use Rattle.std.proofs.Common.{◌≡◌, ℕ, ◌+◌, ◌-◌, ◌^◌, ◌<◌, ◌≤◌, Bool, true, false, ◌&&◌, ltb, get_or}
use Rattle.std.proofs.Common.{max, sym, refl, ap, subst, ◌∙◌, arith, ltb-true, bit_and}
use Rattle.limits.specs.Limits.{most_parties}
use Rattle.lists.proofs.Cases.{by_test, and_false}
use Rattle.masks.specs.promises.Mask.{test_bit, with_bit}
use Rattle.masks.specs.promises.Table.{no_row, mask_at}
use Rattle.masks.specs.declared.Row.{Row}
use Rattle.masks.specs.declared.Table.{Table}
use Rattle.masks.proofs.BitLaws.{ones_bit, test_and}
use Rattle.masks.proofs.MaskLaws.{zero_bit}
use Rattle.rebac.specs.Paths.{path_count}
use Rattle.rebac.specs.WordTest.{way_length}
use Rattle.rebac.proofs.BackwardLaws.{count_none, depth_most, way_none}
use Rattle.search.specs.Word.{symbols_in}
use Rattle.search.specs.promises.PairSearch.{table_graph, graph_of, pair_of}
use Rattle.search.specs.declared.pair.PairIn.{PairIn}
use Rattle.search.specs.declared.word.ShortWord.{ShortWord}
use Rattle.search.specs.declared.word.Word.{Word}
use Rattle.word_test.specs.promises.Backward.{symbols_back, ways_from, depth_from, may_stand, BackAs, CandidateQuery, Seconds}
use Rattle.word_test.specs.promises.Steps.{StepsFrom, StepsTo}
use Rattle.word_test.specs.promises.Last.{LastTwo, LastThree}
use Rattle.word_test.specs.declared.back.Back.{Back}
use Rattle.word_test.proofs.StepLaws.{IntoTo, test_not, stands_to}
use Rattle.word_test.proofs.WayLaws.{back_length}
use Rattle.word_test.proofs.BackLaws.{Leaf, back_far, two_back, three_back, no_candidate}
use Rattle.word_test.proofs.TestLaws.{found_count, found_depth}

-- the parties that are of account before the second symbol: the starts, and where a length is sought all
pub record Wanted (len starts deep wanted : ℕ) : Type 0 where
  pub starting : (c : ℕ) → c < most_parties → (test_bit wanted c && test_bit starts c) ≡ test_bit starts c
  pub all : deep + 1 < len → (c : ℕ) → c < most_parties → test_bit wanted c ≡ true

pub wanted_all : (len starts deep : ℕ) → Wanted len starts deep 4294967295
wanted_all len starts deep = record {
  starting = λ c l. rw (ones_bit 32 c l);
  all = λ k c l. ones_bit 32 c l;
}

pub wanted_starts : {len starts deep : ℕ} → len ≤ deep + 1 → Wanted len starts deep starts
wanted_starts {len} {starts} l = record {
  starting = λ c h. by_test (test_bit starts c) (λ e. rw e) (λ e. rw e);
  all = λ k. absurd (omega arith);
}

-- among starts, what is wanted is no restriction
of_starts : (m x s : Bool) → (m && s) ≡ s → ((m && x) && s) ≡ (x && s)
of_starts true x s h = refl
of_starts false x s h = sym (ap (λ (b : Bool). x && b) (sym h) ∙ and_false x refl)

inside : (a m x s : Bool) → (a ≡ true → (m && s) ≡ s) → ((a && (m && x)) && s) ≡ (a && (x && s))
inside true m x s h = of_starts m x s (h refl)
inside false m x s h = refl

-- the parties of a mask, those visited taken out, from which a symbol leads to u
pub ends_stand : (n : ℕ) (t : Table) (w : Word) (among visited u at ends : ℕ) → n ≤ most_parties → visited < 2 ^ 32
    → StepsTo n t (get_or w.symbols at 0) u (bit_and among (4294967295 - visited)) ends
    → (c : ℕ) → test_bit ends c ≡ (ltb c n && (test_bit among c && may_stand t w visited u at c))
ends_stand n t w among visited u at ends l b h c =
    h c
    ∙ by_test (ltb c n)
    (λ e. rw (e, test_and among (4294967295 - visited) c, test_not visited c b (omega (arith, l, ltb-true c n e)))
    (by_test (test_bit among c) (λ q. rw q) (λ q. rw q)))
    (λ e. rw e)

-- what the search begins with: two symbols or more, and the parties to which the first leads
pub record Begun (q : PairIn) (x : ShortWord) (cap deep starts : ℕ) : Type 0 where
  pub some : 1 ≤ cap
  pub two : 2 ≤ x.word.len
  pub steps : StepsFrom q.graph.parties (get_or q.graph.table.rows q.first no_row) (get_or x.word.symbols 0 0) starts

pub begun : (q : PairIn) (x : ShortWord) (cap deep : ℕ) {starts symbol : ℕ} → 1 ≤ cap → (x.word.len ≡ 0 → ⊥) → (x.word.len ≡ 1 → ⊥)
    → symbol ≡ get_or x.word.symbols 0 0 → StepsFrom q.graph.parties (get_or q.graph.table.rows q.first no_row) symbol starts
    → Begun q x cap deep starts
begun q x cap deep h zero one e f = record { some = h; two = omega (arith, zero, one); steps = rw e at f }

-- its result is the answer: the number of the pair's paths, and where there is none the greater of the depth and the longest way
pub record Answered (q : PairIn) (x : ShortWord) (cap deep : ℕ) (r : Back) : Type 0 where
  pub count : r.count ≡ path_count (graph_of q.graph) cap (pair_of q) (symbols_in x.word)
  pub depth : r.count ≡ 0 → r.depth ≡ max deep (way_length (graph_of q.graph) (pair_of q) (symbols_in x.word))

module _ {q : PairIn} {x : ShortWord} {cap deep starts : ℕ} (b : Begun q x cap deep starts) where
  abbrev n : ℕ
  n = q.graph.parties

  abbrev t : Table
  t = q.graph.table

  abbrev w : Word
  w = x.word

  below : (c : ℕ) → ltb c n ≡ true → c < most_parties
  below c e = omega (arith, ltb-true c n e, q.graph.within)

  abbrev Searched : Back → ℕ → Type 0
  Searched r visited = BackAs cap (ways_from n t starts visited q.second (symbols_back w 1 (w.len - 1))) deep
      (depth_from n t visited q.second (symbols_back w 1 (w.len - 1))) r

  -- no length is sought, and the first symbol leads nowhere
  nowhere : w.len ≤ deep + 1 → starts ≡ 0 → (visited : ℕ) {r : Back} → r.count ≡ 0 → r.depth ≡ deep → Searched r visited
  nowhere l e visited {r} k d =
      let none : ways_from n t starts visited q.second (symbols_back w 1 (w.len - 1)) ≡ 0 =
      count_none (table_graph n t) (λ c x. test_bit x c) (λ c x. with_bit x c) (test_bit starts)
      (symbols_back w 1 (w.len - 1)) visited q.second
      (way_none (table_graph n t) (λ c x. test_bit x c) (λ c x. with_bit x c) (test_bit starts) (λ c. ap (λ (m : ℕ). test_bit m c) e
      ∙ zero_bit c)
      (symbols_back w 1 (w.len - 1)) visited q.second) in
      let most = depth_most (table_graph n t) (λ c x. test_bit x c) (λ c x. with_bit x c) (symbols_back w 1 (w.len - 1)) visited q.second in
      record {
        count = omega (arith, k, none);
        depth = λ z. omega (arith, d, most, back_length w 1 (w.len - 1), l);
        known = omega (arith, d);
        most = omega (arith, d);
      }

  -- what is gathered for the last two steps
  pub places_seconds : {wanted d : ℕ} → Wanted w.len starts deep wanted → {row : Row} → IntoTo n t (get_or w.symbols 1 0) wanted row d
      → d ≡ n → Seconds n t w starts deep row
  places_seconds {wanted} k {row} into e =
      let h : IntoTo n t (get_or w.symbols 1 0) wanted row n = rw e at into in
      record {
        starting = λ v c b. ap (λ (x : Bool). x && test_bit starts c) (h.masks v b c)
            ∙ inside (ltb c n) (test_bit wanted c) (test_bit (mask_at t c v) (get_or w.symbols 1 0)) (test_bit starts c)
            (λ l. k.starting c (below c l));
        all = λ l v c b. h.masks v b c ∙ by_test (ltb c n) (λ z. rw (z, k.all l c (below c z))) (λ z. rw z);
      }

  -- both parties of the pair are visited
  module _ {one visited : ℕ} (first : one ≡ with_bit 0 q.first) (both : visited ≡ with_bit one q.second) (fits : visited < 2 ^ 32) where
    answered : {r : Back} → Searched r visited → Answered q x cap deep r
    answered {r} s =
        let f : Searched r (with_bit (with_bit 0 q.first) q.second) =
        subst (Searched r) (both ∙ ap (λ (m : ℕ). with_bit m q.second) first) s in
        let long : 1 ≤ w.len = omega (arith, b.two) in
        record { count = found_count q x long starts b.steps f; depth = found_depth q x long starts f }

    -- a word of two symbols
    pub places_two : {wanted last : ℕ} (ends : ℕ) → Wanted w.len starts deep wanted → w.len ≡ 2 → last ≡ get_or w.symbols (w.len - 1) 0
        → StepsTo n t last q.second (bit_and wanted (4294967295 - visited)) ends
        → {r : Back} → LastTwo ends starts cap w.len deep r → Answered q x cap deep r
    places_two {wanted} ends k e l to g =
        let i : w.len - 1 ≡ 1 = omega (arith, e) in
        let f = ends_stand n t w wanted visited q.second (w.len - 1) ends q.graph.within fits (rw l at to) in
        let before = may_stand t w visited q.second 1 in
        let leaf : Leaf n t w starts visited q.second deep ends = record {
          starting = λ c. rw (f c, i)
              (inside (ltb c n) (test_bit wanted c) (before c) (test_bit starts c) (λ l. k.starting c (below c l)));
          all = λ l c. rw (f c, i) (by_test (ltb c n) (λ z. rw (z, k.all l c (below c z))) (λ z. rw z));
        } in
        answered (rw i (back_far (omega (arith, e)) (two_back leaf b.two g)))

    -- three or more: every party that may stand before the second
    module _ {last : ℕ} (ends : ℕ) (l : last ≡ get_or w.symbols (w.len - 1) 0)
        (to : StepsTo n t last q.second (4294967295 - visited) ends) where
      stand : (c : ℕ) → test_bit ends c ≡ (ltb c n && may_stand t w visited q.second (w.len - 1) c)
      stand = stands_to n t w visited q.second (w.len - 1) ends q.graph.within fits (rw l at to)

      pub places_none : ends ≡ 0 → {r : Back} → r.count ≡ 0 → r.depth ≡ deep → Answered q x cap deep r
      places_none e k d =
          answered (back_far (omega arith)
          (no_candidate n t w starts visited q.second (w.len - 1) (omega (arith, b.two)) ends stand e 0 k (omega (arith, d))))

      pub places_three : w.len ≡ 3 → {row : Row} → Seconds n t w starts deep row
          → {r : Back} → LastThree ends row visited starts cap n w.len deep r → Answered q x cap deep r
      places_three e s g =
          let i : w.len - 1 ≡ 2 = omega (arith, e) in
          answered (rw i (back_far (omega (arith, e)) (three_back s ends visited q.second (λ c. stand c ∙ rw i) (omega (arith, e)) g)))

      pub places_query : (w.len ≡ 2 → ⊥) → (w.len ≡ 3 → ⊥) → {row : Row} → Seconds n t w starts deep row
          → CandidateQuery (record { graph = q.graph; word = x; starts = starts; seconds = row })
          (record { cap = cap; at = w.len - 1; u = q.second; mask = ends; visited = visited; deep = deep })
      places_query two three s = record {
        some = b.some;
        three = omega (arith, b.two, two, three);
        place = omega (arith, b.two);
        candidates = stand;
        seconds = s;
      }

    pub places_search : {r : Back} → BackAs cap (ways_from n t starts visited q.second (symbols_back w 1 (w.len - 1))) deep
        (w.len - (w.len - 1 + 1) + depth_from n t visited q.second (symbols_back w 1 (w.len - 1))) r → Answered q x cap deep r
    places_search f = answered (back_far (omega (arith, b.two)) f)

  -- no length is sought, and the first symbol leads nowhere
  pub places_nowhere : w.len ≤ deep + 1 → starts ≡ 0 → {r : Back} → r.count ≡ 0 → r.depth ≡ deep → Answered q x cap deep r
  places_nowhere l e {r} k d =
      let visited : ℕ = with_bit (with_bit 0 q.first) q.second in
      let long : 1 ≤ w.len = omega (arith, b.two) in
      let f = nowhere l e visited {r = r} k d in
      record { count = found_count q x long starts b.steps f; depth = found_depth q x long starts f }
