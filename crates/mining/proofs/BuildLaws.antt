-- Building a pair's term against the pairs from number k on: what is left to do is what the definition does,
-- and the bytes so far are the term so far.
use Rattle.std.proofs.Common.{◌≡◌, refl, sym, ap, ◌∙◌, Bool, true, false, not, ◌&&◌, List, [], ◌∷◌, ◌++◌, Ok, Err, ℕ, ◌+◌}
use Rattle.std.proofs.Common.{◌*◌, ◌/◌, ◌%◌, ◌≤◌, ◌<◌, arith, length, take, drop, length-append, drop_at, length-take-le}
use Rattle.std.proofs.Math.Option.{Option, none, some}
use Rattle.lists.specs.Lists.{all_of, first_by, flat_map}
use Rattle.lists.specs.Order.{sum_of}
use Rattle.lists.proofs.Cases.{by_test, and_false}
use Rattle.lists.proofs.ListLaws.{find_in}
use Rattle.lists.proofs.OrderLaws.{length_map}
use Rattle.lists.proofs.Pointwise.{map_append}
use Rattle.masks.specs.promises.Mask.{test_bit}
use Rattle.masks.specs.promises.Table.{mask_in}
use Rattle.masks.specs.declared.Row.{Row}
use Rattle.rebac.specs.Matter.{Pair}
use Rattle.rebac.specs.Words.{Word}
use Rattle.rebac.specs.Paths.{has}
use Rattle.rebac.specs.Rules.{Problem, Item, Term, meets}
use Rattle.rebac.specs.Verdict.{convertible, rivalled, words_of, ruling, judge}
use Rattle.rebac.specs.Mining.{item_of, lacks, add_against, add_all, begin, term_of}
use Rattle.rebac.specs.promises.WhileMining.{rival_from, judge_from}
use Rattle.rebac.specs.Existence.{plain_term}
use Rattle.rebac.proofs.MiningLaws.{Owned, add_all_lem, owned_more, begin_owned}
use Rattle.rebac.proofs.WhileMining.{judge_from_lem}
use Rattle.fields.specs.Numbers.{u16_bytes, u16_at}
use Rattle.fields.specs.promises.Writing.{put}
use Rattle.fields.proofs.NumberLaws.{u16_size}
use Rattle.fields.proofs.PutLaws.{put_length}
use Rattle.graph.specs.declared.archive.Archive.{Archive}
use Rattle.graph.proofs.LegalLaws.{pair_of}
use Rattle.search.specs.promises.PairSearch.{graph_of}
use Rattle.search.specs.Word.{symbols_in}
use Rattle.search.specs.promises.WalkPairs.{CoversPairs}
use Rattle.search.specs.declared.word.ShortWord.{ShortWord}
use Rattle.search.proofs.SearchLaws.{symbols_length, short_fits}
use Rattle.rule_bytes.specs.ListBytes.{encode_word, encode_term}
use Rattle.rule_bytes.specs.promises.Reading.{TermAt}
use Rattle.rule_bytes.proofs.RoundTrip.{words_more, word_size, term_size}
use Rattle.rule_bytes.proofs.PlaceLaws.{term_ahead}
use Rattle.rules.specs.promises.Meets.{meets_term}
use Rattle.mining.specs.promises.Pairs.{pair_at, is_pair_at, pairs_from}
use Rattle.mining.specs.promises.Building.{problem_in, encoded_term, first_bytes, first_term, term_bytes, OutcomeAs, CoversTerm, TermBegun}
use Rattle.mining.specs.Values.{pair_value}
use Rattle.mining.specs.declared.build.Obstacle.TheVariants.{Rival}
use Rattle.mining.proofs.CoverLaws.{covers_one}
use Rattle.mining.proofs.GridLaws.{pairs_numbered, pairs_skip, pairs_take, pairs_end}
use Rattle.mining.proofs.ArchiveLaws.{problem_pairs, problem_permitted, owned_met, words_bounded, owned_fits}

-- an unpermitted pair q meets the term
abbrev meets_it : {P W : Type 0} → Problem P W → P → Term W → Bool
meets_it S q t = not (S.permitted q) && meets S q t

-- one pair q against the term so far
module _ {P W : Type 0} (S : Problem P W) (p : P) (t : Term W) (q : P) (qs : List P) where
  add_none : meets_it S q t ≡ false → add_all S p t (q ∷ qs) ≡ add_all S p t qs
  unfolding add_all add_against
  add_none e = rw (e, add_against) refl

  rival_none : meets_it S q t ≡ false → rival_from S p t (q ∷ qs) ≡ rival_from S p t qs
  unfolding rival_from
  rival_none e = rw (e, rival_from) refl

  rival_here : meets_it S q t ≡ true → first_by (lacks S p q) (words_of S p) ≡ none
      → rival_from S p t (q ∷ qs) ≡ some q
  unfolding rival_from
  rival_here e f = rw (e, f, rival_from) refl

  add_here : {w : W} → meets_it S q t ≡ true → first_by (lacks S p q) (words_of S p) ≡ some w
      → add_all S p t (q ∷ qs) ≡ add_all S p (t ++ (item_of S p w ∷ [])) qs
  unfolding add_all add_against
  add_here e f = rw (e, f, add_against) refl

  rival_on : {w : W} → meets_it S q t ≡ true → first_by (lacks S p q) (words_of S p) ≡ some w
      → rival_from S p t (q ∷ qs) ≡ rival_from S p (t ++ (item_of S p w ∷ [])) qs
  unfolding rival_from
  rival_on e f = rw (e, f, rival_from) refl

rival_end : {P W : Type 0} (S : Problem P W) (p : P) (t : Term W) → rival_from S p t [] ≡ none
unfolding rival_from
rival_end S p t = refl

add_end : {P W : Type 0} (S : Problem P W) (p : P) (t : Term W) → add_all S p t [] ≡ t
unfolding add_all
add_end S p t = refl

-- the verdict on a pair with a word goes by its first rival alone
ruled_rival : {P W : Type 0} (S : Problem P W) (p q : P) (ws : List W) → (length ws ≡ 0 → ⊥)
    → ruling S p ws (some q) ≡ rivalled p q
ruled_rival S p q [] h = absurd (h refl)
ruled_rival S p q (w ∷ ws) h = refl

ruled_convertible : {P W : Type 0} (S : Problem P W) (p : P) (ws : List W) → (length ws ≡ 0 → ⊥) → ruling S p ws none ≡ convertible
ruled_convertible S p [] h = absurd (h refl)
ruled_convertible S p (w ∷ ws) h = refl

begin_length : {P W : Type 0} (S : Problem P W) (p : P) (ws : List W) → (length ws ≡ 0 → ⊥) → length (begin S p ws) ≡ 1
begin_length S p [] h = absurd (h refl)
begin_length S p (w ∷ ws) h = refl

-- sizes
plain_more : (t : Term Word) (i : Item Word) → plain_term (t ++ (i ∷ [])) ≡ plain_term t ++ (i.word ∷ [])
plain_more t i = map_append (λ j. j.word) t (i ∷ [])

pub words_size_more : (ws : List Word) (w : Word) → length (encode_term (ws ++ (w ∷ []))) ≡ length (encode_term ws) + 1 + length w
unfolding encode_term
words_size_more ws w =
    rw (words_more ws w)
    (omega (
      arith,
      length-append (u16_bytes (length (ws ++ (w ∷ [])))) (flat_map encode_word ws ++ encode_word w),
      length-append (flat_map encode_word ws) (encode_word w),
      length-append (u16_bytes (length ws)) (flat_map encode_word ws),
      u16_size (length (ws ++ (w ∷ []))),
      u16_size (length ws),
      word_size w,
    ))

pub one_size : (w : Word) → length (encode_term (w ∷ [])) ≡ 3 + length w
unfolding sum_of
one_size w = term_size (w ∷ []) ∙ omega (arith, word_size w)

pub words_size_least : (ws : List Word) → 2 ≤ length (encode_term ws)
unfolding encode_term
words_size_least ws =
    let n = length ws in
    omega (arith, length-append (u16_bytes n) (flat_map encode_word ws), u16_size n)

size_more : (t : Term Word) (i : Item Word) → length (encoded_term (t ++ (i ∷ []))) ≡ length (encoded_term t) + 1 + length i.word
size_more t i = rw (plain_more t i) (words_size_more (plain_term t) i.word)

module _ (S : Problem Pair Word) (p : Pair) where
  size_grows : (t : Term Word) (qs : List Pair) → length (encoded_term t) ≤ length (encoded_term (add_all S p t qs))
  size_grows t qs =
      add_all_lem S (λ u. length (encoded_term t) ≤ length (encoded_term u)) p
      (λ u w m h. omega (arith, size_more u (item_of S p w), h)) t qs (omega arith)

  number_grows : (t : Term Word) (qs : List Pair) → length t ≤ length (add_all S p t qs)
  number_grows t qs =
      add_all_lem S (λ u. length t ≤ length u) p
      (λ u w m h. omega (arith, length-append u (item_of S p w ∷ []), h)) t qs (omega arith)

pub put_drop : (b : List ℕ) (at : ℕ) (x : List ℕ) → at ≤ length b → drop at (put b at x) ≡ x ++ drop (at + length x) b
unfolding put
put_drop b at x h = drop_at (take at b) (x ++ drop (at + length x) b) at (length-take-le at b h)

-- the permit of the pair of a number, the words that a pair has, and the first word of p's that q lacks
abbrev pub permitted_at : Archive → ℕ → Bool
permitted_at a k = test_bit (mask_in a.permits (k / 32)) (k % 32)

abbrev pub has_in : Archive → Pair → Word → Bool
has_in a = has (graph_of a.graph)

abbrev pub lacked_in : Archive → Pair → Pair → Option Word
lacked_in a p q = first_by (lacks (problem_in a) p q) (words_of (problem_in a) p)

-- the first rival that building against all pairs meets
abbrev rival_in : Archive → Pair → Option Pair
rival_in a p = rival_from (problem_in a) p (begin (problem_in a) p (words_of (problem_in a) p)) (problem_in a).pairs

-- the term so far, before the pair of number k, and a row that covers it
pub record Building (a : Archive) (p : Pair) (at : ℕ) (b : List ℕ) (k number end : ℕ) (row : Row) (out : List ℕ) : Type 0 where
  pub term : Term Word
  pub owned : Owned (problem_in a) p term
  pub rest : add_all (problem_in a) p term (pairs_from a.graph.parties k) ≡ term_of (problem_in a) p
  pub rivals : rival_from (problem_in a) p term (pairs_from a.graph.parties k) ≡ rival_in a p
  pub bytes : out ≡ put b at (encoded_term term)
  pub words : number ≡ length term
  pub ends : end ≡ at + length (encoded_term term)
  pub covers : CoversTerm a (plain_term term) row

-- the first word is part of the term
pub first_part : (a : Archive) (p : Pair) → length (first_bytes a p) ≤ length (term_bytes a p)
unfolding first_bytes term_bytes term_of
first_part a p = size_grows (problem_in a) p (begin (problem_in a) p (words_of (problem_in a) p)) (problem_in a).pairs

module _ {a : Archive} {p : Pair} {first : ShortWord} {at : ℕ} {b : List ℕ} (R : TermBegun a p first at b) where
  begun_size : length (first_bytes a p) ≡ 3 + first.word.len
  unfolding first_bytes
  begun_size =
      ap (λ (t : List Word). length (encode_term t)) R.first
      ∙ one_size (symbols_in first.word)
      ∙ omega (arith, symbols_length first.word (short_fits first.short))

  pub build_start : {row : Row} → CoversPairs a.graph.parties a.graph.table (symbols_in first.word) row
      → Building a p at b 0 1 (at + 3 + first.word.len) row b
  unfolding first_bytes term_of
  build_start {row} walked =
      let n : pairs_from a.graph.parties 0 ≡ (problem_in a).pairs = pairs_numbered a.graph.parties a.graph.within ∙ sym (problem_pairs a) in
      let size : length (encode_term (first_term a p)) ≡ 3 + first.word.len = begun_size in
      record {
        term = begin (problem_in a) p (words_of (problem_in a) p);
        owned = begin_owned (problem_in a) p (words_of (problem_in a) p) (λ w m. m);
        rest = rw n refl;
        rivals = rw n refl;
        bytes = sym R.stands;
        words = sym (begin_length (problem_in a) p (words_of (problem_in a) p) R.worded);
        ends = omega (arith, size);
        covers = rw R.first (covers_one a (symbols_in first.word) row walked);
      }

  module _ {k number end : ℕ} {row : Row} {out : List ℕ} (B : Building a p at b k number end row out) where
    -- the bytes so far have room, and are a term's
    pub build_room : (at + 2 ≤ end) × (end ≤ at + length (term_bytes a p))
    unfolding term_bytes
    build_room =
        let s = size_grows (problem_in a) p B.term (pairs_from a.graph.parties k) in
        let e = ap (λ (t : Term Word). length (encoded_term t)) B.rest in
        (omega (arith, words_size_least (plain_term B.term), B.ends), omega (arith, s, e, B.ends))

    pub build_bounded : number ≤ 993
    build_bounded =
        let g = number_grows (problem_in a) p B.term (pairs_from a.graph.parties k) in
        omega (arith, g, ap length B.rest, words_bounded a p, B.words)

    pub build_term_at : TermAt out at (plain_term B.term) (drop (at + length (encoded_term B.term)) b)
    build_term_at = record {
      bytes = ap (drop at) B.bytes ∙ put_drop b at (encoded_term B.term) (omega (arith, R.room));
      fits = owned_fits a p B.term B.owned (omega (arith, build_bounded, B.words));
    }

    pub build_same : length out ≡ length b
    build_same = ap length B.bytes ∙ put_length b at (encoded_term B.term) (omega (arith, build_room.1, B.ends, R.room))

    pub build_count : number ≡ u16_at out at
    build_count =
        B.words ∙ sym (length_map (λ i. i.word) B.term) ∙ (term_ahead out at (plain_term B.term) _ build_term_at).number

    -- past the last pair the term is whole
    pub build_end : 32 * a.graph.parties ≤ k → OutcomeAs a p at b out (judge (problem_in a) p) (Ok end)
    unfolding judge_from term_bytes
    build_end past =
        let S = problem_in a in
        let r : rival_from S p B.term [] ≡ rival_in a p = rw (pairs_end a.graph.parties k past) at B.rivals in
        let t : B.term ≡ term_of S p = sym (add_end S p B.term) ∙ (rw (pairs_end a.graph.parties k past) at B.rest) in
        let j : judge S p ≡ convertible =
        sym (judge_from_lem S p)
        ∙ ap (ruling S p (words_of S p)) (sym r ∙ rival_end S p B.term)
        ∙ ruled_convertible S p (words_of S p) R.worded in
        rw j (
          ap Ok (B.ends ∙ ap (λ (x : Term Word). at + length (encoded_term x)) t),
          B.bytes ∙ ap (λ (x : Term Word). put b at (encoded_term x)) t,
        )

    module _ (turn : k < 32 * a.graph.parties) where
      small : k < 1024
      small = omega (arith, a.graph.within)

      -- the pair is passed: it is none,
      pub extend_none : is_pair_at a.graph.parties k ≡ false → Building a p at b (k + 1) number end row out
      extend_none e = record {
        term = B.term;
        owned = B.owned;
        rest = rw (pairs_skip a.graph.parties k small e) at B.rest;
        rivals = rw (pairs_skip a.graph.parties k small e) at B.rivals;
        bytes = B.bytes;
        words = B.words;
        ends = B.ends;
        covers = B.covers;
      }

      module _ (e : is_pair_at a.graph.parties k ≡ true) where
        ahead : add_all (problem_in a) p B.term (pair_at k ∷ pairs_from a.graph.parties (k + 1)) ≡ term_of (problem_in a) p
        ahead = rw (pairs_take a.graph.parties k small e) at B.rest

        ahead_rivals : rival_from (problem_in a) p B.term (pair_at k ∷ pairs_from a.graph.parties (k + 1)) ≡ rival_in a p
        ahead_rivals = rw (pairs_take a.graph.parties k small e) at B.rivals

        -- or it is permitted or does not meet the term
        build_unmet : meets_it (problem_in a) (pair_at k) B.term ≡ false → Building a p at b (k + 1) number end row out
        build_unmet f = record {
          term = B.term;
          owned = B.owned;
          rest = sym (add_none (problem_in a) p B.term (pair_at k) _ f) ∙ ahead;
          rivals = sym (rival_none (problem_in a) p B.term (pair_at k) _ f) ∙ ahead_rivals;
          bytes = B.bytes;
          words = B.words;
          ends = B.ends;
          covers = B.covers;
        }

      -- or it is not in the row
      pub extend_passed : test_bit (mask_in row (k / 32)) (k % 32) ≡ false → Building a p at b (k + 1) number end row out
      unfolding meets_term
      extend_passed e =
          by_test (is_pair_at a.graph.parties k)
          (λ i.
          let f = B.covers (k / 32) (k % 32) (pair_of a.graph.parties (k / 32) (k % 32) i) e in
          let m = owned_met a p (pair_at k) B.term B.owned ∙ f in
          build_unmet i (and_false (not ((problem_in a).permitted (pair_at k))) m))
          extend_none

      -- or it is permitted
      pub extend_permitted : permitted_at a k ≡ true → Building a p at b (k + 1) number end row out
      extend_permitted e =
          by_test (is_pair_at a.graph.parties k)
          (λ i. build_unmet i (rw (problem_permitted a (pair_at k), e) refl))
          extend_none

-- an unpermitted pair in its turn, before which the term stands so far
pub record Turn (a : Archive) (p : Pair) (first : ShortWord) (at : ℕ) (old : List ℕ) (k number end : ℕ) (row : Row) (out : List ℕ)
    : Type 0 where
  pub begun : TermBegun a p first at old
  pub built : Building a p at old k number end row out
  pub turn : k < 32 * a.graph.parties
  pub is_pair : is_pair_at a.graph.parties k ≡ true
  pub unpermitted : permitted_at a k ≡ false

module _
    {a : Archive} {p : Pair} {first : ShortWord} {at : ℕ} {old : List ℕ} {k number end : ℕ} {row : Row} {out : List ℕ}
    (T : Turn a p first at old k number end row out)
  where
    abbrev S : Problem Pair Word
    S = problem_in a

    abbrev t : Term Word
    t = T.built.term

    -- the words of the term so far, whether the pair has them, and the bytes after the term
    abbrev pub words_at : List Word
    words_at = plain_term t

    abbrev pub has_at : Word → Bool
    has_at = has_in a (pair_at k)

    abbrev pub after_at : List ℕ
    after_at = drop (at + length (encoded_term t)) old

    met : meets_it S (pair_at k) t ≡ all_of has_at (words_at)
    met =
        rw (problem_permitted a (pair_at k), T.unpermitted)
        (owned_met a p (pair_at k) t T.built.owned)

    -- it misses a word of the term
    pub turn_unmet : all_of has_at (words_at) ≡ false
        → Building a p at old (k + 1) number end row out
    turn_unmet f = build_unmet T.begun T.built T.turn T.is_pair (met ∙ f)

    module _ (f : all_of has_at (words_at) ≡ true) where
      -- it lacks no word of p: the first rival
      pub turn_rival : lacked_in a p (pair_at k) ≡ none
          → OutcomeAs a p at old out (judge S p) (Err (Rival (pair_value (pair_at k))))
      unfolding judge_from
      turn_rival g =
          let r = ahead_rivals T.begun T.built T.turn T.is_pair in
          let j : judge S p ≡ rivalled p (pair_at k) =
          sym (judge_from_lem S p)
          ∙ ap (ruling S p (words_of S p)) (sym r ∙ rival_here S p t (pair_at k) _ (met ∙ f) g)
          ∙ ruled_rival S p (pair_at k) (words_of S p) T.begun.worded in
          rw j refl

      -- it lacks a word: the first one is added
      module _ {w : Word} (g : lacked_in a p (pair_at k) ≡ some w) where
        longer : add_all S p (t ++ (item_of S p w ∷ [])) (pairs_from a.graph.parties (k + 1)) ≡ term_of S p
        longer = sym (add_here S p t (pair_at k) _ (met ∙ f) g) ∙ ahead T.begun T.built T.turn T.is_pair

        pub turn_more : {n : ℕ} {more : Row} {new : List ℕ} → length w ≡ n → CoversTerm a (words_at ++ (w ∷ [])) more
            → new ≡ put old at (encode_term (words_at ++ (w ∷ [])))
            → Building a p at old (k + 1) (number + 1) (end + 1 + n) more new
        turn_more l c e =
            let i = item_of S p w in
            let r = ahead_rivals T.begun T.built T.turn T.is_pair in
            record {
              term = t ++ (i ∷ []);
              owned = owned_more S p t w (find_in _ _ g) T.built.owned;
              rest = longer;
              rivals = sym (rival_on S p t (pair_at k) _ (met ∙ f) g) ∙ r;
              bytes = e ∙ ap (λ (x : List (List ℕ)). put old at (encode_term x)) (sym (plain_more t i));
              words = omega (arith, T.built.words, length-append t (i ∷ []));
              ends = omega (arith, T.built.ends, size_more t i, l);
              covers = rw (plain_more t i) c;
            }

        pub turn_room : end + 1 + length w ≤ length old
        unfolding term_bytes
        turn_room =
            let i = item_of S p w in
            let s = size_grows S p (t ++ (i ∷ [])) (pairs_from a.graph.parties (k + 1)) in
            let e = ap (λ (x : Term Word). length (encoded_term x)) longer in
            omega (arith, s, e, T.built.ends, size_more t i, T.begun.room)
