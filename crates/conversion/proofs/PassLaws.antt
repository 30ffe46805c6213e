-- Going through the pairs by number: the list so far and the pairs left give the definition's list and verdict.
use Rattle.std.proofs.Common.{◌≡◌, refl, sym, ap, ◌∙◌, true, false, not, ◌&&◌, List, [], ◌∷◌}
use Rattle.std.proofs.Common.{◌++◌, Err, ℕ, ◌+◌, ◌*◌, ◌≤◌, ◌<◌, arith, length, length-append}
use Rattle.std.proofs.Math.Option.{Option, none, some}
use Rattle.lists.specs.Lists.{any_of, first_by, flat_map}
use Rattle.lists.proofs.Cases.{by_test, clash, and_left, and_right, and_false}
use Rattle.lists.proofs.OrderLaws.{length_map}
use Rattle.lists.proofs.Pointwise.{map_append}
use Rattle.masks.specs.promises.Table.{mask_in}
use Rattle.masks.specs.declared.Row.{Row}
use Rattle.masks.proofs.MaskLaws.{zero_bit}
use Rattle.rebac.specs.Matter.{Pair}
use Rattle.rebac.specs.Words.{Word}
use Rattle.rebac.specs.Rules.{Problem, Term, RuleList, permits}
use Rattle.rebac.specs.Verdict.{Verdict, convertible, no_word, rivalled, words_of, ruling, rival, judge, verdict}
use Rattle.rebac.specs.Mining.{term_of, mine_from, mine}
use Rattle.rebac.specs.promises.WhileMining.{passing, verdict_from}
use Rattle.rebac.specs.Existence.{plain_term, plain_list}
use Rattle.rebac.proofs.MiningLaws.{term_owned}
use Rattle.rebac.proofs.WhileMining.{judge_from_lem, verdict_while_mining}
use Rattle.graph.specs.declared.archive.Archive.{Archive}
use Rattle.graph.specs.Legal.{is_pair}
use Rattle.fields.specs.Numbers.{u16_bytes}
use Rattle.rule_bytes.specs.ListBytes.{encode_term, encode_list}
use Rattle.fields.proofs.NumberLaws.{u16_size}
use Rattle.rule_bytes.proofs.RoundTrip.{terms_more}
use Rattle.mining.specs.promises.Pairs.{pair_at, is_pair_at, pairs_from}
use Rattle.mining.specs.promises.Building.{problem_in, encoded_term, term_bytes, OutcomeAs}
use Rattle.mining.specs.Values.{pair_value}
use Rattle.mining.specs.promises.Taking.{PairMarks, due, DueQuery}
use Rattle.mining.specs.declared.build.Obstacle.TheVariants.{NoWord, Rival}
use Rattle.mining.specs.declared.build.Pair.{Pair as PairValue}
use Rattle.mining.proofs.GridLaws.{pairs_numbered, pairs_skip, pairs_take, pairs_end}
use Rattle.mining.proofs.ArchiveLaws.{problem_pairs, words_bounded, owned_fits}
use Rattle.conversion.proofs.SizeLaws.{term_bound}
use Rattle.conversion.specs.promises.Passes.{archive_bytes}

-- one pair of the definitions' lists
module _ {P W : Type 0} (S : Problem P W) (r : RuleList W) (p : P) (ps : List P) where
  mine_pass : (S.permitted p && not (permits S r p)) ≡ false → mine_from S r (p ∷ ps) ≡ mine_from S r ps
  unfolding mine_from
  mine_pass e = rw (e, mine_from) refl

  mine_take : (S.permitted p && not (permits S r p)) ≡ true → mine_from S r (p ∷ ps) ≡ mine_from S (r ++ (term_of S p ∷ [])) ps
  unfolding mine_from
  mine_take e = rw (e, mine_from) refl

  verdict_pass : (S.permitted p && not (permits S r p)) ≡ false → verdict_from S r (p ∷ ps) ≡ verdict_from S r ps
  unfolding verdict_from
  verdict_pass e = rw (e, verdict_from) refl

  verdict_take : (S.permitted p && not (permits S r p)) ≡ true
      → verdict_from S r (p ∷ ps) ≡ passing S (judge S p) (verdict_from S (r ++ (term_of S p ∷ [])) ps)
  unfolding verdict_from
  verdict_take e = rw (e, judge_from_lem S p, verdict_from) refl

-- a pair's verdict names the pair
module _ {P W : Type 0} (S : Problem P W) (p : P) where
  names_no_word : (ws : List W) (o : Option P) {x : P} → ruling S p ws o ≡ no_word x → x ≡ p
  names_no_word [] o e = sym (cc e)
  names_no_word (w ∷ ws) none e = clash (cc e)
  names_no_word (w ∷ ws) (some q) e = clash (cc e)

  names_rival : (ws : List W) (o : Option P) {x q : P} → ruling S p ws o ≡ rivalled x q → x ≡ p
  names_rival [] o e = clash (cc e)
  names_rival (w ∷ ws) none e = clash (cc e)
  names_rival (w ∷ ws) (some q) e = sym (cc e)

  pub own_no_word : {x : P} → judge S p ≡ no_word x → x ≡ p
  unfolding judge
  own_no_word e = names_no_word (words_of S p) (first_by (rival S p) S.pairs) e

  pub own_rival : {x q : P} → judge S p ≡ rivalled x q → x ≡ p
  unfolding judge
  own_rival e = names_rival (words_of S p) (first_by (rival S p) S.pairs) e

-- sizes of lists
plain_more : (r : RuleList Word) (t : Term Word) → plain_list (r ++ (t ∷ [])) ≡ plain_list r ++ (plain_term t ∷ [])
plain_more r t = map_append plain_term r (t ∷ [])

-- the bytes of the terms, after the count
abbrev pub terms_of : RuleList Word → List ℕ
terms_of r = flat_map encode_term (plain_list r)

pub terms_add : (r : RuleList Word) (t : Term Word) → terms_of (r ++ (t ∷ [])) ≡ terms_of r ++ encoded_term t
terms_add r t = rw (plain_more r t) (terms_more (plain_list r) (plain_term t))

terms_add_size : (r : RuleList Word) (t : Term Word) → length (terms_of (r ++ (t ∷ []))) ≡ length (terms_of r) + length (encoded_term t)
terms_add_size r t = ap length (terms_add r t) ∙ length-append (terms_of r) (encoded_term t)

pub list_bytes : (r : RuleList Word) → encode_list (plain_list r) ≡ u16_bytes (length r) ++ terms_of r
unfolding encode_list
list_bytes r = ap (λ (n : ℕ). u16_bytes n ++ terms_of r) (length_map plain_term r)

pub list_length : (r : RuleList Word) → length (encode_list (plain_list r)) ≡ 2 + length (terms_of r)
list_length r = ap length (list_bytes r) ∙ omega (arith, length-append (u16_bytes (length r)) (terms_of r), u16_size (length r))

terms_grow : (S : Problem Pair Word) (r : RuleList Word) (ps : List Pair) → length (terms_of r) ≤ length (terms_of (mine_from S r ps))
unfolding mine_from
terms_grow S r [] = omega arith
terms_grow S r (p ∷ ps) =
    by_test (S.permitted p && not (permits S r p))
    (λ e. rw (e, mine_from) (omega (arith, terms_grow S (r ++ (term_of S p ∷ [])) ps, terms_add_size r (term_of S p))))
    (λ e. rw (e, mine_from) (terms_grow S r ps))

pub term_fits : (a : Archive) (p : Pair) → length (term_bytes a p) ≤ 31778
unfolding term_bytes
term_fits a p =
    let t = term_of (problem_in a) p in
    let f = owned_fits a p t (term_owned (problem_in a) p) (words_bounded a p) in
    term_bound (plain_term t) (omega (arith, length_map (λ i. i.word) t, words_bounded a p)) (λ w m. (f.words w m).len)

-- before the pair of number k: the list so far, its marks and its size
pub record Passing (a : Archive) (list : RuleList Word) (row : Row) (size k : ℕ) : Type 0 where
  pub marks : PairMarks a list row
  pub mined : mine_from (problem_in a) list (pairs_from a.graph.parties k) ≡ mine (problem_in a)
  pub verdict : verdict_from (problem_in a) list (pairs_from a.graph.parties k) ≡ verdict (problem_in a)
  pub sized : size ≡ 2 + length (terms_of list)
  pub bound : size ≤ 2 + k * 31778
  pub bounded : length list ≤ k

pub pass_start : (a : Archive) {row : Row} → ((v : ℕ) → mask_in row v ≡ 0) → Passing a [] row 2 0
unfolding mine permits any_of flat_map
pass_start a h =
    let n : pairs_from a.graph.parties 0 ≡ (problem_in a).pairs = pairs_numbered a.graph.parties a.graph.within ∙ sym (problem_pairs a) in
    record {
      marks = λ u v. rw (h u, zero_bit v) (sym (and_false (is_pair a.graph.parties u v) refl));
      mined = rw n refl;
      verdict = rw n (verdict_while_mining (problem_in a));
      sized = refl;
      bound = omega arith;
      bounded = omega arith;
    }

module _ {a : Archive} {l : RuleList Word} {row : Row} {size k : ℕ} (P : Passing a l row size k) where
  pub pass_small : k < 32 * a.graph.parties → k < 1024
  pass_small turn = omega (arith, a.graph.within)

  -- the pair is passed over
  pub pass_over : k < 32 * a.graph.parties → due a l k ≡ false → Passing a l row size (k + 1)
  unfolding due
  pass_over turn e =
      by_test (is_pair_at a.graph.parties k)
      (λ i.
      let f : ((problem_in a).permitted (pair_at k) && not (permits (problem_in a) l (pair_at k))) ≡ false = rw i at e in
      record {
        marks = P.marks;
        mined =
            sym (mine_pass (problem_in a) l (pair_at k) (pairs_from a.graph.parties (k + 1)) f)
            ∙ (rw (pairs_take a.graph.parties k (pass_small turn) i) at P.mined);
        verdict =
            sym (verdict_pass (problem_in a) l (pair_at k) (pairs_from a.graph.parties (k + 1)) f)
            ∙ (rw (pairs_take a.graph.parties k (pass_small turn) i) at P.verdict);
        sized = P.sized;
        bound = omega (arith, P.bound);
        bounded = omega (arith, P.bounded);
      })
      (λ i. record {
        marks = P.marks;
        mined = rw (pairs_skip a.graph.parties k (pass_small turn) i) at P.mined;
        verdict = rw (pairs_skip a.graph.parties k (pass_small turn) i) at P.verdict;
        sized = P.sized;
        bound = omega (arith, P.bound);
        bounded = omega (arith, P.bounded);
      })

  -- past the last pair
  pub pass_end : 32 * a.graph.parties ≤ k → (l ≡ mine (problem_in a)) × (verdict (problem_in a) ≡ convertible)
  unfolding mine_from verdict_from
  pass_end past =
      let e = pairs_end a.graph.parties k past in
      (rw e at P.mined, sym (rw e at P.verdict))

-- a due pair in its turn
pub record DueTurn : Type 0 where
  pub a : Archive
  pub list : RuleList Word
  pub row : Row
  pub size : ℕ
  pub k : ℕ
  pub pass : Passing a list row size k
  pub turn : k < 32 * a.graph.parties
  pub due : due a list k ≡ true

module _ (D : DueTurn) where
  abbrev S : Problem Pair Word
  S = problem_in D.a

  abbrev pub own_pair : Pair
  own_pair = pair_at D.k

  -- its term, and the list with it
  abbrev own_term : Term Word
  own_term = term_of S own_pair

  abbrev pub list_with : RuleList Word
  list_with = D.list ++ (own_term ∷ [])

  abbrev later : List Pair
  later = pairs_from D.a.graph.parties (D.k + 1)

  pair_legal : is_pair_at D.a.graph.parties D.k ≡ true
  unfolding due
  pair_legal = and_left (is_pair_at D.a.graph.parties D.k) _ D.due

  meets_test : (S.permitted own_pair && not (permits S D.list own_pair)) ≡ true
  unfolding due
  meets_test = and_right (is_pair_at D.a.graph.parties D.k) _ D.due

  split : pairs_from D.a.graph.parties D.k ≡ own_pair ∷ later
  split = pairs_take D.a.graph.parties D.k (pass_small D.pass D.turn) pair_legal

  longer : mine_from S list_with later ≡ mine S
  longer = sym (mine_take S D.list own_pair later meets_test) ∙ (rw split at D.pass.mined)

  onward : passing S (judge S own_pair) (verdict_from S list_with later) ≡ verdict S
  onward = sym (verdict_take S D.list own_pair later meets_test) ∙ (rw split at D.pass.verdict)

  -- what its turn needs
  pub due_query : (at size : ℕ) → at + length (term_bytes D.a own_pair) ≤ size → DueQuery D.a D.row D.k at size
  due_query at size room = record {
    number = pass_small D.pass D.turn;
    list = D.list;
    marks = D.pass.marks;
    due = D.due;
    room = room;
  }

  -- it has its term
  pub pass_term : judge S own_pair ≡ convertible → (more : Row) → PairMarks D.a list_with more
      → Passing D.a list_with more (D.size + length (term_bytes D.a own_pair)) (D.k + 1)
  unfolding term_bytes
  pass_term j more m = record {
    marks = m;
    mined = longer;
    verdict = rw j at onward;
    sized = omega (arith, D.pass.sized, terms_add_size D.list own_term);
    bound = omega (arith, D.pass.bound, term_fits D.a own_pair);
    bounded = omega (arith, D.pass.bounded, length-append D.list (own_term ∷ []));
  }

  -- there is room for it in the list's bytes
  pub pass_room : D.size + length (term_bytes D.a own_pair) ≤ length (archive_bytes D.a)
  unfolding term_bytes archive_bytes
  pass_room =
      let g = terms_grow S list_with later in
      let s = ap (λ (r : RuleList Word). length (terms_of r)) longer in
      omega (arith, D.pass.sized, terms_add_size D.list own_term, g, s, list_length (mine S))

  -- it is in the way
  stops : (v : Verdict Pair) → (v ≡ convertible → ⊥) → judge S own_pair ≡ v → verdict S ≡ v
  stops convertible d j = absurd (d refl)
  stops (no_word x) d j = sym (rw j at onward)
  stops (rivalled x q) d j = sym (rw j at onward)

  module _ (at : ℕ) (old new : List ℕ) where
    pub pass_no_word : (v : Verdict Pair) → judge S own_pair ≡ v → OutcomeAs D.a own_pair at old new v (Err NoWord)
        → verdict S ≡ no_word own_pair
    pass_no_word convertible j o = clash (cc o.0)
    pass_no_word (no_word x) j o = stops (no_word x) (λ q. clash (cc q)) j ∙ ap no_word (own_no_word S own_pair j)
    pass_no_word (rivalled x q) j o = clash (cc o)

    pub pass_rival : (r : PairValue) (v : Verdict Pair) → judge S own_pair ≡ v → OutcomeAs D.a own_pair at old new v (Err (Rival r))
        → (q : Pair) × ((verdict S ≡ rivalled own_pair q) × (r ≡ pair_value q))
    pass_rival r convertible j o = clash (cc o.0)
    pass_rival r (no_word x) j o = clash (cc o)
    pass_rival r (rivalled x q) j o =
        let e = own_rival S own_pair j in
        (q, (stops (rivalled x q) (λ z. clash (cc z)) j ∙ ap (λ (y : Pair). rivalled y q) e, cc o))
