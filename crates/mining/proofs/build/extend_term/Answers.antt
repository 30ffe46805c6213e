use Rattle.std.proofs.Common.{◌≡◌, refl, sym, ap, ◌∙◌, true, false, List, [], ℕ, ◌+◌, ◌≤◌, arith, length, None, Some, Err, rules, Bool}
use Rattle.std.specs.Prelude.{Option as Maybe}
use Rattle.std.proofs.Math.Option.{some}
use Rattle.lists.specs.Lists.{all_of}
use Rattle.lists.proofs.OrderLaws.{length_map}
use Rattle.masks.specs.declared.Row.{Row}
use Rattle.masks.specs.promises.Mask.{test_bit}
use Rattle.masks.specs.promises.Table.{mask_in}
use Rattle.rebac.specs.Matter.{Matter, Pair}
use Rattle.rebac.specs.Verdict.{judge}
use Rattle.graph.specs.declared.archive.Archive.{Archive}
use Rattle.graph.specs.promises.Archive.{Shows}
use Rattle.graph.proofs.ShownLaws.{shown_by}
use Rattle.search.specs.Word.{symbols_in}
use Rattle.search.specs.declared.word.ShortWord.{ShortWord}
use Rattle.search.proofs.SearchLaws.{symbols_length, short_fits}
use Rattle.words.specs.promises.Next.{WordAs}
use Rattle.rule_bytes.specs.promises.Words.{NextWord}
use Rattle.rule_bytes.specs.declared.words.Words.{Words}
use Rattle.rules.proofs.MeetLaws.{meet_start, meet_next, meet_end}
use Rattle.mining.specs.Values.{pair_value, pair_in}
use Rattle.mining.specs.declared.build.Pair.{Pair as PairValue}
use Rattle.mining.specs.promises.Pairs.{pair_at}
use Rattle.mining.specs.promises.Building.{WordRoom, problem_in, OutcomeAs}
use Rattle.mining.specs.promises.Kept.{first_lacked}
use Rattle.mining.specs.declared.build.Obstacle.TheVariants.{Rival}
use Rattle.mining.proofs.ArchiveLaws.{lacked_shown}
use Rattle.mining.proofs.BuildLaws.{has_in, lacked_in, build_term_at, build_start, build_room, build_bounded, build_same}
use Rattle.mining.proofs.BuildLaws.{build_end, extend_passed, extend_permitted, extend_none, Building, Turn, words_at, turn_unmet}
use Rattle.mining.proofs.BuildLaws.{turn_rival, turn_more, turn_room}
use Rattle.mining.proofs.build.extend_term.Invariants.{Testing}
use Rattle.mining.proofs.CoverLaws.{covers_more}
use Rattle.mining.proofs.build.extend_term.Goals as goal

-- the pair in turn and a word of the term
module _ {a : Archive} {p : Pair} {first : ShortWord} {at : ℕ} {old : List ℕ} {k number end : ℕ} {row : Row} {out : List ℕ}
    {words : Words} (t : Testing a p first at old k number end row out words)
  where
    abbrev T : Turn a p first at old k number end row out
    T = t.turn

    -- a word that was read is the term's; the pair lacks it, or has it
    module _ {w : ShortWord} {new : Words} (n : NextWord words w new) where
      missed : false ≡ has_in a (pair_at k) (symbols_in w.word) → Building a p at old (k + 1) number end row out
      missed c = turn_unmet T (meet_next t.met n false c).same

      went_on : true ≡ has_in a (pair_at k) (symbols_in w.word) → Testing a p first at old k number end row out new
      went_on c = record { turn = T; met = meet_next t.met n true c }

    -- all were had, and the first word that it lacks was sought
    module _ (z : words.left ≡ 0) {q : PairValue} (e : q ≡ pair_value (pair_at k)) where
      had : all_of (has_in a (pair_at k)) (words_at T) ≡ true
      had = sym (meet_end t.met (z, refl)).0

      abbrev Sought : Maybe ShortWord → Type 0
      Sought r = (M : Matter) → Shows M a → WordAs (first_lacked M p (pair_in q)) r

      sought : (r : Maybe ShortWord) → Sought r → WordAs (lacked_in a p (pair_at k)) r
      sought r l = let S = (shown_by a).1 in rw (ap pair_in e) at (lacked_shown a S _ _ r (l _ S))

      -- there is none: a rival
      rival : Sought None → OutcomeAs a p at old out (judge (problem_in a) p) (Err (Rival q))
      rival l = rw e (turn_rival T had (sought None l))

      -- or it is added: there is room for it
      module _ (w : ShortWord) (l : Sought (Some w)) where
        lacked : lacked_in a p (pair_at k) ≡ some (symbols_in w.word)
        lacked = sought (Some w) l

        size : length (symbols_in w.word) ≡ w.word.len
        size = symbols_length w.word (short_fits w.short)

        word_end : end + 1 + w.word.len ≤ length old
        word_end = omega (arith, turn_room T had lacked, size)

        word_room : WordRoom w.word at end number (length out)
        word_room = record {
          short = w.short.len;
          count = omega (arith, build_bounded T.begun T.built);
          start = (build_room T.begun T.built).0;
          room = omega (arith, word_end, build_same T.begun T.built);
        }

-- whether the pair's bit of a row is set
abbrev InRow : Row → PairValue → Bool → Type 0
InRow row q b = test_bit (mask_in row q.first) q.second ≡ b

-- the words stand in the slice, by whichever name
same_list : {a : Archive} {p : Pair} {first : ShortWord} {at : ℕ} {old : List ℕ} {k number end : ℕ} {row : Row} {out list : List ℕ}
    {words : Words} → list ≡ out → Testing a p first at old k number end row out words
    → Testing a p first at old k number end row list words
same_list e t = rw e t

pub pairs-init : goal.pairs-init
pairs-init c = record { built = build_start c.requires c.walk_pairs-alive.ensures; known = ([], c.new-kept.ensures _ _) }

pub pairs-preserved-then-not-is_in : goal.pairs-preserved-then-not-is_in
pairs-preserved-then-not-is_in c =
    let e = c.at-q.ensures in
    let no = sym c.is_in.ensures ∙ c.if-not-is_in.true in
    let inv = c.pairs.invariant in
    record { built = extend_passed c.requires inv.built c.pairs-test.true (rw e at no); known = inv.known }

pub pairs-preserved-then-is_in : goal.pairs-preserved-then-is_in
pairs-preserved-then-is_in c =
    let e = c.at-q.ensures in
    let yes : InRow c.args.own.archive.now.permits c.at-q.result true = search rules in
    let inv = c.pairs.invariant in
    record { built = extend_permitted c.requires inv.built c.pairs-test.true (rw e at yes); known = inv.known }

pub pairs-preserved-in_default : goal.pairs-preserved-in_default
pairs-preserved-in_default c =
    let e = c.at-q.ensures in
    let inv = c.pairs.invariant in
    record { built = extend_none c.requires inv.built c.pairs-test.true (rw e at c.in_default.ensures.0); known = inv.known }

pub of_term-word-items-requires : goal.of_term-word-items-requires
of_term-word-items-requires c = (_, (_, build_term_at c.requires c.pairs.invariant.built))

pub loop-word-init : goal.loop-word-init
loop-word-init c =
    let B = c.pairs.invariant.built in
    let e = c.at-q.ensures in
    let words = c.of_term-word-items.ensures in
    let unpermitted : InRow c.args.own.archive.now.permits c.at-q.result false = search rules in
    rw c.into_iter-word-iterator.ensures.into_iter_gives (
      refl,
      same_list words.list (record {
        turn = record {
          begun = c.requires;
          built = B;
          turn = c.pairs-test.true;
          is_pair = rw e at c.in-Ok.ensures.0;
          unpermitted = rw e at unpermitted;
        };
        met = meet_start (words.ahead _ _ (build_term_at c.requires B));
      }),
    )

pub pairs-preserved-then-not-has_word : goal.pairs-preserved-then-not-has_word
pairs-preserved-then-not-has_word c =
    let same = ap (λ (w : Words). w.list.now) c.into_iter-word-iterator.ensures.into_iter_gives ∙ c.of_term-word-items.ensures.list in
    let i = rw same at c.loop-word.invariant in
    let g = c.in-Ok.ensures.1 in
    let no = sym c.if-not-has_word.true ∙ (rw (g.0, g.1.0, g.1.1, ap pair_in c.at-q.ensures) at c.has_word.ensures) in
    record { built = rw i.0 (missed i.1 c.in-Some.ensures.steps no); known = c.pairs.invariant.known }

pub loop-word-preserved : goal.loop-word-preserved
loop-word-preserved c =
    let i = c.loop-word.invariant in
    let g = c.in-Ok.ensures.1 in
    let yes = sym c.if-not-has_word.false ∙ (rw (g.0, g.1.0, g.1.1, ap pair_in c.at-q.ensures) at c.has_word.ensures) in
    (i.0, went_on i.1 c.in-Some.ensures.steps yes)

pub returns-in_default-first_lacked : goal.returns-in_default-first_lacked
returns-in_default-first_lacked c =
    let same = ap (λ (w : Words). w.list.now) c.into_iter-word-iterator.ensures.into_iter_gives ∙ c.of_term-word-items.ensures.list in
    rival (rw same at c.loop-word.invariant.1) c.in-None.ensures.steps.0 c.at-q.ensures c.in_default-first_lacked.ensures.next

pub add_word-requires : goal.add_word-requires
add_word-requires c =
    let same = ap (λ (w : Words). w.list.now) c.into_iter-word-iterator.ensures.into_iter_gives ∙ c.of_term-word-items.ensures.list in
    word_room (rw same at c.loop-word.invariant.1)
    c.in-None.ensures.steps.0 c.at-q.ensures c.in-Some-first_lacked.w c.in-Some-first_lacked.ensures.next

pub overflow_add-end-in-pairs : goal.overflow_add-end-in-pairs
overflow_add-end-in-pairs c =
    let r = c.in-Some-first_lacked in
    let w = word_end c.loop-word.invariant.1 c.in-None.ensures.steps.0 c.at-q.ensures r.w r.ensures.next in
    omega (arith, w, c.well_formed)

pub overflow_add-end-in-pairs-2 : goal.overflow_add-end-in-pairs-2
overflow_add-end-in-pairs-2 c =
    let r = c.in-Some-first_lacked in
    let w = word_end c.loop-word.invariant.1 c.in-None.ensures.steps.0 c.at-q.ensures r.w r.ensures.next in
    omega (arith, w, c.well_formed)

pub overflow_add-number : goal.overflow_add-number
overflow_add-number c = omega (arith, build_bounded c.requires c.pairs.invariant.built)

pub pairs-preserved : goal.pairs-preserved
pairs-preserved c =
    let same = ap (λ (w : Words). w.list.now) c.into_iter-word-iterator.ensures.into_iter_gives ∙ c.of_term-word-items.ensures.list in
    let i = rw same at c.loop-word.invariant in
    let T = i.1.turn in
    let B = T.built in
    let z = c.in-None.ensures.steps.0 in
    let e = c.at-q.ensures in
    let v = c.in-Some-first_lacked.w in
    let r = c.in-Some-first_lacked.ensures in
    let n = length_map (λ i. i.word) B.term ∙ sym B.words in
    let w = c.add_word.ensures _ (words_at T) n B.ends B.bytes (sym (build_same T.begun B)) in
    let walked = c.walk_pairs in
    let common = c.common-alive in
    let a = c.args.own.archive.now in
    let covers =
    covers_more a (words_at T) (symbols_in v.word) _ walked.result common.result B.covers walked.ensures common.ensures in
    record {
      built = rw i.0 (turn_more T (had i.1 z e) (lacked i.1 z e v r.next) (size i.1 z e v r.next) covers w);
      known = r.kept;
    }

pub returns : goal.returns
returns c = build_end c.requires c.pairs.invariant.built (omega (arith, c.pairs-test.false))
