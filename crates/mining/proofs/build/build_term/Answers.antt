-- The first word stands as a term of its own, and extend_term does the rest.
use Rattle.std.proofs.Common.{◌≡◌, refl, sym, ap, ◌∙◌, List, [], ◌∷◌, Result, ℕ, ◌+◌, ◌≤◌, arith, length}
use Rattle.std.proofs.Math.Option.{some}
use Rattle.rebac.specs.Matter.{Matter, Pair}
use Rattle.rebac.specs.Verdict.{judge}
use Rattle.rebac.specs.NextWord.{next_word}
use Rattle.fields.specs.Numbers.{u16_bytes}
use Rattle.fields.specs.promises.Writing.{put}
use Rattle.fields.proofs.NumberLaws.{u16_size}
use Rattle.fields.proofs.PutLaws.{put_length, put_over}
use Rattle.graph.specs.declared.archive.Archive.{Archive}
use Rattle.graph.specs.promises.Archive.{Shows}
use Rattle.graph.proofs.ShownLaws.{shown_by}
use Rattle.search.specs.Word.{symbols_in}
use Rattle.search.specs.declared.word.ShortWord.{ShortWord}
use Rattle.search.proofs.SearchLaws.{symbols_length, short_fits}
use Rattle.rule_bytes.specs.ListBytes.{encode_term}
use Rattle.mining.specs.promises.Building.{problem_in, first_bytes, OutcomeAs, TermRoom, TermBegun}
use Rattle.mining.specs.declared.build.Obstacle.{Obstacle}
use Rattle.mining.proofs.FirstLaws.{no_words, first_none, first_full, first_bytes_lem, first_term_lem, first_size, outcome_over}
use Rattle.mining.proofs.BuildLaws.{first_part}
use Rattle.mining.proofs.build.build_term.Goals as goal

-- where a first word was found: the pair, the output as it was, and the word
module _ (a : Archive) {p : Pair} {at : ℕ} (old : List ℕ) (t : TermRoom a p at (length old)) (r : ShortWord)
    (s : (M : Matter) → Shows M a → next_word M p [] ≡ some (symbols_in r.word)) where
  S : Shows (shown_by a).0 a
  S = (shown_by a).1

  first : next_word (shown_by a).0 p [] ≡ some (symbols_in r.word)
  first = s _ S

  -- the bytes of its term, and the room for them
  size : length (first_bytes a p) ≡ 3 + r.word.len
  size = first_size a S p first ∙ omega (arith, symbols_length r.word (short_fits r.short))

  room : at + (3 + r.word.len) ≤ length old
  room = omega (arith, size, first_part a p, t.room)

  -- the count of no word
  count : {out : List ℕ} → out ≡ put old at (u16_bytes 0) → (out ≡ put old at (encode_term [])) × (length out ≡ length old)
  count e =
      (e ∙ ap (put old at) no_words, ap length e ∙ put_length old at (u16_bytes 0) (omega (arith, u16_size 0, room)))

  -- the first word as a term
  module _ {out : List ℕ} (e : out ≡ put old at (encode_term (symbols_in r.word ∷ []))) where
    written : out ≡ put old at (first_bytes a p)
    written = e ∙ ap (put old at) (sym (first_bytes_lem a S p first))

    begun : TermBegun a p r at out
    begun =
        let F = first_bytes a p in
        let l : at + length F ≤ length old = omega (arith, first_part a p, t.room) in
        let same : length out ≡ length old = ap length written ∙ put_length old at F l in
        record {
          worded = first_full a S p first;
          first = first_term_lem a S p first;
          room = omega (arith, same, t.room);
          stands = rw written (put_over old at F F (omega (arith, t.room)) (omega arith));
        }

    done : (new : List ℕ) (o : Result ℕ Obstacle) → OutcomeAs a p at out new (judge (problem_in a) p) o
        → OutcomeAs a p at old new (judge (problem_in a) p) o
    done new o h = outcome_over a p at old new (judge (problem_in a) p) o (omega (arith, t.room)) (rw written at h)

pub returns-in_default : goal.returns-in_default
returns-in_default c =
    let a = c.args.a.now in
    let S = (shown_by a).1 in
    rw (first_none a S _ (c.in_default.ensures _ S)) refl

pub put_u16-requires : goal.put_u16-requires
put_u16-requires c =
    let w = c.in-Some.first in
    let s = c.in-Some.ensures in
    (omega arith, omega (arith, room c.args.a.now c.args.out.now c.requires w s))

pub add_word-requires : goal.add_word-requires
add_word-requires c =
    let old = c.args.out.now in
    let w = c.in-Some.first in
    let s = c.in-Some.ensures in
    record {
      short = w.short.len;
      count = omega arith;
      start = omega arith;
      room = omega (arith, (count c.args.a.now old c.requires w s c.put_u16.ensures).1, room c.args.a.now old c.requires w s);
    }

pub extend_term-requires : goal.extend_term-requires
extend_term-requires c =
    let old = c.args.out.now in
    let w = c.in-Some.first in
    let s = c.in-Some.ensures in
    let k = count c.args.a.now old c.requires w s c.put_u16.ensures in
    let e = c.add_word.ensures old [] refl (omega (arith, ap length no_words, u16_size 0)) k.0 (sym k.1) in
    begun c.args.a.now old c.requires w s e

pub returns : goal.returns
returns c =
    let old = c.args.out.now in
    let w = c.in-Some.first in
    let s = c.in-Some.ensures in
    let k = count c.args.a.now old c.requires w s c.put_u16.ensures in
    let e = c.add_word.ensures old [] refl (omega (arith, ap length no_words, u16_size 0)) k.0 (sym k.1) in
    done c.args.a.now old c.requires w s e _ _ c.extend_term.ensures
