-- The pairs in turn: each adds its term's bytes to the list within the limit, or is in the way and names itself; past the last
-- the number before the terms makes the list.
use Rattle.std.proofs.Common.{◌≡◌, refl, sym, ap, ◌∙◌, Bool, true, false, Ok, Err, ⊎_elim, List, [], ◌∷◌}
use Rattle.std.proofs.Common.{◌++◌, ℕ, ◌+◌, ◌-◌, ◌*◌, ◌≤◌, ◌<◌, min, arith, length, drop, length-append}
use Rattle.lists.specs.Lists.{flat_map}
use Rattle.masks.specs.promises.Table.{mask_in}
use Rattle.masks.specs.declared.Row.{Row}
use Rattle.rebac.specs.Words.{Word}
use Rattle.rebac.specs.Rules.{RuleList}
use Rattle.rebac.specs.Verdict.{judge}
use Rattle.rebac.specs.Mining.{term_of, mine}
use Rattle.rebac.specs.Existence.{plain_list}
use Rattle.graph.specs.declared.archive.Archive.{Archive}
use Rattle.fields.specs.Numbers.{u16_bytes}
use Rattle.fields.specs.promises.Writing.{put}
use Rattle.fields.proofs.NumberLaws.{u16_size}
use Rattle.fields.proofs.PutLaws.{put_nil, put_put, put_before, put_length, put_first}
use Rattle.rule_bytes.specs.ListBytes.{encode_list}
use Rattle.mining.specs.Values.{pair_value}
use Rattle.mining.specs.promises.Pairs.{pair_at}
use Rattle.mining.specs.promises.Building.{problem_in, term_bytes}
use Rattle.mining.specs.promises.Taking.{due, due_by, DueQuery, TurnAs}
use Rattle.mining.specs.declared.take.Taken.{Taken}
use Rattle.mining.specs.declared.build.Obstacle.{Obstacle}
use Rattle.mining.specs.declared.build.Obstacle.TheVariants.{NoWord, Rival}
use Rattle.mining.specs.declared.build.Pair.{Pair as PairValue}
use Rattle.mining.proofs.TakeLaws.{TermOutcome, term_outcome, due_marked}
use Rattle.conversion.specs.promises.Passes.{archive_bytes, archive_verdict, verdict_by, JudgeRoom, JudgedAs}
use Rattle.conversion.specs.declared.verdict.Verdict.TheVariants as reply
use Rattle.conversion.proofs.PassLaws.{Passing, DueTurn, list_with, terms_of, terms_add, list_bytes, list_length}
use Rattle.conversion.proofs.PassLaws.{pass_start, pass_over, pass_term, pass_room, pass_end, pass_no_word, pass_rival}
use Rattle.conversion.proofs.PassLaws.{due_query, term_fits}

-- before the pair of number k: the terms of the due pairs so far stand from place 2 on, if they are within the limit
pub record Judging (a : Archive) (limit : ℕ) (old out : List ℕ) (row : Row) (number size k : ℕ) : Type 0 where
  pub place : k ≤ 32 * a.graph.parties
  pub list : RuleList Word
  pub pass : Passing a list row size k
  pub kept : length out ≡ length old
  pub bytes : size ≤ limit → out ≡ put old 2 (terms_of list)
  pub terms : number ≡ length list

pub judge_start : (a : Archive) {limit : ℕ} {old : List ℕ} {row : Row} → ((v : ℕ) → mask_in row v ≡ 0) → Judging a limit old old row 0 2 0
unfolding flat_map
judge_start a {old = old} h = record {
  place = omega arith;
  list = [];
  pass = pass_start a h;
  kept = refl;
  bytes = λ l. sym (put_nil old 2);
  terms = refl;
}

-- the slice has room for the number
pub judge_two : (a : Archive) (limit size : ℕ) → JudgeRoom a limit size → 2 ≤ size
unfolding archive_bytes
judge_two a limit size R = ⊎_elim (λ l. omega arith) (λ l. omega (arith, list_length (mine (problem_in a)))) R

module _ {a : Archive} {limit : ℕ} {old out : List ℕ} {row : Row} {number size k : ℕ} (R : JudgeRoom a limit (length old))
    (J : Judging a limit old out row number size k) where
  pub judge_number : number ≤ 1024
  judge_number = omega (arith, J.terms, J.pass.bounded, J.place, a.graph.within)

  -- past the last pair the size is the list's, and the number before the terms makes the list
  module _ (past : 32 * a.graph.parties ≤ k) where
    list_size : size ≡ length (archive_bytes a)
    unfolding archive_bytes
    list_size =
        J.pass.sized
        ∙ sym (list_length J.list)
        ∙ ap (λ (r : RuleList Word). length (encode_list (plain_list r))) (pass_end J.pass past).0

    end_reply : Ok (reply.Convertible size) ≡ archive_verdict a
    unfolding archive_verdict
    end_reply = rw (pass_end J.pass past).1 (ap (λ (i : ℕ). Ok (reply.Convertible i)) list_size)

    end_bytes : size ≤ limit → put out 0 (u16_bytes number) ≡ archive_bytes a ++ drop (length (archive_bytes a)) old
    unfolding archive_bytes
    end_bytes within =
        let T = terms_of J.list in
        let N = u16_bytes number in
        let c = u16_size number in
        let q : archive_bytes a ≡ N ++ T =
        ap (λ (r : RuleList Word). encode_list (plain_list r)) (sym (pass_end J.pass past).0)
        ∙ list_bytes J.list
        ∙ ap (λ (n : ℕ). u16_bytes n ++ T) (sym J.terms) in
        let n : 0 + length N ≡ 2 = omega (arith, c) in
        let room = ⊎_elim (λ l. omega (arith, list_size)) (λ l. l) R in
        ap (λ (o : List ℕ). put o 0 N) (J.bytes within ∙ ap (λ (i : ℕ). put old i T) (sym n))
        ∙ put_before old 0 N T (omega (arith, c, ap length q, length-append N T, room))
        ∙ ap (put old 0) (sym q)
        ∙ put_first old (archive_bytes a)

    pub judge_end : {new : List ℕ} → new ≡ put out 0 (u16_bytes number)
        → JudgedAs a limit old new (Ok (record { size = size; marks = row }))
    judge_end e = (
      end_reply,
      λ within. record { bytes = e ∙ end_bytes within; marks = rw (← (pass_end J.pass past).0) J.pass.marks },
    )

  -- the masks tell whether the pair is due
  pub judge_due : {test answer : Bool} → test ≡ due_by a.graph.parties a.permits row k → test ≡ answer → due a J.list k ≡ answer
  judge_due told e = sym (due_marked a J.list k row J.pass.marks) ∙ sym told ∙ e

  module _ (turn : k < 32 * a.graph.parties) where
    pub judge_over : due a J.list k ≡ false → Judging a limit old out row number size (k + 1)
    judge_over e = record {
      place = omega arith;
      list = J.list;
      pass = pass_over J.pass turn e;
      kept = J.kept;
      bytes = J.bytes;
      terms = J.terms;
    }

    -- a due pair, and the place of its term
    module _ (e : due a J.list k ≡ true) {at : ℕ} (P : at ≡ min size limit) where
      abbrev D : DueTurn
      D = record {
        a = a;
        list = J.list;
        row = row;
        size = size;
        k = k;
        pass = J.pass;
        turn = turn;
        due = e;
      }

      term_room : at + length (term_bytes a (pair_at k)) ≤ length old
      term_room =
          ⊎_elim
          (λ l. omega (arith, P, term_fits a (pair_at k)))
          (λ l. omega (arith, P, pass_room D))
          R

      pub judge_query : DueQuery a row k at (length out)
      judge_query = due_query D at _ (omega (arith, term_room, J.kept))

      module _ (new : List ℕ) where
        -- what is in its way is the verdict,
        pub judge_hindered : (o : Obstacle) → TurnAs a J.list k at out new (judge (problem_in a) (pair_at k)) (Err o)
            → Ok (verdict_by (pair_value (pair_at k)) o) ≡ archive_verdict a
        unfolding archive_verdict
        judge_hindered NoWord T = rw (pass_no_word D at out new (judge (problem_in a) (pair_at k)) refl T) refl
        judge_hindered (Rival r) T =
            let q = pass_rival D at out new r (judge (problem_in a) (pair_at k)) refl T in
            let z : Ok (reply.Rival (pair_value (pair_at k)) (pair_value q.0)) ≡ archive_verdict a = rw q.1.0 refl in
            ap (λ (y : PairValue). Ok (reply.Rival (pair_value (pair_at k)) y)) q.1.1 ∙ z

        -- or it has its term
        module _ (t : Taken) (T : TurnAs a J.list k at out new (judge (problem_in a) (pair_at k)) (Ok t)) where
          has_term : TermOutcome a (pair_at k) at out new (judge (problem_in a) (pair_at k)) t.end
          has_term = term_outcome a (pair_at k) at out new (judge (problem_in a) (pair_at k)) t.end T.0

          -- what a pair adds to the size is at most a term's bytes
          pub judge_bound : (at ≤ t.end) × (t.end ≤ at + 31778)
          judge_bound =
              (omega (arith, has_term.ends), omega (arith, has_term.ends, term_fits a (pair_at k)))

          -- its term stands after the terms that stood there
          written : size ≤ limit → new ≡ put old 2 (terms_of (list_with D))
          unfolding term_bytes
          written l =
              let T = terms_of J.list in
              let B = term_bytes a (pair_at k) in
              has_term.bytes
              ∙ ap (λ (o : List ℕ). put o at B) (J.bytes l)
              ∙ ap (λ (i : ℕ). put (put old 2 T) i B) (omega (arith, P, l, J.pass.sized))
              ∙ put_put old 2 T B (judge_two a limit (length old) R)
              ∙ ap (put old 2) (sym (terms_add J.list (term_of (problem_in a) (pair_at k))))

          pub judge_term : Judging a limit old new t.marks (number + 1) (size + (t.end - at)) (k + 1)
          judge_term =
              let z : t.end - at ≡ length (term_bytes a (pair_at k)) = omega (arith, has_term.ends) in
              rw z (record {
                place = omega arith;
                list = list_with D;
                pass = pass_term D has_term.verdict t.marks T.1;
                kept =
                    ap length has_term.bytes
                    ∙ put_length out at (term_bytes a (pair_at k)) (omega (arith, term_room, J.kept))
                    ∙ J.kept;
                bytes = λ l. written (omega arith);
                terms = omega (arith, J.terms, length-append J.list (term_of (problem_in a) (pair_at k) ∷ []));
              })

-- by these, goals of `judge_into` are found
pub ruleset judge_laws = (judge_start, judge_number, judge_due, judge_bound)
