-- What the two calls answer for a matter, by the outcome of their tests; an archive's list and verdict are its matter's.
use Rattle.std.proofs.Common.{◌≡◌, refl, sym, ap, ◌∙◌, Bool, true, false, ◌&&◌, List, ◌++◌, ◌⊎◌, ⊎_elim, ℕ, ◌/◌, ◌%◌, ◌≤◌}
use Rattle.std.proofs.Common.{◌<◌, arith, length, take, drop, length-append, take_at, leb, le-leb, Result, Ok, Err, IsOk}
use Rattle.std.proofs.lemmas.Bool.{lt-leb}
use Rattle.masks.specs.promises.Table.{mask_in}
use Rattle.masks.specs.declared.Row.{Row}
use Rattle.rebac.specs.Matter.{Matter, Pair, pair}
use Rattle.rebac.specs.Words.{Word}
use Rattle.rebac.specs.Rules.{Problem, permits}
use Rattle.rebac.specs.Verdict.{convertible, verdict, is_convertible}
use Rattle.rebac.specs.Mining.{mine}
use Rattle.rebac.specs.Existence.{problem_of, verdict_of, mined_list, permits_pair}
use Rattle.rebac.proofs.Conversion.{permits_one, mined_ones}
use Rattle.house_layout.proofs.Exits.{left_with}
use Rattle.house_layout.specs.declared.reply.Refusal.TheVariants.{Length, Field, Link, Again, Unreached, Owner, Target, Kind, Repeat}
use Rattle.house_layout.specs.declared.reply.Refusal.TheVariants.{RuleList, PartyPair, GivenWord, Scratch, Inconvertible, Output, Contrary}
use Rattle.house_file.specs.Check.{check_of}
use Rattle.house_file.proofs.FileRefusals.{OfFile, file_refusals}
use Rattle.house_layout.specs.declared.reply.Refusal.{Refusal}
use Rattle.graph.specs.declared.archive.Archive.{Archive}
use Rattle.graph.specs.promises.Archive.{Shows}
use Rattle.graph.specs.Legal.{is_pair}
use Rattle.mining.specs.promises.Building.{problem_in}
use Rattle.mining.specs.promises.Taking.{PairMarks}
use Rattle.mining.specs.declared.build.Pair.{Pair as PairValue}
use Rattle.mining.specs.declared.build.Obstacle.{Obstacle}
use Rattle.mining.specs.declared.build.Obstacle.TheVariants as obstacle
use Rattle.lists.proofs.Cases.{clash}
use Rattle.conversion.specs.declared.verdict.Verdict.{Verdict as VerdictValue}
use Rattle.mining.proofs.ArchiveLaws.{problem_shown}
use Rattle.conversion.specs.Calls.{list_of, bytes_of, verdict_reply, verdict_in, table_of, refuses, mining_in, mining_scratch, Mined}
use Rattle.conversion.specs.promises.Passes.{archive_bytes, archive_verdict, verdict_by, row_bytes, ListWritten, JudgedAs}
use Rattle.conversion.specs.declared.verdict.Judged.{Judged}
use Rattle.conversion.specs.declared.verdict.Hindered.{Hindered}
use Rattle.conversion.specs.declared.verdict.Verdict.TheVariants.{Convertible}
use Rattle.conversion.proofs.TableLaws.{clear_bytes, marks_bytes}
use Rattle.conversion.proofs.ReplyLaws.{reply_convertible, reply_no_word, reply_rival}

module _ (a : Archive) {M : Matter} (h : Shows M a) where
  pub bytes_shown : archive_bytes a ≡ bytes_of M
  unfolding archive_bytes bytes_of list_of mined_list
  bytes_shown = rw (problem_shown a h) refl

  pub verdict_shown : archive_verdict a ≡ verdict_in M
  unfolding archive_verdict verdict_in verdict_of
  verdict_shown = ap (λ (b : List ℕ). verdict_reply (length b) (verdict (problem_in a))) bytes_shown ∙ rw (problem_shown a h) refl

  -- the table of the mined list, from its marks
  table_shown : (r : Row) → PairMarks a (mine (problem_in a)) r → row_bytes r ≡ table_of M
  unfolding table_of list_of mined_list
  table_shown r m =
      let e = problem_shown a h in
      marks_bytes r (λ k. is_pair M.parties (k / 32) (k % 32) && permits_pair M (list_of M) (pair (k / 32) (k % 32)))
      (λ k. m (k / 32) (k % 32)
      ∙ ap (λ (n : ℕ). is_pair n (k / 32) (k % 32) && permits (problem_in a) (mine (problem_in a)) (pair (k / 32) (k % 32))) h.parties
      ∙ ap (λ (S : Problem Pair Word). is_pair M.parties (k / 32) (k % 32) && permits S (mine S) (pair (k / 32) (k % 32))) e
      ∙ ap (λ (b : Bool). is_pair M.parties (k / 32) (k % 32) && b)
      (permits_one M (pair (k / 32) (k % 32)) (mined_list M) (mined_ones M refl)))

  -- what mining gives for this scratch and output, by the outcome of its tests
  module _ (scratch output : List ℕ) where
    pub mined_scratch : length scratch < 1024 → Mined (mining_in M) (Err Scratch) scratch scratch output output
    unfolding mining_in
    mined_scratch e = rw (lt-leb 1024 (length scratch) e) (refl, (refl, refl))

    module _ (s : 1024 ≤ length scratch) where
      enough_scratch : leb 1024 (length scratch) ≡ true
      enough_scratch = le-leb 1024 (length scratch) s

      inconvertible : is_convertible (problem_of M) (verdict_of M) ≡ false
          → Mined (mining_in M) (Err Inconvertible) scratch scratch output output
      unfolding mining_in
      inconvertible e = rw (enough_scratch, e) (refl, (refl, refl))

      pub mined_hindered : (p : PairValue) (o : Obstacle) → Ok (verdict_by p o) ≡ archive_verdict a
          → Mined (mining_in M) (Err Inconvertible) scratch scratch output output
      unfolding verdict_in
      mined_hindered p obstacle.NoWord e =
          inconvertible (rw (reply_no_word (length (bytes_of M)) p (verdict_of M) (sym (e ∙ verdict_shown))) refl)
      mined_hindered p (obstacle.Rival q) e =
          inconvertible (rw (reply_rival (length (bytes_of M)) p q (verdict_of M) (sym (e ∙ verdict_shown))) refl)

      module _ {size : ℕ} (e : Ok (Convertible size) ≡ archive_verdict a) where
        told : (verdict_of M ≡ convertible) × (length (bytes_of M) ≡ size)
        unfolding verdict_in
        told = reply_convertible (length (bytes_of M)) size (verdict_of M) (sym (e ∙ verdict_shown))

        -- the table of no marks, where the output is too short
        pub mined_short : length output < size → (r : Row) → ((v : ℕ) → mask_in r v ≡ 0)
            → (scratchAfter : List ℕ) → scratchAfter ≡ row_bytes r ++ drop 1024 scratch
            → Mined (mining_in M) (Err Output) scratch scratchAfter output output
        unfolding mining_in
        mined_short o r z new q =
            rw (enough_scratch, told.0, lt-leb (length (bytes_of M)) (length output) (rw (← told.1) at o))
            (refl, (q ∙ ap (λ (l : List ℕ). l ++ drop 1024 scratch) (clear_bytes r z), refl))

        -- the list, and the table of its marks
        pub mined_writes : size ≤ length output → (r : Row) (scratchAfter outputAfter : List ℕ)
            → ListWritten a output outputAfter r → scratchAfter ≡ row_bytes r ++ drop 1024 scratch
            → Mined (mining_in M) (Ok size) scratch scratchAfter output outputAfter
        unfolding mining_in
        mined_writes o r new list w q =
            rw (enough_scratch, told.0, le-leb (length (bytes_of M)) (length output) (rw (← told.1) at o)) (
              ap Ok (sym told.1),
              (
                q ∙ ap (λ (l : List ℕ). l ++ drop 1024 scratch) (table_shown r w.marks),
                w.bytes ∙ ap (λ (l : List ℕ). l ++ drop (length l) output) bytes_shown,
              ),
            )

-- the length of a convertible archive's list, and the list as it stands in a slice
module _ (a : Archive) {size : ℕ} (e : Ok (Convertible size) ≡ archive_verdict a) where
  pub list_size : length (archive_bytes a) ≡ size
  unfolding archive_verdict
  list_size = (reply_convertible (length (archive_bytes a)) size (verdict (problem_in a)) (sym e)).1

  module _ {old new : List ℕ} {row : Row} (w : ListWritten a old new row) where
    pub list_inside : size ≤ length new
    list_inside =
        let rest : List ℕ = drop (length (archive_bytes a)) old in
        omega (arith, ap length w.bytes, length-append (archive_bytes a) rest, list_size)

    pub list_taken : take size new ≡ archive_bytes a
    list_taken =
        let rest : List ℕ = drop (length (archive_bytes a)) old in
        ap (take size) w.bytes ∙ take_at (archive_bytes a) rest size list_size

-- a convertible archive's verdict names no pair in the way
pub never_hindered : {G : Type 0} {v : Result VerdictValue Refusal} {size : ℕ} (p : PairValue) (o : Obstacle)
    → Ok (verdict_by p o) ≡ v → Ok (Convertible size) ≡ v → G
never_hindered p obstacle.NoWord e c = clash (cc (e ∙ sym c))
never_hindered p (obstacle.Rival q) e c = clash (cc (e ∙ sym c))

pub judged_ok : (a : Archive) (limit : ℕ) (old new : List ℕ) {size : ℕ} (r : Result Judged Hindered)
    → Ok (Convertible size) ≡ archive_verdict a → JudgedAs a limit old new r → IsOk r
judged_ok a limit old new (Ok j) v h = refl
judged_ok a limit old new (Err h) v k = never_hindered h.pair h.obstacle k v

-- scratch is kept at a refusal that comes from a file: those are 1 to 8, 15 and 16
no_file : {G : Type 0} (n : ℕ) → 8 < n → n < 15 → (n ≤ 8) ⊎ ((n ≡ 15) ⊎ (n ≡ 16)) → G
no_file n a b h =
    ⊎_elim (λ e. absurd (omega arith)) (λ t. ⊎_elim (λ e. absurd (omega arith)) (λ e. absurd (omega arith)) t) h

kept_at : (x : Refusal) → OfFile x → (old : List ℕ) → mining_scratch (refuses x) old ≡ old
kept_at Length h old = refl
kept_at Field h old = refl
kept_at Link h old = refl
kept_at Again h old = refl
kept_at Unreached h old = refl
kept_at Target h old = refl
kept_at Kind h old = refl
kept_at Repeat h old = refl
kept_at RuleList h old = no_file 9 (omega arith) (omega arith) h
kept_at PartyPair h old = no_file 10 (omega arith) (omega arith) h
kept_at GivenWord h old = no_file 11 (omega arith) (omega arith) h
kept_at Scratch h old = no_file 12 (omega arith) (omega arith) h
kept_at Inconvertible h old = no_file 13 (omega arith) (omega arith) h
kept_at Output h old = no_file 14 (omega arith) (omega arith) h
kept_at Owner h old = refl
kept_at Contrary h old = refl

pub file_keeps : (f : List ℕ) (x : Refusal) → check_of f ≡ Err x → (old : List ℕ) → mining_scratch (refuses x) old ≡ old
file_keeps f x e old = kept_at x (file_refusals f x e) old

-- by these, goals of `write_list`, of `mining_call` and of `convert` are found
pub ruleset list_laws = (list_taken, list_size, judged_ok)

pub ruleset file_laws = (left_with, file_keeps)

pub ruleset convert_laws = (left_with, verdict_shown, never_hindered)
