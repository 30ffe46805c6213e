-- A pair in its turn: the test of a due pair, and what a term as the outcome says.
use Rattle.std.proofs.Common.{◌≡◌, refl, ap, ◌∙◌, Bool, true, ◌&&◌, List, Ok, ℕ, ◌+◌, ◌/◌, ◌%◌, ◌≤◌, length, drop}
use Rattle.lists.proofs.Cases.{by_test, clash, and_left}
use Rattle.masks.specs.promises.Mask.{test_bit}
use Rattle.masks.specs.promises.Table.{mask_in}
use Rattle.masks.specs.declared.Row.{Row}
use Rattle.rebac.specs.Matter.{Pair, IsPair}
use Rattle.rebac.specs.Words.{Word}
use Rattle.rebac.specs.Rules.{RuleList, permits}
use Rattle.rebac.specs.Verdict.{Verdict, convertible, no_word, rivalled}
use Rattle.rebac.specs.Mining.{term_of}
use Rattle.rebac.specs.Existence.{plain_term}
use Rattle.rebac.proofs.MiningLaws.{term_owned}
use Rattle.fields.specs.promises.Writing.{put}
use Rattle.graph.specs.declared.archive.Archive.{Archive}
use Rattle.graph.proofs.LegalLaws.{pair_of}
use Rattle.rule_bytes.specs.promises.Reading.{TermAt}
use Rattle.mining.specs.promises.Pairs.{pair_at, is_pair_at}
use Rattle.mining.specs.promises.Building.{problem_in, encoded_term, term_bytes, OutcomeAs}
use Rattle.mining.specs.promises.Taking.{PairMarks, due, due_by}
use Rattle.mining.proofs.ArchiveLaws.{problem_permitted, words_bounded, owned_fits}
use Rattle.mining.proofs.BuildLaws.{put_drop}

module _ (a : Archive) (l : RuleList Word) (k : ℕ) where
  -- the masks tell whether a pair is due
  pub due_marked : (marks : Row) → PairMarks a l marks → due_by a.graph.parties a.permits marks k ≡ due a l k
  unfolding due_by due
  due_marked marks m =
      by_test (is_pair_at a.graph.parties k)
      (λ e.
      let z : test_bit (mask_in marks (k / 32)) (k % 32) ≡ permits (problem_in a) l (pair_at k) =
      m (k / 32) (k % 32) ∙ ap (λ (b : Bool). b && permits (problem_in a) l (pair_at k)) e in
      rw (e, z, problem_permitted a (pair_at k)) refl)
      (λ e. rw e refl)

  pub due_pair : due a l k ≡ true → IsPair a.graph.parties (pair_at k)
  unfolding due
  due_pair e = pair_of a.graph.parties (k / 32) (k % 32) (and_left (is_pair_at a.graph.parties k) _ e)

-- a term as the outcome: the pair is convertible; the term's end and its bytes
pub record TermOutcome (a : Archive) (p : Pair) (at : ℕ) (old new : List ℕ) (v : Verdict Pair) (end : ℕ) : Type 0 where
  pub verdict : v ≡ convertible
  pub ends : end ≡ at + length (term_bytes a p)
  pub bytes : new ≡ put old at (term_bytes a p)

module _ (a : Archive) (p : Pair) (at : ℕ) (old new : List ℕ) where
  pub term_outcome : (v : Verdict Pair) (end : ℕ) → OutcomeAs a p at old new v (Ok end) → TermOutcome a p at old new v end
  term_outcome convertible end h = record { verdict = refl; ends = cc h.0; bytes = h.1 }
  term_outcome (no_word x) end h = clash (cc h)
  term_outcome (rivalled x q) end h = clash (cc h)

pub term_stands : (a : Archive) {new : List ℕ} (p : Pair) (at : ℕ) (old : List ℕ) → at ≤ length old → new ≡ put old at (term_bytes a p)
    → TermAt new at (plain_term (term_of (problem_in a) p)) (drop (at + length (term_bytes a p)) old)
unfolding term_bytes
term_stands a p at old h e = record {
  bytes = ap (drop at) e ∙ put_drop old at (encoded_term (term_of (problem_in a) p)) h;
  fits = owned_fits a p (term_of (problem_in a) p) (term_owned (problem_in a) p) (words_bounded a p);
}
