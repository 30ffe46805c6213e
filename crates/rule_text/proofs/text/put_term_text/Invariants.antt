-- Invariant: the text of the words read was written up to `end`, and those ahead are the rest.
use Rattle.std.proofs.Common.{◌≡◌, List, ℕ, length}
use Rattle.rule_bytes.specs.promises.Reading.{TermAt}
use Rattle.rule_text.proofs.TextLaws.{TermTextSoFar}
use Rattle.rule_text.proofs.text.put_term_text.Given as goal

abbrev pub invariant-loop-w : goal.invariant-loop-w
invariant-loop-w l = record {
  size : length l.out ≡ length l.initial.out;
  list : l.words.list.now ≡ l.list;
  text : (t : List (List ℕ)) (s : List ℕ) → TermAt l.list l.at t s → TermTextSoFar l.words t s l.initial.out l.out l.to l.end;
}
