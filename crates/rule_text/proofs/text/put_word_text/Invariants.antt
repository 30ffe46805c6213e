-- Invariant: the text of the first i symbols was written up to `end`, with three bytes of room for each that is left.
use Rattle.std.proofs.Common.{length, drop, ◌≡◌, List, ℕ, ◌+◌, ◌*◌, ◌-◌, ◌≤◌}
use Rattle.rule_text.proofs.TextLaws.{symbols_text, TextSoFar}
use Rattle.rule_text.proofs.text.put_word_text.Given as goal

-- the slice after the text of i symbols
pub record TextTo (out₀ : List ℕ) (at : ℕ) (word out : List ℕ) (end i : ℕ) : Type 0 where
  pub kept : length out ≡ length out₀
  pub room : end + 3 * (length word - i) ≤ length out
  pub text : TextSoFar symbols_text word (drop i word) out₀ out at end

abbrev pub invariant-loop-i : goal.invariant-loop-i
invariant-loop-i l = TextTo l.initial.out l.at l.word l.out l.end l.i
