-- The length byte, then its symbols.
use Rattle.std.proofs.Common.{◌≡◌, ◌+◌, ◌-◌, ◌≤◌, ◌∙◌, ap, ℕ, length, take, drop, length-drop, arith}
use Rattle.search.specs.declared.word.Word.{Word}
use Rattle.rule_bytes.specs.declared.read.WordRead.{WordRead}
use Rattle.rule_bytes.proofs.CopyLaws.{copied_word}
use Rattle.rule_bytes.proofs.read.read_word.Goals as goal

pub returns : goal.returns
returns c =
    let b = c.args.list.now in
    let from = c.args.at + 1 in
    let k : ℕ = c.from-len.result in
    let h : k ≤ length (drop from b) = omega (arith, length-drop from b, c.from-len.ensures, c.requires.end) in
    let e : from + k - from ≡ k = omega arith in
    let copied = c.copy_from_slice.ensures.after ∙ ap (λ (n : ℕ). take n (drop from b)) e in
    let w = copied_word (drop from b) c.copy_from_slice.new.self k h copied in
    rw (← c.from-len.ensures) (ap (λ (v : Word). let r : WordRead = record { word = v; next = from + k } in r) w)
