-- A word of n symbols or more is had by no pair; else one path is enough.
use Rattle.std.proofs.Common.{ℕ, sym, ◌∙◌, arith, le-ltb, lt-ltb}
use Rattle.std.proofs.Math.Decide.{ℕ_discrete}
use Rattle.std.proofs.Math.Logic.{by_cases}
use Rattle.word_test.proofs.TestLaws.{test_no, test_yes, test_long}
use Rattle.word_test.proofs.test.has_word.Goals as goal

pub returns-then-q-w : goal.returns-then-q-w
returns-then-q-w c = sym (test_long c.args.q.now c.args.w c.if-q-w.true)

pub returns : goal.returns
returns c =
    let q = c.args.q.now in
    let w = c.args.w in
    let count = c.search_back-f.ensures.count in
    let k : ℕ = c.search_back-f.result.count in
    by_cases (ℕ_discrete k 0)
    (λ z. le-ltb 0 k (omega (arith, z)) ∙ sym (test_no q w count z))
    (λ z. lt-ltb 0 k (omega (arith, z)) ∙ sym (test_yes q w count z))
