-- One path is yes, with the word's length; with none the depth is the length (TestLaws).
use Rattle.std.proofs.Common.{sym, arith}
use Rattle.word_test.proofs.TestLaws.{test_no, test_yes, length_no, length_yes}
use Rattle.word_test.proofs.test.word_test.Goals as goal

pub returns-then-f-eq0 : goal.returns-then-f-eq0
returns-then-f-eq0 c =
    let q = c.args.q.now in
    let w = c.args.w in
    let f = c.search_back-f.ensures in
    let no = test_no q w f.count c.if-f-eq0.true in
    record { yes = sym no; length = omega (arith, f.depth c.if-f-eq0.true, length_no q w no) }

pub returns : goal.returns
returns c =
    let q = c.args.q.now in
    let w = c.args.w in
    let yes = test_yes q w c.search_back-f.ensures.count c.if-f-eq0.false in
    record { yes = sym yes; length = sym (length_yes q w yes) }
