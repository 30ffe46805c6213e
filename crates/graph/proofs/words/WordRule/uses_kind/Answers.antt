-- Each language has its law.
use Rattle.std.proofs.Common.{◌≡◌, arith}
use Rattle.graph.proofs.SymbolLaws.{kinds_0, kinds_1, kinds_2, kinds_3}
use Rattle.graph.proofs.words.WordRule.uses_kind.Goals as goal

pub returns-in-0 : goal.returns-in-0
returns-in-0 c = rw c.in-0.is (kinds_0 _ c.requires)

pub returns-in-1 : goal.returns-in-1
returns-in-1 c = rw c.in-1.is (kinds_1 _ c.requires)

pub returns-in-2 : goal.returns-in-2
returns-in-2 c = rw c.in-2.is (kinds_2 _ c.requires)

pub returns-in_default : goal.returns-in_default
returns-in_default c = let e : c.args.self.language ≡ 3 = omega arith in rw e (kinds_3 _ c.requires)
