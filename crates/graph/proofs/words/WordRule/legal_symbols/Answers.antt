-- `all` over the symbols in order.
use Rattle.std.proofs.Common.{rules, tests, ◌∙◌}
use Rattle.std.proofs.lemmas.Iterator.{YieldsList-from_slice}
use Rattle.std.proofs.lemmas.Iterator.Search.{all_from_yields_List}
use Rattle.graph.specs.Legal.{legal_symbol}
use Rattle.lists.proofs.ListLaws.{all_is}
use Rattle.graph.proofs.words.WordRule.legal_symbols.Goals as goal

pub returns : goal.returns
returns c =
    let legal = legal_symbol c.args.self.labels c.args.self.language in
    let each = YieldsList-from_slice c.args.symbols.now cc in
    all_from_yields_List legal _ _ c.all.result c.all.ensures.ran each (λ x b q k. search (rules, tests))
    ∙ all_is legal c.args.symbols.now
