-- Where no word of as many classes tells, none of symbols does (ClassLaws); else the words one after another.
use Rattle.search.specs.promises.PairSearch.{graph_of, table_graph}
use Rattle.words.proofs.NextLaws.{word_not}
use Rattle.letters.specs.promises.Writing.{ClassesMade}
use Rattle.classes.specs.promises.Prefixes.{own_pair, other_pair}
use Rattle.classes.proofs.ClassLaws.{length_none}
use Rattle.classes.proofs.by_words.telling_of_length.Goals as goal

pub returns-then-is_none : goal.returns-then-is_none
returns-then-is_none c al A =
    let q = c.args.q.now in
    let l = c.in-Some.l.now in
    let k : ClassesMade q.graph.table l = rw c.in-Some.is at c.requires.classes in
    let over = c.new-classes.ensures in
    let found = rw (over.parties, over.table, over.first, over.second, over.u, over.v, over.base, k.alone) at c.first_telling.ensures in
    let none = word_not _ c.first_telling.result found c.if-is_none.ensures in
    length_none (graph_of q.graph) (table_graph q.graph.parties l.graph) l.span.end (k.in_classes q.graph.parties q.graph.within)
    (own_pair q) (other_pair q) q.is_pair.first q.other.first al c.args.len none
