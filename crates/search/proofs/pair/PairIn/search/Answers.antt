-- A word of no symbols and one of n or more have no path; any other is searched from place 0.
use Rattle.std.proofs.Common.{◌≡◌, List, [], not, get_or, length, ap, ◌∙◌, arith}
use Rattle.rebac.specs.promises.Forms.{Place}
use Rattle.search.specs.Word.{symbols_in}
use Rattle.search.specs.promises.Search.{form_of, place_at}
use Rattle.masks.specs.promises.Table.{no_row}
use Rattle.search.specs.promises.PairSearch.{search_pair}
use Rattle.search.proofs.SearchLaws.{symbols_length, short_fits}
use Rattle.search.proofs.WalkLaws.{never_steps}
use Rattle.search.proofs.PairSearchLaws.{search_empty, search_long, search_nowhere, form_length, unvisited}
use Rattle.search.proofs.pair.PairIn.search.Goals as goal

pub returns-then-len-eq0 : goal.returns-then-len-eq0
unfolding form_of
returns-then-len-eq0 c =
    let q = c.args.self.now in
    let f = c.args.form in
    let e : form_of f.fixed (symbols_in f.word.word) ≡ [] = rw c.if-len-eq0.true in
    ap (search_pair q.graph.parties q.graph.table q.first q.second) e
    ∙ search_empty q.graph.parties q.graph.table q.first q.second q.is_pair.different

pub returns-then-n-len : goal.returns-then-n-len
returns-then-n-len c =
    let q = c.args.self.now in
    let f = c.args.form in
    let xs : List Place = form_of f.fixed (symbols_in f.word.word) in
    let k : length xs ≡ f.word.word.len =
    form_length f.fixed (symbols_in f.word.word) ∙ symbols_length f.word.word (short_fits f.word.short) in
    search_long q.graph.parties q.graph.table q.first q.second q.is_pair.first xs (omega (arith, k, c.if-n-len.true))

pub returns-then-is_none : goal.returns-then-is_none
returns-then-is_none c =
    let q = c.args.self.now in
    let f = c.args.form in
    let row = get_or q.graph.table.rows q.first no_row in
    search_nowhere q f (omega (arith, c.if-len-eq0.false))
    (never_steps (place_at f.word.word f.fixed 0) row _ q.graph.parties c.first_step.result c.first_step.ensures
    (c.is_none.ensures ∙ ap not c.if-is_none.true))

pub two_steps-requires-clause-unvisited : goal.two_steps-requires-clause-unvisited
two_steps-requires-clause-unvisited c = unvisited c.args.self.now c.with-visited.ensures

pub candidate_search-requires : goal.candidate_search-requires
candidate_search-requires c =
    let q = c.args.self.now in
    record {
      places = omega (arith, c.if-len-eq0.false, c.if-len-eq1.false, c.if-len-eq2.false);
      start = q.is_pair.first;
      unvisited = unvisited q c.with-visited.ensures;
    }
