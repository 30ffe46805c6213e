-- The search along the word with the symbol fixed is a search for a word of that form (NextLaws).
use Rattle.std.proofs.Common.{sym, ◌∙◌}
use Rattle.words.proofs.NextLaws.{found_fixed, symbol_places}
use Rattle.words.proofs.next.with_symbol.Goals as goal

pub returns-then-is_ok : goal.returns-then-is_ok
returns-then-is_ok c =
    let put = c.put-word.ensures in (
      put.len,
      λ al fixed floor k A p l.
          let places = symbol_places c.args.w.word c.args.s put.len put.symbols fixed floor k p l c.requires.place in
          let found = found_fixed c.args.q.now A c.put-word.result fixed c.args.s k places l _ c.search.ensures in
          (places, sym found ∙ sym c.is_ok.ensures.value ∙ c.if-is_ok.true),
    )

pub returns-else-is_ok : goal.returns-else-is_ok
returns-else-is_ok c = (
  tt,
  λ al fixed floor k A p l.
      let put = c.put-word.ensures in
      let places = symbol_places c.args.w.word c.args.s put.len put.symbols fixed floor k p l c.requires.place in
      let found = found_fixed c.args.q.now A c.put-word.result fixed c.args.s k places l _ c.search.ensures in
      sym found ∙ sym c.is_ok.ensures.value ∙ c.if-is_ok.false,
)
