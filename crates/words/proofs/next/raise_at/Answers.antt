-- One more is put at the place, and the search goes on from it; a symbol of 31 has none above it.
use Rattle.std.proofs.Common.{◌≡◌, suc, ◌+◌, ◌≤◌, get_or, arith, add-one}
use Rattle.words.proofs.NextLaws.{symbol_places, place_at, complete_high}
use Rattle.words.proofs.next.raise_at.Goals as goal

pub returns-then-s-lt-LAST_SYMBOL : goal.returns-then-s-lt-LAST_SYMBOL
returns-then-s-lt-LAST_SYMBOL c al fixed floor k A p l =
    let w = c.args.w.word in
    let s = get_or w.symbols c.args.at 0 in
    let put = c.put.ensures in
    let z : s + 1 ≡ suc floor = rw (place_at w fixed floor k p l c.requires, add-one) in
    rw (← z) (c.complete_from.ensures al fixed (s + 1) k A (symbol_places w (s + 1) put.len put.symbols fixed floor k p l c.requires) l)

pub returns : goal.returns
returns c al fixed floor k A p l =
    let high : 32 ≤ suc floor = omega (arith, place_at c.args.w.word fixed floor k p l c.requires, c.if-s-lt-LAST_SYMBOL.false) in
    complete_high c.args.q.now A fixed (suc floor) k high
