-- A search from the floor on that finds nothing shows that there is no such word; else the least symbol, and the rest.
use Rattle.std.proofs.Common.{ℕ, [], ◌∷◌, ◌++◌, not, sym, ap, ◌∙◌, replicate, append_assoc, length-append}
use Rattle.words.proofs.NextLaws.{found_floor, least_there, least_gone, least_is, complete_step, complete_none}
use Rattle.words.proofs.next.complete_from.Goals as goal

pub returns-then-is_err : goal.returns-then-is_err
returns-then-is_err c al fixed floor k A p l =
    let q = c.args.q.now in
    let found = found_floor q A c.args.w fixed floor k p l _ c.search.ensures in
    complete_none q A fixed floor k
    (least_gone q A fixed floor k (sym found ∙ c.is_err.ensures.negation ∙ ap not c.if-is_err.true))

pub returns : goal.returns
returns c al fixed floor k A p l =
    let q = c.args.q.now in
    let found = found_floor q A c.args.w fixed floor k p l _ c.search.ensures in
    let w = least_there q A fixed floor k (sym found ∙ c.is_err.ensures.negation ∙ ap not c.if-is_err.false) in
    let s : ℕ = w.0 in
    let places = c.least_symbol-t.ensures.least al fixed floor k s A p l w.1 ∙ sym (append_assoc fixed (s ∷ []) (replicate k 0)) in
    let leads = (least_is q A fixed floor k s w.1).finds in
    complete_step q A fixed floor k s w.1
    ∙ c.fill_from.ensures al (fixed ++ (s ∷ [])) k A places (length-append fixed (s ∷ []) ∙ rw l) leads
