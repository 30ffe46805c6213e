-- Each mask of the row is contained in that of the image row, so its symbols are too (masks, BitLaws).
use Rattle.std.proofs.Common.{rules, ◌≡◌, get_or, bit_and}
use Rattle.std.proofs.iter.runs.Sources.{ranges}
use Rattle.masks.proofs.BitLaws.{test_within}
use Rattle.maps.proofs.carry.Map.row_carried.Goals as goal

pub returns : goal.returns
returns c e v s h t =
    let m = c.args.self.now in
    let a = get_or c.args.row.now.masks v 0 in
    let b = get_or c.args.image.now.masks (get_or m.image v 0) 0 in
    let f : bit_and a b ≡ a = search (rules, ranges) in
    test_within a b s f t
