-- The word is the term's last one, and the count and the end are written anew.
use Rattle.std.proofs.Common.{sym, refl, arith}
use Rattle.mining.proofs.KeptLaws.{kept_room, kept_more}
use Rattle.mining.proofs.kept.Kept.keep.Goals as goal

pub add_word-requires : goal.add_word-requires
add_word-requires c =
    let r = c.requires in
    let w = c.args.w in
    kept_room r.kept.1.1.1 w.word w.short r.more

pub returns : goal.returns
returns c a p words K next =
    let w = c.args.w in
    let e = c.add_word.ensures c.args.self.now.list words (sym K.number) (omega (arith, K.ends)) (sym K.stands) refl in
    kept_more K w.word w.short c.requires.more e next
