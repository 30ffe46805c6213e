-- The other pair has every word up to `had`, so the first that it lacks is no shorter: it is the first telling word from there on.
use Rattle.std.proofs.Common.{◌≡◌, ◌-◌, ◌≤◌, arith}
use Rattle.rebac.specs.Matter.{Matter}
use Rattle.rebac.specs.Symbols.{alphabet}
use Rattle.rebac.specs.promises.Telling.{first_telling_longer}
use Rattle.graph.specs.promises.Archive.{Shows}
use Rattle.graph.proofs.ShownLaws.{shown_by}
use Rattle.search.specs.Word.{symbols_in}
use Rattle.search.specs.declared.word.ShortWord.{ShortWord}
use Rattle.search.specs.promises.PairSearch.{graph_of}
use Rattle.search.proofs.SearchLaws.{symbols_length, short_fits}
use Rattle.paths.proofs.CallLaws.{shown_alphabet}
use Rattle.mining.specs.Values.{pair_in}
use Rattle.mining.specs.declared.pairs.TwoPairs.{TwoPairs}
use Rattle.mining.specs.promises.Kept.{first_lacked, HadQuery}
use Rattle.mining.proofs.LackedLaws.{longest_in}
use Rattle.mining.proofs.ShortcutLaws.{told_lacked}
use Rattle.mining.proofs.lacked.lacked_by_classes.Goals as goal

told :
    (t : TwoPairs) (w : ShortWord) → HadQuery t w.word → 1 ≤ w.word.len → let a = t.own.archive.now in (M : Matter) → Shows M a →
    first_telling_longer (graph_of a.graph) (pair_in t.own.pair) (pair_in t.other) (alphabet M.language M.labels)
    (w.word.len - 1) (a.words.longest - (w.word.len - 1))
    ≡ first_lacked M (pair_in t.own.pair) (pair_in t.other)
told t w h more M S =
    let l = symbols_length w.word (short_fits w.short) in
    told_lacked t.own.archive.now S (pair_in t.own.pair) (pair_in t.other) (symbols_in w.word) (w.word.len - 1)
    (omega (arith, l, more)) (omega (arith, h.within)) (h.had M S)

pub first_telling_word-requires : goal.first_telling_word-requires
first_telling_word-requires c =
    let a = c.args.t.now.own.archive.now in
    let m = shown_by a in
    let al = alphabet m.0.language m.0.labels in
    record { long = longest_in a; alphabet = (al, rw c.both.ensures.graph (shown_alphabet m.0 a m.1)) }

pub returns : goal.returns
returns c M S =
    let t = c.args.t.now in
    let b = c.both.ensures in
    let r = rw (b.graph, b.own.0, b.own.1, b.other.0, b.other.1) at c.first_telling_word.ensures in
    rw (← told t c.args.had c.requires.0 c.requires.1 M S) (r _ (shown_alphabet M t.own.archive.now S))
