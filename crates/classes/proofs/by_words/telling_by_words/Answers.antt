use Rattle.std.specs.Prelude.{Some, Option as Maybe}
use Rattle.std.proofs.Common.{◌≡◌, ℕ, ◌-◌, suc, [], replicate, refl, sym, ap, ◌∙◌, subst, arith}
use Rattle.search.specs.Word.{symbols_in}
use Rattle.search.specs.promises.PairSearch.{graph_of}
use Rattle.search.specs.declared.pair.TwoPairsIn.{TwoPairsIn}
use Rattle.search.specs.declared.word.ShortWord.{ShortWord}
use Rattle.classes.specs.promises.Prefixes.{own_pair, other_pair}
use Rattle.classes.proofs.ByWordsLaws.{PassTurn, NoneBefore, pass_first, pass_next, words_fall}
use Rattle.classes.proofs.ByWordsLaws.{none_tells, tells_here, tells_by}
use Rattle.classes.proofs.by_words.telling_by_words.Goals as goal

-- the word in hand
held : (q : TwoPairsIn) (len : ℕ) {r : Maybe ShortWord} {w : ShortWord} → r ≡ Some w
    → PassTurn (graph_of q.graph) (own_pair q) (other_pair q) len r
    → NoneBefore (graph_of q.graph) (own_pair q) (other_pair q) len (symbols_in w.word)
held q len e t = rw e at t

pub loop-next-init : goal.loop-next-init
loop-next-init c =
    let q = c.args.q.now in
    let A = c.requires.alphabet in
    let k : ℕ = c.args.len - 1 in
    let e : suc k ≡ c.args.len = omega (arith, c.requires.some) in
    let zeros = c.zeros.ensures.symbols ∙ ap (λ (j : ℕ). replicate j 0) (sym e) in
    let r = c.complete_from-next in
    let own = c.own-own.ensures in
    let least = rw (own.graph, own.first, own.second) at r.ensures in
    subst (λ j. PassTurn (graph_of q.graph) (own_pair q) (other_pair q) j r.result) e
    (pass_first _ _ _ k A.0 A.1.listed A.1.ascending r.result (least A.0 [] 0 k A.1 zeros refl))

pub returns-then-not-has_word : goal.returns-then-not-has_word
returns-then-not-has_word c al A =
    let i = held c.args.q.now c.args.len c.in-Some.is c.loop-next.invariant in
    let other = c.other-other.ensures in
    let has = rw (other.graph, other.first, other.second) at c.has_word.ensures in
    tells_here _ _ _ _ al A.listed A.ascending _ i (tells_by _ _ _ _ i (sym has ∙ c.if-not-has_word.true))

pub loop-next-smaller : goal.loop-next-smaller
loop-next-smaller c =
    let i = held c.args.q.now c.args.len c.in-Some.is c.loop-next.invariant in
    let A = c.requires.alphabet in
    let own = c.own-own.ensures in
    let next = rw (own.graph, own.first, own.second) at c.next_same_length-next.ensures in
    rw c.in-Some.is
    (words_fall _ _ _ _ A.0 A.1.listed A.1.ascending A.1.below _ i c.next_same_length-next.result (next A.0 A.1))

pub loop-next-preserved : goal.loop-next-preserved
loop-next-preserved c =
    let i = held c.args.q.now c.args.len c.in-Some.is c.loop-next.invariant in
    let A = c.requires.alphabet in
    let own = c.own-own.ensures in
    let other = c.other-other.ensures in
    let has = rw (other.graph, other.first, other.second) at c.has_word.ensures in
    let next = rw (own.graph, own.first, own.second) at c.next_same_length-next.ensures in
    pass_next _ _ _ _ A.0 A.1.listed A.1.ascending _ i (tells_by _ _ _ _ i (sym has ∙ c.if-not-has_word.false))
    c.next_same_length-next.result (next A.0 A.1)

pub returns : goal.returns
returns c al A = none_tells _ _ _ _ al (rw c.in_default.is at c.loop-next.invariant)
