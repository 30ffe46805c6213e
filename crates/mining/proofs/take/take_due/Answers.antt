-- The outcome is that of building, and a term that stands in the list marks its pairs.
use Rattle.std.proofs.Common.{◌≡◌, ap, List, ℕ, ◌+◌, ◌≤◌, arith, length, drop, Ok}
use Rattle.rebac.specs.Matter.{Pair}
use Rattle.rebac.specs.Verdict.{judge}
use Rattle.rebac.specs.Mining.{term_of}
use Rattle.rebac.specs.Existence.{plain_term}
use Rattle.graph.specs.declared.archive.Archive.{Archive}
use Rattle.rule_bytes.specs.promises.Reading.{TermAt}
use Rattle.mining.specs.promises.Pairs.{pair_at}
use Rattle.mining.specs.promises.Building.{problem_in, term_bytes, OutcomeAs}
use Rattle.mining.specs.Values.{pair_in}
use Rattle.mining.proofs.MarkLaws.{marks_more}
use Rattle.mining.proofs.TakeLaws.{due_pair, term_outcome, term_stands}
use Rattle.mining.proofs.take.take_due.Goals as goal

-- the term stands where it was built
stands :
    (a : Archive) (p : Pair) (at : ℕ) (old new : List ℕ) (end : ℕ) → at ≤ length old
    → OutcomeAs a p at old new (judge (problem_in a) p) (Ok end)
    → TermAt new at (plain_term (term_of (problem_in a) p)) (drop (at + length (term_bytes a p)) old)
stands a p at old new end h b = term_stands a p at old h (term_outcome a p at old new (judge (problem_in a) p) end b).bytes

pub build_term-requires : goal.build_term-requires
build_term-requires c =
    let r = c.requires in
    rw c.at.ensures (record { is_pair = due_pair c.args.a.now r.list c.args.k r.due; room = r.room })

pub mark_term-requires : goal.mark_term-requires
mark_term-requires c =
    let a = c.args in
    let r = c.requires in
    let p : pair_in c.at.result ≡ pair_at a.k = ap pair_in c.at.ensures in
    let b = rw p at c.in_ok-end.ensures in
    (_, (_, stands a.a.now (pair_at a.k) a.at a.out.now _ _ (omega (arith, r.room)) b))

pub returns : goal.returns
returns c l m =
    let a = c.args in
    let r = c.requires in
    let p : pair_in c.at.result ≡ pair_at a.k = ap pair_in c.at.ensures in
    let b = rw p at c.in_ok-end.ensures in
    let t = stands a.a.now (pair_at a.k) a.at a.out.now _ _ (omega (arith, r.room)) b in
    (b, marks_more a.a.now (pair_at a.k) l a.marks c.mark_term.result m (c.mark_term.ensures _ _ t))
