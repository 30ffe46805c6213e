-- The first candidate that is left is the least path's, and the target ends it (LastLaws).
use Rattle.std.proofs.Common.{refl, ◌∙◌}
use Rattle.search.proofs.LastLaws.{two_fails, two_leads}
use Rattle.search.proofs.search.Search.two_steps.Goals as goal

pub returns-in_default : goal.returns-in_default
returns-in_default c =
    let p = c.requires in
    two_fails c.args.self.now _ _ p.two p.unvisited c.args.p.u (rw (← c.with-barred.ensures) c.in_default.ensures)

pub returns : goal.returns
returns c =
    let p = c.requires in
    two_leads c.args.self.now _ _ p.two p.unvisited c.args.p.u (rw (← c.with-barred.ensures) c.in-Some.ensures) _
    (c.with-visited.ensures ∙ rw c.with.ensures) refl
