-- The target is visited and written at place 1; or no symbol of the pair's mask may stand at place 0.
use Rattle.std.proofs.Common.{[], ◌∷◌, sym, refl, ◌∙◌}
use Rattle.search.proofs.SearchLaws.{path_last}
use Rattle.search.proofs.PairSearchLaws.{search_one}
use Rattle.search.proofs.pair.PairIn.one_step.Goals as goal

pub returns-then-not-allows : goal.returns-then-not-allows
returns-then-not-allows c =
    search_one c.args.self.now c.args.form.now c.requires.one ∙ rw (sym c.allows.ensures ∙ c.if-not-allows.true)

pub returns : goal.returns
returns c =
    let q = c.args.self.now in (
      q.second ∷ [],
      (
        search_one q c.args.form.now c.requires.one ∙ rw (sym c.allows.ensures ∙ c.if-not-allows.false),
        path_last 0 c.args.visited q.second _ c.with-visited.ensures refl refl,
      ),
    )
