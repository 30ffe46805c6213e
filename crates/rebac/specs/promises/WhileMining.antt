-- The verdict as it comes out while the list is mined: fewer searches, the same answer (proofs/WhileMining).
use Rattle.std.specs.Prelude.{true, false, not, ◌&&◌, List, [], ◌∷◌, ◌++◌}
use Rattle.std.proofs.Math.Option.{Option, none, some}
use Rattle.lists.specs.Lists.{first_by}
use Rattle.rebac.specs.Rules.{Problem, Term, RuleList, meets, permits}
use Rattle.rebac.specs.Verdict.{Verdict, convertible, no_word, rivalled, words_of, ruling}
use Rattle.rebac.specs.Mining.{item_of, lacks, begin, term_of}

module _ {P W : Type 0} (S : Problem P W) where
  -- p's first rival, met while its term is built: the first unpermitted pair that meets the term so far and lacks no word of p
  unfoldable pub rival_from : P → Term W → List P → Option P
  rival_from p t [] = none
  rival_from p t (q ∷ qs) =
      elim (not (S.permitted q) && meets S q t) [
        | true ↦ elim (first_by (lacks S p q) (words_of S p)) [ none ↦ some q | some w ↦ rival_from p (t ++ (item_of S p w ∷ [])) qs ]
        | false ↦ rival_from p t qs
      ]

  unfoldable pub judge_from : P → Verdict P
  judge_from p = ruling S p (words_of S p) (rival_from p (begin S p (words_of S p)) S.pairs)

  -- the first of two verdicts that is not convertible
  abbrev pub passing : Verdict P → Verdict P → Verdict P
  passing convertible v = v
  passing (no_word p) v = no_word p
  passing (rivalled p q) v = rivalled p q

  -- only the pairs that get a term are judged
  unfoldable pub verdict_from : RuleList W → List P → Verdict P
  verdict_from r [] = convertible
  verdict_from r (p ∷ ps) =
      elim (S.permitted p && not (permits S r p)) [
        | true ↦ passing (judge_from p) (verdict_from (r ++ (term_of S p ∷ [])) ps)
        | false ↦ verdict_from r ps
      ]
