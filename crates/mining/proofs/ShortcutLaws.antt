-- Where a first lacked word is not sought word by word: a map shows that none is lacked, and classes tell the first of the longer ones.
use Rattle.std.proofs.Common.{◌≡◌, refl, sym, ap, ◌∙◌, List, ℕ, ◌-◌, ◌≤◌, ◌<◌, arith, length}
use Rattle.std.proofs.Math.Option.{none}
use Rattle.rebac.specs.Matter.{Matter, Pair}
use Rattle.rebac.specs.Paths.{Graph}
use Rattle.rebac.specs.Symbols.{alphabet, enlarged, cap_of}
use Rattle.rebac.specs.promises.Telling.{first_telling_longer}
use Rattle.rebac.proofs.LackedLaws.{none_lacked, first_lacked_beyond}
use Rattle.graph.specs.declared.archive.Archive.{Archive}
use Rattle.graph.specs.promises.Archive.{Shows}
use Rattle.search.specs.promises.PairSearch.{graph_of}
use Rattle.maps.specs.promises.Maps.{Covered}
use Rattle.paths.proofs.CallLaws.{shown_graph}
use Rattle.mining.specs.promises.Kept.{first_lacked, HadTo}

module _ (a : Archive) {M : Matter} (S : Shows M a) (p q : Pair) where
  pub covered_none : Covered a.graph.parties a.graph.table p q → first_lacked M p q ≡ none
  covered_none c = none_lacked M p q (λ w. rw (shown_graph M a S) at (c (cap_of M.language) w))

  pub told_lacked : (w : List ℕ) (k : ℕ) → k < length w → k ≤ a.words.longest → HadTo M p q w
      → first_telling_longer (graph_of a.graph) p q (alphabet M.language M.labels) k (a.words.longest - k)
      ≡ first_lacked M p q
  told_lacked w k h l had =
      let al : List ℕ = alphabet M.language M.labels in
      ap (λ (g : Graph ℕ). first_telling_longer g p q al k (a.words.longest - k)) (shown_graph M a S)
      ∙ ap (λ (d : ℕ). first_telling_longer (enlarged M) p q al k (d - k)) S.longest
      ∙ sym (first_lacked_beyond M refl p q k w h (omega (arith, l, S.longest)) had)
