-- What it means that numbers and masks stand for a matter.
use Rattle.std.specs.Prelude.{ℕ, ◌≡◌, not, ◌&&◌, ◌+◌, ◌*◌}
use Rattle.masks.specs.promises.Mask.{test_bit}
use Rattle.masks.specs.promises.Table.{mask_in, mask_at}
use Rattle.masks.specs.declared.Row.{Row}
use Rattle.rebac.specs.Matter.{Matter}
use Rattle.rebac.specs.Symbols.{holds}
use Rattle.search.specs.declared.graph.Graph.{Graph}
use Rattle.graph.specs.declared.words.WordRule.{WordRule}
use Rattle.graph.specs.FileMatter.{Limits}

-- the matter's numbers, at every u, v and symbol the enlarged graph, and the permit table
pub record ShowsAs (M : Matter) (g : Graph) (rule : WordRule) (row : Row) : Type 0 where
  pub limits : Limits M
  pub parties : g.parties ≡ M.parties
  pub labels : rule.labels ≡ M.labels
  pub language : rule.language ≡ M.language
  pub longest : rule.longest ≡ M.longest
  pub graph : (u v s : ℕ) → test_bit (mask_at g.table u v) s ≡ holds M u v s
  pub permits : (u v : ℕ) → test_bit (mask_in row u) v ≡ M.permit u v

-- the matter that numbers and masks say: symbol 4 * label holds where there is a relation, and neither that nor 4 * label + 1 where it
-- is unknown (in languages that have no absent symbol, nothing tells the two apart, and no symbol depends on it)
abbrev pub matter_in : Graph → WordRule → Row → Matter
matter_in g rule row = record {
  parties = g.parties;
  labels = rule.labels;
  language = rule.language;
  longest = rule.longest;
  edge = λ u v label. test_bit (mask_at g.table u v) (4 * label);
  unknown = λ u v label. not (test_bit (mask_at g.table u v) (4 * label)) && not (test_bit (mask_at g.table u v) (4 * label + 1));
  permit = λ u v. test_bit (mask_in row u) v;
}

-- numbers and masks that stand for some matter: for the one they say
abbrev pub Shown : Graph → WordRule → Row → Type 0
Shown g rule row = ShowsAs (matter_in g rule row) g rule row
