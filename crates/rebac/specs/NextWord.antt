-- The words of a pair one after another.
use Rattle.std.specs.Prelude.{List}
use Rattle.std.proofs.Math.Option.{Option}
use Rattle.lists.specs.Lists.{first_by}
use Rattle.rebac.specs.Matter.{Matter, Pair}
use Rattle.rebac.specs.Words.{Word, before}
use Rattle.rebac.specs.Verdict.{words_of}
use Rattle.rebac.specs.Existence.{problem_of}

-- the words of a pair of the matter, in word order
unfoldable pub pair_words : Matter → Pair → List Word
pair_words M p = words_of (problem_of M) p

-- 01: "the pair's first word after it in word order .. The empty word stands before all."
unfoldable pub next_word : Matter → Pair → Word → Option Word
next_word M p w = first_by (before w) (pair_words M p)
