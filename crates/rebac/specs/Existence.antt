-- "A rule list exists", as a statement over every list, and the answers for a matter.
use Rattle.std.specs.Prelude.{◌≡◌, Bool, ℕ, ◌≤◌, length, List, map}
use mathlib.Core.List.{Memᴰ}
use Rattle.lists.specs.Lists.{all_of, any_of}
use Rattle.rebac.specs.Matter.{Matter, Pair, pairs_of, permitted}
use Rattle.rebac.specs.Words.{Word, words_up_to, IsWord}
use Rattle.rebac.specs.Paths.{Graph, HasPath, has, path_count}
use Rattle.rebac.specs.Symbols.{alphabet, enlarged, cap_of}
use Rattle.rebac.specs.Rules.{Problem, Term, RuleList}
use Rattle.rebac.specs.Verdict.{Verdict, verdict}
use Rattle.rebac.specs.Mining.{mine}

-- the words of a matter, in word order
unfoldable pub matter_words : Matter → List Word
matter_words M = words_up_to (alphabet M.language M.labels) M.longest

-- a conversion over an enlarged graph: the score of a pair at a word is the number of its paths, cut at the cap
unfoldable pub problem_over : Graph ℕ → ℕ → List Word → (Pair → Bool) → Problem Pair Word
problem_over g cap words permit = record { pairs = pairs_of g.parties; permitted = permit; words = words; score = path_count g cap }

unfoldable pub problem_of : Matter → Problem Pair Word
problem_of M = problem_over (enlarged M) (cap_of M.language) (matter_words M) (permitted M)

-- the score of a pair at a word. In languages 0 to 3: 1 where the pair has the word, else 0 (proofs/Conversion, `score_one`)
abbrev pub score : Matter → Pair → Word → ℕ
score M p w = path_count (enlarged M) (cap_of M.language) p w

-- 01's calls "Verdict" and "Mining", apart from bytes
unfoldable pub verdict_of : Matter → Verdict Pair
verdict_of M = verdict (problem_of M)

unfoldable pub mined_list : Matter → RuleList Word
mined_list M = mine (problem_of M)

-- The same in 01's plain words, where words are not counted: a rule list is terms, a term is words.
-- A word of the matter: 1 to D symbols of its language
abbrev pub MatterWord : Matter → Word → Type 0
MatterWord M w = IsWord (alphabet M.language M.labels) M.longest w

-- 01: "A pair has a word when some path from its first to its second party has that word, of length at most D"
abbrev pub HasWord : Matter → Pair → Word → Type 0
HasWord M p w = MatterWord M w × HasPath (enlarged M) p w

-- 01: "a pair meets it when it has all of them"
unfoldable pub has_all : Matter → Pair → List Word → Bool
has_all M p t = all_of (has (enlarged M) p) t

-- Definition 3.7; 01: "permits a pair that meets one or more"
unfoldable pub permits_pair : Matter → List (List Word) → Pair → Bool
permits_pair M r p = any_of (has_all M p) r

-- 01: "Demand 3 is about every such list with words of at most D symbols, whatever its numbers of terms and words, even where
-- no list bytes could hold it."
-- A word may be empty, or have symbols that are not the language's; no pair has one that is or does.
pub record ConvertsAny (M : Matter) (r : List (List Word)) : Type 0 where
  pub full : (t : List Word) → Memᴰ t r → 1 ≤ length t
  pub short : (t : List Word) → Memᴰ t r → (w : Word) → Memᴰ w t → length w ≤ M.longest
  pub exact : (p : Pair) → Memᴰ p (pairs_of M.parties) → permits_pair M r p ≡ permitted M p

-- and its words are the matter's, as the mined list's are
pub record Converts (M : Matter) (r : List (List Word)) : Type 0 where
  pub any : ConvertsAny M r
  pub fits : (t : List Word) → Memᴰ t r → (w : Word) → Memᴰ w t → MatterWord M w

-- the words of a list, without the counts
abbrev pub plain_term : Term Word → List Word
plain_term t = map (λ i. i.word) t

abbrev pub plain_list : RuleList Word → List (List Word)
plain_list r = map plain_term r
