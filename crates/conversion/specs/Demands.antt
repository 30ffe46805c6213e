-- What demand 3 says of the calls' replies, in 01's words: words by their paths, pairs by pair order.
use Rattle.std.specs.Prelude.{ℕ, ◌+◌, ◌*◌, ◌<◌, ◌≡◌, ◌⊎◌, true, false, ◌&&◌, List, ◌∷◌, ◌++◌, length, drop, get_or, Some, Ok}
use Rattle.limits.specs.Limits.{most_parties}
use Rattle.rebac.specs.Matter.{Matter, Pair, pair, IsPair, pair_before, permitted}
use Rattle.rebac.specs.Words.{Word, lex_less}
use Rattle.rebac.specs.Paths.{Path}
use Rattle.rebac.specs.Symbols.{enlarged}
use Rattle.rebac.specs.Existence.{HasWord}
use Rattle.graph.specs.FileMatter.{matter_of}
use Rattle.graph.specs.Legal.{is_pair}
use Rattle.search.specs.Word.{symbols_in}
use Rattle.paths.specs.Calls.{path_call, writes, word_reply, word_output}
use Rattle.search.specs.declared.word.Word.{Word as WordValue}
use Rattle.rules.specs.Permit.{permit_call, yes_or_no}
use Rattle.conversion.specs.Calls.{bytes_of, table_of, one_if, mining_call, mining_reply, mining_scratch}
use Rattle.conversion.specs.Calls.{writes as writesList, mining_output as listOutput}

abbrev pub Wordless : Matter → Pair → Type 0
Wordless M p = (w : Word) → HasWord M p w → ⊥

-- "A rival of a pair with words is an unpermitted pair that has all of them."
pub record IsRival (M : Matter) (p q : Pair) : Type 0 where
  pub words : (w : Word) × HasWord M p w
  pub is_pair : IsPair M.parties q
  pub unpermitted : permitted M q ≡ false
  pub all : (w : Word) → HasWord M p w → HasWord M q w

-- a "permitted pair .. that has no word or has a rival"
pub record Hinders (M : Matter) (p : Pair) : Type 0 where
  pub permit : permitted M p ≡ true
  pub why : Wordless M p ⊎ ((q : Pair) × IsRival M p q)

-- the first pair "in pair order" with a property
pub record FirstPair (M : Matter) (A : Pair → Type 0) (p : Pair) : Type 0 where
  pub is_pair : IsPair M.parties p
  pub here : A p
  pub first : (x : Pair) → IsPair M.parties x → A x → (p ≡ x) ⊎ (pair_before p x ≡ true)

module _ (f : List ℕ) where
  -- the file's matter
  abbrev M : Matter
  M = matter_of f

  -- Path: "It shows a path when it writes that one, from the given pair's first party to its second with the given word,
  -- and returns that number, the word's length plus one."
  pub record ShowsPath (p : Pair) (w : WordValue) (output : List ℕ) : Type 0 where
    -- the parties after the first
    pub via : List ℕ
    pub path : Path (enlarged M) p (symbols_in w) via
    -- "of several paths, the one with the lower party at the first difference"
    pub least : (other : List ℕ) → Path (enlarged M) p (symbols_in w) other
        → (p.first ∷ via ≡ p.first ∷ other) ⊎ (lex_less (p.first ∷ via) (p.first ∷ other) ≡ true)
    pub answer : path_call f p.first p.second w (length output) ≡ writes (p.first ∷ via)
    pub reply : word_reply (path_call f p.first p.second w (length output)) ≡ Ok (Some (w.len + 1))
    pub written : word_output (path_call f p.first p.second w (length output)) output ≡ (p.first ∷ via) ++ drop (w.len + 1) output

  -- mining for a convertible file whose verdict gives the length k, lent scratch and output that are long enough
  pub record MinesList (k : ℕ) (scratch output : List ℕ) : Type 0 where
    pub answer : mining_call f (length scratch) (length output) ≡ writesList (table_of M) (bytes_of M)
    pub reply : mining_reply (mining_call f (length scratch) (length output)) ≡ Ok k
    pub size : length (bytes_of M) ≡ k
    pub written : listOutput (mining_call f (length scratch) (length output)) output ≡ bytes_of M ++ drop k output
    -- permit on the list gives back the permit table
    pub permits : (a b : ℕ) → is_pair M.parties a b ≡ true
        → permit_call f (bytes_of M) a b ≡ yes_or_no (permitted M (pair a b))
    -- and so does scratch
    pub table : (a b : ℕ) → a < most_parties → b < most_parties
        → get_or (mining_scratch (mining_call f (length scratch) (length output)) scratch) (most_parties * a + b) 0
        ≡ one_if (is_pair M.parties a b && permitted M (pair a b))
