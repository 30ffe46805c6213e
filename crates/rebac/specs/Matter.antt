-- The matter of a house file: what its bytes say, apart from the bytes.
use Rattle.std.specs.Prelude.{◌≡◌, Bool, not, ◌&&◌, ◌||◌, List, map, ℕ, ◌<◌, eqb, ltb}
use Rattle.lists.specs.Lists.{filter_by, flat_map, range}

-- 000, Definitions 3.1 to 3.3. 01's terms: a party is a vertex (a user), a permit an authorization, a relation an edge.
pub record Matter : Type 0 where
  -- n: the parties are 0 to n - 1
  pub parties : ℕ
  -- L: the labels (relation type specifiers) are 0 to L - 1
  pub labels : ℕ
  -- 0 to 3: which of RREP-0 to RREP-3
  pub language : ℕ
  -- D: the greatest length of a word
  pub longest : ℕ
  -- (u, v, label) is an edge of E
  pub edge : ℕ → ℕ → ℕ → Bool
  -- nobody knows whether (u, v, label) is an edge (02, Ticket 5)
  pub unknown : ℕ → ℕ → ℕ → Bool
  -- (u, v) is in AUTH
  pub permit : ℕ → ℕ → Bool

-- 01: "A pair is an ordered pair of two different parties."
pub record Pair : Type 0 where
  pub first : ℕ
  pub second : ℕ

abbrev pub pair : ℕ → ℕ → Pair
pair a b = record { first = a; second = b }

pub record IsPair (n : ℕ) (p : Pair) : Type 0 where
  pub first : p.first < n
  pub second : p.second < n
  pub different : p.first ≡ p.second → ⊥

-- 01: "Pair order: by first party, then by second."
abbrev pub pair_before : Pair → Pair → Bool
pair_before p q = ltb p.first q.first || (eqb p.first q.first && ltb p.second q.second)

-- every pair of n parties, in pair order
unfoldable pub pairs_of : ℕ → List Pair
pairs_of n = flat_map (λ a. map (pair a) (filter_by (λ b. not (eqb a b)) (range n))) (range n)

-- 01: "A permitted pair is in the table; every other pair is unpermitted."
unfoldable pub permitted : Matter → Pair → Bool
permitted M p = M.permit p.first p.second
