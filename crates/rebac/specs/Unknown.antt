-- What is said of relations that nobody knows (02, Ticket 5).
use Rattle.std.specs.Prelude.{◌≡◌, Bool, true, false, not, ◌&&◌, ℕ, zero, suc, ◌+◌, ◌*◌, ◌/◌, ◌%◌}
use Rattle.rebac.specs.Matter.{Matter}
use Rattle.rebac.specs.Paths.{Graph}
use Rattle.rebac.specs.Symbols.{apart, in_language, holds}

-- 02, Ticket 5: "neither the plain nor the absent symbol holds, nor the two inverse ones the other way round"
pub record Unsaid (M : Matter) (u v label : ℕ) : Type 0 where
  pub plain : holds M u v (4 * label + 0) ≡ false
  pub absent : holds M u v (4 * label + 1) ≡ false
  pub inverse : holds M v u (4 * label + 2) ≡ false
  pub absent_inverse : holds M v u (4 * label + 3) ≡ false

-- the same four symbols, those that speak of (u, v, label), hold in both matters alike
pub record SaidAlike (M N : Matter) (u v label : ℕ) : Type 0 where
  pub plain : holds M u v (4 * label + 0) ≡ holds N u v (4 * label + 0)
  pub absent : holds M u v (4 * label + 1) ≡ holds N u v (4 * label + 1)
  pub inverse : holds M v u (4 * label + 2) ≡ holds N v u (4 * label + 2)
  pub absent_inverse : holds M v u (4 * label + 3) ≡ holds N v u (4 * label + 3)

-- the kinds as in 01 before 02, Ticket 5: an edge is there or it is absent
unfoldable pub listed_kind : Matter → ℕ → ℕ → ℕ → ℕ → Bool
listed_kind M u v label zero = M.edge u v label
listed_kind M u v label (suc zero) = not (M.edge u v label)
listed_kind M u v label (suc (suc zero)) = M.edge v u label
listed_kind M u v label (suc (suc (suc k))) = not (M.edge v u label)

-- the symbols that hold by them, and the graph that they are
unfoldable pub listed_holds : Matter → ℕ → ℕ → ℕ → Bool
listed_holds M u v s = apart M u v && (in_language M s && listed_kind M u v (s / 4) (s % 4))

abbrev pub listed_graph : Matter → Graph ℕ
listed_graph M = record { parties = M.parties; edge = listed_holds M }

-- as far as symbols go, the second matter differs from the first only in that more relations may be unknown
pub record SameButUnknown (M N : Matter) : Type 0 where
  pub parties : M.parties ≡ N.parties
  pub labels : M.labels ≡ N.labels
  pub language : M.language ≡ N.language
  pub edges : (u v label : ℕ) → M.edge u v label ≡ N.edge u v label
  pub more : (u v label : ℕ) → M.unknown u v label ≡ true → N.unknown u v label ≡ true
