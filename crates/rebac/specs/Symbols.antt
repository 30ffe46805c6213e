-- The symbols that hold from one party to another: the enlarged graph (000: enhanced RG).
use Rattle.std.specs.Prelude.{Bool, not, ◌&&◌, List, [], ◌∷◌, map, ℕ, zero, suc, ◌+◌, ◌*◌, ◌/◌, ◌%◌, eqb, ltb}
use Rattle.lists.specs.Lists.{flat_map, member, range}
use Rattle.rebac.specs.Matter.{Matter}
use Rattle.rebac.specs.Paths.{Graph}

-- Definition 4.2, Table 2: language 0 uses kind 0; 1 kinds 0 and 1; 2 kinds 0 and 2; 3 all four
unfoldable pub kinds : ℕ → List ℕ
kinds zero = 0 ∷ []
kinds (suc zero) = 0 ∷ 1 ∷ []
kinds (suc (suc zero)) = 0 ∷ 2 ∷ []
kinds (suc (suc (suc k))) = 0 ∷ 1 ∷ 2 ∷ 3 ∷ []

-- Definition 4.3's E-bar, the edges that are not in E; 02, Ticket 5: "the absent edges leave out the unknown ones"
abbrev pub absent_edge : Matter → ℕ → ℕ → ℕ → Bool
absent_edge M u v label = not (M.edge u v label) && not (M.unknown u v label)

-- Definition 4.3, the edges E, E-bar, E-inverse and E-bar-inverse; 01: plain, absent, inverse, absent inverse
unfoldable pub kind_holds : Matter → ℕ → ℕ → ℕ → ℕ → Bool
kind_holds M u v label zero = M.edge u v label
kind_holds M u v label (suc zero) = absent_edge M u v label
kind_holds M u v label (suc (suc zero)) = M.edge v u label
kind_holds M u v label (suc (suc (suc k))) = absent_edge M v u label

-- two different parties of the matter
unfoldable pub apart : Matter → ℕ → ℕ → Bool
apart M u v = (ltb u M.parties && ltb v M.parties) && not (eqb u v)

-- 01: "A symbol is 4 × label + kind." One of the language, its label below L
unfoldable pub in_language : Matter → ℕ → Bool
in_language M s = ltb (s / 4) M.labels && member (s % 4) (kinds M.language)

-- Definition 4.3: (u, v, s) is an edge of the enlarged graph; 01: the symbol holds
unfoldable pub holds : Matter → ℕ → ℕ → ℕ → Bool
holds M u v s = apart M u v && (in_language M s && kind_holds M u v (s / 4) (s % 4))

-- the language's symbols, ascending
unfoldable pub alphabet : ℕ → ℕ → List ℕ
alphabet language labels = flat_map (λ l. map (λ k. 4 * l + k) (kinds language)) (range labels)

-- Definition 4.3: the enlarged graph
abbrev pub enlarged : Matter → Graph ℕ
enlarged M = record { parties = M.parties; edge = holds M }

-- the greatest count that an item may ask for: 1 where words are not counted
abbrev pub cap_of : ℕ → ℕ
cap_of language = 1
