-- The tests of pairs and symbols say what 01's sentences do. Assumes nothing.
use Rattle.std.proofs.Common.{◌≡◌, refl, true, not, ◌&&◌, ℕ, eqb, ltb, lt-ltb, ltb-true, ne_eqb}
use Rattle.std.proofs.lemmas.Bool.{eqb-false, not-true}
use Rattle.lists.proofs.Cases.{and_left, and_right}
use Rattle.rebac.specs.Matter.{Matter, pair, IsPair}
use Rattle.rebac.specs.Symbols.{in_language}
use Rattle.graph.specs.Legal.{is_pair, legal_symbol}

-- what passes the test of a pair is one
pub pair_of : (n a b : ℕ) → is_pair n a b ≡ true → IsPair n (pair a b)
unfolding is_pair
pair_of n a b e =
    let r = and_right (ltb a n) (ltb b n && not (eqb a b)) e in
    record {
      first = ltb-true a n (and_left (ltb a n) _ e);
      second = ltb-true b n (and_left (ltb b n) _ r);
      different = eqb-false a b (not-true (eqb a b) (and_right (ltb b n) _ r));
    }

-- and a pair passes it
pub pair_is : (n a b : ℕ) → IsPair n (pair a b) → is_pair n a b ≡ true
unfolding is_pair
pair_is n a b h = rw (lt-ltb a n h.first, lt-ltb b n h.second, ne_eqb a b h.different) refl

-- a legal symbol is one of the matter's language
pub legal_symbol_lem : (M : Matter) (s : ℕ) → legal_symbol M.labels M.language s ≡ in_language M s
unfolding legal_symbol in_language
legal_symbol_lem M s = refl
