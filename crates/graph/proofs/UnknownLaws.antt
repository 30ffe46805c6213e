-- Relations that nobody knows, over accepted files: rebac's laws at the file's matter. Assumes nothing.
use Rattle.std.proofs.Common.{◌≡◌, true, List, ℕ, Ok}
use Rattle.rebac.specs.Matter.{permitted}
use Rattle.rebac.specs.Symbols.{enlarged, cap_of}
use Rattle.rebac.specs.Existence.{matter_words, problem_over, problem_of}
use Rattle.rebac.specs.Unknown.{Unsaid, listed_graph}
use Rattle.rebac.proofs.UnknownLaws.{unknown_unsaid, listed_graph_lem, listed_problem}
use Rattle.house_file.specs.Check.{check_of}
use Rattle.house_file.specs.Meaning.{is_unknown}
use Rattle.house_file.specs.Listed.{OnlyKnown}
use Rattle.house_file.proofs.UnknownLaws.{nothing_unknown, unknown_no_edge}
use Rattle.graph.specs.FileMatter.{matter_of}

-- 02, Ticket 5: "For it neither the plain nor the absent symbol holds, nor the two inverse ones the other way round."
pub file_unsaid : (f : List ℕ) → check_of f ≡ Ok tt → (u v l : ℕ) → is_unknown f u v l ≡ true → Unsaid (matter_of f) u v l
unfolding matter_of
file_unsaid f a u v l n = unknown_unsaid (matter_of f) u v l n (unknown_no_edge f a u v l n)

-- where no record calls a relation unknown, the enlarged graph is that of 01 as it stood, and the problem that verdict and mining are of
pub file_as_listed : (f : List ℕ) → OnlyKnown f → enlarged (matter_of f) ≡ listed_graph (matter_of f)
unfolding matter_of
file_as_listed f h = listed_graph_lem (matter_of f) (nothing_unknown f h)

pub file_problem : (f : List ℕ) → OnlyKnown f → let M = matter_of f in
    problem_of M ≡ problem_over (listed_graph M) (cap_of M.language) (matter_words M) (permitted M)
unfolding matter_of
file_problem f h = listed_problem (matter_of f) (nothing_unknown f h)
