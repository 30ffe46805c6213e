-- Relations that nobody knows: by the four kinds of a symbol, of which two look at the relation out and two at the one back.
use Rattle.std.proofs.Common.{◌≡◌, refl, sym, ap, ◌∙◌, Bool, true, false, not, ◌&&◌}
use Rattle.std.proofs.Common.{ℕ, zero, suc, ◌+◌, ◌*◌, ◌/◌, ◌%◌, ◌≤◌, ◌<◌, arith}
use Rattle.std.proofs.Math.Bool.{and-true}
use Rattle.lists.proofs.Cases.{by_test, both, and_false, and_left, and_right, and_both}
use Rattle.rebac.specs.Matter.{Matter, Pair, permitted}
use Rattle.rebac.specs.Words.{Word}
use Rattle.rebac.specs.Symbols.{absent_edge, kind_holds, apart, in_language, holds, enlarged, cap_of}
use Rattle.rebac.specs.Existence.{score, matter_words, problem_over, problem_of}
use Rattle.rebac.specs.Unknown.{Unsaid, SaidAlike, listed_kind, listed_holds, listed_graph, SameButUnknown}
use Rattle.rebac.proofs.SymbolsLaws.{split_label, split_kind, absent_out}
use Rattle.rebac.proofs.MatterLaws.{graph_equal, problem_equal, score_more}

-- a symbol holds by its label and kind
by_kind : (M : Matter) (u v label kind : ℕ) → kind < 4
    → holds M u v (4 * label + kind) ≡ (apart M u v && (in_language M (4 * label + kind) && kind_holds M u v label kind))
unfolding holds
by_kind M u v label kind h =
    ap (λ (b : Bool). apart M u v && (in_language M (4 * label + kind) && b)) (rw (split_label label kind h, split_kind label kind h))

-- for an unknown relation neither the plain nor the absent symbol holds, nor the two inverse ones the other way round
pub unknown_unsaid : (M : Matter) (u v label : ℕ) → M.unknown u v label ≡ true → M.edge u v label ≡ false → Unsaid M u v label
unfolding kind_holds
unknown_unsaid M u v label n e = record {
  plain = not_held u v 0 (omega arith) e;
  absent = not_held u v 1 (omega arith) (rw (e, n));
  inverse = not_held v u 2 (omega arith) e;
  absent_inverse = not_held v u 3 (omega arith) (rw (e, n));
}
  where
    not_held : (a b kind : ℕ) → kind < 4 → kind_holds M a b label kind ≡ false → holds M a b (4 * label + kind) ≡ false
    not_held a b kind h q = by_kind M a b label kind h ∙ and_false (apart M a b) (and_false (in_language M (4 * label + kind)) q)

module _ (M N : Matter) (p : M.parties ≡ N.parties) (l : M.labels ≡ N.labels) (g : M.language ≡ N.language) where
  pub same_apart : (u v : ℕ) → apart M u v ≡ apart N u v
  unfolding apart
  same_apart u v = rw p

  pub same_language : (s : ℕ) → in_language M s ≡ in_language N s
  unfolding in_language
  same_language s = rw (l, g)

  -- the four symbols depend on that one relation alone
  pub said_alike : (u v label : ℕ) → M.edge u v label ≡ N.edge u v label → M.unknown u v label ≡ N.unknown u v label
      → SaidAlike M N u v label
  unfolding kind_holds
  said_alike u v label e n = record {
    plain = alike u v 0 (omega arith) e;
    absent = alike u v 1 (omega arith) (rw (e, n));
    inverse = alike v u 2 (omega arith) e;
    absent_inverse = alike v u 3 (omega arith) (rw (e, n));
  }
    where
      alike : (a b kind : ℕ) → kind < 4 → kind_holds M a b label kind ≡ kind_holds N a b label kind
          → holds M a b (4 * label + kind) ≡ holds N a b (4 * label + kind)
      alike a b kind h q =
          by_kind M a b label kind h ∙ rw (q, same_apart a b, same_language (4 * label + kind)) (sym (by_kind N a b label kind h))

  -- a symbol that holds in the second matter holds in the first, if its kind does
  held_too : (u v s : ℕ) → (kind_holds N u v (s / 4) (s % 4) ≡ true → kind_holds M u v (s / 4) (s % 4) ≡ true)
      → holds N u v s ≡ true → holds M u v s ≡ true
  unfolding holds
  held_too u v s f e =
      let b = and_right (apart N u v) _ e in
      and_both (same_apart u v ∙ and_left (apart N u v) _ e)
      (and_both (same_language s ∙ and_left (in_language N s) _ b) (f (and_right (in_language N s) _ b)))

-- where nothing is unknown, the symbols that hold are those of 01 as it stood
pub as_listed : (M : Matter) → ((u v label : ℕ) → M.unknown u v label ≡ false) → (u v s : ℕ) → holds M u v s ≡ listed_holds M u v s
unfolding holds listed_holds kind_holds listed_kind
as_listed M k u v s = ap (λ (b : Bool). apart M u v && (in_language M s && b)) (same (s / 4) (s % 4))
  where
    absent : (a b label : ℕ) → absent_edge M a b label ≡ not (M.edge a b label)
    absent a b label = rw (k a b label) (and-true (not (M.edge a b label)))

    same : (label kind : ℕ) → kind_holds M u v label kind ≡ listed_kind M u v label kind
    same label zero = refl
    same label (suc zero) = absent u v label
    same label (suc (suc zero)) = refl
    same label (suc (suc (suc kind))) = absent v u label

-- so the enlarged graph is the one of then, and the problem that verdict and mining are of
pub listed_graph_lem : (M : Matter) → ((u v label : ℕ) → M.unknown u v label ≡ false) → enlarged M ≡ listed_graph M
listed_graph_lem M k = graph_equal (enlarged M) (listed_graph M) refl (as_listed M k)

pub listed_problem : (M : Matter) → ((u v label : ℕ) → M.unknown u v label ≡ false)
    → problem_of M ≡ problem_over (listed_graph M) (cap_of M.language) (matter_words M) (permitted M)
listed_problem M k =
    sym (problem_equal M (listed_graph M) (permitted M) refl (λ u v s. sym (as_listed M k u v s)) (λ p. refl))

-- to make an absent relation unknown makes no symbol hold
pub unknown_fewer : (M N : Matter) → SameButUnknown M N → (u v s : ℕ) → holds N u v s ≡ true → holds M u v s ≡ true
unfolding kind_holds
unknown_fewer M N r u v s = held_too M N r.parties r.labels r.language u v s (kept (s / 4) (s % 4))
  where
    absent : (a b label : ℕ) → absent_edge N a b label ≡ true → absent_edge M a b label ≡ true
    absent a b label e =
        let o = absent_out N a b label e in
        let known : M.unknown a b label ≡ false =
        by_test (M.unknown a b label) (λ q. both (r.more a b label q) o.1) (λ q. q) in
        rw (r.edges a b label, o.0, known)

    kept : (label kind : ℕ) → kind_holds N u v label kind ≡ true → kind_holds M u v label kind ≡ true
    kept label zero e = r.edges u v label ∙ e
    kept label (suc zero) e = absent u v label e
    kept label (suc (suc zero)) e = r.edges v u label ∙ e
    kept label (suc (suc (suc kind))) e = absent v u label e

-- nor any score rise
pub unknown_score : (M N : Matter) → SameButUnknown M N → (p : Pair) (w : Word) → score N p w ≤ score M p w
unknown_score M N r = score_more N M (sym r.parties) (unknown_fewer M N r) (omega arith)
