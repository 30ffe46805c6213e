-- Lists with the same terms get the same replies: whether a list permits a pair depends on its terms as a set of sets of words.
-- A reordering has the same terms and stays legal.
use Rattle.std.proofs.Common.{◌≡◌, ap, List, ℕ, arith}
use Rattle.lists.specs.Reorder.{ReorderedTerms, SameTerms}
use Rattle.lists.proofs.Pointwise.{find_same}
use Rattle.lists.proofs.ReorderLaws.{reordered_length, permuted_members, reordered_terms, reordered_sets, terms_alike}
use Rattle.rebac.specs.Matter.{Matter, Pair, pair, pairs_of}
use Rattle.rebac.specs.Words.{Word}
use Rattle.rebac.specs.Paths.{has}
use Rattle.rebac.specs.Symbols.{enlarged}
use Rattle.rebac.specs.Existence.{has_all, permits_pair}
use Rattle.graph.specs.FileMatter.{matter_of}
use Rattle.rule_bytes.specs.ListBytes.{encode_list}
use Rattle.rule_bytes.proofs.RoundTrip.{decode_encode}
use Rattle.rules.specs.Permit.{permit_call, permit_in}
use Rattle.rules.proofs.MatterLists.{LegalFor}
use Rattle.comparison.specs.Compare.{only_file, only_list, differ, first_difference, answer_for, comparison, compare_in, compare_call}
use Rattle.comparison.specs.Replies.{SameReplies}

module _ (M : Matter) (l m : List (List Word)) where
  module _ (s : SameTerms l m) where
    pub same_permits : (p : Pair) → permits_pair M l p ≡ permits_pair M m p
    unfolding permits_pair has_all
    same_permits p = terms_alike (has (enlarged M) p) s

    pub same_comparison : comparison M l ≡ comparison M m
    unfolding comparison first_difference differ only_file only_list
    same_comparison = ap (answer_for M) (find_same (differ M l) (differ M m) (pairs_of M.parties) (λ p i. rw (same_permits p)))

  -- a reordering of a legal list is legal
  pub reordered_legal : ReorderedTerms l m → LegalFor M l → LegalFor M m
  reordered_legal d h = record {
    fits = omega (arith, reordered_length d, h.fits);
    terms = λ u i.
        let k = (reordered_terms d).back u i in
        let t = h.terms k.0 k.1.0 in
        record {
          full = omega (arith, reordered_length k.1.1, t.full);
          fits = omega (arith, reordered_length k.1.1, t.fits);
          words = λ w j. let v = (permuted_members k.1.1).back w j in rw (← v.1.1) (t.words v.0 v.1.0);
        };
  }

-- for any file, and two lists that are legal for it
module _ (f : List ℕ) (l m : List (List Word)) where
  -- the file's matter
  abbrev M : Matter
  M = matter_of f

  -- the same terms as sets of sets of words: how often each occurs makes no difference
  pub same_terms_replies : LegalFor M l → LegalFor M m → SameTerms l m
      → SameReplies f (encode_list l) (encode_list m)
  unfolding compare_call compare_in permit_call permit_in
  same_terms_replies h k s =
      let a = decode_encode M.labels M.language M.longest l h in
      let b = decode_encode M.labels M.language M.longest m k in
      record {
        compare = rw (a, b, same_comparison M l m s);
        permit = λ x y. rw (a, b, same_permits M l m s (pair x y));
      }

  -- 02: "Two lists with the same terms in another order, or the same words in another order within terms, get the same reply."
  pub reordered_replies : LegalFor M l → ReorderedTerms l m
      → LegalFor M m × SameReplies f (encode_list l) (encode_list m)
  reordered_replies h d = let k = reordered_legal M l m d h in (k, same_terms_replies h k (reordered_sets d))
