-- An archive's conversion is its matter's, so a term of a pair's own words is met where a pair has the words, and its words fit.
use Rattle.std.proofs.Common.{◌≡◌, refl, sym, ap, ◌∙◌, ℕ, ◌*◌, ◌-◌, ◌≤◌, arith, mul-le-mul, length}
use Rattle.std.specs.Prelude.{Option as Maybe}
use mathlib.Core.List.{Memᴰ}
use Rattle.lists.specs.Lists.{all_of, first_by}
use Rattle.lists.proofs.ListLaws.{map_out}
use Rattle.lists.proofs.OrderLaws.{length_map}
use Rattle.masks.specs.promises.Mask.{test_bit}
use Rattle.masks.specs.promises.Table.{mask_in}
use Rattle.rebac.specs.Matter.{Matter, Pair, pairs_of, permitted}
use Rattle.rebac.specs.Words.{Word}
use Rattle.rebac.specs.Paths.{has, Graph}
use Rattle.rebac.specs.Rules.{Problem, Item, Term, meets}
use Rattle.rebac.specs.Verdict.{words_of}
use Rattle.rebac.specs.Mining.{lacks, term_of}
use Rattle.rebac.specs.Existence.{problem_over, problem_of, matter_words, has_all, plain_term}
use Rattle.rebac.specs.NextWord.{pair_words}
use Rattle.rebac.proofs.MatterLaws.{problem_equal}
use Rattle.rebac.proofs.PairsLaws.{pairs_length}
use Rattle.rebac.proofs.MiningLaws.{Owned, term_length}
use Rattle.rebac.proofs.Conversion.{score_one, pair_words_out, meets_one}
use Rattle.graph.specs.declared.archive.Archive.{Archive}
use Rattle.graph.specs.promises.Archive.{Shows}
use Rattle.graph.proofs.ShownLaws.{shown_by}
use Rattle.search.specs.promises.PairSearch.{graph_of}
use Rattle.search.specs.declared.word.ShortWord.{ShortWord}
use Rattle.words.specs.promises.Next.{WordAs}
use Rattle.paths.proofs.CallLaws.{shown_graph}
use Rattle.rule_bytes.specs.promises.Reading.{FitWord, FitTerm}
use Rattle.rule_bytes.proofs.PlaceLaws.{word_legal_fits}
use Rattle.rules.proofs.MatterLists.{legal_words}
use Rattle.mining.specs.promises.Building.{problem_in}

pub problem_pairs : (a : Archive) → (problem_in a).pairs ≡ pairs_of a.graph.parties
unfolding problem_in problem_over
problem_pairs a = refl

pub problem_permitted : (a : Archive) (p : Pair) → (problem_in a).permitted p ≡ test_bit (mask_in a.permits p.first) p.second
unfolding problem_in problem_over
problem_permitted a p = refl

module _ (a : Archive) {M : Matter} (h : Shows M a) where
  pub problem_shown : problem_in a ≡ problem_of M
  unfolding problem_in matter_words permitted
  problem_shown =
      rw (h.language, h.labels, h.longest)
      (problem_equal M (graph_of a.graph) (λ p. test_bit (mask_in a.permits p.first) p.second)
      h.parties h.graph (λ p. h.permits p.first p.second))

  -- its items ask for one path each
  own_one : (p : Pair) (t : Term Word) → Owned (problem_of M) p t → (i : Item Word) → Memᴰ i t → i.count ≡ 1
  unfolding problem_of problem_over pair_words
  own_one p t o i m = let r = o i m in rw r.2 (score_one M refl p r.0 ∙ rw (pair_words_out M p r.0 r.1).1 refl)

  -- the first lacked word and the first word, over the archive's conversion
  pub lacked_shown : (p q : Pair) (r : Maybe ShortWord) → WordAs (first_by (lacks (problem_of M) p q) (pair_words M p)) r
      → WordAs (first_by (lacks (problem_in a) p q) (words_of (problem_in a) p)) r
  unfolding pair_words
  lacked_shown p q r e = rw problem_shown e

module _ (a : Archive) where
  abbrev M : Matter
  M = (shown_by a).0

  abbrev S : Shows M a
  S = (shown_by a).1

  -- a word of a pair fits a word value
  own_fits : (p : Pair) (w : Word) → Memᴰ w (words_of (problem_in a) p) → FitWord w
  unfolding pair_words
  own_fits p w m =
      let k = pair_words_out M p w (rw (problem_shown a S) at m) in
      word_legal_fits M.labels M.language M.longest S.limits.labels.1 S.limits.longest.1 w ((legal_words M w).1 k.0)

  pub owned_met : (p q : Pair) (t : Term Word) → Owned (problem_in a) p t
      → meets (problem_in a) q t ≡ all_of (has (graph_of a.graph) q) (plain_term t)
  unfolding has_all
  owned_met p q t o =
      ap (λ (P : Problem Pair Word). meets P q t) (problem_shown a S)
      ∙ meets_one M q t (own_one a S p t (rw (problem_shown a S) at o))
      ∙ ap (λ (g : Graph ℕ). all_of (has g q) (plain_term t)) (sym (shown_graph M a S))

  -- a term has at most 993 words
  pub words_bounded : (p : Pair) → length (term_of (problem_in a) p) ≤ 993
  words_bounded p =
      let n = a.graph.parties in
      let l : length (problem_in a).pairs ≡ n * (n - 1) = ap length (problem_pairs a) ∙ pairs_length n in
      let m : n * (n - 1) ≤ 32 * 31 = mul-le-mul {n₂ = 32} {m₂ = 31} a.graph.within (omega (arith, a.graph.within)) in
      omega (arith, term_length (problem_in a) p, l, m)

  pub owned_fits : (p : Pair) (t : Term Word) → Owned (problem_in a) p t → length t ≤ 993 → FitTerm (plain_term t)
  owned_fits p t o k = record {
    number = omega (arith, length_map (λ i. i.word) t, k);
    words = λ w m. let s = map_out (λ i. i.word) t m in let r = o s.0 s.1 in rw (s.2, r.2) (own_fits p r.0 r.1);
  }
