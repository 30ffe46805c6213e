-- Scores in plain words, where words are not counted (languages 0 to 3): a score is 1 where the pair has the word, else 0; so covering is
-- having all words, and lacking is not having the word. By cases on the two scores.
use Rattle.std.proofs.Common.{◌≡◌, refl, true, not, List, [], ◌∷◌, leb}
use mathlib.Core.List.{Memᴰ}
use Rattle.lists.specs.Lists.{all_of}
use Rattle.lists.proofs.Cases.{by_test}
use Rattle.rebac.specs.Matter.{Matter, Pair}
use Rattle.rebac.specs.Words.{Word}
use Rattle.rebac.specs.Paths.{has}
use Rattle.rebac.specs.Symbols.{enlarged, cap_of}
use Rattle.rebac.specs.Verdict.{covers}
use Rattle.rebac.specs.Mining.{lacks}
use Rattle.rebac.specs.Existence.{score, problem_over, problem_of}
use Rattle.rebac.specs.NextWord.{pair_words}
use Rattle.rebac.proofs.Conversion.{score_one, pair_words_out}

module _ (M : Matter) (plain : cap_of M.language ≡ 1) (p q : Pair) where
  -- a word that p has: q scores as high exactly where it has the word, and lower exactly where it has not
  at_least : (w : Word) → has (enlarged M) p w ≡ true → leb (score M p w) (score M q w) ≡ has (enlarged M) q w
  at_least w h =
      by_test (has (enlarged M) q w)
      (λ e. rw (score_one M plain p w, score_one M plain q w, h, e))
      (λ e. rw (score_one M plain p w, score_one M plain q w, h, e))

  pub lacks_plain : (w : Word) → has (enlarged M) p w ≡ true → lacks (problem_of M) p q w ≡ not (has (enlarged M) q w)
  unfolding lacks problem_of problem_over
  lacks_plain w h =
      by_test (has (enlarged M) q w)
      (λ e. rw (score_one M plain p w, score_one M plain q w, h, e))
      (λ e. rw (score_one M plain p w, score_one M plain q w, h, e))

  all_plain : (ws : List Word) → ((w : Word) → Memᴰ w ws → has (enlarged M) p w ≡ true)
      → all_of (λ w. leb (score M p w) (score M q w)) ws ≡ all_of (has (enlarged M) q) ws
  unfolding all_of
  all_plain [] h = refl
  all_plain (w ∷ ws) h = rw (at_least w (h w (Memᴰ.head refl)), all_plain ws (λ v m. h v (Memᴰ.tail m)))

  -- 01: "an unpermitted pair that has all of them"
  pub covers_plain : covers (problem_of M) p q ≡ all_of (has (enlarged M) q) (pair_words M p)
  unfolding covers problem_of problem_over pair_words
  covers_plain = all_plain (pair_words M p) (λ w m. (pair_words_out M p w m).1)
