-- Demand 3 for a list of any words: a term with a word that no pair has permits nobody, so the terms
-- without such words permit the same pairs, and their words are the matter's.
use Rattle.std.proofs.Common.{◌≡◌, ◌∙◌, ◌↔◌, Bool, true, ◌&&◌, List, ◌≤◌, leb, length, le-leb, leb-true}
use mathlib.Core.List.{Memᴰ}
use Rattle.lists.specs.Lists.{all_of, filter_by}
use Rattle.lists.proofs.Cases.{and_left, and_right, and_both}
use Rattle.lists.proofs.ListLaws.{all_in, all_of_lem, filter_out, any_filter}
use Rattle.rebac.specs.Matter.{Matter, Pair, pairs_of}
use Rattle.rebac.specs.Words.{Word}
use Rattle.rebac.specs.Paths.{has}
use Rattle.rebac.specs.Symbols.{in_language, enlarged, cap_of}
use Rattle.rebac.specs.Verdict.{convertible}
use Rattle.rebac.specs.Existence.{verdict_of, mined_list, MatterWord, has_all, permits_pair, ConvertsAny, Converts, plain_list}
use Rattle.rebac.proofs.SymbolsLaws.{language_listed, listed_language}
use Rattle.rebac.proofs.PairsLaws.{pairs_out}
use Rattle.rebac.proofs.Reach.{has_some}
use Rattle.rebac.proofs.FormLaws.{pair_word_over}
use Rattle.rebac.proofs.Conversion.{converts_verdict, mined_converts}

module _ (M : Matter) where
  -- one symbol or more, all of the language: what a word must be for a pair to have it
  abbrev in_use : Word → Bool
  in_use w = leb 1 (length w) && all_of (in_language M) w

  has_in_use : (p : Pair) → Memᴰ p (pairs_of M.parties) → (w : Word) → has (enlarged M) p w ≡ true → in_use w ≡ true
  has_in_use p m w h =
      and_both (le-leb 1 (length w) (has_some (enlarged M) p (pairs_out M.parties m).different w h))
      (all_of_lem (in_language M) w (λ s n. listed_language M s (pair_word_over M p w h s n)))

  -- words in use of at most D symbols are the matter's
  in_use_word : (w : Word) → in_use w ≡ true → length w ≤ M.longest → MatterWord M w
  in_use_word w u d =
      record {
        over = λ s m. language_listed M s (all_in (in_language M) w (and_right (leb 1 (length w)) _ u) m);
        some = leb-true 1 (length w) (and_left (leb 1 (length w)) _ u);
        short = d;
      }

  -- the terms whose words are all in use
  abbrev kept : List (List Word) → List (List Word)
  kept r = filter_by (all_of in_use) r

  kept_permits : (r : List (List Word)) (p : Pair) → Memᴰ p (pairs_of M.parties) → permits_pair M (kept r) p ≡ permits_pair M r p
  unfolding permits_pair has_all
  kept_permits r p m =
      any_filter (has_all M p) (all_of in_use) r
      (λ t h. all_of_lem in_use t (λ w n. has_in_use p m w (all_in (has (enlarged M) p) t h n)))

  kept_converts : (r : List (List Word)) → ConvertsAny M r → Converts M (kept r)
  kept_converts r c =
      record {
        any = record {
          full = λ t m. c.full t (filter_out (all_of in_use) r m).0;
          short = λ t m w n. c.short t (filter_out (all_of in_use) r m).0 w n;
          exact = λ p m. kept_permits r p m ∙ c.exact p m;
        };
        fits = λ t m w n. let k = filter_out (all_of in_use) r m in in_use_word w (all_in in_use t k.1 n) (c.short t k.0 w n);
      }

  -- from any list at all to the verdict
  pub any_list_verdict : (r : List (List Word)) → ConvertsAny M r → verdict_of M ≡ convertible
  any_list_verdict r c = converts_verdict M (kept r) (kept_converts r c)

  -- demand 3: convertible exactly where some list, whatever its words, permits exactly the permitted pairs
  pub convertible_iff_any : cap_of M.language ≡ 1 → (verdict_of M ≡ convertible) ↔ ((r : List (List Word)) × ConvertsAny M r)
  convertible_iff_any cap = (λ v. (plain_list (mined_list M), (mined_converts M cap v).any), λ x. any_list_verdict x.0 x.1)
