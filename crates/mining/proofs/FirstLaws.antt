-- The pair's first word: where there is none the pair has no word, else the term begins with it.
use Rattle.std.proofs.Common.{◌≡◌, refl, sym, ap, ◌∙◌, List, [], ◌∷◌, append-nil, Result, ℕ, ◌+◌, ◌≤◌, arith, length}
use Rattle.std.proofs.Math.Option.{none, some}
use Rattle.lists.specs.Lists.{flat_map}
use Rattle.lists.specs.Order.{first_element}
use Rattle.lists.proofs.Cases.{clash}
use Rattle.rebac.specs.Matter.{Matter, Pair}
use Rattle.rebac.specs.Words.{Word}
use Rattle.rebac.specs.Verdict.{Verdict, convertible, no_word, rivalled, words_of, judge}
use Rattle.rebac.specs.NextWord.{pair_words, next_word}
use Rattle.rebac.proofs.NextWordLaws.{first_word}
use Rattle.fields.specs.Numbers.{u16_bytes}
use Rattle.fields.specs.promises.Writing.{put}
use Rattle.fields.proofs.PutLaws.{put_over}
use Rattle.graph.specs.declared.archive.Archive.{Archive}
use Rattle.graph.specs.promises.Archive.{Shows}
use Rattle.rule_bytes.specs.ListBytes.{encode_term}
use Rattle.mining.specs.promises.Building.{problem_in, first_bytes, first_term, term_bytes, OutcomeAs}
use Rattle.mining.specs.declared.build.Obstacle.{Obstacle}
use Rattle.mining.proofs.ArchiveLaws.{problem_shown}
use Rattle.mining.proofs.BuildLaws.{one_size, first_part}

head_nil : {A : Type 0} (l : List A) → first_element l ≡ none → l ≡ []
head_nil [] e = refl
head_nil (x ∷ l) e = clash (cc e)

head_cons : {A : Type 0} (l : List A) {x : A} → first_element l ≡ some x → (t : List A) × (l ≡ x ∷ t)
head_cons [] e = clash (cc e)
head_cons (y ∷ l) e = (l, cc e)

-- the bytes of a term of no word
pub no_words : u16_bytes 0 ≡ encode_term []
unfolding encode_term flat_map
no_words = sym (append-nil (u16_bytes 0))

module _ (a : Archive) {M : Matter} (h : Shows M a) (p : Pair) where
  words_shown : words_of (problem_in a) p ≡ pair_words M p
  unfolding pair_words
  words_shown = rw (problem_shown a h) refl

  pub first_none : next_word M p [] ≡ none → judge (problem_in a) p ≡ no_word p
  unfolding judge
  first_none e = rw (words_shown ∙ head_nil (pair_words M p) (sym (first_word M p) ∙ e)) refl

  first_cons : {v : Word} → next_word M p [] ≡ some v → (t : List Word) × (words_of (problem_in a) p ≡ v ∷ t)
  first_cons e = let k = head_cons (pair_words M p) (sym (first_word M p) ∙ e) in (k.0, words_shown ∙ k.1)

  pub first_full : {v : Word} → next_word M p [] ≡ some v → length (words_of (problem_in a) p) ≡ 0 → ⊥
  first_full e z = omega (arith, ap length (first_cons e).1, z)

  pub first_bytes_lem : {v : Word} → next_word M p [] ≡ some v → first_bytes a p ≡ encode_term (v ∷ [])
  unfolding first_bytes
  first_bytes_lem e = rw (first_cons e).1 refl

  pub first_term_lem : {v : Word} → next_word M p [] ≡ some v → first_term a p ≡ v ∷ []
  first_term_lem e = rw (first_cons e).1 refl

  pub first_size : {v : Word} → next_word M p [] ≡ some v → length (first_bytes a p) ≡ 3 + length v
  first_size {v} e = ap length (first_bytes_lem e) ∙ one_size v

module _ (a : Archive) (p : Pair) where
  -- the whole term leaves nothing of its first word's bytes
  pub outcome_over : (at : ℕ) (b new : List ℕ) (v : Verdict Pair) (r : Result ℕ Obstacle) → at ≤ length b
      → OutcomeAs a p at (put b at (first_bytes a p)) new v r → OutcomeAs a p at b new v r
  outcome_over at b new convertible r h k = (k.0, k.1 ∙ put_over b at (first_bytes a p) (term_bytes a p) h (first_part a p))
  outcome_over at b new (no_word x) r h k = k
  outcome_over at b new (rivalled x q) r h k = k
