-- The words of one length that a pair has, one after another: the next after a word that does not tell is the least that may.
-- Assumes nothing.
use Rattle.std.proofs.Common.{◌≡◌, refl, sym, ap, ◌∙◌, ◌⊎◌, ⊎_elim, Bool, true, false, not, List}
use Rattle.std.proofs.Common.{[], ◌∷◌, ℕ, suc, ◌<◌, arith, length, ltb, MatchOption, None, Some}
use mathlib.Core.List.{Memᴰ}
use Rattle.std.proofs.Math.Option.{Option, none, some}
use Rattle.lists.specs.Lists.{filter_by, range}
use Rattle.lists.specs.Order.{Ascending}
use Rattle.lists.proofs.Cases.{by_test, by_found, both}
use Rattle.lists.proofs.ListLaws.{find_none, find_none_of, find_some, find_in, range_in}
use Rattle.lists.proofs.OrderLaws.{first_least}
use Rattle.lists.proofs.Pointwise.{filter_strictly}
use Rattle.limits.specs.Limits.{symbol_count}
use Rattle.rebac.specs.Matter.{Pair}
use Rattle.rebac.specs.Words.{lex_less, words_of_length}
use Rattle.rebac.specs.Paths.{Graph, has}
use Rattle.rebac.specs.promises.Forms.{complete, next_same_length}
use Rattle.rebac.specs.promises.Telling.{tells, first_telling}
use Rattle.rebac.proofs.AlikeLaws.{tells_has}
use Rattle.rebac.proofs.FormLaws.{has_over, complete_finds, same_finds}
use Rattle.rebac.proofs.FormStatements.{HasForm}
use Rattle.rebac.proofs.LexOrder.{lex_irreflexive, lex_transitive}
use Rattle.rebac.proofs.NextWords.{Finds}
use Rattle.rebac.proofs.WordsLaws.{length_in, length_out, length_ascending}
use Rattle.search.specs.Word.{symbols_in}
use Rattle.search.specs.declared.word.ShortWord.{ShortWord}
use Rattle.words.specs.promises.Next.{WordAs}
use Rattle.std.specs.Prelude.{Option as Maybe}

-- how many words of k symbols stand after a word, and after the word in hand with it: the measure of going through them
unfoldable pub words_after : ℕ → List ℕ → ℕ
words_after k w = length (filter_by (lex_less w) (words_of_length (range symbol_count) k))

abbrev pub words_from : ℕ → Maybe ShortWord → ℕ
words_from k None = 0
words_from k (Some w) = suc (words_after k (symbols_in w.word))

module _ (g : Graph ℕ) (p q : Pair) (k : ℕ) where
  -- a word of k symbols that the first pair has, before which none tells
  pub record NoneBefore (w : List ℕ) : Type 0 where
    pub size : length w ≡ k
    pub held : has g p w ≡ true
    pub least : (v : List ℕ) → length v ≡ k → tells g p q v ≡ true → (w ≡ v) ⊎ (lex_less w v ≡ true)

  -- where the passing stands: such a word is in hand, or none of k symbols tells
  abbrev pub PassTurn : Maybe ShortWord → Type 0
  PassTurn r = MatchOption r ((v : List ℕ) → length v ≡ k → tells g p q v ≡ false) (λ w. NoneBefore (symbols_in w.word))

  -- the least of some words that the pair has, among which are all that tell
  pass_least : {A : List ℕ → Type 0} {o : Option (List ℕ)} (r : Maybe ShortWord) → WordAs o r → Finds lex_less A o
      → ((v : List ℕ) → A v → (length v ≡ k) × (has g p v ≡ true))
      → ((v : List ℕ) → length v ≡ k → tells g p q v ≡ true → A v) → PassTurn r
  pass_least None h f sound among = λ v l.
      by_test (tells g p q v)
      (λ y. absurd (f.missing h v (among v l y)))
      (λ y. y)
  pass_least (Some w) e f sound among =
      let a = f.found (symbols_in w.word) e in
      record {
        size = (sound _ a).0;
        held = (sound _ a).1;
        least = λ v l t. f.least (symbols_in w.word) e v (among v l t);
      }

  -- the word in hand tells exactly where the second pair lacks it
  pub tells_by : {w : List ℕ} {b : Bool} → NoneBefore w → has g q w ≡ b → tells g p q w ≡ not b
  unfolding tells
  tells_by i e = rw (i.held, e)

  -- none is left
  pub none_tells : (al : List ℕ) → ((v : List ℕ) → length v ≡ k → tells g p q v ≡ false) → first_telling g p q al k ≡ none
  unfolding first_telling
  none_tells al f = find_none_of (tells g p q) (words_of_length al k) (λ v m. f v (length_out al k m).1)

  module _ (al : List ℕ) (listed : (u v s : ℕ) → g.edge u v s ≡ true → Memᴰ s al) (up : Ascending ltb al) where
    in_words : (w : List ℕ) → length w ≡ k → has g p w ≡ true → Memᴰ w (words_of_length al k)
    in_words w l h = rw l at (length_in al w (has_over al g listed p w h))

    -- the word in hand tells
    pub tells_here : (w : List ℕ) → NoneBefore w → tells g p q w ≡ true → first_telling g p q al k ≡ some w
    unfolding first_telling
    tells_here w i t =
        let m : Memᴰ w (words_of_length al k) = in_words w i.size i.held in
        by_found (first_telling g p q al k)
        (λ e. both t (find_none (tells g p q) (words_of_length al k) e m))
        (λ v e.
        e ∙ ap some (⊎_elim
        (λ (z : v ≡ w). z)
        (λ (z : lex_less v w ≡ true).
        let f = find_some (tells g p q) (words_of_length al k) e in
        let n = (length_out al k (find_in (tells g p q) (words_of_length al k) e)).1 in
        ⊎_elim
        (λ (y : w ≡ v). sym y)
        (λ (y : lex_less w v ≡ true). both (lex_transitive w v w y z) (lex_irreflexive w))
        (i.least v n f.here))
        (first_least lex_less (tells g p q) (words_of_length al k) (length_ascending al up k) e m t)))

    -- the word in hand does not tell: the next of its length
    pub pass_next : (w : List ℕ) → NoneBefore w → tells g p q w ≡ false → (r : Maybe ShortWord)
        → WordAs (next_same_length al g p [] w) r → PassTurn r
    pass_next w i t r h =
        pass_least r h (same_finds al g listed p up [] w)
        (λ v x. (ap length x.split ∙ x.size ∙ i.size, x.held))
        (λ v l y. ⊎_elim
        (λ (z : w ≡ v). both y (ap (tells g p q) (sym z) ∙ t))
        (λ (z : lex_less w v ≡ true). record {
          rest = v;
          split = refl;
          size = l ∙ sym i.size;
          after = z;
          held = tells_has g p q v y;
        })
        (i.least v l y))

    -- and fewer are left
    pub words_fall : ((s : ℕ) → Memᴰ s al → s < symbol_count) → (w : List ℕ) → NoneBefore w → (r : Maybe ShortWord)
        → WordAs (next_same_length al g p [] w) r → words_from k r < suc (words_after k w)
    unfolding words_after
    words_fall below w i None h = omega arith
    words_fall below w i (Some x) h =
        let v : List ℕ = symbols_in x.word in
        let f = (same_finds al g listed p up [] w).found v h in
        let size : length v ≡ k = ap length f.split ∙ f.size ∙ i.size in
        let over : (s : ℕ) → Memᴰ s v → Memᴰ s (range symbol_count) =
        λ s m. range_in symbol_count s (below s (has_over al g listed p v f.held s m)) in
        let m : Memᴰ v (words_of_length (range symbol_count) k) = rw size at (length_in (range symbol_count) v over) in
        let after : lex_less w v ≡ true = rw (← f.split) at f.after in
        let fewer = filter_strictly (lex_less v) (lex_less w) (words_of_length (range symbol_count) k)
        (λ x n y. lex_transitive w v x after y) m (lex_irreflexive v) after in
        omega (arith, fewer)

-- the first of k + 1 symbols
pub pass_first : (g : Graph ℕ) (p q : Pair) (k : ℕ) (al : List ℕ) → ((u v s : ℕ) → g.edge u v s ≡ true → Memᴰ s al)
    → Ascending ltb al → (r : Maybe ShortWord) → WordAs (complete al g p [] 0 k) r → PassTurn g p q (suc k) r
pass_first g p q k al listed up r h =
    pass_least g p q (suc k) r h (complete_finds al g listed p up [] 0 k)
    (λ v x. (ap length x.split ∙ ap suc x.size, x.held))
    (λ v l y. formed v l (tells_has g p q v y))
  where
    formed : (v : List ℕ) → length v ≡ suc k → has g p v ≡ true → HasForm g p [] 0 k v
    formed [] l y = absurd (omega arith)
    formed (s ∷ v) l y = record { symbol = s; rest = v; split = refl; least = omega arith; size = omega arith; held = y }
