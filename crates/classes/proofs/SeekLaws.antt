-- The seeking turn by turn: the letters that may stand at a place are tried one after another, and the first word found is the answer.
-- Assumes nothing.
use Rattle.std.proofs.Common.{◌≡◌, sym, ap, ◌∙◌, subst, true, false, List, [], ◌∷◌, ◌++◌, append_assoc, append-nil, ℕ, zero, suc}
use Rattle.std.proofs.Common.{◌+◌, ◌-◌, ◌≤◌, ◌<◌, arith, add-one, length, replicate, set, length-append, None, Some, is_some}
use Rattle.std.proofs.lemmas.List.{length-replicate}
use Rattle.std.proofs.Math.Option.{Option, none, some}
use Rattle.lists.specs.Lists.{first_by, up_from}
use Rattle.rebac.specs.Matter.{Pair}
use Rattle.rebac.specs.Paths.{Graph}
use Rattle.rebac.specs.promises.Options.{or_else, first_some}
use Rattle.rebac.specs.promises.Telling.{tells}
use Rattle.search.specs.Word.{symbols_in}
use Rattle.search.specs.promises.WordValues.{Short}
use Rattle.search.specs.promises.PairSearch.{graph_of}
use Rattle.search.specs.declared.pair.TwoPairsIn.{TwoPairsIn}
use Rattle.search.specs.declared.word.ShortWord.{ShortWord}
use Rattle.search.specs.declared.word.Word.{Word}
use Rattle.search.proofs.SearchLaws.{symbols_length, short_fits}
use Rattle.std.specs.Prelude.{Option as Maybe}
use Rattle.words.specs.promises.Next.{Places, WordAs}
use Rattle.words.proofs.NextLaws.{symbol_places, word_not, word_as, or_found}
use Rattle.letters.specs.promises.Letters.{Classed}
use Rattle.classes.specs.promises.Prefixes.{own_pair, other_pair, letters_from, first_onward, Sought}
use Rattle.classes.proofs.PrefixLaws.{prefix_none, onward_end, onward_step}

-- as many zeros as places are left
pub places_left : (w : Word) → Short w → (fixed : List ℕ) (k at : ℕ) → symbols_in w ≡ fixed ++ replicate k 0 → length fixed ≡ at
    → at + k ≡ w.len
places_left w s fixed k at e l =
    let size = symbols_length w (short_fits s) in
    let sum = ap length e ∙ length-append fixed (replicate k 0) in
    omega (arith, size, sum, length-replicate {A = ℕ} k 0)

-- the letters from c on, one after another
module _ (f : ℕ → Option (List ℕ)) (c high : ℕ) where
  letters_turn : c < high → first_some f (letters_from c high) ≡ or_else (f c) (first_some f (letters_from (c + 1) high))
  unfolding first_some up_from
  letters_turn h = let e : high - c ≡ suc (high - (c + 1)) = omega arith in rw (e, add-one)

  letters_end : high ≤ c → first_some f (letters_from c high) ≡ none
  unfolding first_some up_from
  letters_end h = let e : high - c ≡ 0 = omega arith in rw e

-- no place is left: the word itself, if it tells
module _ (g : Graph ℕ) (p q : Pair) (al fixed : List ℕ) where
  seek_tells : tells g p q fixed ≡ true → first_onward g p q al fixed 0 ≡ some fixed
  unfolding first_by
  seek_tells t = rw (onward_end g p q al fixed, t, first_by)

  seek_lacks : tells g p q fixed ≡ false → first_onward g p q al fixed 0 ≡ none
  unfolding first_by
  seek_lacks t = rw (onward_end g p q al fixed, t, first_by)

-- the first telling word from a place on, and the same with letter c at the place
abbrev onward : TwoPairsIn → ℕ → ℕ → List ℕ → ℕ → Option (List ℕ)
onward q low high = first_onward (graph_of q.graph) (own_pair q) (other_pair q) (letters_from low high)

abbrev by_letter : TwoPairsIn → ℕ → ℕ → List ℕ → ℕ → ℕ → Option (List ℕ)
by_letter q low high fixed k c = onward q low high (fixed ++ (c ∷ [])) k

-- where the seeking stands: no word with a letter before c tells
pub record Turn (q : TwoPairsIn) (w : Word) (at low high c : ℕ) : Type 0 where
  pub from : low ≤ c
  pub left : (fixed : List ℕ) (k : ℕ) → Places w fixed 0 k → length fixed ≡ at
      → onward q low high fixed (suc k)
      ≡ first_some (by_letter q low high fixed k) (letters_from c high)

module _ (q : TwoPairsIn) (w : ShortWord) (at low high : ℕ) where
  pub turn_start : Turn q w.word at low high low
  turn_start = record {
    from = omega arith;
    left = λ fixed k p l. onward_step (graph_of q.graph) (own_pair q) (other_pair q) (letters_from low high) fixed k;
  }

  -- letter c leads to no telling word
  pub turn_skip : {c : ℕ} → Turn q w.word at low high c → c < high
      → ((fixed : List ℕ) (k : ℕ) → Places w.word fixed 0 k → length fixed ≡ at
      → by_letter q low high fixed k c ≡ none)
      → Turn q w.word at low high (c + 1)
  turn_skip {c} t h f = record {
    from = omega (arith, t.from);
    left = λ fixed k p l. t.left fixed k p l ∙ letters_turn (by_letter q low high fixed k) c high h
        ∙ rw (f fixed k p l);
  }

  -- a word found is that of some place left, for each count of zeros
  sought : (r : Maybe ShortWord) → at < w.word.len
      → ((fixed : List ℕ) (k : ℕ) → Places w.word fixed 0 k → length fixed ≡ at
      → WordAs (onward q low high fixed (suc k)) r)
      → Sought q w.word at low high r
  sought r h f fixed zero e l = absurd (omega (arith, places_left w.word w.short fixed 0 at e l))
  sought r h f fixed (suc k) e l = f fixed k e l

  -- no place is left
  ended : (r : Maybe ShortWord) → w.word.len ≤ at
      → ((fixed : List ℕ) → symbols_in w.word ≡ fixed → WordAs (onward q low high fixed 0) r)
      → Sought q w.word at low high r
  ended r h f fixed zero e l = f fixed (e ∙ append-nil fixed)
  ended r h f fixed (suc k) e l = absurd (omega (arith, places_left w.word w.short fixed (suc k) at e l))

  pub ended_here : w.word.len ≤ at → tells (graph_of q.graph) (own_pair q) (other_pair q) (symbols_in w.word) ≡ true
      → Sought q w.word at low high (Some w)
  ended_here h t =
      ended (Some w) h (λ fixed e.
      subst (λ (l : List ℕ). onward q low high l 0 ≡ some (symbols_in w.word)) e
      (seek_tells (graph_of q.graph) (own_pair q) (other_pair q) (letters_from low high) (symbols_in w.word) t))

  pub ended_none : w.word.len ≤ at → tells (graph_of q.graph) (own_pair q) (other_pair q) (symbols_in w.word) ≡ false
      → Sought q w.word at low high None
  ended_none h t =
      ended None h (λ fixed e.
      subst (λ (l : List ℕ). onward q low high l 0 ≡ none) e
      (seek_lacks (graph_of q.graph) (own_pair q) (other_pair q) (letters_from low high) (symbols_in w.word) t))

  -- no word with classes in the place of the letters tells
  pub passed : (end : ℕ) → high ≤ end → Classed (graph_of q.graph) high end → (classes : Maybe ShortWord)
      → Sought q w.word at high end classes → is_some classes ≡ false → at < w.word.len → Sought q w.word at low high None
  passed end b C classes c f h =
      sought None h
      (λ fixed k p l.
      prefix_none (graph_of q.graph) (own_pair q) (other_pair q) low high end b C q.is_pair.first q.other.first fixed (suc k)
      (word_not _ classes (c fixed (suc k) p l) f))

  -- what was found with letter c at the place
  module _ (c : ℕ) (x : Word) (len : x.len ≡ w.word.len) (put : x.symbols ≡ set w.word.symbols at c) (h : at < w.word.len)
      (r : Maybe ShortWord) (s : Sought q x (at + 1) low high r) where
    letter_tried : (fixed : List ℕ) (k : ℕ) → Places w.word fixed 0 k → length fixed ≡ at
        → WordAs (by_letter q low high fixed k c) r
    letter_tried fixed k p l =
        s (fixed ++ (c ∷ [])) k (symbol_places w.word c len put fixed 0 k p l h ∙ sym (append_assoc fixed (c ∷ []) (replicate k 0)))
        (length-append fixed (c ∷ []) ∙ rw l)

    pub turn_found : Turn q w.word at low high c → c < high → is_some r ≡ true → Sought q w.word at low high r
    turn_found t below f =
        sought r h (λ fixed k p l.
        word_as (by_letter q low high fixed k c) _ r (letter_tried fixed k p l) f
        (λ v e. t.left fixed k p l ∙ letters_turn (by_letter q low high fixed k) c high below ∙ or_found _ _ v e))

    pub turn_failed : Turn q w.word at low high c → c < high → is_some r ≡ false → Turn q w.word at low high (c + 1)
    turn_failed t below f = turn_skip t below (λ fixed k p l. word_not _ r (letter_tried fixed k p l) f)

  -- all letters are tried
  pub turn_end : {c : ℕ} → Turn q w.word at low high c → high ≤ c → at < w.word.len → Sought q w.word at low high None
  turn_end {c} t h l =
      sought None l (λ fixed k p z. t.left fixed k p z ∙ letters_end (by_letter q low high fixed k) c high h)
