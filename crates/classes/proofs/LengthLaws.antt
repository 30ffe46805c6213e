-- Telling words length by length: none is as long as there are parties. A word of letters is read as symbols place by place.
-- Assumes nothing.
use Rattle.std.proofs.Common.{◌≡◌, refl, sym, ap, ◌∙◌, true, List, [], ◌∷◌, ◌++◌, append_assoc, ℕ, zero}
use Rattle.std.proofs.Common.{suc, ◌+◌, ◌-◌, ◌≤◌, ◌<◌, min, arith, add-one, ltb, length, get_or, set, take}
use Rattle.std.proofs.Common.{drop, take-suc, drop-cons, get_or-take, length-take-le, None, Some}
use Rattle.std.proofs.lemmas.List.{set_at}
use Rattle.std.proofs.Math.Logic.{by_cases}
use mathlib.Core.List.{Memᴰ}
use Rattle.std.proofs.Math.Option.{none, some, map}
use Rattle.std.proofs.Math.Decide.{dec_lt}
use Rattle.std.proofs.Math.Seq.{take-set-lt}
use Rattle.lists.specs.Lists.{range}
use Rattle.lists.specs.Order.{Ascending}
use Rattle.lists.proofs.ListLaws.{find_none_of}
use Rattle.lists.proofs.OrderLaws.{length_map}
use Rattle.lists.proofs.Pointwise.{map_append}
use Rattle.lists.proofs.Ranges.{NoneGiven, FirstGiven}
use Rattle.rebac.specs.Matter.{Pair, IsPair}
use Rattle.rebac.specs.Words.{words_of_length}
use Rattle.rebac.specs.Paths.{Graph}
use Rattle.rebac.specs.promises.Options.{or_else}
use Rattle.rebac.specs.promises.Telling.{tells, first_telling, first_telling_longer}
use Rattle.rebac.proofs.SearchLaws.{long_word}
use Rattle.rebac.proofs.WordsLaws.{length_out}
use Rattle.search.specs.Word.{symbols_in}
use Rattle.search.specs.promises.WordValues.{Short}
use Rattle.search.specs.declared.word.Word.{Word}
use Rattle.search.proofs.SearchLaws.{symbols_length, short_fits}
use Rattle.search.specs.declared.word.ShortWord.{ShortWord}
use Rattle.std.specs.Prelude.{Option as Maybe}
use Rattle.words.specs.promises.Next.{WordAs}
use Rattle.words.proofs.NextLaws.{or_found}
use Rattle.letters.specs.promises.Letters.{letter_symbol, in_symbols, Lettered}
use Rattle.letters.proofs.LetterLaws.{telling_longer_in_symbols}
use Rattle.classes.specs.promises.Prefixes.{NoneUpTo, FirstLength}

module _ (g : Graph ℕ) (p q : Pair) (al : List ℕ) where
  pub longer_step : (k d : ℕ) → k < d → first_telling_longer g p q al k (d - k)
      ≡ or_else (first_telling g p q al (k + 1)) (first_telling_longer g p q al (k + 1) (d - (k + 1)))
  unfolding first_telling_longer
  longer_step k d h = let e : d - k ≡ suc (d - (k + 1)) = omega arith in rw (e, add-one)

  pub longer_end : (k d : ℕ) → d ≤ k → first_telling_longer g p q al k (d - k) ≡ none
  unfolding first_telling_longer
  longer_end k d h = let e : d - k ≡ 0 = omega arith in rw e

  -- no word is as long as there are parties
  module _ (l : p.first < g.parties) where
    none_long : (k : ℕ) → g.parties ≤ k → first_telling g p q al k ≡ none
    unfolding first_telling tells
    none_long k h =
        find_none_of (tells g p q) (words_of_length al k)
        (λ w m. let e : length w ≡ k = (length_out al k m).1 in rw (long_word g p w l (omega (arith, e))))

    -- what is told of the lengths one after another, up to the first with a word
    module _ {Told : ℕ → Maybe ShortWord → Type 0} (told : (k : ℕ) (r : Maybe ShortWord) → Told k r → WordAs (first_telling g p q al k) r)
        (from d : ℕ) where
      missing : (k : ℕ) → (k < g.parties → (r : Maybe ShortWord) × Told k r × (r ≡ None)) → first_telling g p q al k ≡ none
      missing k f = by_cases (dec_lt k g.parties) (λ b. let x = f b in rw x.2 at (told k x.0 x.1)) (λ b. none_long k (omega (arith, b)))

      none_up : (j k : ℕ) → k ≡ from + j → k ≤ d → NoneUpTo Told g.parties from k
          → first_telling_longer g p q al from (d - from) ≡ first_telling_longer g p q al k (d - k)
      none_up zero k e h f = let same : k ≡ from = omega (arith, e) in rw same
      none_up (suc j) k e h f =
          let next : from + j + 1 ≡ k = omega (arith, e) in
          none_up j (from + j) refl (omega arith) (λ i a b c. f i a (omega (arith, b)) c)
          ∙ longer_step (from + j) d (omega arith)
          ∙ rw (next, missing k (f k (omega arith) (omega arith)))

      pub first_length : (r : Maybe ShortWord) → FirstLength Told g.parties from d r
          → WordAs (first_telling_longer g p q al from (d - from)) r
      first_length None h =
          by_cases (dec_lt from d)
          (λ b. none_up (d - from) d (omega arith) (omega arith) h ∙ longer_end d d (omega arith))
          (λ b. longer_end from d (omega (arith, b)))
      first_length (Some w) x =
          none_up (x.0 - from) x.0 (omega (arith, x.1)) (omega (arith, x.2)) x.4 ∙ longer_step x.0 d x.2
          ∙ or_found _ _ (symbols_in w.word) (told (x.0 + 1) (Some w) x.3)

-- what is told at the numbers before the lengths
pub first_told : (Told : ℕ → Maybe ShortWord → Type 0) (n from d : ℕ) (r : Maybe ShortWord)
    → FirstGiven (λ x o. Told (x + 1) o) from (min d (n - 1)) r → FirstLength Told n from d r
first_told Told n from d r h = told r h
  where
    none_told : (k : ℕ) → NoneGiven (λ x o. Told (x + 1) o) from (min k (n - 1)) → NoneUpTo Told n from k
    none_told k f j low high below =
        let e : j - 1 + 1 ≡ j = omega arith in
        (None, rw e at (f (j - 1) (omega arith) (omega arith)), refl)

    told : (o : Maybe ShortWord) → FirstGiven (λ x o. Told (x + 1) o) from (min d (n - 1)) o → FirstLength Told n from d o
    told None f = none_told d f
    told (Some w) (x, low, high, t, f) = (x, low, omega arith, t, none_told x (λ k a b. f k a (omega arith)))

-- where the reading stands: the letters before place i are read
pub record Reading (symbols : List ℕ) (w r : Word) (i : ℕ) : Type 0 where
  pub len : r.len ≡ w.len
  pub within : i ≤ w.len
  pub read : symbols_in r ≡ in_symbols symbols (take i (symbols_in w)) ++ drop i (symbols_in w)

module _ {symbols : List ℕ} {w : Word} (short : Short w) where
  pub reading_next : {r x : Word} {i : ℕ} → Reading symbols w r i → i < w.len
      → x.len ≡ r.len → x.symbols ≡ set r.symbols i (letter_symbol symbols (get_or w.symbols i 0)) → Reading symbols w x (i + 1)
  reading_next {r} {x} {i} t h same put =
      let v : List ℕ = symbols_in w in
      let size : length v ≡ w.len = symbols_length w (short_fits short) in
      let s : ℕ = letter_symbol symbols (get_or w.symbols i 0) in
      let here : get_or v i 0 ≡ get_or w.symbols i 0 = get_or-take w.len w.symbols i 0 h in
      let n : length (in_symbols symbols (take i v)) ≡ i =
      length_map (letter_symbol symbols) (take i v) ∙ length-take-le i v (omega arith) in
      let before : symbols_in r ≡ in_symbols symbols (take i v) ++ (get_or v i 0 ∷ drop (suc i) v) =
      t.read ∙ ap (λ (l : List ℕ). in_symbols symbols (take i v) ++ l) (drop-cons v i 0 (omega arith)) in
      let after : in_symbols symbols (take (i + 1) v) ≡ in_symbols symbols (take i v) ++ (s ∷ []) =
      ap (in_symbols symbols) (ap (λ (j : ℕ). take j v) (add-one i) ∙ take-suc v i 0 (omega arith))
      ∙ map_append (letter_symbol symbols) (take i v) (get_or v i 0 ∷ [])
      ∙ ap (λ (y : ℕ). in_symbols symbols (take i v) ++ (letter_symbol symbols y ∷ [])) here in
      let stored : symbols_in x ≡ in_symbols symbols (take i v) ++ (s ∷ drop (suc i) v) =
      rw (same, put, take-set-lt r.len r.symbols i s (omega (arith, t.len)), before)
      (set_at (in_symbols symbols (take i v)) (get_or v i 0) (drop (suc i) v) s i n) in
      record {
        len = same ∙ t.len;
        within = omega arith;
        read = stored ∙ sym (append_assoc (in_symbols symbols (take i v)) (s ∷ []) (drop (suc i) v)) ∙ rw (after, add-one);
      }

-- a word found in letters, or none, in a graph and in the same in letters
module _ {g t : Graph ℕ} {symbols : List ℕ} {base end : ℕ} (lettered : Lettered g t symbols base end) (p q : Pair) (k j : ℕ)
    (first : IsPair g.parties p) (second : IsPair g.parties q) (al : List ℕ) (up : Ascending ltb al)
    (listed : (u v s : ℕ) → g.edge u v s ≡ true → Memᴰ s al) where
  longer_in_symbols : first_telling_longer g p q al k j ≡ map (in_symbols symbols) (first_telling_longer t p q (range base) k j)
  longer_in_symbols = telling_longer_in_symbols g t symbols base end lettered p q first second al up (λ u v s a b e. listed u v s e) k j

  pub found_in_symbols : (v x : List ℕ) → first_telling_longer t p q (range base) k j ≡ some v → x ≡ in_symbols symbols v
      → first_telling_longer g p q al k j ≡ some x
  found_in_symbols v x f same = longer_in_symbols ∙ ap (map (in_symbols symbols)) f ∙ ap some (sym same)

  pub none_in_symbols : first_telling_longer t p q (range base) k j ≡ none → first_telling_longer g p q al k j ≡ none
  none_in_symbols f = longer_in_symbols ∙ ap (map (in_symbols symbols)) f
