-- What stands at a place of a checked list: the next entry is the first of those ahead. Assumes nothing.
use Rattle.std.proofs.Common.{◌≡◌, refl, sym, ap, ◌∙◌, true, List, [], ◌∷◌, ◌++◌, append_assoc, append-nil, ℕ, ◌+◌, ◌/◌, ◌-◌, ◌≤◌, ◌<◌}
use Rattle.std.proofs.Common.{arith, length, take, drop, get_or, length-append, length-drop, get_or-drop, leb, ltb, leb-true, ltb-true}
use mathlib.Core.List.{Memᴰ}
use Rattle.std.proofs.Math.Option.{Option, none, some}
use Rattle.std.proofs.Math.Seq.{take-append_seam, drop-append_seam}
use Rattle.lists.specs.Lists.{all_of, flat_map}
use Rattle.lists.proofs.Cases.{and_left, and_right}
use Rattle.fields.specs.Numbers.{u16_at, u16_bytes}
use Rattle.lists.proofs.ListLaws.{all_in}
use Rattle.lists.proofs.Pointwise.{get_or_below}
use Rattle.search.proofs.ValueLaws.{value_full, value_below, word_symbols}
use Rattle.search.specs.Word.{symbols_in}
use Rattle.search.specs.promises.WordValues.{Short, word_of}
use Rattle.rule_bytes.specs.ListBytes.{encode_word, encode_term, encode_list, Parsed, parsed, decode_count, legal_word, LegalTerm}
use Rattle.rule_bytes.specs.ListBytes.{LegalList}
use Rattle.graph.specs.Legal.{legal_symbol}
use Rattle.rule_bytes.specs.promises.Reading.{WordFits, word_at, FitWord, FitTerm, FitList, TermAt, IsList, Ahead}
use Rattle.rule_bytes.specs.declared.read.WordRead.{WordRead}
use Rattle.fields.proofs.NumberLaws.{u16_size}
use Rattle.rule_bytes.proofs.RoundTrip.{count_encode}
use Rattle.rule_bytes.proofs.ReadingLaws.{drop_on, count_here}

-- the first of the entries ahead
pub record Entry {A : Type 0} (e : A → List ℕ) (P : A → Type 0) (b : List ℕ) (place left : ℕ) (xs : List A) (s : List ℕ) : Type 0 where
  pub first : A
  pub rest : List A
  pub split : xs ≡ first ∷ rest
  pub bytes : drop place b ≡ e first ++ (flat_map e rest ++ s)
  pub fits : P first
  pub onward : (next : ℕ) → drop next b ≡ flat_map e rest ++ s → Ahead e P b next (left - 1) rest s

module _ {A : Type 0} {e : A → List ℕ} {P : A → Type 0} {b : List ℕ} {place left : ℕ} {s : List ℕ} where
  pub entry : (xs : List A) → Ahead e P b place left xs s → 0 < left → Entry e P b place left xs s
  unfolding flat_map
  entry [] a h = absurd (omega (arith, a.number))
  entry (x ∷ xs) a h = record {
    first = x;
    rest = xs;
    split = refl;
    bytes = a.bytes ∙ append_assoc (e x) (flat_map e xs) s;
    fits = a.fits x (Memᴰ.head refl);
    onward = λ next k. record { bytes = k; number = omega (arith, a.number); fits = λ y m. a.fits y (Memᴰ.tail m) };
  }

  pub no_more : (xs : List A) → Ahead e P b place left xs s → left ≡ 0 → (xs ≡ []) × (drop place b ≡ s)
  unfolding flat_map
  no_more [] a z = (refl, a.bytes)
  no_more (x ∷ xs) a z = absurd (omega (arith, a.number))

-- a word at a place
module _ (b : List ℕ) (at : ℕ) (w s : List ℕ) (here : drop at b ≡ encode_word w ++ s) where
  word_byte : get_or b at 0 ≡ length w
  unfolding encode_word
  word_byte = let z : at + 0 ≡ at = omega arith in ap (λ (i : ℕ). get_or b i 0) (sym z) ∙ sym (get_or-drop at b 0 0) ∙ rw here

  word_tail : drop (at + 1) b ≡ w ++ s
  unfolding encode_word
  word_tail = sym (drop_on b at 1) ∙ rw here

  pub word_room : at + 1 + length w ≤ length b
  unfolding encode_word
  word_room = omega (arith, length-drop at b, ap length here, length-append w s)

  pub word_value : (word_at b at).word ≡ word_of w
  word_value = let k : take (get_or b at 0) (drop (at + 1) b) ≡ w = rw (word_byte, word_tail) (take-append_seam w s) in ap word_of k

  -- the same of a word that was read there
  pub word_read : {r : WordRead} → r ≡ word_at b at → r.word ≡ word_of w
  word_read e = ap (λ (r : WordRead). r.word) e ∙ word_value

  pub read_symbols : {r : WordRead} → r ≡ word_at b at → symbols_in r.word ≡ w
  read_symbols e = ap symbols_in (word_read e) ∙ word_symbols w

  pub word_next : drop (word_at b at).next b ≡ s
  word_next = rw word_byte (sym (drop_on b (at + 1) (length w)) ∙ rw word_tail (drop-append_seam w s))

  pub word_ends : (word_at b at).next ≡ at + 1 + length w
  word_ends = rw word_byte

  pub word_fits : FitWord w → WordFits b at
  word_fits f = record {
    place = omega (arith, word_room);
    small = omega (arith, word_byte, f.len);
    end = omega (arith, word_byte, word_room);
  }

-- the word value of a word that fits
pub word_short : (w : List ℕ) → FitWord w → Short (word_of w)
word_short w f = record { len = f.len; full = value_full w f.len; symbols = λ i short. value_below 32 (omega arith) w f.symbols i }

-- a count at a place
abbrev count_in : Option (Parsed ℕ) → ℕ
count_in none = 0
count_in (some r) = r.value

abbrev rest_in : Option (Parsed ℕ) → List ℕ
rest_in none = []
rest_in (some r) = r.rest

module _ (b : List ℕ) (at n : ℕ) (s : List ℕ) (here : drop at b ≡ u16_bytes n ++ s) where
  pub count_room : at + 1 < length b
  count_room = omega (arith, length-drop at b, ap length here, length-append (u16_bytes n) s, u16_size n)

  count_both : parsed (u16_at b at) (drop (at + 2) b) ≡ parsed n s
  count_both = sym (count_here b at count_room) ∙ ap decode_count here ∙ count_encode n s

  pub count_value : u16_at b at ≡ n
  count_value = ap count_in count_both

  pub count_next : drop (at + 2) b ≡ s
  count_next = ap rest_in count_both

pub term_room : (b : List ℕ) (at : ℕ) (t : List (List ℕ)) (s : List ℕ) → TermAt b at t s → at + 1 < length b
unfolding encode_term
term_room b at t s h =
    let e = h.bytes ∙ append_assoc (u16_bytes (length t)) (flat_map encode_word t) s in
    count_room b at (length t) (flat_map encode_word t ++ s) e

pub term_ahead :
    (b : List ℕ) (at : ℕ) (t : List (List ℕ)) (s : List ℕ) → TermAt b at t s → Ahead encode_word FitWord b (at + 2) (u16_at b at) t s
unfolding encode_term
term_ahead b at t s h =
    let e = h.bytes ∙ append_assoc (u16_bytes (length t)) (flat_map encode_word t) s in
    record {
      bytes = count_next b at (length t) (flat_map encode_word t ++ s) e;
      number = sym (count_value b at (length t) (flat_map encode_word t ++ s) e);
      fits = h.fits.words;
    }

pub list_room_lem : (b : List ℕ) (l : List (List (List ℕ))) → IsList b l → 1 < length b
unfolding encode_list
list_room_lem b l h = count_room b 0 (length l) (flat_map encode_term l) h.bytes

pub list_ahead : (b : List ℕ) (l : List (List (List ℕ))) → IsList b l → Ahead encode_term FitTerm b 2 (u16_at b 0) l []
unfolding encode_list
list_ahead b l h =
    record {
      bytes = count_next b 0 (length l) (flat_map encode_term l) h.bytes ∙ sym (append-nil (flat_map encode_term l));
      number = sym (count_value b 0 (length l) (flat_map encode_term l) h.bytes);
      fits = h.fits.terms;
    }

-- of `number` terms the first i were read: the next one, and that it stands at the place
module _ {b : List ℕ} {place number i : ℕ} {l : List (List (List ℕ))} (ahead : Ahead encode_term FitTerm b place (number - i) l [])
    (h : i < number) where
  pub next_term : Entry encode_term FitTerm b place (number - i) l []
  next_term = entry l ahead (omega (arith, h))

  pub next_term_at : TermAt b place next_term.first (flat_map encode_term next_term.rest ++ [])
  next_term_at = record { bytes = next_term.bytes; fits = next_term.fits }

-- a legal list fits, by the limits of L and D
module _ (labels language longest : ℕ) (bounded : labels ≤ 8) (short : longest ≤ 31) where
  symbols_small : (w : List ℕ) → all_of (legal_symbol labels language) w ≡ true → (i : ℕ) → get_or w i 0 < 32
  unfolding legal_symbol
  symbols_small w h =
      get_or_below 32 (omega arith) w (λ s m.
      let k : s / 4 < labels = ltb-true _ _ (and_left (ltb (s / 4) labels) _ (all_in (legal_symbol labels language) w h m)) in
      omega arith)

  pub word_legal_fits : (w : List ℕ) → legal_word labels language longest w ≡ true → FitWord w
  unfolding legal_word
  word_legal_fits w h =
      let k = and_right (leb 1 (length w)) _ h in
      let l : length w ≤ longest = leb-true _ _ (and_left _ _ k) in
      record { len = omega arith; symbols = symbols_small w (and_right (leb (length w) longest) _ k) }

  term_legal_fits : (t : List (List ℕ)) → LegalTerm labels language longest t → FitTerm t
  term_legal_fits t k = record { number = k.fits; words = λ w n. word_legal_fits w (k.words w n) }

  pub list_legal_fits : (l : List (List (List ℕ))) → LegalList labels language longest l → FitList l
  list_legal_fits l h = record { number = h.fits; terms = λ t m. term_legal_fits t (h.terms t m) }
