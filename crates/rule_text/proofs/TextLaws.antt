-- Text written entry after entry is the text of all; it has at most three bytes for each byte of the list. Assumes nothing.
use Rattle.std.proofs.Common.{◌≡◌, refl, sym, ap, ◌∙◌, Bool, true, false, List, [], ◌∷◌, ◌++◌, append_assoc, append-nil, ℕ, ◌+◌, ◌*◌, ◌-◌}
use Rattle.std.proofs.Common.{◌≤◌, ◌<◌, arith, add-one, length, drop, get_or, length-append, length-drop, drop-cons, eqb, eqb-true}
use Rattle.std.proofs.lemmas.Bool.{eqb-false}
use Rattle.std.proofs.Math.Nat.{sub-zero}
use Rattle.lists.specs.Lists.{flat_map, pick}
use Rattle.lists.proofs.Cases.{by_test}
use Rattle.fields.specs.Numbers.{u16_at, u16_bytes}
use Rattle.rule_bytes.specs.ListBytes.{encode_word, encode_term}
use Rattle.rule_bytes.specs.promises.Reading.{FitTerm, IsList, Ahead}
use Rattle.rule_bytes.specs.promises.Words.{AreAhead, NextWord}
use Rattle.rule_bytes.specs.declared.words.Words.{Words}
use Rattle.rule_bytes.proofs.WordsLaws.{ReadWord, word_given}
use Rattle.search.specs.Word.{symbols_in}
use Rattle.search.specs.declared.word.ShortWord.{ShortWord}
use Rattle.fields.specs.promises.Writing.{put}
use Rattle.rule_text.specs.Text.{symbol_text, after, joined, dot, ampersand, line_end, word_text, term_text, list_text}
use Rattle.fields.proofs.PutLaws.{put_nil, put_put, put_length, then_one, then_put}
use Rattle.rule_bytes.proofs.CopyLaws.{mid_put}
use Rattle.fields.proofs.NumberLaws.{u16_size}
use Rattle.rule_bytes.proofs.PlaceLaws.{next_term, no_more, list_room_lem, list_ahead}

-- T: the text of a list; what was written so far and the text of the rest give the text of all
pub record TextSoFar {A : Type 0} (T : List A → List ℕ) (l rest : List A) (b out : List ℕ) (at end : ℕ) : Type 0 where
  pub done : List ℕ
  pub text : T l ≡ done ++ T rest
  pub written : out ≡ put b at done
  pub place : end ≡ at + length done

module _ {A : Type 0} {T : List A → List ℕ} {l : List A} {b : List ℕ} {at : ℕ} where
  pub text_start : TextSoFar T l l b b at at
  text_start = record { done = []; text = refl; written = sym (put_nil b at); place = omega arith }

  module _ {rest : List A} {out : List ℕ} {end : ℕ} (f : TextSoFar T l rest b out at end) where
    pub text_next :
        (more : List A) (piece : List ℕ) {out' : List ℕ} {end' : ℕ} → at ≤ length b → T rest ≡ piece ++ T more
        → out' ≡ put out end piece → end' ≡ end + length piece → TextSoFar T l more b out' at end'
    text_next more piece h e o p = record {
      done = f.done ++ piece;
      text = f.text ∙ ap (λ (x : List ℕ). f.done ++ x) e ∙ sym (append_assoc f.done piece (T more));
      written = o ∙ rw (f.written, f.place) (put_put b at f.done piece h);
      place = omega (arith, f.place, length-append f.done piece);
    }

    pub text_end : T rest ≡ [] → (out ≡ put b at (T l)) × (end ≡ at + length (T l))
    text_end e =
        let k : T l ≡ f.done = f.text ∙ ap (λ (x : List ℕ). f.done ++ x) e ∙ append-nil f.done in
        (rw k f.written, rw k f.place)

-- the next entry of a joined text
module _ {A : Type 0} (f : A → List ℕ) (between last : List ℕ) where
  pub joined_next : (x : A) (l : List A) → joined f between last (x ∷ l) ≡ (f x ++ after between last l) ++ joined f between last l
  unfolding joined
  joined_next x l = sym (append_assoc (f x) (after between last l) (joined f between last l))

  pub joined_nil : joined f between last [] ≡ []
  unfolding joined
  joined_nil = refl

  -- what follows an entry, by a test whether more follow
  pub after_test :
      (l : List A) (m n : ℕ) → (m ≡ n → length l ≡ 0) → ((m ≡ n → ⊥) → 0 < length l)
      → pick (eqb m n) last between ≡ after between last l
  after_test [] m n y z = by_test (eqb m n) (λ e. rw e) (λ e. absurd (omega (arith, z (eqb-false m n e))))
  after_test (x ∷ l) m n y z = by_test (eqb m n) (λ e. absurd (omega (arith, y (eqb-true m n e)))) (λ e. rw e)

  -- at most so many bytes for each entry
  joined_length : (k : ℕ) → length between ≤ k → length last ≤ k → (l : List A) → length (after between last l) ≤ k
  joined_length k p q [] = q
  joined_length k p q (x ∷ l) = p

-- the text of symbols of a word, and of words of a term
abbrev pub symbols_text : List ℕ → List ℕ
symbols_text w = joined symbol_text dot [] w

abbrev pub words_text : List (List ℕ) → List ℕ
words_text t = joined word_text ampersand line_end t

symbol_length : (s : ℕ) → length (symbol_text s) ≡ 2
unfolding symbol_text
symbol_length s = refl

pub piece_length : (s : ℕ) (q : Bool) → length (symbol_text s ++ pick q [] dot) ≤ 3
piece_length s true = omega (arith, length-append (symbol_text s) [], symbol_length s)
piece_length s false = omega (arith, length-append (symbol_text s) dot, symbol_length s)

pub word_length : (w : List ℕ) → length (word_text w) ≤ 3 * length w
unfolding word_text
word_length [] = rw (joined_nil symbol_text dot []) (omega arith)
word_length (s ∷ w) =
    let a : length (after dot [] w) ≤ 1 = joined_length symbol_text dot [] 1 (omega arith) (omega arith) w in
    let all = ap length (joined_next symbol_text dot [] s w) in
    let both = length-append (symbol_text s ++ after dot [] w) (symbols_text w) in
    omega (arith, all, both, length-append (symbol_text s) (after dot [] w), symbol_length s, word_length w)

pub entry_length : (w : List ℕ) (q : Bool) → length (word_text w ++ pick q line_end ampersand) ≤ 3 * length w + 3
entry_length w true = omega (arith, length-append (word_text w) line_end, word_length w)
entry_length w false = omega (arith, length-append (word_text w) ampersand, word_length w)

pub term_length : (t : List (List ℕ)) → length (term_text t) ≤ 3 * length (flat_map encode_word t)
unfolding term_text flat_map encode_word
term_length [] = rw (joined_nil word_text ampersand line_end) (omega arith)
term_length (w ∷ t) =
    let a : length (after ampersand line_end t) ≤ 3 = joined_length word_text ampersand line_end 3 (omega arith) (omega arith) t in
    let all = ap length (joined_next word_text ampersand line_end w t) in
    let both = length-append (word_text w ++ after ampersand line_end t) (words_text t) in
    let first = length-append (word_text w) (after ampersand line_end t) in
    omega (arith, all, both, first, word_length w, term_length t, length-append w (flat_map encode_word t))

-- the next symbol of a word
pub word_step :
    (w : List ℕ) (i : ℕ) → i < length w
    → symbols_text (drop i w)
    ≡ (symbol_text (get_or w i 0) ++ pick (eqb (i + 1) (length w)) [] dot) ++ symbols_text (drop (i + 1) w)
word_step w i h =
    let r : List ℕ = drop (i + 1) w in
    let x : ℕ = get_or w i 0 in
    let m : length r ≡ length w - (i + 1) = length-drop (i + 1) w in
    let d : drop i w ≡ x ∷ r = drop-cons w i 0 h ∙ rw (add-one i) in
    let a = after_test symbol_text dot [] r (i + 1) (length w) (λ q. omega (arith, m)) (λ q. omega (arith, m, q)) in
    ap symbols_text d ∙ joined_next symbol_text dot [] x r ∙ ap (λ (z : List ℕ). (symbol_text x ++ z) ++ symbols_text r) (sym a)

-- after a word's text there is room for the three bytes that follow it at most
pub text_ends :
    (out word : List ℕ) (at : ℕ) (new : List ℕ) (end : ℕ) → new ≡ put out at (word_text word) → end ≡ at + length (word_text word)
    → at + 3 * length word + 3 ≤ length out → end + 3 ≤ length new
text_ends out word at new end e k h =
    let m : length new ≡ length out = ap length e ∙ put_length out at (word_text word) (omega (arith, word_length word)) in
    omega (arith, word_length word, m, k)

-- by these the goals of `put_entry_text` are found
pub ruleset entry_laws = (text_ends, word_length, then_one, then_put, mid_put)

-- a term's text, word by word from its bytes
pub record TermTextSoFar (words : Words) (t : List (List ℕ)) (s o out : List ℕ) (to end : ℕ) : Type 0 where
  pub rest : List (List ℕ)
  pub ahead : AreAhead words rest s
  pub text : TextSoFar words_text t rest o out to end
  pub room : end + 3 * (length words.list.now - words.place) ≤ length out

module _ {words : Words} {t : List (List ℕ)} {s o : List ℕ} {to : ℕ} where
  pub term_text_start : AreAhead words t s → to + 3 * (length words.list.now - words.place) ≤ length o → TermTextSoFar words t s o o to to
  term_text_start h r = record { rest = t; ahead = h; text = text_start; room = r }

  module _ {out : List ℕ} {end : ℕ} (f : TermTextSoFar words t s o out to end) where
    -- the next word
    module _ {w : ShortWord} {new : Words} (n : NextWord words w new) where
      read : ReadWord words w new f.rest s
      read = word_given f.ahead n

      pub entry_room : end + 3 * length (symbols_in w.word) + 3 ≤ length out
      entry_room = omega (arith, f.room, read.place, read.within)

      -- its text, and what follows it
      abbrev piece_text : List ℕ
      piece_text = word_text (symbols_in w.word) ++ pick (eqb new.left 0) line_end ampersand

      pub term_text_next :
          {out' : List ℕ} {end' : ℕ} → to ≤ length o → out' ≡ put out end piece_text → end' ≡ end + length piece_text
          → TermTextSoFar new t s o out' to end'
      term_text_next {out'} r x y =
          let left : length read.rest ≡ new.left = read.ahead.number in
          let p : length piece_text ≤ 3 * length (symbols_in w.word) + 3 = entry_length (symbols_in w.word) (eqb new.left 0) in
          let l : length out' ≡ length out = ap length x ∙ put_length out end piece_text (omega (arith, entry_room)) in
          let a : pick (eqb new.left 0) line_end ampersand ≡ after ampersand line_end read.rest =
          after_test word_text ampersand line_end read.rest new.left 0 (λ q. omega (arith, left)) (λ q. omega (arith, left, q)) in
          let d : words_text f.rest ≡ piece_text ++ words_text read.rest =
          ap words_text read.split
          ∙ joined_next word_text ampersand line_end (symbols_in w.word) read.rest
          ∙ ap (λ (z : List ℕ). (word_text (symbols_in w.word) ++ z) ++ words_text read.rest) (sym a) in
          record {
            rest = read.rest;
            ahead = read.ahead;
            text = text_next f.text read.rest piece_text r d x y;
            room = rw n.list (omega (arith, f.room, l, p, y, read.place, read.within));
          }

    pub term_text_end : words.left ≡ 0
        → (out ≡ put o to (term_text t)) × ((end ≡ to + length (term_text t)) × (drop words.place words.list.now ≡ s))
    unfolding term_text
    term_text_end z =
        let k = no_more _ f.ahead z in
        let empty = ap words_text k.0 ∙ joined_nil word_text ampersand line_end in
        let r = text_end f.text empty in
        (r.0, (r.1, k.1))

-- a list's text, term by term
pub record ListTextSoFar (b : List ℕ) (place left : ℕ) (l : List (List (List ℕ))) (o out : List ℕ) (end : ℕ) : Type 0 where
  pub rest : List (List (List ℕ))
  pub ahead : Ahead encode_term FitTerm b place left rest []
  pub text : TextSoFar (flat_map term_text) l rest o out 0 end
  pub room : end + 3 * (length b - place) ≤ length out

module _ {b : List ℕ} {l : List (List (List ℕ))} {o : List ℕ} where
  pub list_text_start : {number : ℕ} → IsList b l → number ≡ u16_at b 0 → 3 * length b ≤ length o → ListTextSoFar b 2 (number - 0) l o o 0
  list_text_start h e r = record {
    rest = l;
    ahead = rw (sub-zero, e) (list_ahead b l h);
    text = text_start;
    room = omega arith;
  }

  -- of `number` terms the first i were written
  module _ {place number i : ℕ} {out : List ℕ} {end : ℕ} (f : ListTextSoFar b place (number - i) l o out end) where
    module _ (h : i < number) where
      pub list_text_next :
          {out' : List ℕ} {end' : ℕ} (next : ℕ) → out' ≡ put out end (term_text (next_term f.ahead h).first)
          → end' ≡ end + length (term_text (next_term f.ahead h).first)
          → drop next b ≡ flat_map encode_term (next_term f.ahead h).rest ++ [] → ListTextSoFar b next (number - (i + 1)) l o out' end'
      unfolding flat_map encode_term
      list_text_next {out'} next x y z =
          let n = next_term f.ahead h in
          let p = term_length n.first in
          let after-term : List ℕ = flat_map encode_term n.rest ++ [] in
          let m : length b - place ≡ length (encode_term n.first) + length after-term =
          sym (length-drop place b) ∙ ap length n.bytes ∙ length-append (encode_term n.first) after-term in
          let q : length b - next ≡ length after-term = sym (length-drop next b) ∙ ap length z in
          let u : length (encode_term n.first) ≡ 2 + length (flat_map encode_word n.first) =
          length-append (u16_bytes (length n.first)) (flat_map encode_word n.first)
          ∙ omega (arith, u16_size (length n.first)) in
          let d : end + length (term_text n.first) ≤ length out = omega (arith, f.room) in
          let k : length out' ≡ length out = ap length x ∙ put_length out end (term_text n.first) d in
          let split = ap (flat_map term_text) n.split in
          let left : number - i - 1 ≡ number - (i + 1) = omega arith in
          record {
            rest = n.rest;
            ahead = rw (← left) (n.onward next z);
            text = text_next f.text n.rest (term_text n.first) (omega arith) split x y;
            room = omega (arith, f.room);
          }

    pub list_text_end : number ≤ i → (out ≡ put o 0 (list_text l)) × (end ≡ length (list_text l))
    unfolding flat_map list_text
    list_text_end z =
        let k = no_more _ f.ahead (omega arith) in
        let r = text_end f.text (ap (flat_map term_text) k.0) in
        (r.0, omega (arith, r.1))

-- and of `list_text`, but for those of its loop
pub ruleset list_laws = (list_room_lem, list_text_start, list_text_end)
