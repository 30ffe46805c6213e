-- The words of a term as they are read: the word read is the first of those ahead, and the rest are ahead then. Assumes nothing.
use Rattle.std.proofs.Common.{◌≡◌, ap, ◌∙◌, List, ◌∷◌, ℕ, ◌+◌, ◌-◌, ◌≤◌, arith, length}
use Rattle.search.specs.Word.{symbols_in}
use Rattle.search.specs.declared.word.ShortWord.{ShortWord}
use Rattle.rule_bytes.specs.promises.Reading.{word_at, FitWord, Ahead}
use Rattle.rule_bytes.specs.ListBytes.{encode_word}
use Rattle.rule_bytes.specs.promises.Words.{AreAhead, NextWord}
use Rattle.rule_bytes.specs.declared.read.WordRead.{WordRead}
use Rattle.rule_bytes.specs.declared.words.Words.{Words}
use Rattle.rule_bytes.proofs.PlaceLaws.{entry, read_symbols, word_next, word_ends, word_room}

-- the word w was read from where the words t were ahead
pub record ReadWord (old : Words) (w : ShortWord) (new : Words) (t : List (List ℕ)) (s : List ℕ) : Type 0 where
  pub rest : List (List ℕ)
  pub split : t ≡ symbols_in w.word ∷ rest
  pub fits : FitWord (symbols_in w.word)
  pub ahead : AreAhead new rest s
  pub place : new.place ≡ old.place + 1 + length (symbols_in w.word)
  pub within : new.place ≤ length old.list.now

words_on : {old new : Words} {w : ShortWord} {rest : List (List ℕ)} {s : List ℕ} → NextWord old w new
    → Ahead encode_word FitWord old.list.now (word_at old.list.now old.place).next (old.left - 1) rest s → AreAhead new rest s
words_on {old} {new} n a =
    let next = ap (λ (r : WordRead). r.next) n.read in
    let left : old.left - 1 ≡ new.left = omega (arith, n.left) in
    rw (n.list, next, ← left) a

pub word_given : {old new : Words} {w : ShortWord} {t : List (List ℕ)} {s : List ℕ} → AreAhead old t s → NextWord old w new
    → ReadWord old w new t s
word_given {old} {new} {w} {t} {s} a n =
    let h = entry t a (omega (arith, n.left)) in
    let read = read_symbols old.list.now old.place h.first _ h.bytes n.read in
    let ends : new.place ≡ old.place + 1 + length h.first =
    ap (λ (r : WordRead). r.next) n.read ∙ word_ends old.list.now old.place h.first _ h.bytes in
    record {
      rest = h.rest;
      split = rw read h.split;
      fits = rw read h.fits;
      ahead = words_on n (h.onward (word_at old.list.now old.place).next (word_next old.list.now old.place h.first _ h.bytes));
      place = rw read ends;
      within = omega (arith, ends, word_room old.list.now old.place h.first _ h.bytes);
    }
