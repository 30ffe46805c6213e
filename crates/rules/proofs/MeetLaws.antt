-- A pair against the terms of a list, word by word: what was read so far and what is ahead give the whole. Assumes nothing.
use Rattle.std.proofs.Common.{◌≡◌, refl, sym, ap, ◌∙◌, Bool, true, false, ◌&&◌, List, [], ◌++◌, ℕ, ◌+◌, ◌-◌, ◌<◌, ◌≤◌, arith, drop}
use Rattle.std.proofs.Math.Nat.{sub-zero}
use Rattle.std.proofs.Math.Bool.{and-true, and_assoc}
use Rattle.lists.specs.Lists.{all_of, any_of, flat_map}
use Rattle.fields.specs.Numbers.{u16_at}
use Rattle.rule_bytes.specs.ListBytes.{encode_term}
use Rattle.rule_bytes.specs.promises.Reading.{FitTerm, IsList, Ahead}
use Rattle.rule_bytes.specs.promises.Words.{AreAhead, NextWord}
use Rattle.rule_bytes.specs.declared.words.Words.{Words}
use Rattle.rule_bytes.proofs.PlaceLaws.{next_term, no_more, list_room_lem, list_ahead}
use Rattle.rule_bytes.proofs.WordsLaws.{word_given}
use Rattle.search.specs.Word.{symbols_in}
use Rattle.search.specs.declared.word.ShortWord.{ShortWord}

-- a term of which some words were read: p holds of all of them, or `met` is false
pub record TermSoFar (p : List ℕ → Bool) (words : Words) (met : Bool) (t : List (List ℕ)) (s : List ℕ) : Type 0 where
  pub rest : List (List ℕ)
  pub ahead : AreAhead words rest s
  pub same : all_of p t ≡ (met && all_of p rest)

module _ {p : List ℕ → Bool} {t : List (List ℕ)} {s : List ℕ} {words : Words} where
  pub meet_start : AreAhead words t s → TermSoFar p words true t s
  meet_start h = record { rest = t; ahead = h; same = refl }

  module _ {met : Bool} (f : TermSoFar p words met t s) where
    pub meet_next : {w : ShortWord} {new : Words} → NextWord words w new → (more : Bool) → more ≡ (met && p (symbols_in w.word))
        → TermSoFar p new more t s
    unfolding all_of
    meet_next {w} n more e =
        let g = word_given f.ahead n in
        record {
          rest = g.rest;
          ahead = g.ahead;
          same =
              f.same
              ∙ ap (λ (w : List (List ℕ)). met && all_of p w) g.split
              ∙ sym (and_assoc met (p (symbols_in w.word)) (all_of p g.rest))
              ∙ ap (λ (q : Bool). q && all_of p g.rest) (sym e);
        }

    pub meet_end : {new : Words} → (words.left ≡ 0) × (new ≡ words) → (met ≡ all_of p t) × (drop new.place new.list.now ≡ s)
    unfolding all_of
    meet_end z =
        let k = no_more _ f.ahead z.0 in
        rw z.1 (sym (f.same ∙ ap (λ (w : List (List ℕ)). met && all_of p w) k.0 ∙ and-true met), k.1)

-- a list of which no term so far passed q
pub record ListSoFar (q : List (List ℕ) → Bool) (b : List ℕ) (place left : ℕ) (l : List (List (List ℕ))) : Type 0 where
  pub rest : List (List (List ℕ))
  pub ahead : Ahead encode_term FitTerm b place left rest []
  pub same : any_of q l ≡ any_of q rest

module _ {q : List (List ℕ) → Bool} {b : List ℕ} {l : List (List (List ℕ))} where
  pub list_start : {number : ℕ} → IsList b l → number ≡ u16_at b 0 → ListSoFar q b 2 (number - 0) l
  list_start h e = record { rest = l; ahead = rw (sub-zero, e) (list_ahead b l h); same = refl }

  -- of `number` terms the first i were read
  module _ {place number i : ℕ} (f : ListSoFar q b place (number - i) l) where
    module _ (h : i < number) where
      pub list_next :
          (next : ℕ) → drop next b ≡ flat_map encode_term (next_term f.ahead h).rest ++ [] → q (next_term f.ahead h).first ≡ false
          → ListSoFar q b next (number - (i + 1)) l
      unfolding any_of
      list_next next k e =
          let n = next_term f.ahead h in
          let left : number - i - 1 ≡ number - (i + 1) = omega arith in
          record { rest = n.rest; ahead = rw (← left) (n.onward next k); same = f.same ∙ ap (any_of q) n.split ∙ rw e }

      pub list_yes : q (next_term f.ahead h).first ≡ true → any_of q l ≡ true
      unfolding any_of
      list_yes e = f.same ∙ ap (any_of q) (next_term f.ahead h).split ∙ rw e

    pub list_no : number ≤ i → any_of q l ≡ false
    unfolding any_of
    list_no z = f.same ∙ ap (any_of q) (no_more _ f.ahead (omega arith)).0

-- and of `meets_list`, but for those of its loop
pub ruleset list_laws = (list_room_lem, list_start, list_no)
