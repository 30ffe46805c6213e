-- A legal list and its bytes are each other's, by the laws of entries one after another (Parsing). Assumes nothing.
use Rattle.std.proofs.Common.{◌≡◌, refl, sym, ap, ◌∙◌, true, ◌&&◌, List, [], ◌∷◌, ◌++◌, append_assoc}
use Rattle.std.proofs.Common.{append-nil, ℕ, ◌+◌, ◌*◌, ◌/◌, ◌%◌, ◌≤◌, ◌<◌, arith, length, take, drop}
use Rattle.std.proofs.Common.{take-append-drop, length-append, length-take-le, leb, leb-true, le-leb}
use Rattle.std.proofs.Math.Option.{some}
use Rattle.std.proofs.Math.Seq.{take-append_seam, drop-append_seam}
use Rattle.lists.specs.Lists.{flat_map}
use Rattle.lists.specs.Order.{sum_of}
use Rattle.lists.proofs.Cases.{and_left, and_right}
use Rattle.lists.proofs.OrderLaws.{length_flat}
use Rattle.lists.proofs.Pieces.{flat_snoc}
use Rattle.fields.specs.Numbers.{u16_bytes, Bytes}
use Rattle.rule_bytes.specs.ListBytes.{encode_word, encode_term, encode_list, Parsed, parsed, whole, decode_count, legal_word}
use Rattle.rule_bytes.specs.ListBytes.{decode_word, decode_term, decode_terms, decode_list, LegalTerm, LegalList}
use Rattle.fields.proofs.NumberLaws.{u16_size}
use Rattle.rule_bytes.proofs.Parsing.{not_some, then_some, given_some, bytes_after, Back, many_encode, many_decode}

-- counts
pub count_encode : (n : ℕ) (s : List ℕ) → decode_count (u16_bytes n ++ s) ≡ parsed n s
unfolding u16_bytes decode_count
count_encode n s = let e : n % 256 + n / 256 * 256 ≡ n = omega arith in rw e

pub count_decode : (s : List ℕ) (r : Parsed ℕ) → Bytes s → decode_count s ≡ some r → Back u16_bytes (λ n. n < 65536) s r.value r.rest
unfolding u16_bytes decode_count
count_decode [] r h e = not_some e
count_decode (a ∷ []) r h e = not_some e
count_decode (a ∷ b ∷ s) r h e =
    let v : a + b * 256 ≡ r.value = cc in
    let t : s ≡ r.rest = cc in
    let x : a < 256 = h 0 in
    let y : b < 256 = h 1 in
    let p : (a + b * 256) % 256 ≡ a = omega arith in
    let q : (a + b * 256) / 256 ≡ b = omega arith in
    rw (← v, ← t) (record { bytes = rw (p, q); holds = omega arith })

module _ (labels language longest : ℕ) where
  -- words
  pub word_encode :
      (w : List ℕ) → legal_word labels language longest w ≡ true → (s : List ℕ)
      → decode_word labels language longest (encode_word w ++ s) ≡ parsed w s
  unfolding encode_word decode_word
  word_encode w h s =
      let fits = le-leb (length w) (length (w ++ s)) (omega (arith, length-append w s)) in
      rw (take-append_seam w s, drop-append_seam w s, fits, h)

  pub word_decode : (s : List ℕ) (r : Parsed (List ℕ)) → Bytes s → decode_word labels language longest s ≡ some r
      → Back encode_word (λ w. legal_word labels language longest w ≡ true) s r.value r.rest
  unfolding encode_word decode_word
  word_decode [] r h e = not_some e
  word_decode (k ∷ s) r h e =
      let g = given_some (leb k (length s) && legal_word labels language longest (take k s)) _ e in
      let v : take k s ≡ r.value = cc g.1 in
      let t : drop k s ≡ r.rest = cc g.1 in
      let l : k ≤ length s = leb-true k (length s) (and_left _ _ g.0) in
      rw (← v, ← t) (record { bytes = rw (length-take-le k s l, take-append-drop k s); holds = and_right (leb k (length s)) _ g.0 })

  -- terms
  pub term_encode :
      (t : List (List ℕ)) → LegalTerm labels language longest t → (s : List ℕ)
      → decode_term labels language longest (encode_term t ++ s) ≡ parsed t s
  unfolding encode_term decode_term
  term_encode t h s =
      let count = count_encode (length t) (flat_map encode_word t ++ s) in
      rw (append_assoc (u16_bytes (length t)) (flat_map encode_word t) s, count, le-leb 1 (length t) h.full)
      (many_encode (decode_word labels language longest) encode_word t s (λ w m. word_encode w (h.words w m)))

  pub term_decode : (s : List ℕ) (r : Parsed (List (List ℕ))) → Bytes s → decode_term labels language longest s ≡ some r
      → Back encode_term (LegalTerm labels language longest) s r.value r.rest
  unfolding encode_term decode_term
  term_decode s r h e =
      let u = then_some (decode_count s) _ e in
      let n = count_decode s u.0 h u.1 in
      let g = given_some (leb 1 u.0.value) _ u.2 in
      let after = bytes_after (u16_bytes u.0.value) u.0.rest (rw n.bytes at h) in
      let legal : List ℕ → Type 0 = λ w. legal_word labels language longest w ≡ true in
      let b = many_decode (decode_word labels language longest) encode_word legal word_decode u.0.value u.0.rest r after g.1 in
      record {
        bytes = n.bytes ∙ rw (b.bytes, b.number) (sym (append_assoc (u16_bytes u.0.value) (flat_map encode_word r.value) r.rest));
        holds = record {
          full = omega (arith, b.number, leb-true 1 u.0.value g.0);
          fits = omega (arith, b.number, n.holds);
          words = b.holds;
        };
      }

  -- lists
  pub terms_encode :
      (l : List (List (List ℕ))) → LegalList labels language longest l → (s : List ℕ)
      → decode_terms labels language longest (encode_list l ++ s) ≡ parsed l s
  unfolding encode_list decode_terms
  terms_encode l h s =
      rw (append_assoc (u16_bytes (length l)) (flat_map encode_term l) s, count_encode (length l) (flat_map encode_term l ++ s))
      (many_encode (decode_term labels language longest) encode_term l s (λ t m. term_encode t (h.terms t m)))

  pub terms_decode : (s : List ℕ) (r : Parsed (List (List (List ℕ)))) → Bytes s → decode_terms labels language longest s ≡ some r
      → Back encode_list (LegalList labels language longest) s r.value r.rest
  unfolding encode_list decode_terms
  terms_decode s r h e =
      let u = then_some (decode_count s) _ e in
      let n = count_decode s u.0 h u.1 in
      let after = bytes_after (u16_bytes u.0.value) u.0.rest (rw n.bytes at h) in
      let legal = LegalTerm labels language longest in
      let b = many_decode (decode_term labels language longest) encode_term legal term_decode u.0.value u.0.rest r after u.2 in
      record {
        bytes = n.bytes ∙ rw (b.bytes, b.number) (sym (append_assoc (u16_bytes u.0.value) (flat_map encode_term r.value) r.rest));
        holds = record { fits = omega (arith, b.number, n.holds); terms = b.holds };
      }

  -- the bytes of a legal list are read as that list
  pub decode_encode :
      (l : List (List (List ℕ))) → LegalList labels language longest l → decode_list labels language longest (encode_list l) ≡ some l
  unfolding decode_list
  decode_encode l h = let e = append-nil (encode_list l) in let q = terms_encode l h [] in rw (rw e at q)

  -- what was read is legal, and its bytes are those that it was read from
  pub record ReadBack (b : List ℕ) (l : List (List (List ℕ))) : Type 0 where
    pub bytes : encode_list l ≡ b
    pub legal : LegalList labels language longest l

  whole_some : (x : List (List (List ℕ))) (s : List ℕ) {y : List (List (List ℕ))} → whole x s ≡ some y → (x ≡ y) × (s ≡ [])
  whole_some x [] e = (cc, refl)
  whole_some x (a ∷ s) e = not_some e

  pub encode_decode : (b : List ℕ) → Bytes b → (l : List (List (List ℕ))) → decode_list labels language longest b ≡ some l → ReadBack b l
  unfolding decode_list
  encode_decode b h l e =
      let u = then_some (decode_terms labels language longest b) _ e in
      let w = whole_some u.0.value u.0.rest u.2 in
      let k = terms_decode b u.0 h u.1 in
      let x = encode_list u.0.value in
      let same = sym (append-nil x) ∙ ap (λ (z : List ℕ). x ++ z) (sym w.1) ∙ sym k.bytes in
      record { bytes = rw (← w.0) same; legal = rw (← w.0) k.holds }

  -- bytes come from one list only
  pub decode_once :
      (l m : List (List (List ℕ))) → LegalList labels language longest l → LegalList labels language longest m
      → encode_list l ≡ encode_list m → l ≡ m
  decode_once l m h k e =
      let p = decode_encode l h in
      let q = decode_encode m k in
      let z : some l ≡ some m = sym p ∙ ap (decode_list labels language longest) e ∙ q in
      cc

-- the number of bytes of a list
pub word_size : (w : List ℕ) → length (encode_word w) ≡ 1 + length w
unfolding encode_word
word_size w = omega arith

pub term_size : (t : List (List ℕ)) → length (encode_term t) ≡ 2 + sum_of (λ w. length (encode_word w)) t
unfolding encode_term
term_size t = omega (arith, length-append (u16_bytes (length t)) (flat_map encode_word t), u16_size (length t), length_flat encode_word t)

pub list_size : (l : List (List (List ℕ))) → length (encode_list l) ≡ 2 + sum_of (λ t. length (encode_term t)) l
unfolding encode_list
list_size l = omega (arith, length-append (u16_bytes (length l)) (flat_map encode_term l), u16_size (length l), length_flat encode_term l)

-- one more word, one more term
pub words_more : (t : List (List ℕ)) (w : List ℕ) → flat_map encode_word (t ++ (w ∷ [])) ≡ flat_map encode_word t ++ encode_word w
words_more t w = flat_snoc encode_word t w

pub terms_more : (l : List (List (List ℕ))) (t : List (List ℕ))
    → flat_map encode_term (l ++ (t ∷ [])) ≡ flat_map encode_term l ++ encode_term t
terms_more l t = flat_snoc encode_term l t
