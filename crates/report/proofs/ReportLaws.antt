-- What is printed fits: a verdict's line has at most 64 bytes, what is written is inside its slice, and standard input that is cut is
-- refused. The line, and the list's part in the tail behind it, are the text of the file. Assumes nothing.
use Rattle.std.proofs.Common.{◌≡◌, refl, sym, ap, ◌∙◌, List, [], ◌++◌, append-nil, ℕ, ◌+◌, ◌-◌, ◌≤◌, ◌<◌}
use Rattle.std.proofs.Common.{arith, zero-add, length, take, drop, length-append, length-drop, drop_of_length-le}
use Rattle.std.proofs.Common.{length-take-le, take_all, drop-drop, le-leb, Result, Ok, Err}
use Rattle.std.proofs.Math.Seq.{take-append_seam}
use borrow.Author.Rules.{part_to_end}
use borrow.Rule.Slice.PartMut.{put_mid, mid_of}
use Rattle.rebac.specs.Matter.{Matter}
use Rattle.rebac.specs.Verdict.{convertible}
use Rattle.rebac.specs.Existence.{verdict_of}
use Rattle.house_layout.specs.Layout.{edition_of, records_of}
use Rattle.house_layout.specs.Reply.{number_of}
use Rattle.house_file.specs.Check.{check_of}
use Rattle.house_layout.specs.declared.reply.Refusal.{Refusal}
use Rattle.house_file.proofs.WellFormedLaws.{framing}
use Rattle.graph.specs.FileMatter.{matter_of}
use Rattle.rule_bytes.specs.promises.Reading.{IsList}
use Rattle.rule_text.specs.Text.{list_text}
use Rattle.fields.specs.promises.Writing.{put, Wrote}
use Rattle.rules.proofs.MatterLists.{mined_is_list}
use Rattle.mining.specs.declared.build.Pair.{Pair}
use Rattle.conversion.specs.Calls.{list_of, bytes_of, verdict_call}
use Rattle.conversion.specs.declared.verdict.Verdict.{Verdict}
use Rattle.conversion.specs.declared.verdict.Verdict.TheVariants.{Convertible, NoWord, Rival}
use Rattle.house_layout.proofs.LayoutLaws.{size_most}
use Rattle.house_layout.proofs.RefusalNumbers.{number_small}
use Rattle.house_layout.proofs.RecordLaws.{by_check}
use Rattle.conversion.proofs.Demand3.{convertible_accepted, convertible_verdict, length_bound, no_word_parties, rival_parties}
use Rattle.fields.specs.Decimal.{decimal_text}
use Rattle.report.specs.promises.Prefix.{PrefixLength, ListOf, text_room}
use Rattle.report.specs.Report.{list_limit, pair_text, refused_line, verdict_line, list_part, file_text, report_text}
use Rattle.fields.proofs.WroteLaws.{wrote_length, wrote_two}
use Rattle.fields.proofs.DecimalLaws.{decimal_length}
use Rattle.report.proofs.LineLaws.{pair_length, refused_length, convertible_length, no_word_length, rival_length}

two_digits : (n : ℕ) → n < 32 → length (decimal_text n) ≤ 2
two_digits n h = decimal_length 1 n (omega arith)

pair_fits : (p : Pair) → (p.first < 32) × (p.second < 32) → length (pair_text p) ≤ 5
pair_fits p h = omega (arith, pair_length p, two_digits p.first h.0, two_digits p.second h.1)

pub refused_fits : (x : Refusal) → length (refused_line x) ≤ 11
refused_fits x = omega (arith, refused_length x, two_digits (number_of x) (omega (arith, number_small x)))

accepted_fits : (f : List ℕ) → check_of f ≡ Ok tt → (v : Result Verdict Refusal) → verdict_call f ≡ v → length (verdict_line v) ≤ 64
unfolding verdict_line
accepted_fits f e (Err x) v = omega (arith, refused_fits x)
accepted_fits f e (Ok (Convertible k)) v = omega (arith, convertible_length k, decimal_length 7 k (omega (arith, length_bound f e k v)))
accepted_fits f e (Ok (NoWord p)) v = omega (arith, no_word_length p, pair_fits p (no_word_parties f e p v))
accepted_fits f e (Ok (Rival p q)) v = let r = rival_parties f e p q v in omega (arith, rival_length p q, pair_fits p r.0, pair_fits q r.1)

pub line_fits : (f : List ℕ) → length (verdict_line (verdict_call f)) ≤ 64
unfolding verdict_call verdict_line
line_fits f = by_check (check_of f) (λ e. accepted_fits f e (verdict_call f) refl) (λ x e. rw e (omega (arith, refused_fits x)))

-- "more is cut and so has no legal length": in neither edition
pub cut_refused : (input : List ℕ) → 44713 ≤ length input → check_of (take 44713 input) ≡ Ok tt → ⊥
cut_refused input h e =
    let f = take 44713 input in
    let g = framing f e in
    omega (arith, length-take-le 44713 input h, g.size, g.fields.parties.1, g.fields.records, size_most (edition_of f) (records_of f))

-- "up to 44,713 bytes; more is cut": what is read of standard input is its first 44,713 bytes, and the text of these is the input's
pub read_text : (input : List ℕ) → file_text (take 44713 input) ≡ report_text input
unfolding report_text
read_text input = refl

pub whole_text : (input : List ℕ) → length input ≤ 44713 → file_text input ≡ report_text input
whole_text input h = ap file_text (sym (take_all 44713 input h)) ∙ read_text input

-- a refused file has its line alone, and so has input that is cut
pub refused_text_lem : (f : List ℕ) (x : Refusal) → check_of f ≡ Err x → file_text f ≡ refused_line x
unfolding file_text verdict_call verdict_line
refused_text_lem f x e = rw e (append-nil (refused_line x))

pub cut_text : (input : List ℕ) → 44713 ≤ length input → (x : Refusal) × (report_text input ≡ refused_line x)
cut_text input h =
    by_check (check_of (take 44713 input))
    (λ e. absurd (cut_refused input h e))
    (λ x e. (x, sym (read_text input) ∙ refused_text_lem (take 44713 input) x e))

pub inside : (n : ℕ) (l : List ℕ) → n ≤ length l → PrefixLength n l
inside n l h = (h, sym (length-take-le n l h))

-- what was written from the first byte on is what stands there: so `text[..r]`, which permitconv prints, is the text
pub wrote_text : {old x new : List ℕ} {end : ℕ} → Wrote old 0 x new end → take end new ≡ x
unfolding put
wrote_text {old} {x} {new} {end} w =
    let p : end ≡ length x = omega (arith, w.place) in
    rw (p, w.bytes) (take-append_seam x (drop (0 + length x) old))

-- what was written from the first byte on is counted inside the slice
pub wrote_inside : {old x new : List ℕ} {end : ℕ} → Wrote old 0 x new end → PrefixLength end new
unfolding put
wrote_inside {old} {x} {new} {end} w =
    let n : length new ≡ length x + length (drop (0 + length x) old) = ap length w.bytes ∙ length-append x (drop (0 + length x) old) in
    inside end new (omega (arith, w.place))

-- a tail lent from a place on: what is written into it stands, once it is back, at that place
tail_put : (b : List ℕ) (at : ℕ) (x : List ℕ) → take at b ++ put (drop at b) 0 x ≡ put b at x
unfolding put
tail_put b at x =
    let d : drop (0 + length x) (drop at b) ≡ drop (at + length x) b =
    ap (λ (k : ℕ). drop k (drop at b)) (zero-add (length x))
    ∙ drop-drop (length x) at b in
    ap (λ (l : List ℕ). take at b ++ (x ++ l)) d

put_tail : (b y : List ℕ) (at : ℕ) → at ≤ length b → put_mid at (length b - at) b y ≡ take at b ++ y
put_tail b y at h =
    ap (λ (z : List ℕ). take at b ++ (y ++ z))
    (drop_of_length-le (drop at b) {i = length b - at} (omega (arith, length-drop at b)))
    ∙ ap (λ (z : List ℕ). take at b ++ z) (append-nil y)

pub wrote_tail :
    (b : List ℕ) (at : ℕ) {x new : List ℕ} {end : ℕ} → at ≤ length b → Wrote (mid_of at (length b - at) b) 0 x new end
    → Wrote b at x (put_mid at (length b - at) b new) (at + end)
wrote_tail b at {x} {new} {end} h w = record {
  bytes =
      put_tail b new at h
      ∙ ap (λ (l : List ℕ). take at b ++ l) (w.bytes ∙ ap (λ (l : List ℕ). put l 0 x) (part_to_end b at))
      ∙ tail_put b at x;
  place = omega (arith, w.place);
}

-- the text of a file: the line alone, or the line and the list's part after it
text_by : (f : List ℕ) (v : Result Verdict Refusal) → verdict_call f ≡ v → file_text f ≡ verdict_line v ++ list_part (matter_of f) v
unfolding file_text
text_by f v e = rw e

module _ (f : List ℕ) {v : Result Verdict Refusal} (e : verdict_call f ≡ v) {old new : List ℕ} {end : ℕ} where
  pub line_alone : list_part (matter_of f) v ≡ [] → Wrote old 0 (verdict_line v) new end
      → Wrote old 0 (file_text f) new end × PrefixLength end new
  line_alone n w =
      let t : file_text f ≡ verdict_line v = text_by f v e ∙ ap (λ (l : List ℕ). verdict_line v ++ l) n ∙ append-nil (verdict_line v) in
      (rw t w, wrote_inside w)

  pub line_then_list :
      {out : List ℕ} {last k : ℕ} → v ≡ Ok (Convertible k) → Wrote old 0 (verdict_line v) out end
      → Wrote out end (list_part (matter_of f) (Ok (Convertible k))) new last → Wrote old 0 (file_text f) new last × PrefixLength last new
  line_then_list c w p =
      let q = wrote_two w p (omega arith) in
      let t = text_by f v e ∙ ap (λ (r : Result Verdict Refusal). verdict_line v ++ list_part (matter_of f) r) c in
      (rw t q, wrote_inside q)

bytes_list : (f : List ℕ) → check_of f ≡ Ok tt → verdict_of (matter_of f) ≡ convertible
    → IsList (bytes_of (matter_of f)) (list_of (matter_of f))
unfolding bytes_of list_of
bytes_list f e v = mined_is_list f e refl v

-- the list that is printed, and the part of the text that it is
pub list_is : {k : ℕ} {list : List ℕ} (f : List ℕ) → ListOf f k list → k ≤ 65536 → IsList (take k list) (list_of (matter_of f))
list_is {k} f L h =
    let e = convertible_accepted f k L.verdict in
    rw (L.bytes h) (bytes_list f e (convertible_verdict f e k L.verdict).0)

pub printed_part : (M : Matter) (k : ℕ) → k ≤ 65536 → list_part M (Ok (Convertible k)) ≡ list_text (list_of M)
printed_part M k h = rw (le-leb k 65536 h)

-- without a list nothing follows the verdict's line
pub no_list : (M : Matter) (v : Result Verdict Refusal) → ((k : ℕ) → v ≡ Ok (Convertible k) → ⊥) → list_part M v ≡ []
no_list M (Err x) n = refl
no_list M (Ok (Convertible k)) n = absurd (n k refl)
no_list M (Ok (NoWord p)) n = refl
no_list M (Ok (Rival p q)) n = refl

-- the verdict's line has at most 64 bytes
pub fits : (f : List ℕ) {v : Result Verdict Refusal} → v ≡ verdict_call f → length (verdict_line v) ≤ 64
fits f e = omega (arith, line_fits f, ap (λ (r : Result Verdict Refusal). length (verdict_line r)) e)

-- and so has the line as it was written, and the text's length is kept
pub room : (f : List ℕ) {v : Result Verdict Refusal} {old out : List ℕ} {end : ℕ}
    → v ≡ verdict_call f → text_room ≤ length old → Wrote old 0 (verdict_line v) out end
    → (end ≤ 64) × (length out ≡ length old)
room f e h w = let l = fits f e in (omega (arith, l, w.place), wrote_length w (omega (arith, h, l)))

-- the file whose list stands at the start of what conversion wrote
pub list_here : (f : List ℕ) {v : Result Verdict Refusal} {k : ℕ} {list : List ℕ}
    → (v ≡ verdict_call f) × ((n : ℕ) → verdict_call f ≡ Ok (Convertible n) → n ≤ list_limit → take n list ≡ bytes_of (matter_of f))
    → v ≡ Ok (Convertible k) → ListOf f k list
list_here f r d = let e = sym r.0 ∙ d in record { verdict = e; bytes = r.1 _ e }

-- the line and the list's part behind it
pub whole : (f : List ℕ) {v : Result Verdict Refusal} {k : ℕ} {old out part : List ℕ} {end last : ℕ}
    → v ≡ verdict_call f → v ≡ Ok (Convertible k) → text_room ≤ length old → Wrote old 0 (verdict_line v) out end
    → Wrote (mid_of end (length out - end) out) 0 (list_part (matter_of f) (Ok (Convertible k))) part last
    → (let new = put_mid end (length out - end) out part in
    Wrote old 0 (file_text f) new (end + last) × PrefixLength (end + last) new)
whole f {v} {k} {old} {out} {part} {end} e d h w p =
    let r = room f e h w in
    line_then_list f (sym e) d w (wrote_tail out end (omega (arith, r.0, r.1, h)) p)

-- by these, goals of `write_report` are found
pub ruleset report_laws = (fits, room, list_here)
