-- Cases A to J: what the definitions give for each row is what the row expects, by computation over the list of rows. Assumes nothing.
use Rattle.std.proofs.Common.{ℕ, ◌<◌, ◌≡◌, refl, ap, ◌∙◌, List, [], ◌∷◌, map, length, Result, Ok, Err}
use Rattle.std.proofs.lemmas.Bool.{lt-leb}
use mathlib.Core.List.Memᴰ
use mathlib.Core.List.{Memᴰ}
use Rattle.std.proofs.Math.Option.{Option, none, some}
use Rattle.lists.specs.Lists.{all_of, any_of, filter_by, first_by, flat_map, up_from, range}
use Rattle.lists.proofs.Cases.{by_mem}
use Rattle.rebac.specs.Matter.{Matter, pairs_of, permitted}
use Rattle.rebac.specs.Words.{Word, words_of_length, words_up_to}
use Rattle.rebac.specs.Paths.{candidates, routes, paths_of, path_count}
use Rattle.rebac.specs.Symbols.{kinds, kind_holds, apart, in_language, holds, alphabet}
use Rattle.rebac.specs.Rules.{meets_item, meets, permits}
use Rattle.rebac.specs.Verdict.{words_of, covers, rival, judge, spoils, verdict}
use Rattle.rebac.specs.Mining.{lacks, add_against, add_all, term_of, mine_from, mine}
use Rattle.rebac.specs.Existence.{matter_words, problem_over, problem_of, verdict_of, mined_list}
use Rattle.rebac.specs.NextWord.{pair_words}
use Rattle.rebac.proofs.Conversion.{mined_converts}
use Rattle.graph.specs.Legal.{legal_symbol}
use Rattle.fields.specs.Numbers.{u16_bytes}
use Rattle.rule_bytes.specs.ListBytes.{encode_word, encode_term, encode_list, decode_count, decode_many, legal_word, decode_word}
use Rattle.rule_bytes.specs.ListBytes.{decode_term, decode_terms, decode_list}
use Rattle.rule_text.specs.Text.{hex_digit, symbol_text, joined, word_text, term_text, list_text}
use Rattle.conversion.specs.Calls.{list_of, bytes_of, verdict_in}
use Rattle.house_layout.specs.declared.reply.Refusal.{Refusal}
use Rattle.conversion.specs.declared.verdict.Verdict.{Verdict}
use Rattle.conversion.specs.declared.verdict.Verdict.TheVariants.{Convertible, NoWord, Rival}
use Rattle.conversion.proofs.ReplyLaws.{reply_convertible}
use Rattle.fields.specs.Decimal.{digits_in, decimal_text}
use Rattle.report.specs.Report.{pair_text, refused_line, verdict_line, list_part}
use Rattle.worked_cases.specs.Text.{bytes_in}
use Rattle.worked_cases.specs.Cases.{CaseRow, rows, RowHolds, listed_edge, listed_pair}

-- a value where the reply is convertible
abbrev if_convertible : {A : Type 0} → Result Verdict Refusal → A → Option A
if_convertible (Ok (Convertible k)) x = some x
if_convertible (Ok (NoWord p)) x = none
if_convertible (Ok (Rival p q)) x = none
if_convertible (Err x) y = none

-- what is held against each other for a row
record Facts : Type 0 where
  words : List Word
  reply : Result Verdict Refusal
  first_line : List ℕ
  term_lines : List ℕ
  bytes : Option (List ℕ)
  back : Option (Option (List (List Word)))

unfoldable reckoned : CaseRow → Facts
reckoned c =
    let M = c.matter in
    record {
      words = pair_words M c.asked;
      reply = verdict_in M;
      first_line = verdict_line (verdict_in M);
      term_lines = list_part M (verdict_in M);
      bytes = if_convertible c.reply (bytes_of M);
      back = if_convertible c.reply (decode_list M.labels M.language M.longest c.bytes);
    }

unfoldable expected : CaseRow → Facts
expected c =
    record {
      words = c.words;
      reply = c.reply;
      first_line = bytes_in c.first_line;
      term_lines = bytes_in c.term_lines;
      bytes = if_convertible c.reply c.bytes;
      back = if_convertible c.reply (some (list_of c.matter));
    }

computed : map reckoned rows ≡ map expected rows
unfolding all_of any_of filter_by first_by flat_map up_from range pairs_of permitted words_of_length words_up_to candidates routes paths_of
    path_count kinds kind_holds apart in_language holds alphabet meets_item meets permits words_of covers rival judge spoils verdict
    lacks add_against add_all term_of mine_from mine matter_words problem_of problem_over verdict_of mined_list pair_words legal_symbol
    u16_bytes encode_word encode_term encode_list decode_count decode_many legal_word decode_word decode_term decode_terms decode_list
    hex_digit symbol_text joined word_text term_text list_text list_of bytes_of verdict_in digits_in decimal_text pair_text verdict_line
    bytes_in listed_edge listed_pair reckoned expected
computed = refl

-- two functions that give the same over a list agree at each of its members
pub same_at : {A B : Type 0} (f g : A → B) (l : List A) → map f l ≡ map g l → {x : A} → Memᴰ x l → f x ≡ g x
same_at f g [] e m = absurd (Memᴰ.not-nil m)
same_at f g (y ∷ ys) e m = by_mem m (λ q. rw q cc) (λ n. same_at f g ys (cc) n)

if_convertible_lem : {A : Type 0} {r : Result Verdict Refusal} {k : ℕ} {x y : A} → r ≡ Ok (Convertible k)
    → if_convertible r x ≡ if_convertible r y → x ≡ y
if_convertible_lem {x = x} {y = y} q e = let s : some x ≡ some y = rw q at e in cc

row_holds : (c : CaseRow) → reckoned c ≡ expected c → RowHolds c
unfolding reckoned expected verdict_in list_of
row_holds c e =
    let a : verdict_in c.matter ≡ c.reply = ap (λ (r : Facts). r.reply) e in
    record {
      words = ap (λ (r : Facts). r.words) e;
      reply = a;
      first_line = ap (λ (r : Facts). r.first_line) e;
      term_lines = ap (λ (r : Facts). r.term_lines) e;
      mined = λ k q. record {
        bytes = if_convertible_lem q (ap (λ (r : Facts). r.bytes) e);
        back = if_convertible_lem q (ap (λ (r : Facts). r.back) e);
        exact = mined_converts c.matter refl (reply_convertible (length (bytes_of c.matter)) k (verdict_of c.matter) (a ∙ q)).0;
      };
    }

pub cases_hold : (c : CaseRow) → Memᴰ c rows → RowHolds c
cases_hold c m = row_holds c (same_at reckoned expected rows computed m)

-- a first line of more digits
pub longer_line : verdict_line (Ok (Convertible 1024)) ≡ bytes_in "convertible 1024\n"
unfolding digits_in decimal_text verdict_line bytes_in
longer_line = refl

-- "A list above 65,536 bytes: its first line, then "refused 14"."
pub long_list : (M : Matter) (k : ℕ) → 65536 < k → list_part M (Ok (Convertible k)) ≡ bytes_in "refused 14\n"
unfolding digits_in decimal_text refused_line bytes_in
long_list M k h = rw (lt-leb k 65536 h)
