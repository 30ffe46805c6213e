-- 01, "Threadings tried": cases A to J as rows of one list.
use Rattle.std.specs.Prelude.{ℕ, ◌≡◌, Bool, false, ◌&&◌, List, [], ◌∷◌, Result, Ok, eqb}
use Prim.Native.String.{String}
use Rattle.std.proofs.Math.Option.{some}
use Rattle.lists.specs.Lists.{any_of}
use Rattle.rebac.specs.Matter.{Matter, Pair, pair}
use Rattle.rebac.specs.Words.{Word}
use Rattle.rebac.specs.TriplePaths.{Triple}
use Rattle.rebac.specs.Existence.{Converts}
use Rattle.rebac.specs.NextWord.{pair_words}
use Rattle.rule_bytes.specs.ListBytes.{decode_list}
use Rattle.mining.specs.Values.{pair_value}
use Rattle.conversion.specs.Calls.{list_of, bytes_of, verdict_in}
use Rattle.house_layout.specs.declared.reply.Refusal.{Refusal}
use Rattle.conversion.specs.declared.verdict.Verdict.{Verdict}
use Rattle.conversion.specs.declared.verdict.Verdict.TheVariants.{Convertible, NoWord, Rival}
use Rattle.report.specs.Report.{verdict_line, list_part}
use Rattle.worked_cases.specs.Text.{bytes_in}

-- a row: the matter, a pair of which the words are asked, and what is expected
pub record CaseRow : Type 0 where
  pub matter : Matter
  pub asked : Pair
  pub words : List Word
  pub reply : Result Verdict Refusal
  -- the bytes of the mined list, where the reply is convertible
  pub bytes : List ℕ
  -- what permitconv prints: "its first line", and "a line for each term"
  pub first_line : String
  pub term_lines : String

abbrev pub relation : ℕ → ℕ → ℕ → Triple ℕ
relation u v label = record { start = u; finish = v; symbol = label }

unfoldable pub listed_edge : List (Triple ℕ) → ℕ → ℕ → ℕ → Bool
listed_edge es u v label = any_of (λ e. eqb u e.start && (eqb v e.finish && eqb label e.symbol)) es

unfoldable pub listed_pair : List Pair → ℕ → ℕ → Bool
listed_pair ps u v = any_of (λ q. eqb u q.first && eqb v q.second) ps

-- the matter with n parties, L labels, a language, D, the relations and permits of two lists, and nothing unknown
abbrev pub listed_matter : ℕ → ℕ → ℕ → ℕ → List (Triple ℕ) → List Pair → Matter
listed_matter n labels language longest es ps = record {
  parties = n;
  labels = labels;
  language = language;
  longest = longest;
  edge = listed_edge es;
  unknown = λ u v l. false;
  permit = listed_pair ps;
}

-- "Base, for whatever a case leaves unsaid: n 3, L 1, D 2, language 0, relations 0 to 1 and 1 to 2"; here with a language, D and permits
abbrev base : ℕ → ℕ → List Pair → Matter
base language longest ps = listed_matter 3 1 language longest (relation 0 1 0 ∷ relation 1 2 0 ∷ []) ps

-- convertible, with the list's length
abbrev converts : Matter → Pair → List Word → ℕ → List ℕ → String → String → CaseRow
converts M p ws k bytes line terms = record {
  matter = M;
  asked = p;
  words = ws;
  reply = Ok (Convertible k);
  bytes = bytes;
  first_line = line;
  term_lines = terms;
}

-- not convertible: the pair has no word, or a rival
abbrev lacks_word : Matter → Pair → String → CaseRow
lacks_word M p line = record {
  matter = M;
  asked = p;
  words = [];
  reply = Ok (NoWord (pair_value p));
  bytes = [];
  first_line = line;
  term_lines = "";
}

abbrev has_rival : Matter → Pair → List Word → Pair → String → CaseRow
has_rival M p ws q line = record {
  matter = M;
  asked = p;
  words = ws;
  reply = Ok (Rival (pair_value p) (pair_value q));
  bytes = [];
  first_line = line;
  term_lines = "";
}

-- "A: permit (0,2). Convertible, 7: 01 00 01 00 02 00 00." On A: line "convertible 7", then "00.00"
abbrev pub row_a : CaseRow
row_a = converts (base 0 2 (pair 0 2 ∷ [])) (pair 0 2) ((0 ∷ 0 ∷ []) ∷ []) 7 (1 ∷ 0 ∷ 1 ∷ 0 ∷ 2 ∷ 0 ∷ 0 ∷ []) "convertible 7\n" "00.00\n"

abbrev pub rows : List CaseRow
rows =
    row_a
    -- "B: permit (0,1). Pair (0,1), rival (1,2)."
    ∷ has_rival (base 0 2 (pair 0 1 ∷ [])) (pair 0 1) ((0 ∷ []) ∷ []) (pair 1 2) "not-convertible 0 1 rival 1 2\n"
    -- "C: permit (2,0). No word."
    ∷ lacks_word (base 0 2 (pair 2 0 ∷ [])) (pair 2 0) "not-convertible 2 0 no-word\n"
    -- "D: as A with D 1. Pair (0,2), no word."
    ∷ lacks_word (base 0 1 (pair 0 2 ∷ [])) (pair 0 2) "not-convertible 0 2 no-word\n"
    -- "E: no permits. Length 2: 00 00."
    ∷ converts (base 0 2 []) (pair 0 1) ((0 ∷ []) ∷ []) 2 (0 ∷ 0 ∷ []) "convertible 2\n" ""
    -- "F: permits (0,1), (1,2). One term, 6: 01 00 01 00 01 00."
    ∷ converts (base 0 2 (pair 0 1 ∷ pair 1 2 ∷ [])) (pair 1 2) ((0 ∷ []) ∷ []) 6 (1 ∷ 0 ∷ 1 ∷ 0 ∷ 1 ∷ 0 ∷ []) "convertible 6\n" "00\n"
    -- "G: language 2, permit (2,0). 7: 01 00 01 00 02 02 02."
    ∷ converts (base 2 2 (pair 2 0 ∷ [])) (pair 2 0) ((2 ∷ 2 ∷ []) ∷ []) 7 (1 ∷ 0 ∷ 1 ∷ 0 ∷ 2 ∷ 2 ∷ 2 ∷ []) "convertible 7\n" "02.02\n"
    -- "H: n 3, L 2, D 1, (0,1) with labels 0 and 1, (0,2) with 0, (1,2) with 1; permit (0,1). 8: 01 00 02 00 01 00 01 04."
    ∷ converts (listed_matter 3 2 0 1 (relation 0 1 0 ∷ relation 0 1 1 ∷ relation 0 2 0 ∷ relation 1 2 1 ∷ []) (pair 0 1 ∷ []))
    (pair 0 1) ((0 ∷ []) ∷ (4 ∷ []) ∷ []) 8 (1 ∷ 0 ∷ 2 ∷ 0 ∷ 1 ∷ 0 ∷ 1 ∷ 4 ∷ []) "convertible 8\n" "00 & 04\n"
    -- "I: n 2, D 3, relations both ways, permit (0,1): rival (1,0); its only word is 00."
    ∷ has_rival (listed_matter 2 1 0 3 (relation 0 1 0 ∷ relation 1 0 0 ∷ []) (pair 0 1 ∷ []))
    (pair 0 1) ((0 ∷ []) ∷ []) (pair 1 0) "not-convertible 0 1 rival 1 0\n"
    -- "J: n 2, D 1, language 1, relation 0 to 1, permit (1,0). 6: 01 00 01 00 01 01."
    ∷ converts (listed_matter 2 1 1 1 (relation 0 1 0 ∷ []) (pair 1 0 ∷ []))
    (pair 1 0) ((1 ∷ []) ∷ []) 6 (1 ∷ 0 ∷ 1 ∷ 0 ∷ 1 ∷ 1 ∷ []) "convertible 6\n" "01\n"
    ∷ []

-- the row's bytes are those of the mined list and are read back as it, and the list permits exactly the permitted pairs
pub record ListHolds (c : CaseRow) : Type 0 where
  pub bytes : bytes_of c.matter ≡ c.bytes
  pub back : decode_list c.matter.labels c.matter.language c.matter.longest c.bytes ≡ some (list_of c.matter)
  pub exact : Converts c.matter (list_of c.matter)

-- what a row says: the words of the pair asked, the verdict's reply, what is printed and, where the reply is convertible, the list
pub record RowHolds (c : CaseRow) : Type 0 where
  pub words : pair_words c.matter c.asked ≡ c.words
  pub reply : verdict_in c.matter ≡ c.reply
  pub first_line : verdict_line (verdict_in c.matter) ≡ bytes_in c.first_line
  pub term_lines : list_part c.matter (verdict_in c.matter) ≡ bytes_in c.term_lines
  pub mined : (k : ℕ) → c.reply ≡ Ok (Convertible k) → ListHolds c
