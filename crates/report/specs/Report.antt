-- What permitconv prints (01, "Program permitconv"): a line of the verdict, then the list or why there is none.
use Rattle.std.specs.Prelude.{ℕ, ◌+◌, List, [], ◌∷◌, ◌++◌, take, leb, Result, Ok, Err}
use Rattle.fields.specs.Decimal.{decimal_text}
use Rattle.rebac.specs.Matter.{Matter}
use Rattle.house_layout.specs.Layout.{longest_file}
use Rattle.house_layout.specs.Reply.{number_of}
use Rattle.lists.specs.Lists.{pick}
use Rattle.house_layout.specs.declared.reply.Refusal.{Refusal}
use Rattle.house_layout.specs.declared.reply.Refusal.TheVariants.{Output}
use Rattle.graph.specs.FileMatter.{matter_of}
use Rattle.rule_text.specs.Text.{line_end, list_text}
use Rattle.mining.specs.declared.build.Pair.{Pair}
use Rattle.conversion.specs.Calls.{list_of, verdict_call}
use Rattle.conversion.specs.declared.verdict.Verdict.{Verdict}
use Rattle.conversion.specs.declared.verdict.Verdict.TheVariants.{Convertible, NoWord, Rival}

abbrev pub space : List ℕ
space = 32 ∷ []

-- "convertible "
abbrev pub convertible_text : List ℕ
convertible_text = 99 ∷ 111 ∷ 110 ∷ 118 ∷ 101 ∷ 114 ∷ 116 ∷ 105 ∷ 98 ∷ 108 ∷ 101 ∷ 32 ∷ []

-- "not-convertible "
abbrev pub not_convertible_text : List ℕ
not_convertible_text = 110 ∷ 111 ∷ 116 ∷ 45 ∷ convertible_text

-- " rival "
abbrev pub rival_text : List ℕ
rival_text = 32 ∷ 114 ∷ 105 ∷ 118 ∷ 97 ∷ 108 ∷ 32 ∷ []

-- " no-word"
abbrev pub no_word_text : List ℕ
no_word_text = 32 ∷ 110 ∷ 111 ∷ 45 ∷ 119 ∷ 111 ∷ 114 ∷ 100 ∷ []

-- "refused "
abbrev pub refused_text : List ℕ
refused_text = 114 ∷ 101 ∷ 102 ∷ 117 ∷ 115 ∷ 101 ∷ 100 ∷ 32 ∷ []

-- the two parties of a pair
unfoldable pub pair_text : Pair → List ℕ
pair_text p = decimal_text p.first ++ (space ++ decimal_text p.second)

unfoldable pub refused_line : Refusal → List ℕ
refused_line x = refused_text ++ (decimal_text (number_of x) ++ line_end)

-- the line of a verdict: "convertible 7", "not-convertible 0 1 rival 1 2", "not-convertible 2 0 no-word", "refused 4"
unfoldable pub verdict_line : Result Verdict Refusal → List ℕ
verdict_line (Err x) = refused_line x
verdict_line (Ok (Convertible k)) = convertible_text ++ (decimal_text k ++ line_end)
verdict_line (Ok (NoWord p)) = not_convertible_text ++ (pair_text p ++ (no_word_text ++ line_end))
verdict_line (Ok (Rival p q)) = not_convertible_text ++ (pair_text p ++ (rival_text ++ (pair_text q ++ line_end)))

-- the longest list that is printed
abbrev pub list_limit : ℕ
list_limit = 65536

-- "then a line for each term"; "A list above 65,536 bytes: its first line, then "refused 14"."
abbrev pub list_part : Matter → Result Verdict Refusal → List ℕ
list_part M (Err x) = []
list_part M (Ok (Convertible k)) = pick (leb k list_limit) (list_text (list_of M)) (refused_line Output)
list_part M (Ok (NoWord p)) = []
list_part M (Ok (Rival p q)) = []

-- what is printed for a file
unfoldable pub file_text : List ℕ → List ℕ
file_text f = verdict_line (verdict_call f) ++ list_part (matter_of f) (verdict_call f)

-- one byte more than the longest file has: more is cut, and what is cut is then refused
abbrev pub read_limit : ℕ
read_limit = longest_file + 1

-- "reads a file from standard input (..; more is cut ..) and prints"; 02, Ticket 2: "The program reads up to 44,713 bytes."
unfoldable pub report_text : List ℕ → List ℕ
report_text input = file_text (take read_limit input)
