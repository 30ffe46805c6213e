-- Files with unknown relations: what the definitions give for each row is what the row expects, by computation. Assumes nothing.
use Rattle.std.proofs.Common.{Ok, ◌≡◌, refl, map}
use mathlib.Core.List.{Memᴰ}
use Rattle.lists.specs.Lists.{all_of, any_of, filter_by, first_by, flat_map, up_from, range}
use Rattle.rebac.specs.Matter.{pairs_of, permitted}
use Rattle.rebac.specs.Words.{words_of_length, words_up_to}
use Rattle.rebac.specs.Paths.{candidates, routes, paths_of, path_count}
use Rattle.rebac.specs.Symbols.{kinds, kind_holds, apart, in_language, holds, alphabet}
use Rattle.rebac.specs.Rules.{meets_item, meets, permits}
use Rattle.rebac.specs.Verdict.{words_of, covers, rival, judge, spoils, verdict}
use Rattle.rebac.specs.Mining.{lacks, add_against, add_all, term_of, mine_from, mine}
use Rattle.rebac.specs.Existence.{matter_words, problem_over, problem_of, verdict_of, mined_list}
use Rattle.fields.specs.Numbers.{u16_at, u16_bytes}
use Rattle.house_layout.specs.Layout.{record_size, owner_in, record_of}
use Rattle.house_layout.specs.Fields.{fields_in_range, judge_record}
use Rattle.house_file.specs.Check.{says, contradicts, record_check, follow_chain, follow_chains, chains_check, check_of}
use Rattle.house_file.specs.Meaning.{chain_from, chain_of, recorded, is_edge, is_unknown, is_permitted}
use Rattle.graph.specs.FileMatter.{matter_of}
use Rattle.rule_bytes.specs.ListBytes.{encode_word, encode_term, encode_list}
use Rattle.conversion.specs.Calls.{list_of, bytes_of, verdict_in, verdict_call}
use Rattle.worked_cases.specs.Unknowns.{UnknownFile, symbols_of, unknown_files, UnknownHolds}
use Rattle.worked_cases.proofs.CasesHold.{same_at}

checked : map (λ c. check_of c.file) unknown_files ≡ map (λ c. Ok tt) unknown_files
unfolding all_of any_of up_from u16_at record_size owner_in record_of fields_in_range judge_record
    says contradicts record_check follow_chain follow_chains chains_check check_of
checked = refl

out : map (λ c. symbols_of c.file 0 1) unknown_files ≡ map (λ c. c.out) unknown_files
unfolding any_of filter_by up_from range kinds kind_holds apart in_language holds
    u16_at record_size owner_in record_of says chain_from chain_of recorded is_edge is_unknown is_permitted matter_of
out = refl

back : map (λ c. symbols_of c.file 1 0) unknown_files ≡ map (λ c. c.back) unknown_files
unfolding any_of filter_by up_from range kinds kind_holds apart in_language holds
    u16_at record_size owner_in record_of says chain_from chain_of recorded is_edge is_unknown is_permitted matter_of
back = refl

replied : map (λ c. verdict_call c.file) unknown_files ≡ map (λ c. c.reply) unknown_files
unfolding all_of any_of filter_by first_by flat_map up_from range pairs_of permitted words_of_length words_up_to candidates routes paths_of
    path_count kinds kind_holds apart in_language holds alphabet meets_item meets permits words_of covers rival judge spoils verdict
    lacks add_against add_all term_of mine_from mine matter_words problem_of problem_over verdict_of mined_list
    u16_at record_size owner_in record_of fields_in_range judge_record
    says contradicts record_check follow_chain follow_chains chains_check check_of
    chain_from chain_of recorded is_edge is_unknown is_permitted matter_of
    u16_bytes encode_word encode_term encode_list list_of bytes_of verdict_in verdict_call
replied = refl

pub unknowns_hold : (c : UnknownFile) → Memᴰ c unknown_files → UnknownHolds c
unknowns_hold c m = record {
  accepted = same_at (λ c. check_of c.file) (λ c. Ok tt) unknown_files checked m;
  symbols = same_at (λ c. symbols_of c.file 0 1) (λ c. c.out) unknown_files out m;
  others = same_at (λ c. symbols_of c.file 1 0) (λ c. c.back) unknown_files back m;
  verdict = same_at (λ c. verdict_call c.file) (λ c. c.reply) unknown_files replied m;
}
