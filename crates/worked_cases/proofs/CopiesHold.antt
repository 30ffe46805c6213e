-- The copies worked by hand, by computation; what is too short follows from the theorem on the call. Assumes nothing.
use Rattle.std.proofs.Common.{arith, ◌≡◌, refl, map, length, Ok}
use mathlib.Core.List.{Memᴰ}
use Rattle.lists.specs.Lists.{all_of, any_of, filter_by, flat_map, up_from, range}
use Rattle.fields.specs.Numbers.{u16_at, u16_bytes}
use Rattle.house_layout.specs.Layout.{record_size, owner_in, record_of}
use Rattle.house_layout.specs.Fields.{fields_in_range, judge_record}
use Rattle.house_file.specs.Check.{says, contradicts, record_check, follow_chain, follow_chains, chains_check, check_of}
use Rattle.house_file.specs.Meaning.{chain_from, chain_of, recorded, is_edge, is_unknown, is_permitted}
use Rattle.graph.specs.FileMatter.{matter_of}
use Rattle.canonical.specs.Canonical.{kind_bytes, says_kind, pair_entries, entries_of, entries_below}
use Rattle.canonical.specs.Canonical.{chain_records, records_for, header_bytes, heads_by, record_bytes, canonical_of}
use Rattle.canonical.specs.Calls.{writes, write_in, write_call}
use Rattle.canonical.specs.Shape.{CopyOf}
use Rattle.canonical.proofs.CopyLaws.{write_short, write_copies}
use Rattle.worked_cases.specs.Files.{file_a, file_a2}
use Rattle.worked_cases.specs.Copies.{CopiedFile, copied_files, CopyHolds}
use Rattle.worked_cases.proofs.CasesHold.{same_at}

accepted : map (λ c. check_of c.file) copied_files ≡ map (λ c. Ok tt) copied_files
unfolding all_of any_of up_from u16_at record_size owner_in record_of fields_in_range judge_record
    says contradicts record_check follow_chain follow_chains chains_check check_of
accepted = refl

written : map (λ c. write_call c.file (length c.copy)) copied_files ≡ map (λ c. writes c.copy) copied_files
unfolding all_of any_of up_from u16_at record_size owner_in record_of fields_in_range judge_record
    says contradicts record_check follow_chain follow_chains chains_check check_of filter_by
    flat_map range u16_bytes chain_from chain_of recorded is_edge is_unknown is_permitted matter_of kind_bytes says_kind pair_entries
    entries_of entries_below chain_records records_for header_bytes heads_by record_bytes canonical_of write_in write_call
written = refl

copied_accepted : {c : CopiedFile} → Memᴰ c copied_files → check_of c.file ≡ Ok tt
copied_accepted m = same_at (λ c. check_of c.file) (λ c. Ok tt) copied_files accepted m

copied_written : {c : CopiedFile} → Memᴰ c copied_files → write_call c.file (length c.copy) ≡ writes c.copy
copied_written m = same_at (λ c. write_call c.file (length c.copy)) (λ c. writes c.copy) copied_files written m

-- A's copy, as a file
pub copy_a : CopyOf file_a file_a2
copy_a = write_copies file_a (copied_accepted (Memᴰ.head refl)) 29 file_a2 (copied_written (Memᴰ.head refl))

pub copies_hold : (c : CopiedFile) → Memᴰ c copied_files → CopyHolds c
copies_hold c m =
    let a = copied_accepted m in
    let w = copied_written m in
    record {
      written = w;
      short = λ size h. write_short c.file a size (omega (arith, (write_copies c.file a (length c.copy) c.copy w).size));
    }
