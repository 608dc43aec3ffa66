-- What one pass over the program headers keeps of them.
use Rattle.std.specs.Prelude.{ℕ, ◌+◌, ◌*◌, ◌^◌, Bool, false, not, ◌&&◌, ◌||◌, ◌==◌, nat_lt, if◌then◌else◌, List, [], ◌∷◌, length, Some, None}
use Rattle.std.specs.List.{fold}
use Rattle.std.specs.Option.{option_map_or, option_or}
use Rattle.elf32_sparc.specs.declared.header.ProgramHeader.{ProgramHeader}
use Rattle.elf32_sparc.specs.declared.survey.Survey.{Survey}
use Rattle.elf32_sparc.specs.declared.fault.FileFault.{FileFault}
use Rattle.elf32_sparc.specs.declared.fault.FileFault.TheVariants.{Dynamic, SegmentFile, SegmentRoom, SegmentOrder, Align, NoText, ManyTexts, TextShape, TextLarge, Entry, MemoryLarge}
use Rattle.elf32_sparc.specs.Header.{program_headers, is_loadable, end_of, is_text}
use Rattle.elf32_sparc.specs.FileFault.{is_dynamic, leaves_file, leaves_room, is_last_page, is_aligned, is_misshapen, word_count, is_word_address}

-- memory where a file that is run has none
abbrev pub leaves_run : ProgramHeader → Bool
leaves_run header = leaves_room header && not (is_last_page header)

abbrev pub no_survey : Survey
no_survey = record {
  has_dynamic = false;
  leaves_file = false;
  leaves_room = false;
  leaves_run = false;
  descends = false;
  is_misaligned = false;
  end = 0;
  texts = 0;
  text = None;
  memory = 0;
}

-- what the memory of one header more changes
abbrev pub with_memory : Survey → ProgramHeader → Survey
with_memory survey header = record survey {
  leaves_room = survey.leaves_room || (is_loadable header && leaves_room header);
  leaves_run = survey.leaves_run || (is_loadable header && leaves_run header);
  descends = survey.descends || (is_loadable header && nat_lt header.p_vaddr survey.end);
  is_misaligned = survey.is_misaligned || (is_loadable header && not (is_aligned header));
  end = if is_loadable header then end_of header else survey.end;
  memory = if is_loadable header then survey.memory + header.p_memsz else survey.memory;
}

-- what one header more changes of the texts
abbrev pub with_text : Survey → ProgramHeader → Survey
with_text survey header = record survey {
  texts = if is_text header then survey.texts + 1 else survey.texts;
  text = if is_text header then option_or survey.text (Some header) else survey.text;
}

-- with one header more, of a file of this size
unfoldable pub noted : ℕ → Survey → ProgramHeader → Survey
noted size survey header =
    with_text (with_memory (record survey {
      has_dynamic = survey.has_dynamic || is_dynamic header;
      leaves_file = survey.leaves_file || leaves_file size header;
    }) header) header

unfoldable pub survey_of : List ℕ → Survey
survey_of file = fold (noted (length file)) no_survey (program_headers file)

-- the faults that it shows of a file that is to be edited, with this entry
abbrev pub survey_rows : ℕ → Survey → List (FileFault × Bool)
survey_rows entry survey =
    (Dynamic, survey.has_dynamic) ∷
    (SegmentFile, survey.leaves_file) ∷
    (SegmentRoom, survey.leaves_room) ∷
    (SegmentOrder, survey.descends) ∷
    (Align, survey.is_misaligned) ∷
    (NoText, survey.texts == 0) ∷
    (ManyTexts, nat_lt 1 survey.texts) ∷
    (TextShape, option_map_or is_misshapen survey.text false) ∷
    (TextLarge, option_map_or (λ header. nat_lt (2 ^ 20) (word_count header)) survey.text false) ∷
    (Entry, not (option_map_or (is_word_address entry) survey.text false)) ∷
    (MemoryLarge, nat_lt (128 * 2 ^ 20) survey.memory) ∷ []

-- the faults that it shows of a file that is to be run
abbrev pub run_survey_rows : Survey → List (FileFault × Bool)
run_survey_rows survey =
    (SegmentFile, survey.leaves_file) ∷
    (SegmentRoom, survey.leaves_run) ∷
    (SegmentOrder, survey.descends) ∷
    (Align, survey.is_misaligned) ∷
    (MemoryLarge, nat_lt (1280 * 2 ^ 20) survey.memory) ∷ []
