-- The first fault of a file, from that of its header and that of a survey.
use Rattle.elf32_sparc.proofs.Common.{◌≡◌, ℕ, Bool, true, false, cond, not, List, [], ◌∷◌, ◌++◌, Option, Some, None, refl, ap, ◌∙◌, length, option_or, FileFault, e_entry, program_headers, first_that_holds, header_rows, entry_rows, load_rows, fault, load_fault, has_dynamic, has_bytes_outside, has_memory_outside, has_memory_outside_a_run, has_disorder, has_misaligned, has_misshapen_text, has_large_text, has_other_entry, memory_size, is_dynamic, leaves_file, leaves_room, is_aligned, survey_rows, run_survey_rows, survey_of, no_survey, noted, leaves_run}
use Rattle.elf32_sparc.proofs.SurveyFacts.{fold-any, fold-kept, fold-descends, fold-texts, fold-text, fold-memory}

-- the first of some rows, or else of the rows after them
pub first_that_holds-append : (xs ys : List (FileFault × Bool)) → first_that_holds (xs ++ ys) ≡ option_or (first_that_holds xs) (first_that_holds ys)
first_that_holds-append [] ys = refl
first_that_holds-append (x ∷ xs) ys = first_or x.1 x.0 (first_that_holds-append xs ys)
  where
    first_or : (b : Bool) (f : FileFault) → first_that_holds (xs ++ ys) ≡ option_or (first_that_holds xs) (first_that_holds ys) → cond b (Some f) (first_that_holds (xs ++ ys)) ≡ option_or (cond b (Some f) (first_that_holds xs)) (first_that_holds ys)
    first_or true f e = refl
    first_or false f e = e

pub survey_rows-survey_of : (file : List ℕ) (entry : ℕ) → survey_rows entry (survey_of file) ≡ entry_rows (length file) entry (program_headers file)
unfolding noted survey_of has_dynamic has_bytes_outside has_memory_outside has_disorder has_misaligned has_misshapen_text has_large_text has_other_entry memory_size
survey_rows-survey_of file entry =
    let headers = program_headers file in
    let size = length file in
    rw (fold-any size (λ s. s.has_dynamic) is_dynamic (λ s h. refl) no_survey headers, fold-any size (λ s. s.leaves_file) (leaves_file size) (λ s h. refl) no_survey headers, fold-kept size (λ s. s.leaves_room) leaves_room (λ s h. refl) no_survey headers, fold-descends size no_survey headers, fold-kept size (λ s. s.is_misaligned) (λ h. not (is_aligned h)) (λ s h. refl) no_survey headers, fold-texts size no_survey headers, fold-text size no_survey headers, fold-memory size no_survey headers) refl

pub run_survey_rows-survey_of : (file : List ℕ) → run_survey_rows (survey_of file) ≡ load_rows (length file) (program_headers file)
unfolding noted survey_of has_bytes_outside has_memory_outside_a_run has_disorder has_misaligned memory_size
run_survey_rows-survey_of file =
    let headers = program_headers file in
    let size = length file in
    rw (fold-any size (λ s. s.leaves_file) (leaves_file size) (λ s h. refl) no_survey headers, fold-kept size (λ s. s.leaves_run) leaves_run (λ s h. refl) no_survey headers, fold-descends size no_survey headers, fold-kept size (λ s. s.is_misaligned) (λ h. not (is_aligned h)) (λ s h. refl) no_survey headers, fold-memory size no_survey headers) refl

-- one of the rows holds, or none of them does
by_first : (rows later : List (FileFault × Bool)) (first found : Option FileFault) → first ≡ first_that_holds rows → first ≡ found → option_or found (first_that_holds later) ≡ first_that_holds (rows ++ later)
by_first rows later first found is found_is = rw (first_that_holds-append rows later, ← is, found_is)

pub fault-by_header : (file : List ℕ) (first : Option FileFault) (f : FileFault) → first ≡ first_that_holds (header_rows 64 file) → first ≡ Some f → Some f ≡ fault file
unfolding fault
fault-by_header file first f is found =
    by_first (header_rows 64 file) (entry_rows (length file) (e_entry file) (program_headers file)) first (Some f) is found

pub fault-by_survey : (file : List ℕ) (first : Option FileFault) → first ≡ first_that_holds (header_rows 64 file) → first ≡ None → first_that_holds (survey_rows (e_entry file) (survey_of file)) ≡ fault file
unfolding fault
fault-by_survey file first is none =
    ap first_that_holds (survey_rows-survey_of file (e_entry file))
    ∙ by_first (header_rows 64 file) (entry_rows (length file) (e_entry file) (program_headers file)) first None is none

pub load_fault-by_header : (file : List ℕ) (first : Option FileFault) (f : FileFault) → first ≡ first_that_holds (header_rows 80 file) → first ≡ Some f → Some f ≡ load_fault file
unfolding load_fault
load_fault-by_header file first f is found =
    by_first (header_rows 80 file) (load_rows (length file) (program_headers file)) first (Some f) is found

pub load_fault-by_survey : (file : List ℕ) (first : Option FileFault) → first ≡ first_that_holds (header_rows 80 file) → first ≡ None → first_that_holds (run_survey_rows (survey_of file)) ≡ load_fault file
unfolding load_fault
load_fault-by_survey file first is none =
    ap first_that_holds (run_survey_rows-survey_of file)
    ∙ by_first (header_rows 80 file) (load_rows (length file) (program_headers file)) first None is none
