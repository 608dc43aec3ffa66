-- A survey of headers, one after the other, and what it says of all of them.
use Rattle.elf32_sparc.proofs.Common.{◌≡◌, ℕ, suc, ◌+◌, ◌-◌, ◌*◌, ◌<◌, ◌≤◌, List, ◌∷◌, length, sym, ap, ◌∙◌, arith, add-zero, fold, cond_both, ProgramHeader, Survey, program_header, headers_from, program_headers, e_phoff, e_phnum, is_text, is_loadable, no_survey, noted, survey_of}

pub texts-noted : (size : ℕ) (s : Survey) (h : ProgramHeader) → (noted size s h).texts ≤ s.texts + 1
unfolding noted
texts-noted size s h = cond_both (is_text h) (s.texts + 1) s.texts (λ n. n ≤ s.texts + 1) (λ _. omega arith) (λ _. omega arith)

pub memory-noted : (size : ℕ) (s : Survey) (h : ProgramHeader) → (noted size s h).memory ≤ s.memory + h.p_memsz
unfolding noted
memory-noted size s h = cond_both (is_loadable h) (s.memory + h.p_memsz) s.memory (λ n. n ≤ s.memory + h.p_memsz) (λ _. omega arith) (λ _. omega arith)

pub headers_from-more : (file : List ℕ) (at count i : ℕ) → i < count → headers_from file (at + 32 * i) (count - i) ≡ program_header file (at + 32 * i) ∷ headers_from file (at + 32 * (i + 1)) (count - (i + 1))
headers_from-more file at count i below =
    let left : count - i ≡ suc (count - (i + 1)) = omega arith in
    let next : at + 32 * i + 32 ≡ at + 32 * (i + 1) = omega arith in
    ap (headers_from file (at + 32 * i)) left ∙ ap (λ a. program_header file (at + 32 * i) ∷ headers_from file a (count - (i + 1))) next

pub headers-none : (file : List ℕ) → headers_from file (e_phoff file + 32 * 0) (e_phnum file - 0) ≡ program_headers file
unfolding program_headers
headers-none file =
    let count : e_phnum file - 0 ≡ e_phnum file = omega arith in
    rw (add-zero, count)

pub starts : (file : List ℕ) → fold (noted (length file)) no_survey (headers_from file (e_phoff file + 32 * 0) (e_phnum file - 0)) ≡ survey_of file
unfolding survey_of
starts file = ap (fold (noted (length file)) no_survey) (headers-none file)

pub goes_on : (file : List ℕ) (size : ℕ) (s whole : Survey) (at count i : ℕ) → i < count → fold (noted size) s (headers_from file (at + 32 * i) (count - i)) ≡ whole → fold (noted size) (noted size s (program_header file (at + 32 * i))) (headers_from file (at + 32 * (i + 1)) (count - (i + 1))) ≡ whole
goes_on file size s whole at count i below so_far = sym (ap (fold (noted size) s) (headers_from-more file at count i below)) ∙ so_far

pub ends : (file : List ℕ) (size : ℕ) (s whole : Survey) (at count i : ℕ) → count ≤ i → fold (noted size) s (headers_from file at (count - i)) ≡ whole → s ≡ whole
ends file size s whole at count i past so_far =
    let none : count - i ≡ 0 = omega arith in
    sym (ap (λ n. fold (noted size) s (headers_from file at n)) none) ∙ so_far
