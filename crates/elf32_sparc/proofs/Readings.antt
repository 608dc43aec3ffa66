-- Segments and words, read one after the other, are all of them.
use Rattle.elf32_sparc.proofs.Common.{◌≡◌, ℕ, suc, ◌+◌, ◌-◌, ◌*◌, ◌<◌, ◌≤◌, true, false, List, [], ◌∷◌, ◌++◌, map, drop, append_assoc, arith, append-nil, drop-drop, big_number, ProgramHeader, Segment, program_header, headers_from, is_loadable, loadable, segment_of, words_of}
use Rattle.elf32_sparc.proofs.Surveys.{headers_from-more}

-- one header more, that is a segment or not
pub segments-kept : (file : List ℕ) (xs ys whole : List Segment) (h : ProgramHeader) (at count i : ℕ) → i < count → h ≡ program_header file (at + 32 * i) → is_loadable h ≡ true → ys ≡ xs ++ segment_of h ∷ [] → xs ++ map segment_of (loadable (headers_from file (at + 32 * i) (count - i))) ≡ whole → ys ++ map segment_of (loadable (headers_from file (at + 32 * (i + 1)) (count - (i + 1)))) ≡ whole
segments-kept file xs ys whole h at count i below is_header is_kept is_more so_far =
    rw (is_more, append_assoc, is_header) (rw (headers_from-more file at count i below, rw is_header at is_kept) at so_far)

pub segments-passed : (file : List ℕ) (xs ys whole : List Segment) (h : ProgramHeader) (at count i : ℕ) → i < count → h ≡ program_header file (at + 32 * i) → is_loadable h ≡ false → ys ≡ xs → xs ++ map segment_of (loadable (headers_from file (at + 32 * i) (count - i))) ≡ whole → ys ++ map segment_of (loadable (headers_from file (at + 32 * (i + 1)) (count - (i + 1)))) ≡ whole
segments-passed file xs ys whole h at count i below is_header is_passed is_same so_far =
    rw is_same (rw (headers_from-more file at count i below, rw is_header at is_passed) at so_far)

pub segments-all : (file : List ℕ) (xs whole : List Segment) (at count i : ℕ) → count ≤ i → xs ++ map segment_of (loadable (headers_from file at (count - i))) ≡ whole → xs ≡ whole
segments-all file xs whole at count i past so_far =
    let none : count - i ≡ 0 = omega arith in
    rw (none, append-nil xs) at so_far

pub words_of-more : (bytes xs whole : List ℕ) (count i : ℕ) → i < count → xs ++ words_of (count - i) (drop (4 * i) bytes) ≡ whole → (xs ++ big_number 4 (drop (4 * i) bytes) ∷ []) ++ words_of (count - (i + 1)) (drop (4 * (i + 1)) bytes) ≡ whole
words_of-more bytes xs whole count i below so_far =
    let left : count - i ≡ suc (count - (i + 1)) = omega arith in
    let next : 4 * i + 4 ≡ 4 * (i + 1) = omega arith in
    rw append_assoc (rw (left, drop-drop 4 (4 * i) bytes, next) at so_far)
