-- Tables, one behind the other.
use Rattle.edit_core.proofs.Common.{◌≡◌, ℕ, zero, suc, ◌+◌, ◌-◌, ◌*◌, ◌%◌, ◌^◌, ◌<◌, ◌≤◌, List, [], ◌∷◌, ◌++◌, length, length-append, replicate, take, drop, ap, ◌∙◌, arith, slice_index, w32, from_be_bytes, append_assoc, get_or-map, length-map, length-replicate, get_or_from_slice_get, slice_get_within, Words, Addr, words_bytes, length-words_bytes, Graph, TableAt, IsTableOf, IsHalvesOf, halves_size, Placement, case_numbers, drop-drop, drop-take, take-take, from_be_bytes-to_be_bytes_4, drop-append_seam, take-append_seam, table_word, size_of, AreCasesFor, jumps_at, AreTablesOf, case_places, cases_at, cases_table, cells_size, second_table, tables_size, whole_pages}

pages_length : (words : List ℕ) → length (whole_pages words) ≡ cells_size (length words)
pages_length words = simp (length-append, length-words_bytes, length-replicate) (omega arith)

pub tables_joined : (text : Words) (targets : List Addr) (foreign : Addr) (places : List ℕ) (base : ℕ)
    (first second : List ℕ) → IsTableOf text targets foreign (record { base = base; bytes = first })
    → IsHalvesOf text targets foreign (record { base = base + size_of text; bytes = second })
    → base + tables_size text + cells_size (length places) ≤ 2 ^ 31
    → AreTablesOf text targets foreign places (record { base = base; bytes = first ++ second ++ whole_pages places })
tables_joined text targets foreign places base first second one two low =
    let pages : List ℕ = whole_pages places in
    let size = one.size in
    let more = two.size in
    let both : length (first ++ second) ≡ tables_size text = cc (length-append first second, size, more) in
    let all : length (first ++ second ++ pages) ≡ tables_size text + cells_size (length places) =
    cc (length-append (first ++ second) pages, both, pages_length places) in
    let rest : drop (size_of text) (first ++ (second ++ pages)) ≡ second ++ pages =
    cc (size, drop-append_seam first (second ++ pages)) in
    record {
      size = all;
      low = omega (arith, all, low);
      first = rw (append_assoc first second pages, ← size, take-append_seam first (second ++ pages)) one;
      second = rw (append_assoc first second pages, rest, ← more, take-append_seam second pages) two;
      cases = cc (both, drop-append_seam (first ++ second) pages);
    }

-- ---- words of the tables

-- a word of the second is one of all
pub second_word : (text : Words) (tables : TableAt) (a : ℕ) → jumps_at text tables.base ≤ a
    → a + 4 ≤ jumps_at text tables.base + halves_size text → tables_size text ≤ length tables.bytes
    → table_word tables a ≡ table_word (second_table text tables) a
unfolding table_word
second_word text tables a from to long =
    let k : ℕ = a - jumps_at text tables.base in
    let m : ℕ = halves_size text - k in
    let s : ℕ = size_of text in
    let split : halves_size text ≡ k + m = omega (arith, from, to) in
    let e : s + k ≡ a - tables.base = omega (arith, from) in
    let bytes : List ℕ = drop s tables.bytes in
    cc (split, drop-take k m bytes, take-take 4 m (drop k bytes) (omega (arith, from, to)), drop-drop k s tables.bytes, e)

-- and so is one of the last
pub cases_word : (text : Words) (tables : TableAt) (a : ℕ) → cases_at text tables.base ≤ a
    → table_word tables a ≡ table_word (cases_table text tables) a
unfolding table_word
cases_word text tables a from =
    let e : tables_size text + (a - cases_at text tables.base) ≡ a - tables.base = omega (arith, from) in
    cc (drop-drop (a - cases_at text tables.base) (tables_size text) tables.bytes, e)

-- a word among words as bytes, with zeros behind
word_among : (words : List ℕ) (n count : ℕ) → n < length words → slice_index words n < 2 ^ 32
    → from_be_bytes w32 (take 4 (drop (4 * n) (words_bytes words ++ replicate count 0))) ≡ slice_index words n
unfolding words_bytes
word_among [] n count below small = absurd (omega (arith, below))
word_among (w ∷ words) zero count below small = from_be_bytes-to_be_bytes_4 w small
word_among (w ∷ words) (suc n) count below small =
    let e : 4 * suc n ≡ suc (suc (suc (suc (4 * n)))) = omega arith in
    cc (e, word_among words n count (omega (arith, below)) small)

-- ---- the words with the places of the pieces of Case edges

pub cases_for : (text : Words) (graph : Graph) (p : Placement) (targets : List Addr) (foreign : Addr) (tables : TableAt)
    → AreTablesOf text targets foreign (case_places text graph p) tables → tables.base % 4096 ≡ 0
    → ((k : ℕ) → slice_index p.at k ≤ 2 ^ 31) → AreCasesFor text graph p (cases_table text tables)
unfolding table_word
cases_for text graph p targets foreign tables are aligned small =
    let numbers : List ℕ = case_numbers text graph in
    let places : List ℕ = case_places text graph p in
    let many = length-map numbers (λ number. slice_index p.at number) in
    let long = ap length are.cases ∙ pages_length places in
    let low = are.low in
    record {
      aligned = omega (arith, aligned);
      low = omega (arith, long, are.size, low);
      long = omega (arith, long, many);
      words = λ entry number e.
          let within = slice_get_within numbers entry number e in
          let here : slice_index places entry ≡ slice_index p.at number =
          cc (get_or-map (λ n. slice_index p.at n) numbers entry 0 0 within, get_or_from_slice_get numbers entry number 0 e) in
          let l = small number in
          let at : cases_at text tables.base + 4 * entry - cases_at text tables.base ≡ 4 * entry = omega arith in
          let among = word_among places entry (cells_size (length places) - 4 * length places)
          (omega (arith, within, many)) (omega (arith, here, l)) in
          cc (at, are.cases, among, here);
    }
