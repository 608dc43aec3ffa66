-- Only the words of a file's text are fetched.
use Rattle.walk_counts.proofs.Common.{subst, ◌≡◌, ℕ, ◌/◌, ◌%◌, ◌≤◌, Bool, List, [], ◌∷◌, ◌++◌, length, map, slice_index, Option, Some, None, refl, sym, ap, ◌∙◌, arith, filter, find, option_map, option_map_or, ltb-false, Words, word_at, program_headers, loadable, is_text, text_header, text_count, fault, text_of, image_of, text_from, no_text, Accepted, accepted, IsFit, has_text, text_is_fit, AreBytes, start_memory, start_of, stack_region, program_name, OnlyTextIsFetched, IsText, length-words_of}
use Rattle.std.proofs.lemmas.Bool.Decides.{nat_tests}
use Rattle.std.proofs.lemmas.List.{nil_from_length}
use Rattle.std.proofs.lemmas.List.Sums.{length-filter}
use Rattle.elf32_sparc.specs.declared.header.ProgramHeader.{ProgramHeader}
use Rattle.elf32_sparc.specs.Mapping.{mapping_of, mappings, memory_bytes}
use Rattle.v8_memory.specs.Regions.{Region, is_code, code_of, fetch_from, fetch_of}
use Rattle.v8_memory.specs.Segments.{region_of}
use Rattle.v8_process.proofs.Fetched.{text_is_fetched}
use Rattle.cfg_blocks.proofs.Targets.{IsWord, word_at-some}
pub use Rattle.walk_counts.proofs.Walking.{three_words_walks}

-- ---- the text of a file without a fault

-- the header that gives it
pub record HasText (file : List ℕ) : Type 0 where
  pub header : ProgramHeader
  pub found : text_header (program_headers file) ≡ Some header
  pub fit : IsFit file header
  pub text_is : IsText (text_of file)
  pub start : (text_of file).start ≡ header.p_vaddr
  pub count : length (text_of file).words ≡ header.p_memsz / 4

pub text_found : (file : List ℕ) → Accepted file → (o : Option ProgramHeader) → text_header (program_headers file) ≡ o
    → HasText file
unfolding text_of text_from
text_found file ok None none = absurd (has_text file ok none)
text_found file ok (Some h) found =
    let is : text_from file h ≡ text_of file = ap (λ o. option_map_or (text_from file) o no_text) (sym found) in
    record {
      header = h;
      found = found;
      fit = text_is_fit file h ok found;
      text_is = subst IsText is (text_is_fit file h ok found).text;
      start = ap (λ (t : Words). t.start) (sym is);
      count = ap (λ (t : Words). length t.words) (sym is) ∙ length-words_of (h.p_memsz / 4) (memory_bytes file h);
    }

-- ---- the text's region is the only code

module _ (file : List ℕ) where
  abbrev region : ProgramHeader → Region
  region h = region_of (mapping_of file h)

  -- the mappings that are code are those of the texts
  code-mapped : (hs : List ProgramHeader) (rest : List Region)
      → filter is_code (map region_of (map (mapping_of file) (loadable hs)) ++ rest)
      ≡ map region (filter is_text hs) ++ filter is_code rest
  code-mapped [] rest = refl
  code-mapped (h ∷ hs) rest = let later = code-mapped hs rest in grind (arith, later)

-- the one that passes is the first that does
only_one : {A : Type 0} (p : A → Bool) (xs : List A) (x : A) → find p xs ≡ Some x → length (filter p xs) ≤ 1
    → filter p xs ≡ x ∷ []
only_one p [] x found few = absurd (cc)
only_one p (y ∷ ys) x found few =
    let later = only_one p ys x in let none = nil_from_length (filter p ys) in grind (arith, later, none)

-- so the text's region is the only code
code_is_text : (file : List ℕ) (texts : List (List ℕ)) → Accepted file → (text : HasText file)
    → code_of (start_memory file texts) ≡ region_of (mapping_of file text.header) ∷ []
unfolding mappings
code_is_text file texts ok text =
    let few : text_count (program_headers file) ≤ 1 = ltb-false 1 _ ok.one_text in
    let count = length-filter is_text (program_headers file) in
    code-mapped file (program_headers file) (stack_region texts ∷ [])
    ∙ rw (only_one is_text (program_headers file) text.header text.found (omega arith)) refl

-- the region is as long as the text, but for a last word that isn't whole: what the text doesn't have isn't fetched
outside : (text : Words) (r : Region) (a : ℕ) → r.start ≡ text.start → text.start % 4 ≡ 0
    → length text.words ≡ r.size / 4 → word_at text a ≡ None → fetch_from (r ∷ []) a ≡ None
outside text r a start aligned count is = grind (arith, nat_tests)

-- ---- both halves

fetched : (file : List ℕ) (texts : List (List ℕ)) → fault file ≡ None → AreBytes file → (a : ℕ) (o : Option ℕ)
    → word_at (text_of file) a ≡ o
    → fetch_of (start_memory file texts) a ≡ option_map (λ word. slice_index (text_of file).words word) o
unfolding image_of fetch_of
fetched file texts sound bytes a None none =
    let ok : Accepted file = accepted file sound in
    let text : HasText file = text_found file ok _ refl in
    ap (λ (code : List Region). fetch_from code a) (code_is_text file texts ok text)
    ∙ outside (text_of file) (region_of (mapping_of file text.header)) a (sym text.start) text.text_is.aligned text.count none
fetched file texts sound bytes a (Some word) here =
    let is : IsWord (text_of file) a word = word_at-some (text_of file) a word here in
    ap (fetch_of (start_memory file texts)) is.is ∙ text_is_fetched file texts sound bytes word is.within

pub only_text_is_fetched : OnlyTextIsFetched
unfolding start_of
only_text_is_fetched file args input sound bytes a = fetched file (program_name ∷ args) sound bytes a _ refl
