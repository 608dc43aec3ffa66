-- A file without a fault starts with its text in memory, in a region that may not be written.
use Rattle.std.proofs.lemmas.Bool.{not-true}
use Rattle.switch_runs.proofs.Common.{◌≡◌, ℕ, ◌+◌, ◌%◌, ◌<◌, ◌≤◌, Bool, true, false, not, nat_le, nat_lt, Option, Some, None, List, [], ◌∷◌, ◌++◌, map, slice_index, refl, sym, ◌∙◌, arith, if◌then◌else◌, ◌==◌, filter, find, option_map, and_parts, cond-false, cond-true, cond_both, leb-true, ltb-false, or_parts, address_of, loadable, program_headers, mapping_of, mappings, Region, code_of, covers, fetch_from, fetch_of, is_code, word_in, program_name, stack_region, start_memory, start_of, IsFixed, TextIsHeld, nat_tests}
use Rattle.elf32_sparc.specs.declared.header.ProgramHeader.{ProgramHeader}
use Rattle.elf32_sparc.specs.Header.{end_of}
use Rattle.elf32_sparc.specs.FileFault.{descends_from, has_disorder}
use Rattle.elf32_sparc.specs.Image.{image_of, text_of}
use Rattle.elf32_sparc.proofs.Accepted.{Accepted, accepted}
use Rattle.v8_memory.specs.Segments.{region_of}
use Rattle.v8_process.proofs.Fetched.{text_is_fetched}

module _ (file : List ℕ) (texts : List (List ℕ)) (a : ℕ) where
  abbrev region : ProgramHeader → Region
  region h = region_of (mapping_of file h)

  abbrev regions : List ProgramHeader → List Region
  regions hs = map region_of (map (mapping_of file) hs) ++ stack_region texts ∷ []

  -- what begins above the address doesn't cover it
  none_above : (end : ℕ) (hs : List ProgramHeader) → descends_from end hs ≡ false → a < end
      → find (covers a 4) (filter is_code (regions hs)) ≡ None
  none_above end [] d l = refl
  none_above end (h ∷ hs) d l =
      let parts = or_parts (nat_lt h.p_vaddr end) (descends_from (end_of h) hs) d in
      let high : end ≤ h.p_vaddr = ltb-false h.p_vaddr end parts.0 in
      let later = none_above (end_of h) hs parts.1 (omega arith) in
      cond_both (is_code (region h)) (region h ∷ filter is_code (regions hs)) (filter is_code (regions hs))
      (λ rs. find (covers a 4) rs ≡ None)
      (λ _. cond-false (covers a 4 (region h)) _ _ (apart high) ∙ later) (λ _. later)
    where
      apart : end ≤ h.p_vaddr → covers a 4 (region h) ≡ false
      apart high = grind (arith, nat_tests)

  -- the first that covers it is the code that does
  first_is : (end : ℕ) (hs : List ProgramHeader) (r : Region) → descends_from end hs ≡ false
      → find (covers a 4) (filter is_code (regions hs)) ≡ Some r
      → (find (covers a 4) (regions hs) ≡ Some r) × (r.writable ≡ false)
  first_is end [] r d found = absurd (cc)
  first_is end (h ∷ hs) r d found =
      let parts = or_parts (nat_lt h.p_vaddr end) (descends_from (end_of h) hs) d in
      go (covers a 4 (region h)) (is_code (region h)) refl refl (first_is (end_of h) hs r parts.1)
      (none_above (end_of h) hs parts.1) found
    where
      rest : List Region
      rest = filter is_code (regions hs)

      go : (c k : Bool) → covers a 4 (region h) ≡ c → is_code (region h) ≡ k
          → (find (covers a 4) (filter is_code (regions hs)) ≡ Some r
          → (find (covers a 4) (regions hs) ≡ Some r) × (r.writable ≡ false))
          → (a < end_of h → find (covers a 4) (filter is_code (regions hs)) ≡ None)
          → find (covers a 4) (if k then region h ∷ filter is_code (regions hs) else filter is_code (regions hs)) ≡ Some r
          → ((if c then Some (region h) else find (covers a 4) (regions hs)) ≡ Some r) × (r.writable ≡ false)
      go true true e f later none found =
          let is : Some (region h) ≡ Some r = sym (cond-true (covers a 4 (region h)) _ _ e) ∙ found in
          let same : region h ≡ r = cc in
          let ok = and_parts (region h).executable (not (region h).writable) f in
          (is, cc (same, not-true (region h).writable ok.1))
      go true false e f later none found =
          let ends : a + 4 ≤ h.p_vaddr + h.p_memsz =
          leb-true (a + 4) (h.p_vaddr + h.p_memsz) (and_parts (nat_le h.p_vaddr a) (nat_le (a + 4) (h.p_vaddr + h.p_memsz)) e).1 in
          let nothing = none (omega arith) in
          absurd (cc)
      go false true e f later none found = later (sym (cond-false (covers a 4 (region h)) _ _ e) ∙ found)
      go false false e f later none found = later found

fetched_from : (code : List Region) (a w : ℕ) → fetch_from code a ≡ Some w
    → (r : Region) × (find (covers a 4) code ≡ Some r) × (word_in a r ≡ w)
fetched_from code a w h = go (a % 4 == 0) (find (covers a 4) code) refl h
  where
    go : (b : Bool) (o : Option Region) → find (covers a 4) code ≡ o
        → (if b then option_map (word_in a) o else None) ≡ Some w
        → (r : Region) × (find (covers a 4) code ≡ Some r) × (word_in a r ≡ w)
    go true (Some r) e h = (r, e, cc)
    go _ _ e h = absurd (cc)

fixed : (a w : ℕ) (o : Option Region) (r : Region) → o ≡ Some r → r.writable ≡ false → word_in a r ≡ w → IsFixed a w o
fixed a w o r e f g = rw e (f, g)

pub text_is_held : TextIsHeld
unfolding start_of mappings fetch_of image_of has_disorder
text_is_held file args input sound bytes = record {
  heap = omega arith;
  words = λ word l.
      let texts : List (List ℕ) = program_name ∷ args in
      let a : ℕ = address_of (text_of file) word in
      let is = fetched_from (code_of (start_memory file texts)) a (slice_index (text_of file).words word)
      (text_is_fetched file texts sound bytes word l) in
      let ok : Accepted file = accepted file sound in
      let first = first_is file texts a 0 (loadable (program_headers file)) is.0 ok.segment_order is.1 in
      fixed a (slice_index (text_of file).words word) _ is.0 first.0 first.1 is.2;
}
