-- Sections by their numbers, names, and the functions of a symbol table, one after the other.
use Rattle.elf32_sparc.proofs.Common.{◌≡◌, ℕ, zero, suc, ◌+◌, ◌-◌, ◌*◌, ◌/◌, ◌<◌, ◌≤◌, min, Bool, true, not, cond, List, [], ◌∷◌, ◌++◌, length, take, Option, Some, None, IfSome, ap, ◌∙◌, inl, inr, arith, add-one, ◌==◌, take_while, slice_get, option_map, filter_map, range_with_len, prefix_len, cons_option, All, option_map_or, and_parts, ltb-true, cases_lt, cond_both, append-nil, length-take, take-take, take_all, All-nil, All-cons, filter_map-append, Words, numbered, word_of, Func, word_at, e_shoff, section_count, sections, section_header, section_bytes, longest_name, name_in, named, is_function, func_at, funcs_in, funcs_with, funcs_of, symbol_table, string_table}
use Rattle.std.proofs.lemmas.List.FromFn.{length-map-range_with_len, get_or-map-range_with_len}
use Rattle.std.proofs.lemmas.Option.{slice_get-get_or, slice_get_past}
use Rattle.eel_base.specs.declared.numbers.WordNo.{WordNo}
use Rattle.elf32_sparc.specs.declared.sections.SectionHeader.{SectionHeader}

-- a section by its number
pub sections-at : (file : List ℕ) (i : ℕ) → i < section_count file → slice_get (sections file) i ≡ Some (section_header file (e_shoff file + 40 * i))
sections-at file i below =
    let count = section_count file in
    let header : ℕ → SectionHeader = λ number. section_header file (e_shoff file + 40 * number) in
    let long : i < length (sections file) = rw (length-map-range_with_len header 0 count) below in
    slice_get-get_or (sections file) i (header 0) long
    ∙ ap Some (get_or-map-range_with_len header 0 count i i (header 0) below (omega arith))

pub sections-past : (file : List ℕ) (i : ℕ) → section_count file ≤ i → slice_get (sections file) i ≡ None
sections-past file i past =
    let count = section_count file in
    let header : ℕ → SectionHeader = λ number. section_header file (e_shoff file + 40 * number) in
    slice_get_past (sections file) i (rw (length-map-range_with_len header 0 count) past)

-- the name of a function is the first bytes of what stands before the zero byte
take_min : (most n : ℕ) (bytes : List ℕ) → take (min n most) bytes ≡ take most (take n bytes)
take_min most n bytes =
    elim (cases_lt n most) [
      | inl below ↦ let is : min n most ≡ n = omega arith in rw (is, take_all most (take n bytes) (omega (arith, length-take n bytes)))
      | inr above ↦ let is : min n most ≡ most = omega arith in rw (is, take-take most n bytes above)
    ]

-- a prefix of the first bytes is one of all bytes, cut off
fewer_pass : (passes : Bool) (most n k : ℕ) → k ≡ min n most → cond passes (1 + k) 0 ≡ min (cond passes (1 + n) 0) (suc most)
fewer_pass passes most n k is = grind arith

prefix_of_first : (test : ℕ → Bool) (most : ℕ) (bytes : List ℕ) → prefix_len test (take most bytes) ≡ min (prefix_len test bytes) most
prefix_of_first test zero bytes = omega arith
prefix_of_first test (suc most) [] = omega arith
prefix_of_first test (suc most) (x ∷ bytes) =
    fewer_pass (test x) most (prefix_len test bytes) (prefix_len test (take most bytes)) (prefix_of_first test most bytes)

pub cut_name : (bytes : List ℕ) (n : ℕ) → n ≡ prefix_len (λ byte. not (byte == 0)) (take longest_name bytes)
    → take n bytes ≡ take longest_name (take_while (λ byte. not (byte == 0)) bytes)
cut_name bytes n is =
    ap (λ k. take k bytes) (is ∙ prefix_of_first (λ byte. not (byte == 0)) 255 bytes)
    ∙ take_min 255 (prefix_len (λ byte. not (byte == 0)) bytes) bytes

-- the function of a symbol that is one and begins at a word
pub some_func : (file : List ℕ) (text : Words) (strings name : List ℕ) (at address st_name : ℕ) (start : WordNo) → is_function file at ≡ true → address ≡ word_at file (at + 4) → numbered (word_of text address) ≡ Some start → st_name ≡ word_at file at → name ≡ name_in strings st_name → Some (named name start) ≡ func_at file text strings at
some_func file text strings name at address st_name start is_one is_address found is_place is_name =
    rw (is_one, ← is_address, found, is_name, is_place)

-- the functions of a file, where its tables can be read and where not
pub no_symbols : (file : List ℕ) (text : Words) → symbol_table file ≡ None → [] ≡ funcs_of file text
unfolding funcs_of
no_symbols file text none = rw none

pub no_strings : (file : List ℕ) (text : Words) (symbols : SectionHeader) → symbol_table file ≡ Some symbols → string_table file symbols ≡ None → [] ≡ funcs_of file text
unfolding funcs_of
no_strings file text symbols found none = rw (found, none)

pub with_strings : (file : List ℕ) (text : Words) (symbols strings : SectionHeader) → symbol_table file ≡ Some symbols → string_table file symbols ≡ Some strings → funcs_in file text symbols strings ≡ funcs_of file text
unfolding funcs_of
with_strings file text symbols strings found linked = rw (found, linked)

-- what comes of one number more
pub one_more : (a n j : ℕ) → a + n ≡ j → range_with_len a (suc n) ≡ range_with_len a n ++ j ∷ []
one_more a zero j e = let same : a ≡ j = omega arith in ap (λ k. k ∷ []) same
one_more a (suc n) j e = ap (λ l. a ∷ l) (one_more (a + 1) n j (omega arith))

funcs-more : (h : ℕ → Option Func) (n : ℕ) → filter_map h (range_with_len 0 (n + 1)) ≡ filter_map h (range_with_len 0 n) ++ cons_option (h n) []
funcs-more h n =
    rw add-one (ap (filter_map h) (one_more 0 n n (omega arith)) ∙ filter_map-append h (range_with_len 0 n) (n ∷ []))

pub funcs-kept : (h : ℕ → Option Func) (n : ℕ) (funcs more : List Func) (func : Func) → Some func ≡ h n → more ≡ funcs ++ func ∷ [] → funcs ≡ filter_map h (range_with_len 0 n) → more ≡ filter_map h (range_with_len 0 (n + 1))
funcs-kept h n funcs more func is is_more so_far = rw (is_more, so_far, funcs-more h n, ← is)

pub funcs-passed : (h : ℕ → Option Func) (n : ℕ) (funcs more : List Func) → None ≡ h n → more ≡ funcs → funcs ≡ filter_map h (range_with_len 0 n) → more ≡ filter_map h (range_with_len 0 (n + 1))
funcs-passed h n funcs more is is_same so_far = rw (is_same, so_far, funcs-more h n, ← is, append-nil)

-- each function begins at a word of the text
abbrev Inside : Words → Func → Type 0
Inside text func = func.start.0 < length text.words

func_at-inside : (file : List ℕ) (text : Words) (strings : List ℕ) (at : ℕ) → IfSome (func_at file text strings at) (Inside text)
func_at-inside file text strings at =
    let address = word_at file (at + 4) in
    cond_both (is_function file at) _ _ (λ func. IfSome func (Inside text)) (λ _. cond_both _ (Some ((address - text.start) / 4)) None (λ word. IfSome (option_map (named (name_in strings (word_at file at))) (numbered word)) (Inside text)) (λ is. ltb-true ((address - text.start) / 4) (length text.words) (and_parts _ _ is).1) (λ _. tt)) (λ _. tt)

All-option : (P : Func → Type 0) (func : Option Func) (funcs : List Func) → IfSome func P → All P funcs → All P (cons_option func funcs)
All-option P None funcs one all = all
All-option P (Some func) funcs one all = All-cons P func funcs one all

All-filter_map : (P : Func → Type 0) (h : ℕ → Option Func) (numbers : List ℕ) → ((n : ℕ) → IfSome (h n) P) → All P (filter_map h numbers)
All-filter_map P h [] each = All-nil P
All-filter_map P h (n ∷ numbers) each = All-option P (h n) (filter_map h numbers) (each n) (All-filter_map P h numbers each)

with-inside : (file : List ℕ) (text : Words) (symbols : SectionHeader) (strings : Option SectionHeader) → All (Inside text) (option_map_or (funcs_in file text symbols) strings [])
with-inside file text symbols None = All-nil (Inside text)
with-inside file text symbols (Some strings) =
    All-filter_map (Inside text) _ (range_with_len 0 (symbols.sh_size / 16)) (λ number. func_at-inside file text (section_bytes file strings) (symbols.sh_offset + 16 * number))

of-inside : (file : List ℕ) (text : Words) (symbols : Option SectionHeader) → All (Inside text) (option_map_or (funcs_with file text) symbols [])
of-inside file text None = All-nil (Inside text)
of-inside file text (Some symbols) = with-inside file text symbols (string_table file symbols)

pub funcs-inside : (file : List ℕ) (text : Words) → All (λ func. func.start.0 < length text.words) (funcs_of file text)
unfolding funcs_of
funcs-inside file text = of-inside file text (symbol_table file)
