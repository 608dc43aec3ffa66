-- Which stores are counted, and what is known of them.
use Rattle.image_code.proofs.Common.{Option, sym, ◌≡◌, ℕ, zero, suc, ◌+◌, ◌%◌, ◌^◌, ◌<◌, ◌≤◌, inl, inr, Bool, true, false, Some, None, List, [], ◌∷◌, ◌++◌, map, refl, arith, if◌then◌else◌, ◌==◌, list_any, nat_tests, Words, Instr, decode_of, AllApart, State, sum_of, judged_by, act, run, trapped, pages_of, instr_at, page_word, Notes, ldstub_step, store_size, store_step, swap_step, mem_address_not_aligned, cell_at, kept_word, NoteSegment, holds, page_of, any_of_word, one_if, stores_at, uncounted_span, in_first_word, is_spill, spills_on}
use Rattle.v8_decode.specs.declared.Instr.TheVariants as i
use Rattle.v8_memory.specs.Spans.{IsApartFromAll, Span}
use Rattle.code_runs.specs.Ours.{IsIn}
use Rattle.image_code.specs.Simulates.{EditSetup, word_of}

-- an address outside the pages is in none of them
pub out_of_pages : (segments : List NoteSegment) (a : ℕ)
    → IsApartFromAll (map page_of segments) (record { from = a; count = 1 }) → list_any (holds a (a + 1)) segments ≡ false
out_of_pages [] a apart = refl
out_of_pages (segment ∷ segments) a apart = grind (arith, nat_tests, apart.0, out_of_pages segments a apart.1)

-- ---- bytes that aren't counted

-- word 0 of the page is no spill
pub spill_first : (notes : Notes) → any_of_word (is_spill notes) (page_word 0) ≡ false
spill_first notes = uncounted_span (is_spill notes) (page_word 0) 4 (λ a low high. grind (low, high, arith, nat_tests))

-- nor is a cell
pub spill_cell : (notes : Notes) (cell : ℕ) → cell < notes.cells
    → any_of_word (is_spill notes) (cell_at notes.base cell) ≡ false
spill_cell notes cell within =
    uncounted_span (is_spill notes) (cell_at notes.base cell) 4 (λ a low high. grind (arith, nat_tests))

-- word 0 of the page lies above each cell, and below what snippets keep
pub first_cell : (a : ℕ) → a + 4 ≤ 2 ^ 31 → any_of_word in_first_word a ≡ false
first_cell a low = uncounted_span in_first_word a 4 (λ b from to. grind (arith, nat_tests))

pub first_kept_word : (n : ℕ) → any_of_word in_first_word (kept_word n) ≡ false
first_kept_word n = uncounted_span in_first_word (kept_word n) 4 (λ b from to. grind (arith, nat_tests))

-- ---- what judges no byte of the pages

-- each byte of a span
apart_byte : (pages : List Span) (from count a : ℕ) → from ≤ a → a < from + count
    → IsApartFromAll pages (record { from = from; count = count })
    → IsApartFromAll pages (record { from = a; count = 1 })
apart_byte [] from count a low high apart = tt
apart_byte (page ∷ pages) from count a low high apart =
    (grind (arith, apart.0), apart_byte pages from count a low high apart.1)

first_out : (pages : List Span) (a : ℕ) → IsIn pages (page_word 0)
    → IsApartFromAll pages (record { from = a; count = 1 }) → in_first_word a ≡ false
first_out [] a inside apart = absurd inside
first_out (page ∷ pages) a (inl at) apart = grind (arith, nat_tests, at, apart.0)
first_out (page ∷ pages) a (inr inside) apart = first_out pages a inside apart.1

module _ (notes : Notes) (own : IsIn (pages_of notes) (page_word 0)) (s : State) where
  abbrev IsUncounted : Option Span → Type 0
  IsUncounted span = (one_if (is_spill notes) span ≡ 0) × (one_if in_first_word span ≡ 0)

  -- an access that is made
  made : (b : Bool) (from count : ℕ) (u : State)
      → AllApart (pages_of notes) (if b then record { from = from; count = count } ∷ [] else [])
      → (if b then u else trapped s mem_address_not_aligned).ending ≡ None
      → IsUncounted (Some (record { from = from; count = count }))
  made false from count u apart live = absurd (cc)
  made true from count u apart live =
      let byte = apart_byte (pages_of notes) from count in (
        rw (uncounted_span (is_spill notes) from count (λ a low high.
            rw (out_of_pages notes.segments a (byte a low high apart.0)))),
        rw (uncounted_span in_first_word from count (λ a low high. first_out (pages_of notes) a own (byte a low high apart.0))),
      )

  -- what goes on, and judges no byte of the pages
  pub uncounted : (x : Instr) → AllApart (pages_of notes) (judged_by s x) → (act s x).ending ≡ None
      → IsUncounted (stores_at s x)
  unfolding act store_step ldstub_step swap_step
  uncounted (i.Store kind rd rs1 op2) apart live = made (sum_of s rs1 op2 % store_size kind == 0) _ _ _ apart live
  uncounted (i.Ldstub rd rs1 op2) apart live = made (sum_of s rs1 op2 % 1 == 0) _ _ _ apart live
  uncounted (i.Swap rd rs1 op2) apart live = made (sum_of s rs1 op2 % 4 == 0) _ _ _ apart live
  uncounted _ apart live = (refl, refl)

-- a word of the text
pub instr_is : (text : Words) (a word : ℕ) → word_of text a ≡ Some word → instr_at text a ≡ Some (decode_of word)
instr_is text a word e = grind arith

-- ---- counts

pub spills_then : (g : EditSetup) (first others : List ℕ)
    → spills_on g.snips g.dead (first ++ others) ≡ spills_on g.snips g.dead first + spills_on g.snips g.dead others
spills_then g [] others = omega arith
spills_then g (edge ∷ edges) others = omega (arith, spills_then g edges others)

-- so many steps that end where no earlier one was
pub same_steps : (s : State) (k l end : ℕ) → (run s k).pc ≡ end → (run s l).pc ≡ end
    → ((j : ℕ) → 0 < j → j < k → (run s j).pc < end) → ((j : ℕ) → 0 < j → j < l → (run s j).pc < end)
    → (s.pc ≡ end → (k ≡ 0) × (l ≡ 0)) → k ≡ l
same_steps s zero l end at_k at_l before_k before_l none = sym (none at_k).1
same_steps s (suc k) zero end at_k at_l before_k before_l none = (none at_l).0
same_steps s (suc k) (suc l) end at_k at_l before_k before_l none =
    grind (arith, before_l (suc k) (omega arith), before_k (suc l) (omega arith))
