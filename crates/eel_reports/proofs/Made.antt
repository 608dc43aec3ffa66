-- A program that is made from a number can be edited with counters, run and counted.
use Rattle.std.proofs.Common.{ℕ, ◌+◌, ◌*◌, ◌%◌, ◌<◌, ◌≤◌, List, [], ◌∷◌, ◌++◌, length, map, inr, arith}
use Rattle.std.specs.Int.{bytes_high_first}
use Rattle.std.proofs.lemmas.List.Elements.{All-nil, All-append}
use Rattle.elf32_sparc.specs.Image.{image_of}
use Rattle.v8_memory.specs.Spans.{IsApartFromAll, Span}
use Rattle.v8_step.specs.State.{AreBytes}
use Rattle.v8_step.specs.declared.Ending.TheVariants.{Exit}
use Rattle.v8_encode.specs.Encoding.{word_of}
use Rattle.workload.specs.Generated.{bytes_of, code_of, generated, header_words, routines_from}
use Rattle.workload.specs.Laws.{step_count, text_span, total}
use Rattle.workload.proofs.Faults.{generated_size, has_no_fault}
use Rattle.workload.proofs.Room.{leaves_room}
use Rattle.workload.proofs.Runs.{generated_runs_end}
use Rattle.workload.proofs.Texts.{generated_holds_its_code}
use Rattle.eel_reports.specs.Tame.{AreAbove, IsTame}
use Rattle.v8_step.proofs.ValidNumbers.{high_first-bytes}

-- ---- its bytes

word_bytes : (words : List ℕ) → AreBytes (bytes_of words)
word_bytes [] = All-nil (λ b. b < 256)
word_bytes (word ∷ words) =
    All-append (λ b. b < 256) (bytes_high_first 4 word) (bytes_of words) (high_first-bytes 4 word) (word_bytes words)

made_bytes : (number count : ℕ) → AreBytes (generated number count)
unfolding generated
made_bytes number count =
    let words = map word_of (code_of (routines_from count number) count) in
    word_bytes (header_words (4 * length words) ++ words)

-- ---- pages above its segment are apart from its text

apart : (base count : ℕ) (pages : List Span) → 0x10054 + 4 * (9 * count + 2) ≤ base → AreAbove base pages
    → IsApartFromAll pages (text_span count)
apart base count [] low above = tt
apart base count (page ∷ pages) low above =
    let first = above.0 in (inr (omega (arith, low, first)), apart base count pages low above.1)

pub made_is_tame : (number count : ℕ) → 1 ≤ count → count ≤ 100000 → IsTame (generated number count)
made_is_tame number count some few =
    let none = has_no_fault number count some few in
    let words = (generated_holds_its_code number count some few).size in
    let room = leaves_room number count some few in
    let ends = generated_runs_end number count some few in
    let most = ends.few in
    let all = room.room in
    let size = generated_size number count in
    record {
      bytes = made_bytes number count;
      size = omega (arith, size, few);
      sound = none.0;
      loads = none.1;
      room = omega (arith, words, all, few);
      ending = Exit (total number count % 256);
      steps = step_count number count;
      ran = record { made = ends.goes_on; ends = ends.exits };
      few = omega (arith, most, few);
      untouched = λ pages above n.
          ends.untouched pages (apart (image_of (generated number count)).base count pages room.base above) n;
    }
