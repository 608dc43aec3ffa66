use Rattle.elf32_sparc.proofs.Common.{◌≡◌, ◌+◌, ◌-◌, ◌*◌, ◌^◌, ◌≤◌, length, fold, headers_from, noted, survey_of}
use Rattle.elf32_sparc.proofs.survey.Survey.of.Given as goal

abbrev pub invariant-loop-number : goal.invariant-loop-number
invariant-loop-number l = record {
  so_far : fold (noted (length l.bytes)) l.survey (headers_from l.bytes (l.table + 32 * l.number) (l.number-end - l.number)) ≡ survey_of l.bytes;
  texts : l.survey.texts ≤ l.number;
  memory : l.survey.memory ≤ 2 ^ 32 * l.number;
}
