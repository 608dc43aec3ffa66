use Rattle.elf32_sparc.proofs.Common.{◌≤◌, sym, ap, ◌∙◌, highest_end, rounded_up}
use Rattle.elf32_sparc.proofs.Accepted.{accepted, has_text, text_is_fit, segments_end_below}
use Rattle.elf32_sparc.proofs.Images.{is_read, text-survey_of, image_is, image_is_program}
use Rattle.elf32_sparc.proofs.program.read_image.Goals as goal

pub unreachable-requires : goal.unreachable-requires
unreachable-requires c =
    let file = c.args.bytes.now in
    let ok = accepted file (sym c.verdict.ensures ∙ c.in_default.is) in
    has_text file ok (sym (text-survey_of file) ∙ (ap (λ s. s.text) (sym c.of.ensures) ∙ c.in_default-text.is))

pub read_text-requires : goal.read_text-requires
read_text-requires c =
    let file = c.args.bytes.now in
    let ok = accepted file (sym c.verdict.ensures ∙ c.in_default.is) in
    (text_is_fit file c.in-Some-text.header ok (sym (text-survey_of file) ∙ (ap (λ s. s.text) (sym c.of.ensures) ∙ c.in-Some-text.is))).text

pub overflow_sub-entry : goal.overflow_sub-entry
overflow_sub-entry c =
    let file = c.args.bytes.now in
    let ok = accepted file (sym c.verdict.ensures ∙ c.in_default.is) in
    let is_fit = text_is_fit file c.in-Some-text.header ok (sym (text-survey_of file) ∙ (ap (λ s. s.text) (sym c.of.ensures) ∙ c.in-Some-text.is)) in
    rw c.word_at.ensures is_fit.starts

pub base_above-base-requires : goal.base_above-base-requires
base_above-base-requires c =
    let file = c.args.bytes.now in
    let ok = accepted file (sym c.verdict.ensures ∙ c.in_default.is) in
    rw (c.deref.ensures.value, c.in_ok-segments.ensures) (segments_end_below file ok)

pub invariant_of-result : goal.invariant_of-result
invariant_of-result c =
    let file = c.args.bytes.now in
    let ok = accepted file (sym c.verdict.ensures ∙ c.in_default.is) in
    let found = sym (text-survey_of file) ∙ (ap (λ s. s.text) (sym c.of.ensures) ∙ c.in-Some-text.is) in
    let h = c.in-Some-text.header in
    let segments = c.in_ok-segments.segments.items in
    let ends : highest_end segments ≤ 0x80000000 = rw c.in_ok-segments.ensures (segments_end_below file ok) in
    let base = c.base_above-base.ensures ∙ ap (λ s. rounded_up (highest_end s)) c.deref.ensures.value in
    image_is_program file h segments c.in_ok-text.text c.in_ok-funcs.funcs.items _ _ (text_is_fit file h ok found) ends
    (is_read file h segments c.in_ok-text.text c.in_ok-funcs.funcs.items c.word_at.result c.base_above-base.result.0 found c.in_ok-segments.ensures c.in_ok-text.ensures c.in_ok-funcs.ensures c.word_at.ensures base)

pub returns-clause-image : goal.returns-clause-image
returns-clause-image c =
    let file = c.args.bytes.now in
    let found = sym (text-survey_of file) ∙ (ap (λ s. s.text) (sym c.of.ensures) ∙ c.in-Some-text.is) in
    let h = c.in-Some-text.header in
    let base = c.base_above-base.ensures ∙ ap (λ s. rounded_up (highest_end s)) c.deref.ensures.value in
    image_is file h c.in_ok-segments.segments.items c.in_ok-text.text c.in_ok-funcs.funcs.items _ _
    (is_read file h c.in_ok-segments.segments.items c.in_ok-text.text c.in_ok-funcs.funcs.items c.word_at.result c.base_above-base.result.0 found c.in_ok-segments.ensures c.in_ok-text.ensures c.in_ok-funcs.ensures c.word_at.ensures base)
