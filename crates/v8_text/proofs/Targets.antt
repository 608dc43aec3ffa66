-- Where transfers lead.
use Rattle.v8_text.proofs.Common.{◌≡◌, ℕ, ◌+◌, ◌-◌, ◌*◌, ◌/◌, ◌%◌, ◌<◌, ◌^◌, ◌==◌, true, List, ◌∷◌, Some, ℤ, refl, ap, sym, ◌∙◌, arith, eq-eqb, eqb-true, nat_tests, hex_of, address_back, address_read, step, tested, signed, fits_signed, signed_field, number_text, target_of, behind, displacement_of, number_in, words_between}
use Rattle.v8_encode.proofs.Fields.{signed-signed_field, signed_field-signed}
use Rattle.v8_text.proofs.Found.{behind_back, behind_read}

-- ---- numbers

pub number_in_back : (n : ℕ) → n < 2 ^ 32 → number_in (number_text n) ≡ Some n
unfolding number_in
number_in_back n fits = rw (behind_back 48 (120 ∷ hex_of n), behind_back 120 (hex_of n), address_back n fits) refl

pub record IsNumber (word : List ℕ) (n : ℕ) : Type 0 where
  pub text : word ≡ number_text n
  pub fits : n < 2 ^ 32

pub number_in_read : (word : List ℕ) (n : ℕ) → number_in word ≡ Some n → IsNumber word n
unfolding number_in
number_in_read word n h =
    step (IsNumber word) (behind 48 word) _ (λ rest a.
    step (IsNumber word) (behind 120 rest) _ (λ digits b n c.
    let read = address_read digits n c in
    record { text = cc (behind_read 48 word rest a, behind_read 120 rest digits b, read.0); fits = read.1 })) n h

-- ---- displacements

distance : ℕ → ℕ → ℕ
distance at target = (target + (2 ^ 32 - at)) % 2 ^ 32

distance_is : (at : ℕ) (z : ℤ) → at < 2 ^ 32 → fits_signed 30 z ≡ true
    → distance at (target_of at z) ≡ 4 * signed_field 30 z
unfolding distance
distance_is at z low fits = grind (arith, nat_tests)

by_distance : (at target words : ℕ) (z : ℤ) → distance at target ≡ 4 * words → signed 30 words ≡ z
    → words_between at target ≡ Some z
unfolding distance
by_distance at target words z is value =
    let part : 4 * words / 4 ≡ words = omega arith in
    rw (is, eq-eqb (4 * words % 4) 0 (omega arith), part, value) refl

between_back : (at : ℕ) (z : ℤ) → at < 2 ^ 32 → fits_signed 30 z ≡ true → words_between at (target_of at z) ≡ Some z
between_back at z low fits =
    by_distance at (target_of at z) (signed_field 30 z) z (distance_is at z low fits) (signed-signed_field 30 z refl fits)

led_to : (at target words : ℕ) (z : ℤ) → at < 2 ^ 32 → target < 2 ^ 32 → distance at target ≡ 4 * words
    → words < 2 ^ 30 → fits_signed 30 z ≡ true → signed_field 30 z ≡ words → target_of at z ≡ target
unfolding distance
led_to at target words z low fits far few small same = grind (arith, nat_tests)

between_read : (at target : ℕ) (z : ℤ) → at < 2 ^ 32 → target < 2 ^ 32 → words_between at target ≡ Some z
    → target_of at z ≡ target
unfolding distance
between_read at target z low fits h =
    let far : ℕ = (target + (2 ^ 32 - at)) % 2 ^ 32 in
    let found = tested (far % 4 == 0) (signed 30 (far / 4)) z h in
    let whole = eqb-true (far % 4) 0 found.0 in
    let few : far / 4 < 2 ^ 30 = omega arith in
    let field = signed_field-signed 30 (far / 4) refl few in
    led_to at target (far / 4) z low fits (omega (arith, whole)) few
    (rw found.1 at field.0) (rw found.1 at field.1)

pub displacement_back : (at : ℕ) (z : ℤ) → at < 2 ^ 32 → fits_signed 30 z ≡ true
    → displacement_of at (number_text (target_of at z)) ≡ Some z
unfolding displacement_of
displacement_back at z low fits =
    rw (number_in_back (target_of at z) (omega arith), between_back at z low fits) refl

pub displacement_read : (at : ℕ) (word : List ℕ) (z : ℤ) → at < 2 ^ 32 → displacement_of at word ≡ Some z
    → word ≡ number_text (target_of at z)
unfolding displacement_of
displacement_read at word z low h =
    step (λ (z : ℤ). word ≡ number_text (target_of at z)) (number_in word) _ (λ target a z b.
    let is = number_in_read word target a in
    is.text ∙ ap number_text (sym (between_read at target z low is.fits b))) z h
