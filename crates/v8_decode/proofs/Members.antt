-- What a set of parts has.
use Rattle.v8_decode.proofs.Common.{◌≡◌, ℕ, zero, suc, ◌+◌, Bool, true, ◌&&◌, ◌||◌, List, [], ◌∷◌, ◌++◌, nat_lt, nat_le, refl, sym, ap, ◌∙◌, arith, filter, or_assoc, or-false, or-true, nat_tests, eqb-true, Part, Reg, Icc, Y, is_same, is_member, has, registers_from, every_part, members}

pub is_same-self : (p : Part) → is_same p p ≡ true
is_same-self (Reg r) = grind (arith, nat_tests)
is_same-self Icc = refl
is_same-self Y = refl

pub same_parts : (p q : Part) → is_same p q ≡ true → p ≡ q
same_parts (Reg a) (Reg b) h = ap Reg (eqb-true a b h)
same_parts Icc Icc h = refl
same_parts Y Y h = refl
same_parts p q h = absurd (cc)

pub has-append : (ps qs : List Part) (p : Part) → has (ps ++ qs) p ≡ (has ps p || has qs p)
has-append [] qs p = refl
has-append (x ∷ ps) qs p = rw (has-append ps qs p, or_assoc) refl

pub has-filter : (f : Part → Bool) (ps : List Part) (p : Part) → has (filter f ps) p ≡ (has ps p && f p)
has-filter f [] p = refl
has-filter f (x ∷ ps) p = grind (arith, nat_tests, has-filter f ps p, same_parts p x)

has-registers_from : (r first count : ℕ) → has (registers_from first count) (Reg r) ≡ (nat_le first r && nat_lt r (first + count))
has-registers_from r first zero = grind (arith, nat_tests)
has-registers_from r first (suc count) =
    let rest = has-registers_from r (suc first) count in
    grind (arith, nat_tests, rest)

pub has-every_part : (p : Part) → has every_part p ≡ is_member p
unfolding every_part
has-every_part (Reg r) =
    has-append (registers_from 1 31) (Icc ∷ Y ∷ []) (Reg r)
    ∙ or-false (has (registers_from 1 31) (Reg r))
    ∙ has-registers_from r 1 31
has-every_part Icc = refl
has-every_part Y = refl

-- a set has just the parts that pass its test
pub has-members : (f : Part → Bool) (p : Part) → has (members f) p ≡ (is_member p && f p)
unfolding members
has-members f p = has-filter f every_part p ∙ ap (λ b. b && f p) (has-every_part p)

filter-same : (f g : Part → Bool) (ps : List Part) → ((p : Part) → has ps p ≡ true → f p ≡ g p) → filter f ps ≡ filter g ps
filter-same f g [] same = refl
filter-same f g (x ∷ ps) same =
    let here = same x (rw (is_same-self x) refl) in
    let rest = filter-same f g ps (λ p h. same p (rw h (or-true _))) in
    rw (here, rest) refl

-- two tests that agree on the parts that a set can have make one set
pub members-same : (f g : Part → Bool) → ((p : Part) → is_member p ≡ true → f p ≡ g p) → members f ≡ members g
unfolding members
members-same f g same = filter-same f g every_part (λ p h. same p (sym (has-every_part p) ∙ h))
