-- Words are added for one operation after the other, and for one register after the other.
use Rattle.snippet_code.proofs.Common.{◌≡◌, ℕ, zero, suc, ◌+◌, ◌<◌, ◌≤◌, Bool, List, [], ◌∷◌, ◌++◌, length, map, take, get_or, ap, sym, ◌∙◌, arith, append_assoc, take_more, map-append, Instr, word_of, Op, IsOp, append-nil, All, All-get_or, All-push, op_registers, registers_for, op_words, all_words, EndsLow, EndLow}
use Rattle.std.proofs.lemmas.Grind.{flat_map-append}

-- words that were added after others
more_words : (before : List ℕ) (xs ys : List Instr) (now after : List ℕ) → now ≡ before ++ map word_of xs
    → after ≡ now ++ map word_of ys → after ≡ before ++ map word_of (xs ++ ys)
more_words before xs ys now after e f =
    cc (f, e, append_assoc before (map word_of xs) (map word_of ys), map-append word_of xs ys)

-- one operation more
pub op_more : (base : ℕ) (d : Bool) (r : ℕ → ℕ) (ops : List Op) (i : ℕ) (op : Op) (before now after : List ℕ)
    → i < length ops → op ≡ get_or ops i op → now ≡ before ++ map word_of (all_words base d r (take i ops))
    → after ≡ now ++ map word_of (op_words base d r op)
    → after ≡ before ++ map word_of (all_words base d r (take (i + 1) ops))
op_more base d r ops i op before now after below is e f =
    more_words before (all_words base d r (take i ops)) (op_words base d r op) now after e f
    ∙ ap (λ (z : List Instr). before ++ map word_of z)
    (ap (λ (z : List Instr). all_words base d r (take i ops) ++ z) (sym (append-nil (op_words base d r op)))
    ∙ sym (flat_map-append (op_words base d r) (take i ops) (op ∷ []))
    ∙ ap (λ (z : Op). all_words base d r (take i ops ++ z ∷ [])) is
    ∙ ap (all_words base d r) (sym (take_more ops i op below)))

-- each works in as many registers as all
pub op_room : (d : Bool) (ops : List Op) (i : ℕ) (op : Op) → i < length ops → op ≡ get_or ops i op
    → op_registers d op ≤ registers_for d ops
op_room d ops i op below is = rw is (each ops i below)
  where
    each : (xs : List Op) (k : ℕ) → k < length xs → op_registers d (get_or xs k op) ≤ registers_for d xs
    each [] k h = absurd (omega arith)
    each (x ∷ xs) zero h = omega arith
    each (x ∷ xs) (suc k) h = let z = each xs k (omega arith) in omega arith

pub op_low : (base : ℕ) (ops : List Op) (i : ℕ) (op : Op) → i < length ops → op ≡ get_or ops i op → EndLow base ops
    → EndsLow base op
op_low base ops i op below is low = rw is (All-get_or (EndsLow base) ops i op below low)

pub are_more : (ops : List Op) (i : ℕ) (op : Op) → i < length ops → op ≡ get_or ops i op → All IsOp (take i ops)
    → IsOp op → All IsOp (take (i + 1) ops)
are_more ops i op below is before here =
    rw (take_more ops i op below) (All-push IsOp (take i ops) (get_or ops i op) before (rw is at here))
