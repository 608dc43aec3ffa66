-- Parts of bytes that were read or written one after another.
use Rattle.std.proofs.Common.{◌≡◌, ℕ, ◌+◌, ◌-◌, ◌≤◌, List, ◌++◌, length, take, drop, Option, Some, None, IfSome, ◌<◌, refl, ap, sym, ◌∙◌, append_assoc, length-append, length-drop, arith}
use Rattle.std.proofs.lemmas.List.{length-take}
use Rattle.std.proofs.Math.Seq.{take-add}
use Rattle.std.proofs.lemmas.List.{take_rest, take_all, length-take-le, take-append-le, take-append-drop, drop-drop}
use Rattle.std.specs.Option.{option_map}
use Rattle.eel_base.specs.Outside.{appended, preceded, GaveSome}

-- the first i items, and then k of the rest, are the first i + k
pub take-then : (xs : List ℕ) (i k : ℕ) → take i xs ++ take k (drop i xs) ≡ take (i + k) xs
take-then xs i k = sym (take-add i k xs)

pub appended-appended : (old : Option (List ℕ)) (a b : List ℕ) → appended (appended old a) b ≡ appended old (a ++ b)
appended-appended None a b = refl
appended-appended (Some x) a b = ap (λ z. Some z) (append_assoc x a b)

-- k of the rest were taken after the first i
pub appended-rest : (old now new : Option (List ℕ)) (xs : List ℕ) (i k : ℕ) → now ≡ appended old (take i xs) → new ≡ appended now (take k (take (length xs - i) (drop i xs))) → new ≡ appended old (take (i + k) xs)
appended-rest old now new xs i k first then =
    then ∙ ap (λ z. appended now (take k z)) (take_rest xs i)
    ∙ ap (λ z. appended z (take k (drop i xs))) first
    ∙ appended-appended old (take i xs) (take k (drop i xs))
    ∙ ap (appended old) (take-then xs i k)

pub preceded-preceded : (a b : List ℕ) (rest : Option (List ℕ)) → preceded a (preceded b rest) ≡ preceded (a ++ b) rest
preceded-preceded a b None = refl
preceded-preceded a b (Some x) = ap (λ z. Some z) (sym (append_assoc a b x))

-- some bytes were read after these
pub gave-after : (old now new : Option (List ℕ)) (bytes : List ℕ) (room bound : ℕ) → old ≡ preceded bytes now → GaveSome (λ count. count ≤ room) now new → length bytes + room ≤ bound → GaveSome (λ count. count ≤ bound) old new
gave-after old now new bytes room bound first (more, few, then) fits =
    (bytes ++ more, (let e = length-append bytes more in omega arith), first ∙ ap (preceded bytes) then ∙ preceded-preceded bytes more new)

-- all bytes so far are a part
pub gave-all : (old now : Option (List ℕ)) (bytes : List ℕ) (bound : ℕ) → old ≡ preceded bytes now → length bytes ≤ bound → GaveSome (λ count. count ≤ bound) old now
gave-all old now bytes bound first fits = (bytes, fits, first)

-- what was left at `at` is the part that was copied from there into a buffer, and then the rest
pub left-copied : (bytes copied buffer : List ℕ) (at count : ℕ) → copied ≡ take count (take (length bytes - at) (drop at bytes)) → count ≤ length bytes - at → drop at bytes ≡ take count (copied ++ buffer) ++ drop (at + count) bytes
left-copied bytes copied buffer at count same fits =
    let part : copied ≡ take count (drop at bytes) = same ∙ ap (take count) (take_rest bytes at) in
    let size : length copied ≡ count = ap length part ∙ length-take-le count (drop at bytes) (let e = length-drop at bytes in omega arith) in
    let first : take count (copied ++ buffer) ≡ copied = take-append-le count copied buffer (omega arith) ∙ take_all count copied (omega arith) in
    sym (take-append-drop count (drop at bytes))
    ∙ ap (λ z. z ++ drop count (drop at bytes)) (sym (first ∙ part))
    ∙ ap (λ z. take count (copied ++ buffer) ++ z) (drop-drop count at bytes)

-- a first part that is shorter than what was asked for is all that was left
pub all-taken : (known : Option (List ℕ)) (all : List ℕ) (most : ℕ) → IfSome (option_map (take most) known) (λ xs. all ≡ xs) → length all < most → IfSome known (λ left. all ≡ left)
all-taken None all most first short = first
all-taken (Some left) all most first short = first ∙ take_all most left (let e = ap length first in let f = length-take most left in omega arith)
