-- Runs of code without transfers.
use Rattle.code_runs.proofs.Common.{◌≡◌, ℕ, zero, suc, ◌+◌, ◌*◌, ◌<◌, List, [], ◌∷◌, length, map, get_or, refl, subst, arith, Instr, decode_of, Region, Says, StandIn, HasWords}
use Rattle.v8_decode.specs.declared.Instr.TheVariants as i

-- what the words say that stand there
pub words_say : (code : List Region) (a : ℕ) (ws : List ℕ) (xs : List Instr) → HasWords code a ws
    → map decode_of ws ≡ xs → StandIn code a xs
words_say code a ws xs h e = subst (StandIn code a) e (go a ws h)
  where
    go : (a : ℕ) (ws : List ℕ) → HasWords code a ws → StandIn code a (map decode_of ws)
    go a [] h = tt
    go a (w ∷ ws) h = (record { word = w; fetched = h.0; decodes = refl }, go (a + 4) ws h.1)

-- what is said at an address, at the same address written otherwise
pub says_at : (code : List Region) (p q : ℕ) (x : Instr) → q ≡ p → Says code q x → Says code p x
says_at code p q x e h = subst (λ (z : ℕ). Says code z x) e h

-- the instruction of that number
abbrev pub nth : List Instr → ℕ → Instr
nth xs n = get_or xs n (i.Sethi 0 0)

pub nth_says : (code : List Region) (a : ℕ) (xs : List Instr) (n : ℕ) → StandIn code a xs → n < length xs
    → Says code (a + 4 * n) (nth xs n)
nth_says code a [] n h low = absurd (omega arith)
nth_says code a (x ∷ xs) zero h low = says_at code (a + 4 * 0) a x (omega arith) h.0
nth_says code a (x ∷ xs) (suc n) h low =
    says_at code (a + 4 * suc n) (a + 4 + 4 * n) (nth xs n) (omega arith) (nth_says code (a + 4) xs n h.1 (omega arith))
