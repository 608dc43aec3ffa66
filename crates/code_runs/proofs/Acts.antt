-- What one word of such code does.
use Rattle.code_runs.proofs.Common.{◌≡◌, ℕ, ◌%◌, true, false, Option, Some, None, [], refl, ap, ◌∙◌, ◌==◌, Op2, Instr, decode_of, code_of, fetch_of, fetch_from, NoSlot, State, register_of, with_register, sum_of, mem_address_not_aligned, next, trapped, delayed, jump_step, load_step, store_step, act, step_of, on_word, unless_ended, puts_of, puts_unless_ended, IsPlain, puts_nothing, memory_word, store_word, CanLoad, CanStore, Says}
use Rattle.v8_decode.specs.declared.Instr.TheVariants as i
use Rattle.v8_decode.specs.declared.LoadKind.TheVariants as loads
use Rattle.v8_decode.specs.declared.StoreKind.TheVariants as stores
use Rattle.code_runs.proofs.StoredWords.{word_bytes, word_written}

-- a step of a word
pub step_is : (s : State) (word : ℕ) → s.ending ≡ None → fetch_from (code_of s.memory) s.pc ≡ Some word
    → step_of s ≡ act s (decode_of word)
unfolding step_of fetch_of
step_is s word e f = ap (λ z. unless_ended s z (on_word s (fetch_from (code_of s.memory) s.pc))) e ∙ ap (on_word s) f

pub says_step : (s : State) (x : Instr) → s.ending ≡ None → Says (code_of s.memory) s.pc x → step_of s ≡ act s x
says_step s x e h = step_is s h.word e h.fetched ∙ ap (act s) h.decodes

-- it puts nothing out, unless it is a trap
pub says_puts : (s : State) (x : Instr) → IsPlain x → Says (code_of s.memory) s.pc x → (descriptor : ℕ)
    → puts_of s descriptor ≡ []
unfolding puts_of fetch_of
says_puts s x h says descriptor =
    rw (says.fetched, says.decodes, puts_nothing s x descriptor h) (go s.ending)
  where
    go : (e : Option _) → puts_unless_ended e [] ≡ []
    go None = refl
    go (Some ending) = refl

pub ld_acts : (s : State) (rd rs1 : ℕ) (x : Op2) (a : ℕ) → sum_of s rs1 x ≡ a → (a % 4 == 0) ≡ true → CanLoad s.memory a
    → act s (i.Load loads.LD rd rs1 x) ≡ next (with_register s rd (memory_word s.memory a))
unfolding act load_step
ld_acts s rd rs1 x a e z h =
    let b = word_bytes s.memory a h in
    rw (e, z, b.1, ← b.2) refl

pub st_acts : (s : State) (rd rs1 : ℕ) (x : Op2) (a : ℕ) → sum_of s rs1 x ≡ a → (a % 4 == 0) ≡ true
    → CanStore s.memory a → act s (i.Store stores.ST rd rs1 x) ≡ next
    (record s { memory = store_word s.memory a (register_of s rd) })
unfolding act store_step
st_acts s rd rs1 x a e z h =
    rw (e, z, word_written s.memory a (register_of s rd) h) refl

-- a load that isn't aligned ends the run, whatever may be read
pub ld_traps : (s : State) (rd rs1 : ℕ) (x : Op2) → (sum_of s rs1 x % 4 == 0) ≡ false
    → act s (i.Load loads.LD rd rs1 x) ≡ trapped s mem_address_not_aligned
unfolding act load_step
ld_traps s rd rs1 x z = rw z refl

-- a jump that goes
pub jump_acts : (s : State) (rd rs1 : ℕ) (x : Op2) (to : ℕ) → s.slot ≡ NoSlot → sum_of s rs1 x ≡ to
    → (to % 4 == 0) ≡ true → act s (i.Jmpl rd rs1 x) ≡ delayed (with_register s rd s.pc) to
unfolding act jump_step
jump_acts s rd rs1 x to n e z = rw (n, e, z) refl

-- and one that doesn't
pub jump_traps : (s : State) (rd rs1 : ℕ) (x : Op2) → s.slot ≡ NoSlot → (sum_of s rs1 x % 4 == 0) ≡ false
    → act s (i.Jmpl rd rs1 x) ≡ trapped s mem_address_not_aligned
unfolding act jump_step
jump_traps s rd rs1 x n z = rw (n, z) refl
