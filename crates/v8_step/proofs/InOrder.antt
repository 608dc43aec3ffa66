-- Steps in order, with pc and npc as places among the records.
use Rattle.v8_step.proofs.Common.{◌≡◌, ◌+◌, ◌-◌, ◌*◌, ◌/◌, ◌%◌, ◌^◌, ◌<◌, ◌≤◌, ◌⊎◌, inl, inr, ℕ, ℤ, pos, negsuc, Bool, false, List, None, get_or, sym, ap, ◌∙◌, subst, arith, cases_lt, le-ltb, lt-ltb, FitsSigned, IsTrue, if◌then◌else◌, cast_unsigned, w32, w64, Result, Ok, Err, AluOut, AluTrap, Codes, wrapped, Instr, Predecoded, Other, AreKept, IsKept, instr_of, is_record, code_of, Cursor, On, Stop, GoesOn, HasTurned, address_at, at_here, at_places, placed, slot_by, slot_of, State, Slot, NoSlot, act, IsQuietRun}
use Rattle.std.proofs.lemmas.Int.{ints}
use Rattle.v8_alu.specs.Alu.{alu_of, keeping, result_of}
use Rattle.v8_decode.specs.declared.AluOp.{AluOp}
use Rattle.v8_step.specs.declared.ahead.Control.{Control}
use Rattle.v8_step.proofs.QuietRuns.{no_step, one_more, says_some, still_kept}

pub next_address : (first place : ℕ) → wrapped (address_at first place + 4) ≡ address_at first (place + 1)
next_address first place = omega arith

pub goes_on : (s t : State) (x : Instr) (h : Cursor) → GoesOn s x t → HasTurned On h s x t
goes_on s t x h goes =
    goes (address_at h.first h.cur) (address_at h.first h.next) (slot_of h)
    ∙ ap (λ npc. placed t (address_at h.first h.next) npc NoSlot) (next_address h.first h.next)

-- the slot where it lasts, and where it is over
pub in_slot : (next slot_end : ℕ) (slot : Slot) → next < slot_end → slot_by next slot_end slot ≡ slot
unfolding slot_by
in_slot next slot_end slot less = ap (λ (b : Bool). if b then slot else NoSlot) (lt-ltb next slot_end less)

pub no_slot : (next slot_end : ℕ) (slot : Slot) → slot_end ≤ next → slot_by next slot_end slot ≡ NoSlot
unfolding slot_by
no_slot next slot_end slot least = ap (λ (b : Bool). if b then slot else NoSlot) (le-ltb next slot_end least)

-- at first
pub at_start : (s : State) (first cur next made : ℕ) (slot : Slot) → address_at first cur ≡ s.pc
    → address_at first next ≡ s.npc → slot ≡ s.slot → made ≡ 0
    → IsQuietRun s made (at_places s first cur next (slot_by next (next + 1) slot))
at_start s first cur next made slot pc npc same none =
    rw (none, same, in_slot next (next + 1) s.slot (omega arith), pc, npc) (no_step s)

pub target_place : (first cur : ℕ) (d : ℤ) → FitsSigned w32 d
    → address_at first ((cur + cast_unsigned w64 d) % 2 ^ 64) ≡ wrapped (address_at first cur + 4 * cast_unsigned w32 d)
target_place first cur (pos n) fits = omega arith
target_place first cur (negsuc n) fits = omega (arith, ints, fits.sfits)

pub after_annulled : (first cur : ℕ) → wrapped (address_at first cur + 8) ≡ address_at first ((cur + 2) % 2 ^ 64)
after_annulled first cur = omega arith

pub jump_place : (first target : ℕ) → first < 2 ^ 32 → target < 2 ^ 32 → (target + (2 ^ 32 - first)) % 2 ^ 32 % 4 ≡ 0
    → address_at first ((target + (2 ^ 32 - first)) % 2 ^ 32 / 4) ≡ target
jump_place first target f t even = omega arith

-- an operation that sets no codes
pub codes_kept : (op : AluOp) (a b : ℕ) (codes : Codes) (y : ℕ) (o : AluOut) → Ok o ≡ alu_of op false a b codes y
    → alu_of op false a b codes y ≡ Ok (record { value = o.value; codes = codes; y = o.y })
unfolding alu_of
codes_kept op a b codes y o is = go (result_of op a b codes y) is
  where
    go : (r : Result AluOut AluTrap) → Ok o ≡ keeping false codes r
        → keeping false codes r ≡ Ok (record { value = o.value; codes = codes; y = o.y })
    go (Ok p) e = sym (ap (keeping false codes) e)
    go (Err t) e = absurd (cc)

-- a turn that is made is of a record that says something
abbrev pub IsSaid : Control → Predecoded → Type 0
IsSaid t x = (t ≡ Stop) ⊎ IsTrue (is_record x.code)

pub says : (t : Control) (x : Predecoded) → IsSaid t x → (t ≡ Stop → ⊥) → x.code ≡ Other → ⊥
says t x (inl stops) goes = absurd (goes stops)
says t x (inr some) goes = says_some x.code some

-- and so it isn't the last record, which says nothing
pub not_last : (ops : List Predecoded) (x last : Predecoded) (cur len : ℕ) (t : Control) → ((d : Predecoded) → x ≡ get_or ops cur d)
    → ((d : Predecoded) → last ≡ get_or ops (len - 1) d) → last.code ≡ Other → IsSaid t x → (t ≡ Stop → ⊥) → cur < len
    → cur + 1 < len
not_last ops x last cur len t is at_end other said goes within = elim (cases_lt (cur + 1) len) [
  | inl less ↦ less
  | inr least ↦ let same : cur ≡ len - 1 = omega arith in absurd (says t x said goes (cc (is x, at_end x)))
]

-- one turn more: the run goes on, and the records are those of its memory
pub comes_on : (s0 m t : State) (h : Cursor) (turn : Control) (c n made more : ℕ) (slot new : Slot) (x : Predecoded) (ops : List Predecoded)
    → m.ending ≡ None → IsQuietRun s0 made (at_here m h) → AreKept (code_of m.memory) h.first ops
    → IsKept (code_of m.memory) (address_at h.first h.cur) x → act (at_here m h) (instr_of x) ≡ at_places t h.first c n slot
    → IsSaid turn x → (turn ≡ Stop → ⊥) → made + 1 ≡ more → slot ≡ new
    → IsQuietRun s0 more (at_places t h.first c n new) × AreKept (code_of t.memory) h.first ops
comes_on s0 m t h turn c n made more slot new x ops going run all kept is said goes count same =
    let some : x.code ≡ Other → ⊥ = says turn x said goes in (
      subst (λ k. IsQuietRun s0 k (at_places t h.first c n new)) count
          (one_more s0 (at_here m h) (at_places t h.first c n new) made x going run kept
          (is ∙ ap (at_places t h.first c n) same) some),
      still_kept (at_here m h) (at_places t h.first c n slot) x h.first ops going kept is some all,
    )
