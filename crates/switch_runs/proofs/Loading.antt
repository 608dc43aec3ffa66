-- An open switch's jump goes to an entry that an LD of its own block loads.
use Rattle.switch_runs.proofs.Common.{◌≡◌, ◌≢◌, ℕ, zero, suc, ◌+◌, ◌-◌, ◌<◌, ◌≤◌, true, false, List, [], ◌∷◌, map, slice_set, refl, ap, sym, ◌∙◌, arith, inl, inr, ◌⊎◌, slice_index_or, Words, Op2, Instr, Approach, Value, Unknown, Const, Place, Entry, after_slot, before_jump, after, either, followed, instr_at, loaded_at, operand_in, plus, put, shifted, sum_in, unknown, value_in, Open, is_entry, loaded_here, loads_by, loads_here, unloaded, IsJump, HasLoad}
use Rattle.v8_decode.specs.declared.Op2.TheVariants as o
use Rattle.v8_decode.specs.declared.AluOp.TheVariants as ops
use Rattle.v8_decode.specs.declared.LoadKind.TheVariants as loads
use Rattle.v8_decode.specs.declared.Instr.TheVariants as i

-- ---- what gives an entry

from_plus : (u v : Value) (c : ℕ) → plus u v ≡ Entry c → (u ≡ Entry c) ⊎ (v ≡ Entry c)
from_plus u v c e = grind arith

from_either : (u v : Value) (c : ℕ) → either u v ≡ Entry c → (u ≡ Entry c) ⊎ (v ≡ Entry c)
from_either u v c e = grind arith

from_shifted : (u v : Value) (c : ℕ) → shifted u v ≡ Entry c → (u ≡ Entry c) ⊎ (v ≡ Entry c)
from_shifted u v c e = grind arith

from_loaded : (u : Value) (c : ℕ) → loaded_at u ≡ Entry c → u ≡ Place c
from_loaded u c e = grind arith

none_unloaded : (v : Value) (c : ℕ) → unloaded v ≡ Entry c → ⊥
none_unloaded v c e = grind arith

-- ---- two lists of values, register by register: of the first less is known, and what is so of each of its entries

module _ (P : ℕ → Type 0) where
  abbrev Kept : Value → Value → Type 0
  Kept u v = ((u ≡ Unknown) ⊎ (u ≡ v)) × ((c : ℕ) → u ≡ Entry c → P c)

  none : Kept Unknown Unknown
  none = (inl refl, λ c e. absurd (cc))

  const : (n : ℕ) → Kept (Const n) (Const n)
  const n = (inr refl, λ c e. absurd (cc))

  -- an operation that knows nothing where it knows nothing of an operand, and gives no entry but of one
  by_both : (f : Value → Value → Value) → ((v : Value) → f Unknown v ≡ Unknown) → ((u : Value) → f u Unknown ≡ Unknown)
      → ((u v : Value) (c : ℕ) → f u v ≡ Entry c → (u ≡ Entry c) ⊎ (v ≡ Entry c))
      → (u v s t : Value) → Kept u v → Kept s t → Kept (f u s) (f v t)
  by_both f first second from u v s t h k =
      (less h.0 k.0, λ c e. elim (from u s c e) [ inl g ↦ h.1 c g | inr g ↦ k.1 c g ])
    where
      less : (u ≡ Unknown) ⊎ (u ≡ v) → (s ≡ Unknown) ⊎ (s ≡ t) → (f u s ≡ Unknown) ⊎ (f u s ≡ f v t)
      less (inl e) k = inl (cc (e, first s))
      less (inr e) (inl g) = inl (cc (g, second u))
      less (inr e) (inr g) = inr (cc)

  by_plus : (u v s t : Value) → Kept u v → Kept s t → Kept (plus u s) (plus v t)
  by_plus = by_both plus (λ v. grind arith) (λ u. grind arith) from_plus

  by_either : (u v s t : Value) → Kept u v → Kept s t → Kept (either u s) (either v t)
  by_either = by_both either (λ v. grind arith) (λ u. grind arith) from_either

  by_shifted : (u v s t : Value) → Kept u v → Kept s t → Kept (shifted u s) (shifted v t)
  by_shifted = by_both shifted (λ v. refl) (λ u. grind arith) from_shifted

  by_loaded : (u v : Value) → Kept u v → ((c : ℕ) → u ≡ Place c → P c) → Kept (loaded_at u) (loaded_at v)
  by_loaded u v (inl e, h) k = (inl (ap loaded_at e), λ c e. k c (from_loaded u c e))
  by_loaded u v (inr e, h) k = (inr (ap loaded_at e), λ c e. k c (from_loaded u c e))

  abbrev All : List Value → List Value → Type 0
  All [] [] = Unit {0}
  All (u ∷ us) (v ∷ vs) = Kept u v × All us vs
  All _ _ = ⊥

  all_unloaded : (vs : List Value) → All (map unloaded vs) vs
  all_unloaded [] = tt
  all_unloaded (v ∷ vs) = ((grind arith, λ c e. absurd (none_unloaded v c e)), all_unloaded vs)

  all_none : (n : ℕ) → All (unknown n) (unknown n)
  all_none zero = tt
  all_none (suc n) = (none, all_none n)

  all_at : (us vs : List Value) (r : ℕ) → All us vs → Kept (slice_index_or us r Unknown) (slice_index_or vs r Unknown)
  all_at [] [] r h = none
  all_at (u ∷ us) (v ∷ vs) zero h = h.0
  all_at (u ∷ us) (v ∷ vs) (suc r) h = all_at us vs r h.1
  all_at _ _ r h = absurd h

  all_set : (us vs : List Value) (r : ℕ) (u v : Value) → All us vs → Kept u v
      → All (slice_set us r u) (slice_set vs r v)
  all_set [] [] r u v h k = tt
  all_set (x ∷ us) (y ∷ vs) zero u v h k = (k, h.1)
  all_set (x ∷ us) (y ∷ vs) (suc r) u v h k = (h.0, all_set us vs r u v h.1 k)
  all_set _ _ r u v h k = absurd h

  all_put : (us vs : List Value) (r : ℕ) (u v : Value) → All us vs → Kept u v → All (put us r u) (put vs r v)
  all_put us vs zero u v h k = h
  all_put us vs (suc r) u v h k = all_set us vs (suc r) u v h k

  all_value : (us vs : List Value) (r : ℕ) → All us vs → Kept (value_in us r) (value_in vs r)
  all_value us vs zero h = const 0
  all_value us vs (suc r) h = all_at us vs (suc r) h

  all_operand : (us vs : List Value) (op2 : Op2) → All us vs → Kept (operand_in us op2) (operand_in vs op2)
  all_operand us vs (o.Reg r) h = all_value us vs r h
  all_operand us vs (o.Imm n) h = const _

  all_sum : (us vs : List Value) (rs1 : ℕ) (op2 : Op2) → All us vs → Kept (sum_in us rs1 op2) (sum_in vs rs1 op2)
  all_sum us vs rs1 op2 h = by_plus _ _ _ _ (all_value us vs rs1 h) (all_operand us vs op2 h)

  all_after : (us vs : List Value) (instr : Instr) → All us vs
      → ((rd rs1 : ℕ) (op2 : Op2) (c : ℕ) → instr ≡ i.Load loads.LD rd rs1 op2 → sum_in us rs1 op2 ≡ Place c → P c)
      → All (after us instr) (after vs instr)
  unfolding after
  all_after us vs (i.Sethi rd imm22) h k = all_put us vs rd _ _ h (const _)
  all_after us vs (i.Alu ops.ADD false rd rs1 op2) h k = all_put us vs rd _ _ h (all_sum us vs rs1 op2 h)
  all_after us vs (i.Alu ops.OR false rd rs1 op2) h k =
      all_put us vs rd _ _ h (by_either _ _ _ _ (all_value us vs rs1 h) (all_operand us vs op2 h))
  all_after us vs (i.Alu ops.SLL false rd rs1 op2) h k =
      all_put us vs rd _ _ h (by_shifted _ _ _ _ (all_value us vs rs1 h) (all_operand us vs op2 h))
  all_after us vs (i.Alu op cc rd rs1 op2) h k = all_put us vs rd _ _ h none
  all_after us vs (i.Load loads.LD rd rs1 op2) h k =
      all_put us vs rd _ _ h (by_loaded _ _ (all_sum us vs rs1 op2 h) (λ c. k rd rs1 op2 c refl))
  all_after us vs (i.Load loads.LDD rd rs1 op2) h k =
      all_put (put us rd Unknown) (put vs rd Unknown) (suc rd) _ _ (all_put us vs rd _ _ h none) none
  all_after us vs (i.Load kind rd rs1 op2) h k = all_put us vs rd _ _ h none
  all_after us vs (i.ReadY rd) h k = all_put us vs rd _ _ h none
  all_after us vs (i.Ldstub rd rs1 op2) h k = all_put us vs rd _ _ h none
  all_after us vs (i.Swap rd rs1 op2) h k = all_put us vs rd _ _ h none
  all_after us vs (i.Call disp30) h k = all_put us vs 15 _ _ h none
  all_after us vs (i.Jmpl rd rs1 op2) h k = all_put us vs rd _ _ h none
  all_after us vs (i.Save rd rs1 op2) h k = all_none 32
  all_after us vs (i.Restore rd rs1 op2) h k = all_none 32
  all_after us vs (i.Ticc cond rs1 op2) h k = all_none 32
  all_after us vs _ h k = h

-- ---- the LD of an open switch

-- an LD of the words whose sum is the place by the values before it
record Origin (text : Words) (us : List Value) (from count c : ℕ) : Type 0 where
  word : ℕ
  below : word < count
  rd : ℕ
  rs1 : ℕ
  op2 : Op2
  is : instr_at text (from + word) ≡ i.Load loads.LD rd rs1 op2
  place : sum_in (followed text us from word) rs1 op2 ≡ Place c

module _ (text : Words) (us vs : List Value) (from count : ℕ) (h : All (Origin text us from count) us vs) where
  all_followed : (n : ℕ) → n ≤ count
      → All (Origin text us from count) (followed text us from n) (followed text vs from n)
  all_followed zero l = h
  all_followed (suc n) l =
      all_after (Origin text us from count) (followed text us from n) (followed text vs from n)
      (instr_at text (from + n)) (all_followed n (omega arith)) (λ rd rs1 op2 c is place.
      record { word = n; below = omega arith; rd = rd; rs1 = rs1; op2 = op2; is = is; place = place })

  sum_kept : (n rs1 : ℕ) (op2 : Op2) → n ≤ count
      → Kept (Origin text us from count) (sum_in (followed text us from n) rs1 op2)
      (sum_in (followed text vs from n) rs1 op2)
  sum_kept n rs1 op2 l =
      all_sum (Origin text us from count) (followed text us from n) (followed text vs from n) rs1 op2 (all_followed n l)

  -- what is known with less is so
  sum_known : (n rs1 : ℕ) (op2 : Op2) (w : Value) → n ≤ count → sum_in (followed text us from n) rs1 op2 ≡ w
      → w ≢ Unknown → sum_in (followed text vs from n) rs1 op2 ≡ w
  sum_known n rs1 op2 w l is some = elim (sum_kept n rs1 op2 l).0 [
    | inl e ↦ absurd (some (sym is ∙ e))
    | inr e ↦ sym e ∙ is
  ]

entry_is : (v : Value) → is_entry v ≡ true → (c : ℕ) × (v ≡ Entry c)
entry_is (Entry c) h = (c, refl)
entry_is _ h = absurd (cc)

same_entry : (c d : ℕ) → Entry c ≡ Entry d → c ≡ d
same_entry c d e = cc

pub has_load : (text : Words) (o : Open) → loads_here text o.approach ≡ true
    → IsJump text o.approach o.switch.compare.0 o.switch → HasLoad text o
unfolding loads_here before_jump
has_load text o here jumps = record {
  load = a.first + from.word;
  above = omega arith;
  below = omega (arith, from.below);
  loads = record {
    rd = from.rd;
    rs1 = from.rs1;
    op2 = from.op2;
    is = from.is;
    place =
        let e : a.first + from.word - a.first ≡ from.word = omega arith in
        ap (λ n. sum_in (followed text vs a.first n) from.rs1 from.op2) e
        ∙ sum_known text us vs a.first steps less from.word from.rs1 from.op2 (Place o.switch.table.0)
        (omega (arith, from.below)) from.place (λ e. absurd (cc));
  };
}
  where
    a : Approach
    a = o.approach

    vs : List Value
    vs = after_slot text a

    us : List Value
    us = map unloaded vs

    steps : ℕ
    steps = a.jump - a.first

    less : All (Origin text us a.first steps) us vs
    less = all_unloaded (Origin text us a.first steps) vs

    entry : (c : ℕ) × (sum_in (loaded_here text a) jumps.rs1 jumps.op2 ≡ Entry c)
    entry = entry_is (sum_in (loaded_here text a) jumps.rs1 jumps.op2) (sym (ap (loads_by text a) jumps.is) ∙ here)

    same : entry.0 ≡ o.switch.table.0
    same =
        same_entry entry.0 o.switch.table.0
        (sym (sum_known text us vs a.first steps less steps jumps.rs1 jumps.op2 (Entry entry.0) (omega arith) entry.1
        (λ e. absurd (cc))) ∙ jumps.sum)

    from : Origin text us a.first steps o.switch.table.0
    from =
        rw same at ((sum_kept text us vs a.first steps less steps jumps.rs1 jumps.op2 (omega arith)).1 entry.0 entry.1)
