-- The comparison: where it stands, and what its codes say.
use Rattle.std.proofs.lemmas.Bool.{not-false}
use Rattle.switch_runs.proofs.Common.{◌≡◌, ◌≢◌, ℕ, zero, suc, ◌+◌, ◌-◌, ◌^◌, ◌<◌, ◌≤◌, Bool, true, false, ◌&&◌, ◌||◌, not, inl, inr, Option, Some, None, List, refl, ap, sym, ◌∙◌, subst, arith, get_or-set_other, get_or-set_same, if◌then◌else◌, ◌==◌, nat_lt, slice_set, slice_index_or, pos, w32, cast_unsigned, nat_tests, cases_eq, cases_lt, or_cases, Words, Instr, register_in, register_in-other, Codes, alu_of, wrapped, holds_of, State, register_of, act, alu_step, EdgeKind, Value, Unknown, Index, all_unknown, instr_at, Compare, bounds, compare_at, compare_by, is_taken, is_untaken, last_setting, sets_codes}
use Rattle.v8_decode.specs.declared.Op2.TheVariants as o
use Rattle.v8_decode.specs.declared.AluOp.TheVariants as ops
use Rattle.v8_decode.specs.declared.Instr.TheVariants as i
use Rattle.cfg_blocks.specs.declared.EdgeKind.TheVariants as kinds
use Rattle.switch_runs.proofs.Meaning.{AllMean, Meaning, same_place, unknown_at}

-- ---- where it stands

pub record IsLast (text : Words) (from count word : ℕ) : Type 0 where
  pub above : from ≤ word
  pub below : word < from + count
  pub quiet : (k : ℕ) → word < k → k < from + count → sets_codes (instr_at text k) ≡ false

pub last_setting-is : (text : Words) (from count word : ℕ) → last_setting text from count ≡ Some word
    → IsLast text from count word
last_setting-is text from zero word h = absurd (cc)
last_setting-is text from (suc n) word h =
    go (sets_codes (instr_at text (from + n))) refl (last_setting-is text from n word) h
  where
    go : (b : Bool) → sets_codes (instr_at text (from + n)) ≡ b
        → (last_setting text from n ≡ Some word → IsLast text from n word)
        → (if b then Some (from + n) else last_setting text from n) ≡ Some word → IsLast text from (suc n) word
    go true e later h =
        let same : from + n ≡ word = cc in
        record { above = omega arith; below = omega arith; quiet = λ k l m. absurd (omega arith) }
    go false e later h =
        let before = later h in record {
          above = before.above;
          below = let l = before.below in omega arith;
          quiet = λ k l m. elim (cases_lt k (from + n)) [
            | inl less ↦ before.quiet k l less
            | inr more ↦
                let same : from + n ≡ k = omega arith in rw same at e
          ];
        }

pub record IsCompare (instr : Instr) (c : Compare) : Type 0 where
  pub rd : ℕ
  pub is : instr ≡ i.Alu ops.SUB true rd c.register (o.Imm (pos c.limit))
  pub low : c.limit < 1024
  pub some : c.register ≢ 0
  pub stays : rd ≢ c.register

pub compare_by-is : (word : ℕ) (instr : Instr) (c : Compare) → compare_by word instr ≡ Some c
    → IsCompare instr c × (c.word ≡ word)
compare_by-is word (i.Alu ops.SUB true rd r (o.Imm (pos m))) c h =
    go (nat_lt m 1024) (r == 0) (rd == r) refl refl refl h
  where
    go : (a b d : Bool) → nat_lt m 1024 ≡ a → (r == 0) ≡ b → (rd == r) ≡ d
        → (if a && not b && not d then Some (record { word = word; register = r; limit = m }) else None) ≡ Some c
        → IsCompare (i.Alu ops.SUB true rd r (o.Imm (pos m))) c × (c.word ≡ word)
    go true false false e f g h =
        let same : record { word = word; register = r; limit = m } ≡ c = cc in
        rw (← same) (
          record {
            rd = rd;
            is = refl;
            low = grind (arith, nat_tests);
            some = λ z. grind (arith, nat_tests);
            stays = λ z. grind (arith, nat_tests);
          },
          refl,
        )
    go _ _ _ e f g h = absurd (cc)
compare_by-is word _ c h = absurd (cc)

pub record Compares (text : Words) (from count : ℕ) (c : Compare) : Type 0 where
  pub last : IsLast text from count c.word
  pub is : IsCompare (instr_at text c.word) c

pub compare_at-is : (text : Words) (from count : ℕ) (c : Compare)
    → compare_at text (last_setting text from count) ≡ Some c → Compares text from count c
compare_at-is text from count c h = go (last_setting text from count) refl h
  where
    go : (x : Option ℕ) → last_setting text from count ≡ x → compare_at text x ≡ Some c → Compares text from count c
    go None e h = absurd (cc)
    go (Some word) e h =
        let is = compare_by-is word (instr_at text word) c h in
        record { last = rw is.1 (last_setting-is text from count word e); is = rw (← is.1) at is.0 }

-- ---- what its codes say

-- the codes of a comparison of a number that is not above the limit
abbrev pub Bounds : ℕ → ℕ → Codes → Type 0
Bounds x limit k = (k.c || k.z) ≡ true → x ≤ limit

bounded : (a m b : ℕ) → a < 2 ^ 32 → b ≡ m → m < 1024
    → (nat_lt a (b + 0) || (wrapped (2 ^ 33 + a - (b + 0)) == 0)) ≡ true → a ≤ m
bounded a m b l e k h = elim (or_cases (nat_lt a (b + 0)) _ h) [
  | inl f ↦ let less : a < b + 0 = grind (arith, nat_tests) in omega arith
  | inr g ↦ let zero : wrapped (2 ^ 33 + a - (b + 0)) ≡ 0 = grind (arith, nat_tests) in omega arith
]

pub compared-bounds : (s : State) (rd r m : ℕ) → register_of s r < 2 ^ 32 → m < 1024
    → Bounds (register_of s r) m (act s (i.Alu ops.SUB true rd r (o.Imm (pos m)))).codes
unfolding act alu_step alu_of
compared-bounds s rd r m l k h = bounded (register_of s r) m (wrapped (cast_unsigned w32 (pos m))) l (omega arith) k h

pub compared-register : (s : State) (rd r m : ℕ) → rd < 32 → r < 32 → rd ≢ r
    → register_of (act s (i.Alu ops.SUB true rd r (o.Imm (pos m)))) r ≡ register_of s r
unfolding act alu_step alu_of
compared-register s rd r m l l' apart =
    register_in-other s.registers s.window rd _ s.window r (λ e. apart (same_place s.window rd r l l' e))

pub way-bounds : (cond : ℕ) (way : EdgeKind) (k : Codes) → bounds cond way ≡ true → holds_of cond k ≡ is_taken way
    → (k.c || k.z) ≡ true
unfolding holds_of
way-bounds cond way k h goes = by (cond == 12) (cond == 4) refl refl way h goes
  where
    by : (a b : Bool) → (cond == 12) ≡ a → (cond == 4) ≡ b → (way : EdgeKind)
        → ((a && is_untaken way) || (b && is_taken way)) ≡ true → holds_of cond k ≡ is_taken way → (k.c || k.z) ≡ true
    by true b e f kinds.Untaken h goes =
        let is : cond ≡ 12 = grind (arith, nat_tests) in
        not-false (k.c || k.z) (ap (λ n. holds_of n k) (sym is) ∙ goes)
    by a true e f kinds.Taken h goes =
        let is : cond ≡ 4 = grind (arith, nat_tests) in ap (λ n. holds_of n k) (sym is) ∙ goes
    by a b e f way h goes = absurd (grind arith)

-- ---- what is known behind it

pub first_means : (text : Words) (K : Type 0) (registers : List ℕ) (w r : ℕ) → r < 32 → K
    → AllMean text (register_in registers w r) K (slice_set all_unknown r Index) registers w
first_means text K registers w r l k zero m = refl
first_means text K registers w r l k (suc q) m = elim (cases_eq (suc q) r) [
  | inl e ↦
      subst (λ (p : ℕ). Meaning text (register_in registers w r) K
      (slice_index_or (slice_set all_unknown r Index) p Unknown) (register_in registers w p)) (sym e)
      (subst (λ (v : Value). Meaning text (register_in registers w r) K v (register_in registers w r))
      (sym (get_or-set_same all_unknown r Index Unknown l)) (k, refl))
  | inr apart ↦
      rw (get_or-set_other all_unknown r (suc q) Index Unknown apart ∙ unknown_at text
      (register_in registers w r) 32 (suc q)) tt
]
