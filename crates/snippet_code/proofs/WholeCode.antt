-- The words of a whole snippet.
use Rattle.snippet_code.proofs.Common.{◌≡◌, ℕ, ◌+◌, ◌-◌, ◌%◌, ◌≤◌, Bool, List, ◌++◌, length, map, take, drop, ap, ◌∙◌, arith, All, length-drop, append_assoc, slice_index, length-map, map-append, get_or-drop, decode_of, Instr, Part, Icc, has, word_of, picked, register_count, spilled, spills, are_picked, Op, named_by, IsOp, take_all, registers_for, spills_of, all_words, numbered, save, restore, snippet_words, code_of_snippet, cost_of, DoesJust, CanExpand, EndLow, SnippetCodeRuns}
use Rattle.snippet_code.proofs.Encoded.{decoded, have-append, all_have, are_below, saves_have, restores_have}
use Rattle.snippet_code.proofs.Lengths.{costs_hold, numbered_length, registers_few}
use Rattle.snippet_code.proofs.Named.{named_few}
use Rattle.snippet_code.proofs.Whole.{snippets_run}

pub code_decodes : (base : ℕ) (dead : List Part) (ops : List Op) → CanExpand base ops
    → map decode_of (code_of_snippet base dead (named_by ops) ops) ≡ snippet_words base dead (named_by ops) ops
code_decodes base dead ops can =
    let d = has dead Icc in
    let avoid = named_by ops in
    let want = registers_for d ops in
    let few = can.few in
    let low = registers_few d ops in
    let p = are_picked dead avoid want (omega (arith, named_few ops)) low in
    let out = spilled dead avoid want in
    let first = want - spills dead avoid want in
    let size : length out ≡ want - first = omega (arith, length-drop first (picked dead avoid want), p.count) in
    let below = are_below out (λ k b. rw (get_or-drop first (picked dead avoid want) k 0)
    (p.below (first + k) (omega arith))) in
    decoded (snippet_words base dead avoid ops) (have-append (numbered save 0 out)
    (all_words base d (slice_index (picked dead avoid want)) ops ++ numbered restore 0 out)
    (saves_have out below (omega arith))
    (have-append (all_words base d (slice_index (picked dead avoid want)) ops) (numbered restore 0 out)
    (all_have (slice_index (picked dead avoid want)) want p.below base d ops can.are_ops can.low (omega arith))
    (restores_have out below (omega arith))))

pub snippet_code_runs : SnippetCodeRuns
snippet_code_runs base dead ops can =
    let e = code_decodes base dead ops can in
    (e, snippets_run base dead ops (code_of_snippet base dead (named_by ops) ops) can e)

-- ---- as the code makes them

-- all of the words that are saved or restored
pub all_numbered : (f : ℕ → ℕ → Instr) (regs : List ℕ) (n : ℕ) (before now : List ℕ) → length regs ≤ n
    → now ≡ before ++ map word_of (take n (numbered f 0 regs)) → now ≡ before ++ map word_of (numbered f 0 regs)
all_numbered f regs n before now h e =
    cc (e, take_all n (numbered f 0 regs) (omega (arith, numbered_length f 0 regs)))

three_parts : (xs ys zs : List Instr) (a b c : List ℕ) → a ≡ map word_of xs → b ≡ a ++ map word_of ys
    → c ≡ b ++ map word_of zs → c ≡ map word_of (xs ++ (ys ++ zs))
three_parts xs ys zs a b c e f g =
    let joined = append_assoc (map word_of xs) (map word_of ys) (map word_of zs) in
    cc (g, f, e, joined, map-append word_of ys zs, map-append word_of xs (ys ++ zs))

pub whole_code : (base : ℕ) (dead avoid : List Part) (ops : List Op) (used out : List ℕ) (a b c : List ℕ)
    → used ≡ picked dead avoid (registers_for (has dead Icc) ops)
    → out ≡ spilled dead avoid (registers_for (has dead Icc) ops) → a ≡ map word_of (numbered save 0 out)
    → b ≡ a ++ map word_of (all_words base (has dead Icc) (slice_index used) ops)
    → c ≡ b ++ map word_of (numbered restore 0 out) → c ≡ code_of_snippet base dead avoid ops
whole_code base dead avoid ops used out a b c e f g h k =
    rw (e, f) at (three_parts (numbered save 0 out) (all_words base (has dead Icc) (slice_index used) ops)
    (numbered restore 0 out) a b c g h k)

-- ---- what the calls give

-- the registers that are used, by what was asked for
pub picked_for : (dead avoid : List Part) (ops : List Op) (codes_dead : Bool) (want count : ℕ) (regs used : List ℕ)
    → count ≡ want → take count regs ≡ picked dead avoid want → want ≡ registers_for codes_dead ops
    → codes_dead ≡ has dead Icc → used ≡ take count regs → used ≡ picked dead avoid (registers_for (has dead Icc) ops)
picked_for dead avoid ops codes_dead want count regs used a b e f g =
    g ∙ b ∙ ap (picked dead avoid) (e ∙ ap (λ d. registers_for d ops) f)

-- and the last of them
pub last_ones : (dead avoid : List Part) (ops : List Op) (codes_dead : Bool) (want count spill : ℕ) (used out : List ℕ)
    → used ≡ picked dead avoid (registers_for (has dead Icc) ops) → length used ≡ count → count ≡ want
    → spill ≡ spills dead avoid want → want ≡ registers_for codes_dead ops → codes_dead ≡ has dead Icc
    → out ≡ drop (length used - spill) used → out ≡ spilled dead avoid (registers_for (has dead Icc) ops)
last_ones dead avoid ops codes_dead want count spill used out u l a b e f g =
    let w : want ≡ registers_for (has dead Icc) ops = e ∙ ap (λ d. registers_for d ops) f in
    cc (g, l, a, w, b, u)

-- no more than eight registers are named
pub few_avoided : (ops : List Op) (avoid : List Part) → avoid ≡ named_by ops → length ops ≤ 8
    → register_count avoid ≤ 8
few_avoided ops avoid e few = rw e (omega (arith, named_few ops))

-- what holds of the words
pub record IsCode (base : ℕ) (dead avoid : List Part) (ops : List Op) (words : List ℕ) : Type 0 where
  pub decodes : map decode_of words ≡ snippet_words base dead avoid ops
  pub just : DoesJust words base dead (spills_of dead avoid ops) ops
  pub cost : length words ≤ cost_of dead avoid ops

pub is_code : (base : ℕ) (dead avoid : List Part) (ops : List Op) (words : List ℕ) → base % 4 ≡ 0
    → EndLow base ops → avoid ≡ named_by ops → length ops ≤ 8 → All IsOp ops
    → words ≡ code_of_snippet base dead avoid ops → IsCode base dead avoid ops words
is_code base dead avoid ops words four low e few are is =
    let can : CanExpand base ops = record { aligned = four; few = few; are_ops = are; low = low } in
    let runs = snippet_code_runs base dead ops can in
    rw is (rw e (record {
      decodes = runs.0;
      just = runs.1;
      cost = omega (
        arith,
        length-map (snippet_words base dead (named_by ops) ops) word_of,
        (costs_hold base dead (named_by ops) ops).0,
      );
    }))
