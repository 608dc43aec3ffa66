-- What the words of a whole snippet do.
use Rattle.snippet_code.proofs.Common.{◌≡◌, ◌≢◌, ℕ, suc, ◌+◌, ◌-◌, ◌*◌, ◌%◌, ◌^◌, ◌<◌, ◌≤◌, ◌⊎◌, inl, inr, Bool, true, false, List, [], ◌∷◌, ◌++◌, length, drop, map, refl, ap, sym, ◌∙◌, subst, arith, length-append, length-drop, All, slice_index, ext_get_or, length-map, get_or-drop, All-head, All-tail, decode_of, Instr, Part, has, wrapped, code_of, NoSlot, State, register_of, StateItem, Register, CodesItem, YRegister, IsAmong, IsSameAt, any_of_word, CanStore, memory_word, StandIn, split_below, put, put_other, put_same, ArePicked, picked, spills, are_picked, Op, Keep, Top, update, named_by, IsOp, cell_at, words_at, IsCellOf, kept_word, registers_for, all_words, numbered, save, restore, MayStore, IsAboutToRun, RunsPast, EndsLow, EndLow, SnippetsRun}
use Rattle.v8_decode.specs.declared.Part.TheVariants as parts
use Rattle.code_runs.specs.Hops.{hopped}
use Rattle.code_runs.proofs.Straight.{words_say}
use Rattle.snippet_code.proofs.Working.{HasWorkspace, WorksWithin, Does, update_all, IsRead, AreFit, AreFrom, HavePage, saved, AreSaved}
use Rattle.snippet_code.proofs.Blocks.{works_none}
use Rattle.snippet_code.proofs.Micro.{as_many, stand_at}
use Rattle.snippet_code.proofs.Sequences.{cost_of_page, stand_then, all_work, saves, restores}
use Rattle.snippet_code.proofs.Listed.{listed_same, listed_all, all_away, cell_or_not}
use Rattle.snippet_code.proofs.Unmoved.{IsApart, word_unmoved}
use Rattle.snippet_code.proofs.Items.{item_stays}
use Rattle.snippet_code.proofs.Named.{IsReadIn, has_named, named_few}
use Rattle.snippet_code.proofs.Lengths.{numbered_length, registers_few}

-- ---- what was saved
saved_below : (regs : ℕ → ℕ) (m : ℕ) (qs : List ℕ) (g : ℕ → ℕ) (a : ℕ) → a < kept_word m → saved regs m qs g a ≡ g a
saved_below regs m [] g a low = refl
saved_below regs m (q ∷ qs) g a low =
    saved_below regs (suc m) qs (put (kept_word m) (regs q) g) a (omega arith)
    ∙ put_other (kept_word m) (regs q) g a (λ e. omega arith)

are_saved : (regs : ℕ → ℕ) (m : ℕ) (qs : List ℕ) (g h : ℕ → ℕ)
    → ((a : ℕ) → 2 ^ 31 ≤ a → h a ≡ saved regs m qs g a) → AreSaved regs m qs h
are_saved regs m [] g h same = tt
are_saved regs m (q ∷ qs) g h same = (
  same (kept_word m) (omega arith)
      ∙ saved_below regs (suc m) qs (put (kept_word m) (regs q) g) (kept_word m) (omega arith)
      ∙ put_same (kept_word m) (regs q) g,
  are_saved regs (suc m) qs (put (kept_word m) (regs q) g) h same,
)

-- what they cost
at_most : (cost n : ℕ) → cost ≤ 1 → cost * n ≤ n
at_most cost n h = grind arith

at_none : (cost n : ℕ) → cost ≡ 0 → cost * n ≡ 0
at_none cost n e = ap (λ z. z * n) e ∙ (let f : 0 * n ≡ 0 = omega arith in f)

-- ---- what operations need
cell_low : (base : ℕ) (ops : List Op) → EndLow base ops → (k : ℕ) → IsCellOf ops k → cell_at base k + 4 ≤ 2 ^ 31
cell_low base [] low k h = absurd h
cell_low base (op ∷ rest) low k (inl h) =
    let end = (All-head (EndsLow base) op rest low).end in omega (arith, end, h.1)
cell_low base (op ∷ rest) low k (inr h) = cell_low base rest (All-tail (EndsLow base) op rest low) k h

read_below : (op : Op) (q : ℕ) → IsOp op → IsRead op q → q < 32
read_below (Keep cell reg) q h e = rw e h.1
read_below (Top cell reg) q h e = rw e h.1
read_below op q h e = absurd e

module _ (counted : ℕ → Bool) (base : ℕ) (r : ℕ → ℕ) (want : ℕ) (d : Bool) (May : ℕ → Type 0) (avoid : List Part)
    (un : (k : ℕ) → k < want → has avoid (parts.Reg (r k)) ≡ false) (some : (k : ℕ) → k < want → 0 < r k) where
  unpicked : (q k : ℕ) → (0 < q → has avoid (parts.Reg q) ≡ true) → k < want → q ≢ r k
  unpicked q k h b e =
      let f = un k b in
      let g : has avoid (parts.Reg (r k)) ≡ true =
      rw (← e) (h (rw e (some k b))) in
      cc

  fits_of : (ops : List Op) → All IsOp ops → EndLow base ops
      → ((k : ℕ) → IsCellOf ops k → May (cell_at base k))
      → ((k : ℕ) → IsCellOf ops k → any_of_word counted (cell_at base k) ≡ false)
      → ((q : ℕ) → IsReadIn ops q → 0 < q → q < 32 → has avoid (parts.Reg q) ≡ true)
      → registers_for d ops ≤ want → AreFit May counted r want base d ops
  fits_of [] are low may free named enough = tt
  fits_of (op ∷ rest) are low may free named enough =
      let is = All-head IsOp op rest are in (
        record {
          cell = λ k m. may k (inl m);
          free = λ k m. free k (inl m);
          below = (All-head (EndsLow base) op rest low).end;
          unpicked = λ q k m b. unpicked q k (λ z. named q (inl m) z (read_below op q is m)) b;
          enough = omega arith;
          numbers = is;
        },
        fits_of rest (All-tail IsOp op rest are) (All-tail (EndsLow base) op rest low)
            (λ k m. may k (inr m)) (λ k m. free k (inr m)) (λ q m. named q (inr m)) (omega arith),
      )

page_of : (May : ℕ → Type 0) → ((m : ℕ) → m < 5 → May (kept_word m)) → (m : ℕ) (qs : List ℕ) → m + length qs ≤ 5
    → HavePage May m qs
page_of May h m [] few = tt
page_of May h m (q ∷ qs) few =
    (let z : m < 5 = omega arith in z, h m (omega arith), page_of May h (suc m) qs (omega arith))

-- what is spilled are the picked registers from a number on
are_from : (r : ℕ → ℕ) (want k : ℕ) (qs : List ℕ) → ((j : ℕ) → j < length qs → slice_index qs j ≡ r (k + j))
    → k + length qs ≤ want → AreFrom r want k qs
are_from r want k [] h l = tt
are_from r want k (q ∷ qs) h l = (
  let z : k < want = omega arith in z,
  h 0 (omega arith) ∙ ap r (let e : k + 0 ≡ k = omega arith in e),
  are_from r want (suc k) qs (λ j m. h (suc j) (omega arith) ∙ ap r (let e : k + suc j ≡ suc k + j = omega arith in e))
      (omega arith),
)

-- ---- a state that is another but for memory and where it goes on
pub same_state : (s u : State) (to : ℕ) → u.pc ≡ to → u.npc ≡ wrapped (to + 4) → u.slot ≡ NoSlot
    → u.registers ≡ s.registers → u.window ≡ s.window → u.valid ≡ s.valid → u.codes ≡ s.codes → u.y ≡ s.y
    → u.input ≡ s.input → u.ending ≡ s.ending → u ≡ hopped s to u.memory
same_state s u to e1 e2 e3 e4 e5 e6 e7 e8 e9 e10 =
    rw (← e2, ← e1, ← e3, ← e4, ← e5, ← e6, ← e7, ← e8, ← e9, ← e10) refl

-- where nothing is dead, so that each item is as it was
nothing_dead : (s u : State) (to : ℕ) → length s.registers ≡ 136 → length u.registers ≡ 136
    → ((item : StateItem) → (IsAmong item s.window [] → ⊥) → IsSameAt item s u)
    → u.pc ≡ to → u.npc ≡ to + 4 → to + 4 < 2 ^ 32 → u.slot ≡ NoSlot
    → u.window ≡ s.window → u.valid ≡ s.valid → u.input ≡ s.input → u.ending ≡ s.ending → u ≡ hopped s to u.memory
nothing_dead s u to ls lu items e1 e2 low e3 e5 e6 e9 e10 =
    same_state s u to e1 (omega arith) e3
    (ext_get_or 0 u.registers s.registers (lu ∙ sym ls) (λ p h. sym (items (Register p) (λ z. z))))
    e5 e6 (sym (items CodesItem (λ z. z))) (sym (items YRegister (λ z. z))) e9 e10

-- ---- the whole
module _ (counted : ℕ → Bool) (base : ℕ) (dead avoid : List Part) (ops : List Op) (words : List ℕ) (s : State) where
  abbrev Want : ℕ
  Want = registers_for (has dead parts.Icc) ops

  abbrev May : ℕ → Type 0
  May = MayStore base ops

  -- what a block needs
  block : (regs : List ℕ) (spills : ℕ) → base % 4 ≡ 0 → ArePicked dead avoid Want regs spills
      → IsAboutToRun words base ops s → HasWorkspace s (length words) (MayStore base ops) (slice_index regs) Want
  block regs spills four p h = record {
    block = record {
      ready = h.ready;
      low = h.low;
      registers = h.valid.registers.count;
      window = h.valid.window;
      some = p.some;
      below = p.below;
      differ = p.differ;
    };
    valid = h.valid;
    slot = h.slot;
    aligned = aligned;
    can = can;
  }
    where
      aligned : (a : ℕ) → MayStore base ops a → a % 4 ≡ 0
      aligned a (inl (k, m, e)) = omega arith
      aligned a (inr (k, m, e)) = omega arith

      can : (a : ℕ) → MayStore base ops a → CanStore s.memory a
      can a (inl (k, m, e)) = rw e (h.cell k m)
      can a (inr (k, m, e)) = rw e (h.page k m)

  -- another cell meets none of the words that may be stored
  cell_apart : (k n : ℕ) → (IsCellOf ops k → ⊥) → k < n → cell_at base n ≤ 2 ^ 31 → (b : ℕ) → MayStore base ops b
      → IsApart (cell_at base k) b
  cell_apart k n other below low b (inl (j, m, e)) = go (split_below k j) (split_below j k)
    where
      go : (k < j) ⊎ (j ≤ k) → (j < k) ⊎ (k ≤ j) → IsApart (cell_at base k) b
      go (inl l) y = inl (omega arith)
      go (inr l) (inl x) = inr (omega arith)
      go (inr l) (inr x) = absurd (other (rw (let f : j ≡ k = omega arith in f) at m))
  cell_apart k n other below low b (inr (j, m, e)) = inl (omega arith)

  -- the cells, as a list
  cells_are : (regs : ℕ → ℕ) (out : List ℕ) (u : State) → EndLow base ops → IsAboutToRun words base ops s
      → ((a : ℕ) → MayStore base ops a → memory_word u.memory a
      ≡ update_all (cell_at base) regs ops (saved regs 0 out (memory_word s.memory)) a)
      → ((k n : ℕ) → (IsCellOf ops k → ⊥) → k < n → cell_at base n ≤ 2 ^ 31
      → memory_word u.memory (cell_at base k) ≡ memory_word s.memory (cell_at base k))
      → (n : ℕ) → ((k : ℕ) → IsCellOf ops k → k < n) → cell_at base n ≤ 2 ^ 31
      → words_at base n u.memory ≡ update regs ops (words_at base n s.memory)
  cells_are regs out u low h own others n inside limit =
      let g0 = memory_word s.memory in
      let g1 = saved regs 0 out g0 in
      listed_same base n (memory_word u.memory) (update_all (cell_at base) regs ops g1)
      (λ k below. each k below (cell_or_not ops k)) ∙ listed_all base n regs ops g1 inside ∙ ap (update regs ops)
      (listed_same base n g1 g0 (λ k below. saved_below regs 0 out g0 (cell_at base k) (omega arith)))
    where
      each : (k : ℕ) → k < n → IsCellOf ops k ⊎ (IsCellOf ops k → ⊥) → memory_word u.memory (cell_at base k)
          ≡ update_all (cell_at base) regs ops (saved regs 0 out (memory_word s.memory)) (cell_at base k)
      each k below (inl m) = own (cell_at base k) (inl (k, m, refl))
      each k below (inr other) =
          others k n other below limit
          ∙ sym (saved_below regs 0 out (memory_word s.memory) (cell_at base k) (omega arith))
          ∙ sym (all_away base regs ops (saved regs 0 out (memory_word s.memory)) (cell_at base k)
          (λ j m e. other (rw (let f : j ≡ k = omega arith in f) at m)))

  pub does_whole : (regs : List ℕ) (spills : ℕ) → base % 4 ≡ 0 → All IsOp ops → EndLow base ops
      → ArePicked dead avoid Want regs spills
      → ((q : ℕ) → IsReadIn ops q → 0 < q → q < 32 → has avoid (parts.Reg q) ≡ true)
      → map decode_of words ≡ numbered save 0 (drop (Want - spills) regs)
      ++ (all_words base (has dead parts.Icc) (slice_index regs) ops ++ numbered restore 0 (drop (Want - spills) regs))
      → ((k : ℕ) → IsCellOf ops k → any_of_word counted (cell_at base k) ≡ false) → IsAboutToRun words base ops s
      → RunsPast counted base dead ops (length words) spills s
  does_whole regs spills four are low p named e free h =
      let d = has dead parts.Icc in
      let r = slice_index regs in
      let first = Want - spills in
      let out = drop (Want - spills) regs in
      let regs_of = register_of s in
      let xs = numbered save 0 out in
      let ys = all_words base d r ops in
      let zs = numbered restore 0 out in
      let g0 = memory_word s.memory in
      let g1 = saved regs_of 0 out g0 in
      let c = block regs spills four p h in
      let code = code_of s.memory in
      let few = registers_few d ops in
      let counts : length out ≡ Want - (Want - spills) = omega (arith, length-drop (Want - spills) regs, p.count) in
      let size : length words ≡ length (xs ++ (ys ++ zs)) =
      sym (length-map words decode_of) ∙ ap (λ (z : List Instr). length z) e in
      let size1 : length (xs ++ (ys ++ zs)) ≡ length xs + length (ys ++ zs) = length-append xs (ys ++ zs) in
      let size2 : length (ys ++ zs) ≡ length ys + length zs = length-append ys zs in
      let size3 : length xs ≡ length out = numbered_length save 0 out in
      let size4 : length zs ≡ length out = numbered_length restore 0 out in
      let from = are_from r Want (Want - spills) out (λ j l. get_or-drop (Want - spills) regs j 0) (omega arith) in
      let all : StandIn code s.pc (xs ++ (ys ++ zs)) = words_say code s.pc words (xs ++ (ys ++ zs)) h.stand e in
      let one = stand_then code s.pc xs (ys ++ zs) all in
      let two = stand_then code (s.pc + 4 * length xs) ys zs one.1 in
      let pages = page_of (MayStore base ops) (λ m b. inr (m, b, refl)) 0 out (omega arith) in
      let w0 : WorksWithin s (length words) (MayStore base ops) counted r Want 0 0 g0 s.codes (λ k. register_of s (r k)) =
      works_none c in
      let cost = cost_of_page counted in
      let w1 = saves c cost.0 cost.1 first 0 out w0 from pages (omega arith)
      (stand_at code s.pc (s.pc + 4 * 0) xs one.0 (omega arith)) in
      let d1 : Does s (length words) (MayStore base ops) counted r Want d (0 + length out) (0 + cost.0 * length out) g1 =
      record { codes = s.codes; picked = λ k. register_of s (r k); works = w1; kept = λ z. refl } in
      let fits = fits_of counted base r Want d (MayStore base ops) avoid p.unavoided p.some ops are low
      (λ k m. inl (k, m, refl)) free named (omega arith) in
      let d2 = all_work c base d ops d1 fits (omega arith)
      (stand_at code (s.pc + 4 * length xs) (s.pc + 4 * (0 + length out)) ys two.0 (omega arith)) in
      let g2 = update_all (cell_at base) regs_of ops g1 in
      let held : AreSaved regs_of 0 out g2 = are_saved regs_of 0 out g0 g2
      (λ a far. all_away base regs_of ops g1 a (λ k m f. let b = cell_low base ops low k m in omega arith)) in
      let w3 = restores c first 0 out d2.works from pages held (omega arith)
      (stand_at code (s.pc + 4 * length xs + 4 * length ys) (s.pc + 4 * (0 + length out + length ys)) zs two.1
      (omega arith)) in
      let w4 = as_many (let z : 0 + length out + length ys + length out ≡ length words = omega arith in z) w3.1 in
      let x = w4.ran in
      let slot = x.slot (inl h.slot) in
      let a = x.alike in
      let limit = h.low in
      let items = item_stays c p (λ j l m. w3.3 j l (omega arith)) x.after a d2.kept in
      record {
        after = x.after;
        steps = w4.steps;
        few = x.few;
        path = x.path;
        silent = x.silent;
        stored = (let z = w4.stored in let y = at_most cost.0 (length out) cost.1.one in omega arith);
        elsewhere = λ free. (let z = w4.stored in let y = at_none cost.0 (length out) (cost.1.none free) in omega arith);
        pc = x.pc;
        npc = x.npc;
        slot = slot;
        live = a.same.live;
        window = a.same.window;
        windows = a.same.valid;
        input = a.same.input;
        registers = a.held.count;
        items = items;
        all = λ none. nothing_dead s x.after (s.pc + 4 * length words) h.valid.registers.count a.held.count
            (subst (λ (z : List Part). (item : StateItem) → (IsAmong item s.window z → ⊥) → IsSameAt item s x.after) none
            items)
            x.pc x.npc (omega arith) slot a.same.window a.same.valid a.same.input (a.same.live ∙ sym h.ready.live);
        cells = cells_are regs_of out x.after low h a.memory.words
            (λ k n other below far. word_unmoved (MayStore base ops) s.memory x.after.memory (cell_at base k)
            h.valid.memory x.stores (cell_apart k n other below far));
        stores = x.stores;
        code = x.code;
      }

pub snippets_run : SnippetsRun
snippets_run base dead ops words can e counted free s h =
    let want = registers_for (has dead parts.Icc) ops in
    let avoid = named_by ops in
    let p = are_picked dead avoid want (omega (arith, named_few ops)) (registers_few (has dead parts.Icc) ops) in
    does_whole counted base dead avoid ops words s (picked dead avoid want) (spills dead avoid want) can.aligned
    can.are_ops can.low p (λ q m some below. has_named ops q m some below) e free h
