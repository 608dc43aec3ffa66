-- What placed items do.
use Rattle.layout.proofs.Common.{◌≡◌, ℕ, suc, ◌+◌, ◌*◌, ◌-◌, ◌%◌, ◌^◌, ◌<◌, ◌≤◌, inl, inr, Bool, true, false, not, Some, List, [], ◌∷◌, length, refl, ap, sym, ◌∙◌, arith, if◌then◌else◌, ◌==◌, slice_index, ℤ, pos, slice_get_within, Instr, store_word, Item, Placement, IsLaid, IsWordAt, SaysFrom, JumpStands, jump_nothing, jump_short, jump_long, BranchStands, branch_short, branch_long, Reaches, nop, opposite, item_at, size_of, long_jump, IsFirstWord}
use Rattle.v8_decode.specs.declared.Instr.TheVariants as i
use Rattle.v8_alu.specs.declared.Codes.{Codes}
use Rattle.v8_alu.specs.Numbers.{wrapped}
use Rattle.v8_alu.specs.Conditions.{holds_of}
use Rattle.v8_memory.specs.Regions.{Memory, code_of, fetch_from}
use Rattle.v8_step.specs.declared.Slot.{Slot}
use Rattle.v8_step.specs.declared.Slot.TheVariants.{NoSlot, Taken, Untaken}
use Rattle.v8_step.specs.State.{State, register_of}
use Rattle.v8_step.specs.Transfers.{branched, branch_step, target_of}
use Rattle.v8_step.specs.Step.{act, step_of}
use Rattle.v8_step.specs.Valid.{IsValid}
use Rattle.v8_step.proofs.ValidSteps.{run-valid}
use Rattle.code_runs.specs.Counted.{count_stores}
use Rattle.code_runs.specs.Straight.{IsReady, Says, StandIn}
use Rattle.code_runs.specs.Leads.{IsBetween}
use Rattle.code_runs.specs.Hops.{hopped, Hops}
use Rattle.code_runs.proofs.Acts.{says_step, says_puts}
use Rattle.code_runs.proofs.Leads.{leads_none, leads_one, leads_then, leads_weaker, silent_none, silent_one, silent_then}
use Rattle.code_runs.proofs.Counted.{no_stores, none_then}
use Rattle.code_runs.proofs.LongJump.{long_jumps_hop, long_jumps_store}
use Rattle.code_runs.proofs.Stores.{stores_none}
use Rattle.code_runs.proofs.Straight.{says_at}
use Rattle.layout.specs.declared.items.Item.TheVariants as it
use Rattle.code_runs.specs.Page.{page_word}
use Rattle.layout.specs.Running.{HasCode, CanRun, Goes, JumpsHop, BranchesHop, WordsStand}

-- ---- words

pub word_is : (base a word : ℕ) (code : List ℕ) (m : Memory) → HasCode base code m → IsWordAt base code a word
    → fetch_from (code_of m) a ≡ Some word
word_is base a word code m h w = ap (fetch_from (code_of m)) w.1 ∙ h w.0 word w.2

pub says_stand : (base : ℕ) (code : List ℕ) (m : Memory) → HasCode base code m → (xs : List Instr) (a : ℕ)
    → SaysFrom base code a xs → StandIn (code_of m) a xs
says_stand base code m h [] a says = tt
says_stand base code m h (x ∷ xs) a says =
    (record { word = says.0.0; fetched = word_is base a says.0.0 code m h says.0.1; decodes = says.0.2 }, says_stand base code m h xs (a + 4) says.1)

-- ---- items

pub stays : (s : State) (to : ℕ) → s.pc ≡ to → s.npc ≡ s.pc + 4 → s.slot ≡ NoSlot → to + 4 < 2 ^ 32
    → hopped s to s.memory ≡ s
stays s to e f n low =
    let g : wrapped (to + 4) ≡ s.npc = omega arith in
    rw (g, ← e, ← n) refl

pub piece_size : (pieces : List (List Item)) (k n : ℕ) (x : Item) → item_at pieces k n ≡ Some x → k < length pieces
piece_size pieces k n x e = grind (arith, slice_get_within)

pub item_size : (pieces : List (List Item)) (k n : ℕ) (x : Item) → item_at pieces k n ≡ Some x → suc n ≤ size_of pieces k
item_size pieces k n x e = grind (arith, slice_get_within)

-- an item's address is below the end
item_low : (pieces : List (List Item)) (base : ℕ) (p : Placement) (place : ℕ → ℕ → ℕ) → IsLaid pieces base p place
    → (k n : ℕ) (x : Item) → item_at pieces k n ≡ Some x → place k (suc n) ≤ 2 ^ 31
item_low pieces base p place h k n x e =
    let low = h.low in
    let w = (h.within k (suc n) (piece_size pieces k n x e) (item_size pieces k n x e)).ends in
    omega arith

pub words_stand : WordsStand
words_stand pieces base p place h k n word e s w is =
    let stands : (place k (suc n) ≡ place k n + 4)
    × IsWordAt base p.code (place k n) word = h.items k n (it.Word word) e in
    (cc (is, word_is base (place k n) word p.code s.memory w.code stands.1), stands.0)

-- ---- branches

opposed : (c : ℕ) (k : Codes) → c < 16 → holds_of (opposite c) k ≡ not (holds_of c k)
unfolding holds_of
opposed (suc (suc (suc (suc (suc (suc (suc (suc (suc (suc (suc (suc (suc (suc (suc (suc n)))))))))))))))) k low = absurd
    (omega arith)
opposed c k low = grind arith

-- a branch that isn't annulled
pub taken_acts : (s : State) (c : ℕ) (disp22 : ℤ) (always : Bool) → s.slot ≡ NoSlot → holds_of c s.codes ≡ true
    → (c == 8) ≡ always
    → act s (i.Branch c false disp22) ≡ record s { pc = s.npc; npc = target_of s disp22; slot = Taken }
unfolding act branch_step
taken_acts s c disp22 true n h e = rw (n, h, e) refl
taken_acts s c disp22 false n h e = cc (n, h, e)

pub untaken_acts : (s : State) (c : ℕ) (disp22 : ℤ) → s.slot ≡ NoSlot → holds_of c s.codes ≡ false
    → act s (i.Branch c false disp22) ≡ record s { pc = s.npc; npc = wrapped (s.npc + 4); slot = Untaken }
unfolding act branch_step
untaken_acts s c disp22 n h = cc (n, h)

-- a branch that is annulled where it isn't taken
annulled_acts : (s : State) (c : ℕ) (disp22 : ℤ) (flag always : Bool) → s.slot ≡ NoSlot → holds_of c s.codes ≡ flag
    → (c == 8) ≡ always → act s (i.Branch c true disp22) ≡ branched flag always true s (target_of s disp22)
unfolding act branch_step
annulled_acts s c disp22 flag always n h e = cc (n, h, e)

-- a nop in the slot
nop_acts : (s : State) (pc npc : ℕ) (slot : Slot) → act
    (record s { pc = pc; npc = npc; slot = slot }) nop ≡ hopped s npc s.memory
unfolding act
nop_acts s pc npc slot = refl

-- so many steps without a store lead there
abbrev HopsBare : ℕ → State → ℕ → Type 0
HopsBare count s to = Hops s count IsFirstWord to s.memory × ((counted : ℕ → Bool) → count_stores counted s count ≡ 0)

bare_goes : (s : State) (to b least most short count : ℕ) → HopsBare count s to → least ≤ count → count ≤ most
    → s.pc + 4 * count ≤ b → Goes s to b least most short
bare_goes s to b least most short count h some few inside = record {
  count = count;
  memory = s.memory;
  some = some;
  few = few;
  inside = inside;
  hops = h.0;
  stored = λ counted free. h.1 counted;
}

module _ (s : State) (ready : IsReady s) (none : s.slot ≡ NoSlot) (low : s.pc < 2 ^ 32 - 64) where
  in_slot : (c : ℕ) (annul : Bool) (disp22 : ℤ) (to : ℕ) (slot : Slot)
      → StandIn (code_of s.memory) s.pc (i.Branch c annul disp22 ∷ nop ∷ [])
      → step_of s ≡ record s { pc = s.npc; npc = to; slot = slot } → HopsBare 2 s to
  in_slot c annul disp22 to slot stand one =
      let s1 = record s { pc = s.npc; npc = to; slot = slot } in
      let npc = ready.npc in
      let here : Says (code_of s.memory) s.npc nop = says_at (code_of s.memory) s.npc (s.pc + 4) nop
      (sym ready.npc) stand.1.0 in
      let two : step_of (record s { pc = s.npc; npc = to; slot = slot }) ≡ hopped s to s.memory = says_step s1 nop ready.live here ∙ nop_acts s s.npc to slot in
      let hops : Hops s 2 IsFirstWord to s.memory = record {
        path = leads_then _ s s1 (hopped s to s.memory) 1 1 (leads_one _ s s1 one) (leads_one _ s1 _ two)
            (λ _ _. record { past = omega arith; before = omega arith; stores = stores_none IsFirstWord s.memory });
        silent = silent_then s s1 1 1 one (silent_one s
            (says_puts s (i.Branch c annul disp22) (λ cond q x e. cc) stand.0)) (silent_one s1
            (says_puts s1 nop (λ cond q x e. cc) here));
        stores = stores_none IsFirstWord s.memory;
      } in (
        hops,
        λ counted. none_then counted s s1 1 1 one
            (no_stores counted s (i.Branch c annul disp22) ready.live stand.0 refl)
            (no_stores counted s1 nop ready.live here refl),
      )

  -- the branch and its nop lead to the branch's target, or past the nop
  two_words : (c : ℕ) (disp22 : ℤ) (to : ℕ) (flag : Bool) → Reaches s.pc to disp22
      → StandIn (code_of s.memory) s.pc (i.Branch c false disp22 ∷ nop ∷ [])
      → holds_of c s.codes ≡ flag → HopsBare 2 s (if flag then to else s.pc + 8)
  two_words c disp22 to true r stand e =
      in_slot c false disp22 to Taken stand (says_step s (i.Branch c false disp22) ready.live stand.0
      ∙ taken_acts s c disp22 (c == 8) none e refl
      ∙ ap (λ z. record s { pc = s.npc; npc = z; slot = Taken }) r)
  two_words c disp22 to false r stand e =
      let npc = ready.npc in
      let there : wrapped (s.npc + 4) ≡ s.pc + 8 = omega arith in
      in_slot c false disp22 (s.pc + 8) Untaken stand (says_step s (i.Branch c false disp22) ready.live stand.0
      ∙ untaken_acts s c disp22 none e
      ∙ ap (λ z. record s { pc = s.npc; npc = z; slot = Untaken }) there)

  no_slot : (c : ℕ) (disp22 : ℤ) (to : ℕ) → Says (code_of s.memory) s.pc (i.Branch c true disp22)
      → step_of s ≡ hopped s to s.memory → HopsBare 1 s to
  no_slot c disp22 to here one =
      let hops : Hops s 1 IsFirstWord to s.memory = record {
        path = leads_one _ s _ one;
        silent = silent_one s (says_puts s (i.Branch c true disp22) (λ cond q x e. cc) here);
        stores = stores_none IsFirstWord s.memory;
      } in (hops, λ counted. no_stores counted s (i.Branch c true disp22) ready.live here refl)

  -- a branch that is always taken
  always : (c : ℕ) (disp22 : ℤ) (to : ℕ) → Reaches s.pc to disp22
      → Says (code_of s.memory) s.pc (i.Branch c true disp22) → holds_of c s.codes ≡ true → (c == 8) ≡ true
      → HopsBare 1 s to
  always c disp22 to r here e a =
      no_slot c disp22 to here (says_step s (i.Branch c true disp22) ready.live here
      ∙ annulled_acts s c disp22 true true none e a
      ∙ ap (λ z. record s { pc = z; npc = wrapped (z + 4) }) r
      ∙ ap (λ (z : Slot). record s { pc = to; npc = wrapped (to + 4); slot = z }) none)

  -- the branch leads past its nop where it isn't taken; where it is, the nop runs, unless it is always taken
  annulled : (c : ℕ) (disp22 : ℤ) (to b : ℕ) (flag always_taken : Bool) → s.pc + 8 ≤ b → Reaches s.pc to disp22
      → StandIn (code_of s.memory) s.pc (i.Branch c true disp22 ∷ nop ∷ [])
      → holds_of c s.codes ≡ flag → (c == 8) ≡ always_taken → Goes s (if flag then to else s.pc + 8) b 1 6 2
  annulled c disp22 to b true true room r stand e a =
      bare_goes s to b 1 6 2 1 (always c disp22 to r stand.0 e a) (omega arith) (omega arith) (omega arith)
  annulled c disp22 to b true false room r stand e a =
      bare_goes s to b 1 6 2 2 (in_slot c true disp22 to Taken stand
      (says_step s (i.Branch c true disp22) ready.live stand.0 ∙ annulled_acts s c disp22 true false none e a
      ∙ ap (λ z. record s { pc = s.npc; npc = z; slot = Taken }) r)) (omega arith) (omega arith) (omega arith)
  annulled c disp22 to b false always_taken room r stand e a =
      bare_goes s (s.pc + 8) b 1 6 2 1 (no_slot c disp22 (s.pc + 8) stand.0
      (says_step s (i.Branch c true disp22) ready.live stand.0
      ∙ annulled_acts s c disp22 false always_taken none e a
      ∙ ap (λ z. record s { pc = z; npc = wrapped (s.pc + 12) }) (omega arith)
      ∙ ap (λ z. record s { pc = s.pc + 8; npc = wrapped z }) (omega arith)
      ∙ ap (λ (z : Slot). record s { pc = s.pc + 8; npc = wrapped (s.pc + 8 + 4); slot = z }) none))
      (omega arith) (omega arith) (omega arith)

-- ---- where they go

jump_goes : (base : ℕ) (code : List ℕ) (to a b : ℕ) (s : State) → JumpStands base code to a b → CanRun base code s
    → s.pc ≡ a → b ≤ 2 ^ 31 → a ≤ b → to ≤ 2 ^ 31 → to % 4 ≡ 0 → Goes s to b 0 4 1
unfolding holds_of
jump_goes base code to a b s (jump_nothing e f) w is low order low' aligned =
    let hops : Hops s 0 IsFirstWord to s.memory = record {
      path = rw (stays s to (is ∙ e) w.ready.npc w.slot (omega arith)) (leads_none _ s);
      silent = silent_none s;
      stores = stores_none IsFirstWord s.memory;
    } in
    bare_goes s to b 0 4 1 0 (hops, λ counted. refl) (omega arith) (omega arith) (omega arith)
jump_goes base code to a b s (jump_short disp22 f r say) w is low order low' aligned =
    let words : StandIn (code_of s.memory) s.pc (i.Branch 8 true disp22 ∷ [])
    = rw is (says_stand base code s.memory w.code (i.Branch 8 true disp22 ∷ []) a say) in
    bare_goes s to b 0 4 1 1 (always s w.ready w.slot (omega arith) 8 disp22 to (rw is r) words.0 refl refl)
    (omega arith) (omega arith) (omega arith)
jump_goes base code to a b s (jump_long f say) w is low order low' aligned =
    let words = says_stand base code s.memory w.code (long_jump to) a say in
    record {
      count = 4;
      memory = store_word s.memory (page_word 0) (register_of s 1);
      some = omega arith;
      few = omega arith;
      inside = omega arith;
      hops = long_jumps_hop to s w.valid w.ready (omega arith) w.page (rw is words) (omega arith) aligned;
      stored = λ counted free. elim free [
        | inl other ↦ long_jumps_store to s w.valid w.ready (omega arith) w.page
            (rw is words) (omega arith) aligned counted
            other
        | inr near ↦ absurd (omega (arith, f, is, near))
      ];
    }

pub jumps_hop : JumpsHop
jumps_hop pieces base p place h k n to e s w is =
    let stands : JumpStands base p.code (slice_index p.at to.0) (place k n) (place k (suc n)) = h.items k n
    (it.Jump to) e in
    let a = h.aligned to.0 in
    jump_goes base p.code (slice_index p.at to.0) (place k n) (place k (suc n)) s stands w is
    (item_low pieces base p place h k n (it.Jump to) e)
    (order base p.code (slice_index p.at to.0) (place k n) (place k (suc n)) stands) a.1 a.0
  where
    order : (base : ℕ) (code : List ℕ) (to a b : ℕ) → JumpStands base code to a b → a ≤ b
    order base code to a b (jump_nothing e f) = omega arith
    order base code to a b (jump_short d f r s) = omega arith
    order base code to a b (jump_long f s) = omega arith

-- where a branch in its long form goes
past_jump : (base : ℕ) (code : List ℕ) (to a b : ℕ) (s : State) (flag : Bool) → CanRun base code s → s.pc ≡ a
    → b ≤ 2 ^ 31 → to ≤ 2 ^ 31 → to % 4 ≡ 0 → b ≡ a + 24
    → SaysFrom base code (a + 8) (long_jump to) → HopsBare 2 s (if not flag then a + 24 else s.pc + 8)
    → Goes s (if flag then to else b) b 1 6 2
past_jump base code to a b s false w is low low' aligned e say h =
    bare_goes s b b 1 6 2 2 (rw e h) (omega arith) (omega arith) (omega arith)
past_jump base code to a b s true w is low low' aligned e say h =
    let s2 = hopped s (s.pc + 8) s.memory in
    let words = says_stand base code s.memory w.code (long_jump to) (a + 8) say in
    let low2 : wrapped (s.pc + 8 + 4) ≡ s.pc + 8 + 4 = omega arith in
    let valid2 : IsValid (hopped s (s.pc + 8) s.memory) = rw h.0.path.steps at (run-valid s 2 w.valid) in
    let jump : Hops (hopped s (s.pc + 8) s.memory) 4 IsFirstWord to
    (store_word s.memory (page_word 0) (register_of s 1)) =
    long_jumps_hop to s2 valid2 (record { live = w.ready.live; npc = low2 }) (omega arith) w.page
    (rw (let f : a + 8 ≡ s.pc + 8 = omega arith in f) at words) (omega arith) aligned in
    record {
      count = 2 + 4;
      memory = store_word s.memory (page_word 0) (register_of s 1);
      some = omega arith;
      few = omega arith;
      inside = omega arith;
      hops = record {
        path = leads_then (IsBetween s 6 IsFirstWord) s s2 _ 2 4
            (leads_weaker (IsBetween s 2 IsFirstWord) (IsBetween s 6 IsFirstWord) s s2 2
            (λ u k. let x = k.past in let y = k.before in record { past = omega arith; before = omega arith; stores = k.stores }) h.0.path)
            (leads_weaker (IsBetween s2 4 IsFirstWord) (IsBetween s 6 IsFirstWord) s2 _ 4
            (λ u k. let x = k.past in let y = k.before in record { past = omega arith; before = omega arith; stores = k.stores }) jump.path)
            (λ _ _. record { past = omega arith; before = omega arith; stores = stores_none IsFirstWord s.memory });
        silent = silent_then s s2 2 4 h.0.path.steps h.0.silent jump.silent;
        stores = jump.stores;
      };
      stored = λ counted free. elim free [
        | inl other ↦ none_then counted s s2 2 4 h.0.path.steps (h.1 counted)
            (long_jumps_store to s2 valid2 (record { live = w.ready.live; npc = low2 }) (omega arith) w.page
            (rw (let f : a + 8 ≡ s.pc + 8 = omega arith in f) at words) (omega arith) aligned counted other)
        | inr near ↦ absurd (omega (arith, e, is, near))
      ];
    }

branch_goes : (base : ℕ) (code : List ℕ) (c to a b : ℕ) (s : State) → BranchStands base code c to a b
    → CanRun base code s → s.pc ≡ a → c < 16
    → b ≤ 2 ^ 31 → to ≤ 2 ^ 31 → to % 4 ≡ 0 → Goes s (if holds_of c s.codes then to else b) b 1 6 2
branch_goes base code c to a b s (branch_short disp22 f r say) w is small low low' aligned =
    let words = says_stand base code s.memory w.code (i.Branch c true disp22 ∷ nop ∷ []) a say in
    rw (let g : s.pc + 8 ≡ b = omega arith in g) at (annulled s w.ready w.slot (omega arith) c disp22 to b
    (holds_of c s.codes) (c == 8) (omega arith) (rw is r) (rw is words) refl refl)
branch_goes base code c to a b s (branch_long f say say') w is small low low' aligned =
    let words = says_stand base code s.memory w.code (i.Branch (opposite c) false (pos 6) ∷ nop ∷ []) a say in
    past_jump base code to a b s (holds_of c s.codes) w is low low' aligned f say'
    (two_words s w.ready w.slot (omega arith) (opposite c) (pos 6) (a + 24) (not (holds_of c s.codes)) (omega arith)
    (rw is words) (opposed c s.codes small))

pub branches_hop : BranchesHop
branches_hop pieces base p place h k n cond to e small s w is =
    let stands : BranchStands base p.code cond (slice_index p.at to.0) (place k n) (place k (suc n)) = h.items k n
    (it.Branch cond to) e in
    let a = h.aligned to.0 in
    branch_goes base p.code cond (slice_index p.at to.0) (place k n) (place k (suc n)) s stands w is small
    (item_low pieces base p place h k n (it.Branch cond to) e) a.1 a.0
