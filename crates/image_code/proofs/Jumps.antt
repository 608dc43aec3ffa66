-- The words of a CALL and of a JMPL, and then the way; or the ending that a misaligned target has; and those of an open
-- switch's JMPL, which lead to the piece of a Case edge.
use Rattle.image_code.proofs.Common.{words_mean, ◌≡◌, ℕ, ◌+◌, ◌%◌, ◌^◌, ◌<◌, ◌≤◌, inl, inr, false, Option, Some, None, List, [], ◌∷◌, ◌++◌, length, length-append, refl, ap, sym, ◌∙◌, subst, arith, ℤ, Words, word_at, Op2, Instr, decode_of, wrapped, code_of, Ending, NoSlot, State, sum_of, target_of, act, is_transfer, instr_at, Point, point_of, node_after, moved, delayed, trapped, mem_address_not_aligned, call_step, with_register, hopped, memory_word, table_word, Leads, leads_weaker, stores_none, IsBetween, IsPageWord, IsAboutToCall, link, past, Fit, words_of, lt, translate_target, loads_there, jumped, link_fits, find_fits, IsAboutToFind, found_memory, goes, look_up_simulates, HasWordAt, choice_at, switch_jump, ComesToCase, IsAboutToChoose, jump_by_case, chosen, at_point, does_at, gone_at, graph_in, is_jmpl}
use Rattle.v8_decode.specs.declared.Instr.TheVariants as i
use Rattle.code_runs.proofs.Picked.{equal_or_not}
use Rattle.jump_code.proofs.Choosing.{choices_simulate}
use Rattle.jump_code.proofs.Jumping.{jump_stops}
use Rattle.jump_code.proofs.Linking.{calls_act, calls_store}
use Rattle.image_code.specs.Simulates.{word_of}
use Rattle.image_code.proofs.Points.{ReachesNext, StepsFrom, entered_at, Visit}
use Rattle.image_code.proofs.PointShapes.{LeadsTo, IsCall, IsJump, IsSwitchJump}
use Rattle.image_code.proofs.Cells.{same_stored, own_stored, page_there}
use Rattle.image_code.proofs.Dead.{gone_last}
use Rattle.image_code.proofs.EntersBy.{ends_by, moves_by, moves_past, ahead, goes_through}
use Rattle.image_code.proofs.Routes.{bare_here}
use Rattle.image_code.proofs.Shapes.{link_few}
use Rattle.image_code.proofs.Sparing.{instr_is}
use Rattle.image_code.proofs.Marked.{AtWords, at_instrs}

-- ---- a CALL

-- the original after it
abbrev called : Point → ℤ → State → State
called x disp t = delayed (with_register (at_point x t) 15 x.pc) (target_of (at_point x t) disp)

call_acts : (x : Point) (disp : ℤ) (t : State) → x.slot ≡ NoSlot → act (at_point x t) (i.Call disp) ≡ called x disp t
unfolding act call_step
call_acts x disp t none = rw none refl

module _ (visit : Visit) (c : IsCall visit.site visit.node visit.x visit.t) where
  open visit use {site, node, x, t, here, site.{g}}

  pub calls_step : StepsFrom site node x t
  calls_step =
      let is : does_at g x t ≡ called x c.disp t = rw (c.is_word, c.says) (call_acts x c.disp t c.none) in
      let there = ahead visit _ c.way c.mark (link 15 c.address.0) refl in
      let short : c.address.0 < 2 ^ 32 = omega (arith, c.original, c.low) in
      let about : IsAboutToCall c.address.0 t = record {
        valid = here.valid;
        ready = record { live = here.live; npc = there.next (omega (arith, there.low)) };
        low = omega (arith, there.low);
        words = words_mean (code_of t.memory) t.pc (link 15 c.address.0) (link_fits 15 c.address.0 (omega arith) short)
            there.words;
        short = short;
      } in
      let acts = calls_act c.address.0 t about in
      let none = calls_store c.address.0 t about in
      rw is (goes_through visit _ c.way c.mark (link 15 c.address.0) refl (called x c.disp t) t.memory _
      (gone_last site node x (called x c.disp t)) (record {
        moves = record {
          transfer = (c.word, c.is_word, ap is_transfer c.says);
          path = leads_weaker _ _ t _ 2 there.on (subst
              (λ a. Leads (IsBetween t 2 IsPageWord) t (past t 2 t.memory (with_register t 15 a)) 2) c.original acts.0);
          some = omega arith;
          few = omega arith;
          silent = acts.1;
          stores = stores_none IsPageWord t.memory;
          spares = λ _. record { spills = none _; first = λ _. none _; brief = λ _. omega arith };
        };
        same = refl;
        memory = refl;
        live = here.live;
        npc = refl;
        slot = refl;
        target_in_page = λ a b _. absurd ((rw is at c.never) a b);
      }) (rw is at c.leads))

-- ---- a JMPL that looks up

jumping : {A : Type 0} (text : Words) (pc word rd rs1 : ℕ) (op2 : Op2) → word_of text pc ≡ Some word
    → decode_of word ≡ i.Jmpl rd rs1 op2 → is_jmpl (instr_at text pc) ≡ false → A
jumping text pc word rd rs1 op2 is says e =
    let jmpl = ap is_jmpl (instr_is text pc word is ∙ ap (λ (z : Instr). Some z) says) in absurd (cc)

module _ (visit : Visit) (c : IsJump visit.site visit.node visit.x visit.t) where
  open visit use {site, node, x, t, here, site.{g, f, placed}}

  -- the original after its JMPL, and what it runs in its place
  abbrev after_jump : State
  after_jump = jumped c.address.0 c.rd c.rs1 c.op2 t

  abbrev at_jump : State
  at_jump = moved c.address.0 (wrapped (c.address.0 + 4)) NoSlot t

  abbrev image : List Instr
  image = translate_target c.scratch c.second c.rd c.rs1 c.op2 f.halves.base c.address.0

  many : 12 ≤ length image
  many = omega arith

  there : AtWords site node x t c.piece (length image) (words_of image)
  there = ahead visit _ c.way c.mark image refl

  about : IsAboutToFind c.scratch c.second c.rd c.rs1 c.op2 c.address.0 f.halves t
  about =
      let short : c.address.0 < 2 ^ 32 = omega (arith, c.original, c.low) in
      record {
        valid = here.valid;
        ready = record { live = here.live; npc = there.next (omega (arith, many)) };
        low = omega (arith, there.low);
        apart = c.apart;
        other = c.other;
        differ = c.differ;
        words = words_mean (code_of t.memory) t.pc image
            (find_fits c.scratch c.second c.rd c.rs1 c.op2 f.halves.base c.address.0 c.apart c.other c.fits c.in_range
            (omega (arith, placed.frame.whole.below)) short) there.words;
        short = short;
        table = placed.frame.whole;
        stands = record {
          readable = λ z from to aligned. loads_there z false t.memory (here.memory.table z from to aligned).0;
          same = λ z from to aligned. (here.memory.table z from to aligned).1;
        };
        page = page_there site t.memory here.memory.ours;
      }

  -- the target is a multiple of 4, or the run ends
  either : (P : State → Type 0)
      → (sum_of t c.rs1 c.op2 % 4 ≡ 0 → P (delayed (with_register at_jump c.rd c.address.0) (sum_of t c.rs1 c.op2)))
      → P (trapped at_jump mem_address_not_aligned) → P after_jump
  either P going stopping = elim (equal_or_not (sum_of t c.rs1 c.op2 % 4) 0) [
    | inl e ↦ subst P (sym (goes c.scratch c.second c.rd c.rs1 c.op2 c.address.0 f.halves t about e)) (going e)
    | inr ne ↦ subst P (sym (jump_stops c.address.0 c.rd c.rs1 c.op2 t ne)) stopping
  ]

  memory_is : after_jump.memory ≡ t.memory
  memory_is = either (λ z. z.memory ≡ t.memory) (λ _. refl) refl

  steps : (e : Option Ending) → after_jump.ending ≡ e
      → (after_jump.ending ≡ None → LeadsTo site c.way (gone_at g node x after_jump) (word_at g.text after_jump.pc)
      (entered_at site (node_after (graph_in g) node (gone_at g node x after_jump)) (point_of after_jump)))
      → ReachesNext site (gone_at g node x after_jump) node x t after_jump
  steps None live leads =
      let on = (look_up_simulates c.scratch c.second c.rd c.rs1 c.op2 c.address.0 f.halves t about).0 live in
      goes_through visit _ c.way c.mark image refl after_jump (found_memory t c.scratch c.second c.rs1 c.op2 f.halves) _
      (gone_last site node x after_jump) (record {
        moves = record {
          transfer = (c.word, c.is_word, ap is_transfer c.says);
          path = leads_weaker _ _ t _ (length image) there.on on.path;
          some = omega (arith, many);
          few = let n = link_few c.rd c.address.0 in omega arith;
          silent = on.silent;
          stores = rw memory_is at on.stores;
          spares = λ watched. jumping g.text x.pc c.word c.rd c.rs1 c.op2 c.is_word c.says watched.jump;
        };
        same = refl;
        memory = memory_is;
        live = live;
        npc = refl;
        slot = refl;
        target_in_page = λ _ _ _. (
          on.waits,
          either (λ z. z.ending ≡ None → z.npc % 4 ≡ 0) (λ e _. e) (λ over. absurd (cc)) live,
          λ there. (there, on.found),
        );
      }) (leads live)
  steps (Some d) over leads =
      let end = (look_up_simulates c.scratch c.second c.rd c.rs1 c.op2 c.address.0 f.halves t about).1 d over in
      let traps = end.traps in
      -- it changes nothing else
      let same : after_jump ≡ record at_jump { ending = Some d } =
      either (λ z. z.ending ≡ Some d → z ≡ record at_jump { ending = Some d }) (λ _ is. let live = here.live in absurd (cc))
      (ap (λ (e : Option Ending). record at_jump { ending = e })) over in
      ends_by visit after_jump traps.after 9 (record {
        past = moves_past visit [] after_jump traps.after 10 (record {
          transfer = (c.word, c.is_word, ap is_transfer c.says);
          path = leads_weaker _ _ t _ 10 (λ u z.
              there.on u (record { past = z.past; before = omega (arith, z.before, many); stores = z.stores })) traps.path;
          some = omega arith;
          few = omega arith;
          silent = traps.silent;
          stores = traps.stores;
          spares = λ watched. jumping g.text x.pc c.word c.rd c.rs1 c.op2 c.is_word c.says watched.jump;
        });
        before = traps.live;
        ending = d;
        over = over;
        followed = rw same (record {
          ending = end.same;
          window = traps.window;
          valid = traps.valid;
          registers = traps.registers;
          input = traps.input;
          memory = same_stored site t.memory traps.after.memory here.memory
              (own_stored site t.memory traps.after.memory traps.stores);
          items = λ live thing _ _. absurd (cc);
        });
        there = there.there traps.after (omega (arith, traps.pc)) (omega (arith, traps.pc, many));
      })

  pub jumps_step : StepsFrom site node x t
  jumps_step =
      let is : does_at g x t ≡ after_jump = rw (c.is_word, c.says, c.none, c.next, c.original) in
      rw is (steps _ refl (rw is at c.leads))

-- ---- the JMPL of an open switch

and_fits : (xs ys : List Instr) → Fit xs → Fit ys → Fit (xs ++ ys)
and_fits [] ys f h = h
and_fits (x ∷ xs) ys f h = (f.0, f.1, and_fits xs ys f.2 h)

choose_fits : (distance : ℕ) → distance < 2 ^ 32 → Fit (jump_by_case distance)
choose_fits distance short = grind (arith, lt)

module _ (visit : Visit) (c : IsSwitchJump visit.site visit.node visit.x visit.t) where
  open visit use {site, node, x, t, here, site.{g, p, f, placed}}

  abbrev after_choice : State
  after_choice = jumped c.address.0 c.rd c.rs1 c.op2 t

  abbrev choice : List Instr
  choice = switch_jump c.rd c.address.0 c.distance

  sizes : (9 ≤ length choice) × (length choice ≤ 11)
  sizes =
      let count = length-append (link c.rd c.address.0) (jump_by_case c.distance) in
      let few = link_few c.rd c.address.0 in
      omega arith

  choice_is : does_at g x t ≡ after_choice
  choice_is = rw (c.is_word, c.says, c.none, c.next, c.original)

  at_choice : AtWords site node x t c.piece (length choice) (words_of choice)
  at_choice = at_instrs visit _ _ _ c.mark choice refl

  loaded : HasWordAt (choice_at c.distance t) false t.memory
      × (memory_word t.memory (choice_at c.distance t) ≡ table_word f.cases (choice_at c.distance t))
  loaded = here.memory.cases (choice_at c.distance t) c.from c.to c.aligned

  pub choices_step : StepsFrom site node x t
  choices_step =
      let live : after_choice.ending ≡ None = rw choice_is at c.live in
      let short : c.address.0 < 2 ^ 32 = omega (arith, c.original, c.low) in
      let about : IsAboutToChoose c.rd c.address.0 c.distance t = record {
        valid = here.valid;
        ready = record { live = here.live; npc = at_choice.next (omega (arith, sizes)) };
        low = omega (arith, at_choice.low, sizes);
        words = words_mean (code_of t.memory) t.pc choice
            (and_fits (link c.rd c.address.0) (jump_by_case c.distance) (link_fits c.rd c.address.0 c.register short)
            (choose_fits c.distance c.near)) at_choice.words;
        register = c.register;
        short = short;
        near = c.near;
        page = λ n less. page_there site t.memory here.memory.ours n (omega (arith, less));
        choice = record {
          aligned = c.aligned;
          below = c.below;
          loads = loads_there _ false t.memory loaded.0;
          target = ap (λ z. z % 4) (loaded.1 ∙ c.has) ∙ (placed.laid.aligned c.way).0;
        };
      } in
      let k : ComesToCase c.distance t after_choice (length choice) =
      choices_simulate c.rd c.rs1 c.op2 c.address.0 c.distance t about live in
      let to = chosen c.distance t in
      let low = (placed.laid.aligned c.way).1 in
      let small : wrapped (to + 4) ≡ to + 4 = omega (arith, loaded.1 ∙ c.has) in
      let arrives : entered_at site (node_after (graph_in g) node []) (point_of after_choice) ≡ to =
      sym (loaded.1 ∙ c.has ∙ rw (c.nothing, choice_is) at c.leads) in
      rw (c.nothing, choice_is) (moves_by visit [] after_choice (hopped after_choice to k.memory) (length choice) tt (record {
        moves = record {
          transfer = (c.word, c.is_word, ap is_transfer c.says);
          path = leads_weaker _ _ t _ (length choice) at_choice.on k.path;
          some = omega (arith, sizes);
          few = omega (arith, sizes);
          silent = k.silent;
          stores = k.stores;
          spares = λ watched. jumping g.text x.pc c.word c.rd c.rs1 c.op2 c.is_word c.says watched.jump;
        };
        same = refl;
        memory = k.same;
        live = live;
        npc = small;
        slot = refl;
        target_in_page = λ _ _ plain. absurd (c.cased plain);
      }) (λ fit. bare_here site [] _ _ 8 refl fit (sym arrives) (omega (arith, loaded.1 ∙ c.has))))
