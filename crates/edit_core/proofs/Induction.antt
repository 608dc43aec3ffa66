-- The induction over the steps of the original, and whole runs.
use Rattle.edit_core.proofs.Common.{◌≡◌, ◌≢◌, ℕ, zero, suc, ◌+◌, ◌-◌, ◌<◌, ◌≤◌, ◌⊎◌, inl, inr, Option, Some, None, List, ◌++◌, append-nil, refl, ap, sym, ◌∙◌, subst, arith, node_at, fetch_of, Span, AllApart, Ending, State, sum_of, run, IsAmong, StateItem, Register, IsItem, IsSameAt, place_of, place_of-below, WritesIn, IsUntouched, visit_of, pages_of, Ends, stays_ended, puts_nothing, Node, Point, point_of, goes_on_at, gone, gone_in, node_after, end_of_walk, IsAtWord, IsNoLoad, IsThere, EditSetup, graph_in, number_in, edit_in, cells_in, store_of, updates, step_stays, Answers, IsLeast, AtVisit, IsOffPages, HasShortForms, place_of-some, HasSameOutside, Matches, IsWay, walks_match, KeepsAddress, MatchesIn, StepsOn, at_point, does_at, word_of, ended_stays, EndsAtNode, TellsStep, KeepsLoaded, AreTogether, Linked, RunFacts, Spares, instr_in, limits_in, EditsAnswer, Answered, KeptIn, own_trail, trail_of, IsMatched, IsStop, visits_by, unless_ended, cases_lt, length, []}
use Rattle.image_code.specs.Simulates.{IsOnWay}
use Rattle.v8_step.specs.Step.{step_of, puts_of, on_word, puts_on_word}
use Rattle.two_runs.proofs.Reading.{same_sum}
use Rattle.v8_decode.specs.Effects.{op2_parts, reg}
use Rattle.v8_decode.specs.declared.Op2.{Op2}
use Rattle.v8_decode.specs.declared.Op2.TheVariants.{Reg}
use Rattle.two_runs.specs.Needed.{decoded, instr_at, judged_in}
use Rattle.v8_step.proofs.Executable.{code_stays}
use Rattle.two_runs.proofs.Outside.{byte_outside, heap_end_same}
use Rattle.v8_step.proofs.ValidSteps.{run-valid}
use Rattle.code_runs.proofs.Leads.{run_add, puts_add}
use Rattle.code_runs.specs.PointsAlike.{AreAlikeOn, AreAtOnePoint, instr_of}
use Rattle.code_runs.proofs.Ours.{outside_trans}
use Rattle.code_runs.proofs.PointsAlike.{points_act_alike}
use Rattle.two_runs.proofs.Follows.{ending, going, runs_follow}
use Rattle.edit_core.proofs.Trails.{long_lives, longer, node_of_place, over_or_not, own_live, placed_between, quiet_trail, stays, trail_stays, visit_lives, visit_more, visited_address}
use Rattle.two_runs.specs.TwoRuns.{IsBounded}
use Rattle.image_code.proofs.Dead.{same_then}

-- ---- small things

same_moved : (item : StateItem) (s t : State) (p : Point) → IsSameAt item s t → IsSameAt item s (at_point p t)
same_moved (Register n) s t p h = h
same_moved _ s t p h = h

instr_same : (e : Option Ending) (o : Option ℕ) → e ≡ None → decoded e o ≡ instr_of o
instr_same e o live = grind arith

-- the same point, as one
one_point : (s u : State) → AreAtOnePoint s u → point_of s ≡ point_of u
one_point s u h = cc (h.pc, h.npc, h.slot)

-- a load's operands are read
load_sum : (rs1 : ℕ) (op2 : Op2) (s u : State) → s.window ≡ u.window
    → ((r : ℕ) → IsAmong (Register (place_of s.window (suc r))) s.window (reg rs1 ++ op2_parts op2)
    → IsSameAt (Register (place_of s.window (suc r))) s u) → sum_of s rs1 op2 ≡ sum_of u rs1 op2
load_sum zero (Reg (suc q)) s u w f = same_sum zero (Reg (suc q)) s u w tt (f q (inl refl), tt)
load_sum (suc r) (Reg (suc q)) s u w f =
    same_sum (suc r) (Reg (suc q)) s u w (f r (inl refl), tt) (f q (inr (inl refl)), tt)
load_sum zero op2 s u w f = same_sum zero op2 s u w tt tt
load_sum (suc r) op2 s u w f = same_sum (suc r) op2 s u w (f r (inl refl), tt) tt

-- ---- one step

module _ (g : EditSetup) (entry : ℕ) (Inside : Point → Type 0) (AtVisit : Node → Point → State → Type 0)
    (NoLongForms : Type 0) (K : ℕ → StateItem → Type 0) (s0 t0 : State) where
  -- the states of both runs
  abbrev s : ℕ → State
  s n = run s0 n

  abbrev t : ℕ → State
  t m = run t0 m

  abbrev pages : List Span
  pages = pages_of g.notes

  -- where step n of the original stands, and the edges that it completes
  abbrev point : ℕ → Point
  point n = point_of (s n)

  abbrev word : ℕ → Option ℕ
  word n = word_of g.text (s n).pc

  abbrev node : ℕ → Node
  node n = end_of_walk g.text (graph_in g) entry s0 n

  abbrev edges : ℕ → List ℕ
  edges n = gone_in g.text (graph_in g) entry s0 n

  abbrev store : ℕ → List ℕ
  store n = store_of (edit_in g) entry s0 n

  -- what its word does there to the state of the written file
  abbrev does : ℕ → ℕ → State
  does n m = does_at g (point n) (t m)

  abbrev IsAlike : ℕ → ℕ → Type 0
  IsAlike n m = AreAlikeOn pages (word n) (s n) (at_point (point n) (t m)) (s (suc n)) (does n m)

  abbrev Links : ℕ → ℕ → Type 0
  Links n m = Linked g entry AtVisit K s0 t0 n m

  -- a stop at moment m tells of step n, where it is in a place or outside the pages
  abbrev Tells : ℕ → ℕ → Type 0
  Tells n m = node_at g.notes (t m).pc ≢ None → TellsStep (edit_in g) entry s0 t0 m n

  -- a step that ends the run completes no edge
  ended_same : (n : ℕ) (d : Ending) → (s (suc n)).ending ≡ Some d
      → (edges n ≡ []) × (store (suc n) ≡ store n) × (node (suc n) ≡ node n)
  unfolding end_of_walk
  ended_same n d over =
      let none : edges n ≡ [] = ap (λ o. gone g.text (graph_in g) (node n) (point n) (unless_ended o (point (suc n)))) over in
      (none, ap (λ es. updates g.snips es (store n) (s (suc n))) none, ap (node_after (graph_in g) (node n)) none)

  record IsNext (n m : ℕ) : Type 0 where
    pub alike : IsAlike n m
    pub on : StepsOn g AtVisit (NoLongForms × IsNoLoad g (does n m)) 64 (edges n) (node n) (point n) (t m) (does n m)
    pub keeps : KeepsAddress g (edges n) (node n) (point n) (t m) (does n m) on.after
    -- also where it ends the run
    pub pc : (s (suc n)).pc ≡ (does n m).pc
    pub visit : visit_of g.notes (t m) ≡ Some (s n).pc
    pub node : node_at g.notes (t m).pc ≡ Some (number_in g (node n))

  -- how far both runs have come, up to step `last`
  data Reached (last n m : ℕ) : Type 0 where
    goes : Links n m → Reached last n m
    -- the written file's pc is then in a place of the node where the original's walk ended, and of the last instruction, or
    -- outside the pages
    ends : (d : Ending) → (s n).ending ≡ Some d → (t m).ending ≡ Some d → AreTogether g entry s0 t0 n m
        → TellsStep (edit_in g) entry s0 t0 m n → Reached last n m
    past : last < n → Reached last n m

  module _ (r : RunFacts g entry Inside AtVisit NoLongForms K s0 t0) where
    fetched : (n : ℕ) → fetch_of (s n).memory (s n).pc ≡ word n
    fetched n = code_stays.1 s0 n (s n).pc ∙ r.fetches (s n).pc

    stepped : (n : ℕ) → (s n).ending ≡ None → s (suc n) ≡ on_word (s n) (word n)
    unfolding step_of
    stepped n live = cc (live, fetched n)

    put : (n descriptor : ℕ) → (s n).ending ≡ None → puts_of (s n) descriptor ≡ puts_on_word (s n) (word n) descriptor
    unfolding puts_of
    put n descriptor live = cc (live, fetched n)

    matched : (n : ℕ) → (s n).ending ≡ None → MatchesIn g (node n) (point n)
    matched n live = walks_match g.text g.given g.switches entry s0 n r.text r.fetches r.begins r.opened r.by_case live

    next_of : (n m : ℕ) → Links n m → AllApart pages (judged_in (s n) (instr_at (s n))) → Inside (point n) → IsNext n m
    next_of n m h apart within =
        let visits = r.simulates.visits _ _ _ (matched n h.live) within h.here in
        let judged = rw (ap (decoded (s n).ending) (fetched n) ∙ instr_same (s n).ending (word n) h.live) at apart in
        let world = h.together.world in
        let b : IsAlike n m = rw (stepped n h.live) (points_act_alike g.notes (word n) (s n) (at_point (point n) (t m)) h.live
        visits.0 (run-valid s0 n r.first_valid).registers (run-valid t0 m r.second_valid).registers
        (record { pc = refl; npc = refl; slot = refl }) (assumption) (λ item is d. same_moved item (s n) (t m) (point n)
        (h.items item is (r.keeping.reads n item is h.live d))) judged) in
        let ends = ends_by (s (suc n)).ending refl visits.0 b in
        let whole = rw ends.1 at (r.simulates.steps (node n) (point n) (t m)
        (matched n h.live) within h.here b.judged (λ k o is at.
        -- the jump of an open switch goes by the entry whose address is kept
        let c = r.by_table n h.live k o is at in
        record {
          entry = c.number;
          below = c.below;
          kept = h.kept k o is c.start (o.jump - o.load) c.since (omega (arith, (r.opens.each k o is).order)) c.came ∙ c.loaded;
          goes = sym (b.point c.live).npc ∙ c.goes;
          live = sym b.ending ∙ c.live;
        })) in
        record { alike = b; on = whole.on; keeps = whole.keeps; pc = ends.0; visit = visits.1; node = visits.2 }
      where
        ends_by : (e : Option Ending) → (s (suc n)).ending ≡ e → (t m).ending ≡ None → IsAlike n m
            → ((s (suc n)).pc ≡ (does n m).pc) × (goes_on_at (does n m) ≡ goes_on_at (s (suc n)))
        ends_by None e other b = ((b.point e).pc, cc (b.ending, one_point (s (suc n)) (does n m) (b.point e)))
        ends_by (Some d) e other b =
            let stays = ended_stays (at_point (point n) (t m)) (word n) other (λ none. absurd (cc (b.ending, e, none))) in
            (step_stays (s n) d h.live e ∙ sym stays, cc (b.ending, e))

    -- what holds where the written file is after the step
    module _ (n m : ℕ) (h : Links n m) (x : IsNext n m) where
      abbrev later : ℕ
      later = x.on.count + m

      arrived : t later ≡ x.on.after
      arrived = run_add t0 m x.on.count ∙ x.on.path.steps

      before : (item : StateItem) → IsItem item → WritesIn (instr_in g s0 n) (s n).window item ⊎ K n item
          → WritesIn (instr_in g s0 n) (s n).window item ⊎ IsSameAt item (s n) (at_point (point n) (t m))
      before item is (inl a) = inl a
      before item is (inr a) = inr (same_moved item (s n) (t m) (point n) (h.items item is a))

      cells_next : (e : Option Ending) → (s (suc n)).ending ≡ e → cells_in g.notes (t later) ≡ store (suc n)
      cells_next None live =
          let named = r.keeping.named n (store n) (does n m) live x.alike.world.window
          (λ item is k. x.alike.items live item is (before item is k)) in
          rw (arrived, x.on.cells, h.together.cells) (sym named)
      cells_next (Some d) over = rw (arrived, x.on.cells, (ended_same n d over).0) h.together.cells

      together_next : AreTogether g entry s0 t0 (suc n) later
      together_next =
          let memory = outside_trans pages _ _ _ x.alike.world.memory x.on.followed.memory in
          record {
            world = rw arrived (record { window = cc; valid = cc; input = cc; memory = memory; registers = cc });
            puts = λ descriptor.
                let b = h.together.puts descriptor in
                let c = x.on.puts descriptor in
                cc (b, c, put n descriptor h.live, x.alike.puts descriptor, puts_add t0 m x.on.count descriptor);
            cells = cells_next (s (suc n)).ending refl;
          }

      module _ (live : (s (suc n)).ending ≡ None) where
        go : (does n m).ending ≡ None
        go = sym x.alike.ending ∙ live

        moved : point (suc n) ≡ point_of (does n m)
        moved = one_point (s (suc n)) (does n m) (x.alike.point live)

        items_next : (item : StateItem) → IsItem item → K (suc n) item → IsSameAt item (s (suc n)) x.on.after
        items_next item is k =
            same_then item (s (suc n)) (does n m) x.on.after
            (x.alike.items live item is (before item is (r.keeping.back n item k))) (x.on.followed.items go item is
            (rw x.alike.world.window at (r.keeping.live n item k)))

        -- at a load both compute the same address
        kept_next : KeepsLoaded g entry s0 (suc n) (t later)
        unfolding end_of_walk
        kept_next k o is start zero e low came =
            let q : o.load + 0 ≡ o.load = omega arith in
            let z : 0 + start ≡ suc n = omega (arith, e) in
            let now : suc n ≡ start = omega (arith, e) in
            let at : IsAtWord g o (node (suc n)) (point (suc n)) o.load = rw (z, q) at (came 0 (omega arith)) in
            let c = r.opens.each k o is in
            let sums = load_sum o.rs1 o.op2 (s (suc n)) x.on.after (x.alike.world.window ∙ sym x.on.followed.window)
            (λ q among. let item = Register (place_of (s (suc n)).window (suc q)) in
            let is : IsItem item = (place_of-some _ (suc q) (λ e. absurd (cc)), place_of-below _ (suc q)) in
            items_next item is (r.keeping.reads (suc n) item is live (rw (at.stands, c.loads) (inr among)))) in
            let loaded = x.keeps.loaded go k o is (record { itself = at.itself; outside = cc (moved); stands = cc (moved) }) in
            cc (arrived, loaded, sums, now)
        kept_next k o is start (suc more) e low came =
            let before_it : n ≡ more + start = omega (arith, e) in
            let carried = x.keeps.carried go k o is (o.load + more) (rw (← before_it) at (came more (omega arith)))
            (omega arith) (omega (arith, low)) in
            cc (
              arrived,
              carried,
              h.kept k o is start more before_it (omega (arith, low)) (λ j less. came j (omega (arith, less))),
            )

      reached_next : (last : ℕ) (e : Option Ending) → (s (suc n)).ending ≡ e → Reached last (suc n) later
      unfolding end_of_walk
      reached_next last None live = goes (record {
        live = live;
        here = rw arrived (rw (← moved live) at (x.on.here (go live)));
        items = λ item is k. rw arrived (items_next live item is k);
        kept = kept_next live;
        together = together_next;
      })
      reached_next last (Some d) over =
          let ended : (does n m).ending ≡ Some d = sym x.alike.ending ∙ over in
          let there : IsThere g (t m) x.on.after = x.on.place (λ none. absurd (cc)) in
          ends d over (cc (arrived, x.on.followed.ending, ended)) together_next (record {
            cells = together_next.cells;
            node = cc (arrived, there.range, there.page, x.node, (ended_same n d over).2);
            address = λ place is. visited_address g.notes (t m) (s n).pc place x.visit (cc (there.range, arrived, is))
                ∙ sym (step_stays (s n) d h.live over);
          })

    -- behind the end
    together_ended : (n m : ℕ) (d : Ending) → (s n).ending ≡ Some d → AreTogether g entry s0 t0 n m
        → AreTogether g entry s0 t0 (suc n) m
    together_ended n m d first h =
        let stays : s (suc n) ≡ s n = stays_ended (s n) d first in
        let over : (s (suc n)).ending ≡ Some d = ap (λ (z : State). z.ending) stays ∙ first in
        record {
          world = rw stays h.world;
          puts = λ descriptor. rw (puts_nothing (s n) d descriptor first, append-nil) (h.puts descriptor);
          cells = h.cells ∙ sym ((ended_same n d over).1);
        }

    -- what its steps store and take
    spares_next : (n m : ℕ) (x : IsNext n m) → Spares g entry NoLongForms s0 t0 n m (x.on.count + m)
    spares_next n m x watched =
        let sparing = x.on.sparing (record { jump = watched.jump; out = watched.out; inside = rw x.pc at watched.inside }) in
        let all : x.on.count ≡ x.on.count + m - m = omega arith in
        rw (← all) (record {
          spills = sparing.spills;
          first = λ short. sparing.first (short.1, rw x.pc at short.2);
          alone = λ short. sparing.alone (short.1, rw x.pc at short.2);
          few = λ short. sparing.few (short.1, rw x.pc at short.2);
        })

    module _ (last : ℕ) (u : IsUntouched pages s0 last)
        (inside : (k : ℕ) → k ≤ last → (s k).ending ≡ None → Inside (point k)) where
      -- ---- what holds at each

      record IsMoment (n m : ℕ) : Type 0 where
        matches : Matches g.notes s0 t0 n m
        cells : cells_in g.notes (t m) ≡ store n
        told : Tells n m
        over : EndsAtNode (edit_in g) entry s0 t0 n m

      same_outside : (n m : ℕ) → AreTogether g entry s0 t0 n m → HasSameOutside g.notes s0 t0 n m
      same_outside n m h = record {
        input = h.world.input;
        output = h.puts;
        heap_end = heap_end_same pages _ _ h.world.memory;
        memory = λ address out. byte_outside g.notes _ _ address h.world.memory out;
      }

      -- at a visit
      tells_at : (n m : ℕ) → cells_in g.notes (t m) ≡ store n → node_at g.notes (t m).pc ≡ Some (number_in g (node n))
          → visit_of g.notes (t m) ≡ Some (s n).pc → TellsStep (edit_in g) entry s0 t0 m n
      tells_at n m a b visit = record { cells = a; node = b; address = λ r is. visited_address g.notes (t m) _ r visit is }

      moment_at : (n m : ℕ) → n ≤ last → Reached last n m → IsMoment n m
      moment_at n m l (goes h) =
          let visits = r.simulates.visits _ _ _ (matched n h.live) (inside n l h.live) h.here in
          record {
            matches = rw h.live (record {
              visit = visits.1;
              window = h.together.world.window;
              valid = h.together.world.valid;
              needed = λ item needed. h.items item needed.is_item (r.keeping.needed n item needed);
              world = same_outside n m h.together;
            });
            cells = h.together.cells;
            told = λ some. tells_at n m h.together.cells visits.2 visits.1;
            over = λ over. absurd (over h.live);
          }
      moment_at n m l (ends d first second h tells) =
          let on : Ends g.notes s0 t0 n m = record { ending = second ∙ sym first; world = same_outside n m h } in
          record { matches = rw first on; cells = h.cells; told = λ some. tells; over = λ over. tells.node }
      moment_at n m l (past k) = absurd (omega arith)

      -- ---- what holds from one to the next

      record IsStep (n m k : ℕ) : Type 0 where
        goes : (s n).ending ≡ None → IsWay g.notes t0 m k (limits_in g entry s0 n)
        stays : (d : Ending) → (s n).ending ≡ Some d → k ≡ m
        spared : Spares g entry NoLongForms s0 t0 n m k
        between : (j : ℕ) → m ≤ j → j < k → Tells n j

      record Next (n m : ℕ) : Type 0 where
        moment : ℕ
        reached : Reached last (suc n) moment
        step : n < last → IsStep n m moment

      on_way : (n m j : ℕ) (x : IsNext n m) → m < j → j < x.on.count + m → IsOnWay g (t m) (t j)
      on_way n m j x a b =
          let e : j ≡ (j - m) + m = omega arith in
          rw (ap (run t0) e ∙ run_add t0 m (j - m)) (x.on.path.quiet (j - m) (omega arith) (omega arith))

      -- at a visit, or past it, in its place
      told_from : (n m k : ℕ) → Links n m → (x : IsNext n m) → m ≤ k → k < x.on.count + m → Tells n k
      told_from n m k h x a b some = elim (cases_lt m k) [
        | inr c ↦ let e : k ≡ m = omega arith in rw e (tells_at n m h.together.cells x.node x.visit)
        | inl c ↦
            let on = on_way n m k x c b in
            let place = placed_between g.notes (t k) on.live on.visit some in
            let there = on.place place.0 place.1 in
            let here = node_of_place g.notes (t m).pc place.0 there.0 in
            record {
              cells = there.1 ∙ h.together.cells;
              node = node_of_place g.notes (t k).pc place.0 place.1 ∙ sym here ∙ x.node;
              address = λ r is. visited_address g.notes (t m) (s n).pc r x.visit (cc (there.0, place.1, is));
            }
      ]

      next : (n m : ℕ) → Reached last n m → Next n m
      next n m (goes h) = elim (cases_lt n last) [
        | inl l ↦
            let x = next_of n m h (u.unjudged n l) (inside n (omega (arith, l)) h.live) in
            record {
              moment = x.on.count + m;
              reached = reached_next n m h x last (s (suc n)).ending refl;
              step = λ _. record {
                goes = λ live. record {
                  forward = omega arith;
                  short = omega arith;
                  quiet = λ j a b. let on = on_way n m j x a b in (on.live, on.visit);
                };
                stays = λ d over. absurd (let live : (s n).ending ≡ None = h.live in cc);
                spared = spares_next n m x;
                between = λ j a b. told_from n m j h x a b;
              };
            }
        | inr l ↦ record { moment = m; reached = past (omega (arith, l)); step = λ k. absurd (omega (arith, l, k)) }
      ]
      next n m (ends d first second h tells) =
          let stays : s (suc n) ≡ s n = stays_ended (s n) d first in
          let over : (s (suc n)).ending ≡ Some d = ap (λ (z : State). z.ending) stays ∙ first in
          let both = together_ended n m d first h in
          record {
            moment = m;
            reached = ends d over second both (record {
              cells = both.cells;
              node = cc (tells.node, (ended_same n d over).2);
              address = λ place is. tells.address place is ∙ sym (ap (λ (z : State). z.pc) stays);
            });
            step = λ _. record {
              goes = λ live. absurd (cc);
              stays = λ e over. refl;
              spared = λ watched. let none : 0 ≡ m - m = omega arith in rw (← none) (record {
                spills = omega arith;
                first = λ short. refl;
                alone = λ short. absurd (let live : (s n).ending ≡ None = short.0 in cc);
                few = λ short none. omega arith;
              });
              between = λ j a b. absurd (omega arith);
            };
          }
      next n m (past l) = record { moment = m; reached = past (omega arith); step = λ k. absurd (omega arith) }

      came : (n : ℕ) → (m : ℕ) × Reached last n m
      came zero = (r.begin, goes r.first)
      came (suc n) = let x = next n (came n).0 (came n).1 in (x.moment, x.reached)

      abbrev moments : ℕ → ℕ
      moments n = (came n).0

      moment : (n : ℕ) → n ≤ last → IsMoment n (moments n)
      moment n l = moment_at n (moments n) l (came n).1

      step : (n : ℕ) → n < last → IsStep n (moments n) (moments (suc n))
      unfolding came
      step n l = (next n (moments n) (came n).1).step l

      begins : moments zero ≡ r.begin
      unfolding came
      begins = refl

      all_follow : ((n : ℕ) → n ≤ last → IsLeast (Answers g.notes s0 t0 n) (moments n))
          × ((m : ℕ) → IsLeast (Answers g.notes s0 t0 zero) m → m ≤ 64)
          × ((n : ℕ) → n < last → IsBounded g.notes s0 t0 n (limits_in g entry s0 n))
      all_follow = runs_follow g.notes s0 t0 64 (limits_in g entry s0) moments last (record {
        soon = rw begins r.soon;
        quiet = λ j a b. let e = r.early j (rw begins at b) in (e.0, e.1);
        matches = λ n l. (moment n l).matches;
        goes = λ n l live. (step n l).goes live;
        stays = λ n l d over. (step n l).stays d over;
      })

      -- ---- one step more, wherever that leads

      module _ (apart : AllApart pages (judged_in (s last) (instr_at (s last)))) where
        led : (m : ℕ) → moments last ≡ m → Reached last last m → IsMatched (edit_in g) entry s0 t0 (suc last)
        led m same (goes h) =
            let x = next_of last m h apart (inside last (omega arith) h.live) in
            let both = together_next last m h x in
            let before = (all_follow.0 last (omega arith)).holds.trail in
            let quiet = quiet_trail g.notes t0 (suc m) (x.on.count + m) (omega (arith, x.on.path.some))
            (λ j a b. (on_way last m j x a b).visit) in
            record {
              moment = x.on.count + m;
              trail = quiet ∙ cc (x.visit, h.live, before, same);
              ends = record {
                ending = cc (arrived last m h x, x.on.followed.ending, x.alike.ending);
                world = same_outside (suc last) (x.on.count + m) both;
              };
              cells = both.cells;
            }
        led m same (ends d first second h tells) =
            let both = together_ended last m d first h in
            let before = (all_follow.0 last (omega arith)).holds.trail in
            record {
              moment = m;
              trail = cc (first, before, same, append-nil (own_trail s0 last));
              ends = record {
                ending = second ∙ sym first ∙ ap (λ (z : State). z.ending) (sym (stays_ended (s last) d first));
                world = same_outside (suc last) m both;
              };
              cells = both.cells;
            }
        led m same (past l) = absurd (omega (arith, l))

      -- ---- wherever the written file is stopped, it tells of the step that it visited last

      module _ (m : ℕ) (all : visits_by g.notes t0 m ≡ last) where
        visit_at : (n : ℕ) → n ≤ last → (s n).ending ≡ None → visit_of g.notes (t (moments n)) ≡ Some (s n).pc
        visit_at n low live = (going g.notes s0 t0 n (moments n) (s n).ending live (moment n low).matches).visit

        -- with the visit of step n there are n + 1
        many_at : (n : ℕ) → n ≤ last → (s n).ending ≡ None → length (trail_of g.notes t0 (suc (moments n))) ≡ n + 1
        many_at n low live =
            let more = visit_more g.notes t0 (moments n) (s n).pc (visit_at n low live) in
            omega (arith, more, ap length (all_follow.0 n low).holds.trail ∙ own_live s0 n live)

        stop_by : (n : ℕ) → last ≡ suc n → (s n).ending ≡ None → Tells n m
            → ((t m).ending ≢ None → node_at g.notes (t m).pc ≢ None) → IsStop (edit_in g) entry s0 t0 m last
        stop_by n v live tells placed =
            let one : n ≡ last - 1 = omega (arith, v) in
            record { some = λ _. omega (arith, v); lives = λ _. rw one at live; tells = rw one at tells; placed = placed }

        -- before what answers a step
        before_next : (n : ℕ) → n ≤ last → m < moments n → IsStop (edit_in g) entry s0 t0 m last
        before_next zero l low =
            let early = r.early m (rw begins at low) in
            record {
              some = λ some. absurd (some early.2);
              lives = λ some. absurd (some early.2);
              tells = λ some. absurd (some early.2);
              placed = λ over. absurd (over early.0);
            }
        before_next (suc n) l low = elim (cases_lt m (moments n)) [
          | inl below ↦ before_next n (omega (arith, l)) below
          | inr from ↦ elim (over_or_not (s n).ending) [
            | inl live ↦
                -- behind the visit of a step, and before the next one
                let visit = visit_at n (omega (arith, l)) live in
                let quiet = ((step n l).goes live).quiet in
                let same = ap length (quiet_trail g.notes t0 (suc (moments n)) (suc m) (omega (arith, from))
                (λ j a b. (quiet j a (omega (arith, b, low))).1)) in
                stop_by n (omega (arith, all, many_at n (omega (arith, l)) live, same)) live ((step n l).between m from low)
                (λ over. absurd (over (elim (cases_lt (moments n) m) [
                  | inl behind ↦ (quiet m behind low).0
                  | inr here ↦
                      let e : moments n ≡ m = omega (arith, from, here) in
                      rw e at (visit_lives g.notes (t (moments n)) (s n).pc visit)
                ])))
            | inr over ↦ absurd (omega (arith, (step n l).stays over.0 over.1, from, low))
          ]
        ]

        -- at the end
        at_end : (n : ℕ) → last ≡ n → moments last ≤ m → (d : Ending) → (s last).ending ≡ Some d
            → IsStop (edit_in g) entry s0 t0 m last
        at_end zero v from d over = absurd (let e : s0.ending ≡ Some d = ap (λ z. (s z).ending) (sym v) ∙ over in cc (e, r.first.live))
        at_end (suc n) v from d over =
            let now = moment last (omega arith) in
            let ends = ending g.notes s0 t0 last (moments last) (s last).ending d over now.matches in
            let there : (t (moments last)).ending ≡ Some d = ends.ending ∙ over in
            let same : t m ≡ t (moments last) = stays t0 (moments last) m d from there in
            let ended = rw v at over in
            let trail = trail_stays g.notes t0 (moments last) (suc m) d (omega (arith, from)) there in
            let long : length (own_trail s0 last) ≡ last = cc (trail, (all_follow.0 last (omega arith)).holds.trail, all) in
            let live = long_lives s0 n (rw v at long) in
            let node = now.over (λ none. absurd (cc)) in
            stop_by n v live (λ placed.
            let told = subst (TellsStep (edit_in g) entry s0 t0 (moments last)) v (now.told (λ none. placed (cc (same, none)))) in
            record {
              cells = cc (same, told.cells, (ended_same n d ended).1);
              node = cc (same, told.node, (ended_same n d ended).2);
              address = λ place is. told.address place (rw same at is) ∙ step_stays (s n) d live ended;
            }) (λ _ none. absurd (cc (same, node, none)))

        stop_is : IsStop (edit_in g) entry s0 t0 m last
        stop_is = elim (cases_lt m (moments last)) [
          | inl low ↦ before_next last (omega arith) low
          | inr from ↦ elim (over_or_not (s last).ending) [
            | inl live ↦
                let more = longer g.notes t0 (suc (moments last)) (suc m) (omega (arith, from)) in
                absurd (omega (arith, many_at last (omega arith) live, more, all))
            | inr over ↦ at_end last refl from over.0 over.1
          ]
        ]

      answered : Answered g entry NoLongForms s0 t0 last
      answered = record {
        moments = moments;
        answers = all_follow.0;
        soon = all_follow.1;
        bounded = all_follow.2;
        spared = λ n below m i first next.
            let a = all_follow.0 n (omega (arith, below)) in
            let b = all_follow.0 (suc n) (omega (arith, below)) in
            let now : moments n ≡ m = omega (arith, a.least m first.holds, first.least (moments n) a.holds) in
            let then : moments (suc n) ≡ i = omega (arith, b.least i next.holds, next.least (moments (suc n)) b.holds) in
            rw (now, then) at (step n below).spared;
        cells = λ n l. (moment n l).cells;
        stops = λ m visits. stop_is m visits;
        over = λ n l. (moment n l).over;
        leads = λ apart. led apart (moments last) refl (came last).1;
      }

pub edits_answer : EditsAnswer
edits_answer g l base p place f entry s0 t0 last r u =
    answered g entry (IsOffPages g) (AtVisit g l base p f) (HasShortForms l.list place) (KeptIn g entry s0) s0 t0 r last u
    (λ k below live. u.outside k below)
