-- The walk matches its run.
use Rattle.cfg_walk.proofs.Common.{◌≡◌, ℕ, zero, suc, ◌+◌, ◌-◌, ◌≤◌, Option, Some, None, List, refl, ap, sym, ◌∙◌, subst, arith, length, lt-ltb, Words, word_at, IsText, Ending, Slot, State, run, stays_ended, within, blocks_of, Open, Graph, graph_of, node_of, Point, point_of, end_of_walk, gone, goes_on_at, node_after, unless_ended, AreOpen, BeginsAt, FetchesOnly, JumpsGoByCase, Matches, MatchesBy, MatchesRun, StepsMatch, WalksMatch}
use Rattle.v8_step.specs.Step.{step_of}
use Rattle.v8_step.proofs.Executable.{code_stays}
use Rattle.cfg_walk.proofs.Cut.{cut}
use Rattle.cfg_walk.proofs.Addresses.{word_at-address}
use Rattle.cfg_walk.proofs.Nodes.{after_in, home_of_node, node_in}
use Rattle.cfg_walk.proofs.States.{goes_on}

-- a state that steps to a live one is live
pub live_before : (s : State) → (step_of s).ending ≡ None → s.ending ≡ None
live_before s live = by s.ending refl
  where
    by : (x : Option Ending) → s.ending ≡ x → s.ending ≡ None
    by None e = e
    by (Some ending) e = ap (λ (t : State). t.ending) (sym (stays_ended s ending e)) ∙ live

-- what is live later was live before
lived : (s : State) (n m : ℕ) → (run s (n + m)).ending ≡ None → (run s n).ending ≡ None
lived s n zero live = let e : n + 0 ≡ n = omega arith in rw e at live
lived s n (suc m) live =
    let e : n + suc m ≡ suc (n + m) = omega arith in
    lived s n m (live_before (run s (n + m)) (rw e at live))

pub lived_to : (s : State) (n m : ℕ) → n ≤ m → (run s m).ending ≡ None → (run s n).ending ≡ None
lived_to s n m l live =
    let e : m ≡ n + (m - n) = omega arith in
    lived s n (m - n) (rw e at live)

pub steps_match : StepsMatch
steps_match text given opens node s is are fetches there live m goes after =
    let b = blocks_of text given in
    let c = cut text given is.some in
    let went = goes_on text is b opens c are node there s live fetches m goes after in (
      subst (λ (o : Option Point).
          Matches text (graph_of b opens) (node_after (graph_of b opens) node (gone text (graph_of b opens) node (point_of s) o))
          (point_of (step_of s)))
          (sym (ap (λ (x : Option Ending). unless_ended x (point_of (step_of s))) after)) went,
      after_in b opens c.firsts.some node (gone text (graph_of b opens) node (point_of s) (goes_on_at (step_of s))) there,
    )

module _ (text : Words) (given : List ℕ) (opens : List Open) (entry : ℕ) (s0 : State) (is : IsText text)
    (fetches : FetchesOnly text s0) (begins : BeginsAt text entry s0) (are : AreOpen (blocks_of text given) opens) where
  abbrev graph : Graph
  graph = graph_of (blocks_of text given) opens

  pub first : Matches text graph (node_of graph.blocks (Some entry)) (point_of s0)
  first =
      let inside : within (length text.words) entry ≡ Some entry = rw (lt-ltb _ _ begins.within) in
      subst (λ (x : Slot). MatchesBy text graph (node_of graph.blocks (Some entry)) (point_of s0) x)
      (sym begins.slot) (
        home_of_node graph.blocks (Some entry)
            ∙ ap (node_of graph.blocks) (sym (ap (word_at text) begins.pc ∙ word_at-address text entry ∙ inside)),
        omega (arith, begins.pc, begins.npc, is.below, begins.within),
      )

  matches : JumpsGoByCase text graph entry s0 → (n : ℕ) → MatchesRun text graph entry s0 n
  unfolding end_of_walk
  matches goes zero live = (first, node_in graph.blocks opens (cut text given is.some).firsts.some (Some entry))
  matches goes (suc n) live =
      let before = live_before (run s0 n) live in
      let m = matches goes n before in
      steps_match text given opens (end_of_walk text graph entry s0 n) (run s0 n) is are
      (λ a. code_stays.1 s0 n a ∙ fetches a) m.1 before m.0 (goes n live) live

pub walks_match : WalksMatch
walks_match text given opens entry s0 n is fetches begins are goes =
    matches text given opens entry s0 is fetches begins are goes n
