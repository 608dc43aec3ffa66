-- From the load of an entry to the jump of an open switch: the run stands at each word of the jump's block so many
-- steps after the comparison, and where the walk is at the block itself at the jump, it was so before.
use Rattle.switch_runs.proofs.Common.{◌≡◌, ℕ, zero, suc, ◌+◌, ◌<◌, ◌≤◌, true, false, List, length, Option, Some, None, ap, sym, ◌∙◌, arith, slice_index, ne_eqb, Words, word_at, Ending, Slot, NoSlot, State, run, below, holding_of, is_among, last_word, within, entered_of, Node, Open, Point, completed, end_of_walk, gone, node_after, point_of, unless_ended, block, is_held, lived_to, HasPassed, IsOpenSwitch, steps_to, ◌-◌, refl, ◌==◌, ◌*◌, lt-ltb, word_at-some, word_at-address, IsNumbered, LoadsEntry, number_in, GoesByTable, IsCaseBlock, JumpsGoByTable, StandsAt, StoodFrom, GoesIntoTable, slice_get}
use Rattle.switch_runs.proofs.Quiet.{stays}
use Rattle.switch_runs.proofs.Blocks.{no_transfer}
use Rattle.switch_runs.proofs.Known.{IsRun, Outside, b, graph, known_outside, list, moved, outside, parts, run_of}
use Rattle.switch_runs.proofs.Walking.{tells}
use Rattle.switch_runs.proofs.Numbered.{goes_by_number, numbered, stands_at}
use Rattle.switch_runs.proofs.CaseBlocks.{case_block, open_in, some_of}

module _ {text : Words} {given : List ℕ} {entry : ℕ} {opens : List Open} {s0 : State}
    (r : IsRun text given entry opens s0) (among : is_among given entry ≡ true) where
  abbrev walked : ℕ → Node
  walked n = end_of_walk text (graph r) entry s0 n

  -- the run is at a word, outside slots
  abbrev IsOn : ℕ → ℕ → Type 0
  IsOn n word = ((run s0 n).ending ≡ None) × ((run s0 n).slot ≡ NoSlot) × (word_at text (run s0 n).pc ≡ Some word)

  -- a word of a block before its last leaves the walk where it stands
  walk_stays : (n k word : ℕ) → IsOn n word → IsOn (suc n) (word + 1) → k < length (b r).firsts
      → slice_index (b r).firsts k ≤ word → word < last_word (b r).firsts (b r).words k → walked (suc n) ≡ walked n
  unfolding end_of_walk
  walk_stays n k word on next within above inner =
      let node : Node = end_of_walk text (graph r) entry s0 n in
      let p : Point = point_of (run s0 n) in
      let q : Point = point_of (run s0 (suc n)) in
      ap (λ (x : Option Ending). node_after (graph r) node (gone text (graph r) node p (unless_ended x q))) next.0
      ∙ ap (λ (x : Slot). node_after (graph r) node (completed text (graph r) node p q x (run s0 (suc n)).slot)) on.1
      ∙ ap (λ (x : Slot). node_after (graph r) node (completed text (graph r) node p q NoSlot x)) next.1
      ∙ stays r n node out (rw same at (no_transfer text (b r) (parts r) k word within above inner)) (rw same at apart)
    where
      out : Outside r n (walked n)
      out = outside r n (walked n) (tells r among n on.0) next.0 on.1

      same : word ≡ out.on.word
      same = cc (on.2, out.on.at)

      apart : (word == last_word (b r).firsts (b r).words (holding_of (b r) word)) ≡ false
      apart =
          let held : holding_of (b r) word ≡ k = is_held (b r).words (b r).firsts (parts r).firsts word k
          (record { within = within; above = above; below = omega arith }) in
          rw held (ne_eqb word (last_word (b r).firsts (b r).words k) (λ e. omega arith))

  module _ (o : Open) (is : IsOpenSwitch text (list r) entry o) (n load : ℕ)
      (at : StandsAt text (graph r) entry s0 o.block n o.approach.jump)
      (passed : HasPassed text o is.cond s0 n (steps_to o o.approach.jump)) (l : LoadsEntry text o load)
      (above : o.approach.first ≤ load) (below : load ≤ o.approach.jump) where
    block_of : IsCaseBlock text (b r) o
    block_of = case_block text given entry r.is_text o is

    abbrev start : ℕ
    start = passed.moment + steps_to o load

    abbrev steps : ℕ
    steps = o.approach.jump - load

    ago : n ≡ start + steps
    ago = omega (arith, passed.ago, above, below)

    on : (j : ℕ) → j ≤ steps → IsOn (start + j) (load + j)
    on j l =
        let live = lived_to s0 (start + j) n (omega (arith, ago, l)) at.live in
        let stands = stands_at r o is (start + j) (load + j) live
        (moved passed (start + j) (steps_to o (load + j)) (omega (arith, passed.ago, above))) (omega (arith, above))
        (omega (arith, below, l)) in
        let low : load + j < length text.words = omega (arith, below, l, block_of.behind) in
        (live, stands.slot, ap (word_at text) stands.pc ∙ word_at-address text (load + j) ∙ rw (lt-ltb _ _ low))

    -- where the walk ends at the block itself, it stood there before
    itself : (left j : ℕ) → j + left ≡ steps → walked (start + j) ≡ block o.block
    itself zero j e = let same : n ≡ start + j = omega (arith, ago, e) in rw same at at.itself
    itself (suc left) j e =
        let f : start + suc j ≡ suc (start + j) = omega arith in
        let g : load + suc j ≡ load + j + 1 = omega arith in
        sym (walk_stays (start + j) o.block (load + j) (on j (omega (arith, e)))
        (rw f at (rw g at (on (suc j) (omega (arith, e))))) block_of.within (omega (arith, above, block_of.first))
        (omega (arith, block_of.last, e))) ∙ rw f at (itself left (suc j) (omega (arith, e)))

    stood : StoodFrom text (graph r) entry s0 o.block start load steps
    stood j l =
        let there = on j l in
        record { live = there.0; outside = there.1; itself = itself (steps - j) j (omega (arith, l)); at = there.2 }

    abbrev number : ℕ
    number = number_in o s0 passed.moment

    goes : GoesIntoTable text o.switch number (run s0 n)
    goes = goes_by_number r o is n o.approach.jump at.live passed refl

    -- at the load the comparison was made at the same moment
    loaded : IsNumbered text o s0 start load number
    loaded =
        numbered r o is start load (lived_to s0 start n (omega (arith, ago)) at.live)
        (moved passed start (steps_to o load) (omega (arith, passed.ago))) above below

    goes_by_table : GoesByTable text (graph r) entry s0 o n load l
    goes_by_table =
        let to = some_of (word_at text (run s0 (suc n)).npc) goes.inside in
        let target : slice_get o.targets number ≡ Some to.0 =
        cc (block_of.targets number goes.below, entry_is, goes.goes, to.1) in
        search (ago, stood, (loaded.loads l).1, goes, to.1)
      where
        entry_is : goes.entry ≡ block_of.table.begins + number
        entry_is =
            let here = word_at-some text o.switch.table.0 block_of.table.begins block_of.table.at in
            omega (arith, here.is, (word_at-some text (o.switch.table.0 + 4 * number) goes.entry goes.is).is)

pub jumps_go_by_table : JumpsGoByTable
unfolding entered_of
jumps_go_by_table text given entry s0 is_text valid fetches holds begins among o contains n load l at above below =
    let r = run_of text given entry s0 is_text valid fetches holds begins in
    let is = open_in (IsOpenSwitch text (entered_of text given) entry) _ o r.all contains in
    let known = known_outside r n (walked r among n) (tells r among n at.live) at.outside in
    goes_by_table r among o is n load at (known.1 o contains is at.itself o.approach.jump at.at) l above below
