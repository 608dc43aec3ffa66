use Rattle.std.proofs.Common.{ap, sym, ◌∙◌, length}
use Rattle.eel_base.specs.CodeText.{Words}
use Rattle.cfg_blocks.specs.Entries.{Entered}
use Rattle.cfg_view.proofs.Views.{words_of}
use Rattle.cfg_view.proofs.parts_of.Goals as goal

pub blocks_of-requires : goal.blocks_of-requires
blocks_of-requires c = rw (c.list.ensures, c.text.ensures) c.in_ok-routines.ensures.inside

pub flow_of-requires : goal.flow_of-requires
flow_of-requires c =
    ap (λ (list : Entered). list.blocks.words) c.in_ok-blocks.ensures ∙ words_of _ _
    ∙ ap (λ (text : Words). length text.words) (c.text.ensures ∙ sym c.text-2.ensures)

pub returns-clause-blocks : goal.returns-clause-blocks
returns-clause-blocks c = rw (c.text.ensures, c.list.ensures, c.in_ok-routines.ensures.routines) at c.in_ok-blocks.ensures

pub returns-clause-graph : goal.returns-clause-graph
returns-clause-graph c = rw (c.text-2.ensures, c.entry.ensures.word) at c.in_ok-flow.ensures.graph

pub returns-clause-switches : goal.returns-clause-switches
returns-clause-switches c = rw (c.text-2.ensures, c.entry.ensures.word) at c.in_ok-flow.ensures.switches

pub returns-clause-tables : goal.returns-clause-tables
returns-clause-tables c = rw c.text-2.ensures at c.in_ok-flow.ensures.tables
