use Rattle.std.proofs.Common.{◌<◌, length, ap, ◌∙◌}
use Rattle.std.proofs.lemmas.List.Elements.{All-weaker}
use Rattle.cfg_blocks.specs.Entries.{Entered}
use Rattle.cfg_blocks.specs.Marks.{numbers}
use Rattle.cfg_normal.specs.Code.{IsTableIn}
use Rattle.cfg_view.specs.View.{given_in}
use Rattle.cfg_view.proofs.Views.{view_is, words_of}
use Rattle.cfg_view.proofs.view_image.Goals as goal

pub returns-clause-view : goal.returns-clause-view
returns-clause-view c =
    let parts = c.in_ok-parts.ensures in
    view_is c.args.image (given_in c.args.image (numbers c.args.marks.now)) _ _ _ _ parts.routines parts.blocks parts.graph parts.switches

pub returns-clause-whole : goal.returns-clause-whole
returns-clause-whole c =
    let parts = c.in_ok-parts.ensures in
    record {
      routines = parts.routines;
      words = ap (λ (list : Entered). list.blocks.words) parts.blocks ∙ words_of _ _;
      graph = parts.graph;
      switches = parts.switches;
      tables = parts.tables;
      jumps = All-weaker (IsTableIn c.args.image.text) (λ switch. switch.jump.0 < length c.args.image.text.words)
          (λ switch table. table.jump) c.in_ok-parts.parts.2.1.items parts.tables;
      starts = parts.starts;
    }
