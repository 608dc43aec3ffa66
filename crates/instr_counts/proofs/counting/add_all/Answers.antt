use Rattle.instr_counts.proofs.Common.{◌≡◌, ℕ, ◌<◌, length, ap, ◌∙◌, arith, Graph}
use Rattle.std.proofs.lemmas.List.Elements.{All-from_get_or}
use Rattle.instr_counts.proofs.Adding.{finished_is}
use Rattle.instr_counts.proofs.counting.add_all.Goals as goal

pub add_to-requires : goal.add_to-requires
add_to-requires c other = omega (arith, c.add.ensures.small other, c.add_edges.ensures.small other)

pub returns-clause-visits : goal.returns-clause-visits
returns-clause-visits c =
    let v = c.args.v.now in
    let g = c.args.v.now.graph in
    let counts = c.args.counts.now in
    let words : g.blocks.words ≡ length v.image.text.words =
    ap (λ (g : Graph). g.blocks.words) c.requires.view.graph ∙ c.requires.view.words in
    let len = c.requires.len in
    let add_edges = c.add_edges.ensures.len in
    let add = c.add.ensures.len in
    let add_to = c.add_to.ensures.len in
    record {
      len = omega arith;
      each = λ word l.
          let inside : word < length c.args.visits.now = omega arith in
          let first = rw c.edges.ensures.edges at (c.add_edges.ensures.added word inside) in
          let second = rw c.entry.ensures.word at (c.add.ensures.added word (omega arith)) in
          let third = c.add_to.ensures.added word (omega arith) in
          let begun = (rw c.text.ensures at c.begun.ensures) word (omega arith) in
          let starts = c.entry.ensures.inside in
          let all = finished_is g c.edges.ensures.graph.firsts c.requires.matches.single counts v.image.entry word
          (omega arith) (omega arith) in
          omega (arith, first, second, third, begun, all);
    }

pub returns-clause-small : goal.returns-clause-small
returns-clause-small c =
    All-from_get_or (λ (count : ℕ). count < 1267650600228229401496703205376) c.add_to.new.visits 0
    (λ i l. omega (arith, c.add_to.ensures.small i, c.add.ensures.small i, c.add_edges.ensures.small i))
