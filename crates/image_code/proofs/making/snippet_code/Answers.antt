use Rattle.image_code.proofs.Sources.{source_is}
use Rattle.image_code.proofs.making.snippet_code.Goals as goal

pub lookups_of-requires : goal.lookups_of-requires
lookups_of-requires c = record {
  source = source_is c.len-words.ensures.text c.edges-edges.ensures.graph c.requires.graph;
}

pub invariant_of-maker-clause-found : goal.invariant_of-maker-clause-found
invariant_of-maker-clause-found c =
    ∣ record {
      source = source_is c.len-words.ensures.text c.edges-edges.ensures.graph c.requires.graph;
      lookups = c.in_ok-lookups.ensures;
    } ∣₁

pub returns-clause-found : goal.returns-clause-found
returns-clause-found c = record {
  source = source_is c.len-words.ensures.text c.edges-edges.ensures.graph c.requires.graph;
  lookups = c.in_ok-lookups.ensures;
}
