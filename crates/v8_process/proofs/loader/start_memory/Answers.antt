use Rattle.v8_process.proofs.Common.{◌∷◌, map, ap, ◌∙◌, mapping_of_plan, texts, program_name}
use Rattle.v8_process.proofs.Loading.{plans-mapped, plans-apart, plans-fit, plans-made}
use Rattle.v8_process.proofs.loader.start_memory.Goals as goal

pub new-requires : goal.new-requires
new-requires c =
    let file = c.args.bytes.now in
    let all = program_name ∷ texts c.args.args.now in
    let are =
    plans-mapped file all c.deref.result.now c.deref-2.result.now c.deref-3.result.now
    (c.deref.ensures.value ∙ c.in_ok-segments.ensures)
    (c.deref-2.ensures.value ∙ c.in_ok-stack.ensures.bytes)
    (ap (map mapping_of_plan) c.deref-3.ensures.value ∙ c.in_ok-plans.ensures) in
    record {
      plans = plans-fit file all c.deref-3.result.now are c.requires.loads c.requires.fits;
      apart = plans-apart file all c.deref-3.result.now are c.requires.loads;
    }

pub returns : goal.returns
returns c =
    let file = c.args.bytes.now in
    let all = program_name ∷ texts c.args.args.now in
    c.in_ok-memory.ensures
    ∙ plans-made file all c.deref-3.result.now
    (plans-mapped file all c.deref.result.now c.deref-2.result.now c.deref-3.result.now
    (c.deref.ensures.value ∙ c.in_ok-segments.ensures)
    (c.deref-2.ensures.value ∙ c.in_ok-stack.ensures.bytes)
    (ap (map mapping_of_plan) c.deref-3.ensures.value ∙ c.in_ok-plans.ensures))
    c.requires.fits
