use Rattle.v8_process.proofs.Common.{◌≡◌, ◌++◌, map, drop, mapping_of_plan, segment_mapping}
use Rattle.v8_process.proofs.loader.region_plans.Given as goal

abbrev pub invariant-loop-segment : goal.invariant-loop-segment
invariant-loop-segment l =
    let left = drop l.segment-index l.segments in
    map mapping_of_plan l.plans.items ++ map (segment_mapping l.file) left ≡ map (segment_mapping l.file) l.segments
