-- Points outside the text: an instruction there can't be fetched, and so the run ends.
use Rattle.v8_memory.specs.Spans.{IsApartFromAll}
use Rattle.two_runs.specs.Visits.{pages_of}
use Rattle.cfg_walk.specs.Walk.{Point}
use Rattle.image_code.specs.Simulates.{EditSetup}

-- the point lies outside the pages
abbrev pub IsOffPages : EditSetup → Point → Type 0
IsOffPages g x = IsApartFromAll (pages_of g.notes) (record { from = x.pc; count = 1 })
