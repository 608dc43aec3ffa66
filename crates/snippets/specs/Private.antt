-- What only contracts of private functions and models cite.
use Rattle.std.specs.Prelude.{◌≤◌, ◌-◌, List, ◌++◌, length, replicate}
use Rattle.snippets.specs.declared.snippet.Op.{Op}
use Rattle.snippets.specs.declared.snippet.Op.TheVariants.{Log}
use Rattle.snippets.specs.declared.snippet.Snippet.TheInside.{Inside}
use Rattle.snippets.specs.Code.{filler}

-- a ring has at most 16 bits
abbrev pub HasRing : Op → Type 0
HasRing (Log cell bits value) = bits ≤ 16
HasRing op = Unit {0}

abbrev pub inside_of : List Op → Inside
inside_of ops = record { ops = ops ++ replicate (8 - length ops) filler; count = length ops }
