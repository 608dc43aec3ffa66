-- A snippet's places are told by its operations.
use Rattle.std.proofs.Common.{◌≡◌, ℕ, ◌-◌, ◌++◌, List, length, take, replicate, ap, ap₂, sym, ◌∙◌, arith}
use Rattle.std.proofs.lemmas.List.{length-take, take-append-drop}
use Rattle.snippets.specs.declared.snippet.Op.{Op}
use Rattle.snippets.specs.declared.snippet.Snippet.TheInside.{Inside}
use Rattle.snippets.specs.Code.{ops_in, IsFilled, filler}
use Rattle.snippets.specs.Private.{inside_of}

made : List Op → ℕ → Inside
made ops count = record { ops = ops; count = count }

pub inside_of-ops : (inside : Inside) → IsFilled inside → inside_of (ops_in inside) ≡ inside
unfolding made
inside_of-ops inside is =
    let few = is.few in
    let size = is.size in
    let taken = length-take inside.count inside.ops in
    let count : length (take inside.count inside.ops) ≡ inside.count = omega arith in
    let fill = ap (λ (n : ℕ). take inside.count inside.ops ++ replicate (8 - n) filler) count in
    let rest = ap (λ (ops : List Op). take inside.count inside.ops ++ ops) (sym is.rest) in
    ap₂ made (fill ∙ rest ∙ take-append-drop inside.count inside.ops) count
