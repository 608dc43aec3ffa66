-- What contracts of this crate's code and laws cite beyond the statement.
use Rattle.std.specs.Prelude.{List, take, ◌≡◌, ◌≤◌, ◌-◌, length, drop, replicate, ℕ, ⊤, Result, Ok, Err}
use Rattle.snippets.specs.declared.snippet.Op.{Op}
use Rattle.snippets.specs.declared.snippet.Op.TheVariants.{Put}
use Rattle.snippets.specs.declared.snippet.Snippet.TheInside.{Inside}
use Rattle.snippets.specs.declared.script.ScriptFault.{ScriptFault}
use Rattle.snippets.specs.declared.script.ScriptFault.TheVariants as faults
use Rattle.snippets.specs.declared.line.Said.{Said}
use Rattle.snippets.specs.Scripts.{IsFirstFault, end_of, cell_end, snips_of, IsGood}
use Rattle.snippets.specs.declared.script.Script.{Script}

-- A snippet is the operations that stand first in its eight places; behind them stands the filler.

abbrev pub filler : Op
filler = Put 0 0

abbrev pub ops_in : Inside → List Op
ops_in inside = take inside.count inside.ops

pub record IsFilled (inside : Inside) : Type 0 where
  pub few : inside.count ≤ 8
  pub size : length inside.ops ≡ 8
  pub rest : drop inside.count inside.ops ≡ replicate (8 - inside.count) filler

-- want of memory may come at any time
abbrev pub IsFault : ℕ → List Said → ScriptFault → Type 0
IsFault edges said (faults.Line number) = IsFirstFault edges said (faults.Line number)
IsFault edges said (faults.Edge number) = IsFirstFault edges said (faults.Edge number)
IsFault edges said (faults.Cell number) = IsFirstFault edges said (faults.Cell number)
IsFault edges said (faults.Ops number) = IsFirstFault edges said (faults.Ops number)
IsFault edges said faults.NoMemory = ⊤

pub record IsScript (edges : ℕ) (said : List Said) (script : Script) : Type 0 where
  pub good : IsGood edges said
  pub snips : script.snips.items ≡ snips_of said
  pub cells : script.cells ≡ end_of cell_end said

abbrev pub Answers : ℕ → List Said → Result Script ScriptFault → Type 0
Answers edges said (Ok script) = IsScript edges said script
Answers edges said (Err fault) = IsFault edges said fault
