-- What only contracts of private functions and models cite.
use Rattle.std.specs.Prelude.{Bool, false, true}
use Rattle.v8_memory.specs.declared.ops.OpCode.{OpCode}
use Rattle.v8_memory.specs.declared.ops.OpCode.TheVariants as c

-- a record that says something
abbrev pub is_record : OpCode → Bool
is_record c.Other = false
is_record _ = true
