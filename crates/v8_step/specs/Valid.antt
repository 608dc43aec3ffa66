-- What the state of a machine always is: its numbers fit their registers, and its bytes are bytes.
use Rattle.std.specs.Prelude.{◌≡◌, ◌^◌, ◌<◌, ◌≤◌, length}
use Rattle.std.specs.List.{All}
use Rattle.v8_memory.specs.Regions.{Region, Memory}
use Rattle.v8_memory.specs.Segments.{heap_start, heap_room}
use Rattle.v8_windows.specs.Registers.{windows}
use Rattle.v8_windows.specs.Code.{AreRegisters}
use Rattle.v8_step.specs.State.{State, AreBytes}

-- a region, all of whose bytes are mapped
pub record IsValidRegion (r : Region) : Type 0 where
  pub count : length r.bytes ≡ r.size
  pub bytes : AreBytes r.bytes

-- the heap, which has all of its room, and a part of it mapped
pub record IsValidHeap (r : Region) : Type 0 where
  pub start : r.start ≡ heap_start
  pub size : r.size ≤ heap_room
  pub count : length r.bytes ≡ heap_room
  pub bytes : AreBytes r.bytes

pub record IsValidMemory (m : Memory) : Type 0 where
  pub heap : IsValidHeap m.heap
  pub regions : All IsValidRegion m.regions

-- from one to seven windows are valid
pub record IsValid (s : State) : Type 0 where
  pub registers : AreRegisters s.registers
  pub pc : s.pc < 2 ^ 32
  pub npc : s.npc < 2 ^ 32
  pub y : s.y < 2 ^ 32
  pub window : s.window < windows
  pub some_valid : 1 ≤ s.valid
  pub most_valid : s.valid ≤ 7
  pub memory : IsValidMemory s.memory
  pub input : AreBytes s.input
