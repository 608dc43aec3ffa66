-- What only contracts of private functions and models cite.
use Rattle.std.specs.Prelude.{ℕ, ◌+◌, ◌-◌, ◌/◌, ◌^◌}
use Rattle.eel_base.specs.CodeText.{Words}
use Rattle.addr_translate.specs.Table.{last_byte}
use Rattle.addr_translate.specs.Halves.{first_half}

abbrev pub halves : Words → ℕ
halves t = last_byte t / 2 ^ 16 - first_half t + 1
