-- The editor's page: the last one of the address space, where its code keeps words meanwhile.
use Rattle.std.specs.Prelude.{ℕ, ◌+◌, ◌*◌}

abbrev pub page : ℕ
page = 0xfffff000

-- the address of its word n
abbrev pub page_word : ℕ → ℕ
page_word n = page + 4 * n
