use Rattle.std.specs.Prelude.{ℕ, ◌-◌, ◌^◌}

-- the bytes of an input
abbrev pub most_bytes : ℕ
most_bytes = 16777216

-- the start lines and operations of a bulk text, together
abbrev pub most_operations : ℕ
most_operations = 200000

-- the greatest value of a key, and the greatest number of 64 bits: it may be greater than any key
abbrev pub greatest_value : ℕ
greatest_value = 2 ^ 64 - 1

-- the own lines and events of a replay, together
abbrev pub most_lines : ℕ
most_lines = 200000
