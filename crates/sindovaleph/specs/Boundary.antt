-- The version of the boundary to programs in Rust and in C.
-- Assumes nothing.
use Rattle.std.specs.Prelude.{ℕ}

-- counted up whenever a struct or a function that crosses is added, changed or taken away
abbrev pub version : ℕ
version = 5
