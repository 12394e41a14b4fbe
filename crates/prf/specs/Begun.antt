-- How large a hash value may be.
-- Assumes nothing.
use Rattle.std.specs.Prelude.{◌+◌, ◌<◌, ◌^◌, max}
use prog.Memory.{up, align, size}
use denote.RattleType.{RattleType}
use denote.Memory.{lone}

-- two of them, as a key has, take fewer than 2 ^ 63 bytes
abbrev pub PairFits : RattleType → Type 0
PairFits R =
    let a = align (lone R.mir) in
    let n = size (lone R.mir) in
    up (max a (max a 1)) (up a (up a 0 + n) + n) < 2 ^ 63
