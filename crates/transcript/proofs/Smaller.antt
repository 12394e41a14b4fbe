-- With both carried SHA-256's room is the smaller one.
-- Assumes nothing.
use borrow.Author.Tests.{le-leb}
use Rattle.transcript.specs.Choice.Algorithm.{sha_256, sha_384}
use Rattle.transcript.specs.Allowance.{room_of, room, Room256IsSmaller}
use Rattle.transcript.specs.Laws.{room_of_lem}

pub room_256_is_smaller : Room256IsSmaller
unfolding room
room_256_is_smaller k m = rw (le-leb (room_of sha_256 k m) (room_of sha_384 k m) (room_of_lem k m))
