-- Turn by turn: before each the ring is W(16 * turn) to W(16 * turn + 15).
-- Assumes nothing.
use Rattle.std.proofs.Common.{◌≡◌, ℕ, ◌*◌, ◌≤◌, List, map}
use Rattle.seqs.specs.Sha2.{schedule, rounds}
use Rattle.seqs.specs.Ring.{Ring}
use Rattle.fips180.specs.Layout.{value_of}
use Rattle.fips180.proofs.words.Words.all_rounds.Given as goal

abbrev pub invariant-loop-turn : goal.invariant-loop-turn
invariant-loop-turn g l =
    let F = g.W.Word.kind in
    let n = g.W.Word.number in
    (b : List ℕ) → Ring F (map n l.initial.w) b 0
    → (16 * l.turn ≤ F.more → Ring F (map n l.w) b (16 * l.turn))
    × (value_of n l.v ≡ rounds F (16 * l.turn) (value_of n l.initial.v) (schedule F F.more b))
