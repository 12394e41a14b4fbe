-- The PRF of the suite's hash, over the hash of the log.
-- Assumes nothing.
use mathlib.Core.Path.{◌∙◌, ap}
use Rattle.transcript.specs.Choice.{algorithm_by}
use Rattle.transcript.specs.Choice.Algorithm.{sha_256, sha_384}
use Rattle.message_log.specs.History.{hashed, choice_of}
use Rattle.message_log.proofs.Finishing.{expected_by}
use Rattle.message_log.proofs.state.Log.value.Goals as goal

pub returns-then-is_sha384 : goal.returns-then-is_sha384
returns-then-is_sha384 c h s f =
    let a = c.is_sha384.ensures (choice_of h) (hashed h) s.hash ∙ ap algorithm_by c.if-is_sha384.true in
    expected_by h _ _ _ _ sha_384 c.verified.ensures f a (c.digest384.ensures (choice_of h) (hashed h) s.hash a)

pub returns : goal.returns
returns c h s f =
    let a = c.is_sha384.ensures (choice_of h) (hashed h) s.hash ∙ ap algorithm_by c.if-is_sha384.false in
    expected_by h _ _ _ _ sha_256 c.verified-2.ensures f a (c.digest256.ensures (choice_of h) (hashed h) s.hash a)
