-- A Finished to the joined call, every other message to the accepting one.
-- Assumes nothing.
use mathlib.Core.Path.{sym, ◌∙◌}
use Rattle.message.specs.Frame.{kind_of}
use Rattle.listing.proofs.Taking.{finished_takes, other_takes}
use Rattle.listing.proofs.feed.take.Goals as goal

pub returns-then-byte-eq-FINISHED : goal.returns-then-byte-eq-FINISHED
unfolding kind_of
returns-then-byte-eq-FINISHED c = finished_takes _ _ _ (sym c.byte.ensures.0 ∙ c.if-byte-eq-FINISHED.true) c.finish.ensures

pub returns : goal.returns
unfolding kind_of
returns c = other_takes _ _ _ (λ e. c.if-byte-eq-FINISHED.false (c.byte.ensures.0 ∙ e)) c.accept.ensures
