-- The label and the seed's length are those of its RFC, with the stated hash.
-- Assumes nothing.
use Rattle.prf.specs.Secrets.{extended_master_secret}
use Rattle.prf.proofs.secrets.extended_master_secret.Goals as goal

pub returns-then-sha384 : goal.returns-then-sha384
unfolding extended_master_secret
returns-then-sha384 c = rw (c.if-sha384.true, c.of.ensures) c.derive.ensures

pub returns : goal.returns
unfolding extended_master_secret
returns c = rw (c.if-sha384.false, c.of-2.ensures) c.derive-2.ensures
