-- Either hash that a suite states is lawful.
-- Assumes nothing.
use mathlib.Core.Bool.{Bool, true, false}
use Rattle.prf.specs.Hash.{hash_by, Lawful}
use Rattle.prf.specs.Lawful.{sha256_lawful, sha384_lawful}

pub lawful : (b : Bool) → Lawful (hash_by b)
lawful true = sha384_lawful
lawful false = sha256_lawful
