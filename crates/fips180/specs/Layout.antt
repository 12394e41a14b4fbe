-- How the code lays out the eight words; f is the number that a word is.
-- Assumes nothing.
use Rattle.std.specs.Prelude.{ℕ}
use Rattle.seqs.specs.Sha2.{Value}
use Rattle.fips180.specs.declared.words.Words.{Words}

abbrev pub value_of : {W : Type 0} → (W → ℕ) → Words W → Value
value_of f s = record { a = f s.a; b = f s.b; c = f s.c; d = f s.d; e = f s.e; f = f s.f; g = f s.g; h = f s.h }
