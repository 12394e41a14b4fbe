-- How the code lays out the eight words.
-- Assumes nothing.
use Rattle.seqs.specs.Sha2.{Value}
use Rattle.sha384.specs.declared.compress.State384.{State384}

abbrev pub value_of : State384 → Value
value_of s = record { a = s.a; b = s.b; c = s.c; d = s.d; e = s.e; f = s.f; g = s.g; h = s.h }
