-- The first hash value of SHA-256.
-- Assumes nothing.
use Rattle.seqs.specs.Sha2.{Value}

-- 'the initial hash value, H(0)' (section 5.3.3)
abbrev pub initial : Value
initial =
    record {
      a = 0x6a09e667;
      b = 0xbb67ae85;
      c = 0x3c6ef372;
      d = 0xa54ff53a;
      e = 0x510e527f;
      f = 0x9b05688c;
      g = 0x1f83d9ab;
      h = 0x5be0cd19;
    }
