-- The first hash value of SHA-384.
-- Assumes nothing.
use Rattle.seqs.specs.Sha2.{Value}

-- 'the initial hash value, H(0)' (section 5.3.4)
abbrev pub initial : Value
initial =
    record {
      a = 0xcbbb9d5dc1059ed8;
      b = 0x629a292a367cd507;
      c = 0x9159015a3070dd17;
      d = 0x152fecd8f70e5939;
      e = 0x67332667ffc00b31;
      f = 0x8eb44a8768581511;
      g = 0xdb0c2e0d64f98fa7;
      h = 0x47b5481dbefa4fa4;
    }
