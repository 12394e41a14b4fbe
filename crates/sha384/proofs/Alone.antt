-- A running hash is one value for one message.
-- Assumes nothing.
use Rattle.std.proofs.Common.{◌≡◌, ℕ, List, ap, arith}
use Rattle.seqs.proofs.Taking.{one_value}
use Rattle.seqs.specs.Sha2.{Value}
use Rattle.sha384.specs.Layout.{value_of}
use Rattle.sha384.specs.Constants.{initial}
use Rattle.sha384.specs.Compress.{step}
use Rattle.sha384.specs.Running.{OneValue}
use Rattle.sha384.specs.declared.compress.State384.{State384}
use Rattle.sha384.specs.declared.running.Hash384.{Hash384}

-- the struct of eight words
abbrev pub state_of : Value → State384
state_of v = record { a = v.a; b = v.b; c = v.c; d = v.d; e = v.e; f = v.f; g = v.g; h = v.h }

-- the words are the struct
struct : {s z : State384} → value_of s ≡ value_of z → s ≡ z
struct e = ap state_of e

same : {s z : State384} {t u : List ℕ} {n k : ℕ} → s ≡ z → t ≡ u → n ≡ k
    → ◌≡◌ {A = Hash384} (record { state = s; tail = t; length = n }) (record { state = z; tail = u; length = k })
same p q r = cc

pub alone : OneValue
alone h g m p q =
    let (s, t, n) = one_value 128 (omega arith) step initial p.holds q.holds in
    same (struct s) t n
