-- The bytes of a list of extensions are its extensions.
-- Assumes nothing.
use mathlib.Core.Path.{◌≡◌, refl, ◌∙◌}
use mathlib.Core.Bool.{true, not, false≢true}
use mathlib.Core.List.{List}
use Prim.Native.Nat.{ℕ}
use native.Mathlib.Omega.{arith}
use lib.ListN.{length, drop, length-drop}
use Rattle.hello.specs.Layout.{Parse, malformed, parsed, from}
use Rattle.hello.specs.Extensions.{Extension, list_of, extensions_of}
use Rattle.hello.specs.Fields.{is_malformed}
use Rattle.hello.specs.Cuts.{parsed_at, well_formed_at, list_in, list_at}
use Rattle.hello.proofs.Lists.{fuel}

pub list_bytes : (m : List ℕ) (i : ℕ) → well_formed_at m i ≡ true → extensions_of (from m i) ≡ parsed (list_at m i)
unfolding extensions_of parsed_at well_formed_at list_at
list_bytes m i w = fuel (length (drop i m)) (length m) (from m i) (omega arith) (rw length-drop (omega arith)) ∙ go (list_of (length m) (from m i)) w
  where
    go : (p : Parse (List Extension)) → not (is_malformed p) ≡ true → p ≡ parsed (list_in p)
    go (malformed p) e = absurd (false≢true e)
    go (parsed es) e = refl
