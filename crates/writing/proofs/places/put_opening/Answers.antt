-- How both hellos begin, one field behind the other.
-- Assumes nothing.
use mathlib.Core.Path.{sym, ◌∙◌, ap}
use mathlib.Core.List.{List, [], ◌∷◌, ◌++◌}
use Prim.Native.Nat.{ℕ, ◌-◌}
use lib.ListN.{length-append}
use Rattle.hello.specs.Written.{two_bytes}
use Rattle.writing.specs.Messages.{vector8}
use Rattle.octets.specs.Placed.{placed}
use Rattle.octets.proofs.Placing.{placed_more}
use Rattle.writing.proofs.Listed.{three_small}
use native.Mathlib.Omega.{arith}
use Rattle.writing.proofs.places.put_opening.Goals as goal

pub returns : goal.returns
returns c =
    let a = c.args in
    let p = a.opening.now in
    let o = a.out.now in
    let n = a.size - 4 in
    let v = two_bytes p.version in
    let h = three_small n (omega (arith, c.requires)) in
    let w₁ = placed_more o 0 1 (a.kind ∷ []) (0 ∷ []) (omega (arith, c.requires)) (omega arith) c.put_byte.ensures.1 c.put_byte-2.ensures.1 in
    let w₂ = placed_more o 0 2 (a.kind ∷ 0 ∷ []) (two_bytes n) (omega (arith, c.requires)) (omega arith) w₁ c.put_pair.ensures.1 in
    let w₃ = placed_more o 0 4 (a.kind ∷ 0 ∷ two_bytes n) v (omega (arith, c.requires)) (omega arith) w₂ c.put_pair-2.ensures.1 in
    let w₄ = placed_more o 0 6 (a.kind ∷ 0 ∷ (two_bytes n ++ v)) p.random.now (omega (arith, c.requires)) (omega arith) w₃ c.put-at.ensures.1 in
    let k = length-append (a.kind ∷ 0 ∷ (two_bytes n ++ v)) p.random.now in
    let w₅ = placed_more o 0 c.put-at.result (a.kind ∷ 0 ∷ (two_bytes n ++ v ++ p.random.now)) (vector8 p.identifier.now) (omega (arith, c.requires, k)) (omega (arith, k, c.put-at.ensures.0)) w₄ c.put_vector.ensures.1 in
    (omega (arith, c.put_vector.ensures.0, c.put-at.ensures.0), w₅ ∙ ap (λ (l : List ℕ). placed o 0 ((a.kind ∷ l) ++ v ++ p.random.now ++ vector8 p.identifier.now)) (sym h))
