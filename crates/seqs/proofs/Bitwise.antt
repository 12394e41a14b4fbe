-- Ch and Maj of FIPS 180-4 by fewer operations, over the word's width.
-- Assumes nothing.
use mathlib.Core.Path.{◌≡◌, refl, sym, ◌∙◌, ap, ap₂}
use Prim.Native.Nat.{ℕ, zero, suc, ◌-◌, ◌*◌, ◌/◌, ◌%◌, ◌^◌, ◌<◌}
use native.Mathlib.Nat.{pow-suc}
use native.Mathlib.Omega.{arith}
use lib.Bits.{bit_and, bit_xor, and_shr, and_mod, xor_shr, xor_mod}

-- a law of three digits, by its eight cases
abbrev Law : Type 1
Law = ℕ → ℕ → ℕ → Type 0

digits : (P : Law) → P 0 0 0 → P 0 0 1 → P 0 1 0 → P 0 1 1 → P 1 0 0 → P 1 0 1 → P 1 1 0 → P 1 1 1
    → (a b c : ℕ) → a < 2 → b < 2 → c < 2 → P a b c
digits P p q r s t u v w zero zero zero x y z = p
digits P p q r s t u v w zero zero (suc zero) x y z = q
digits P p q r s t u v w zero (suc zero) zero x y z = r
digits P p q r s t u v w zero (suc zero) (suc zero) x y z = s
digits P p q r s t u v w (suc zero) zero zero x y z = t
digits P p q r s t u v w (suc zero) zero (suc zero) x y z = u
digits P p q r s t u v w (suc zero) (suc zero) zero x y z = v
digits P p q r s t u v w (suc zero) (suc zero) (suc zero) x y z = w
digits P p q r s t u v w (suc (suc a)) b c x y z = absurd (omega arith)
digits P p q r s t u v w zero (suc (suc b)) c x y z = absurd (omega arith)
digits P p q r s t u v w (suc zero) (suc (suc b)) c x y z = absurd (omega arith)
digits P p q r s t u v w zero zero (suc (suc c)) x y z = absurd (omega arith)
digits P p q r s t u v w zero (suc zero) (suc (suc c)) x y z = absurd (omega arith)
digits P p q r s t u v w (suc zero) zero (suc (suc c)) x y z = absurd (omega arith)
digits P p q r s t u v w (suc zero) (suc zero) (suc (suc c)) x y z = absurd (omega arith)

-- numbers with equal halves and equal last digits are equal
halves : {m n : ℕ} → m / 2 ≡ n / 2 → m % 2 ≡ n % 2 → m ≡ n
halves h o = omega arith

choice_digit : (a b c : ℕ) → a < 2 → b < 2 → c < 2 → bit_xor c (bit_and a (bit_xor b c)) ≡ bit_xor (bit_and a b) (bit_and (1 - a) c)
choice_digit = digits (λ a b c. bit_xor c (bit_and a (bit_xor b c)) ≡ bit_xor (bit_and a b) (bit_and (1 - a) c)) refl refl refl refl refl refl refl refl

-- 'Ch(x, y, z) = (x ∧ y) ⊕ (¬x ∧ z)' is z ⊕ (x ∧ (y ⊕ z))
pub choice : (k x y z : ℕ) → x < 2 ^ k → y < 2 ^ k → z < 2 ^ k
    → bit_xor z (bit_and x (bit_xor y z)) ≡ bit_xor (bit_and x y) (bit_and (2 ^ k - 1 - x) z)
choice zero zero zero zero p q r = refl
choice zero (suc x) y z p q r = absurd (omega arith)
choice zero zero (suc y) z p q r = absurd (omega arith)
choice zero zero zero (suc z) p q r = absurd (omega arith)
choice (suc k) x y z p q r =
    let e : 2 ^ suc k ≡ 2 ^ k * 2 = pow-suc 2 k in
    let n : (2 ^ suc k - 1 - x) / 2 ≡ 2 ^ k - 1 - x / 2 = omega arith in
    let o : (2 ^ suc k - 1 - x) % 2 ≡ 1 - x % 2 = omega arith in
    halves
    (xor_shr z (bit_and x (bit_xor y z)) 1 ∙ ap (bit_xor (z / 2)) (and_shr x (bit_xor y z) 1 ∙ ap (bit_and (x / 2)) (xor_shr y z 1))
    ∙ choice k (x / 2) (y / 2) (z / 2) (omega arith) (omega arith) (omega arith)
    ∙ ap₂ bit_xor (sym (and_shr x y 1)) (ap (λ (i : ℕ). bit_and i (z / 2)) (sym n) ∙ sym (and_shr (2 ^ suc k - 1 - x) z 1))
    ∙ sym (xor_shr (bit_and x y) (bit_and (2 ^ suc k - 1 - x) z) 1))
    (xor_mod z (bit_and x (bit_xor y z)) 1 ∙ ap (bit_xor (z % 2)) (and_mod x (bit_xor y z) 1 ∙ ap (bit_and (x % 2)) (xor_mod y z 1))
    ∙ choice_digit (x % 2) (y % 2) (z % 2) (omega arith) (omega arith) (omega arith)
    ∙ ap₂ bit_xor (sym (and_mod x y 1)) (ap (λ (i : ℕ). bit_and i (z % 2)) (sym o) ∙ sym (and_mod (2 ^ suc k - 1 - x) z 1))
    ∙ sym (xor_mod (bit_and x y) (bit_and (2 ^ suc k - 1 - x) z) 1))

majority_digit : (a b c : ℕ) → a < 2 → b < 2 → c < 2
    → bit_xor b (bit_and (bit_xor a b) (bit_xor b c)) ≡ bit_xor (bit_xor (bit_and a b) (bit_and a c)) (bit_and b c)
majority_digit = digits (λ a b c. bit_xor b (bit_and (bit_xor a b) (bit_xor b c)) ≡ bit_xor (bit_xor (bit_and a b) (bit_and a c)) (bit_and b c)) refl refl refl refl refl refl refl refl

-- 'Maj(x, y, z) = (x ∧ y) ⊕ (x ∧ z) ⊕ (y ∧ z)' is y ⊕ ((x ⊕ y) ∧ (y ⊕ z))
pub majority : (k x y z : ℕ) → x < 2 ^ k → y < 2 ^ k → z < 2 ^ k
    → bit_xor y (bit_and (bit_xor x y) (bit_xor y z)) ≡ bit_xor (bit_xor (bit_and x y) (bit_and x z)) (bit_and y z)
majority zero zero zero zero p q r = refl
majority zero (suc x) y z p q r = absurd (omega arith)
majority zero zero (suc y) z p q r = absurd (omega arith)
majority zero zero zero (suc z) p q r = absurd (omega arith)
majority (suc k) x y z p q r =
    let e : 2 ^ suc k ≡ 2 ^ k * 2 = pow-suc 2 k in
    halves
    (xor_shr y (bit_and (bit_xor x y) (bit_xor y z)) 1 ∙ ap (bit_xor (y / 2)) (and_shr (bit_xor x y) (bit_xor y z) 1 ∙ ap₂ bit_and (xor_shr x y 1) (xor_shr y z 1))
    ∙ majority k (x / 2) (y / 2) (z / 2) (omega arith) (omega arith) (omega arith)
    ∙ ap₂ bit_xor (ap₂ bit_xor (sym (and_shr x y 1)) (sym (and_shr x z 1)) ∙ sym (xor_shr (bit_and x y) (bit_and x z) 1)) (sym (and_shr y z 1))
    ∙ sym (xor_shr (bit_xor (bit_and x y) (bit_and x z)) (bit_and y z) 1))
    (xor_mod y (bit_and (bit_xor x y) (bit_xor y z)) 1 ∙ ap (bit_xor (y % 2)) (and_mod (bit_xor x y) (bit_xor y z) 1 ∙ ap₂ bit_and (xor_mod x y 1) (xor_mod y z 1))
    ∙ majority_digit (x % 2) (y % 2) (z % 2) (omega arith) (omega arith) (omega arith)
    ∙ ap₂ bit_xor (ap₂ bit_xor (sym (and_mod x y 1)) (sym (and_mod x z 1)) ∙ sym (xor_mod (bit_and x y) (bit_and x z) 1)) (sym (and_mod y z 1))
    ∙ sym (xor_mod (bit_xor (bit_and x y) (bit_and x z)) (bit_and y z) 1))
