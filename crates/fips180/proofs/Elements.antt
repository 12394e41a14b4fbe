-- The numbers of the words of an array, one by one.
-- Assumes nothing.
use Rattle.std.proofs.Common.{◌≡◌, ℕ, ◌<◌, List, [], ◌∷◌, length, get_or, map, sym, arith}
use Rattle.std.proofs.lemmas.List.{get_or-map}

pub number_at : {W : Type 0} (f : W → ℕ) (w : List W) (i : ℕ) (d : W) → length w ≡ 16 → i < 16 → f (get_or w i d) ≡ get_or (map f w) i 0
number_at f w i d n h = sym (get_or-map f w i d 0 (omega arith))

-- sixteen words, one by one
pub same_words : {a b c d e f g h i j k l m n o p : ℕ} {a' b' c' d' e' f' g' h' i' j' k' l' m' n' o' p' : ℕ}
    → a ≡ a' → b ≡ b' → c ≡ c' → d ≡ d' → e ≡ e' → f ≡ f' → g ≡ g' → h ≡ h' → i ≡ i' → j ≡ j' → k ≡ k' → l ≡ l' → m ≡ m' → n ≡ n' → o ≡ o' → p ≡ p'
    → ◌≡◌ {A = List ℕ} (a ∷ b ∷ c ∷ d ∷ e ∷ f ∷ g ∷ h ∷ i ∷ j ∷ k ∷ l ∷ m ∷ n ∷ o ∷ p ∷ []) (a' ∷ b' ∷ c' ∷ d' ∷ e' ∷ f' ∷ g' ∷ h' ∷ i' ∷ j' ∷ k' ∷ l' ∷ m' ∷ n' ∷ o' ∷ p' ∷ [])
same_words e0 e1 e2 e3 e4 e5 e6 e7 e8 e9 e10 e11 e12 e13 e14 e15 = cc
