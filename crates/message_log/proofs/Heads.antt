-- A message that is accepted, by its first four bytes and its length: what the single call judges before it takes anything.
-- Assumes nothing.
use mathlib.Core.Path.{◌≡◌, refl, sym, ◌∙◌, ap}
use mathlib.Core.Bool.{Bool, true, false, not, ◌||◌}
use mathlib.Core.List.{List, [], ◌∷◌, ◌++◌}
use Prim.Native.Nat.{ℕ, ◌≤◌, ◌<◌}
use native.Mathlib.Omega.{arith}
use lib.Dec.{eqb}
use lib.ListN.{length, take, drop, get_or, length-drop}
use lib.Seq.{get_or-take}
use borrow.Author.Tests.{eqb-true, eqb-false, ne_eqb, not-false}
use Rattle.refusal.specs.First.{first_of}
use Rattle.refusal.proofs.First.{first_zero}
use Rattle.message.specs.Numbers.{byte_at, pair_at, triple_at}
use Rattle.message.specs.Frame.{kind_of, body_of, overlong, cut_off, misstated}
use Rattle.message_log.specs.Told.{Told}
use Rattle.message_log.specs.Order.{turns, look, is_due}
use Rattle.message_log.specs.History.{History, tells, place_of}
use Rattle.message_log.specs.History.Beside.{told}
use Rattle.message_log.specs.Standing.Standing.{whole}
use Rattle.message_log.specs.Calls.{wrong_body, misshapen, shape_number, is_finished, out_of_turn, accept_number}
use Rattle.message_log.specs.Stands.{number, hash_number}
use Rattle.message_log.specs.Steps.{InTurn}
use Rattle.message_log.specs.declared.state.Turn.{Turn}
use Rattle.message_log.proofs.Messages.{fine}

-- bytes that follow do not change the type
pub kind_front : (a b : List ℕ) → 1 ≤ length a → kind_of (a ++ b) ≡ kind_of a
unfolding kind_of byte_at
kind_front [] b h = absurd (omega arith)
kind_front (x ∷ a) b h = refl

module _ (a b : List ℕ) (e : take 4 a ≡ take 4 b) where
  same_byte : (i : ℕ) → i < 4 → byte_at a i ≡ byte_at b i
  unfolding byte_at
  same_byte i h = sym (get_or-take 4 a i 0 h) ∙ ap (λ (l : List ℕ). get_or l i 0) e ∙ get_or-take 4 b i 0 h

  same_kind : kind_of a ≡ kind_of b
  unfolding kind_of
  same_kind = same_byte 0 (omega arith)

  same_stated : triple_at a 1 ≡ triple_at b 1
  unfolding triple_at pair_at
  same_stated = rw (same_byte 1 (omega arith), same_byte 2 (omega arith), same_byte 3 (omega arith))

  -- two messages of one header and one length are judged alike
  pub same_header : (h : History) (tell : Told) → length a ≡ length b → accept_number (whole h) a tell ≡ accept_number (whole h) b tell
  unfolding accept_number overlong misstated cut_off misshapen is_finished out_of_turn body_of
  same_header h tell n = rw (same_kind, same_stated, length-drop, length-drop, n)

-- what is known of a message that is accepted
module _ (h : History) (m : List ℕ) (tell : Told) (e : accept_number (whole h) m tell ≡ 0) where
  pub record Acceptable : Type 0 where
    pub shape : shape_number m ≡ 0
    pub other : kind_of m ≡ 20 → ⊥
    pub turn : out_of_turn h m tell ≡ false

  pub accepted_is : Acceptable
  unfolding accept_number shape_number is_finished first_of
  accepted_is =
      let none =
      first_zero
      ((10, overlong m) ∷ (1, misstated m) ∷ (1, misshapen m) ∷ (7, false) ∷ (7, is_finished m) ∷ (7, out_of_turn h m tell) ∷ [])
      refl e in
      record {
        shape = rw (none.0, none.1.0, none.1.1.0);
        other = eqb-false (kind_of m) 20 none.1.1.1.1.0;
        turn = none.1.1.1.1.1.0;
      }

  pub accepted_due : (kind_of m ≡ 0 → ⊥) → is_due (kind_of m) (turns tell.resumes (place_of h)) ≡ true
  unfolding out_of_turn
  accepted_due k = not-false _ (rw (ne_eqb (kind_of m) 0 k) at accepted_is.turn)

  pub accepted_turn : (turn : Turn) → turn.kind ≡ kind_of m → (turn.kind ≡ 0 → ⊥) → turn.place ≡ number (look (kind_of m) (turns tell.resumes (place_of h)))
      → turn.sha384 ≡ hash_number tell.hash → InTurn h m (told tell) turn
  unfolding tells
  accepted_turn turn c z q t =
      record { kind = c; hashed = z; place = q; told = t; due = accepted_due (λ x. z (c ∙ x)); size = (fine m accepted_is.shape).longest }

-- a HelloRequest is its header
pub request_length : (m : List ℕ) → shape_number m ≡ 0 → kind_of m ≡ 0 → length m ≡ 4
unfolding misshapen wrong_body body_of
request_length m e k =
    let f = fine m e in
    let n : not (eqb (length (drop 4 m)) 0) ≡ false = or_front (eqb (length (drop 4 m)) 0) (rw k at f.shaped) in
    omega (arith, f.shortest, eqb-true (length (drop 4 m)) 0 (not-false (eqb (length (drop 4 m)) 0) n), length-drop 4 m)
  where
    or_front : (b : Bool) → (not b || false) ≡ false → not b ≡ false
    or_front true q = refl
    or_front false q = q
