-- The reply's bytes.
-- Assumes nothing.
use Rattle.std.proofs.Common.{◌≡◌, refl, ◌∙◌, ap, Bool, true, false, List, [], ◌∷◌, ◌++◌, ℕ, ◌+◌, ◌-◌, ◌/◌, ◌%◌, ◌≤◌, length, take, set, arith, length-append, append-nil, replicate, take_at, drop_at}
use borrow.Rule.Slice.PartMut.{put_mid}
use Rattle.std.proofs.Math.Seq.{take-set-lt}
use Rattle.decision.specs.Connection.{later}
use borrow.Author.Tests.{eq-eqb, ne_eqb}
use Rattle.seqs.specs.Pick.{pick}
use Rattle.hello.specs.Written.{written_list, written_block}
use Rattle.decision.specs.Reply.{reply_list, reply_of}
use Rattle.decision.specs.declared.connection.Connection.{Connection}

-- two values of 12 bytes, put one behind the other
pub halves : {x y : List ℕ} (a b : List ℕ) → length a ≡ 12 → x ≡ a → y ≡ b → put_mid 12 12 (x ++ replicate 12 0) y ≡ a ++ b
halves a b l p q = rw (p, q, take_at a (replicate 12 0) 12 l, drop_at a (replicate 12 0) 12 l) (ap (λ (z : List ℕ). a ++ z) (append-nil b))

-- RI of our side
module _ (c : Connection) where
  pub indication_first : c.completed ≡ 0 → written_list (reply_list c true false) ≡ 255 ∷ 1 ∷ 0 ∷ 1 ∷ 0 ∷ []
  unfolding written_list reply_list
  indication_first h = rw (eq-eqb c.completed 0 h)

  pub indication_later : length c.client ≡ 12 → length c.server ≡ 12 → (c.completed ≡ 0 → ⊥)
      → written_list (reply_list c true false) ≡ (255 ∷ 1 ∷ 0 ∷ 25 ∷ 24 ∷ []) ++ (c.client ++ c.server)
  unfolding written_list reply_list
  indication_later l m h =
      let n : length (c.client ++ c.server) ≡ 24 = simp length-append (omega arith) in
      rw (ne_eqb c.completed 0 h, n) (ap (λ (x : List ℕ). 255 ∷ 1 ∷ 0 ∷ 25 ∷ 24 ∷ x) (append-nil (c.client ++ c.server)))

  -- and EMS behind it
  both : (flag ems : Bool) → pick flag (written_list (reply_list c true false)) [] ++ pick ems (0 ∷ 23 ∷ 0 ∷ 0 ∷ []) [] ≡ written_list (reply_list c flag ems)
  unfolding written_list reply_list
  both true true = rw (append-nil (pick (later c) (c.client ++ c.server) []))
  both true false = append-nil (written_list (reply_list c true false))
  both false true = refl
  both false false = refl

  behind_length : (flag ems : Bool) → (flag ≡ false → ems ≡ false → ⊥) → reply_of c flag ems ≡ written_block (reply_list c flag ems)
  unfolding reply_of reply_list
  behind_length true e h = refl
  behind_length false true h = refl
  behind_length false false h = absurd (h refl refl)

  -- two bytes for the length, and the list behind them
  pub reply_done : (flag ems : Bool) (b : List ℕ) (n : ℕ) → (flag ≡ false → ems ≡ false → ⊥) → n ≤ 35
      → n ≡ 2 + length (pick flag (written_list (reply_list c true false)) [] ++ pick ems (0 ∷ 23 ∷ 0 ∷ 0 ∷ []) [])
      → take n b ≡ 0 ∷ 0 ∷ (pick flag (written_list (reply_list c true false)) [] ++ pick ems (0 ∷ 23 ∷ 0 ∷ 0 ∷ []) []) → take n (set b 1 (n - 2)) ≡ reply_of c flag ems
  unfolding written_block
  reply_done flag ems b n h k l e =
      let w = written_list (reply_list c flag ems) in
      let f : take n b ≡ 0 ∷ 0 ∷ w = rw (both flag ems) at e in
      let m : n ≡ 2 + length w = rw (both flag ems) at l in
      let d : n - 2 ≡ length w = omega arith in
      let x : length w / 256 ≡ 0 = omega arith in
      let y : length w % 256 ≡ length w = omega arith in
      rw (behind_length flag ems h, d, x, y) (take-set-lt n b 1 (length w) (omega arith) ∙ ap (λ (z : List ℕ). set z 1 (length w)) f)
