-- A message by itself: which number it has and where it broke, and what is known of one that is not refused.
-- Assumes nothing.
use mathlib.Core.Path.{◌≡◌, refl, sym, ◌∙◌, ap, ap₂}
use mathlib.Core.Bool.{Bool, true, false, not}
use mathlib.Core.List.{List, [], ◌∷◌}
use Prim.Native.Nat.{ℕ, ◌≤◌}
use native.Mathlib.Omega.{arith}
use lib.Dec.{ltb}
use lib.ListN.{length}
use borrow.Author.Tests.{ltb-true, ltb-false, not-true, not-false}
use Rattle.seqs.specs.Pick.{pick}
use Rattle.refusal.specs.First.{first_of}
use Rattle.refusal.proofs.First.{first_front}
use Rattle.message.specs.Frame.{overlong, cut_off, misstated, header_place, frame_number, framed}
use Rattle.message_log.specs.Calls.{wrong_body, misshapen, shape_number, broken_at}
use Rattle.refusal.specs.Table.{refusal_at}
use Rattle.std.proofs.Common.{Ok, Err}
use Rattle.message.specs.declared.header.Header.{Header}
use Rattle.refusal.specs.Reason.{refusal_for}
use Rattle.refusal.specs.declared.reason.Reason.{Reason}
use Rattle.refusal.specs.declared.reason.Reason.TheVariants.{Malformed}
use Rattle.message.proofs.Frames.{whole_learnt, refused_learnt, stated_long}
use Rattle.message_log.specs.Steps.{Judges}
use Rattle.refusal.specs.Listed.{anywhere, number_at, numbered}
use Rattle.seqs.specs.Cases.{by_test, or_left}

module _ (m : List ℕ) where
  by_tests : (a b c : Bool) → overlong m ≡ a → misstated m ≡ b → misshapen m ≡ c → shape_number m ≡ pick a 10 (pick b 1 (pick c 1 0))
  unfolding shape_number first_of
  by_tests a b c p q r = rw (p, q, r)

  pub shape_most : shape_number m ≤ 10
  shape_most = go (overlong m) (misstated m) (misshapen m) refl refl refl
    where
      go : (a b c : Bool) → overlong m ≡ a → misstated m ≡ b → misshapen m ≡ c → shape_number m ≤ 10
      go true b c p q r = omega (arith, by_tests true b c p q r)
      go false true c p q r = omega (arith, by_tests false true c p q r)
      go false false true p q r = omega (arith, by_tests false false true p q r)
      go false false false p q r = omega (arith, by_tests false false false p q r)

  -- the number of a header that is refused, and of one that is read
  pub shape_refused : (frame_number m ≡ 0 → ⊥) → shape_number m ≡ frame_number m
  unfolding frame_number shape_number
  shape_refused z = first_front ((10, overlong m) ∷ (1, misstated m) ∷ []) _ z

  pub shape_whole : overlong m ≡ false → misstated m ≡ false → shape_number m ≡ pick (misshapen m) 1 0
  shape_whole p q = by_tests false false (misshapen m) p q refl

  -- a message that is not refused by itself
  pub record Fine : Type 0 where
    pub short : overlong m ≡ false
    pub stated : misstated m ≡ false
    pub shaped : misshapen m ≡ false
    pub longest : length m ≤ 16388
    pub shortest : 4 ≤ length m

  fine_of : overlong m ≡ false → misstated m ≡ false → misshapen m ≡ false → Fine
  unfolding overlong
  fine_of p q r =
      record {
        short = p;
        stated = q;
        shaped = r;
        longest = ltb-false 16388 (length m) p;
        shortest = stated_long m q;
      }

  pub fine : shape_number m ≡ 0 → Fine
  fine e = go (overlong m) (misstated m) (misshapen m) refl refl refl
    where
      go : (a b c : Bool) → overlong m ≡ a → misstated m ≡ b → misshapen m ≡ c → Fine
      go true b c p q r = absurd (omega (arith, by_tests true b c p q r))
      go false true c p q r = absurd (omega (arith, by_tests false true c p q r))
      go false false true p q r = absurd (omega (arith, by_tests false false true p q r))
      go false false false p q r = fine_of p q r

  -- the judgement of one that has a type
  pub well_shaped : (k : ℕ) → Judges m (Ok k) → shape_number m ≡ 0
  well_shaped k jd = sym (number_at (shape_number m) (broken_at m)) ∙ numbered 0 (refusal_at (shape_number m) (broken_at m)) (sym jd.refusal)

  -- where it broke: a place of one digit, and that of the length where the header is whole
  pub broken_within : broken_at m ≤ 3
  unfolding header_place cut_off
  broken_within =
      by_test (ltb (length m) 4) (λ t. rw t (omega (arith, ltb-true (length m) 4 t))) (λ t. rw t (omega arith))

  broken_stated : misstated m ≡ false → broken_at m ≡ 1
  unfolding misstated header_place
  broken_stated q = rw (or_left (cut_off m) _ q)

  -- the judgement by the header
  pub judge_refused : (r : Reason) → framed m ≡ Err (refusal_for r) → Judges m (Err r)
  judge_refused r e =
      let l = refused_learnt m (refusal_for r) e in
      record { refusal = l.0 ∙ ap (λ (n : ℕ). refusal_at n (broken_at m)) (sym (shape_refused l.1)); kind = tt }

  module _ (h : Header) (e : framed m ≡ Ok h) where
    by_body : shape_number m ≡ pick (wrong_body h.kind h.length) 1 0
    unfolding misshapen
    by_body =
        let l = whole_learnt m h e in
        rw (l.kind, l.size, ← l.body) (shape_whole l.short l.stated)

    module _ (b : Bool) (f : b ≡ not (wrong_body h.kind h.length)) where
      pub judge_right : b ≡ true → Judges m (Ok h.kind)
      judge_right g =
          let n : shape_number m ≡ 0 = by_body ∙ (rw (not-true (wrong_body h.kind h.length) (sym f ∙ g))) in
          record { refusal = anywhere 0 (broken_at m) refl ∙ ap (λ (x : ℕ). refusal_at x (broken_at m)) (sym n); kind = (whole_learnt m h e).kind }

      -- 'A Finished or type 0 body of wrong length gives 1, the place of the length.'
      pub judge_wrong : b ≡ false → Judges m (Err (Malformed 1))
      judge_wrong g =
          let n : shape_number m ≡ 1 = by_body ∙ (rw (not-false (wrong_body h.kind h.length) (sym f ∙ g))) in
          record { refusal = ap₂ refusal_at (sym n) (sym (broken_stated (whole_learnt m h e).stated)); kind = tt }
