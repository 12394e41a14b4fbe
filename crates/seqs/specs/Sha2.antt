-- SHA-2 of 32-bit and of 64-bit words: one block into the hash value (FIPS 180-4, sections 6.2.2 and 6.4.2, which differ in the word's
-- width, four functions, the constants and the number of rounds alone). What differs is a parameter, so every hash of the two
-- kinds shares the definition.
-- Assumes nothing.
use Rattle.std.specs.Prelude.{List, [], ◌∷◌, ◌++◌, ℕ, zero, suc, ◌+◌, get_or}
use Rattle.seqs.specs.Words.{big, words_of}
use Rattle.seqs.specs.Operations.{add, ch, maj}

-- 'the eight working variables, a, b, c, d, e, f, g, and h'; and the hash value H(i), whose words H0 to H7 stand in their places
pub record Value : Type 0 where
  pub a : ℕ
  pub b : ℕ
  pub c : ℕ
  pub d : ℕ
  pub e : ℕ
  pub f : ℕ
  pub g : ℕ
  pub h : ℕ

-- What differs: the word's width in bits and in bytes, the functions of section 4.1.2 or 4.1.3, the constants of 4.2.2 or 4.2.3, and how
-- many words of the message schedule follow the block's own sixteen. There is a round for each word of the schedule.
pub record Sha2 : Type 0 where
  pub width : ℕ
  pub bytes : ℕ
  pub Σ0 : ℕ → ℕ
  pub Σ1 : ℕ → ℕ
  pub σ0 : ℕ → ℕ
  pub σ1 : ℕ → ℕ
  pub ks : List ℕ
  pub more : ℕ

module _ (F : Sha2) where
  -- W(t) of W(t - 16), W(t - 15), W(t - 7) and W(t - 2): σ1(W(t - 2)) + W(t - 7) + σ0(W(t - 15)) + W(t - 16)
  unfoldable pub next : ℕ → ℕ → ℕ → ℕ → ℕ
  next w16 w15 w7 w2 = add F.width (add F.width (add F.width (F.σ1 w2) w7) (F.σ0 w15)) w16

  -- 'Prepare the message schedule': the block's 16 words, and n more
  unfoldable pub schedule : ℕ → List ℕ → List ℕ
  schedule zero block = words_of big F.bytes 16 block
  schedule (suc n) block =
      schedule n block
      ++ (next (get_or (schedule n block) n 0) (get_or (schedule n block) (n + 1) 0) (get_or (schedule n block) (n + 9) 0) (get_or (schedule n block) (n + 14) 0) ∷ [])

  -- T1 = h + Σ1(e) + Ch(e, f, g) + K(t) + W(t), T2 = Σ0(a) + Maj(a, b, c), and the eight words that follow
  unfoldable pub round_of : Value → ℕ → ℕ → Value
  round_of s k w =
      let t1 = add F.width (add F.width (add F.width (add F.width s.h (F.Σ1 s.e)) (ch F.width s.e s.f s.g)) k) w in
      let t2 = add F.width (F.Σ0 s.a) (maj s.a s.b s.c) in
      record { a = add F.width t1 t2; b = s.a; c = s.b; d = s.c; e = add F.width s.d t1; f = s.e; g = s.f; h = s.g }

  -- the first t rounds, over the words ws
  unfoldable pub rounds : ℕ → Value → List ℕ → Value
  rounds zero s ws = s
  rounds (suc t) s ws = round_of (rounds t s ws) (get_or F.ks t 0) (get_or ws t 0)

  -- 'Compute the ith intermediate hash value'
  unfoldable pub plus : Value → Value → Value
  plus s v =
      record {
        a = add F.width s.a v.a;
        b = add F.width s.b v.b;
        c = add F.width s.c v.c;
        d = add F.width s.d v.d;
        e = add F.width s.e v.e;
        f = add F.width s.f v.f;
        g = add F.width s.g v.g;
        h = add F.width s.h v.h;
      }

  unfoldable pub step : Value → List ℕ → Value
  step s block = plus s (rounds (F.more + 16) s (schedule F.more block))
