-- The chain, over a lawful hash: A(i + 1) of A(i), one part more of the output, and the end of the output within the last part, each
-- part as the code puts it.
-- Assumes nothing.
use mathlib.Core.Path.{◌≡◌, sym, ◌∙◌, ap}
use mathlib.Core.List.{List, [], ◌++◌, append-nil, append_assoc}
use Prim.Native.Nat.{ℕ, suc, ◌+◌, ◌-◌, ◌*◌, ◌/◌, ◌%◌, ◌≤◌}
use native.Mathlib.Nat.{mul-suc, mul-zero, div-add-mod, mod-lt}
use native.Mathlib.Omega.{arith}
use borrow.Rule.Slice.PartMut.{put_mid}
use lib.ListN.{length, take, drop, drop_of_length-le}
use lib.Seq.{take_at, drop_at, drop-drop, take-append-add}
use Rattle.seqs.proofs.Taking.{blocks_of}
use Rattle.prf.specs.Hash.{HashFunction, Lawful}
use Rattle.prf.specs.Hmac.{hmac}
use Rattle.prf.specs.Prf.{A, expansion, parts, prf}
use Rattle.prf.specs.Keyed.{ChainedTo}
use Rattle.prf.proofs.Lengths.{length-expansion}

module _ {H : HashFunction} (L : Lawful H) (k seed entry : List ℕ) where
  pub chain_none : {a : List ℕ} → a ≡ hmac H k seed → ChainedTo H k seed 0 a entry entry
  unfolding A expansion
  chain_none h = record { last = h; out = rw (mul-zero H.width) }

  -- s put behind the first i parts, in the place of n bytes
  placed : {a mid : List ℕ} (i n : ℕ) (s : List ℕ) → ChainedTo H k seed i a entry mid
      → put_mid (H.width * i) n mid s ≡ (expansion H k seed i ++ s) ++ drop (H.width * i + n) entry
  placed {a} {mid} i n s h =
      let f = expansion H k seed i in
      let at = H.width * i in
      let l : length f ≡ at = length-expansion L k seed i in
      let t : take at mid ≡ f = ap (take at) h.out ∙ take_at f _ at l in
      let d : drop n (drop at mid) ≡ drop (at + n) entry =
      ap (λ (m : List ℕ). drop n (drop at m)) h.out ∙ ap (drop n) (drop_at f _ at l) ∙ drop-drop n at entry in
      rw (t, d) (sym (append_assoc f s (drop (at + n) entry)))

  -- the next part in its place
  pub chain_more : {a mid part a' p : List ℕ} (i n j : ℕ) → j ≡ suc i → n ≡ H.width → ChainedTo H k seed i a entry mid
      → part ≡ hmac H k (a ++ seed) → a' ≡ hmac H k a → p ≡ part → ChainedTo H k seed j a' entry (put_mid (H.width * i) n mid p)
  unfolding A expansion
  chain_more {a} {mid} {part} {a'} {p} i n j e w h f q x =
      let g = x ∙ f ∙ ap (λ (b : List ℕ). hmac H k (b ++ seed)) h.last in
      rw (e, w)
      (record {
        last = q ∙ ap (hmac H k) h.last;
        out = rw mul-suc (placed i H.width p h ∙ ap (λ (r : List ℕ). (expansion H k seed i ++ r) ++ drop (H.width * i + H.width) entry) g);
      })

-- n bytes are so many whole parts, and at least one byte of the part behind them
module _ {H : HashFunction} (L : Lawful H) (n : ℕ) (b : 1 ≤ n) where
  cut : n ≡ H.width * ((n - 1) / H.width) + ((n - 1) % H.width + 1)
  cut = omega (arith, div-add-mod (n - 1) H.width)

  pub rest_fits : n - H.width * ((n - 1) / H.width) ≤ H.width
  rest_fits = omega (arith, cut, mod-lt (n - 1) L.some)

  parts_cut : parts H n ≡ suc ((n - 1) / H.width)
  parts_cut =
      blocks_of H.width L.some (suc ((n - 1) / H.width)) ((n - 1) % H.width) (omega (arith, cut, L.some, mul-suc H.width ((n - 1) / H.width)))
      (mod-lt (n - 1) L.some)

-- the front of the last part, behind the whole ones
module _ {H : HashFunction} (L : Lawful H) (k l s entry : List ℕ) where
  pub chain_last : {a mid part p : List ℕ} (i at n : ℕ) → i ≡ (length entry - 1) / H.width → at ≡ H.width * ((length entry - 1) / H.width)
      → n ≡ length entry - at → 1 ≤ length entry → ChainedTo H k (l ++ s) i a entry mid → part ≡ hmac H k (a ++ (l ++ s))
      → p ≡ take n part → put_mid at n mid p ≡ prf H k l s (length entry)
  unfolding prf expansion
  chain_last {a} {mid} {part} {p} i at n w q e b h f x =
      let g = expansion H k (l ++ s) i in
      let c : length entry ≡ H.width * i + ((length entry - 1) % H.width + 1) = rw (← w) at (cut L (length entry) b) in
      let v : at ≡ H.width * i = q ∙ ap (λ (j : ℕ). H.width * j) (sym w) in
      let o : drop (H.width * i + n) entry ≡ [] = drop_of_length-le entry {i = H.width * i + n} (omega arith) in
      let y : length g + n ≡ length entry = omega (arith, length-expansion L k (l ++ s) i) in
      rw v
      (placed L k (l ++ s) entry i n p h
      ∙ (rw (o, append-nil, x))
      ∙ sym (take-append-add g part n)
      ∙ (rw (y, parts_cut L (length entry) b, ← w, ← h.last, ← f)))
