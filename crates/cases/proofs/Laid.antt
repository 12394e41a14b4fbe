-- A good case is laid out from its messages: the contents by their count and lengths, the bodies one after the other. And messages that fit
-- have such a case.
-- Assumes nothing.
use mathlib.Core.Path.{◌≡◌, refl, sym, ◌∙◌, ap, ap₂}
use mathlib.Core.Bool.{true}
use mathlib.Core.List.{List, [], ◌∷◌, ◌++◌, map}
use Prim.Native.Nat.{ℕ, zero, suc, ◌+◌, ◌*◌, ◌/◌, ◌%◌, ◌≤◌, ◌<◌}
use native.Mathlib.Omega.{arith}
use lib.ListN.{length, take, drop, get_or, length-drop, length-map, length-append, take-append-drop}
use lib.Seq.{length-take-le, take-append_seam, drop-append_seam, drop_at}
use borrow.Author.Tests.{eq-eqb}
use Rattle.seqs.specs.Bytes.{Bytes}
use Rattle.seqs.proofs.Bytes.{bytes_one, bytes_append}
use Rattle.message.specs.Numbers.{byte_at, pair_at}
use Rattle.cases.specs.Contents.{count_of, lengths_in, lengths_of, contents_size, parts_of, bodies_of, total, good_case}
use Rattle.cases.specs.Layout.{length_bytes, joined, case_of, LaidOut, CaseGood}
use Rattle.cases.proofs.Bodies.{lengths_many}
use Rattle.cases.proofs.Cases.{good_exact, good_learnt}

-- as many parts as lengths, each as long as its length says, and together all the bytes
parts_lengths : (ns s : List ℕ) → total ns ≤ length s → map length (parts_of ns s) ≡ ns
unfolding total parts_of
parts_lengths [] s h = refl
parts_lengths (n ∷ ns) s h =
    ap₂ {C = List ℕ} ◌∷◌ (length-take-le n s (omega arith)) (parts_lengths ns (drop n s) (rw length-drop (omega arith)))

parts_joined : (ns s : List ℕ) → total ns ≡ length s → joined (parts_of ns s) ≡ s
unfolding total parts_of joined
parts_joined [] [] h = refl
parts_joined [] (x ∷ s) h = absurd (omega arith)
parts_joined (n ∷ ns) s h =
    ap (λ (t : List ℕ). take n s ++ t) (parts_joined ns (drop n s) (rw length-drop (omega arith))) ∙ take-append-drop n s

-- the lengths in two bytes each are the bytes that they were read from
lengths_bytes : (n : ℕ) (s : List ℕ) → Bytes s → 2 * n ≤ length s → length_bytes (lengths_in n s) ≡ take (2 * n) s
unfolding length_bytes lengths_in pair_at byte_at
lengths_bytes zero s b h = refl
lengths_bytes (suc n) [] b h = absurd (omega arith)
lengths_bytes (suc n) (x ∷ []) b h = absurd (omega arith)
lengths_bytes (suc n) (x ∷ y ∷ s) b h =
    let e : 2 * suc n ≡ suc (suc (2 * n)) = omega arith in
    let p : (256 * x + y) / 256 ≡ x = omega (arith, b 1) in
    let q : (256 * x + y) % 256 ≡ y = omega (arith, b 1) in
    rw (e, p, q) (ap (λ (t : List ℕ). x ∷ y ∷ t) (lengths_bytes n s (λ i. b (suc (suc i))) (omega arith)))

laid : (c : ℕ) (s : List ℕ) → Bytes s → 2 * c + total (lengths_in c s) ≡ length s
    → c ∷ s ≡ case_of (parts_of (lengths_in c s) (drop (2 * c) s))
unfolding case_of
laid c s b h =
    let rest : total (lengths_in c s) ≡ length (drop (2 * c) s) = rw length-drop (omega arith) in
    let ps = parts_of (lengths_in c s) (drop (2 * c) s) in
    let k : map length ps ≡ lengths_in c s = parts_lengths (lengths_in c s) (drop (2 * c) s) (omega arith) in
    let n : length ps ≡ c = sym (length-map ps length) ∙ ap length k ∙ lengths_many c s in
    rw (n, k, lengths_bytes c s b (omega arith), parts_joined (lengths_in c s) (drop (2 * c) s) rest)
    (ap (λ (t : List ℕ). c ∷ t) (sym (take-append-drop (2 * c) s)))

pub laid_out : LaidOut
unfolding bodies_of lengths_of contents_size count_of byte_at
laid_out [] b g = absurd (omega (arith, (good_learnt [] g).exact))
laid_out (c ∷ s) b g =
    let e : 1 + 2 * c ≡ suc (2 * c) = omega arith in
    rw e (laid c s (λ i. b (suc i)) (omega (arith, (good_learnt (c ∷ s) g).exact)))

-- The other way: the lengths are read back, whatever follows them, and then the messages.
lengths_back : (ns t : List ℕ) → lengths_in (length ns) (length_bytes ns ++ t) ≡ ns
unfolding length_bytes lengths_in pair_at byte_at
lengths_back [] t = refl
lengths_back (n ∷ ns) t =
    let e : 256 * (n / 256) + n % 256 ≡ n = omega arith in
    rw e (ap (λ (l : List ℕ). n ∷ l) (lengths_back ns t))

parts_back : (ms : List (List ℕ)) → parts_of (map length ms) (joined ms) ≡ ms
unfolding parts_of joined
parts_back [] = refl
parts_back (m ∷ ms) = rw (take-append_seam, drop-append_seam) (ap (λ (l : List (List ℕ)). m ∷ l) (parts_back ms))

length-bytes : (ns : List ℕ) → length (length_bytes ns) ≡ 2 * length ns
unfolding length_bytes
length-bytes [] = refl
length-bytes (n ∷ ns) = omega (arith, length-bytes ns)

length-joined : (ms : List (List ℕ)) → length (joined ms) ≡ total (map length ms)
unfolding joined total
length-joined [] = refl
length-joined (m ∷ ms) = omega (arith, length-append m (joined ms), length-joined ms)

-- they are bytes
bytes_more : (x : ℕ) (l : List ℕ) → x < 256 → Bytes l → Bytes (x ∷ l)
bytes_more x l h b = bytes_append (x ∷ []) l (bytes_one x h) b

bytes_lengths : (ns : List ℕ) → total ns < 65536 → Bytes (length_bytes ns)
unfolding total length_bytes
bytes_lengths [] h = λ i. omega arith
bytes_lengths (n ∷ ns) h =
    bytes_more (n / 256) (n % 256 ∷ length_bytes ns) (omega arith) (bytes_more (n % 256) (length_bytes ns) (omega arith) (bytes_lengths ns (omega arith)))

bytes_joined : (ms : List (List ℕ)) → ((i : ℕ) → Bytes (get_or ms i [])) → Bytes (joined ms)
unfolding joined
bytes_joined [] b = λ i. omega arith
bytes_joined (m ∷ ms) b = bytes_append m (joined ms) (b 0) (bytes_joined ms (λ i. b (suc i)))

module _ (ms : List (List ℕ)) where
  abbrev ns : List ℕ
  ns = map length ms

  -- how long the contents are, and the whole
  lengths_long : length (length_bytes ns) ≡ 2 * length ms
  lengths_long = omega (arith, length-bytes ns, length-map ms length)

  long : length (case_of ms) ≡ 1 + 2 * length ms + total ns
  unfolding case_of
  long = omega (arith, length-append (length_bytes ns) (joined ms), lengths_long, length-joined ms)

  size : contents_size (case_of ms) ≡ 1 + 2 * length ms
  unfolding contents_size count_of case_of byte_at
  size = refl

  -- the lengths and the bodies that are read
  lengths_of_lem : lengths_of (case_of ms) ≡ ns
  unfolding lengths_of case_of count_of byte_at
  lengths_of_lem = ap (λ (n : ℕ). lengths_in n (length_bytes ns ++ joined ms)) (sym (length-map ms length)) ∙ lengths_back ns (joined ms)

  behind : drop (contents_size (case_of ms)) (case_of ms) ≡ joined ms
  unfolding case_of
  behind =
      let e : contents_size (case_of ms) ≡ suc (2 * length ms) = omega (arith, size) in
      rw e (drop_at (length_bytes ns) (joined ms) (2 * length ms) lengths_long)

  bodies_of_lem : bodies_of (case_of ms) ≡ ms
  unfolding bodies_of
  bodies_of_lem = rw (lengths_of_lem, behind) (parts_back ms)

  good_of : length (case_of ms) ≤ 32768 → good_case (case_of ms) ≡ true
  good_of h =
      good_exact (case_of ms) (h, omega (arith, size, long))
      ∙ eq-eqb (contents_size (case_of ms) + total (lengths_of (case_of ms))) (length (case_of ms)) (rw lengths_of_lem (omega (arith, size, long)))

  bytes_of : length ms ≤ 255 → ((i : ℕ) → Bytes (get_or ms i [])) → length (case_of ms) ≤ 32768 → Bytes (case_of ms)
  unfolding case_of
  bytes_of few b h =
      bytes_more (length ms) (length_bytes ns ++ joined ms) (omega arith)
      (bytes_append (length_bytes ns) (joined ms) (bytes_lengths ns (omega (arith, long))) (bytes_joined ms b))

pub case_good : CaseGood
case_good ms few b h = (bytes_of ms few b h, good_of ms h, bodies_of_lem ms)
