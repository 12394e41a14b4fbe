-- What is put in stands behind what stood there, and zeros behind it. Of what doesn't fit nothing is put in.
-- Assumes nothing.
use Rattle.std.proofs.Common.{◌≡◌, ◌≤◌, List, ◌++◌, ◌+◌, ◌-◌, ℕ, length, take, drop, replicate, arith, ap, ap₂, sym, ◌∙◌, append-nil, length-append, length-drop, drop-drop, length-take-le, take_all}
use Rattle.std.proofs.lemmas.Slice.{take-put_mid, drop-put_mid}
use borrow.Rule.Slice.PartMut.{put_mid}
use Rattle.seqs.proofs.Zeros.{drop-zeros}
use Rattle.cases.proofs.buffer.Buffer.push.Goals as goal
use Rattle.cases.proofs.buffer.Buffer.push.Goals.{then-more-room, else-more-room}

length-put_mid : (a k : ℕ) (xs ys : List ℕ) → a + k ≤ length xs → length ys ≡ k → length (put_mid a k xs ys) ≡ length xs
length-put_mid a k xs ys h e =
    omega
    (arith, length-append (take a xs) (ys ++ drop k (drop a xs)), length-append ys (drop k (drop a xs)), length-take-le a xs (omega arith), length-drop k (drop a xs), length-drop a xs)

held : (xs now : List ℕ) (i n : ℕ) → take i xs ≡ now → i ≤ n → length xs ≡ n → i ≡ length now
held xs now i n e h l = sym (length-take-le i xs (omega arith)) ∙ ap length e

-- what is held then, of n bytes more
behind : (xs now ys more : List ℕ) (i n k : ℕ) → take i xs ≡ now → i ≤ length xs → n ≤ length more → ys ≡ take n more → take (i + n) (put_mid i k xs ys) ≡ now ++ take n more
behind xs now ys more i n k e h l f =
    take-put_mid i k xs ys (i + n) (omega (arith, ap length f, length-take-le n more l)) h ∙ ap₂ {C = List ℕ} ◌++◌ e f

pub invariant_of-self : goal.invariant_of-self
invariant_of-self g c =
    let b = c.self.inside in
    let n = c.if-more-room.n in
    let r : b.held + n ≤ g.row.N = elim c.if-more-room.branch [ then-more-room w ↦ omega arith | else-more-room w ↦ omega arith ] in
    let l : n ≤ length c.args.more.now = elim c.if-more-room.branch [ then-more-room w ↦ omega arith | else-more-room w ↦ omega arith ] in
    let k : g.row.N - b.held - n ≡ g.row.N - (b.held + n) = omega arith in
    let e : length c.copy_from_slice.new.self ≡ b.held + n - b.held = omega (arith, ap length c.copy_from_slice.ensures.after, length-take-le n c.args.more.now l) in (
      r,
      length-put_mid b.held (b.held + n - b.held) b.bytes _ (omega arith) e ∙ c.self.told,
      drop-put_mid b.held _ b.bytes _ (b.held + n) (omega arith) (omega arith) e
          ∙ sym (drop-drop n b.held b.bytes) ∙ ap (drop n) c.self.invariant.2 ∙ drop-zeros n (g.row.N - b.held) ∙ ap (λ (j : ℕ). replicate j 0) k,
    )

pub returns-clause-fits : goal.returns-clause-fits
returns-clause-fits g c h =
    let b = c.self.inside in
    let more = c.args.more.now in
    let i = held b.bytes c.args.self.now b.held g.row.N c.self.view_is c.self.invariant.0 c.self.told in
    let n : c.if-more-room.n ≡ length more = elim c.if-more-room.branch [ then-more-room w ↦ omega arith | else-more-room w ↦ absurd (omega arith) ] in
    behind b.bytes c.args.self.now _ more b.held c.if-more-room.n _ c.self.view_is (omega arith) (omega arith) c.copy_from_slice.ensures.after
    ∙ ap (λ (s : List ℕ). c.args.self.now ++ s) (take_all c.if-more-room.n more (omega arith))

pub returns-clause-full : goal.returns-clause-full
returns-clause-full g c h =
    let b = c.self.inside in
    let more = c.args.more.now in
    let i = held b.bytes c.args.self.now b.held g.row.N c.self.view_is c.self.invariant.0 c.self.told in
    let n : c.if-more-room.n ≡ 0 = elim c.if-more-room.branch [ then-more-room w ↦ absurd (omega arith) | else-more-room w ↦ omega arith ] in
    behind b.bytes c.args.self.now _ more b.held c.if-more-room.n _ c.self.view_is (omega arith) (omega arith) c.copy_from_slice.ensures.after
    ∙ rw n (append-nil c.args.self.now)
