-- A script, one call more: the calls, the book, the answers and their bytes; and each call's promise, as a step.
-- Assumes nothing.
use mathlib.Core.Path.{◌≡◌, refl, sym, ◌∙◌, ap, ap₂}
use mathlib.Core.Bool.{true, false}
use mathlib.Core.List.{List, [], ◌∷◌, ◌++◌, append_assoc, append-nil}
use mathlib.Core.Logic.{⊎_elim}
use mathlib.Core.Option.{Option, none, some}
use Prim.Native.Nat.{ℕ, zero, suc, ◌+◌, ◌-◌, ◌*◌, ◌/◌, ◌≤◌, ◌<◌}
use native.Mathlib.Nat.{sub-zero, zero-sub, suc-sub-suc}
use native.Mathlib.Omega.{arith}
use borrow.Rule.Slice.PartMut.{put_mid}
use lib.Dec.{eqb, leb}
use lib.ListN.{length, take, drop, get_or, replicate, length-append, length-take, length-drop, length-replicate, take-append-drop}
use Rattle.std.proofs.lemmas.Slice.{take-put_mid, drop-put_mid}
use lib.Seq.{drop-append_seam, take_at, drop_at, drop-drop, take-append_seam}
use borrow.Author.Tests.{le-leb, lt-leb, leb-true, eq-eqb, ne_eqb}
use Rattle.seqs.specs.Flag.{yes}
use Rattle.seqs.specs.Tab.{tab}
use Rattle.octets.specs.Put.{put_list, put_number}
use Rattle.sessions.specs.Book.{Session, Book, Call, store, look_up, withdraw, held, clear, Answer, there, sought, granted, handed, empty, answer, after, answers_from, book_from, store_number, look_up_number, withdraw_number, held_number}
use Rattle.sessions.specs.Keeps.{Keeps}
use Rattle.sessions.specs.Promises.{Stores, LooksUp, Withdraws, CountsHeld, Clears, with_ems, suite_of, looked_of, output_of, withdrawn_of, held_of}
use Rattle.sessions.specs.declared.table.Table.{Table}
use Rattle.sessions.specs.declared.calls.Stored.{Stored}
use Rattle.sessions.specs.declared.calls.Looked.{Looked}
use Rattle.sessions.specs.declared.calls.Withdrawn.{Withdrawn}
use Rattle.sessions.specs.declared.calls.Held.{Held}
use Rattle.sessions.specs.declared.calls.Cleared.{Cleared}
use Rattle.refusal.specs.Listed.{row_number}
use Rattle.seqs.specs.Cases.{which}
use Rattle.script.specs.Script.{identifier_in, suite_in, lent_in, call_of, call_at, calls_in, reply, reply_of, replies_of, replies}
use Rattle.script.specs.Steps.{Steps}

-- ---- one call more

pub answers_last : (b : Book) (cs : List Call) (c : Call) → answers_from b (cs ++ (c ∷ [])) ≡ answers_from b cs ++ (answer (book_from b cs) c ∷ [])
unfolding answers_from book_from
answers_last b [] c = refl
answers_last b (x ∷ cs) c = ap (λ (r : List Answer). answer b x ∷ r) (answers_last (after b x) cs c)

pub book_last : (b : Book) (cs : List Call) (c : Call) → book_from b (cs ++ (c ∷ [])) ≡ after (book_from b cs) c
unfolding book_from
book_last b [] c = refl
book_last b (x ∷ cs) c = book_last (after b x) cs c

pub replies_last : (l : List Answer) (a : Answer) → replies_of (l ++ (a ∷ [])) ≡ replies_of l ++ reply_of a
unfolding replies_of
replies_last [] a = append-nil (reply_of a)
replies_last (x ∷ l) a = rw (replies_last l a) (sym (append_assoc (reply_of x) (replies_of l) (reply_of a)))

-- ---- lengths

put_length : (d s : List ℕ) → length (put_list d s) ≡ length d
put_length d s =
    ⊎_elim
    (λ (y : leb (length s) (length d) ≡ true). let h = leb-true (length s) (length d) y in rw (y, length-append, length-drop) (omega arith))
    (λ (y : leb (length s) (length d) ≡ false). rw y)
    (which (leb (length s) (length d)))

handed_length : (out : List ℕ) (o : Option Session) → length (handed out o) ≡ length out
handed_length out none = refl
handed_length out (some s) = put_length out s.secret

granted_length : (n : ℕ) (x out : List ℕ) → length x ≡ length out → length (granted n x out) ≡ length out
granted_length n x out e = ⊎_elim (λ (y : eqb n 0 ≡ true). rw y e) (λ (y : eqb n 0 ≡ false). rw y) (which (eqb n 0))

reply_length : (n f e k s : ℕ) (out : List ℕ) → length out ≤ 64 → length (reply n f e k s out) ≡ 70
reply_length n f e k s out h = rw (length-append, length-replicate) (omega arith)

looked_length : (b : Book) (a : ℕ) (i out : List ℕ) → length out ≤ 64 → length (reply_of (answer b (look_up a i out))) ≡ 70
unfolding answer reply_of
looked_length b a i out h =
    let n = look_up_number a i out b in
    let x = granted n (handed out (sought a i b)) out in
    let e : length x ≡ length out = granted_length n (handed out (sought a i b)) out (handed_length out (sought a i b)) in
    reply_length 0 0 0 0 0 x (omega arith)

lent_length : (e : List ℕ) → length (lent_in e) ≤ 64
lent_length e = rw length-take (omega arith)

-- an answer to a call of a script has 70 bytes
pub call_length : (b : Book) (e : List ℕ) → length (reply_of (answer b (call_of e))) ≡ 70
unfolding answer reply_of call_of
call_length b e =
    ⊎_elim
    (λ (y : eqb (get_or e 0 0) 0 ≡ true). rw y)
    (λ (n : eqb (get_or e 0 0) 0 ≡ false).
    ⊎_elim
    (λ (y : eqb (get_or e 0 0) 1 ≡ true). rw (n, y) (looked_length b (get_or e 1 0) (identifier_in e) (lent_in e) (lent_length e)))
    (λ (m : eqb (get_or e 0 0) 1 ≡ false).
    ⊎_elim
    (λ (y : eqb (get_or e 0 0) 2 ≡ true). rw (n, m, y))
    (λ (l : eqb (get_or e 0 0) 2 ≡ false).
    ⊎_elim (λ (y : eqb (get_or e 0 0) 3 ≡ true). rw (n, m, l, y)) (λ (y : eqb (get_or e 0 0) 3 ≡ false). rw (n, m, l, y)) (which (eqb (get_or e 0 0) 3)))
    (which (eqb (get_or e 0 0) 2)))
    (which (eqb (get_or e 0 0) 1)))
    (which (eqb (get_or e 0 0) 0))

-- the answers to the first k calls
abbrev pub said : List ℕ → ℕ → List ℕ
said s k = replies_of (answers_from empty (tab k (call_at s)))

-- and the book after them
abbrev pub book_at : List ℕ → ℕ → Book
book_at s k = book_from empty (tab k (call_at s))

pub book_none : (s : List ℕ) (t : Table) → Keeps t empty → Keeps t (book_at s 0)
unfolding tab book_from
book_none s t k = k

pub said_more : (s : List ℕ) (k : ℕ) → said s (suc k) ≡ said s k ++ reply_of (answer (book_at s k) (call_at s k))
unfolding tab
said_more s k = rw (answers_last empty (tab k (call_at s)) (call_at s k), replies_last)

pub book_more : (s : List ℕ) (k : ℕ) → book_at s (suc k) ≡ after (book_at s k) (call_at s k)
unfolding tab
book_more s k = book_last empty (tab k (call_at s)) (call_at s k)

pub said_length : (s : List ℕ) (k : ℕ) → length (said s k) ≡ 70 * k
unfolding tab answers_from replies_of
said_length s zero = refl
said_length s (suc k) = rw (said_more s k, length-append, said_length s k, call_length (book_at s k) (take 112 (drop (112 * k) s))) (omega arith)

-- ---- each call's promise, as a step

there_granted : (n : ℕ) (o : Option Session) → granted n (there o) false ≡ there (granted n o none)
there_granted n o = ⊎_elim (λ (y : eqb n 0 ≡ true). rw y) (λ (y : eqb n 0 ≡ false). rw y) (which (eqb n 0))

ems_granted : (n : ℕ) (o : Option Session) → granted n (with_ems o) false ≡ with_ems (granted n o none)
ems_granted n o = ⊎_elim (λ (y : eqb n 0 ≡ true). rw y) (λ (y : eqb n 0 ≡ false). rw y) (which (eqb n 0))

suite_granted : (n : ℕ) (o : Option Session) → granted n (suite_of o) 0 ≡ suite_of (granted n o none)
suite_granted n o = ⊎_elim (λ (y : eqb n 0 ≡ true). rw y) (λ (y : eqb n 0 ≡ false). rw y) (which (eqb n 0))

looked_reply : (a : ℕ) (i out : List ℕ) (b : Book)
    → reply (looked_of a i out b).refusal.number (looked_of a i out b).found (looked_of a i out b).ems 0 (looked_of a i out b).suite (output_of a i out b) ≡ reply_of (answer b (look_up a i out))
unfolding looked_of output_of answer reply_of
looked_reply a i out b =
    let n = look_up_number a i out b in
    rw (row_number n, there_granted n (sought a i b), ems_granted n (sought a i b), suite_granted n (sought a i b))

module _ (t : Table) where
  pub stored_steps : (s : Session) (r : Stored) (bytes : List ℕ) → Stores t s r → bytes ≡ reply r.refusal.number 0 0 0 0 []
      → Steps t (store s) bytes r.table
  unfolding answer reply_of
  stored_steps s r bytes p q =
      record { replied = λ b k. q ∙ (rw (p.refusal, row_number (store_number s))); keeps = p.keeps }

  pub withdrew_steps : (a : ℕ) (i : List ℕ) (r : Withdrawn) (bytes : List ℕ) → Withdraws t a i r → bytes ≡ reply r.refusal.number r.withdrawn 0 0 0 []
      → Steps t (withdraw a i) bytes r.table
  unfolding answer reply_of withdrawn_of
  withdrew_steps a i r bytes p q =
      record { replied = λ b k. q ∙ (rw (p.refusal, row_number (withdraw_number a i), p.answers b k)); keeps = p.keeps }

  pub counted_steps : (a : ℕ) (r : Held) (bytes : List ℕ) → CountsHeld t a r → bytes ≡ reply r.refusal.number 0 0 r.count 0 []
      → Steps t (held a) bytes t
  unfolding answer reply_of held_of after
  counted_steps a r bytes p q = record { replied = λ b k. q ∙ (rw (p.answers b k, row_number (held_number a))); keeps = λ b k. k }

  pub cleared_steps : (r : Cleared) (bytes : List ℕ) → Clears t r → bytes ≡ reply r.refusal.number 0 0 0 0 []
      → Steps t clear bytes r.table
  unfolding answer reply_of after
  cleared_steps r bytes p q = record { replied = λ b k. q ∙ (rw (p.refusal, row_number 0)); keeps = λ b k. p.keeps }

  pub looked_steps : (a : ℕ) (i out : List ℕ) (r : Looked) (out' bytes : List ℕ) → LooksUp t a i out r out' → bytes ≡ reply r.refusal.number r.found r.ems 0 r.suite out'
      → Steps t (look_up a i out) bytes t
  unfolding after
  looked_steps a i out r out' bytes p q =
      record { replied = λ b k. let l = p.answers b k in q ∙ (rw (l.returned, l.output) (looked_reply a i out b)); keeps = λ b k. k }

-- ---- the bytes of a look-up's answer

drop-zeros : (m n : ℕ) → drop {A = ℕ} m (replicate n 0) ≡ replicate (n - m) 0
drop-zeros zero n = rw sub-zero
drop-zeros (suc m) zero = rw zero-sub
drop-zeros (suc m) (suc n) = rw suc-sub-suc (drop-zeros m n)

-- what was lent, with zeros behind it
pub lent_at : (lent p : List ℕ) → p ≡ lent → p ++ drop {A = ℕ} (length lent) (replicate 64 0) ≡ lent ++ replicate (64 - length lent) 0
lent_at lent p e = rw (e, drop-zeros (length lent) 64)

pub lent_front : (lent w : List ℕ) → w ≡ lent ++ replicate (64 - length lent) 0 → take (length lent) w ≡ lent
lent_front lent w e = rw (e, take-append_seam)

pub looked_bytes : (n f e s : ℕ) (h lent w o v : List ℕ) → h ≡ reply n f e 0 s [] → w ≡ lent ++ replicate (64 - length lent) 0 → length o ≡ length lent
    → v ≡ o ++ drop (length lent) w → put_mid 6 64 h v ≡ reply n f e 0 s o
looked_bytes n f e s h lent w o v p q l r = rw (r, q, drop-append_seam, l, p, append-nil)

-- ---- the call in an entry, by its first byte

module _ (e : List ℕ) where
  pub call_store : get_or e 0 0 ≡ 0 → call_of e ≡ store (record { axle = get_or e 1 0; identifier = identifier_in e; ems = yes (get_or e 3 0); suite = suite_in e; secret = lent_in e })
  unfolding call_of
  call_store h = rw (eq-eqb (get_or e 0 0) 0 h)

  pub call_look_up : get_or e 0 0 ≡ 1 → call_of e ≡ look_up (get_or e 1 0) (identifier_in e) (lent_in e)
  unfolding call_of
  call_look_up h = rw (ne_eqb (get_or e 0 0) 0 (omega arith), eq-eqb (get_or e 0 0) 1 h)

  pub call_withdraw : get_or e 0 0 ≡ 2 → call_of e ≡ withdraw (get_or e 1 0) (identifier_in e)
  unfolding call_of
  call_withdraw h = rw (ne_eqb (get_or e 0 0) 0 (omega arith), ne_eqb (get_or e 0 0) 1 (omega arith), eq-eqb (get_or e 0 0) 2 h)

  pub call_held : get_or e 0 0 ≡ 3 → call_of e ≡ held (get_or e 1 0)
  unfolding call_of
  call_held h =
      rw (ne_eqb (get_or e 0 0) 0 (omega arith), ne_eqb (get_or e 0 0) 1 (omega arith), ne_eqb (get_or e 0 0) 2 (omega arith), eq-eqb (get_or e 0 0) 3 h)

  pub call_clear : (get_or e 0 0 ≡ 0 → ⊥) → (get_or e 0 0 ≡ 1 → ⊥) → (get_or e 0 0 ≡ 2 → ⊥) → (get_or e 0 0 ≡ 3 → ⊥) → call_of e ≡ clear
  unfolding call_of
  call_clear h0 h1 h2 h3 = rw (ne_eqb (get_or e 0 0) 0 h0, ne_eqb (get_or e 0 0) 1 h1, ne_eqb (get_or e 0 0) 2 h2, ne_eqb (get_or e 0 0) 3 h3)

-- ---- the answers in the lent output, one after the other

-- out holds m, at bytes long, and behind it what d has there
pub record Built (out : List ℕ) (at : ℕ) (m d : List ℕ) : Type 0 where
  pub size : length m ≡ at
  pub same : length out ≡ length d
  pub holds : out ≡ m ++ drop at d

pub built_none : (s d : List ℕ) → Built d 0 (said s 0) d
unfolding tab answers_from replies_of
built_none s d = record { size = refl; same = refl; holds = refl }

pub built_more : (out m m' d v r : List ℕ) (at at' n : ℕ) → Built out at m d → length r ≡ 70 → at + 70 ≤ length d → at' ≡ at + 70 → m' ≡ m ++ r
    → n ≡ 70 → v ≡ r → Built (put_mid at n out v) at' m' d
built_more out m m' d v r at at' n b l f p q z w =
    let rest : drop at out ≡ drop at d = rw b.holds (drop_at m (drop at d) at b.size) in
    let front : take at out ≡ m = rw b.holds (take_at m (drop at d) at b.size) in
    let begins : at ≤ length out = omega (arith, b.same) in
    let head : take (at + 70) (put_mid at n out v) ≡ m ++ r =
    take-put_mid at n out v (at + 70) (omega (arith, l, ap length w)) begins ∙ (rw (front, w)) in
    let tail : drop (at + 70) (put_mid at n out v) ≡ drop (at + 70) d =
    drop-put_mid at n out v (at + 70) (omega arith) begins (omega (arith, l, z, ap length w))
    ∙ sym (drop-drop 70 at out) ∙ ap (drop 70) rest ∙ drop-drop 70 at d in
    let new : put_mid at n out v ≡ m' ++ drop at' d =
    sym (take-append-drop (at + 70) (put_mid at n out v)) ∙ ap₂ {C = List ℕ} (λ x y. x ++ y) head tail ∙ (rw (p, q)) in
    record {
      size = rw (q, length-append, b.size, l, p);
      same = ap length new ∙ (rw (q, p, length-append, length-append, length-drop) (omega (arith, b.size)));
      holds = new;
    }

pub built_all : (s out d : List ℕ) → Built out (70 * (length s / 112)) (said s (length s / 112)) d → 70 * (length s / 112) ≤ length d
    → (0 ≡ put_number d (replies s)) × (out ≡ put_list d (replies s))
unfolding calls_in
built_all s out d b h =
    let n : length (said s (length s / 112)) ≤ length d = rw (said_length s (length s / 112)) h in
    let t = le-leb (length (said s (length s / 112))) (length d) n in
    (rw t, rw (t, said_length s (length s / 112)) b.holds)

pub too_short : (s d : List ℕ) → length d < 70 * (length s / 112) → (10 ≡ put_number d (replies s)) × (d ≡ put_list d (replies s))
unfolding calls_in
too_short s d h =
    let n : length d < length (said s (length s / 112)) = rw (said_length s (length s / 112)) h in
    let t = lt-leb (length (said s (length s / 112))) (length d) n in
    (rw t, rw t)
