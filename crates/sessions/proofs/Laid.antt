-- A queue that is laid out: its sessions, without one of them, and with one more.
-- Assumes nothing.
use mathlib.Core.Path.{◌≡◌, refl, sym, ◌∙◌, ap, ap₂, subst}
use mathlib.Core.List.{List, [], ◌∷◌, ◌++◌, map, map-append, append_assoc}
use Prim.Native.Nat.{ℕ, zero, suc, ◌+◌, ◌-◌, ◌*◌, ◌/◌, ◌%◌, ◌≤◌, ◌<◌}
use native.Mathlib.Numerals.{add-one}
use native.Mathlib.Omega.{arith}
use lib.ListN.{length, take, drop, get_or, set, replicate, length-map, length-append, length-take, length-drop}
use Rattle.std.specs.List.{copy_within}
use Rattle.std.proofs.lemmas.List.{drop-take}
use Rattle.std.proofs.lemmas.List.Edits.{take-paste, drop-paste}
use lib.Seq.{take-take, length-paste, take_at, drop_at, drop-drop, set_at, set_split}
use Rattle.seqs.specs.Cut.{cut}
use Rattle.seqs.proofs.Cut.{Shifted}
use Rattle.seqs.proofs.Flag.{yes_bit}
use Rattle.sessions.specs.Book.{Session, Book}
use Rattle.sessions.specs.Keeps.{Each, row_of, no_session, laid, session_of, sessions_of}
use Rattle.sessions.specs.declared.row.Row.{Row}
use Rattle.sessions.specs.declared.queue.Queue.{Queue}

-- ---- read again

pub session_row : (s : Session) → session_of s.axle (row_of s) ≡ s
unfolding session_of row_of
session_row s =
    let e : 256 * (s.suite / 256) + s.suite % 256 ≡ s.suite = omega arith in
    rw (take_at s.identifier (replicate (32 - length s.identifier) 0) (length s.identifier) refl, yes_bit s.ems, e)

sessions_rows : (a : ℕ) (b : Book) (rest : List Row) → Each (λ (s : Session). s.axle ≡ a) b → map (session_of a) (take (length b) (map row_of b ++ rest)) ≡ b
sessions_rows a [] rest e = refl
sessions_rows a (s ∷ b) rest e =
    ap₂ {C = Book} (λ x y. x ∷ y) (ap (λ (c : ℕ). session_of c (row_of s)) (sym e.0) ∙ session_row s) (sessions_rows a b rest e.1)

pub sessions_laid : (a : ℕ) (b : Book) → Each (λ (s : Session). s.axle ≡ a) b → sessions_of a (laid b) ≡ b
unfolding sessions_of laid
sessions_laid a b e = sessions_rows a b (replicate (8 - length b) no_session) e

pub laid_held : (b : Book) → length (take (laid b).held (laid b).rows) ≡ length b
unfolding laid
laid_held b = ap length (take_at (map row_of b) (replicate (8 - length b) no_session) (length b) (length-map b row_of)) ∙ length-map b row_of

pub laid_length : (a : ℕ) (b : Book) → length (sessions_of a (laid b)) ≡ length b
unfolding sessions_of
laid_length a b = length-map (take (laid b).held (laid b).rows) (session_of a) ∙ laid_held b

-- ---- without one

map-cut : {A B : Type 0} (f : A → B) (i : ℕ) (l : List A) → map f (cut i l) ≡ cut i (map f l)
unfolding cut
map-cut f zero [] = refl
map-cut f zero (x ∷ l) = refl
map-cut f (suc i) [] = refl
map-cut {B = B} f (suc i) (x ∷ l) = ap (λ (r : List B). f x ∷ r) (map-cut f i l)

length_cut : {A : Type 0} (i : ℕ) (l : List A) → i < length l → length (cut i l) + 1 ≡ length l
unfolding cut
length_cut i l h = rw (length-append, length-take, length-drop) (omega arith)

pub laid_cut : (b : Book) (rows : List Row) (i j : ℕ) → Shifted (laid b).rows rows i j → j + 1 ≡ length b → length b ≤ 8
    → ◌≡◌ {A = Queue} (record { rows = set rows j no_session; held = j }) (laid (cut i b))
unfolding laid
laid_cut b rows i j s e h =
    let m : List Row = map row_of b in
    let z : List Row = replicate (8 - length b) no_session in
    let n : length m ≡ j + 1 = length-map b row_of ∙ sym e in
    let k : j < length rows = omega (arith, s.long, s.below) in
    let front : take j rows ≡ map row_of (cut i b) = s.moved ∙ ap (cut i) (take_at m z (j + 1) n) ∙ sym (map-cut row_of i b) in
    let back : drop (suc j) rows ≡ z =
    ap (λ (k : ℕ). drop k rows) (sym (add-one j)) ∙ sym (drop-drop 1 j rows) ∙ ap (λ (r : List Row). drop 1 r) s.rest ∙ drop-drop 1 j (m ++ z) ∙ drop_at m z (j + 1) n in
    let c : length (cut i b) ≡ j = omega (arith, length_cut i b (omega (arith, s.from)), e) in
    let left : 8 - j ≡ suc (8 - length b) = omega arith in
    rw (c, left) (ap (λ (r : List Row). record { rows = r; held = j })
    (set_split rows j no_session k ∙ ap₂ (λ (x y : List Row). x ++ (no_session ∷ y)) front back))

-- those behind it moved up in one step
pub shifted_at_once : {A : Type 0} (l : List A) (i j : ℕ) → i ≤ j → j < length l → Shifted l (copy_within l (i + 1) (j + 1) i) i j
unfolding cut
shifted_at_once l i j h k =
    let m : j ≡ i + (j - i) = omega arith in
    let n : j + 1 ≡ suc i + (j - i) = omega arith in
    let o : j + 1 - (i + 1) ≡ j - i = omega arith in
    let s : length (drop (i + 1) l) ≡ length l - (i + 1) = length-drop (i + 1) l in
    let r : j - i ≤ length (drop (i + 1) l) = omega arith in
    record {
      from = h;
      below = k;
      long = length-paste l i (drop (i + 1) l) (j + 1 - (i + 1)) (omega arith) (omega arith);
      moved =
          subst (λ (x : ℕ). take x (copy_within l (i + 1) (j + 1) i) ≡ cut i (take (j + 1) l)) (sym m)
          (rw o (take-paste l i (drop (i + 1) l) (j - i) (omega arith) r
          ∙ ap₂ (λ (x y : List _). x ++ y) (sym (take-take i (j + 1) l (omega arith)))
          (ap (λ (x : ℕ). take (j - i) (drop x l)) (add-one i) ∙ sym (drop-take (suc i) (j - i) l) ∙ ap (λ (x : ℕ). drop (suc i) (take x l)) (sym n))
          ));
      rest =
          subst (λ (x : ℕ). drop x (copy_within l (i + 1) (j + 1) i) ≡ drop x l) (sym m)
          (rw o (drop-paste l i (drop (i + 1) l) (j - i) (omega arith) r));
    }

-- ---- with one more

pub laid_last : (b : Book) (s : Session) → length b ≤ 7
    → ◌≡◌ {A = Queue} (record { rows = set (laid b).rows (length b) (row_of s); held = length b + 1 }) (laid (b ++ (s ∷ [])))
unfolding laid
laid_last b s h =
    let z : List Row = replicate (7 - length b) no_session in
    let n : 8 - length b ≡ suc (7 - length b) = omega arith in
    let l : length (b ++ (s ∷ [])) ≡ length b + 1 = length-append b (s ∷ []) in
    let r : 8 - (length b + 1) ≡ 7 - length b = omega arith in
    rw (l, r, n, map-append) (ap (λ (x : List Row). record { rows = x; held = length b + 1 })
    (set_at (map row_of b) no_session z (row_of s) (length b) (length-map b row_of) ∙ sym (append_assoc (map row_of b) (row_of s ∷ []) z)))

-- behind the sessions there is nothing but blanks
blank_at : (l : List Row) (m k : ℕ) (r : Row) → length l ≤ k → k < length l + m → get_or (l ++ replicate m no_session) k r ≡ no_session
blank_at [] zero k r h j = absurd (omega arith)
blank_at [] (suc m) zero r h j = refl
blank_at [] (suc m) (suc k) r h j = blank_at [] m k r (omega arith) (omega arith)
blank_at (x ∷ l) m zero r h j = absurd (omega arith)
blank_at (x ∷ l) m (suc k) r h j = blank_at l m k r (omega arith) (omega arith)

pub laid_blank : (b : Book) (k : ℕ) (r : Row) → length b ≤ k → k < 8 → get_or (laid b).rows k r ≡ no_session
unfolding laid
laid_blank b k r h j =
    let l : length (map row_of b) ≡ length b = length-map b row_of in
    blank_at (map row_of b) (8 - length b) k r (omega arith) (omega arith)
