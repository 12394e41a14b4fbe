-- The extensions of a list with their places: one step of a walk over them, and what the chains over them find.
-- Assumes nothing.
use Rattle.std.proofs.Common.{◌≡◌, refl, sym, ◌∙◌, ap, Bool, true, false, not, ◌||◌, List, [], ◌∷◌, ◌++◌, ℕ, ◌+◌, ◌-◌, ◌≤◌, ◌<◌, eqb, leb, length, take, drop, get_or, arith, Option, Some, None, Result, Ok, Err, option_map, add-one, zero-add}
use Rattle.std.specs.Prelude.{⊤}
use Rattle.std.specs.List.{find, list_any, enumerate_from}
use Rattle.std.specs.Option.{is_some, unwrap_or}
use Rattle.std.specs.Result.{result_ok}
use borrow.Author.Tests.{lt-leb, le-leb, leb-true, leb-false}
use Rattle.std.proofs.Math.Seq.{take-suc, drop-cons}
use lib.ListN.{drop_of_length-le}
use Rattle.std.proofs.lemmas.List.Folds.{list_any-append}
use Rattle.std.proofs.lemmas.List.FromFn.{get_or-enumerate_from, length-enumerate_from}
use Rattle.seqs.specs.Pick.{pick}
use Rattle.seqs.specs.Cases.{by_test}
use Rattle.refusal.specs.declared.Reason.{Reason}
use Rattle.refusal.specs.declared.Reason.TheVariants as reason
use Rattle.message.specs.Numbers.{pair_at}
use Rattle.hello.specs.Layout.{malformed}
use Rattle.hello.specs.Extensions.{Extension, shaped, has, twice, repeat_from, known_kind, others_of}
use Rattle.hello.specs.Places.{part, behind, bytes_at, bytes_part, part_of, size_of}
use Rattle.hello.specs.Cuts.{Broken, parsed_at, well_formed_at, list_at}
use Rattle.hello.specs.Entries.{entry_of, entry_at, entries_from, data_in, differ_from}
use Rattle.hello.specs.declared.parts.Part.{Part}
use Rattle.hello.specs.declared.walk.Entry.{Entry}
use Rattle.hello.proofs.Lists.{parsed_short, parsed_long, parsed_bad, broken_later, whole_next, step, list_end, size_of_lem}
use Rattle.hello.proofs.Closings.{list_size}
use Rattle.hello.proofs.Repeats.{repeat_here, repeat_later as later_repeat, clash, clash_more, clash_none, has_append, or_assoc}

module _ (m : List ℕ) (at : ℕ) where
  pub entry_cut : length m - at < 4 → entry_at m at ≡ Err (reason.Malformed (length m))
  unfolding entry_at
  entry_cut h = rw (lt-leb (at + 4) (length m) (omega arith))

  module _ (n : ℕ) (f : n ≡ pair_at m (at + 2)) (h : 4 ≤ length m - at) where
    pub entry_long : length m - at - 4 < n → entry_at m at ≡ Err (reason.Malformed (at + 2))
    unfolding entry_at
    entry_long l = rw (← f, le-leb (at + 4) (length m) (omega arith), lt-leb (at + 4 + n) (length m) (omega arith))

    pub entry_whole : n ≤ length m - at - 4 → entry_at m at ≡ Ok (entry_of at (pair_at m at) n)
    unfolding entry_at
    entry_whole l = rw (← f, le-leb (at + 4) (length m) (omega arith), le-leb (at + 4 + n) (length m) (omega arith))

  -- the extension that was read there lies within the message
  pub record Whole (e : Entry) : Type 0 where
    pub is : entry_of at (pair_at m at) (pair_at m (at + 2)) ≡ e
    pub within : at + 4 + pair_at m (at + 2) ≤ length m

  pub entry_read : (e : Entry) → entry_at m at ≡ Ok e → Whole e
  unfolding entry_at
  entry_read e h =
      by_test (leb (at + 4) (length m))
      (λ p.
      by_test (leb (at + 4 + pair_at m (at + 2)) (length m))
      (λ q.
      let o : ◌≡◌ {A = Result Entry Reason} (Ok (entry_of at (pair_at m at) (pair_at m (at + 2)))) (Ok e) = rw (p, q) at h in
      let y : entry_of at (pair_at m at) (pair_at m (at + 2)) ≡ e = cc in
      record { is = y; within = leb-true _ _ q })
      (λ q. let o : ◌≡◌ {A = Result Entry Reason} (Err (reason.Malformed (at + 2))) (Ok e) = rw (p, q) at h in cc))
      (λ p. let o : ◌≡◌ {A = Result Entry Reason} (Err (reason.Malformed (length m))) (Ok e) = rw p at h in cc)

  -- where it was not read, and bytes are left, it is cut off
  pub record Cut (r : Reason) : Type 0 where
    pub short : length m < at + 4 → r ≡ reason.Malformed (length m)
    pub long : at + 4 ≤ length m → (r ≡ reason.Malformed (at + 2)) × (length m < at + 4 + pair_at m (at + 2))

  pub entry_none : (r : Reason) → entry_at m at ≡ Err r → Cut r
  unfolding entry_at
  entry_none r h =
      by_test (leb (at + 4) (length m))
      (λ p.
      by_test (leb (at + 4 + pair_at m (at + 2)) (length m))
      (λ q. let o : ◌≡◌ {A = Result Entry Reason} (Ok (entry_of at (pair_at m at) (pair_at m (at + 2)))) (Err r) = rw (p, q) at h in cc)
      (λ q.
      let o : ◌≡◌ {A = Result Entry Reason} (Err (reason.Malformed (at + 2))) (Err r) = rw (p, q) at h in
      let y : r ≡ reason.Malformed (at + 2) = cc in
      record { short = λ s. absurd (omega (arith, leb-true (at + 4) (length m) p)); long = λ s. (y, leb-false _ _ q) }))
      (λ p.
      let o : ◌≡◌ {A = Result Entry Reason} (Err (reason.Malformed (length m))) (Err r) = rw p at h in
      let y : r ≡ reason.Malformed (length m) = cc in
      record { short = λ s. y; long = λ s. absurd (omega (arith, leb-false (at + 4) (length m) p)) })

  pub cut_next : (r : Reason) → entry_at m at ≡ Err r → length m < at + 4 + pair_at m (at + 2)
  cut_next r h =
      let c = entry_none r h in
      by_test (leb (at + 4) (length m))
      (λ p. (c.long (leb-true (at + 4) (length m) p)).1)
      (λ p. omega (arith, leb-false (at + 4) (length m) p))

  -- the walk over a list that finds its first fault, at an extension that is cut off, misshapen, or good
  pub walk_cut : (r : Reason) → at < length m → entry_at m at ≡ Err r → Broken (parsed_at m at) r
  walk_cut r k h =
      let c = entry_none r h in
      by_test (leb (at + 4) (length m))
      (λ p.
      let l = leb-true (at + 4) (length m) p in
      (at + 2, parsed_long m at (pair_at m at) (pair_at m (at + 2)) refl refl l (c.long l).1, (c.long l).0))
      (λ p.
      let l = leb-false (at + 4) (length m) p in
      (length m, parsed_short m at k (omega arith), c.short l))

  module _ (e : Entry) (w : Whole e) where
    shape_is : shaped e.kind (bytes_at m e.«data») ≡ shaped (pair_at m at) (take (pair_at m (at + 2)) (drop (at + 4) m))
    shape_is = ap (λ (x : Entry). shaped x.kind (bytes_at m x.«data»)) (sym w.is)

    pub start_is : e.«data».at ≡ at + 4
    start_is = ap (λ (x : Entry). x.«data».at) (sym w.is)

    pub end_is : behind e.«data» ≡ at + 4 + pair_at m (at + 2)
    end_is = ap (λ (x : Entry). behind x.«data») (sym w.is)

    pub walk_bad : shaped e.kind (bytes_at m e.«data») ≡ false → Broken (parsed_at m at) (reason.Malformed e.«data».at)
    walk_bad s = (at + 4, parsed_bad m at (pair_at m at) (pair_at m (at + 2)) refl refl (omega (arith, w.within)) w.within (sym shape_is ∙ s), ap reason.Malformed start_is)

    pub walk_on : shaped e.kind (bytes_at m e.«data») ≡ true → (p : ℕ) → parsed_at m (behind e.«data») ≡ malformed p → parsed_at m at ≡ malformed p
    walk_on s p q = broken_later m at (pair_at m at) (pair_at m (at + 2)) refl refl (omega (arith, w.within)) w.within (sym shape_is ∙ s) p (rw end_is at q)

    pub walk_whole : shaped e.kind (bytes_at m e.«data») ≡ true → well_formed_at m at ≡ well_formed_at m (behind e.«data»)
    walk_whole s = whole_next m at (pair_at m at) (pair_at m (at + 2)) refl refl (omega (arith, w.within)) w.within (sym shape_is ∙ s) ∙ ap (well_formed_at m) (sym end_is)

-- what `ok` makes of a result
pub ok_some : {A E : Type 0} (r : Result A E) (x : A) → result_ok r ≡ Some x → r ≡ Ok x
ok_some (Ok y) x e = cc
ok_some {A} (Err y) x e = let z : ◌≡◌ {A = Option A} None (Some x) = e in cc

pub ok_none : {A E : Type 0} (r : Result A E) → result_ok r ≡ None → (y : E) × (r ≡ Err y)
ok_none (Ok x) e = let z : Some x ≡ None = e in cc
ok_none (Err y) e = (y, refl)

-- One step through a list that is well formed: the first extension, and the list behind it; or none is left.
module _ (m : List ℕ) (at : ℕ) (w : well_formed_at m at ≡ true) where
  pub record Taken (e : Entry) : Type 0 where
    pub within : behind e.«data» ≤ length m
    pub whole : well_formed_at m (behind e.«data») ≡ true
    pub rest : entries_from at (list_at m at) ≡ e ∷ entries_from (behind e.«data») (list_at m (behind e.«data»))

  pub taken : (e : Entry) → entry_at m at ≡ Ok e → Taken e
  unfolding entries_from
  taken e h =
      let y = entry_read m at e h in
      let n = pair_at m (at + 2) in
      let s = step m at _ _ (omega (arith, y.within)) w refl refl in
      let b : behind e.«data» ≡ at + 4 + n = ap (λ (x : Entry). behind x.«data») (sym y.is) in
      let is : entry_of at (pair_at m at) n ≡ e = y.is in
      record {
        within = omega (arith, s.within);
        whole = rw b s.whole;
        rest = rw (s.list, size_of_lem m (at + 4) n s.within, is, b) refl;
      }

  pub none_left : (r : Reason) → at ≤ length m → entry_at m at ≡ Err r → entries_from at (list_at m at) ≡ []
  unfolding entries_from
  none_left r k h =
      by_test (leb (length m) at)
      (λ p. rw (list_end m at (leb-true _ _ p)))
      (λ p.
      let c = entry_none m at r h in
      let s = step m at _ _ (leb-false _ _ p) w refl refl in
      absurd (omega (arith, s.within, (c.long (omega (arith, s.within))).1)))

-- there are no more extensions than bytes
entries_few : (at : ℕ) (es : List Extension) → length (entries_from at es) ≤ size_of es
unfolding entries_from size_of
entries_few at [] = omega arith
entries_few at (e ∷ es) = omega (arith, entries_few (at + 4 + length e.content) es)

pub entries_fit : (m : List ℕ) (at : ℕ) → at ≤ length m → well_formed_at m at ≡ true → length (entries_from at (list_at m at)) ≤ length m
entries_fit m at h w = omega (arith, entries_few at (list_at m at), list_size m at h w)

-- what `find` finds
pub data_found : (t at : ℕ) (es : List Extension) → option_map (λ (e : Entry). e.«data») (find (λ e. eqb e.kind t) (entries_from at es)) ≡ data_in t at es
unfolding entries_from data_in
data_found t at [] = refl
data_found t at (e ∷ es) =
    by_test (eqb e.kind t)
    (λ p. rw p)
    (λ p. rw p (data_found t (at + 4 + length e.content) es))

-- and where: within the list
pub data_within : (t at : ℕ) (es : List Extension) (p : Part) → data_in t at es ≡ Some p → behind p ≤ at + size_of es
unfolding data_in size_of
data_within t at [] p h = let z : ◌≡◌ {A = Option Part} None (Some p) = h in cc
data_within t at (e ∷ es) p h =
    by_test (eqb e.kind t)
    (λ q.
    let o : Some (part (at + 4) (length e.content)) ≡ Some p = rw q at h in
    let y : part (at + 4) (length e.content) ≡ p = cc in
    rw (← y) (omega arith))
    (λ q. omega (arith, data_within t (at + 4 + length e.content) es p (rw q at h)))

pub data_fits : (t : ℕ) (m : List ℕ) (at : ℕ) (p : Part) → at ≤ length m → well_formed_at m at ≡ true → data_in t at (list_at m at) ≡ Some p → behind p ≤ length m
data_fits t m at p h w e = omega (arith, data_within t at (list_at m at) p e, list_size m at h w)

-- it is there exactly where the type is, and is the part that the definition names
pub data_there : (t at : ℕ) (es : List Extension) → is_some (data_in t at es) ≡ has t es
unfolding data_in has
data_there t at [] = refl
data_there t at (e ∷ es) =
    by_test (eqb e.kind t)
    (λ p. rw p)
    (λ p. rw p (data_there t (at + 4 + length e.content) es))

pub data_part : (t at : ℕ) (es : List Extension) → unwrap_or (option_map bytes_part (data_in t at es)) (part 0 0) ≡ bytes_part (part_of t at es)
unfolding data_in part_of bytes_part
data_part t at [] = refl
data_part t at (e ∷ es) =
    by_test (eqb e.kind t)
    (λ p. rw p)
    (λ p. rw p (data_part t (at + 4 + length e.content) es))

-- what `any` says of types other than the two that are known
pub others_found : (at : ℕ) (es : List Extension) → list_any (λ (e : Entry). not (known_kind e.kind)) (entries_from at es) ≡ others_of es
unfolding entries_from others_of
others_found at [] = refl
others_found at (e ∷ es) = ap (λ (b : Bool). not (known_kind e.kind) || b) (others_found (at + 4 + length e.content) es)

-- an extension with its number
pub numbered : (all : List Entry) (i n : ℕ) (e : Entry) → (i < length (enumerate_from 0 all)) × ((n, e) ≡ get_or (enumerate_from 0 all) i (n, e))
    → (n ≡ i) × (i < length all) × (e ≡ get_or all i e)
numbered all i n e h =
    let l : i < length all = rw length-enumerate_from at h.0 in
    let g : (n, e) ≡ (0 + i, get_or all i e) = h.1 ∙ get_or-enumerate_from 0 all i (n, e) l in
    (ap (λ (p : ℕ × Entry). p.0) g ∙ zero-add i, l, ap (λ (p : ℕ × Entry). p.1) g)

-- the first that has the type of one before it
abbrev pub same_kind : ℕ → Entry → Bool
same_kind t e = eqb e.kind t

unfoldable pub first_repeat : List Entry → List Entry → Option Entry
first_repeat before [] = None
first_repeat before (e ∷ es) = pick (list_any (same_kind e.kind) before) (Some e) (first_repeat (before ++ e ∷ []) es)

-- Up to place n no type was found before.
module _ (all : List Entry) (n : ℕ) (e : Entry) (h : n < length all) (is : e ≡ get_or all n e) where
  front : drop n all ≡ e ∷ drop (n + 1) all
  front = rw (add-one, is) (drop-cons all n e h)

  pub repeat_now : list_any (same_kind e.kind) (take n all) ≡ true → first_repeat (take n all) (drop n all) ≡ Some e
  unfolding first_repeat
  repeat_now t = rw (front, t)

  pub repeat_later : list_any (same_kind e.kind) (take n all) ≡ false → first_repeat (take n all) (drop n all) ≡ first_repeat (take (n + 1) all) (drop (n + 1) all)
  unfolding first_repeat
  repeat_later t = rw (front, t, add-one, take-suc all n e h, ← is)

pub repeat_end : (all : List Entry) (n : ℕ) → length all ≤ n → first_repeat (take n all) (drop n all) ≡ None
unfolding first_repeat
repeat_end all n h = rw (drop_of_length-le all {i = n} h)

-- why it is refused, if it is
abbrev pub reason_of : Option Entry → Result ⊤ Reason
reason_of None = Ok tt
reason_of (Some e) = Err (reason.Repeated e.at)

-- the same by the extensions' definition, behind some that have the types of `before`
repeat_behind : (before : List Extension) (b : List Entry) → ((t : ℕ) → list_any (same_kind t) b ≡ has t before) → (at : ℕ) (es : List Extension)
    → reason_of (first_repeat b (entries_from at es)) ≡ pick (clash before es || twice es) (Err (reason.Repeated (repeat_from before at es))) (Ok tt)
unfolding first_repeat entries_from clash twice has
repeat_behind before b k at [] = refl
repeat_behind before b k at (e ∷ es) =
    by_test (has e.kind before)
    (λ p. let q : list_any (same_kind e.kind) b ≡ true = k e.kind ∙ p in rw (repeat_here before at e es p, p, q))
    (λ p.
    let q : list_any (same_kind e.kind) b ≡ false = k e.kind ∙ p in
    let x = entry_of at e.kind (length e.content) in
    let more : (t : ℕ) → list_any (same_kind t) (b ++ x ∷ []) ≡ has t (before ++ e ∷ []) = λ t. list_any-append (same_kind t) b (x ∷ []) ∙ (rw (k t)) ∙ sym (has_append t before (e ∷ [])) in
    let i = repeat_behind (before ++ e ∷ []) (b ++ x ∷ []) more (at + 4 + length e.content) es in
    rw (later_repeat before at e es _ refl p, p, q, i, clash_more before e es, or_assoc (clash before es) (has e.kind es) (twice es)))

pub repeat_found : (at : ℕ) (es : List Extension) → reason_of (first_repeat [] (entries_from at es)) ≡ differ_from at es
unfolding differ_from has
repeat_found at es = repeat_behind [] [] (λ t. refl) at es ∙ (rw (clash_none es))
