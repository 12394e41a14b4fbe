-- The writers' number and bytes, by what their helpers answer: one law for both hellos.
-- Assumes nothing.
use mathlib.Core.Path.{◌≡◌, refl, sym, ◌∙◌, ap}
use mathlib.Core.Bool.{Bool, true, false, not, ◌&&◌, ◌||◌}
use mathlib.Core.List.{List, [], ◌∷◌, ◌++◌}
use Prim.Native.Nat.{ℕ, ◌+◌, ◌≤◌}
use native.Mathlib.Omega.{arith}
use lib.Dec.{ltb, eqb}
use lib.ListN.{length, drop}
use borrow.Author.Tests.{ltb-false}
use Rattle.std.specs.Prelude.{Result, Ok, Err, MatchResult, ⊤, ◌⊎◌, Option, Some, None}
use Rattle.std.specs.Option.{ok_or}
use Rattle.std.proofs.Common.{inl, inr}
use Rattle.seqs.specs.Pick.{pick}
use Rattle.seqs.specs.Cases.{by_test, or_right}
use Rattle.refusal.specs.First.{first_of}
use Rattle.refusal.specs.Table.{refusal_of}
use Rattle.refusal.specs.Reason.{refusal_in}
use Rattle.refusal.specs.declared.reason.Reason.{Reason}
use Rattle.refusal.specs.declared.reason.Reason.TheVariants as reason
use Rattle.message.specs.Frame.{overlong}
use Rattle.hello.specs.Extensions.{twice}
use Rattle.hello.specs.Fields.{Hello}
use Rattle.hello.specs.Written.{written_block}
use Rattle.writing.specs.Lists.{fitting, extensions_from, misshapen}
use Rattle.writing.specs.Promise.{unblocked, write_number, Writes}
use Rattle.writing.specs.Tried.{written_of, Tries}
use Rattle.writing.specs.Steps.{repeats, block_size, size_or, list_outside, judged}
use Rattle.writing.specs.declared.judging.Written.{Written}
use Rattle.writing.proofs.Walking.{fitting_counts, fitting_sums}
use Rattle.writing.proofs.Listed.{written_long}
use Rattle.writing.proofs.Lending.{types_back, types_count, twice_repeats}

-- how many bytes an extension block has
pub closing_long : (b : Bool) (ts ns d : List ℕ) → fitting ts ns d ≡ true
    → length (pick b (written_block (extensions_from ts ns d)) []) ≡ block_size b (length ts) (length d)
unfolding written_block
closing_long true ts ns d h = let e = written_long ts ns d (fitting_counts ts ns d h) (fitting_sums ts ns d h) in omega arith
closing_long false ts ns d h = refl

-- an attempt, by its tests: outside its bounds, and else as judged
abbrev tried : Bool → Result ⊤ Reason → ℕ → Result ℕ Reason
tried true j n = Err reason.Length
tried false (Ok u) n = Ok n
tried false (Err r) n = Err r

-- it is answered with the number, and where that is 0 with the size
pub record Answers (number whole : ℕ) (r : Result ℕ Reason) : Type 0 where
  pub refusal : refusal_in r ≡ refusal_of number
  pub size : MatchResult r (λ n. (number ≡ 0) × (n ≡ whole)) (λ _. eqb number 0 ≡ false)

-- the tests of the definition, taken together as the code takes them
tests_join : (o n u v m t w s : Bool) (size : ℕ)
    → Answers (first_of ((10, o) ∷ (10, n) ∷ (10, u) ∷ (10, v) ∷ (1, m) ∷ (2, t) ∷ (3, w) ∷ (10, s) ∷ [])) size (tried (o || (n || (u || v))) (judged m t w s) size)
unfolding judged first_of refusal_of
tests_join true n u v m t w s size = record { refusal = refl; size = refl }
tests_join false true u v m t w s size = record { refusal = refl; size = refl }
tests_join false false true v m t w s size = record { refusal = refl; size = refl }
tests_join false false false true m t w s size = record { refusal = refl; size = refl }
tests_join false false false false true t w s size = record { refusal = refl; size = refl }
tests_join false false false false false true w s size = record { refusal = refl; size = refl }
tests_join false false false false false false true s size = record { refusal = refl; size = refl }
tests_join false false false false false false false true size = record { refusal = refl; size = refl }
tests_join false false false false false false false false size = record { refusal = refl; size = (refl, refl) }

-- why nothing is written, and what is
judged_ok : (m t w s : Bool) (u : ⊤) → Ok u ≡ judged m t w s → s ≡ false
unfolding judged
judged_ok true t w s u e = cc
judged_ok false true w s u e = cc
judged_ok false false true s u e = cc
judged_ok false false false true u e = cc
judged_ok false false false false u e = refl

-- the number, for either hello: o is the test of its fields, front the bytes before its extension block
module _ (outside : Hello → Bool) (bytes : Hello → List ℕ) (wrong : ℕ → Bool) (f : Hello) (ts ns d : List ℕ) (front : ℕ) (o : Bool) where
  abbrev sized : ℕ
  sized = front + block_size f.block (length ts) (length d)

  abbrev listed_outside : Bool
  listed_outside = list_outside front f.block (length ts) (length d)

  abbrev number : List ℕ → ℕ
  number out = write_number outside bytes wrong (fitting ts ns d) f out

  pub record Counts : Type 0 where
    pub list : f.extensions ≡ extensions_from ts ns d
    pub fields : o ≡ outside f
    pub long : fitting ts ns d ≡ true → o ≡ false → length (bytes f) ≡ sized

  module _ (k : Counts) (out : List ℕ) where
    count_from : fitting ts ns d ≡ true → length (extensions_from ts ns d) ≡ length ts
    count_from q = sym (types_count _) ∙ ap length (types_back ts ns d q)

    blocked : fitting ts ns d ≡ true → unblocked f ≡ (not f.block && not (eqb (length ts) 0))
    unfolding unblocked
    blocked q = rw (k.list, count_from q)

    over : length (bytes f) ≡ sized → overlong (bytes f) ≡ ltb 16388 sized
    unfolding overlong
    over l = rw l

    abbrev verdict : ℕ → Result ⊤ Reason
    verdict size = judged (misshapen (extensions_from ts ns d)) (repeats ts) (wrong f.version) (ltb (length out) size)

    -- fields outside their bounds, and lists that do not fit
    pub unbounded : (o ≡ true) ⊎ (fitting ts ns d ≡ false) → Answers (number out) sized (Err reason.Length)
    unfolding write_number
    unbounded (inl p) =
        let e : outside f ≡ true = sym k.fields ∙ p in
        rw e (tests_join true _ _ _ _ _ _ _ sized)
    unbounded (inr q) =
        by_test (outside f)
        (λ p. rw p (tests_join true _ _ _ _ _ _ _ sized))
        (λ p. rw (p, q) (tests_join false true _ _ _ _ _ _ sized))

    module _ (q : fitting ts ns d ≡ true) where
      bounded : o ≡ false → Answers (number out) sized (tried listed_outside (verdict sized) sized)
      unfolding write_number list_outside
      bounded p =
          let e : outside f ≡ false = sym k.fields ∙ p in
          let t : twice (extensions_from ts ns d) ≡ repeats ts = twice_repeats _ ∙ ap repeats (types_back ts ns d q) in
          let u : unblocked f ≡ (not f.block && not (eqb (length ts) 0)) = blocked q in
          let v : overlong (bytes f) ≡ ltb 16388 sized = over (k.long q p) in
          let s : ltb (length out) (length (bytes f)) ≡ ltb (length out) sized = ap (ltb (length out)) (k.long q p) in
          rw (q, e, u, v, s, k.list, t) (tests_join false false _ _ _ _ _ _ sized)

      -- no size was found
      pub unsized : (r : Reason) → Err r ≡ size_or (o || listed_outside) sized → Answers (number out) sized (Err r)
      unsized r h =
          by_test o
          (λ p. let e : Err r ≡ Err reason.Length = rw p at h in rw e (unbounded (inl p)))
          (λ p.
          by_test listed_outside
          (λ l. let e : Err r ≡ Err reason.Length = rw (p, l) at h in rw e (rw l at (bounded p)))
          (λ l. let e : ◌≡◌ {A = Result ℕ Reason} (Err r) (Ok sized) = rw (p, l) at h in cc))

      -- one was found
      module _ (n : ℕ) (h : Ok n ≡ size_or (o || listed_outside) sized) where
        record Sized : Type 0 where
          inside : o ≡ false
          listed : listed_outside ≡ false
          whole : n ≡ sized

        sizes : Sized
        sizes =
            by_test o
            (λ p. let e : ◌≡◌ {A = Result ℕ Reason} (Ok n) (Err reason.Length) = rw p at h in cc)
            (λ p.
            by_test listed_outside
            (λ l. let e : ◌≡◌ {A = Result ℕ Reason} (Ok n) (Err reason.Length) = rw (p, l) at h in cc)
            (λ l. let e : Ok n ≡ Ok sized = rw (p, l) at h in record { inside = p; listed = l; whole = cc }))

        pub unjudged : (r : Reason) → Err r ≡ verdict n → Answers (number out) sized (Err r)
        unjudged r e =
            let s = sizes in
            let j : verdict sized ≡ Err r = sym (rw s.whole at e) in
            rw (s.listed, j) at (bounded s.inside)

        -- what is known where it is written
        pub record Clear : Type 0 where
          pub bounded : o ≡ false
          pub whole : n ≡ sized
          pub written : n ≡ length (bytes f)
          pub short : n ≤ 16388
          pub space : n ≤ length out
          pub answer : Answers (number out) sized (Ok n)

        pub clear : (u : ⊤) → Ok u ≡ verdict n → Clear
        unfolding list_outside
        clear u e =
            let s = sizes in
            let j : verdict sized ≡ Ok u = sym (rw s.whole at e) in
            let a : Answers (number out) sized (Ok sized) = rw (s.listed, j) at (bounded s.inside) in
            record {
              bounded = s.inside;
              whole = s.whole;
              written = s.whole ∙ sym (k.long q s.inside);
              short = rw s.whole (ltb-false 16388 sized (or_right (not f.block && not (eqb (length ts) 0)) _ s.listed));
              space = ltb-false (length out) n (judged_ok _ _ _ _ u e);
              answer = rw s.whole a;
            }

-- refused, and done
pub refuses : {number size : ℕ} (message out : List ℕ) (r : Reason) → Answers number size (Err r) → Tries number message out out (Err r)
refuses message out r a = record { refusal = a.refusal; size = a.size; output = rw a.size }

pub writes : {number size : ℕ} {out' : List ℕ} (message out : List ℕ) (n : ℕ) → Answers number size (Ok n) → n ≡ length message
    → out' ≡ message ++ drop (length message) out → Tries number message out out' (Ok n)
writes message out n a s w = record { refusal = a.refusal; size = (a.size.0, s); output = rw a.size.0 w }

-- as it is handed over
pub handed : {number : ℕ} {message out out' : List ℕ} {w : Written} (r : Result ℕ Reason) → w ≡ written_of r → Tries number message out out' r
    → Writes number message out out' w
handed (Ok n) e t = record { refusal = rw e t.refusal; size = rw (e, t.size.0) t.size.1; output = t.output }
handed (Err r) e t = record { refusal = rw e t.refusal; size = rw (e, t.size); output = t.output }

-- what `ok_or` makes of an option
pub some_of : {A E : Type 0} (o : Option A) (e : E) (x : A) → ok_or o e ≡ Ok x → o ≡ Some x
some_of None e x h = let z : ◌≡◌ {A = Result _ _} (Err e) (Ok x) = h in cc
some_of (Some y) e x h = cc

pub none_of : {A E : Type 0} (o : Option A) (e r : E) → ok_or o e ≡ Err r → (o ≡ None) × (r ≡ e)
none_of None e r h = (refl, cc)
none_of (Some y) e r h = let z : ◌≡◌ {A = Result _ _} (Ok y) (Err r) = h in cc
