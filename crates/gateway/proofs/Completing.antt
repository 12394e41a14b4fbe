-- Completion by its tests, and what every outcome of it has in common.
-- Assumes nothing.
use mathlib.Core.Path.{◌≡◌, refl, sym, ◌∙◌, ap, subst}
use mathlib.Core.Bool.{Bool, true, false, not, ◌&&◌, false≢true, beq}
use mir.Val.{bool_byte}
use native.Mathlib.Omega.{arith}
use mathlib.Core.List.{List, [], ◌∷◌}
use Prim.Native.Nat.{ℕ}
use lib.Dec.{eqb}
use borrow.Author.Tests.{eq-eqb, ne_eqb, not-false}
use Rattle.seqs.specs.Pick.{pick}
use Rattle.seqs.specs.Flag.{yes, bit}
use Rattle.seqs.specs.Cases.{and_right}
use Rattle.refusal.specs.First.{first_of}
use Rattle.refusal.specs.Table.{refusal_of}
use Rattle.refusal.specs.Listed.{row_number, numbered}
use Rattle.refusal.proofs.First.{first_zero}
use Rattle.refusal.specs.declared.Refusal.{Refusal}
use Rattle.message_log.specs.History.{complete, verify_data_of}
use Rattle.message_log.specs.History.History.{fresh}
use Rattle.message_log.specs.History.Side.{client, server}
use Rattle.message_log.specs.Standing.{Standing, history_of, between}
use Rattle.message_log.specs.Standing.Standing.{whole, parted}
use Rattle.message_log.specs.Calls.{finished_of}
use Rattle.message_log.specs.Stands.{Stands}
use Rattle.message_log.specs.Runs.{standing_from, Came}
use Rattle.message_log.proofs.Runs.{law}
use Rattle.message_log.specs.declared.state.Log.{Log}
use Rattle.message_log.specs.declared.answers.Finished.{Finished}
use Rattle.decision.specs.declared.connection.Connection.{Connection}
use Rattle.decision.specs.declared.connection.Decision.{Decision}
use Rattle.gateway.specs.Completion.{Completed, complete_number, completed_record, completed_of, Completes, WritesChecked, NotBetween}

-- flags as the code compares and writes them
pub byte_bit : (t : Bool) → bool_byte t ≡ bit t
byte_bit true = refl
byte_bit false = refl

pub alike : (x y : Bool) → not (beq x y) ≡ false → bit x ≡ bit y
alike true true e = refl
alike true false e = absurd (false≢true (sym e))
alike false true e = absurd (false≢true (sym e))
alike false false e = refl

pub unlike : (x y : Bool) → not (beq x y) ≡ true → bit x ≡ bit y → ⊥
unlike true true e = absurd (false≢true e)
unlike true false e = λ f. let z : ◌≡◌ {A = ℕ} 1 0 = f in absurd (omega arith)
unlike false true e = λ f. let z : ◌≡◌ {A = ℕ} 0 1 = f in absurd (omega arith)
unlike false false e = absurd (false≢true e)

-- 7, and the record as it was
abbrev pub refused_with : Connection → Completed
refused_with c = record { refusal = refusal_of 7; connection = c }

module _ (c : Connection) (f : Finished) (d : Decision) where
  pub incomplete : f.complete ≡ 0 → refused_with c ≡ completed_of c f d
  unfolding completed_of complete_number first_of
  incomplete h = rw (eq-eqb f.complete 0 h)

  pub undecided : (f.complete ≡ 0 → ⊥) → (d.refusal.number ≡ 0 → ⊥) → refused_with c ≡ completed_of c f d
  unfolding completed_of complete_number first_of
  undecided h k = rw (ne_eqb f.complete 0 h, ne_eqb d.refusal.number 0 k)

  pub disagreeing : (f.complete ≡ 0 → ⊥) → d.refusal.number ≡ 0 → (bit (yes f.resumed) ≡ bit (yes d.resumes) → ⊥)
      → refused_with c ≡ completed_of c f d
  unfolding completed_of complete_number first_of
  disagreeing h k l = rw (ne_eqb f.complete 0 h, eq-eqb d.refusal.number 0 k, ne_eqb (bit (yes f.resumed)) (bit (yes d.resumes)) l)

  pub agreeing : (f.complete ≡ 0 → ⊥) → d.refusal.number ≡ 0 → bit (yes f.resumed) ≡ bit (yes d.resumes)
      → record { refusal = refusal_of 0; connection = completed_record f d } ≡ completed_of c f d
  unfolding completed_of complete_number first_of
  agreeing h k l = rw (ne_eqb f.complete 0 h, eq-eqb d.refusal.number 0 k, eq-eqb (bit (yes f.resumed)) (bit (yes d.resumes)) l)

-- what completion promises, of an outcome that is the definition's
module _ (c : Connection) (log : Log) (f : Finished) (d : Decision) where
  kept : (n : ℕ) → ((refusal_of n).number ≡ 0 → ⊥) → pick (eqb n 0) (completed_record f d) c ≡ c
  kept n h = rw (ne_eqb n 0 (λ z. h (row_number n ∙ z)))

  pub completes : (r : Completed) → r ≡ completed_of c f d → ((s : Standing) → Stands log s → f ≡ finished_of s)
      → Completes c log d r.refusal r.connection
  unfolding completed_of
  completes r e s =
      let i = ap (λ (x : Completed). x.refusal) e in
      let j = ap (λ (x : Completed). x.connection) e in
      record {
        finished = f;
        refusal = i;
        connection = j;
        kept = λ h. j ∙ kept (complete_number f d) (λ z. h (ap (λ (x : Refusal). x.number) i ∙ z));
        stands = s;
      }

-- ---- order 6: what is written was checked

-- a log that says that it is complete is, and hands out each side's value
module _ (s : Standing) (f : Finished) (e : f ≡ finished_of s) where
  -- nothing is said between parts
  said : Bool
  said = not (between s) && complete (history_of s)

  says : yes f.complete ≡ true → said ≡ true
  unfolding said finished_of
  says y = go said refl (rw e at y)
    where
      go : (b : Bool) → said ≡ b → yes (finished_of s).complete ≡ true → said ≡ true
      go true p y = p
      go false p y = absurd (false≢true (rw p at y))

  says_complete : yes f.complete ≡ true → complete (history_of s) ≡ true
  unfolding said
  says_complete y = and_right (not (between s)) (complete (history_of s)) (says y)

  values : yes f.complete ≡ true → (f.client ≡ verify_data_of client (history_of s)) × (f.server ≡ verify_data_of server (history_of s))
  unfolding said finished_of
  values y = rw (e, says y) (refl, refl)

pub writes_checked : WritesChecked
unfolding completed_of complete_number
writes_checked begun log cs s run was after d r p z =
    let f = p.finished in
    let g = standing_from (whole fresh) cs in
    let h = history_of g in
    let l = law begun log cs s run in
    let n : complete_number f d ≡ 0 = sym (numbered (complete_number f d) r p.refusal) ∙ z in
    let none = first_zero ((7, not (yes f.complete)) ∷ (7, not (eqb d.refusal.number 0)) ∷ (7, not (eqb (bit (yes f.resumed)) (bit (yes d.resumes)))) ∷ []) refl n in
    let e : f ≡ finished_of g = p.stands g l.stands in
    let y : yes f.complete ≡ true = not-false (yes f.complete) none.0 in
    let c : complete h ≡ true = says_complete g f e y in
    let v = values g f e y in
    let w : after ≡ completed_record f d = p.connection ∙ (rw n) in (
      subst (λ (x : List ℕ). Came client h x) (sym (ap (λ (x : Connection). x.client) w ∙ v.0)) (l.came c client),
      subst (λ (x : List ℕ). Came server h x) (sym (ap (λ (x : Connection). x.server) w ∙ v.1)) (l.came c server),
    )

pub not_between : NotBetween
unfolding completed_of complete_number finished_of first_of
not_between log (whole h) st b was after d r c = absurd (false≢true b)
not_between log (parted h p) st b was after d r c =
    let f = c.stands (parted h p) st in
    (c.refusal ∙ ap (λ (x : Finished). (completed_of was x d).refusal) f, c.connection ∙ ap (λ (x : Finished). (completed_of was x d).connection) f)
