-- The fields of a hello whose bytes are bytes can be lent to a writer: they are bytes too, and numbers of 16 bits.
-- Assumes nothing.
use mathlib.Core.Path.{◌≡◌}
use mathlib.Core.Bool.{Bool, true, false, not, ◌&&◌}
use mathlib.Core.List.{List, [], ◌∷◌, ◌++◌}
use Prim.Native.Nat.{ℕ, zero, suc, ◌/◌, ◌<◌}
use native.Mathlib.Omega.{arith}
use lib.Dec.{eqb}
use lib.ListN.{length}
use borrow.Author.Tests.{not-false}
use Rattle.seqs.specs.Pick.{pick}
use Rattle.seqs.specs.Bytes.{Bytes}
use Rattle.seqs.proofs.Bytes.{bytes_none, bytes_append}
use Rattle.hello.specs.Extensions.{Extension}
use Rattle.hello.specs.Fields.{Hello}
use Rattle.hello.specs.Written.{two_bytes, written_list, written_block}
use Rattle.writing.specs.Lists.{types_of, lengths_of, data_of}
use Rattle.writing.specs.Messages.{message_of, vector8, vector16, opening_bytes, closing_bytes}
use Rattle.writing.specs.Promise.{unblocked}
use Rattle.writing.specs.RoundTrip.{Pairs, Lendable}
use Rattle.writing.proofs.Back.{client_body, server_body, empty}
use Rattle.writing.proofs.Forth.{bytes_left, bytes_right}

-- the extensions, by their bytes
record Lists (es : List Extension) : Type 0 where
  types : Pairs (types_of es)
  lengths : Pairs (lengths_of es)
  bytes : Bytes (data_of es)

pairs_none : Pairs []
pairs_none i = omega arith

pairs_more : (n : ℕ) (l : List ℕ) → n / 256 < 256 → Pairs l → Pairs (n ∷ l)
pairs_more n l h p zero = omega arith
pairs_more n l h p (suc i) = p i

none_lent : Lists []
unfolding types_of lengths_of data_of
none_lent = record { types = pairs_none; lengths = pairs_none; bytes = bytes_none }

list_lent : (es : List Extension) → Bytes (written_list es) → Lists es
unfolding written_list types_of lengths_of data_of
list_lent [] h = none_lent
list_lent (e ∷ es) h =
    let b : Bytes (e.content ++ written_list es) = λ i. h (suc (suc (suc (suc i)))) in
    let r = list_lent es (bytes_right e.content (written_list es) b) in
    record {
      types = pairs_more e.kind (types_of es) (h 0) r.types;
      lengths = pairs_more (length e.content) (lengths_of es) (h 2) r.lengths;
      bytes = bytes_append e.content (data_of es) (bytes_left e.content (written_list es) b) r.bytes;
    }

closing_lent : (b : Bool) (es : List Extension) → (not b && not (eqb (length es) 0)) ≡ false → Bytes (pick b (written_block es) []) → Lists es
unfolding written_block
closing_lent true es u h = list_lent es (λ i. h (suc (suc i)))
closing_lent false es u h = rw (empty es (not-false _ u)) none_lent

-- of either hello, by what stands between opening and closing
module _ (f : Hello) (s t : List ℕ) (h : Bytes (opening_bytes f ++ (s ++ (t ++ closing_bytes f)))) (u : unblocked f ≡ false) where
  body_lent : (Bytes s → Bytes f.suites) → (Bytes t → Bytes f.methods) → Lendable f
  unfolding unblocked
  body_lent suites methods =
      let o : Bytes (opening_bytes f) = bytes_left (opening_bytes f) (s ++ (t ++ closing_bytes f)) h in
      let r : Bytes (s ++ (t ++ closing_bytes f)) = bytes_right (opening_bytes f) (s ++ (t ++ closing_bytes f)) h in
      let q : Bytes (t ++ closing_bytes f) = bytes_right s (t ++ closing_bytes f) r in
      let i : Bytes (f.random ++ vector8 f.identifier) = λ i. o (suc (suc i)) in
      let l = closing_lent f.block f.extensions u (bytes_right t (closing_bytes f) q) in
      record {
        version = omega (arith, o 0);
        random = bytes_left f.random (vector8 f.identifier) i;
        identifier = bytes_right (length f.identifier ∷ []) f.identifier (bytes_right f.random (vector8 f.identifier) i);
        suites = suites (bytes_left s (t ++ closing_bytes f) r);
        methods = methods (bytes_left t (closing_bytes f) q);
        types = l.types;
        lengths = l.lengths;
        bytes = l.bytes;
      }

pub client_lent : (f : Hello) → Bytes (message_of 1 (client_body f)) → unblocked f ≡ false → Lendable f
client_lent f h u =
    body_lent f (vector16 f.suites) (vector8 f.methods) (λ i. h (suc (suc (suc (suc i))))) u
    (bytes_right (two_bytes (length f.suites)) f.suites)
    (bytes_right (length f.methods ∷ []) f.methods)

pub server_lent : (f : Hello) → Bytes (message_of 2 (server_body f)) → unblocked f ≡ false → Lendable f
server_lent f h u = body_lent f f.suites f.methods (λ i. h (suc (suc (suc (suc i))))) u (λ b. b) (λ b. b)
