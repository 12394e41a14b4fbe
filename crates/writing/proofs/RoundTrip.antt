-- The eight statements of specs/RoundTrip.antt.
-- Assumes nothing.
use mathlib.Core.Path.{◌≡◌, refl, sym, ◌∙◌, ap}
use mathlib.Core.Bool.{Bool, true, false}
use mathlib.Core.List.{List, [], ◌∷◌, ◌++◌}
use Prim.Native.Nat.{ℕ}
use native.Mathlib.Omega.{arith}
use lib.Dec.{eqb, ltb}
use lib.ListN.{length, take, drop}
use lib.Seq.{take-append_seam, drop-append_seam}
use borrow.Author.Tests.{eq-eqb, not-false}
use Rattle.seqs.specs.Pick.{pick}
use Rattle.seqs.specs.Bytes.{Bytes}
use Rattle.refusal.specs.Listed.{numbered}
use Rattle.refusal.proofs.First.{first_zero}
use Rattle.hello.specs.Layout.{big}
use Rattle.hello.specs.Fields.{Hello, Reading, fields, wrong_client_version, wrong_server_version, read_client, read_server}
use Rattle.hello.specs.Written.{two_bytes}
use Rattle.hello.proofs.Learnt.{server_bounds}
use Rattle.writing.specs.Lists.{fitting, extensions_from, types_of, lengths_of, data_of}
use Rattle.writing.specs.Messages.{client_bytes, server_bytes}
use Rattle.writing.specs.Promise.{client_outside, server_outside, write_number, Writes, client_of, server_of}
use Rattle.writing.specs.RoundTrip.{WrittenReads, ReadWrites, ClientWrittenReads, ServerWrittenReads, ClientReadWrites, ServerReadWrites, Reads, ClientCallReads, ServerCallReads, Rewrites, ClientCallWrites, ServerCallWrites}
use Rattle.writing.specs.declared.judging.Written.{Written}
use Rattle.writing.proofs.Lending.{from_lent, lent_fits, types_back, lengths_back, data_back}
use Rattle.writing.proofs.Back.{client_bytes_lem, server_bytes_lem, client_reads, server_reads}
use Rattle.writing.proofs.Forth.{one_forth, two_forth}
use Rattle.writing.proofs.Again.{client_forth, client_number_lem, server_forth, server_number_lem}
use Rattle.writing.proofs.Lent.{client_lent, server_lent}

pub client_written_reads : ClientWrittenReads
client_written_reads = client_reads

pub server_written_reads : ServerWrittenReads
server_written_reads = server_reads

pub client_read_writes : ClientReadWrites
client_read_writes m f h e = ((client_forth m f h e).is, client_number_lem m f h e)

pub server_read_writes : ServerReadWrites
server_read_writes m f h e = ((server_forth m f h e).is, server_number_lem m f h e)

-- 0 or 10, and what goes by it
short : {A : Type 0} (t : Bool) (a b : A) → pick (eqb (pick t 10 0) 0) a b ≡ pick t b a
short true a b = refl
short false a b = refl

-- the calls, of either hello
module _ (read : List ℕ → Reading) (outside : Hello → Bool) (bytes : Hello → List ℕ) (wrong : ℕ → Bool) where
  call_reads : WrittenReads read bytes (write_number outside bytes wrong)
      → (f : Hello) (ts ns d out out' : List ℕ) (r : Written) → f.extensions ≡ extensions_from ts ns d
      → Writes (write_number outside bytes wrong (fitting ts ns d) f out) (bytes f) out out' r → r.refusal.number ≡ 0
      → Reads read f ts ns d out out' r
  unfolding write_number
  call_reads back f ts ns d out out' r x w e =
      let n : write_number outside bytes wrong (fitting ts ns d) f out ≡ 0 = sym (numbered _ r.refusal w.refusal) ∙ e in
      let fits : fitting ts ns d ≡ true = not-false _ (first_zero _ refl n).1.0 in
      let z : eqb (write_number outside bytes wrong (fitting ts ns d) f out) 0 ≡ true = eq-eqb _ 0 n in
      let l : r.length ≡ length (bytes f) = rw z at w.size in
      let o : out' ≡ bytes f ++ drop (length (bytes f)) out = rw z at w.output in
      let same : read (take r.length out') ≡ fields f = rw (l, o, take-append_seam (bytes f) (drop (length (bytes f)) out)) (back f out (rw fits at n)) in
      record {
        same = same;
        never = λ n p q. let y : ◌≡◌ {A = ℕ} 0 1 = cc in omega arith;
        rest = rw (l, o) (drop-append_seam (bytes f) (drop (length (bytes f)) out));
        types_back = rw x (types_back ts ns d fits);
        lengths_back = rw x (lengths_back ts ns d fits);
        data_back = rw x (data_back ts ns d fits);
      }

  call_writes : ReadWrites read bytes (write_number outside bytes wrong)
      → (m : List ℕ) (f g : Hello) → Bytes m → read m ≡ fields f → g ≡ f → (fits : Bool) → fits ≡ true
      → (out out' : List ℕ) (r : Written) → Writes (write_number outside bytes wrong fits g out) (bytes g) out out' r
      → Rewrites m out out' r
  call_writes forth m f g h e s fits y out out' r w =
      let n : write_number outside bytes wrong fits g out ≡ pick (ltb (length out) (length m)) 10 0 = rw (s, y) ((forth m f h e).1 out) in
      let b : bytes g ≡ m = ap bytes s ∙ (forth m f h e).0 in
      let v : Writes (pick (ltb (length out) (length m)) 10 0) m out out' r = rw (n, b) at w in
      record { refusal = v.refusal; size = v.size ∙ short (ltb (length out) (length m)) _ _; output = v.output ∙ short (ltb (length out) (length m)) _ _ }

pub client_call_reads : ClientCallReads
client_call_reads version random identifier suites methods block types lengths bytes out out' r w e =
    call_reads read_client client_outside client_bytes wrong_client_version client_written_reads
    (client_of version random identifier suites methods block types lengths bytes) types lengths bytes out out' r refl w e

pub server_call_reads : ServerCallReads
server_call_reads version random identifier suite compression block types lengths bytes out out' r w e =
    call_reads read_server server_outside server_bytes wrong_server_version server_written_reads
    (server_of version random identifier suite compression block types lengths bytes) types lengths bytes out out' r refl w e

-- the fields of a message, lent
relent : (f : Hello)
    → client_of f.version f.random f.identifier f.suites f.methods f.block (types_of f.extensions) (lengths_of f.extensions) (data_of f.extensions) ≡ f
relent f = rw (from_lent f.extensions)

pub client_call_writes : ClientCallWrites
client_call_writes m f h e =
    let w = client_forth m f h e in (
      client_lent f (rw (← w.is, client_bytes_lem f) at h) w.blocked,
      call_writes read_client client_outside client_bytes wrong_client_version client_read_writes m f _ h e (relent f) _ (lent_fits f.extensions),
    )

pub server_call_writes : ServerCallWrites
server_call_writes m f h e =
    let w = server_forth m f h e in
    let b = server_bounds m f e in
    let l = server_lent f (rw (← w.is, server_bytes_lem f) at h) w.blocked in
    let s : two_bytes (big f.suites) ≡ f.suites = two_forth f.suites l.suites b.suite in
    let t : big f.methods ∷ [] ≡ f.methods = one_forth f.methods b.compression in (
      l,
      call_writes read_server server_outside server_bytes wrong_server_version server_read_writes m f _ h e (rw (s, t) (relent f)) _ (lent_fits f.extensions),
    )
