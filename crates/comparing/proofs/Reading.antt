-- Two hellos by the answers of their readers: nothing is compared where one does not read, and where both do, the fields at their places.
-- Assumes nothing.
use mathlib.Core.Path.{◌≡◌, sym, ◌∙◌, ap}
use mathlib.Core.Bool.{false}
use mathlib.Core.List.{List, ◌++◌, append_assoc}
use Prim.Native.Nat.{ℕ, ◌+◌}
use lib.ListN.{length, length-append}
use Rattle.octets.specs.Same.{same}
use Rattle.hello.specs.Fields.{Hello, Reading, fields, read_client, read_server}
use Rattle.cases.specs.Digits.{ascii, decimal}
use Rattle.comparing.specs.Differences.{common, field_differences, read_differences, hello_differences, message_differences}
use Rattle.comparing.specs.Comparison.{line, line_of, text}
use Rattle.comparing.specs.Steps.{Holds, Sees, hello_at, SeenWithin, reading_at}
use Rattle.comparing.specs.declared.fields.Fields.{Fields}
use Rattle.std.proofs.Common.{Option, Some, None}
use Rattle.comparing.proofs.Texts.{text_append}

pub seen_within : (m : List ℕ) (r : Reading) (v : Option Fields) → Sees m r v → SeenWithin m v
seen_within m r (Some x) = λ (f, e, h).
    record { random = h.random.within; identifier = h.identifier.within; suites = h.suites.within; methods = h.methods.within }
seen_within m r None = λ h. tt

both_read : (i : ℕ) (a b : List ℕ) (x y : Fields) (f g : Hello) → Holds a x f → Holds b y g
    → read_differences i (fields f) (fields g) ≡ read_differences i (fields (hello_at a x)) (fields (hello_at b y))
unfolding read_differences field_differences hello_at
both_read i a b x y f g p q =
    rw (p.version, q.version, p.random.is, q.random.is, p.identifier.is, q.identifier.is, p.suites.is, q.suites.is, p.methods.is, q.methods.is, p.extensions, q.extensions)

seen_both : (i : ℕ) (a b : List ℕ) (r s : Reading) (v w : Option Fields) → Sees a r v → Sees b s w
    → read_differences i r s ≡ read_differences i (reading_at a v) (reading_at b w)
unfolding read_differences reading_at
seen_both i a b r s None w = λ h k. rw h.2
seen_both i a b r s (Some x) None = λ h k. rw (h.1, k.2)
seen_both i a b r s (Some x) (Some y) = λ h k. rw (h.1, k.1) (both_read i a b x y h.0 k.0 h.2 k.2)

-- as the text, with the reading of each by its reader
pub seen_text : (i : ℕ) (a b : List ℕ) (r s : Reading) (v w : Option Fields) → Sees a r v → Sees b s w
    → text (read_differences i r s) ≡ text (read_differences i (reading_at a v) (reading_at b w))
seen_text i a b r s v w h k = ap text (seen_both i a b r s v w h k)

-- the line of the place where two messages differ
abbrev pub byte_line : ℕ → List ℕ → List ℕ → List ℕ
byte_line i m n = line i (ascii "byte ") (decimal (common m n))

-- two messages that differ: the place, and then as ClientHellos and as ServerHellos
module _ (i : ℕ) (m n : List ℕ) (e : same m n ≡ false) where
  pub differ_text : text (message_differences i m n)
      ≡ byte_line i m n ++ text (read_differences i (read_client m) (read_client n)) ++ text (read_differences i (read_server m) (read_server n))
  unfolding message_differences hello_differences text line_of
  differ_text =
      rw e
      (ap (λ (s : List ℕ). byte_line i m n ++ s) (text_append (read_differences i (read_client m) (read_client n)) (read_differences i (read_server m) (read_server n)))
      ∙ sym (append_assoc (byte_line i m n) (text (read_differences i (read_client m) (read_client n))) (text (read_differences i (read_server m) (read_server n)))))

  pub differ_long : length (text (message_differences i m n))
      ≡ length (byte_line i m n) + length (text (read_differences i (read_client m) (read_client n))) + length (text (read_differences i (read_server m) (read_server n)))
  differ_long = ap length differ_text ∙ simp length-append
