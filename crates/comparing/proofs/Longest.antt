-- How long the text of two cases can get (specs/Longest.antt): 106 bytes a pair of messages, and 5 for each of their bytes.
-- Assumes nothing.
use mathlib.Core.Path.{◌≡◌, refl}
use mathlib.Core.Bool.{Bool}
use mathlib.Core.List.{List, [], ◌∷◌, ◌++◌}
use Prim.Native.Nat.{ℕ, zero, suc, ◌+◌, ◌-◌, ◌*◌, ◌≤◌, ◌<◌}
use native.Mathlib.Omega.{arith}
use lib.ListN.{length, drop, length-append, length-take, length-drop}
use Rattle.seqs.specs.Bytes.{Bytes}
use Rattle.seqs.specs.Cases.{by_test}
use Rattle.octets.specs.Same.{same}
use Rattle.message.specs.Numbers.{byte_at}
use Rattle.cases.specs.Contents.{count_of, lengths_of, contents_size, parts_of, bodies_of, good_case}
use Rattle.cases.specs.Digits.{ascii, decimal}
use Rattle.cases.proofs.Bodies.{lengths_many, parts_many}
use Rattle.cases.proofs.Cases.{good_learnt}
use Rattle.cases.proofs.Decimals.{three_most, five_most}
use Rattle.hello.specs.Extensions.{Extension}
use Rattle.hello.specs.Fields.{Hello, Reading, fields, fault, client_form, server_form, read_client, read_server}
use Rattle.hello.specs.Places.{size_of, extensions_at, client_places, server_places, client_answer, server_answer}
use Rattle.hello.proofs.Laid.{clean}
use Rattle.hello.proofs.Learnt.{client_learnt, server_learnt}
use Rattle.comparing.specs.Differences.{How, first, second, byte, field, Difference, difference, unless, common, field_differences, extension_differences, read_differences, hello_differences, message_differences, alone, differences_from, differences}
use Rattle.comparing.specs.Comparison.{line_of, text, first_refused, second_refused, comparison}
use Rattle.comparing.specs.Longest.{Fits}
use Rattle.comparing.proofs.Texts.{line_long, two_long}
use Rattle.comparing.proofs.Counting.{unless_most, extensions_most}

-- the bytes of an extension are 4 at least, and those of a hello that was read all stand in its message
four_each : (es : List Extension) → 4 * length es ≤ size_of es
unfolding size_of
four_each [] = omega arith
four_each (e ∷ es) = omega (arith, four_each es)

abbrev HasRoom : List ℕ → Reading → Type 0
HasRoom m r = (f : Hello) → r ≡ fields f → 4 * length f.extensions ≤ length m

client_room : (m : List ℕ) → HasRoom m (read_client m)
unfolding client_answer client_places extensions_at
client_room m f e = omega (arith, (client_learnt m (client_places 4 f) (rw e)).extensions.ends, four_each f.extensions)

server_room : (m : List ℕ) → HasRoom m (read_server m)
unfolding server_answer server_places extensions_at
server_room m f e = omega (arith, (server_learnt m (server_places 4 f) (rw e)).extensions.ends, four_each f.extensions)

-- no message reads as both
one_kind : (m : List ℕ) (f g : Hello) → read_client m ≡ fields f → read_server m ≡ fields g → ⊥
unfolding read_client read_server
one_kind m f g d e = omega (arith, (clean client_form m f d).kind, (clean server_form m g e).kind)

none_most : length (text []) ≤ 0
unfolding text
none_most = omega arith

module _ (i : ℕ) (h : i < 1000) where
  -- the lines of one message
  byte_most : (p : ℕ) → length (line_of (difference i (byte p))) ≤ 15
  unfolding line_of ascii
  byte_most p = omega (arith, line_long i (ascii "byte ") (decimal p), three_most i h, five_most p)

  first_most : length (line_of (difference i first)) ≤ 10
  unfolding line_of ascii
  first_most = omega (arith, line_long i (ascii "first") [], three_most i h)

  second_most : length (line_of (difference i second)) ≤ 11
  unfolding line_of ascii
  second_most = omega (arith, line_long i (ascii "second") [], three_most i h)

  -- one field more
  field_more : (ds : List Difference) (b : Bool) (name : List ℕ) (k : ℕ) → length (text ds) ≤ k
      → length (text (ds ++ unless b (difference i (field name)))) ≤ k + 11 + length name
  unfolding line_of ascii
  field_more ds b name k g =
      omega
      (arith, two_long ds (unless b (difference i (field name))), unless_most b (difference i (field name)), line_long i (ascii "field ") name, three_most i h)

  fields_most : (f g : Hello) → length (text (field_differences i f g)) ≤ 91
  unfolding field_differences ascii
  fields_most f g =
      field_more _ _ (ascii "methods") 73
      (field_more _ _ (ascii "suites") 56
      (field_more _ _ (ascii "identifier") 35 (field_more _ _ (ascii "random") 18 (field_more [] _ (ascii "version") 0 none_most))))

  -- a line of an extension has 20 bytes, and an extension 4
  read_most : (m n : List ℕ) (r s : Reading) → HasRoom m r → HasRoom n s → length (text (read_differences i r s)) ≤ 91 + 5 * (length m + length n)
  unfolding read_differences text
  read_most m n (fault k p) s a b = omega arith
  read_most m n (fields f) (fault k p) a b = omega arith
  read_most m n (fields f) (fields g) a b =
      omega
      (arith, two_long (field_differences i f g) (extension_differences i f.extensions g.extensions), fields_most f g, extensions_most i h f.extensions g.extensions, a f refl, b g refl)

  read_none : (r s : Reading) (k p : ℕ) → r ≡ fault k p → length (text (read_differences i r s)) ≡ 0
  unfolding read_differences text
  read_none r s k p e = rw e

  module _ (m n : List ℕ) where
    hello_most : length (text (hello_differences i m n)) ≤ 91 + 5 * (length m + length n)
    unfolding hello_differences
    hello_most = go (read_client m) refl (read_server m) refl
      where
        both : length (text (hello_differences i m n))
            ≡ length (text (read_differences i (read_client m) (read_client n))) + length (text (read_differences i (read_server m) (read_server n)))
        both = two_long (read_differences i (read_client m) (read_client n)) (read_differences i (read_server m) (read_server n))

        go : (r : Reading) → read_client m ≡ r → (s : Reading) → read_server m ≡ s → length (text (hello_differences i m n)) ≤ 91 + 5 * (length m + length n)
        go (fault k p) d s e =
            omega
            (arith, both, read_none (read_client m) (read_client n) k p d, read_most m n (read_server m) (read_server n) (server_room m) (server_room n))
        go (fields f) d (fault k p) e =
            omega
            (arith, both, read_none (read_server m) (read_server n) k p e, read_most m n (read_client m) (read_client n) (client_room m) (client_room n))
        go (fields f) d (fields g) e = absurd (one_kind m f g d e)

    message_most : length (text (message_differences i m n)) ≤ 106 + 5 * (length m + length n)
    unfolding message_differences text
    message_most =
        by_test (same m n)
        (λ t. rw t (omega arith))
        (λ t.
        rw t
        (omega
        (arith, length-append (line_of (difference i (byte (common m n)))) (text (hello_differences i m n)), byte_most (common m n), hello_most)))

-- messages in one case only
alone_most : (k : How) → ((j : ℕ) → j < 1000 → length (line_of (difference j k)) ≤ 11) → (n i : ℕ) → i + n ≤ 1000 → length (text (alone k i n)) ≤ 106 * n
unfolding alone text
alone_most k f zero i h = omega arith
alone_most k f (suc n) i h =
    omega
    (arith, length-append (line_of (difference i k)) (text (alone k (i + 1) n)), f i (omega arith), alone_most k f n (i + 1) (omega arith))

-- how many bytes messages have together
sizes : List (List ℕ) → ℕ
sizes [] = 0
sizes (m ∷ ms) = length m + sizes ms

-- k messages at most in either case
all_most : (k i : ℕ) (ms ns : List (List ℕ)) → i + k ≤ 1000 → length ms ≤ k → length ns ≤ k
    → length (text (differences_from i ms ns)) ≤ 106 * k + 5 * (sizes ms + sizes ns)
unfolding differences_from sizes
all_most k i [] ns h p q = omega (arith, alone_most second second_most (length ns) i (omega arith))
all_most k i (m ∷ ms) [] h p q =
    omega (arith, alone_most first (λ j g. omega (arith, first_most j g)) (length (m ∷ ms)) i (omega arith))
all_most k i (m ∷ ms) (n ∷ ns) h p q =
    omega
    (arith, two_long (message_differences i m n) (differences_from (i + 1) ms ns), message_most i (omega arith) m n, all_most (k - 1) (i + 1) ms ns (omega arith) (omega arith) (omega arith))

-- the messages of a case: as many as counted, and no more bytes than it has
parts_most : (ns s : List ℕ) → sizes (parts_of ns s) ≤ length s
unfolding parts_of sizes
parts_most [] s = omega arith
parts_most (n ∷ ns) s = omega (arith, length-take n s, length-drop n s, parts_most ns (drop n s))

module _ (a : List ℕ) where
  bodies_many : Bytes a → length (bodies_of a) ≤ 255
  unfolding bodies_of lengths_of count_of byte_at
  bodies_many h =
      omega (arith, parts_many (lengths_of a) (drop (contents_size a) a), lengths_many (count_of a) (drop 1 a), h 0)

  bodies_most : sizes (bodies_of a) ≤ length a
  unfolding bodies_of
  bodies_most = omega (arith, parts_most (lengths_of a) (drop (contents_size a) a), length-drop (contents_size a) a)

pub fits : Fits
unfolding comparison differences first_refused second_refused ascii
fits a b f g =
    by_test (good_case a)
    (λ p.
    by_test (good_case b)
    (λ q.
    rw (p, q)
    (omega
    (arith, all_most 255 1 (bodies_of a) (bodies_of b) (omega arith) (bodies_many a f) (bodies_many b g), bodies_most a, bodies_most b, (good_learnt a p).short, (good_learnt b q).short)))
    (λ q. rw (p, q) (omega arith)))
    (λ p. rw p (omega arith))
