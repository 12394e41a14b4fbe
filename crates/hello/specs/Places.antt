-- The answers of the two readers: the fields as places in the message, counted from its first byte, or the refusal. Every place
-- follows from the lengths of the fields before it.
-- Assumes nothing.
use Rattle.std.specs.Prelude.{◌≡◌, Bool, List, [], ◌∷◌, ℕ, ◌+◌, ◌-◌, ◌≤◌, eqb, length, take, drop, Result, Ok, Err}
use Rattle.seqs.specs.Pick.{pick}
use Rattle.seqs.specs.Flag.{bit}
use Rattle.refusal.specs.Table.{refusal_at}
use Rattle.refusal.specs.declared.Refusal.{Refusal}
use Rattle.hello.specs.Layout.{big}
use Rattle.hello.specs.Extensions.{Extension, ri_kind, ems_kind, has, others_of}
use Rattle.hello.specs.Fields.{Hello, Reading, fields, fault, signal_in, identifier_at, suites_at, methods_at, client_list_at, server_list_at, client_form, server_form}
use Rattle.hello.specs.declared.parts.Part.{Part}
use Rattle.hello.specs.declared.parts.Extensions.{Extensions}
use Rattle.hello.specs.declared.client.ClientHello.{ClientHello}
use Rattle.hello.specs.declared.server.ServerHello.{ServerHello}

abbrev pub part : ℕ → ℕ → Part
part at n = record { at = at; length = n }

-- the place behind a part
abbrev pub behind : Part → ℕ
behind p = p.at + p.length

-- the bytes of a message that a part is
abbrev pub bytes_at : List ℕ → Part → List ℕ
bytes_at m p = take p.length (drop p.at m)

-- the part p, whole and within the message m, is the list l
pub record Points (m : List ℕ) (p : Part) (l : List ℕ) : Type 0 where
  pub within : behind p ≤ length m
  pub is : bytes_at m p ≡ l

-- how many bytes a list of extensions takes
unfoldable pub size_of : List Extension → ℕ
size_of [] = 0
size_of (e ∷ es) = 4 + length e.content + size_of es

-- the data of the first extension of type t in a list that begins at place at; at place 0 if there is none
unfoldable pub part_of : ℕ → ℕ → List Extension → Part
part_of t at [] = part 0 0
part_of t at (e ∷ es) = pick (eqb e.kind t) (part (at + 4) (length e.content)) (part_of t (at + 4 + length e.content) es)

-- the bytes of an RI, behind its length byte
unfoldable pub bytes_part : Part → Part
bytes_part p = pick (eqb p.length 0) (part 0 0) (part (p.at + 1) (p.length - 1))

-- what is said of the extensions of a list that begins at place at
unfoldable pub extensions_at : Bool → ℕ → List Extension → Extensions
extensions_at block at es =
    record {
      block = bit block;
      list = part at (size_of es);
      indicated = bit (has ri_kind es);
      indication = bytes_part (part_of ri_kind at es);
      ems = bit (has ems_kind es);
      others = bit (others_of es);
    }

-- the parts of a hello whose body begins at place start
abbrev pub identifier_part : ℕ → Hello → Part
identifier_part start f = part (identifier_at start) (length f.identifier)

unfoldable pub client_places : ℕ → Hello → ClientHello
client_places start f =
    record {
      version = f.version;
      random = part (start + 2) 32;
      identifier = identifier_part start f;
      suites = part (suites_at start f) (length f.suites);
      methods = part (methods_at start f) (length f.methods);
      signal = bit (signal_in f.suites);
      extensions = extensions_at f.block (client_list_at start f) f.extensions;
    }

unfoldable pub server_places : ℕ → Hello → ServerHello
server_places start f =
    record {
      version = f.version;
      random = part (start + 2) 32;
      identifier = identifier_part start f;
      suite = big f.suites;
      compression = big f.methods;
      extensions = extensions_at f.block (server_list_at start f) f.extensions;
    }

unfoldable pub client_answer : Reading → Result ClientHello Refusal
client_answer (fields f) = Ok (client_places client_form.start f)
client_answer (fault n p) = Err (refusal_at n p)

unfoldable pub server_answer : Reading → Result ServerHello Refusal
server_answer (fields f) = Ok (server_places server_form.start f)
server_answer (fault n p) = Err (refusal_at n p)
