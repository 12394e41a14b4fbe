-- What a caller learns of a hello that was read: the fields of the definition; that each stands, whole and within the message, at the
-- place that the answer gives; what the flags say; and document 01's bounds. All of it follows from the promise of the readers
-- (`client_learnt`, `server_learnt` in proofs/Learnt.antt).
-- Assumes nothing.
use Rattle.std.specs.Prelude.{◌≡◌, Bool, false, List, ℕ, ◌+◌, ◌%◌, ◌≤◌, length}
use Rattle.std.proofs.Math.Option.{none, some}
use Rattle.seqs.specs.Flag.{bit}
use Rattle.hello.specs.Layout.{parsed, big}
use Rattle.hello.specs.Extensions.{Extension, extensions_of, twice, indication_of, ems_of, others_of}
use Rattle.hello.specs.Fields.{Hello, fields, signal_in, client_form, server_form, read_client, read_server}
use Rattle.hello.specs.Places.{part, behind, bytes_at, Points, client_places, server_places}
use Rattle.hello.specs.declared.parts.Extensions.{Extensions}
use Rattle.hello.specs.declared.client.ClientHello.{ClientHello}
use Rattle.hello.specs.declared.server.ServerHello.{ServerHello}

-- what is said of the extensions es
pub record ExtensionsLearnt (m : List ℕ) (x : Extensions) (b : Bool) (es : List Extension) : Type 0 where
  pub block : x.block ≡ bit b
  -- the bytes of the list are these extensions, and the end of the message
  pub list : extensions_of (record { at = x.list.at; bytes = bytes_at m x.list }) ≡ parsed es
  pub ends : behind x.list ≡ length m
  -- the RI, and its bytes
  pub indicated : (bytes : List ℕ) → indication_of es ≡ some bytes → x.indicated ≡ 1
  pub indication : (bytes : List ℕ) → indication_of es ≡ some bytes → Points m x.indication bytes
  -- or none: an empty part at place 0 stands for it
  pub absent : indication_of es ≡ none → (x.indicated ≡ 0) × (x.indication ≡ part 0 0)
  pub bounded : behind x.indication ≤ length m
  pub ems : x.ems ≡ bit (ems_of es)
  pub others : x.others ≡ bit (others_of es)

-- document 01's bounds of a ClientHello
pub record ClientBounds (m : List ℕ) (h : Hello) : Type 0 where
  pub shortest : 45 ≤ length m
  pub longest : length m ≤ 16388
  pub version : 771 ≤ h.version
  pub random : length h.random ≡ 32
  pub identifier : length h.identifier ≤ 32
  pub suites_from : 2 ≤ length h.suites
  pub suites_to : length h.suites ≤ 65534
  pub suites_even : length h.suites % 2 ≡ 0
  pub methods_from : 1 ≤ length h.methods
  pub methods_to : length h.methods ≤ 255
  pub types_differ : twice h.extensions ≡ false

-- and of a ServerHello
pub record ServerBounds (m : List ℕ) (h : Hello) : Type 0 where
  pub shortest : 42 ≤ length m
  pub longest : length m ≤ 16388
  pub version : h.version ≡ 771
  pub random : length h.random ≡ 32
  pub identifier : length h.identifier ≤ 32
  pub suite : length h.suites ≡ 2
  pub compression : length h.methods ≡ 1
  pub types_differ : twice h.extensions ≡ false

pub record ClientLearnt (m : List ℕ) (h : ClientHello) : Type 0 where
  pub hello : Hello
  pub reading : read_client m ≡ fields hello
  pub places : h ≡ client_places client_form.start hello
  pub version : h.version ≡ hello.version
  pub random : Points m h.random hello.random
  pub identifier : Points m h.identifier hello.identifier
  pub suites : Points m h.suites hello.suites
  pub methods : Points m h.methods hello.methods
  pub signal : h.signal ≡ bit (signal_in hello.suites)
  pub extensions : ExtensionsLearnt m h.extensions hello.block hello.extensions
  pub bounds : ClientBounds m hello

pub record ServerLearnt (m : List ℕ) (h : ServerHello) : Type 0 where
  pub hello : Hello
  pub reading : read_server m ≡ fields hello
  pub places : h ≡ server_places server_form.start hello
  pub version : h.version ≡ hello.version
  pub random : Points m h.random hello.random
  pub identifier : Points m h.identifier hello.identifier
  -- where the suite stands, behind the identifier, and the compression method, behind the suite
  pub suites : Points m (part (behind h.identifier) 2) hello.suites
  pub methods : Points m (part (behind h.identifier + 2) 1) hello.methods
  -- both are handed over as numbers
  pub suite : h.suite ≡ big hello.suites
  pub compression : h.compression ≡ big hello.methods
  pub extensions : ExtensionsLearnt m h.extensions hello.block hello.extensions
  pub bounds : ServerBounds m hello
