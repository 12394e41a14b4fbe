-- Hellos in bytes: what the statements of specs/RoundTrip.antt suppose can be met, each refusal can be met, and of several that apply the
-- first in document 01's order is answered. All of it is computed in proofs/Examples.antt.
-- Assumes nothing.
use Rattle.std.specs.Prelude.{◌≡◌, Bool, true, false, List, [], ◌∷◌, ◌++◌, ℕ, ◌-◌, length, replicate}
use Rattle.refusal.specs.Table.{refusal_of}
use Rattle.hello.specs.Extensions.{Extension, ri_kind, ems_kind}
use Rattle.hello.specs.Fields.{Hello, Reading, fields, read_client, read_server}
use Rattle.writing.specs.Lists.{fitting}
use Rattle.writing.specs.Messages.{client_bytes, server_bytes}
use Rattle.writing.specs.Promise.{client_number, server_number, WritesClient, WritesServer}

-- ---- the hellos

abbrev pub suites : List ℕ
suites = 0x00 ∷ 0x2f ∷ []

-- a random of zeros, the suite 00 2f and the method 00: of either kind
abbrev pub hello_of : ℕ → List ℕ → Bool → List Extension → Hello
hello_of version identifier block es =
    record {
      version = version;
      random = replicate 32 0;
      identifier = identifier;
      suites = suites;
      methods = 0 ∷ [];
      block = block;
      extensions = es;
    }

abbrev pub ext : ℕ → List ℕ → Extension
ext kind content = record { kind = kind; content = content }

-- our own offer: an empty RI, and EMS
abbrev pub offer : List Extension
offer = ext ri_kind (0 ∷ []) ∷ ext ems_kind [] ∷ []

abbrev pub smallest : Hello
smallest = hello_of 771 [] false []

abbrev pub empty_block : Hello
empty_block = hello_of 771 [] true []

abbrev pub offering : Hello
offering = hello_of 771 [] true offer

-- a type that we do not know, and its data
abbrev pub unknown : Hello
unknown = hello_of 771 [] true (ext 0x1234 (0xab ∷ 0xcd ∷ []) ∷ [])

-- a reply that names a session
abbrev pub replying : Hello
replying = hello_of 771 (0x09 ∷ 0x09 ∷ []) true offer

-- ---- their bytes

-- header, version 03 03 and random
abbrev pub head : ℕ → ℕ → List ℕ
head kind size = kind ∷ 0x00 ∷ 0x00 ∷ size ∷ 0x03 ∷ 0x03 ∷ replicate 32 0

-- suites and methods, as a ClientHello lists them and as a ServerHello names them
abbrev pub listed : List ℕ
listed = 0x00 ∷ 0x02 ∷ 0x00 ∷ 0x2f ∷ 0x01 ∷ 0x00 ∷ []

abbrev pub named : List ℕ
named = 0x00 ∷ 0x2f ∷ 0x00 ∷ []

abbrev pub offer_bytes : List ℕ
offer_bytes = 0x00 ∷ 0x09 ∷ 0xff ∷ 0x01 ∷ 0x00 ∷ 0x01 ∷ 0x00 ∷ 0x00 ∷ 0x17 ∷ 0x00 ∷ 0x00 ∷ []

abbrev pub smallest_client : List ℕ
smallest_client = head 0x01 0x29 ++ (0x00 ∷ []) ++ listed

abbrev pub empty_block_client : List ℕ
empty_block_client = head 0x01 0x2b ++ (0x00 ∷ []) ++ listed ++ (0x00 ∷ 0x00 ∷ [])

abbrev pub offering_client : List ℕ
offering_client = head 0x01 0x34 ++ (0x00 ∷ []) ++ listed ++ offer_bytes

abbrev pub unknown_client : List ℕ
unknown_client = head 0x01 0x31 ++ (0x00 ∷ []) ++ listed ++ (0x00 ∷ 0x06 ∷ 0x12 ∷ 0x34 ∷ 0x00 ∷ 0x02 ∷ 0xab ∷ 0xcd ∷ [])

abbrev pub smallest_server : List ℕ
smallest_server = head 0x02 0x26 ++ (0x00 ∷ []) ++ named

abbrev pub replying_server : List ℕ
replying_server = head 0x02 0x33 ++ (0x02 ∷ 0x09 ∷ 0x09 ∷ []) ++ named ++ offer_bytes

-- ---- what is said of each

-- f is written as the size bytes m and read from them: an output of that size will do, and one a byte shorter is refused
pub record Meets (read : List ℕ → Reading) (bytes : Hello → List ℕ) (number : Bool → Hello → List ℕ → ℕ) (f : Hello) (m : List ℕ) (size : ℕ) : Type 0 where
  pub sized : length m ≡ size
  pub writes : bytes f ≡ m
  pub accepts : number true f (replicate size 0) ≡ 0
  pub short : number true f (replicate (size - 1) 0) ≡ 10
  pub reads : read m ≡ fields f

-- the refusals of either writer, with room enough but for the last
abbrev pub room : List ℕ
room = replicate 100 0

abbrev pub long_identifier : List ℕ
long_identifier = replicate 33 0

-- EMS with data
abbrev pub bad_ems : Extension
bad_ems = ext ems_kind (0 ∷ [])

-- RI whose length byte does not count its bytes
abbrev pub bad_ri : Extension
bad_ri = ext ri_kind (1 ∷ [])

abbrev pub two_ems : List Extension
two_ems = ext ems_kind [] ∷ ext ems_kind [] ∷ []

pub record Refuses (number : Bool → Hello → List ℕ → ℕ) : Type 0 where
  -- an identifier of 33 bytes
  pub identifier : number true (hello_of 771 long_identifier false []) room ≡ 10
  -- a type without a length; lengths that are not the data's
  pub no_length : number (fitting (23 ∷ []) [] []) empty_block room ≡ 10
  pub other_total : number (fitting (23 ∷ []) (1 ∷ []) []) empty_block room ≡ 10
  -- no block, but an extension
  pub no_block : number true (hello_of 771 [] false offer) room ≡ 10
  pub ems : number true (hello_of 771 [] true (bad_ems ∷ [])) room ≡ 1
  pub ri : number true (hello_of 771 [] true (bad_ri ∷ [])) room ≡ 1
  pub twice : number true (hello_of 771 [] true two_ems) room ≡ 2
  -- 03 02
  pub version : number true (hello_of 770 [] false []) room ≡ 3
  -- the order: 10, 1, 2, 3 and, last, 10 for the output
  pub ten_before_one : number true (hello_of 771 long_identifier true (bad_ems ∷ [])) room ≡ 10
  pub one_before_two : number true (hello_of 771 [] true (bad_ems ∷ two_ems)) room ≡ 1
  pub two_before_three : number true (hello_of 770 [] true two_ems) room ≡ 2
  pub three_before_ten : number true (hello_of 770 [] false []) [] ≡ 3

-- both calls, with our offer lent and four bytes of room left over
abbrev pub four : List ℕ
four = replicate 4 0xee

pub record Called : Type 0 where
  pub client :
      WritesClient 771 (replicate 32 0) [] suites (0 ∷ []) true (ri_kind ∷ ems_kind ∷ []) (1 ∷ 0 ∷ []) (0 ∷ []) (replicate 60 0xee) (offering_client ++ four)
      (record { refusal = refusal_of 0; length = 56 })
  pub server :
      WritesServer 771 (replicate 32 0) (0x09 ∷ 0x09 ∷ []) 47 0 true (ri_kind ∷ ems_kind ∷ []) (1 ∷ 0 ∷ []) (0 ∷ []) (replicate 59 0xee) (replying_server ++ four)
      (record { refusal = refusal_of 0; length = 55 })
  -- refused, the output is as it was
  pub client_refused :
      WritesClient 770 (replicate 32 0) [] suites (0 ∷ []) true (ri_kind ∷ ems_kind ∷ []) (1 ∷ 0 ∷ []) (0 ∷ []) (replicate 60 0xee) (replicate 60 0xee)
      (record { refusal = refusal_of 3; length = 0 })
  pub server_refused :
      WritesServer 772 (replicate 32 0) [] 47 0 false [] [] [] (replicate 60 0xee) (replicate 60 0xee)
      (record { refusal = refusal_of 3; length = 0 })

pub record Witnesses : Type 0 where
  -- the smallest ClientHello; with an empty block it is another message
  pub client_smallest : Meets read_client client_bytes client_number smallest smallest_client 45
  pub client_empty_block : Meets read_client client_bytes client_number empty_block empty_block_client 47
  pub distinct : client_bytes smallest ≡ client_bytes empty_block → ⊥
  pub client_offering : Meets read_client client_bytes client_number offering offering_client 56
  pub client_unknown : Meets read_client client_bytes client_number unknown unknown_client 53
  pub server_smallest : Meets read_server server_bytes server_number smallest smallest_server 42
  pub server_replying : Meets read_server server_bytes server_number replying replying_server 55
  pub client_refuses : Refuses client_number
  pub server_refuses : Refuses server_number
  -- 03 04: higher ones pass in a ClientHello alone
  pub client_higher : client_number true (hello_of 772 [] false []) room ≡ 0
  pub server_higher : server_number true (hello_of 772 [] false []) room ≡ 3
  -- 16,388 bytes are the most: a byte of data more is refused
  pub client_longest : client_number true (hello_of 771 [] true (ext 0x1234 (replicate 16337 0) ∷ [])) (replicate 16389 0) ≡ 0
  pub client_overlong : client_number true (hello_of 771 [] true (ext 0x1234 (replicate 16338 0) ∷ [])) (replicate 16389 0) ≡ 10
  pub server_longest : server_number true (hello_of 771 [] true (ext 0x1234 (replicate 16340 0) ∷ [])) (replicate 16389 0) ≡ 0
  pub server_overlong : server_number true (hello_of 771 [] true (ext 0x1234 (replicate 16341 0) ∷ [])) (replicate 16389 0) ≡ 10
  pub called : Called
