-- The session that a store strikes out, by its queue and its place there: each way out of the search for it is one of document
-- 01's five cases.
-- Assumes nothing.
use mathlib.Core.Path.{◌≡◌, sym, ◌∙◌, ap}
use mathlib.Core.Bool.{true, false}
use mathlib.Core.List.{List}
use Prim.Native.Nat.{ℕ, ◌≤◌, ◌<◌}
use lib.ListN.{length}
use Rattle.seqs.specs.Cut.{cut}
use Rattle.sessions.specs.Book.{Book, strike, there, is_of, is_named, holds, sought, fullest, struck}
use Rattle.sessions.specs.Keeps.{part_of, session_of}
use Rattle.sessions.specs.Places.{Goes}
use Rattle.sessions.proofs.Names.{named_of}
use Rattle.sessions.proofs.Parts.{part_length, part_first, part_sought, part_goes}
use Rattle.sessions.proofs.Places.{no_row, place, place_strike, place_oldest, place_none}
use Rattle.sessions.proofs.Ways.{struck_named, struck_eighth, struck_room, struck_own, struck_other}

-- q is the axle's queue
module _ (a : ℕ) (i : List ℕ) (b q : Book) (e : q ≡ part_of a b) where
  holds_is : holds a b ≡ length q
  holds_is = rw e (sym (part_length a b))

  pub leaves_named : place (is_named a i) q < length q → Goes a i b a (place (is_named a i) q)
  leaves_named h c =
      let y : there (sought a i b) ≡ true = ap there (sym (part_sought a i b) ∙ ap (sought a i) (sym e) ∙ place_oldest (is_named a i) (session_of a no_row) q h) in
      let k : cut (place (is_named a i) q) (part_of a b) ≡ strike (is_named a i) (part_of a b) = rw e (place_strike (is_named a i) (part_of a b)) in
      rw (struck_named a i b y) (part_goes b a (place (is_named a i) q) (is_named a i) (named_of a i) k c)

  module _ (past : length q ≤ place (is_named a i) q) where
    none : there (sought a i b) ≡ false
    none = ap there (sym (part_sought a i b) ∙ ap (sought a i) (sym e) ∙ place_none (is_named a i) q past)

    pub leaves_eighth : length q ≡ 8 → Goes a i b a 0
    leaves_eighth h c = rw (struck_eighth a i b none (holds_is ∙ h)) (part_goes b a 0 (is_of a) (λ s y. y) (sym (part_first a b)) c)

    module _ (few : length q ≡ 8 → ⊥) where
      pub leaves_none : length b < 32 → (c : ℕ) → part_of c (struck a i b) ≡ part_of c b
      leaves_none h c = rw (struck_room a i b none (λ x. few (sym holds_is ∙ x)) h)

      module _ (all : 32 ≤ length b) where
        pub leaves_own : 4 ≤ length q → Goes a i b a 0
        leaves_own h c =
            rw (struck_own a i b none (λ x. few (sym holds_is ∙ x)) all (rw holds_is h))
            (part_goes b a 0 (is_of a) (λ s y. y) (sym (part_first a b)) c)

        pub leaves_other : length q < 4 → Goes a i b (fullest b) 0
        leaves_other h c =
            rw (struck_other a i b none (λ x. few (sym holds_is ∙ x)) all (rw holds_is h))
            (part_goes b (fullest b) 0 (is_of (fullest b)) (λ s y. y) (sym (part_first (fullest b) b)) c)
