-- The table of turns against document 01's orders: the words that lead from a place to a complete handshake, listed.
-- Assumes nothing.
use mathlib.Core.Path.{◌≡◌, refl, sym, ◌∙◌, ap, ap₂, subst}
use mathlib.Core.Bool.{Bool, true, false, ◌&&◌, ◌||◌, false≢true}
use mathlib.Core.Logic.{inl, inr}
use mathlib.Core.List.Memᴰ
use mathlib.Core.List.{List, [], ◌∷◌, ◌++◌, map, Memᴰ}
use Prim.Native.Nat.{ℕ, zero, suc, ◌+◌, ◌≤◌}
use native.Mathlib.Omega.{arith}
use lib.Dec.{eqb}
use lib.ListN.{length}
use borrow.Author.Tests.{eqb-true, ne_eqb}
use Rattle.seqs.specs.Pick.{pick}
use Rattle.seqs.specs.Cases.{by_test, and_left, and_right}
use Rattle.message_log.specs.Order.{Place, turns, is_due, look}
use Rattle.message_log.specs.Order.Place.{beginning, complete_full, complete_resumed, nowhere}
use Rattle.message_log.specs.Orders.{orders, Begins, walk, walks, Ended, Orderly}
use Rattle.message_log.specs.Stands.{number}
use Rattle.message_log.proofs.Turns.{passes, each_place, number_most, same_place, not_due, turned}

-- where an order ends, by the numbers
unfoldable pub ended : Place → Bool
ended p = eqb (number p) 13 || eqb (number p) 16

pub ended_true : (p : Place) → Ended p → ended p ≡ true
unfolding ended number
ended_true p (inl e) = rw e
ended_true p (inr e) = rw e

pub ended_at : (p : Place) → ended p ≡ true → Ended p
unfolding ended number
ended_at p e = go (eqb (number p) 13) refl e
  where
    go : (b : Bool) → eqb (number p) 13 ≡ b → (b || eqb (number p) 16) ≡ true → Ended p
    go true f g = inl (same_place p complete_full (eqb-true (number p) 13 f))
    go false f g = inr (same_place p complete_resumed (eqb-true (number p) 16 g))

-- the words of a row, from the words of the places that it leads to
prefixed : (Place → List (List ℕ)) → List (ℕ × Place) → List (List ℕ)
prefixed f [] = []
prefixed f ((kind, place) ∷ rest) = map (λ (l : List ℕ). kind ∷ l) (f place) ++ prefixed f rest

-- the words from a place to a complete handshake, of less than n types
words : ℕ → Bool → Place → List (List ℕ)
words zero resumes p = []
words (suc n) resumes p = pick (ended p) ([] ∷ []) [] ++ prefixed (words n resumes) (turns resumes p)

-- nothing leads back from nowhere
walk_nowhere : (resumes : Bool) (l : List ℕ) → walk resumes nowhere l ≡ nowhere
unfolding walk turns look
walk_nowhere resumes [] = refl
walk_nowhere resumes (kind ∷ rest) = walk_nowhere resumes rest

lost : (resumes : Bool) (l : List ℕ) → ended (walk resumes nowhere l) ≡ true → ⊥
unfolding ended number
lost resumes l e = false≢true (rw (walk_nowhere resumes l) at e)

last_place : (p : Place) → 17 ≤ number p → p ≡ nowhere
unfolding number passes
last_place p h = same_place p nowhere (omega (arith, number_most p))

mem_map : {k d : ℕ} {l : List ℕ} {ls : List (List ℕ)} → k ≡ d → Memᴰ l ls → Memᴰ (k ∷ l) (map (λ (x : List ℕ). d ∷ x) ls)
mem_map e (Memᴰ.head f) = Memᴰ.head (ap₂ {C = List ℕ} (λ a b. a ∷ b) e f)
mem_map e (Memᴰ.tail m) = Memᴰ.tail (mem_map e m)

in_row : (f : Place → List (List ℕ)) (kind : ℕ) (l : List ℕ) (row : List (ℕ × Place)) → (look kind row ≡ nowhere → ⊥)
    → Memᴰ l (f (look kind row)) → Memᴰ (kind ∷ l) (prefixed f row)
unfolding look prefixed
in_row f kind l [] z m = absurd (z refl)
in_row f kind l ((due, place) ∷ rest) z m = by_test (eqb kind due) refl z m (in_row f kind l rest)
  where
    by_test : (t : Bool) → eqb kind due ≡ t → (pick t place (look kind rest) ≡ nowhere → ⊥) → Memᴰ l (f (pick t place (look kind rest)))
        → ((look kind rest ≡ nowhere → ⊥) → Memᴰ l (f (look kind rest)) → Memᴰ (kind ∷ l) (prefixed f rest))
        → Memᴰ (kind ∷ l) (map (λ (x : List ℕ). due ∷ x) (f place) ++ prefixed f rest)
    by_test true e z m g = Memᴰ.append_left (prefixed f rest) (mem_map (eqb-true kind due e) m)
    by_test false e z m g = Memᴰ.append_right (map (λ (x : List ℕ). due ∷ x) (f place)) (g z m)

higher : (n : ℕ) (resumes : Bool) (p : Place) (kind : ℕ) → 17 ≤ suc n + number p → 17 ≤ n + number (look kind (turns resumes p))
unfolding number
higher n resumes p kind h =
    by_test (is_due kind (turns resumes p)) (λ d. omega (arith, (turned resumes p kind d).rises))
    (λ d. rw (not_due kind (turns resumes p) d) (omega arith))

find : (n : ℕ) (resumes : Bool) (p : Place) (l : List ℕ) → 17 ≤ n + number p → ended (walk resumes p l) ≡ true → Memᴰ l (words n resumes p)
unfolding words walk
find zero resumes p l h e = absurd (lost resumes l (rw (last_place p (omega arith)) at e))
find (suc n) resumes p [] h e = rw e (Memᴰ.head refl)
find (suc n) resumes p (kind ∷ rest) h e =
    Memᴰ.append_right (pick (ended p) ([] ∷ []) [])
    (in_row (words n resumes) kind rest (turns resumes p) (λ z. lost resumes rest (rw z at e))
    (find n resumes (look kind (turns resumes p)) rest (higher n resumes p kind h) e))

listed_words : (resumes : Bool) → words 17 resumes beginning ≡ orders resumes
unfolding words prefixed turns ended number
listed_words false = refl
listed_words true = refl

-- ---- what begins an order

pub walk_append : (resumes : Bool) (p : Place) (l rest : List ℕ) → walk resumes p (l ++ rest) ≡ walk resumes (walk resumes p l) rest
unfolding walk
walk_append resumes p [] rest = refl
walk_append resumes p (kind ∷ l) rest = walk_append resumes (look kind (turns resumes p)) l rest

pub walks_append : (resumes : Bool) (p : Place) (l rest : List ℕ)
    → walks resumes p (l ++ rest) ≡ (walks resumes p l && walks resumes (walk resumes p l) rest)
unfolding walks walk
walks_append resumes p [] rest = refl
walks_append resumes p (kind ∷ l) rest = rw (walks_append resumes (look kind (turns resumes p)) l rest) (and_assoc (is_due kind (turns resumes p)) _ _)
  where
    and_assoc : (a b c : Bool) → (a && (b && c)) ≡ ((a && b) && c)
    and_assoc true b c = refl
    and_assoc false b c = refl

-- messages in turn lead to higher and higher numbers, though not to nowhere's
pub climbs : (resumes : Bool) (p : Place) (l : List ℕ) → walks resumes p l ≡ true → number p + length l ≤ number (walk resumes p l)
unfolding walks walk
climbs resumes p [] e = omega arith
climbs resumes p (kind ∷ l) e =
    let due : Bool = is_due kind (turns resumes p) in
    let q : Place = look kind (turns resumes p) in
    omega (arith, (turned resumes p kind (and_left due (walks resumes q l) e)).rises, climbs resumes q l (and_right due (walks resumes q l) e))

walks_somewhere : (resumes : Bool) (p : Place) (l : List ℕ) → (number p ≡ 17 → ⊥) → walks resumes p l ≡ true → number (walk resumes p l) ≡ 17 → ⊥
unfolding walks walk
walks_somewhere resumes p [] z e = z
walks_somewhere resumes p (kind ∷ l) z e =
    let due : Bool = is_due kind (turns resumes p) in
    let q : Place = look kind (turns resumes p) in
    let t = turned resumes p kind (and_left due (walks resumes q l) e) in
    walks_somewhere resumes q l (λ y. omega (arith, t.most)) (and_right due (walks resumes q l) e)

-- the first turn of each row, on to the end
first : (Place → List ℕ) → List (ℕ × Place) → List ℕ
first f [] = []
first f ((kind, place) ∷ rest) = kind ∷ f place

way : ℕ → Bool → Place → List ℕ
way zero resumes p = []
way (suc n) resumes p = first (way n resumes) (turns resumes p)

-- and that is a way to the end, from every place but nowhere
way_ends : (resumes : Bool) (p : Place) → (eqb (number p) 17 || ended (walk resumes p (way 17 resumes p))) ≡ true
unfolding passes number ended walk way first look turns
way_ends true = each_place (λ q. eqb (number q) 17 || ended (walk true q (way 17 true q))) refl
way_ends false = each_place (λ q. eqb (number q) 17 || ended (walk false q (way 17 false q))) refl

-- ---- each order, followed

follow : Bool → List ℕ → Bool
follow resumes l = ended (walk resumes beginning l) && walks resumes beginning l

follows : Bool → List (List ℕ) → Bool
follows resumes [] = true
follows resumes (l ∷ ls) = follow resumes l && follows resumes ls

follows_each : (resumes : Bool) {l : List ℕ} {ls : List (List ℕ)} → Memᴰ l ls → follows resumes ls ≡ true → follow resumes l ≡ true
unfolding follows
follows_each resumes (Memᴰ.head {x = x} {xs = xs} e) w = ap (follow resumes) e ∙ and_left (follow resumes x) (follows resumes xs) w
follows_each resumes (Memᴰ.tail {x = x} {xs = xs} m) w = follows_each resumes m (and_right (follow resumes x) (follows resumes xs) w)

followed : (resumes : Bool) {l : List ℕ} → Memᴰ l (orders resumes) → follow resumes l ≡ true
unfolding follows follow walk walks is_due look turns ended number
followed false m = follows_each false m refl
followed true m = follows_each true m refl

-- 'Full order by type: ..'
pub orderly : (resumes : Bool) → Orderly resumes
unfolding follow number
orderly resumes = record { every = every; only = only; along = along; begins = begins }
  where
    every : (l : List ℕ) → Memᴰ l (orders resumes) → Ended (walk resumes beginning l)
    every l m = ended_at (walk resumes beginning l) (and_left (ended (walk resumes beginning l)) (walks resumes beginning l) (followed resumes m))

    only : (l : List ℕ) → Ended (walk resumes beginning l) → Memᴰ l (orders resumes)
    only l e = subst (Memᴰ l) (listed_words resumes) (find 17 resumes beginning l (omega arith) (ended_true (walk resumes beginning l) e))

    along : (l : List ℕ) → Begins resumes l → walks resumes beginning l ≡ true
    along l (rest, m) =
        and_left (walks resumes beginning l) (walks resumes (walk resumes beginning l) rest)
        (sym (walks_append resumes beginning l rest)
        ∙ and_right (ended (walk resumes beginning (l ++ rest))) (walks resumes beginning (l ++ rest)) (followed resumes m))

    begins : (l : List ℕ) → walks resumes beginning l ≡ true → Begins resumes l
    begins l e =
        let p : Place = walk resumes beginning l in
        let r : List ℕ = way 17 resumes p in
        let f : ended (walk resumes p r) ≡ true = rw (ne_eqb (number p) 17 (walks_somewhere resumes beginning l (λ z. omega arith) e)) at (way_ends resumes p) in
        (r, only (l ++ r) (ended_at (walk resumes beginning (l ++ r)) (rw (walk_append resumes beginning l r) f)))
