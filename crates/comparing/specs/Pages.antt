-- What is put to a page, from its place on.
-- Assumes nothing.
use Rattle.std.specs.Prelude.{◌≡◌, List, ℕ, ◌+◌, ◌≤◌, length}
use Rattle.octets.specs.Placed.{placed}
use Rattle.comparing.specs.declared.lines.Page.{Page}

-- s fits behind what stands on the page
abbrev pub HasRoom : Page → List ℕ → Type 0
HasRoom p s = p.at + length s ≤ length p.out.now

-- s is put to the page p, which leaves p', the place behind s: the page is of the same output, and what s is not put over stays
pub record Puts (p : Page) (s : List ℕ) (p' : Page) : Type 0 where
  pub same : p'.out.ghost_name ≡ p.out.ghost_name
  pub long : length p'.out.now ≡ length p.out.now
  pub place : p'.at ≡ p.at + length s
  pub out : p'.out.now ≡ placed p.out.now p.at s
