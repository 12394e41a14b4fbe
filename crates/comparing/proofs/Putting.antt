-- Texts put one behind the other to a page, as the promises of those who write them say it.
-- Assumes nothing.
use Rattle.std.proofs.Common.{◌≡◌, List, [], ◌++◌, ℕ, ◌+◌, ◌≤◌, length, refl, sym, ◌∙◌, ap, arith, length-append}
use Rattle.octets.specs.Placed.{placed}
use Rattle.octets.proofs.Placing.{placed_nothing, placed_more}
use Rattle.comparing.specs.Pages.{HasRoom, Puts}
use Rattle.comparing.specs.declared.lines.Page.{Page}

pub puts_none : (p : Page) → Puts p [] p
puts_none p = record { same = refl; long = refl; place = omega arith; out = sym (placed_nothing p.out.now p.at) }

pub puts_both : {p p₁ p₂ : Page} {s t : List ℕ} → HasRoom p s → Puts p s p₁ → Puts p₁ t p₂ → Puts p (s ++ t) p₂
puts_both {p = p} {p₁ = p₁} {s = s} {t = t} h a b =
    record {
      same = b.same ∙ a.same;
      long = b.long ∙ a.long;
      place = omega (arith, a.place, b.place, length-append s t);
      out = placed_more p.out.now p.at p₁.at s t h a.place a.out b.out;
    }

-- while a loop writes: what is written with the rest behind it is the whole
pub record Writing (p : Page) (whole : List ℕ) (p₁ : Page) (rest : List ℕ) : Type 0 where
  pub room : p₁.at + length rest ≤ length p₁.out.now
  pub same : p₁.out.ghost_name ≡ p.out.ghost_name
  pub long : length p₁.out.now ≡ length p.out.now
  pub place : p₁.at + length rest ≡ p.at + length whole
  pub out : placed p₁.out.now p₁.at rest ≡ placed p.out.now p.at whole

pub writing_all : (p : Page) (whole : List ℕ) → HasRoom p whole → Writing p whole p whole
writing_all p whole h = record { room = h; same = refl; long = refl; place = refl; out = refl }

-- there is room for what comes next
pub writing_room : {p p₁ : Page} {whole rest : List ℕ} (s t : List ℕ) → Writing p whole p₁ rest → rest ≡ s ++ t → HasRoom p₁ s
writing_room s t l e = omega (arith, l.room, ap length e, length-append s t)

pub writing_more : {p p₁ p₂ : Page} {whole rest s t : List ℕ} → Writing p whole p₁ rest → rest ≡ s ++ t → Puts p₁ s p₂ → Writing p whole p₂ t
writing_more {p₁ = p₁} {p₂ = p₂} {rest = rest} {s = s} {t = t} l e a =
    let n : length rest ≡ length s + length t = ap length e ∙ length-append s t in
    let h : p₁.at + length s ≤ length p₁.out.now = writing_room s t l e in
    record {
      room = omega (arith, l.room, a.place, a.long, n);
      same = a.same ∙ l.same;
      long = a.long ∙ l.long;
      place = omega (arith, l.place, a.place, n);
      out = placed_more p₁.out.now {d₁ = p₂.out.now} {d₂ = placed p₂.out.now p₂.at t} p₁.at p₂.at s t h a.place a.out refl ∙ (rw e at l.out);
    }

pub writing_none : {p p₁ : Page} {whole rest : List ℕ} → Writing p whole p₁ rest → rest ≡ [] → Puts p whole p₁
writing_none {p₁ = p₁} l e =
    record {
      same = l.same;
      long = l.long;
      place = omega (arith, l.place, ap length e);
      out = sym (placed_nothing p₁.out.now p₁.at) ∙ (rw e at l.out);
    }

-- the rest at once
pub writing_done : {p p₁ p₂ : Page} {whole rest : List ℕ} → Writing p whole p₁ rest → Puts p₁ rest p₂ → Puts p whole p₂
writing_done w a = record { same = a.same ∙ w.same; long = a.long ∙ w.long; place = a.place ∙ w.place; out = a.out ∙ w.out }
