-- The bytes stand from the page's place on.
-- Assumes nothing.
use Rattle.std.proofs.Common.{refl, ap, ◌∙◌, ◌++◌, ◌+◌, List, ℕ, length, take, drop, arith}
use lib.Seq.{take-length}
use Rattle.std.proofs.lemmas.Slice.{put_mid-paste}
use Rattle.octets.specs.Placed.{placed}
use Rattle.octets.proofs.Placing.{length-placed}
use Rattle.comparing.proofs.lines.Page.put.Goals as goal

pub returns : goal.returns
unfolding placed
returns c =
    let p = c.args.self.now in
    let s = c.args.bytes.now in
    let e = put_mid-paste p.at _ p.out.now _ s (length s) c.copy_from_slice.ensures.after (omega arith) refl ∙ ap (λ (r : List ℕ). take p.at p.out.now ++ r ++ drop (p.at + length s) p.out.now) (take-length s) in
    record { same = refl; long = ap length e ∙ length-placed p.out.now p.at s c.requires; place = refl; out = e }
