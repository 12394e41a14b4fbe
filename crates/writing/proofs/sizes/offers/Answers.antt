-- The bounds of suites and methods.
-- Assumes nothing.
use Rattle.std.proofs.Common.{arith}
use borrow.Author.Tests.{lt-leb}
use Rattle.writing.proofs.Sizing.{offers_few, offers_many, offers_odd, offers_no_method, offers_methods}
use Rattle.writing.proofs.sizes.offers.Goals as goal
use Rattle.writing.proofs.sizes.offers.Goals.{then-suites-lt2-via-then-suites-lt2, then-suites-lt2-via-else-suites-lt2+then-suites-gt65534, then-suites-lt2-via-else-suites-lt2+else-suites-gt65534+then-suites-ne0}

pub returns-then-suites-lt2 : goal.returns-then-suites-lt2
returns-then-suites-lt2 c =
    elim c.then-suites-lt2.branch [
      | then-suites-lt2-via-then-suites-lt2 w ↦ offers_few _ _ (omega arith)
      | then-suites-lt2-via-else-suites-lt2+then-suites-gt65534 w ↦ offers_many _ _ (omega arith)
      | then-suites-lt2-via-else-suites-lt2+else-suites-gt65534+then-suites-ne0 w ↦ offers_odd _ _ (omega arith)
    ]

pub returns-then-methods-ge1 : goal.returns-then-methods-ge1
returns-then-methods-ge1 c = offers_methods _ _ (omega arith)

pub returns-else-methods-ge1 : goal.returns-else-methods-ge1
returns-else-methods-ge1 c = rw (lt-leb 1 c.args.methods c.if-methods-ge1.false) (offers_no_method _ _ (omega arith))
