-- The block's own sixteen words.
-- Assumes nothing.
use Rattle.std.proofs.Common.{◌≡◌, ℕ, ◌+◌, ◌*◌, ◌≤◌, List, take, drop, sym, ap, ◌∙◌, arith}
use Rattle.seqs.specs.Tab.{tab}
use Rattle.seqs.specs.Blocks.{block_at}
use Rattle.seqs.specs.Sha2.{schedule}
use Rattle.seqs.specs.Words.{big, of_bytes}
use Rattle.seqs.proofs.Words.{word_in}
use Rattle.fips180.proofs.Elements.{same_words}
use Rattle.fips180.proofs.words.load.Goals as goal

-- word t of the block at index at
word_at : (n at : ℕ) (b : List ℕ) {x : ℕ} (t : ℕ) → x ≡ of_bytes big (take n (drop (at + n * t) b)) → n * t + n ≤ 16 * n → x ≡ of_bytes big (block_at n (take (16 * n) (drop at b)) t)
word_at n at b t e h = e ∙ ap (of_bytes big) (sym (word_in n (16 * n) at b t h))

pub returns : goal.returns
unfolding schedule tab
returns g c =
    same_words
    (word_at g.W.Word.kind.bytes c.args.at c.args.b.now 0 c.read.ensures (omega arith))
    (word_at g.W.Word.kind.bytes c.args.at c.args.b.now 1 c.read-2.ensures (omega arith))
    (word_at g.W.Word.kind.bytes c.args.at c.args.b.now 2 c.read-3.ensures (omega arith))
    (word_at g.W.Word.kind.bytes c.args.at c.args.b.now 3 c.read-4.ensures (omega arith))
    (word_at g.W.Word.kind.bytes c.args.at c.args.b.now 4 c.read-5.ensures (omega arith))
    (word_at g.W.Word.kind.bytes c.args.at c.args.b.now 5 c.read-6.ensures (omega arith))
    (word_at g.W.Word.kind.bytes c.args.at c.args.b.now 6 c.read-7.ensures (omega arith))
    (word_at g.W.Word.kind.bytes c.args.at c.args.b.now 7 c.read-8.ensures (omega arith))
    (word_at g.W.Word.kind.bytes c.args.at c.args.b.now 8 c.read-9.ensures (omega arith))
    (word_at g.W.Word.kind.bytes c.args.at c.args.b.now 9 c.read-10.ensures (omega arith))
    (word_at g.W.Word.kind.bytes c.args.at c.args.b.now 10 c.read-11.ensures (omega arith))
    (word_at g.W.Word.kind.bytes c.args.at c.args.b.now 11 c.read-12.ensures (omega arith))
    (word_at g.W.Word.kind.bytes c.args.at c.args.b.now 12 c.read-13.ensures (omega arith))
    (word_at g.W.Word.kind.bytes c.args.at c.args.b.now 13 c.read-14.ensures (omega arith))
    (word_at g.W.Word.kind.bytes c.args.at c.args.b.now 14 c.read-15.ensures (omega arith))
    (word_at g.W.Word.kind.bytes c.args.at c.args.b.now 15 c.read-16.ensures (omega arith))
