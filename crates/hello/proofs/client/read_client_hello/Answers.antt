-- A ClientHello: the header, the layout, then the repeat and the version.
-- Assumes nothing.
use Rattle.std.proofs.Common.{sym}
use borrow.Author.Tests.{lt-ltb, le-ltb}
use Rattle.hello.proofs.Tries.{handed_on}
use Rattle.hello.proofs.Answers.{client_reader, Typed, typed, out_frame, out_malformed, out_twice, out_version, out_fields}
use Rattle.hello.proofs.client.read_client_hello.Goals as goal
use Rattle.hello.proofs.client.read_client_hello.Goals.{In_ok-frame_as}

-- by its header
is_client : (c : In_ok-frame_as) → Typed client_reader c.args.message.now
unfolding client_reader
is_client c = typed client_reader _ c.in_ok-frame_as.field-0 c.in_ok-frame_as.ensures

pub returns-in_err-frame_as : goal.returns-in_err-frame_as
unfolding client_reader
returns-in_err-frame_as c =
    rw (handed_on c.from_residual.result _ c.from_residual.ensures.1) (out_frame client_reader _ _ c.in_err-frame_as.ensures)

pub lay_client-laid-requires : goal.lay_client-laid-requires
lay_client-laid-requires c = (is_client (goal.at.lay_client-laid-requires c).In_ok-frame_as).shortest

pub returns-in_default : goal.returns-in_default
unfolding client_reader
returns-in_default c =
    out_malformed client_reader _ _ (is_client (goal.at.returns-in_default c).In_ok-frame_as) (rw c.unwrap_err.ensures at c.lay_client-laid.ensures)

pub returns-in_err-differ : goal.returns-in_err-differ
unfolding client_reader
returns-in_err-differ c =
    let l = c.in-Ok.ensures in
    rw (handed_on c.from_residual-in_err-differ.result _ c.from_residual-in_err-differ.ensures.1)
    (out_twice client_reader _ (is_client (goal.at.returns-in_err-differ c).In_ok-frame_as) l.1 l.2 l.3.2 l.3.3 _ (sym c.in_err-differ.ensures))

pub returns-then-hello-lt-LOWEST : goal.returns-then-hello-lt-LOWEST
unfolding client_reader
returns-then-hello-lt-LOWEST c =
    let l = c.in-Ok.ensures in
    out_version client_reader _ (is_client (goal.at.returns-then-hello-lt-LOWEST c).In_ok-frame_as) l.1 l.2 l.3.2 l.3.3 _ (sym c.in_ok-differ.ensures) (lt-ltb _ 771 c.if-hello-lt-LOWEST.true)

pub returns : goal.returns
unfolding client_reader
returns c =
    let l = c.in-Ok.ensures in
    out_fields client_reader _ (is_client (goal.at.returns c).In_ok-frame_as) l.1 l.2 l.3.2 l.3.3 _ (sym c.in_ok-differ.ensures) (le-ltb _ 771 c.if-hello-lt-LOWEST.false)
