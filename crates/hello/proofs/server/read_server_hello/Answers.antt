-- A ServerHello: the header, the layout, then the repeat and the version.
-- Assumes nothing.
use Rattle.std.proofs.Common.{sym, ap, not}
use borrow.Author.Tests.{eq-eqb, ne_eqb}
use Rattle.hello.proofs.Tries.{handed_on}
use Rattle.hello.proofs.Answers.{server_reader, Typed, typed, out_frame, out_malformed, out_twice, out_version, out_fields}
use Rattle.hello.proofs.server.read_server_hello.Goals as goal
use Rattle.hello.proofs.server.read_server_hello.Goals.{In_ok-frame_as}

-- by its header
is_server : (c : In_ok-frame_as) → Typed server_reader c.args.message.now
unfolding server_reader
is_server c = typed server_reader _ c.in_ok-frame_as.field-0 c.in_ok-frame_as.ensures

pub returns-in_err-frame_as : goal.returns-in_err-frame_as
unfolding server_reader
returns-in_err-frame_as c =
    rw (handed_on c.from_residual.result _ c.from_residual.ensures.1) (out_frame server_reader _ _ c.in_err-frame_as.ensures)

pub lay_server-laid-requires : goal.lay_server-laid-requires
lay_server-laid-requires c = (is_server (goal.at.lay_server-laid-requires c).In_ok-frame_as).shortest

pub returns-in_default : goal.returns-in_default
unfolding server_reader
returns-in_default c =
    out_malformed server_reader _ _ (is_server (goal.at.returns-in_default c).In_ok-frame_as) (rw c.unwrap_err.ensures at c.lay_server-laid.ensures)

pub returns-in_err-differ : goal.returns-in_err-differ
unfolding server_reader
returns-in_err-differ c =
    let l = c.in-Ok.ensures in
    rw (handed_on c.from_residual-in_err-differ.result _ c.from_residual-in_err-differ.ensures.1)
    (out_twice server_reader _ (is_server (goal.at.returns-in_err-differ c).In_ok-frame_as) l.1 l.2 l.3.2 l.3.3 _ (sym c.in_err-differ.ensures))

pub returns-then-hello-ne-VERSION : goal.returns-then-hello-ne-VERSION
unfolding server_reader
returns-then-hello-ne-VERSION c =
    let l = c.in-Ok.ensures in
    out_version server_reader _ (is_server (goal.at.returns-then-hello-ne-VERSION c).In_ok-frame_as) l.1 l.2 l.3.2 l.3.3 _ (sym c.in_ok-differ.ensures) (ap not (ne_eqb _ 771 c.if-hello-ne-VERSION.true))

pub returns : goal.returns
unfolding server_reader
returns c =
    let l = c.in-Ok.ensures in
    out_fields server_reader _ (is_server (goal.at.returns c).In_ok-frame_as) l.1 l.2 l.3.2 l.3.3 _ (sym c.in_ok-differ.ensures) (ap not (eq-eqb _ 771 c.if-hello-ne-VERSION.false))
