-- Writing a ClientHello: why it is refused, and else the bytes field by field.
-- Assumes nothing.
use Rattle.std.proofs.Common.{arith}
use Rattle.hello.proofs.Tries.{handed_on}
use Rattle.writing.specs.Messages.{vector8, vector16, client_bytes}
use Rattle.writing.specs.Promise.{client_of}
use Rattle.writing.proofs.Writers.{unsized, unjudged, Clear, clear, refuses, writes}
use Rattle.writing.proofs.Hellos.{client_counts, client_bound, message_placed}
use Rattle.writing.proofs.client.try_client.Goals as goal
use Rattle.writing.proofs.client.try_client.Goals.{In_ok-judge}

-- everything is within its bounds and there is room
room : (c : In_ok-judge)
    → (let a = c.args in
    let l = a.list.now in
    let p = a.opening.now in
    Clear _ _ _ _ l.types.now l.lengths.now l.«data».now _ _ (client_counts p.version p.random.now p.identifier.now a.suites.now a.methods.now l.block l.types.now l.lengths.now l.«data».now) a.out.now l.fits c.in_ok-size.size c.in_ok-size.ensures)
room c =
    let a = c.args in
    let l = a.list.now in
    let p = a.opening.now in
    clear _ _ _ _ l.types.now l.lengths.now l.«data».now _ _ (client_counts p.version p.random.now p.identifier.now a.suites.now a.methods.now l.block l.types.now l.lengths.now l.«data».now) a.out.now l.fits c.in_ok-size.size c.in_ok-size.ensures _ c.in_ok-judge.ensures

pub returns-in_err-size : goal.returns-in_err-size
returns-in_err-size c =
    let a = c.args in
    let l = a.list.now in
    let p = a.opening.now in
    rw (handed_on c.from_residual.result _ c.from_residual.ensures.1)
    (refuses _ _ _ (unsized _ _ _ _ l.types.now l.lengths.now l.«data».now _ _ (client_counts p.version p.random.now p.identifier.now a.suites.now a.methods.now l.block l.types.now l.lengths.now l.«data».now) a.out.now l.fits _ c.in_err-size.ensures))

pub returns-in_err-judge : goal.returns-in_err-judge
returns-in_err-judge c =
    let a = c.args in
    let l = a.list.now in
    let p = a.opening.now in
    rw (handed_on c.from_residual-in_err-judge.result _ c.from_residual-in_err-judge.ensures.1)
    (refuses _ _ _ (unjudged _ _ _ _ l.types.now l.lengths.now l.«data».now _ _ (client_counts p.version p.random.now p.identifier.now a.suites.now a.methods.now l.block l.types.now l.lengths.now l.«data».now) a.out.now l.fits _ c.in_ok-size.ensures _ c.in_err-judge.ensures))

pub put_opening-at-requires : goal.put_opening-at-requires
put_opening-at-requires c =
    let q = room (goal.at.put_opening-at-requires c).In_ok-judge in
    let b = client_bound _ _ _ _ q.bounded in
    (omega (arith, q.space, q.whole, b), omega (arith, q.whole), omega (arith, q.short), omega (arith, b))

pub put_vector-at-requires : goal.put_vector-at-requires
put_vector-at-requires c =
    let q = room (goal.at.put_vector-at-requires c).In_ok-judge in
    let b = client_bound _ _ _ _ q.bounded in
    (omega (arith, q.space, q.whole, b, c.put_opening-at.ensures.0, c.put_opening-at.auto.out), omega (arith, b), omega arith)

pub put_vector-at-requires-2 : goal.put_vector-at-requires-2
put_vector-at-requires-2 c =
    let q = room (goal.at.put_vector-at-requires-2 c).In_ok-judge in
    let b = client_bound _ _ _ _ q.bounded in
    (omega (arith, q.space, q.whole, b, c.put_opening-at.ensures.0, c.put_vector-at.ensures.0, c.put_opening-at.auto.out, c.put_vector-at.auto.out), omega (arith, b), omega arith)

pub put_block-requires : goal.put_block-requires
put_block-requires c =
    let q = room (goal.at.put_block-requires c).In_ok-judge in
    let b = client_bound _ _ _ _ q.bounded in
    (omega (arith, q.space, q.whole, b, c.put_opening-at.ensures.0, c.put_vector-at.ensures.0, c.put_vector-at-2.ensures.0, c.put_opening-at.auto.out, c.put_vector-at.auto.out, c.put_vector-at-2.auto.out), omega (arith, q.short, q.whole))

pub returns : goal.returns
unfolding client_bytes
returns c =
    let q = room (goal.at.returns c).In_ok-judge in
    let a = c.args in
    let l = a.list.now in
    let p = a.opening.now in
    let f = client_of p.version p.random.now p.identifier.now a.suites.now a.methods.now l.block l.types.now l.lengths.now l.«data».now in
    (writes (client_bytes f) a.out.now c.in_ok-size.size q.answer q.written
    (message_placed f _ (vector16 a.suites.now) (vector8 a.methods.now) a.out.now c.in_ok-size.size c.put_opening-at.result c.put_vector-at.result c.put_vector-at-2.result q.written q.space c.put_opening-at.ensures.0 (omega (arith, c.put_vector-at.ensures.0)) (omega (arith, c.put_vector-at-2.ensures.0)) c.put_opening-at.ensures.1 c.put_vector-at.ensures.1 c.put_vector-at-2.ensures.1 c.put_block.ensures))
