-- The reply, case by case.
-- Assumes nothing.
use Rattle.std.proofs.Common.{◌≡◌, ◌++◌, [], ◌∷◌, sym, ◌∙◌, ap, arith, List, ℕ, ◌≤◌, true, false, length, take, append-nil, length-append, ◌+◌}
use Rattle.std.proofs.lemmas.Bool.{false≢true}
use Rattle.seqs.specs.Pick.{pick}
use Rattle.hello.specs.Written.{written_list}
use Rattle.decision.specs.Reply.{reply_list, reply_of}
use Rattle.decision.proofs.Replying.{reply_done}
use Rattle.decision.proofs.reply.build_reply.Goals as goal
use Rattle.decision.proofs.reply.build_reply.Goals.{then-flag, else-flag, then-ems, else-ems, else-not-flag-via-then-not-flag+else-not-ems, else-not-flag-via-else-not-flag}

pub returns-then-not-ems : goal.returns-then-not-ems
unfolding reply_of reply_list
returns-then-not-ems c = rw (c.if-not-flag.true, c.if-not-ems.true)

pub overflow_sub-reply : goal.overflow_sub-reply
overflow_sub-reply c =
    let f : 2 ≤ c.if-flag.reply.length =
    elim c.if-flag.branch [ then-flag w ↦ rw w.reply-is (omega (arith, w.push_indication.ensures.size.0)) | else-flag w ↦ rw w.reply-is (omega (arith, c.push.ensures.size)) ] in
    elim c.if-ems.branch [ then-ems w ↦ rw w.reply-is (omega (arith, w.push-then-ems.ensures.size)) | else-ems w ↦ rw w.reply-is f ]

pub returns : goal.returns
returns c =
    let a = c.args in
    let k = a.connection.now in
    let ri = written_list (reply_list k true false) in
    let flagged : take c.if-flag.reply.length c.if-flag.reply.bytes ≡ 0 ∷ 0 ∷ pick a.flag ri [] =
    elim c.if-flag.branch [
      | then-flag w ↦ rw (w.reply-is, w.push_indication.ensures.content, c.push.ensures.content, w.if-flag.true)
      | else-flag w ↦ rw (w.reply-is, c.push.ensures.content, w.if-flag.false)
    ] in
    let whole : take c.if-ems.reply.length c.if-ems.reply.bytes ≡ 0 ∷ 0 ∷ (pick a.flag ri [] ++ pick a.ems (0 ∷ 23 ∷ 0 ∷ 0 ∷ []) []) =
    elim c.if-ems.branch [
      | then-ems w ↦ rw (w.reply-is, w.push-then-ems.ensures.content, flagged, w.if-ems.true)
      | else-ems w ↦ rw (w.reply-is, flagged, w.if-ems.false) (ap (λ (x : List ℕ). 0 ∷ 0 ∷ x) (sym (append-nil (pick a.flag ri []))))
    ] in
    let some : a.flag ≡ false → a.ems ≡ false → ⊥ =
    elim c.else-not-flag.branch [
      | else-not-flag-via-then-not-flag+else-not-ems w ↦ λ f e. false≢true (sym e ∙ w.if-not-ems.false)
      | else-not-flag-via-else-not-flag w ↦ λ f e. false≢true (sym f ∙ w.if-not-flag.false)
    ] in
    let flagged_size : c.if-flag.reply.length ≡ 2 + length (pick a.flag ri []) =
    elim c.if-flag.branch [
      | then-flag w ↦ rw (w.reply-is, w.if-flag.true) w.push_indication.ensures.size.0
      | else-flag w ↦ rw (w.reply-is, w.if-flag.false) c.push.ensures.size
    ] in
    let size : c.if-ems.reply.length ≡ 2 + length (pick a.flag ri [] ++ pick a.ems (0 ∷ 23 ∷ 0 ∷ 0 ∷ []) []) =
    rw (length-append (pick a.flag ri []) (pick a.ems (0 ∷ 23 ∷ 0 ∷ 0 ∷ []) []))
    (elim c.if-ems.branch [
      | then-ems w ↦ rw (w.reply-is, w.if-ems.true) (omega (arith, flagged_size, w.push-then-ems.ensures.size))
      | else-ems w ↦ rw (w.reply-is, w.if-ems.false) (omega (arith, flagged_size))
    ]) in
    reply_done k a.flag a.ems c.if-ems.reply.bytes c.if-ems.reply.length some c.if-ems.reply.within size whole
