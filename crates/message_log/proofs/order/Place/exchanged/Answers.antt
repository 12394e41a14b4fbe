-- By the place.
-- Assumes nothing.
use Rattle.message_log.proofs.Held.{exchanged_by, unexchanged_by}
use Rattle.message_log.proofs.order.Place.exchanged.Goals as goal

pub returns-in-KeyExchange : goal.returns-in-KeyExchange
returns-in-KeyExchange c h s = exchanged_by c.args.self h s c.in-KeyExchange.is

pub returns-in_default : goal.returns-in_default
returns-in_default c h s =
    let d = c.in_default in
    unexchanged_by c.args.self h s d.not-KeyExchange d.not-KeyExchangeCertified d.not-CertificateVerify d.not-ClientFirst d.not-CompleteFull
