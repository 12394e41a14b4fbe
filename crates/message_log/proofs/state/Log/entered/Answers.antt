-- The last bytes of a message other than a ClientKeyExchange.
-- Assumes nothing.
use Rattle.message_log.proofs.Entered.{other_entered}
use Rattle.message_log.proofs.state.Log.entered.Goals as goal

pub returns-else-turn-eq-CLIENT_KEY_EXCHANGE : goal.returns-else-turn-eq-CLIENT_KEY_EXCHANGE
returns-else-turn-eq-CLIENT_KEY_EXCHANGE c =
    other_entered _ _ _ _ _ c.carried-told.ensures c.take-blocks.new.self _ c.take-blocks.ensures c.if-left-ne0.false c.if-turn-eq-CLIENT_KEY_EXCHANGE.false
