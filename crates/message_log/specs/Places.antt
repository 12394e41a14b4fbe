-- The code's places, in the words of the order.
-- Assumes nothing.
use Rattle.std.specs.Prelude.{◌≡◌, true, false, not, ◌&&◌, ℕ, ◌<◌, Option, Some, None, Result, MatchOption, MatchResult}
use Rattle.refusal.specs.declared.reason.Reason.{Reason}
use Rattle.refusal.specs.declared.reason.Reason.TheVariants.{OutOfTurn}
use Rattle.message_log.specs.Order.{Place, turns, look, finished_due}
use Rattle.message_log.specs.Order.Place.{beginning, client_hello, server_hello, server_certificate, server_key_exchange, certificate_request, hello_done, hello_done_requested, client_certificate, key_exchange, key_exchange_certified, certificate_verify, client_first, complete_full, resuming_hello, server_first, complete_resumed, nowhere}
use Rattle.message_log.specs.History.{History, place_of, from_server}
use Rattle.message_log.specs.Standing.{Standing, history_of, between}
use Rattle.message_log.specs.Stands.{number}
use Rattle.message_log.specs.declared.order.Place.{Place as Held}
use Rattle.message_log.specs.declared.order.Place.TheVariants.{Beginning, ClientHello, ServerHello, ServerCertificate, ServerKeyExchange, CertificateRequest, HelloDone, HelloDoneRequested, ClientCertificate, KeyExchange, KeyExchangeCertified, CertificateVerify, ClientFirst, CompleteFull, ResumingHello, ServerFirst, CompleteResumed}
use Rattle.message_log.specs.declared.order.Due.{Due}

unfoldable pub read : Held → Place
read Beginning = beginning
read ClientHello = client_hello
read ServerHello = server_hello
read ServerCertificate = server_certificate
read ServerKeyExchange = server_key_exchange
read CertificateRequest = certificate_request
read HelloDone = hello_done
read HelloDoneRequested = hello_done_requested
read ClientCertificate = client_certificate
read KeyExchange = key_exchange
read KeyExchangeCertified = key_exchange_certified
read CertificateVerify = certificate_verify
read ClientFirst = client_first
read CompleteFull = complete_full
read ResumingHello = resuming_hello
read ServerFirst = server_first
read CompleteResumed = complete_resumed

-- where a message leads; no place is nowhere
abbrev pub led : Option Held → Place
led (Some place) = read place
led None = nowhere

-- a byte of a log, as a place: the one whose number it is, and else nothing is in turn
abbrev pub Numbered : ℕ → Result Held Reason → Type 0
Numbered byte r = MatchResult r (λ place. byte ≡ number (read place)) (λ reason. (reason ≡ OutOfTurn) × (16 < byte))

-- a Finished that is in turn behind these messages: is it the server's, and where does it lead?
pub record DueTo (h : History) (due : Due) : Type 0 where
  pub in_turn : finished_due (place_of h) ≡ true
  pub server : due.server ≡ from_server h
  pub next : read due.next ≡ look 20 (turns false (place_of h))

abbrev pub IsDue : History → Option Due → Type 0
IsDue h r = MatchOption r (finished_due (place_of h) ≡ false) (DueTo h)

-- and between parts none is
abbrev pub IsDueTo : Standing → Option Due → Type 0
IsDueTo s r = MatchOption r ((not (between s) && finished_due (place_of (history_of s))) ≡ false) (λ due. (between s ≡ false) × DueTo (history_of s) due)
