-- What a caller learns of a clientHello that was read.
-- Assumes nothing.
use Rattle.std.proofs.Common.{sym, ◌∙◌}
use Rattle.hello.proofs.Learnt.{client_learnt, client_fault}
use Rattle.hello.proofs.Handed.{handed}
use Rattle.comparing.proofs.Asked.{kept, dropped}
use Rattle.comparing.proofs.Handing.{handed_is}
use Rattle.comparing.proofs.fields.as_client.Goals as goal

pub returns-in_err-hello : goal.returns-in_err-hello
returns-in_err-hello c =
    let d = dropped c.read_client_hello.result _ (sym c.ok.ensures.value ∙ c.in_err-hello.was) c.read_client_hello.ensures in
    let f = client_fault c.args.message.now d.0 d.1 in
    rw c.from_residual.ensures (f.number, f.place, f.reading)

pub returns : goal.returns
returns c =
    let l = client_learnt c.args.message.now c.in_ok-hello.hello (kept c.read_client_hello.result _ _ (sym c.ok.ensures.value ∙ c.in_ok-hello.was) c.read_client_hello.ensures) in (
      l.hello,
      l.reading,
      record {
        version = l.version;
        random = l.random;
        identifier = l.identifier;
        suites = l.suites;
        methods = l.methods;
        extensions = handed_is _ _ _ (handed _ _ _ _ l.extensions);
      },
    )
