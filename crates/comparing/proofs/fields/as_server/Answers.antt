-- What a caller learns of a serverHello that was read.
-- Assumes nothing.
use Rattle.std.proofs.Common.{sym, ◌∙◌, arith}
use Rattle.hello.proofs.Learnt.{server_learnt, server_fault}
use Rattle.hello.proofs.Handed.{handed}
use Rattle.comparing.proofs.Asked.{kept, dropped}
use Rattle.comparing.proofs.Handing.{handed_is}
use Rattle.comparing.proofs.fields.as_server.Goals as goal

pub returns-in_err-hello : goal.returns-in_err-hello
returns-in_err-hello c =
    let d = dropped c.read_server_hello.result _ (sym c.ok.ensures.value ∙ c.in_err-hello.was) c.read_server_hello.ensures in
    let f = server_fault c.args.message.now d.0 d.1 in
    rw c.from_residual.ensures (f.number, f.place, f.reading)

pub overflow_add-suite : goal.overflow_add-suite
overflow_add-suite c = let l = server_learnt c.args.message.now c.in_ok-hello.hello (kept c.read_server_hello.result _ _ (sym c.ok.ensures.value ∙ c.in_ok-hello.was) c.read_server_hello.ensures) in omega (arith, l.suites.within, l.methods.within)

pub overflow_add-result : goal.overflow_add-result
overflow_add-result c = let l = server_learnt c.args.message.now c.in_ok-hello.hello (kept c.read_server_hello.result _ _ (sym c.ok.ensures.value ∙ c.in_ok-hello.was) c.read_server_hello.ensures) in omega (arith, l.suites.within, l.methods.within)

pub returns : goal.returns
returns c =
    let l = server_learnt c.args.message.now c.in_ok-hello.hello (kept c.read_server_hello.result _ _ (sym c.ok.ensures.value ∙ c.in_ok-hello.was) c.read_server_hello.ensures) in (
      l.hello,
      l.reading,
      record {
        version = l.version;
        random = l.random;
        identifier = l.identifier;
        suites = l.suites;
        methods = l.methods;
        extensions = handed_is _ _ _ (handed _ _ _ _ l.extensions);
      },
    )
