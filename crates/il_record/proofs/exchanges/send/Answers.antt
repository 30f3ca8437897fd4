use Rattle.std.proofs.Common.{sym, ◌∙◌, arith}
use Rattle.il_record.specs.Sends.{filled}
use Rattle.il_record.proofs.Sends.{if_err, sent_nothing, sent_more, sent_all, send_broke, send_broke_first, length-filled, filled_at}
use Rattle.il_record.proofs.Used.{sent_used, send_broke_used}
use Rattle.il_record.proofs.exchanges.send.Goals as goal

pub loop-place-init : goal.loop-place-init
loop-place-init g c = sent_nothing g.M.Medium.view _ _ _ _ _ c.in_ok-listen.ensures.made c.in_ok-listen.ensures.told c.in_ok-listen.ensures.stays

pub loop-place-preserved : goal.loop-place-preserved
loop-place-preserved g c =
    let long = length-filled c.args.length c.args.bytes.now in
    sent_more g.M.Medium.view _ _ _ _ _ _ _ _ c.requires.idle (omega (arith, long, c.loop-place-test.true)) (c.byte_at.ensures ∙ sym (filled_at c.args.length c.loop-place.place c.args.bytes.now c.loop-place-test.true)) c.loop-place.invariant c.in_ok-send_byte.ensures.sent

pub returns-in_err-listen-clause-broken : goal.returns-in_err-listen-clause-broken
returns-in_err-listen-clause-broken g c = if_err _ _ _ c.from_residual.ensures (send_broke_first g.M.Medium.view _ _ _ _ _ c.in_err-listen.ensures.broken c.in_err-listen.ensures.stays)

pub returns-in_err-send_byte-clause-broken : goal.returns-in_err-send_byte-clause-broken
returns-in_err-send_byte-clause-broken g c =
    let long = length-filled c.args.length c.args.bytes.now in
    if_err _ _ _ c.from_residual-in_err-send_byte.ensures
    (send_broke g.M.Medium.view _ _ _ _ _ _ _ _ c.requires.idle (omega (arith, long, c.loop-place-test.true)) (c.byte_at.ensures ∙ sym (filled_at c.args.length c.loop-place.place c.args.bytes.now c.loop-place-test.true)) c.loop-place.invariant c.in_err-send_byte.ensures.not_sent)

pub returns-clause-sent : goal.returns-clause-sent
returns-clause-sent g c =
    let long = length-filled c.args.length c.args.bytes.now in
    sent_all g.M.Medium.view _ _ _ _ _ _ (omega (arith, long, c.loop-place-test.false, c.loop-place.auto.place-end)) c.loop-place.invariant

pub returns-in_err-listen-clause-used : goal.returns-in_err-listen-clause-used
returns-in_err-listen-clause-used g c =
    send_broke_used g.M.Medium.view _ _ _ (filled c.args.length c.args.bytes.now) _ _ (send_broke_first g.M.Medium.view _ _ _ _ _ c.in_err-listen.ensures.broken c.in_err-listen.ensures.stays) (length-filled c.args.length c.args.bytes.now)

pub returns-in_err-send_byte-clause-used : goal.returns-in_err-send_byte-clause-used
returns-in_err-send_byte-clause-used g c =
    let long = length-filled c.args.length c.args.bytes.now in
    send_broke_used g.M.Medium.view _ _ _ _ _ _
    (send_broke g.M.Medium.view _ _ _ _ _ _ _ _ c.requires.idle (omega (arith, long, c.loop-place-test.true)) (c.byte_at.ensures ∙ sym (filled_at c.args.length c.loop-place.place c.args.bytes.now c.loop-place-test.true)) c.loop-place.invariant c.in_err-send_byte.ensures.not_sent) long

pub returns-clause-used : goal.returns-clause-used
returns-clause-used g c =
    let long = length-filled c.args.length c.args.bytes.now in
    let used = sent_used g.M.Medium.view _ _ _ _ _ _ (sent_all g.M.Medium.view _ _ _ _ _ _ (omega (arith, long, c.loop-place-test.false, c.loop-place.auto.place-end)) c.loop-place.invariant) long in
    omega (arith, used)
