use Rattle.std.proofs.Common.{refl, sym}
use Rattle.il_check.proofs.CheckLemmas.{telling, too_long}
use Rattle.il_check.proofs.run.check_trace.Goals as goal

pub returns-in-Ok-clause-tells : goal.returns-in-Ok-clause-tells
returns-in-Ok-clause-tells g c =
    let taken = c.new-tracing.ensures.taken c.args.party.1 c.args.old.now c.in-Ok-Ok-Ok.ensures.known in
    let read = c.in-Ok.ensures.reads c.args.party.0 c.args.party.1 c.args.old.now taken in
    telling c.args.party.0 c.args.party.1 _ _ c.args.old.now c.args.new.now _ _ _ _ _ c.tell.result c.verdict.result c.in-Ok-Ok-Ok.before c.in-Ok-Ok-Ok.after c.in-Ok-Ok-Ok.ensures' c.in-Ok-Ok-Ok.ensures''
    c.tell.ensures.says (record { whole = λ same trace told. let all = read trace told in (all.1, all.2); unread = λ other. absurd (other (sym c.requires.same)) })
    (λ shape trace told. c.verdict.ensures c.args.party.0 c.args.party.1 c.args.old.now _ (read trace told).0 shape) c.tell.ensures.writes

pub returns-clause-tells : goal.returns-clause-tells
returns-clause-tells g c =
    let taken = c.new-tracing.ensures.taken c.args.party.1 c.args.old.now c.in-Ok-Ok-Ok.ensures.known in (
      sym c.requires.same,
      refl,
      too_long c.args.party.0 c.args.party.1 c.args.old.now (g.S.Source.left c.args.trace.now) (g.S.Source.left c.read_trace.new.trace) c.read_trace.new.tracing c.in-Err-TooLong.field-0 c.in-Err-TooLong.field-0-is
          (c.in-Err-TooLong.ensures.reads c.args.party.0 c.args.party.1 c.args.old.now taken),
    )
