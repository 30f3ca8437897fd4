use Rattle.std.proofs.Common.{◌∙◌, ℕ, refl, subst, sym}
use Rattle.il_check.specs.Endings.{MediaCause}
use Rattle.il_check.proofs.CheckLemmas.{untold, sizes_told, tapes_told}
use Rattle.il_check.proofs.run.check_media.Goals as goal

pub returns-in_default-clause-tells : goal.returns-in_default-clause-tells
returns-in_default-clause-tells g c = untold c.args.party.0 c.args.party.1 _ _ 0 0 _ _ _ _ _ refl (λ other. cc)

pub returns-then-size-clause-tells : goal.returns-then-size-clause-tells
returns-then-size-clause-tells g c =
    sizes_told c.args.party.0 c.args.party.1 (g.M.Medium.view c.args.before.now) (g.M.Medium.view c.args.after.now) _ _ _ c.tell.result
    (g.met.M.Medium.is_medium c.args.before.now) (g.met.M.Medium.is_medium c.args.after.now) (λ same. c.if-size.true (c.size.ensures ∙ same ∙ sym c.size-2.ensures))
    (c.tell.ensures.says, c.tell.ensures.writes)

pub returns-in-Err-clause-tells : goal.returns-in-Err-clause-tells
returns-in-Err-clause-tells g c = untold c.args.party.0 c.args.party.1 _ _ _ _ _ _ _ _ c.in-Err.end c.in-Err.ensures.cause
    (λ failed. c.read_tape.ensures.stays.size ∙ sym c.size.ensures ∙ c.if-size.false ∙ c.size-2.ensures)

pub returns-in-Err-read_tape-clause-tells : goal.returns-in-Err-read_tape-clause-tells
returns-in-Err-read_tape-clause-tells g c = untold c.args.party.0 c.args.party.1 _ _ _ _ _ _ _ _ c.in-Err-read_tape.end c.in-Err-read_tape.ensures.cause
    (λ failed. c.read_tape.ensures.stays.size ∙ sym c.size.ensures ∙ c.if-size.false ∙ c.size-2.ensures ∙ sym c.read_tape-2.ensures.stays.size)

pub returns-clause-tells : goal.returns-clause-tells
returns-clause-tells g c =
    tapes_told c.args.party.0 c.args.party.1 (g.M.Medium.view c.args.before.now) (g.M.Medium.view c.read_tape.new.medium) (g.M.Medium.view c.args.after.now) (g.M.Medium.view c.read_tape-2.new.medium)
    c.in-Ok-read_tape.tape.items c.in-Ok-read_tape-2.tape.items _ _ _ _ c.check_trace.result (g.met.M.Medium.is_medium c.args.after.now) c.in-Ok-read_tape.ensures.tape c.in-Ok-read_tape-2.ensures.tape
    c.read_tape.ensures.stays c.read_tape-2.ensures.stays (sym c.size.ensures ∙ c.if-size.false ∙ c.size-2.ensures)
    (rw (sym c.deref.ensures.value, sym c.deref-2.ensures.value) c.check_trace.ensures.tells)

pub returns-clause-media : goal.returns-clause-media
returns-clause-media g c =
    subst (λ (n : ℕ). MediaCause c.check_trace.result (g.M.Medium.view c.args.before.now).faults (g.M.Medium.view c.read_tape.new.medium).faults (g.M.Medium.view c.args.after.now).faults n) (sym c.in-Ok-read_tape-2.ensures.cause)
    (subst (λ (n : ℕ). MediaCause c.check_trace.result (g.M.Medium.view c.args.before.now).faults n (g.M.Medium.view c.args.after.now).faults (g.M.Medium.view c.args.after.now).faults) (sym c.in-Ok-read_tape.ensures.cause)
    (c.check_trace.ensures.media _ _))
