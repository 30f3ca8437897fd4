use Rattle.std.proofs.Common.{rules, arith, if◌then◌else◌, ◌≡◌, ◌∙◌, [], ◌&&◌, Bool, List, ℕ, sym, ap, refl, subst}
use Rattle.std.specs.Prelude.{Option, Some}
use Rattle.std.proofs.lemmas.List.Elements.{All-nil}
use Rattle.lif_dir.specs.Batches.{IsPartOf, parts_of}
use Rattle.il_script.specs.Progress.{line_given}
use Rattle.host_model.specs.Orders.{quiet_mode}
use Rattle.host_model.specs.Requests.{reads, item_by, gathering_by, left_open}
use Rattle.il_host.specs.Gathering.{stands_open, read_with, IsGathered}
use Rattle.il_host.specs.Run.{item_asked}
use Rattle.il_host.specs.declared.ending.Ending.TheVariants as ending
use Rattle.il_host.proofs.Asking.{asks_nothing, asks_this, left_nothing, left_this}
use Rattle.il_host.proofs.Answered.{answers-grow}
use Rattle.il_host.proofs.Runs.{sofar-start, sofar-gives, sofar-skips, sofar-more, ends-whole, ends-open, ends-open-front, ends-taken, ends-longest, ends-front, whole_cause}
use Rattle.il_host.proofs.running.answer_all.Goals as goal

pub turns-init : goal.turns-init
turns-init g c = record {
  valid = c.requires.valid;
  gathered = subst IsGathered (sym c.requires.empty) (record { each = All-nil (IsPartOf 0); sum = refl });
  sofar = sofar-start c.args.quiet c.args.lines (g.P.Performer.view c.args.host.now) _ _ c.requires.fresh (g.met.P.Performer.is_host c.args.host.now c.requires.valid);
  source = refl;
  sink = refl;
  medium = omega arith;
}

pub returns-in_default-left_open-clause-answers : goal.returns-in_default-left_open-clause-answers
returns-in_default-left_open-clause-answers g c =
    let standing = stands_open c.turns.gathering c.turns.batch in
    ends-whole c.args.quiet c.turns.lines c.next.new.self standing (g.P.Performer.view c.args.host.now) (g.P.Performer.view c.turns.host) _ _ _ _ _ c.turns.all_ok
    c.turns.invariant.sofar c.in-End.ensures.gives (left_nothing c.left_open.result [] (parts_of c.turns.batch) (left_open standing) (c.left_open.ensures.items [] c.turns.batch) c.in_default-left_open.is) c.ended.result c.ended.ensures

pub returns-in-Ok-clause-answers : goal.returns-in-Ok-clause-answers
returns-in-Ok-clause-answers g c =
    let standing = stands_open c.turns.gathering c.turns.batch in
    let leaves = left_this c.left_open.result c.in-Some.asked [] (parts_of c.turns.batch) (left_open standing) (c.left_open.ensures.items [] c.turns.batch) c.in-Some.is in
    ends-open c.args.quiet c.turns.lines c.next.new.self standing (g.P.Performer.view c.args.host.now) (g.P.Performer.view c.turns.host) _ _ _ _ _ c.turns.all_ok
    c.turns.invariant.sofar (g.P.Performer.view c.answer-reply.new.host) _ (item_asked c.in-Some.asked [] (parts_of c.turns.batch)) c.answer-reply.result.0 c.answer-reply.result.1 c.answer-reply.ensures.answers leaves
    c.in-End.ensures.gives c.in-Ok.field-0 c.in-Ok.is c.ended-in-Ok.result (c.ended-in-Ok.ensures ∙ ap (λ (b : Bool). if c.turns.all_ok && b then ending.AllOk else ending.SomeNotOk) c.is_ok-all_ok.ensures)

pub returns-in-Err-clause-answers : goal.returns-in-Err-clause-answers
returns-in-Err-clause-answers g c =
    let standing = stands_open c.turns.gathering c.turns.batch in
    let leaves = left_this c.left_open.result c.in-Some.asked [] (parts_of c.turns.batch) (left_open standing) (c.left_open.ensures.items [] c.turns.batch) c.in-Some.is in
    ends-open-front c.args.quiet c.turns.lines c.next.new.self standing (g.P.Performer.view c.args.host.now) (g.P.Performer.view c.turns.host) _ _ _ _ _ c.turns.all_ok
    c.turns.invariant.sofar (g.P.Performer.view c.answer-reply.new.host) _ (item_asked c.in-Some.asked [] (parts_of c.turns.batch)) c.answer-reply.result.0 c.answer-reply.result.1 c.answer-reply.ensures.answers leaves
    c.in-End.ensures.gives c.in-Err.field-0 c.in-Err.is

pub returns-in-Fault-clause-answers : goal.returns-in-Fault-clause-answers
returns-in-Fault-clause-answers g c =
    ends-taken c.args.quiet c.turns.lines c.next.new.self (stands_open c.turns.gathering c.turns.batch) (g.P.Performer.view c.args.host.now) (g.P.Performer.view c.turns.host) _ _ _ _ _ c.turns.all_ok
    c.turns.invariant.sofar c.in-Fault.ensures.gives c.in-Fault.ensures.stands

pub returns-in-Over-clause-answers : goal.returns-in-Over-clause-answers
returns-in-Over-clause-answers g c =
    ends-longest c.args.quiet c.turns.lines c.next.new.self (stands_open c.turns.gathering c.turns.batch) (g.P.Performer.view c.args.host.now) (g.P.Performer.view c.turns.host) _ _ _ _ _ c.turns.all_ok
    c.turns.invariant.sofar c.in-Over.ensures.gives c.in-Over.ensures.stands

pub turns-preserved-in_default-asked : goal.turns-preserved-in_default-asked
turns-preserved-in_default-asked g c =
    let v = g.P.Performer.view c.args.host.now in
    let w = g.P.Performer.view c.turns.host in
    let s = c.turns.invariant.sofar in
    let line : Option (List ℕ) = line_given c.next.new.self c.next.result in
    let standing = stands_open c.turns.gathering c.turns.batch in
    let read = (λ i. read_with c.read_given-read.result (c.bytes.ensures.bytes i)) ∙ c.read_given-read.ensures.reads in
    let more = sofar-gives c.args.quiet c.turns.lines c.next.new.self standing v w _ _ _ _ _ c.turns.all_ok c.next.result s c.next.ensures.gives c.in_default.not-End c.in_default.not-Fault c.in_default.not-Over in
    let none = asks_nothing c.gather-after.result.1 c.bytes.result.now (parts_of c.gather-after.new.batch) (item_by standing (reads line)) (c.gather-after.ensures.gathers.asks ∙ ap (item_by standing) read) c.in_default-asked.is in
    record {
      valid = c.turns.invariant.valid;
      gathered = c.gather-after.ensures.gathered;
      sofar = sofar-skips c.args.quiet c.turns.lines c.next.new.self standing (stands_open c.gather-after.result.0 c.gather-after.new.batch) v w _ _ _ _ _ c.turns.all_ok line s more
          (c.gather-after.ensures.gathers.stands ∙ ap (gathering_by standing) read) none;
      source = search rules;
      sink = search rules;
      medium = search rules;
    }

pub returns-in-Err-written-clause-answers : goal.returns-in-Err-written-clause-answers
returns-in-Err-written-clause-answers g c =
    let v = g.P.Performer.view c.args.host.now in
    let w = g.P.Performer.view c.turns.host in
    let x = g.P.Performer.view c.answer-reply-in_default.new.host in
    let s = c.turns.invariant.sofar in
    let line : Option (List ℕ) = line_given c.next.new.self c.next.result in
    let standing = stands_open c.turns.gathering c.turns.batch in
    let read = (λ i. read_with c.read_given-read.result (c.bytes.ensures.bytes i)) ∙ c.read_given-read.ensures.reads in
    let more = sofar-gives c.args.quiet c.turns.lines c.next.new.self standing v w _ _ _ _ _ c.turns.all_ok c.next.result s c.next.ensures.gives c.in_default.not-End c.in_default.not-Fault c.in_default.not-Over in
    let same : c.bytes.result.now ≡ c.bytes-in_default.result.now = c.bytes.ensures.bytes ∙ sym c.bytes-in_default.ensures.bytes in
    let item = item_asked c.in-Some-asked.asked c.bytes-in_default.result.now (parts_of c.gather-after.new.batch) in
    let some = asks_this c.gather-after.result.1 c.in-Some-asked.asked c.bytes.result.now (parts_of c.gather-after.new.batch) (item_by standing (reads line)) (c.gather-after.ensures.gathers.asks ∙ ap (item_by standing) read) c.in-Some-asked.is
    ∙ ap (λ (bytes : List ℕ). Some (item_asked c.in-Some-asked.asked bytes (parts_of c.gather-after.new.batch))) same in
    ends-front c.args.quiet c.turns.lines c.next.new.self standing (stands_open c.gather-after.result.0 c.gather-after.new.batch) v w x _ _ _ _ _ _ c.turns.all_ok line item c.answer-reply-in_default.result.0
    c.answer-reply-in_default.result.1 s more (c.gather-after.ensures.gathers.stands ∙ ap (gathering_by standing) read) some c.answer-reply-in_default.ensures.answers c.in-Err-written.field-0 c.in-Err-written.is

pub returns-in-Err-written-clause-cause : goal.returns-in-Err-written-clause-cause
returns-in-Err-written-clause-cause g c =
    let grown = answers-grow _ c.answer-reply-in_default.result.0 (quiet_mode c.args.quiet) (g.P.Performer.view c.turns.host) (g.P.Performer.view c.answer-reply-in_default.new.host) _ _ c.answer-reply-in_default.result.1 c.answer-reply-in_default.ensures.answers in
    let before = c.turns.invariant.medium in
    record { source = search rules; sink = search rules; medium = omega (arith, grown, before) }

pub returns-in-Err-clause-cause : goal.returns-in-Err-clause-cause
returns-in-Err-clause-cause g c =
    let grown = answers-grow _ c.answer-reply.result.0 (quiet_mode c.args.quiet) (g.P.Performer.view c.turns.host) (g.P.Performer.view c.answer-reply.new.host) _ _ c.answer-reply.result.1 c.answer-reply.ensures.answers in
    let before = c.turns.invariant.medium in
    record { source = search rules; sink = search rules; medium = omega (arith, grown, before) }

pub returns-in-Ok-clause-cause : goal.returns-in-Ok-clause-cause
returns-in-Ok-clause-cause g c =
    let grown = answers-grow _ c.answer-reply.result.0 (quiet_mode c.args.quiet) (g.P.Performer.view c.turns.host) (g.P.Performer.view c.answer-reply.new.host) _ _ c.answer-reply.result.1 c.answer-reply.ensures.answers in
    let before = c.turns.invariant.medium in
    whole_cause _ c.ended-in-Ok.result _ _ _ _ _ _ c.ended-in-Ok.ensures (search rules) (search rules) (omega (arith, grown, before))

pub turns-preserved : goal.turns-preserved
turns-preserved g c =
    let v = g.P.Performer.view c.args.host.now in
    let w = g.P.Performer.view c.turns.host in
    let x = g.P.Performer.view c.answer-reply-in_default.new.host in
    let s = c.turns.invariant.sofar in
    let line : Option (List ℕ) = line_given c.next.new.self c.next.result in
    let standing = stands_open c.turns.gathering c.turns.batch in
    let read = (λ i. read_with c.read_given-read.result (c.bytes.ensures.bytes i)) ∙ c.read_given-read.ensures.reads in
    let more = sofar-gives c.args.quiet c.turns.lines c.next.new.self standing v w _ _ _ _ _ c.turns.all_ok c.next.result s c.next.ensures.gives c.in_default.not-End c.in_default.not-Fault c.in_default.not-Over in
    let same : c.bytes.result.now ≡ c.bytes-in_default.result.now = c.bytes.ensures.bytes ∙ sym c.bytes-in_default.ensures.bytes in
    let item = item_asked c.in-Some-asked.asked c.bytes-in_default.result.now (parts_of c.gather-after.new.batch) in
    let some = asks_this c.gather-after.result.1 c.in-Some-asked.asked c.bytes.result.now (parts_of c.gather-after.new.batch) (item_by standing (reads line)) (c.gather-after.ensures.gathers.asks ∙ ap (item_by standing) read) c.in-Some-asked.is
    ∙ ap (λ (bytes : List ℕ). Some (item_asked c.in-Some-asked.asked bytes (parts_of c.gather-after.new.batch))) same in
    let grown = answers-grow item c.answer-reply-in_default.result.0 (quiet_mode c.args.quiet) w x _ _ c.answer-reply-in_default.result.1 c.answer-reply-in_default.ensures.answers in
    let before = c.turns.invariant.medium in
    record {
      valid = c.answer-reply-in_default.ensures.answers.valid;
      gathered = c.gather-after.ensures.gathered;
      sofar = sofar-more c.args.quiet c.turns.lines c.next.new.self standing (stands_open c.gather-after.result.0 c.gather-after.new.batch) v w x _ _ _ _ _ _ c.turns.all_ok line item c.answer-reply-in_default.result.0
          c.answer-reply-in_default.result.1 s more (c.gather-after.ensures.gathers.stands ∙ ap (gathering_by standing) read) some c.answer-reply-in_default.ensures.answers _ c.in-Ok-written.field-0 c.in-Ok-written.is
          (ap (λ (b : Bool). c.turns.all_ok && b) c.is_ok-all_ok-in_default.ensures);
      source = search rules;
      sink = search rules;
      medium = omega (arith, grown, before);
    }
