use Rattle.std.proofs.Common.{◌≡◌, ◌≤◌, ◌+◌, ◌-◌, ◌*◌, ℕ, map, refl, ap, sym, subst, ◌∙◌, arith, rules}
use Rattle.std.specs.Prelude.{Option, None, Some, Ok, Err, IfSome}
use Rattle.lif_model.specs.Gate.{has_open_gate}
use Rattle.lif_model.specs.Header.{HeaderParts}
use Rattle.lif_model.specs.Redo.{settled}
use Rattle.il_ports.specs.Stores.{GoesOn}
use Rattle.il_ports.proofs.Stores.{goes_further, goes_within}
use Rattle.lif_dir.specs.Entries.{slot_bytes}
use Rattle.lif_plan.specs.Directories.{IsLegalDirectory}
use Rattle.lif_volume.specs.Commands.{mounting, mounting_on}
use Rattle.lif_model.specs.Legal.{is_legal}
use Rattle.lif_volume.specs.Seen.{seen}
use Rattle.lif_volume.proofs.Mounting.{stays_here, stays_settling, stays_reading, settles_here, settles_settling, settles_reading, reads_behind, adds_behind, consults_nothing, kept_is_of}
use Rattle.lif_volume.proofs.volume.Volume.mount.Goals as goal

pub returns-clause-exactly : goal.returns-clause-exactly
returns-clause-exactly g c = λ t told. c.in_ok-header.ensures.exactly (settled t) (c.in_ok-settle_gate.ensures.settles.done t told)

pub returns-in-Some-clause-consults : goal.returns-in-Some-clause-consults
returns-in-Some-clause-consults g c =
    consults_nothing g.R.Records.view (seen c.args.self.now) c.in-Some.header (g.R.Records.view c.args.self.now.records).record_count _ c.in-Some.header c.in-Some.is c.requires.ready c.requires.open.known

pub returns-in-Some-clause-exactly : goal.returns-in-Some-clause-exactly
returns-in-Some-clause-exactly g c = λ t told.
    let is = kept_is_of (seen c.args.self.now) c.in-Some.header t c.in-Some.is (c.requires.open.known t told) in
    ap is_legal is.settled ∙ is.directory.legal

pub returns-in-Some-clause-stays : goal.returns-in-Some-clause-stays
returns-in-Some-clause-stays g c = λ t told off. stays_here _ t off (g.met.R.Records.is_store c.args.self.now.records) told

pub returns-in-Some-clause-settling : goal.returns-in-Some-clause-settling
returns-in-Some-clause-settling g c = λ t told. settles_here _ t (g.met.R.Records.is_store c.args.self.now.records) told

pub returns-in_err-settle_gate-clause-settling : goal.returns-in_err-settle_gate-clause-settling
returns-in_err-settle_gate-clause-settling g c = λ t told.
    let e = c.settle_gate.ensures.settles in
    settles_settling _ t _ (e.any_moment t told) (e.after t told)

pub returns-in_err-header-clause-settling : goal.returns-in_err-header-clause-settling
returns-in_err-header-clause-settling g c = λ t told.
    let e = c.settle_gate.ensures.settles in
    settles_reading _ t _ _ (settles_settling _ t _ (e.any_moment t told) (e.after t told)) c.read_directory.ensures.quiet

pub returns-clause-settling : goal.returns-clause-settling
returns-clause-settling g c = λ t told.
    let e = c.settle_gate.ensures.settles in
    settles_reading _ t _ _ (settles_settling _ t _ (e.any_moment t told) (e.after t told)) c.read_directory.ensures.quiet

pub returns-in_err-settle_gate-clause-stays : goal.returns-in_err-settle_gate-clause-stays
returns-in_err-settle_gate-clause-stays g c = λ t told off.
    let e = c.settle_gate.ensures.settles in
    stays_settling _ t off _ (e.any_moment t told) (e.after t told) (λ none. e.idle t told none)

pub returns-in_err-header-clause-stays : goal.returns-in_err-header-clause-stays
returns-in_err-header-clause-stays g c = λ t told off.
    let e = c.settle_gate.ensures.settles in
    stays_reading _ t off _ _ (stays_settling _ t off _ (e.any_moment t told) (e.after t told) (λ none. e.idle t told none)) c.read_directory.ensures.quiet

pub returns-clause-stays : goal.returns-clause-stays
returns-clause-stays g c = λ t told off.
    let e = c.settle_gate.ensures.settles in
    stays_reading _ t off _ _ (stays_settling _ t off _ (e.any_moment t told) (e.after t told) (λ none. e.idle t told none)) c.read_directory.ensures.quiet

pub returns-in_err-header-clause-transfers : goal.returns-in_err-header-clause-transfers
returns-in_err-header-clause-transfers g c = λ t told.
    let is : c.from_residual-in_err-header.result ≡ Err c.in_err-header.field-0.0 = search rules in
    rw is (adds_behind _ _ _ _ c.in_err-header.field-0.0 (c.in_ok-settle_gate.ensures.settles.transfers t told) c.in_err-header.ensures.transfers)

pub returns-clause-transfers : goal.returns-clause-transfers
returns-clause-transfers g c = λ t told. reads_behind _ _ _ _ (c.in_ok-settle_gate.ensures.settles.transfers t told) c.in_ok-header.ensures.transfers

pub returns-clause-open : goal.returns-clause-open
returns-clause-open g c =
    let s = c.in_ok-settle_gate.ensures.settles in
    let r = c.in_ok-header.ensures in
    record {
      valid = r.goes_on.continues.valid;
      size = omega (arith, c.requires.open.size, s.goes_on.continues.size, r.goes_on.continues.size);
      small = omega (arith, c.requires.open.small, s.goes_on.continues.size, r.goes_on.continues.size);
      room = r.room ∙ c.requires.open.room ∙ ap (λ (n : ℕ). 8 * (n - 5)) (sym (r.goes_on.continues.size ∙ s.goes_on.continues.size));
      legal = subst (λ (n : ℕ). IsLegalDirectory n c.in_ok-header.header (map slot_bytes c.read_directory.new.directory.table.slots)) (sym r.goes_on.continues.size) r.legal;
      known = λ t told. record { settled = s.settled t (sym r.quiet.tape ∙ told); directory = r.found t (sym r.quiet.tape ∙ told) };
      gate = λ t told. c.reads_open-self.ensures ∙ c.in_ok-settle_gate.ensures.gate t (sym r.quiet.tape ∙ told);
      end = λ t told. r.end t (sym r.quiet.tape ∙ told);
    }

pub returns-clause-consults : goal.returns-clause-consults
returns-clause-consults g c =
    let view = g.R.Records.view in
    let n = (view c.args.self.now.records).record_count in
    let header = c.in_ok-header.header in
    let s = c.in_ok-settle_gate.ensures.settles in
    let r = c.in_ok-header.ensures in
    let none : c.args.self.now.kept ≡ None = search rules in
    record {
      goes_on = subst (λ (o : Option HeaderParts). GoesOn (mounting n o (Some header)) (view c.args.self.now.records) (view c.read_directory.new.records) (Ok tt)) (sym none)
          (goes_within (70 + (1 + header.length)) (71 + header.length) _ _ _ (omega arith) (goes_further 70 (1 + header.length) _ _ _ c.in_ok-settle_gate.field-0 _ s.goes_on r.reads));
      few = λ t told. subst (λ (o : Option HeaderParts). (view c.args.self.now.records).calls_left ≤ (view c.read_directory.new.records).calls_left + mounting_on t o) (sym none)
          (omega (arith, s.goes_on.continues.left, r.few (settled t) (s.done t told)));
      idle = λ idle. absurd (omega (arith, idle, ap (λ (o : Option HeaderParts). mounting n o (Some header)) none));
      settles = λ t told. r.quiet.tape ∙ s.done t told;
      kept = refl;
    }

pub returns-in-Some-clause-gate : goal.returns-in-Some-clause-gate
returns-in-Some-clause-gate g c = λ t told.
    subst (λ (o : Option HeaderParts). IfSome o (λ h. c.args.self.now.is_open ≡ has_open_gate t)) c.in-Some.is (c.requires.open.gate t told)

pub returns-clause-gate : goal.returns-clause-gate
returns-clause-gate g c = λ t told. c.reads_open-self.ensures ∙ c.in_ok-settle_gate.ensures.gate t (sym c.in_ok-header.ensures.quiet.tape ∙ told)
