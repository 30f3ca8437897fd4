use Rattle.std.proofs.Common.{◌≡◌, ◌+◌, ◌∙◌, ℕ, ap, map, sym, subst, arith}
use Rattle.std.specs.Prelude.{Some, Err, IfSome}
use Rattle.lif_model.specs.Tape.{IsTape}
use Rattle.lif_model.specs.Redo.{redo_of, settled}
use Rattle.lif_model.specs.Commit.{IsSettleWrite}
use Rattle.il_ports.specs.Transfers.{AddsOnly}
use Rattle.il_ports.proofs.Stores.{goes_within}
use Rattle.lif_commit.proofs.Staging.{goes_told}
use Rattle.lif_plan.specs.Directories.{IsLegalDirectory}
use Rattle.lif_volume.specs.Commands.{mounting}
use Rattle.lif_dir.specs.Entries.{slot_bytes}
use Rattle.lif_volume.specs.declared.fault.VolumeFault.{VolumeFault}
use Rattle.lif_volume.specs.declared.volume.Listing.{Listing}
use Rattle.lif_volume.specs.Views.{IsDirectoryOf}
use Rattle.lif_volume.specs.Answers.{store_answer, keeps, IsSettledAs, IsLegalAs}
use Rattle.lif_pack.proofs.Consulting.{none_from, not_refused, some_of, in_each, left_from, nothing_left}
use Rattle.lif_pack.proofs.Stopped.{shown_settling}
use Rattle.lif_pack.proofs.Answered.{mounts_within}
use Rattle.lif_pack.proofs.finish.left_of.Goals as goal

pub returns-in-Ok-clause-goes_on : goal.returns-in-Ok-clause-goes_on
returns-in-Ok-clause-goes_on g c =
    let did = c.in-Ok.ensures.did in
    let n : ℕ = (g.R.Records.view c.args.volume.now.records).record_count in
    let few = mounts_within n c.args.volume.now.kept c.dir.new.self.kept (map slot_bytes c.dir.new.self.directory.table.slots) (omega (arith, c.requires.open.size))
    (subst (λ (m : ℕ). IfSome c.dir.new.self.kept (λ header. IsLegalDirectory m header (map slot_bytes c.dir.new.self.directory.table.slots))) did.consults.goes_on.continues.size c.in-Ok.ensures.open.legal) in
    goes_within (mounting n c.args.volume.now.kept c.dir.new.self.kept) (c.args.size + 66) _ _ _ (omega (arith, few, c.requires.size)) (goes_told _ _ _ _ _ did.consults.goes_on)

pub returns-in-Ok-clause-settled : goal.returns-in-Ok-clause-settled
returns-in-Ok-clause-settled g c = in_each c.task_of.result (λ t is.
    let kept = some_of c.dir.new.self.kept (λ header. IsDirectoryOf t header c.dir.new.self.directory.table.slots)
    c.in-Ok.ensures.did.consults.kept (c.in-Ok.ensures.open.known t is) in
    kept.1.settled)

pub returns-in-Ok-clause-left : goal.returns-in-Ok-clause-left
returns-in-Ok-clause-left g c t is =
    let tape : IsTape c.args.size t = subst (λ m. IsTape m t) (sym c.requires.size) ((g.met.R.Records.is_store _).is_tape t is) in
    let now : (g.R.Records.view c.dir.new.self.records).tape ≡ Some (settled t) = c.in-Ok.ensures.did.consults.settles t is in
    let kept = some_of c.dir.new.self.kept (λ header. IsDirectoryOf (settled t) header c.dir.new.self.directory.table.slots)
    c.in-Ok.ensures.did.consults.kept (c.in-Ok.ensures.open.known (settled t) now) in (
      now,
      left_from c.args.size t kept.0 c.dir.new.self.directory.table.slots c.in-Ok.listing c.task_of.result tape kept.1 (c.in-Ok.ensures.listed t is)
          (λ v is_volume same start end. c.task_of.ensures.task v is_volume (same ∙ sym (ap (map slot_bytes) c.slots.ensures)) start end),
    )

pub returns-in-Err-Refused-clause-left : goal.returns-in-Err-Refused-clause-left
returns-in-Err-Refused-clause-left g c t is =
    let tape : IsTape c.args.size t = subst (λ m. IsTape m t) (sym c.requires.size) ((g.met.R.Records.is_store _).is_tape t is) in (
      subst (λ (fault : VolumeFault). IsSettledAs t (g.R.Records.view c.dir.new.self.records).tape (store_answer {T = Listing} (Err fault))) c.in-Err-Refused.field-0-is
          (c.in-Err-Refused.ensures.did.consults.settles t is),
      nothing_left c.args.size t tape
          (subst (λ (fault : VolumeFault). IsLegalAs {T = Listing} (settled t) (Err fault)) c.in-Err-Refused.field-0-is (c.in-Err-Refused.ensures.exactly t is)),
    )

pub returns-in-Ok-clause-shown : goal.returns-in-Ok-clause-shown
returns-in-Ok-clause-shown g c t is own =
    let did = c.in-Ok.ensures.did in
    shown_settling _ _ t (g.met.R.Records.is_store _) (g.met.R.Records.is_store _) is (did.settling t is) (did.stays t is own)

pub returns-in-Err-Refused-clause-shown : goal.returns-in-Err-Refused-clause-shown
returns-in-Err-Refused-clause-shown g c t is own =
    let did = c.in-Err-Refused.ensures.did in
    shown_settling _ _ t (g.met.R.Records.is_store _) (g.met.R.Records.is_store _) is (did.settling t is) (did.stays t is own)

pub returns-in-Err-Trouble-clause-shown : goal.returns-in-Err-Trouble-clause-shown
returns-in-Err-Trouble-clause-shown g c t is own =
    let did = c.in-Err-Trouble.ensures.did in
    shown_settling _ _ t (g.met.R.Records.is_store _) (g.met.R.Records.is_store _) is (did.settling t is) (did.stays t is own)

pub returns-in-Ok-clause-mounts : goal.returns-in-Ok-clause-mounts
returns-in-Ok-clause-mounts g c t v is some = let consults = c.in-Ok.ensures.did.consults in record { few = consults.few t is; keeps = consults.kept }

pub returns-in-Err-Refused-clause-mounts : goal.returns-in-Err-Refused-clause-mounts
returns-in-Err-Refused-clause-mounts g c t v is some =
    absurd (not_refused t v some (subst (λ (fault : VolumeFault). IsLegalAs {T = Listing} (settled t) (Err fault)) c.in-Err-Refused.field-0-is (c.in-Err-Refused.ensures.exactly t is)))

pub returns-in-Err-Trouble-clause-mounts : goal.returns-in-Err-Trouble-clause-mounts
returns-in-Err-Trouble-clause-mounts g c t v is some = record { few = c.in-Err-Trouble.ensures.did.consults.few t is; keeps = tt }

pub returns-in-Err-Trouble-clause-forgets : goal.returns-in-Err-Trouble-clause-forgets
returns-in-Err-Trouble-clause-forgets g c =
    none_from c.dir.new.self.kept (c.in-Err-Trouble.ensures.did.consults.kept ∙ ap (λ (fault : VolumeFault). keeps {T = Listing} (Err fault)) c.in-Err-Trouble.field-0-is)

pub returns-in-Ok-clause-writes : goal.returns-in-Ok-clause-writes
returns-in-Ok-clause-writes g c t is = c.in-Ok.ensures.did.transfers t is

pub returns-in-Err-Refused-clause-writes : goal.returns-in-Err-Refused-clause-writes
returns-in-Err-Refused-clause-writes g c t is =
    subst (λ (fault : VolumeFault). AddsOnly (IsSettleWrite (g.R.Records.view c.args.volume.now.records).record_count (redo_of t)) (g.R.Records.view c.args.volume.now.records).transferred
    (g.R.Records.view c.dir.new.self.records).transferred (store_answer {T = Listing} (Err fault))) c.in-Err-Refused.field-0-is (c.in-Err-Refused.ensures.did.transfers t is)
