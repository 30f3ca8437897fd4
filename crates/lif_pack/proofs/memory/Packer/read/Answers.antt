use Rattle.std.proofs.Common.{◌≡◌, ◌+◌, ◌-◌, ◌∙◌, ℕ, Option, map, inr, sym, ap, subst, arith}
use Rattle.std.specs.Prelude.{Some, Err, IfSome}
use Rattle.lif_model.specs.Header.{HeaderParts, directory_start, directory_end}
use Rattle.lif_model.specs.Redo.{settled}
use Rattle.lif_model.specs.Volume.{IsVolume}
use Rattle.il_ports.proofs.Stores.{goes_within}
use Rattle.lif_commit.proofs.Staging.{goes_told}
use Rattle.lif_dir.specs.Entries.{slot_bytes}
use Rattle.lif_plan.specs.Directories.{IsLegalDirectory}
use Rattle.lif_volume.specs.Views.{IsDirectoryOf}
use Rattle.lif_volume.specs.Answers.{refused}
use Rattle.lif_volume.specs.Commands.{mounting}
use Rattle.lif_model.specs.Packing.{pack_refusal}
use Rattle.lif_pack.specs.Packers.{slots_held, IsPackerFor}
use Rattle.lif_pack.specs.Steps.{MayPack}
use Rattle.lif_pack.specs.Packs.{IsRefusedTo, IsTaskWith, AreThoseOf, header_in}
use Rattle.lif_pack.proofs.Stopped.{shown_settling}
use Rattle.lif_pack.proofs.RefusedFinished.{refused_finished}
use Rattle.lif_pack.proofs.Packable.{kept_volume}
use Rattle.lif_pack.proofs.Answered.{passed_on, same_tape, mounts_within, mounts_read, mounts_kept, refused_by_dir}
use Rattle.lif_pack.proofs.memory.Packer.read.Goals as goal

-- ---- there is no directory

pub returns-in_err-listing-clause-refused : goal.returns-in_err-listing-clause-refused
returns-in_err-listing-clause-refused g c t u is now =
    let n : ℕ = (g.R.Records.view c.args.volume.now.records).record_count in
    let fault = c.in_err-listing.field-0.0 in
    let known = c.in_err-listing.ensures in
    let passed : c.from_residual.result ≡ Err fault = passed_on c.from_residual.result fault c.from_residual.ensures.0 c.from_residual.ensures.1 in
    subst (IsRefusedTo n t u) (sym passed) (refused_by_dir n t u fault (g.R.Records.view c.dir.new.self.records).tape now (known.exactly t is) known.did.only (known.did.consults.settles t is))

pub returns-in_err-listing-clause-shown : goal.returns-in_err-listing-clause-shown
returns-in_err-listing-clause-shown g c t is own =
    let did = c.in_err-listing.ensures.did in
    shown_settling _ _ t (g.met.R.Records.is_store _) (g.met.R.Records.is_store _) is (did.settling t is) (did.stays t is own)

pub returns-in_err-listing-clause-idle : goal.returns-in_err-listing-clause-idle
returns-in_err-listing-clause-idle g c on = c.in_err-listing.ensures.did.consults.idle (mounts_kept _ _ _ on)

-- ---- it is told

pub take-requires-clause-legal : goal.take-requires-clause-legal
take-requires-clause-legal g c =
    let n : ℕ = (g.R.Records.view c.args.volume.now.records).record_count in
    let did = c.in_ok-listing.ensures.did in
    let found = c.dir.new.self.directory.table.slots in
    let header : HeaderParts = header_in c.in_ok-listing.listing in
    let same : (g.R.Records.view c.dir.new.self.records).record_count ≡ n = did.consults.goes_on.continues.size in
    let size : c.size-size.result ≡ n = c.size-size.ensures ∙ ap (λ r. (g.R.Records.view r).record_count) c.records.ensures ∙ same in
    let legal : IsLegalDirectory n header (map slot_bytes found) = subst (λ (m : ℕ). IsLegalDirectory m header (map slot_bytes found)) same
    (subst (λ (o : Option HeaderParts). IfSome o (λ h. IsLegalDirectory (g.R.Records.view c.dir.new.self.records).record_count h (map slot_bytes found))) c.in_ok-listing.ensures.kept c.in_ok-listing.ensures.open.legal) in
    coe 0 1 (i. IsLegalDirectory (sym size i) header (map slot_bytes (sym c.slots.ensures i))) legal

pub take-requires-clause-memory : goal.take-requires-clause-memory
take-requires-clause-memory g c =
    let n : ℕ = (g.R.Records.view c.args.volume.now.records).record_count in
    let did = c.in_ok-listing.ensures.did in
    let found = c.dir.new.self.directory.table.slots in
    let header : HeaderParts = header_in c.in_ok-listing.listing in
    let same : (g.R.Records.view c.dir.new.self.records).record_count ≡ n = did.consults.goes_on.continues.size in
    let size : c.size-size.result ≡ n = c.size-size.ensures ∙ ap (λ r. (g.R.Records.view r).record_count) c.records.ensures ∙ same in
    subst (λ (m : ℕ). IsPackerFor m c.args.self.now) (sym size) c.requires.memory

pub take-requires-clause-small : goal.take-requires-clause-small
take-requires-clause-small g c =
    let n : ℕ = (g.R.Records.view c.args.volume.now.records).record_count in
    let did = c.in_ok-listing.ensures.did in
    let found = c.dir.new.self.directory.table.slots in
    let header : HeaderParts = header_in c.in_ok-listing.listing in
    let same : (g.R.Records.view c.dir.new.self.records).record_count ≡ n = did.consults.goes_on.continues.size in
    let size : c.size-size.result ≡ n = c.size-size.ensures ∙ ap (λ r. (g.R.Records.view r).record_count) c.records.ensures ∙ same in
    omega (arith, size, c.requires.small)

-- ---- it is refused

pub returns-in_err-found-clause-goes_on : goal.returns-in_err-found-clause-goes_on
returns-in_err-found-clause-goes_on g c =
    let n : ℕ = (g.R.Records.view c.args.volume.now.records).record_count in
    let did = c.in_ok-listing.ensures.did in
    let found = c.dir.new.self.directory.table.slots in
    let header : HeaderParts = header_in c.in_ok-listing.listing in
    let same : (g.R.Records.view c.dir.new.self.records).record_count ≡ n = did.consults.goes_on.continues.size in
    let size : c.size-size.result ≡ n = c.size-size.ensures ∙ ap (λ r. (g.R.Records.view r).record_count) c.records.ensures ∙ same in
    let why = refused c.in_err-found.field-0.0 in
    let passed : c.from_residual-in_err-found.result ≡ Err why = passed_on c.from_residual-in_err-found.result why c.from_residual-in_err-found.ensures.0 c.from_residual-in_err-found.ensures.1 in
    let few = mounts_within n c.args.volume.now.kept c.dir.new.self.kept (map slot_bytes found) (omega (arith, c.requires.open.size))
    (subst (λ (m : ℕ). IfSome c.dir.new.self.kept (λ h. IsLegalDirectory m h (map slot_bytes found))) same c.in_ok-listing.ensures.open.legal) in
    rw passed (goes_within (mounting n c.args.volume.now.kept c.dir.new.self.kept) (n + 66) _ _ _ few (goes_told _ _ _ _ tt did.consults.goes_on))

pub returns-in_err-found-clause-only : goal.returns-in_err-found-clause-only
returns-in_err-found-clause-only g c =
    let why = refused c.in_err-found.field-0.0 in
    let passed : c.from_residual-in_err-found.result ≡ Err why = passed_on c.from_residual-in_err-found.result why c.from_residual-in_err-found.ensures.0 c.from_residual-in_err-found.ensures.1 in
    rw passed (inr c.in_err-found.ensures.among)

pub returns-in_err-found-clause-idle : goal.returns-in_err-found-clause-idle
returns-in_err-found-clause-idle g c on = c.in_ok-listing.ensures.did.consults.idle (mounts_kept _ _ _ on)

pub returns-in_err-found-clause-refused : goal.returns-in_err-found-clause-refused
returns-in_err-found-clause-refused g c t u is now =
    let n : ℕ = (g.R.Records.view c.args.volume.now.records).record_count in
    let did = c.in_ok-listing.ensures.did in
    let found = c.dir.new.self.directory.table.slots in
    let header : HeaderParts = header_in c.in_ok-listing.listing in
    let same : (g.R.Records.view c.dir.new.self.records).record_count ≡ n = did.consults.goes_on.continues.size in
    let size : c.size-size.result ≡ n = c.size-size.ensures ∙ ap (λ r. (g.R.Records.view r).record_count) c.records.ensures ∙ same in
    let told = did.consults.settles t is in
    let kept : IsDirectoryOf (settled t) header found = subst (λ (o : Option HeaderParts). IfSome o (λ h. IsDirectoryOf (settled t) h found)) c.in_ok-listing.ensures.kept (c.in_ok-listing.ensures.open.known (settled t) told) in
    let of = kept_volume n t header found ((g.met.R.Records.is_store _).is_tape t is) kept in
    let why = c.in_err-found.field-0.0 in
    let passed : c.from_residual-in_err-found.result ≡ Err (refused why) = passed_on c.from_residual-in_err-found.result (refused why) c.from_residual-in_err-found.ensures.0 c.from_residual-in_err-found.ensures.1 in
    let told_so : pack_refusal n (Some of.0) ≡ Some why = subst (λ (m : ℕ). IsVolume m of.0 → of.0.slots ≡ map slot_bytes c.slots.result.now.slots → pack_refusal m (Some of.0) ≡ Some why) size (c.in_err-found.ensures.refused of.0)
    of.1.volume (of.1.slots ∙ sym (ap (map slot_bytes) c.slots.ensures)) in
    subst (IsRefusedTo n t u) (sym passed) (
      refused_finished n t ((g.met.R.Records.is_store _).is_tape t is) why (ap (pack_refusal n) of.1.some ∙ told_so),
      same_tape (settled t) u (g.R.Records.view c.dir.new.self.records).tape now told,
    )

pub returns-in_err-found-clause-shown : goal.returns-in_err-found-clause-shown
returns-in_err-found-clause-shown g c t is own =
    let did = c.in_ok-listing.ensures.did in
    shown_settling _ _ t (g.met.R.Records.is_store _) (g.met.R.Records.is_store _) is (did.settling t is) (did.stays t is own)

-- ---- it may be packed

pub returns-clause-idle : goal.returns-clause-idle
returns-clause-idle g c on = c.in_ok-listing.ensures.did.consults.idle (mounts_kept _ _ _ on)

pub returns-clause-memory : goal.returns-clause-memory
returns-clause-memory g c =
    let n : ℕ = (g.R.Records.view c.args.volume.now.records).record_count in
    let did = c.in_ok-listing.ensures.did in
    let found = c.dir.new.self.directory.table.slots in
    let header : HeaderParts = header_in c.in_ok-listing.listing in
    let same : (g.R.Records.view c.dir.new.self.records).record_count ≡ n = did.consults.goes_on.continues.size in
    let size : c.size-size.result ≡ n = c.size-size.ensures ∙ ap (λ r. (g.R.Records.view r).record_count) c.records.ensures ∙ same in
    subst (λ (m : ℕ). IsPackerFor m c.take.new.self) size c.take.ensures.memory

pub returns-clause-goes_on : goal.returns-clause-goes_on
returns-clause-goes_on g c =
    let n : ℕ = (g.R.Records.view c.args.volume.now.records).record_count in
    let did = c.in_ok-listing.ensures.did in
    let found = c.dir.new.self.directory.table.slots in
    let header : HeaderParts = header_in c.in_ok-listing.listing in
    let same : (g.R.Records.view c.dir.new.self.records).record_count ≡ n = did.consults.goes_on.continues.size in
    let size : c.size-size.result ≡ n = c.size-size.ensures ∙ ap (λ r. (g.R.Records.view r).record_count) c.records.ensures ∙ same in
    let most = mounts_read n c.args.volume.now.kept header in
    let at = c.in_ok-found.ensures.places in
    goes_within (mounting n c.args.volume.now.kept c.dir.new.self.kept) (71 + (c.in_ok-found.found.end - c.in_ok-found.found.first)) _ _ _
    (omega (arith, most, ap (mounting n c.args.volume.now.kept) c.in_ok-listing.ensures.kept, at.0, at.1)) (goes_told _ _ _ _ tt did.consults.goes_on)

pub returns-clause-may : goal.returns-clause-may
returns-clause-may g c =
    let n : ℕ = (g.R.Records.view c.args.volume.now.records).record_count in
    let did = c.in_ok-listing.ensures.did in
    let found = c.dir.new.self.directory.table.slots in
    let header : HeaderParts = header_in c.in_ok-listing.listing in
    let same : (g.R.Records.view c.dir.new.self.records).record_count ≡ n = did.consults.goes_on.continues.size in
    let size : c.size-size.result ≡ n = c.size-size.ensures ∙ ap (λ r. (g.R.Records.view r).record_count) c.records.ensures ∙ same in
    let may = c.in_ok-found.ensures.may in
    let laid = c.in_ok-found.found in (
      subst (λ (m : ℕ). MayPack m laid.first laid.end laid.redo (slots_held c.take.new.self)) size may.0,
      may.1,
      subst (λ (m : ℕ). IsTaskWith m laid.end laid.redo (slots_held c.take.new.self) laid.task) size may.2,
    )

pub returns-clause-settled : goal.returns-clause-settled
returns-clause-settled g c t is =
    let found = c.dir.new.self.directory.table.slots in
    (subst (λ (o : Option HeaderParts). IfSome o (λ h. IsDirectoryOf t h found)) c.in_ok-listing.ensures.kept (c.in_ok-listing.ensures.open.known t is)).settled

pub returns-clause-those : goal.returns-clause-those
returns-clause-those g c t is =
    let n : ℕ = (g.R.Records.view c.args.volume.now.records).record_count in
    let did = c.in_ok-listing.ensures.did in
    let found = c.dir.new.self.directory.table.slots in
    let header : HeaderParts = header_in c.in_ok-listing.listing in
    let same : (g.R.Records.view c.dir.new.self.records).record_count ≡ n = did.consults.goes_on.continues.size in
    let size : c.size-size.result ≡ n = c.size-size.ensures ∙ ap (λ r. (g.R.Records.view r).record_count) c.records.ensures ∙ same in
    let told = did.consults.settles t is in
    let kept : IsDirectoryOf (settled t) header found = subst (λ (o : Option HeaderParts). IfSome o (λ h. IsDirectoryOf (settled t) h found)) c.in_ok-listing.ensures.kept (c.in_ok-listing.ensures.open.known (settled t) told) in
    let of = kept_volume n t header found ((g.met.R.Records.is_store _).is_tape t is) kept in
    let laid = c.in_ok-found.found in
    let at = c.in_ok-found.ensures.places in
    let those = subst (λ (m : ℕ). IsVolume m of.0 → of.0.slots ≡ map slot_bytes c.slots.result.now.slots → directory_start of.0.header ≡ laid.first → directory_end of.0.header ≡ laid.end
    → AreThoseOf m laid.first laid.end laid.redo laid.task (slots_held c.take.new.self) of.0) size (c.in_ok-found.ensures.those of.0) of.1.volume (of.1.slots ∙ sym (ap (map slot_bytes) c.slots.ensures)) (of.1.starts ∙ sym at.0) (of.1.ends ∙ sym at.1) in
    (told, of.0, of.1.settled_too, those)

pub returns-clause-shown : goal.returns-clause-shown
returns-clause-shown g c t is own =
    let did = c.in_ok-listing.ensures.did in
    shown_settling _ _ t (g.met.R.Records.is_store _) (g.met.R.Records.is_store _) is (did.settling t is) (did.stays t is own)
