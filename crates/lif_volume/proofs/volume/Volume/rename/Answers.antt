use Rattle.std.proofs.Common.{◌≡◌, ◌∷◌, [], ℕ, List, map, refl, subst, rules}
use Rattle.std.specs.Prelude.{Err}
use Rattle.lif_model.specs.Apply.{Rename}
use Rattle.lif_dir.specs.Entries.{name_bytes, slot_bytes}
use Rattle.lif_dir.specs.Names.{made_name}
use Rattle.lif_model.specs.declared.refusal.Refusal.{Refusal}
use Rattle.lif_model.specs.declared.refusal.Refusal.TheVariants.{Exists, NoFile, NoRedo, Protected}
use Rattle.lif_plan.specs.Plans.{IsPlan}
use Rattle.lif_volume.specs.Seen.{seen}
use Rattle.lif_volume.proofs.Joining.{altered, not_altered, long_there, ready_there}
use Rattle.lif_volume.proofs.volume.Volume.rename.Goals as goal

abbrev names : List Refusal
names = NoRedo ∷ Protected ∷ NoFile ∷ Exists ∷ []

pub carry_out-requires-clause-ready : goal.carry_out-requires-clause-ready
carry_out-requires-clause-ready g c =
    let e = c.in_ok-header.ensures in
    ready_there g.R.Records.view (seen c.args.self.now) (seen c.mount.new.self) c.in_ok-header.header e.kept e.consults e.open c.requires.open.size c.requires.ready.left

pub carry_out-requires-clause-plan : goal.carry_out-requires-clause-plan
carry_out-requires-clause-plan g c =
    (Rename (name_bytes c.args.old.now) (name_bytes (made_name c.args.new.now)), refl, subst (λ (n : ℕ). IsPlan n (Rename (name_bytes c.args.old.now) (name_bytes (made_name c.args.new.now))) c.in_ok-header.header (map slot_bytes c.mount.new.self.directory.table.slots) c.rename-plan.result) c.size.ensures c.rename-plan.ensures.plan)

pub returns-in_err-header-clause-did : goal.returns-in_err-header-clause-did
returns-in_err-header-clause-did g c =
    let is : c.from_residual.result ≡ Err c.in_err-header.field-0.0 = search rules in
    let e = c.in_err-header.ensures in
    rw is (not_altered g.R.Records.view (seen c.args.self.now) (seen c.mount.new.self) (Rename (name_bytes c.args.old.now) (name_bytes (made_name c.args.new.now))) tt c.in_err-header.field-0.0 e.consults e.only e.exactly names refl e.settling e.stays e.transfers)

pub returns-clause-did : goal.returns-clause-did
returns-clause-did g c =
    let e = c.in_ok-header.ensures in
    let plan = subst (λ (n : ℕ). IsPlan n (Rename (name_bytes c.args.old.now) (name_bytes (made_name c.args.new.now))) c.in_ok-header.header (map slot_bytes c.mount.new.self.directory.table.slots) c.rename-plan.result) c.size.ensures c.rename-plan.ensures.plan in
    altered g.R.Records.view (seen c.args.self.now) (seen c.mount.new.self) (seen c.carry_out.new.self) c.in_ok-header.header (Rename (name_bytes c.args.old.now) (name_bytes (made_name c.args.new.now))) tt c.carry_out.result e.consults e.kept
    (long_there g.R.Records.view (seen c.args.self.now) (seen c.mount.new.self) c.in_ok-header.header e.kept e.consults e.open) (c.carry_out.ensures.carried (Rename (name_bytes c.args.old.now) (name_bytes (made_name c.args.new.now))) refl plan)
    names refl (c.carry_out.ensures.only names c.rename-plan.ensures.only) e.settling e.stays e.transfers
