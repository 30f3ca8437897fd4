use Rattle.std.proofs.Common.{◌==◌, map, refl, ap, sym, ◌∙◌, arith, rules}
use Rattle.std.specs.Prelude.{is_some}
use Rattle.lif_model.specs.Made.{with_type}
use Rattle.lif_model.proofs.Made.{typed_type}
use Rattle.lif_model.proofs.Adopted.{adopted_some}
use Rattle.lif_dir.specs.Entries.{name_bytes, slot_bytes}
use Rattle.lif_plan.proofs.Found.{has_place}
use Rattle.lif_plan.proofs.Planning.{refuses, slot_plan}
use Rattle.lif_plan.proofs.directory.Directory.purge.Goals as goal

pub returns-then-is_redo_name-clause-plan : goal.returns-then-is_redo_name-clause-plan
returns-then-is_redo_name-clause-plan c =
    let adopted = adopted_some c.args.size c.in-Some.version (map slot_bytes c.args.self.now.table.slots) c.in-Some.ensures in
    refuses refl (λ v is. simp (adopted, sym c.is_redo_name.ensures.same ∙ c.if-is_redo_name.true) refl)

pub returns-in_default-place_named-clause-plan : goal.returns-in_default-place_named-clause-plan
returns-in_default-place_named-clause-plan c =
    let slots = map slot_bytes c.args.self.now.table.slots in
    let adopted = adopted_some c.args.size c.in-Some.version slots c.in-Some.ensures in
    let none = has_place slots (name_bytes c.args.name.now) ∙ ap is_some (sym c.place_named.ensures.place ∙ c.in_default-place_named.is) in
    refuses refl (λ v is. simp (adopted, sym c.is_redo_name.ensures.same ∙ c.if-is_redo_name.false, none) refl)

pub returns-clause-plan : goal.returns-clause-plan
returns-clause-plan c =
    let slots = map slot_bytes c.args.self.now.table.slots in
    let adopted = adopted_some c.args.size c.in-Some.version slots c.in-Some.ensures in
    let place = sym c.in-Some-place_named.ensures.place in
    let has = has_place slots (name_bytes c.args.name.now) ∙ ap is_some place in
    slot_plan (name_bytes c.args.name.now) c.in-Some-place_named.slot (with_type 0) c.in-Some.version c.purged.result c.is_redo_name.ensures.wide tt c.requires.legal place
    (c.purged.ensures ∙ ap (with_type 0) c.entry.ensures) (search rules) (λ s size off. ap (λ k. k == 0xFFFF) (typed_type 0 s (omega (arith, size))))
    (λ v is. simp (adopted, sym c.is_redo_name.ensures.same ∙ c.if-is_redo_name.false, has) refl)
    (λ v is. c.in-Some.ensures) (λ v is u. refl) (λ v is. refl)
