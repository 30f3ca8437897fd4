use Rattle.std.proofs.Common.{map, refl, sym, ap, ◌∙◌}
use Rattle.std.specs.Prelude.{is_some}
use Rattle.lif_model.proofs.Adopted.{adopted_some}
use Rattle.lif_dir.specs.Entries.{name_bytes, slot_bytes}
use Rattle.lif_plan.proofs.Found.{has_place}
use Rattle.lif_plan.proofs.directory.Directory.new_name.Goals as goal

pub returns-then-is_redo_name-clause-named : goal.returns-then-is_redo_name-clause-named
returns-then-is_redo_name-clause-named c =
    let adopted = adopted_some c.args.size c.in-Some.version (map slot_bytes c.args.self.now.table.slots) c.in-Some.ensures in
    record { refused = λ v is place. simp (is, adopted, sym c.is_redo_name.ensures.same ∙ c.if-is_redo_name.true) refl; known = refl }

pub returns-then-is_some-clause-named : goal.returns-then-is_some-clause-named
returns-then-is_some-clause-named c =
    let slots = map slot_bytes c.args.self.now.table.slots in
    let adopted = adopted_some c.args.size c.in-Some.version slots c.in-Some.ensures in
    let has = has_place slots (name_bytes c.args.name.now) ∙ ap is_some (sym c.place_named.ensures.place) ∙ sym c.is_some.ensures ∙ c.if-is_some.true in
    record { refused = λ v is place. simp (is, adopted, sym c.is_redo_name.ensures.same ∙ c.if-is_redo_name.false, has) refl; known = refl }

pub returns-clause-named : goal.returns-clause-named
returns-clause-named c = record {
  adopted = c.in-Some.ensures;
  other = sym c.is_redo_name.ensures.same ∙ c.if-is_redo_name.false;
  none_named = has_place (map slot_bytes c.args.self.now.table.slots) (name_bytes c.args.name.now) ∙ ap is_some (sym c.place_named.ensures.place) ∙ sym c.is_some.ensures ∙ c.if-is_some.false;
  ten = c.is_redo_name.ensures.wide;
}
