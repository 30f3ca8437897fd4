use Rattle.std.proofs.Common.{◌≡◌, ◌==◌, true, false, length, map, refl, ap, sym, ◌∙◌, rules}
use Rattle.std.specs.Prelude.{is_some}
use Rattle.lif_model.proofs.Made.{named_type}
use Rattle.std.specs.Str.{bytes_eq}
use Rattle.std.proofs.lemmas.Bool.{and_right}
use Rattle.lif_model.specs.Legal.{has_file}
use Rattle.lif_model.specs.Made.{with_name}
use Rattle.lif_model.proofs.Adopted.{adopted_some}
use Rattle.lif_dir.specs.Entries.{name_bytes, slot_bytes}
use Rattle.lif_plan.proofs.Found.{has_place}
use Rattle.lif_plan.proofs.Planning.{refuses, leaves, slot_plan}
use Rattle.lif_plan.proofs.directory.Directory.rename.Goals as goal
use Rattle.lif_plan.proofs.directory.Directory.rename.Goals.{then-is_redo_name-via-then-is_redo_name, then-is_redo_name-via-else-is_redo_name+then-is_redo_name-2}

pub returns-then-is_redo_name-clause-plan : goal.returns-then-is_redo_name-clause-plan
returns-then-is_redo_name-clause-plan c =
    let adopted = adopted_some c.args.size c.in-Some.version (map slot_bytes c.args.self.now.table.slots) c.in-Some.ensures in
    rw (sym c.name-later.ensures) (elim c.then-is_redo_name.branch [
      | then-is_redo_name-via-then-is_redo_name w ↦ refuses refl (λ v is. simp (adopted, sym c.is_redo_name.ensures.same ∙ w.if-is_redo_name.true) refl)
      | then-is_redo_name-via-else-is_redo_name+then-is_redo_name-2 w ↦ refuses refl (λ v is.
          simp (adopted, sym c.is_redo_name.ensures.same ∙ w.if-is_redo_name.false, sym w.is_redo_name-else-is_redo_name.ensures.same ∙ w.if-is_redo_name-2.true) refl)
    ])

pub returns-in_default-place_named-clause-plan : goal.returns-in_default-place_named-clause-plan
returns-in_default-place_named-clause-plan c =
    let slots = map slot_bytes c.args.self.now.table.slots in
    let adopted = adopted_some c.args.size c.in-Some.version slots c.in-Some.ensures in
    let none = has_place slots (name_bytes c.args.old.now) ∙ ap is_some (sym c.place_named.ensures.place ∙ c.in_default-place_named.is) in
    rw (sym c.name-later.ensures) (refuses refl (λ v is.
    simp (adopted, sym c.is_redo_name.ensures.same ∙ c.if-is_redo_name.false, sym c.is_redo_name-else-is_redo_name.ensures.same ∙ c.if-is_redo_name-2.false, none) refl))

pub returns-then-eq-clause-plan : goal.returns-then-eq-clause-plan
returns-then-eq-clause-plan c =
    let slots = map slot_bytes c.args.self.now.table.slots in
    let adopted = adopted_some c.args.size c.in-Some.version slots c.in-Some.ensures in
    let has = has_place slots (name_bytes c.args.old.now) ∙ ap is_some (sym c.in-Some-place_named.ensures.place) in
    let one : bytes_eq (name_bytes c.args.old.now) (name_bytes c.name-later.result) ≡ true = (λ i. bytes_eq (sym c.bytes.ensures i) (sym c.bytes-2.ensures i)) ∙ sym c.eq.ensures ∙ c.if-eq.true in
    rw (sym c.name-later.ensures) (leaves (c.is_redo_name.ensures.wide, c.is_redo_name-else-is_redo_name.ensures.wide)
    (λ v is. simp (adopted, sym c.is_redo_name.ensures.same ∙ c.if-is_redo_name.false, sym c.is_redo_name-else-is_redo_name.ensures.same ∙ c.if-is_redo_name-2.false, has, one) (simp (and_right (has_file slots (name_bytes c.name-later.result)) false refl) refl))
    (λ v is u. simp one refl) (λ v is. simp one refl))

pub returns-then-is_some-clause-plan : goal.returns-then-is_some-clause-plan
returns-then-is_some-clause-plan c =
    let slots = map slot_bytes c.args.self.now.table.slots in
    let adopted = adopted_some c.args.size c.in-Some.version slots c.in-Some.ensures in
    let has = has_place slots (name_bytes c.args.old.now) ∙ ap is_some (sym c.in-Some-place_named.ensures.place) in
    let there = has_place slots (name_bytes c.name-later.result) ∙ ap is_some (sym c.place_named-2.ensures.place) ∙ sym c.is_some.ensures ∙ c.if-is_some.true in
    let two : bytes_eq (name_bytes c.args.old.now) (name_bytes c.name-later.result) ≡ false = (λ i. bytes_eq (sym c.bytes.ensures i) (sym c.bytes-2.ensures i)) ∙ sym c.eq.ensures ∙ c.if-eq.false in
    rw (sym c.name-later.ensures) (refuses refl (λ v is.
    simp (adopted, sym c.is_redo_name.ensures.same ∙ c.if-is_redo_name.false, sym c.is_redo_name-else-is_redo_name.ensures.same ∙ c.if-is_redo_name-2.false, has, there, two) refl))

pub returns-clause-plan : goal.returns-clause-plan
returns-clause-plan c =
    let slots = map slot_bytes c.args.self.now.table.slots in
    let adopted = adopted_some c.args.size c.in-Some.version slots c.in-Some.ensures in
    let place = sym c.in-Some-place_named.ensures.place in
    let has = has_place slots (name_bytes c.args.old.now) ∙ ap is_some place in
    let none = has_place slots (name_bytes c.name-later.result) ∙ ap is_some (sym c.place_named-2.ensures.place) ∙ sym c.is_some.ensures ∙ c.if-is_some.false in
    let two : bytes_eq (name_bytes c.args.old.now) (name_bytes c.name-later.result) ≡ false = (λ i. bytes_eq (sym c.bytes.ensures i) (sym c.bytes-2.ensures i)) ∙ sym c.eq.ensures ∙ c.if-eq.false in
    let ten : length (name_bytes c.name-later.result) ≡ 10 = c.is_redo_name-else-is_redo_name.ensures.wide in
    rw (sym c.name-later.ensures) (slot_plan (name_bytes c.args.old.now) c.in-Some-place_named.slot (with_name (name_bytes c.name-later.result)) c.in-Some.version c.renamed.result
    (c.is_redo_name.ensures.wide, ten) tt c.requires.legal place (c.renamed.ensures ∙ ap (with_name (name_bytes c.name-later.result)) c.entry.ensures) (search rules) (λ s size off. ap (λ k. k == 0xFFFF) (named_type (name_bytes c.name-later.result) s ten) ∙ off)
    (λ v is. simp (adopted, sym c.is_redo_name.ensures.same ∙ c.if-is_redo_name.false, sym c.is_redo_name-else-is_redo_name.ensures.same ∙ c.if-is_redo_name-2.false, has, none, two) refl)
    (λ v is. c.in-Some.ensures) (λ v is u. simp two refl) (λ v is. simp two refl))
