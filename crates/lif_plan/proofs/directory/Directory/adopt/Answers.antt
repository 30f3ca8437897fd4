use Rattle.std.proofs.Common.{◌≡◌, ◌<◌, ◌≤◌, ◌+◌, ◌*◌, ◌++◌, ◌∷◌, [], ℕ, suc, List, true, false, nat_lt, length, map, refl, ap, sym, ◌∙◌, arith}
use Rattle.std.proofs.lemmas.Bool.{ltb-true, lt-ltb, le-leb, lt-leb}
use Rattle.std.proofs.lemmas.List.{length-map}
use Rattle.std.specs.Prelude.{is_some}
use Rattle.lif_model.specs.Header.{HeaderParts, capacity_of}
use Rattle.lif_model.specs.Legal.{has_file}
use Rattle.lif_model.specs.Volume.{redo_name}
use Rattle.lif_model.specs.Writing.{SlotWrites}
use Rattle.lif_dir.specs.Entries.{entry_bytes, slot_bytes}
use Rattle.lif_plan.proofs.Found.{has_place}
use Rattle.lif_plan.proofs.Planning.{version_tells, refuses, leaves, makes, past_gate, put_last, end_is}
use Rattle.lif_plan.proofs.directory.Directory.adopt.Goals as goal

pub returns-then-is_some-clause-plan : goal.returns-then-is_some-clause-plan
returns-then-is_some-clause-plan c =
    let on = version_tells c.args.size (map slot_bytes c.args.self.now.table.slots) c.redo_version.result c.redo_version.ensures ∙ sym c.is_some.ensures ∙ c.if-is_some.true in
    leaves tt (λ v is. simp on refl) (λ v is u. simp on refl) (λ v is. simp on refl)

pub returns-then-is_some-2-clause-plan : goal.returns-then-is_some-2-clause-plan
returns-then-is_some-2-clause-plan c =
    let slots = map slot_bytes c.args.self.now.table.slots in
    let off = version_tells c.args.size slots c.redo_version.result c.redo_version.ensures ∙ sym c.is_some.ensures ∙ c.if-is_some.false in
    let has : has_file slots redo_name ≡ true = ap (has_file slots) (sym c.redo_name.ensures) ∙ has_place slots _ ∙ ap is_some (sym c.place_named.ensures.place) ∙ sym c.is_some-2.ensures ∙ c.if-is_some-2.true in
    refuses refl (λ v is. simp (off, has) refl)

pub returns-then-capacity-slot-clause-plan : goal.returns-then-capacity-slot-clause-plan
returns-then-capacity-slot-clause-plan c =
    let slots = map slot_bytes c.args.self.now.table.slots in
    let off = version_tells c.args.size slots c.redo_version.result c.redo_version.ensures ∙ sym c.is_some.ensures ∙ c.if-is_some.false in
    let has : has_file slots redo_name ≡ false = ap (has_file slots) (sym c.redo_name.ensures) ∙ has_place slots _ ∙ ap is_some (sym c.place_named.ensures.place) ∙ sym c.is_some-2.ensures ∙ c.if-is_some-2.false in
    let full : 8 * c.args.header.now.length ≤ length slots = omega (arith, c.if-capacity-slot.true, c.from-capacity.ensures, c.length.ensures, c.len-slot.ensures.count, length-map c.args.self.now.table.slots slot_bytes) in
    refuses refl (λ v is. simp (off, has, le-leb (capacity_of v.header) (length slots) (omega (arith, full, ap (λ (h : HeaderParts). h.length) is.told))) refl)

pub returns-then-runs_past-clause-plan : goal.returns-then-runs_past-clause-plan
returns-then-runs_past-clause-plan c =
    let n : ℕ = c.args.size in
    let slots = map slot_bytes c.args.self.now.table.slots in
    let off = version_tells n slots c.redo_version.result c.redo_version.ensures ∙ sym c.is_some.ensures ∙ c.if-is_some.false in
    let has : has_file slots redo_name ≡ false = ap (has_file slots) (sym c.redo_name.ensures) ∙ has_place slots _ ∙ ap is_some (sym c.place_named.ensures.place) ∙ sym c.is_some-2.ensures ∙ c.if-is_some-2.false in
    let room : length slots < 8 * c.args.header.now.length = omega (arith, c.if-capacity-slot.false, c.from-capacity.ensures, c.length.ensures, c.len-slot.ensures.count, length-map c.args.self.now.table.slots slot_bytes) in
    refuses refl (λ v is. simp (
      off,
      has,
      lt-leb (capacity_of v.header) (length slots) (omega (arith, room, ap (λ (h : HeaderParts). h.length) is.told)),
      sym (past_gate n slots c.start.result c.start.ensures off) ∙ sym c.runs_past.ensures ∙ c.if-runs_past.true,
    ) refl)

pub returns-clause-plan : goal.returns-clause-plan
returns-clause-plan c =
    let n : ℕ = c.args.size in
    let slots = map slot_bytes c.args.self.now.table.slots in
    let k : ℕ = c.len-slot.result in
    let off = version_tells n slots c.redo_version.result c.redo_version.ensures ∙ sym c.is_some.ensures ∙ c.if-is_some.false in
    let has : has_file slots redo_name ≡ false = ap (has_file slots) (sym c.redo_name.ensures) ∙ has_place slots _ ∙ ap is_some (sym c.place_named.ensures.place) ∙ sym c.is_some-2.ensures ∙ c.if-is_some-2.false in
    let spot : k ≡ length slots = omega (arith, c.len-slot.ensures.count, length-map c.args.self.now.table.slots slot_bytes) in
    let room : length slots < 8 * c.args.header.now.length = omega (arith, c.if-capacity-slot.false, c.from-capacity.ensures, c.length.ensures, spot) in
    let next : k + 1 ≡ suc k = omega arith in
    let capacity : 8 * c.from-capacity.result ≡ 8 * c.args.header.now.length = omega (arith, c.from-capacity.ensures, c.length.ensures) in
    let ended : nat_lt (k + 1) (8 * c.from-capacity.result) ≡ nat_lt (suc k) (8 * c.args.header.now.length) = λ i. nat_lt (next i) (capacity i) in
    makes _ tt
    (record { place = omega (arith, spot); one = omega (arith, spot); within = omega (arith, spot, room); kind = c.redo_entry.ensures.kind; next = tt; end_within = λ on. ltb-true (suc k) (8 * c.args.header.now.length) (sym ended ∙ on); end_past = λ on. omega (arith, spot); end_there = λ more room. ended ∙ lt-ltb (suc k) (8 * c.args.header.now.length) room }) tt
    (λ v is. simp (
      off,
      has,
      lt-leb (capacity_of v.header) (length slots) (omega (arith, room, ap (λ (h : HeaderParts). h.length) is.told)),
      sym (past_gate n slots c.start.result c.start.ensures off) ∙ sym c.runs_past.ensures ∙ c.if-runs_past.false,
    ) refl)
    (λ v is. (refl, off))
    (λ v is u begins. simp off (rw (sym spot) (rw (sym c.redo_entry.ensures.entry)
    (ap (λ (ws : SlotWrites). (k, entry_bytes c.redo_entry.result) ∷ ws)
    (end_is (capacity_of v.header) (8 * c.args.header.now.length) c.args.header.now.start (suc k) u _ (ap (λ (h : HeaderParts). 8 * h.length) is.told) begins ended)))))
    (λ v is. simp off (ap (λ (b : List ℕ). slots ++ b ∷ []) (sym c.redo_entry.ensures.entry) ∙ sym (put_last slots k (entry_bytes c.redo_entry.result) spot)))
