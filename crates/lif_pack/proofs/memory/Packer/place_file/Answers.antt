use Rattle.std.proofs.Common.{◌≡◌, ◌≤◌, ◌+◌, ◌*◌, ◌&&◌, ◌∙◌, nat_lt, ℕ, List, [], true, false, get_or, set, refl, sym, ap, subst, arith, rules}
use Rattle.std.specs.Prelude.{Err}
use Rattle.std.proofs.lemmas.List.{length-map}
use Rattle.std.proofs.lemmas.Bool.{and_parts, and_from, ltb-true, lt-ltb}
use Rattle.lif_model.specs.Directory.{start_of, length_of}
use Rattle.lif_model.specs.Legal.{is_live, has_records, occupies}
use Rattle.il_ports.proofs.Stores.{goes_within, quiet_run, quiet_nowhere}
use Rattle.lif_commit.proofs.Staging.{goes_failed, goes_told}
use Rattle.lif_dir.specs.Entries.{slot_bytes}
use Rattle.lif_model.specs.Packing.{live_length, with_start}
use Rattle.lif_pack.specs.Packers.{slots_held}
use Rattle.lif_pack.specs.Steps.{MayPack, ArePlaced, HasSlotsOf, ArePackedAlike}
use Rattle.lif_pack.proofs.Order.{live_whole}
use Rattle.lif_pack.proofs.Placing.{redo_lies, may_pack_on, placed_on, packed_alike, stays_placed, next_below, same_slots_of, slots_keep, stands_there}
use Rattle.lif_pack.proofs.memory.Packer.place_file.Goals as goal

pub entry-entry-requires : goal.entry-entry-requires
entry-entry-requires g c =
    let p = c.requires.may in
    let n : ℕ = (g.R.Records.view c.args.records.now).record_count in
    omega (arith, redo_lies n c.args.first p.0 c.args.redo (slots_held c.args.self.now) p.1, length-map c.args.self.now.slots.slots slot_bytes, c.requires.before)

pub overflow_add-next : goal.overflow_add-next
overflow_add-next g c =
    let p = c.requires.may in
    let n : ℕ = (g.R.Records.view c.args.records.now).record_count in
    let long : c.live_length.result ≡ live_length (get_or (slots_held c.args.self.now) c.args.slot []) = c.live_length.ensures ∙ ap live_length c.entry-entry.ensures in
    omega (arith, long, next_below n c.args.first p.0 c.args.redo (slots_held c.args.self.now) p.1 c.args.slot c.args.place p.2 c.requires.before c.requires.below, c.requires.medium)

pub returns-then-not-begins_above-clause-may : goal.returns-then-not-begins_above-clause-may
returns-then-not-begins_above-clause-may g c = λ end may placed.
    let n : ℕ = (g.R.Records.view c.args.records.now).record_count in
    let slots = slots_held c.args.self.now in
    let entry : List ℕ = get_or slots c.args.slot [] in
    let long : c.live_length.result ≡ live_length entry = c.live_length.ensures ∙ ap live_length c.entry-entry.ensures in
    let off : (occupies entry && nat_lt c.args.place (start_of entry)) ≡ false =
    ap (λ (e : List ℕ). occupies e && nat_lt c.args.place (start_of e)) (sym c.entry-entry.ensures) ∙ sym c.begins_above.ensures ∙ c.if-not-begins_above.true in
    let stands = stands_there n c.args.first end c.args.redo slots may c.args.slot c.args.place placed c.requires.before
    (λ down takes. let no : true ≡ false = sym (and_from (occupies entry) _ takes (lt-ltb c.args.place (start_of entry) down)) ∙ off in cc) in (
      may,
      subst (λ (m : ℕ). ArePlaced end (c.args.slot + 1) (c.args.place + m) slots) (sym long)
          (stays_placed n c.args.first end c.args.redo slots may c.args.slot c.args.place placed c.requires.before stands),
      λ v ends. refl,
    )

pub move_file-requires-clause-takes : goal.move_file-requires-clause-takes
move_file-requires-clause-takes g c =
    let entry : List ℕ = get_or (slots_held c.args.self.now) c.args.slot [] in
    let on : (occupies entry && nat_lt c.args.place (start_of entry)) ≡ true =
    ap (λ (e : List ℕ). occupies e && nat_lt c.args.place (start_of e)) (sym c.entry-entry.ensures) ∙ sym c.begins_above.ensures ∙ c.if-not-begins_above.false in
    (and_parts (occupies entry) _ on).0

pub move_file-requires-clause-down : goal.move_file-requires-clause-down
move_file-requires-clause-down g c =
    let entry : List ℕ = get_or (slots_held c.args.self.now) c.args.slot [] in
    let on : (occupies entry && nat_lt c.args.place (start_of entry)) ≡ true =
    ap (λ (e : List ℕ). occupies e && nat_lt c.args.place (start_of e)) (sym c.entry-entry.ensures) ∙ sym c.begins_above.ensures ∙ c.if-not-begins_above.false in
    ltb-true c.args.place (start_of entry) (and_parts (occupies entry) _ on).1

-- a file that has records takes fewer calls than 15 for each of them
few : (entry : List ℕ) → occupies entry ≡ true → 4 * length_of entry + 11 ≤ 15 * live_length entry
few entry takes =
    let parts = and_parts (is_live entry) (has_records entry) takes in
    omega (arith, live_whole entry parts.0, ltb-true 0 (length_of entry) parts.1)

pub move_file-requires-clause-ready : goal.move_file-requires-clause-ready
move_file-requires-clause-ready g c =
    let entry : List ℕ = get_or (slots_held c.args.self.now) c.args.slot [] in
    let on : (occupies entry && nat_lt c.args.place (start_of entry)) ≡ true =
    ap (λ (e : List ℕ). occupies e && nat_lt c.args.place (start_of e)) (sym c.entry-entry.ensures) ∙ sym c.begins_above.ensures ∙ c.if-not-begins_above.false in
    record { valid = c.requires.ready.valid; sound = c.requires.ready.sound; left = omega (arith, c.requires.ready.left, few entry (and_parts (occupies entry) _ on).0) }

pub returns-in_err-move_file-clause-goes_on : goal.returns-in_err-move_file-clause-goes_on
returns-in_err-move_file-clause-goes_on g c =
    let entry : List ℕ = get_or (slots_held c.args.self.now) c.args.slot [] in
    let on : (occupies entry && nat_lt c.args.place (start_of entry)) ≡ true =
    ap (λ (e : List ℕ). occupies e && nat_lt c.args.place (start_of e)) (sym c.entry-entry.ensures) ∙ sym c.begins_above.ensures ∙ c.if-not-begins_above.false in
    let is : c.from_residual.result ≡ Err c.in_err-move_file.field-0.0 = search rules in
    rw is (goes_within (4 * length_of entry + 11) (15 * live_length entry) _ _ _ (few entry (and_parts (occupies entry) _ on).0)
    (goes_failed (4 * length_of entry + 11) _ _ c.in_err-move_file.field-0.0 c.in_err-move_file.ensures.goes_on))

pub returns-clause-goes_on : goal.returns-clause-goes_on
returns-clause-goes_on g c =
    let entry : List ℕ = get_or (slots_held c.args.self.now) c.args.slot [] in
    let on : (occupies entry && nat_lt c.args.place (start_of entry)) ≡ true =
    ap (λ (e : List ℕ). occupies e && nat_lt c.args.place (start_of e)) (sym c.entry-entry.ensures) ∙ sym c.begins_above.ensures ∙ c.if-not-begins_above.false in
    goes_within (4 * length_of entry + 11) (15 * live_length entry) _ _ _ (few entry (and_parts (occupies entry) _ on).0)
    (goes_told (4 * length_of entry + 11) _ _ _ _ c.in_ok-move_file.ensures.goes_on)

pub returns-clause-may : goal.returns-clause-may
returns-clause-may g c = λ end may placed.
    let n : ℕ = (g.R.Records.view c.args.records.now).record_count in
    let slots = slots_held c.args.self.now in
    let entry : List ℕ = get_or slots c.args.slot [] in
    let on : (occupies entry && nat_lt c.args.place (start_of entry)) ≡ true =
    ap (λ (e : List ℕ). occupies e && nat_lt c.args.place (start_of e)) (sym c.entry-entry.ensures) ∙ sym c.begins_above.ensures ∙ c.if-not-begins_above.false in
    let takes = (and_parts (occupies entry) _ on).0 in
    let down = ltb-true c.args.place (start_of entry) (and_parts (occupies entry) _ on).1 in
    let long : c.live_length.result ≡ length_of entry = c.live_length.ensures ∙ ap live_length c.entry-entry.ensures ∙ live_whole entry (and_parts (is_live entry) (has_records entry) takes).0 in
    let later = set slots c.args.slot (with_start c.args.place entry) in
    subst (λ (xs : List (List ℕ)). MayPack n c.args.first end c.args.redo xs × ArePlaced end (c.args.slot + 1) (c.args.place + c.live_length.result) xs × ArePackedAlike n end slots xs) (sym c.in_ok-move_file.ensures.slots) (
      may_pack_on n c.args.first end c.args.redo slots may c.args.slot c.args.place placed c.requires.before takes down,
      subst (λ (m : ℕ). ArePlaced end (c.args.slot + 1) (c.args.place + m) later) (sym long)
          (placed_on n c.args.first end c.args.redo slots may c.args.slot c.args.place placed c.requires.before takes down),
      packed_alike n c.args.first end c.args.redo slots may c.args.slot c.args.place placed c.requires.before takes down,
    )

pub returns-then-not-begins_above-clause-moves : goal.returns-then-not-begins_above-clause-moves
returns-then-not-begins_above-clause-moves g c = λ end t may placed is. (t, is, same_slots_of c.args.first end (slots_held c.args.self.now) t)

pub returns-clause-moves : goal.returns-clause-moves
returns-clause-moves g c = λ end t may placed is.
    let m = c.in_ok-move_file.ensures.moves end t may placed is in (
      m.0,
      m.1,
      subst (λ (xs : List (List ℕ)). HasSlotsOf c.args.first end (slots_held c.args.self.now) xs t m.0) (sym c.in_ok-move_file.ensures.slots) m.2,
    )

pub returns-then-not-begins_above-clause-stops : goal.returns-then-not-begins_above-clause-stops
returns-then-not-begins_above-clause-stops g c = λ end t may placed is v some same starts ends.
    let n : ℕ = (g.R.Records.view c.args.records.now).record_count in
    quiet_run _ _ _ t (g.met.R.Records.is_store _) (quiet_nowhere _) is
    (slots_keep n c.args.first end c.args.redo (slots_held c.args.self.now) t may ((g.met.R.Records.is_store _).is_tape t is) (c.requires.settled t is) v some same starts ends)
