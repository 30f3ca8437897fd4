use Rattle.std.proofs.Common.{◌≡◌, ◌+◌, ◌-◌, ◌*◌, ◌∙◌, ℕ, [], length, map, get_or, set, refl, ap, arith}
use Rattle.std.proofs.lemmas.List.{length-map, map-set}
use Rattle.lif_model.specs.Directory.{start_of, length_of, is_end}
use Rattle.il_ports.proofs.Stores.{goes_within}
use Rattle.lif_dir.specs.Entries.{slot_bytes}
use Rattle.lif_dir.specs.Tables.{Table}
use Rattle.lif_model.specs.Packing.{with_start}
use Rattle.lif_pack.specs.Packers.{slots_held}
use Rattle.lif_model.proofs.Moments.{weaker}
use Rattle.lif_pack.proofs.Placing.{redo_lies, may_move, moved_slots, move_keeps}
use Rattle.lif_pack.proofs.memory.Packer.move_file.Goals as goal

pub entry-entry-requires : goal.entry-entry-requires
entry-entry-requires g c =
    let p = c.requires.may in
    let n : ℕ = (g.R.Records.view c.args.records.now).record_count in
    omega (arith, redo_lies n c.args.first p.0 c.args.redo (slots_held c.args.self.now) p.1, length-map c.args.self.now.slots.slots slot_bytes, c.requires.before)

pub move_rest-requires-clause-may : goal.move_rest-requires-clause-may
move_rest-requires-clause-may g c =
    let p = c.requires.may in
    let n : ℕ = (g.R.Records.view c.args.records.now).record_count in
    may_move n c.args.first p.0 c.args.redo (slots_held c.args.self.now) p.1 c.args.slot c.args.place p.2 c.requires.before c.requires.takes c.requires.down
    (record { slot = c.args.slot; place = c.args.place; start = c.start_of.result; length = c.length_of.result; moved = 0 }) refl refl
    (c.start_of.ensures ∙ ap start_of c.entry-entry.ensures) (c.length_of.ensures ∙ ap length_of c.entry-entry.ensures) refl c.requires.number

pub started-requires : goal.started-requires
started-requires g c =
    let p = c.requires.may in
    let n : ℕ = (g.R.Records.view c.args.records.now).record_count in
    ap is_end c.entry-entry.ensures ∙ p.1.volume.kinds c.args.slot (omega (arith, redo_lies n c.args.first p.0 c.args.redo (slots_held c.args.self.now) p.1, c.requires.before))

pub set-requires-clause-within : goal.set-requires-clause-within
set-requires-clause-within g c =
    let p = c.requires.may in
    let n : ℕ = (g.R.Records.view c.args.records.now).record_count in
    omega (arith, redo_lies n c.args.first p.0 c.args.redo (slots_held c.args.self.now) p.1, length-map c.args.self.now.slots.slots slot_bytes, c.requires.before, ap (λ (t : Table). length t.slots) c.move_rest.ensures.still)

pub returns-clause-goes_on : goal.returns-clause-goes_on
returns-clause-goes_on g c =
    let long : c.length_of.result ≡ length_of (get_or (slots_held c.args.self.now) c.args.slot []) = c.length_of.ensures ∙ ap length_of c.entry-entry.ensures in
    goes_within (4 * (c.length_of.result - 0) + 11) (4 * length_of (get_or (slots_held c.args.self.now) c.args.slot []) + 11) _ _ _ (omega (arith, long)) c.in_ok-move_rest.ensures.goes_on

pub returns-clause-slots : goal.returns-clause-slots
returns-clause-slots g c =
    ap (λ (t : Table). map slot_bytes t.slots) c.set.ensures ∙ map-set slot_bytes c.move_rest.new.self.slots.slots c.args.slot c.started.result
    ∙ (λ i. set (map slot_bytes (c.move_rest.ensures.still i).slots) c.args.slot ((c.started.ensures.bytes ∙ ap (with_start c.args.place) c.entry-entry.ensures) i))

pub returns-clause-moves : goal.returns-clause-moves
returns-clause-moves g c = λ end t may placed is.
    let n : ℕ = (g.R.Records.view c.args.records.now).record_count in
    let now = c.in_ok-move_rest.ensures in
    let m = now.moves t is (λ some. absurd (omega (arith, some))) in (
      m.0,
      m.1,
      moved_slots n c.args.first end c.args.redo (slots_held c.args.self.now) may c.args.slot c.args.place placed c.requires.before c.requires.takes c.requires.down t m.0
          (record { slot = c.args.slot; place = c.args.place; start = c.start_of.result; length = c.length_of.result; moved = 0 })
          ((g.met.R.Records.is_store _).is_tape t is) (c.requires.settled t is) (now.settled m.0 m.1) refl refl
          (c.start_of.ensures ∙ ap start_of c.entry-entry.ensures) (c.length_of.ensures ∙ ap length_of c.entry-entry.ensures) refl m.2,
    )

pub returns-in_err-move_rest-clause-stops : goal.returns-in_err-move_rest-clause-stops
returns-in_err-move_rest-clause-stops g c = λ end t may placed is v some same starts ends.
    let n : ℕ = (g.R.Records.view c.args.records.now).record_count in
    weaker _ _ _ _ _ _ (c.move_rest.ensures.stops t is (λ begun. absurd (omega (arith, begun)))) (λ y way.
    move_keeps n c.args.first end c.args.redo (slots_held c.args.self.now) may c.args.slot c.args.place placed c.requires.before c.requires.takes c.requires.down t y
    (record { slot = c.args.slot; place = c.args.place; start = c.start_of.result; length = c.length_of.result; moved = 0 })
    ((g.met.R.Records.is_store _).is_tape t is) (c.requires.settled t is) refl refl
    (c.start_of.ensures ∙ ap start_of c.entry-entry.ensures) (c.length_of.ensures ∙ ap length_of c.entry-entry.ensures) refl c.requires.number way v some same starts ends)

pub returns-clause-stops : goal.returns-clause-stops
returns-clause-stops g c = λ end t may placed is v some same starts ends.
    let n : ℕ = (g.R.Records.view c.args.records.now).record_count in
    weaker _ _ _ _ _ _ (c.in_ok-move_rest.ensures.stops t is (λ begun. absurd (omega (arith, begun)))) (λ y way.
    move_keeps n c.args.first end c.args.redo (slots_held c.args.self.now) may c.args.slot c.args.place placed c.requires.before c.requires.takes c.requires.down t y
    (record { slot = c.args.slot; place = c.args.place; start = c.start_of.result; length = c.length_of.result; moved = 0 })
    ((g.met.R.Records.is_store _).is_tape t is) (c.requires.settled t is) refl refl
    (c.start_of.ensures ∙ ap start_of c.entry-entry.ensures) (c.length_of.ensures ∙ ap length_of c.entry-entry.ensures) refl c.requires.number way v some same starts ends)
