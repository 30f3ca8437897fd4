use Rattle.std.proofs.Common.{◌≡◌, ◌<◌, ◌+◌, ◌∙◌, ℕ, [], None, length, map, get_or, set, refl, sym, ap, arith}
use Rattle.std.specs.Prelude.{Some}
use Rattle.std.proofs.lemmas.List.{length-map, length-set}
use Rattle.lif_model.specs.Header.{HeaderParts, directory_start, directory_end}
use Rattle.lif_model.specs.Directory.{is_end}
use Rattle.lif_model.specs.Volume.{Volume as VolumeModel, IsVolume}
use Rattle.lif_model.specs.Fit.{redo_place}
use Rattle.lif_model.proofs.Legal.{legal_tells}
use Rattle.lif_model.proofs.Slots.{readable_tells}
use Rattle.lif_dir.specs.Entries.{slot_bytes}
use Rattle.lif_model.specs.Packing.{unmarked, pack_refusal}
use Rattle.lif_pack.specs.Packers.{slots_held}
use Rattle.lif_pack.specs.Tasks.{IsTask}
use Rattle.lif_pack.specs.Steps.{volume_with, MayPack, HasPlainStart}
use Rattle.lif_pack.specs.Packs.{IsTaskWith, AreThoseOf, header_in}
use Rattle.lif_pack.proofs.Placing.{redo_lies, end_below}
use Rattle.lif_pack.proofs.Tasking.{directory_is_volume}
use Rattle.lif_pack.proofs.Packable.{read_may, read_task, read_those}
use Rattle.lif_pack.proofs.Answered.{none_by, refused_among}
use Rattle.lif_pack.proofs.memory.Packer.take.Goals as goal

pub returns-in-Some-clause-among : goal.returns-in-Some-clause-among
returns-in-Some-clause-among c =
    let slots = map slot_bytes c.args.slots.now.slots in
    let v : VolumeModel = volume_with c.requires.legal.bytes slots in
    refused_among c.args.size v c.in-Some.why (sym c.in-Some.is ∙ c.refusal_of.ensures.refusal v (directory_is_volume c.args.size (header_in c.args.listing.now) slots c.requires.legal) refl)

pub returns-in-Some-clause-refused : goal.returns-in-Some-clause-refused
returns-in-Some-clause-refused c v is same = sym (c.refusal_of.ensures.refusal v is same) ∙ c.in-Some.is

pub hold-requires-clause-room : goal.hold-requires-clause-room
hold-requires-clause-room c =
    let legal = c.requires.legal in
    let slots = map slot_bytes c.args.slots.now.slots in
    let readable = readable_tells c.args.size legal.bytes (legal_tells c.args.size legal.bytes slots legal.legal).readable in
    omega (arith, legal.shape.few, length-map c.args.slots.now.slots slot_bytes, c.requires.memory.room, readable.0, readable.1, readable.2, ap (λ (h : HeaderParts). h.length) legal.told)

pub hold-requires-clause-redo : goal.hold-requires-clause-redo
hold-requires-clause-redo c =
    let slots = map slot_bytes c.args.slots.now.slots in
    let none : c.refusal_of.result ≡ None = none_by c.refusal_of.result c.in_default.not-Some in
    let free : (v : VolumeModel) → IsVolume c.args.size v → v.slots ≡ slots → None ≡ pack_refusal c.args.size (Some v) = λ v is same. sym none ∙ c.refusal_of.ensures.refusal v is same in
    let plain : (k : ℕ) → k < length slots → HasPlainStart (get_or slots k []) = λ k lt. c.refusal_of.ensures.plain none k (omega (arith, lt, length-map c.args.slots.now.slots slot_bytes)) in
    let listing = c.args.listing.now in
    let may = read_may c.args.size listing.start (listing.start + listing.length) (header_in listing) slots c.requires.legal free plain refl refl in
    let lies = redo_lies c.args.size listing.start (listing.start + listing.length) (redo_place slots) (set slots (redo_place slots) (unmarked (get_or slots (redo_place slots) []))) may in
    let redo : c.redo_place-redo.result ≡ redo_place slots = c.redo_place-redo.ensures.value in
    let room = length-set slots (redo_place slots) (unmarked (get_or slots (redo_place slots) [])) in
    omega (arith, lies, redo, room, length-map c.args.slots.now.slots slot_bytes)

pub hold-requires-clause-entry : goal.hold-requires-clause-entry
hold-requires-clause-entry c =
    let slots = map slot_bytes c.args.slots.now.slots in
    let none : c.refusal_of.result ≡ None = none_by c.refusal_of.result c.in_default.not-Some in
    let free : (v : VolumeModel) → IsVolume c.args.size v → v.slots ≡ slots → None ≡ pack_refusal c.args.size (Some v) = λ v is same. sym none ∙ c.refusal_of.ensures.refusal v is same in
    let plain : (k : ℕ) → k < length slots → HasPlainStart (get_or slots k []) = λ k lt. c.refusal_of.ensures.plain none k (omega (arith, lt, length-map c.args.slots.now.slots slot_bytes)) in
    let listing = c.args.listing.now in
    let may = read_may c.args.size listing.start (listing.start + listing.length) (header_in listing) slots c.requires.legal free plain refl refl in
    let lies = redo_lies c.args.size listing.start (listing.start + listing.length) (redo_place slots) (set slots (redo_place slots) (unmarked (get_or slots (redo_place slots) []))) may in
    let redo : c.redo_place-redo.result ≡ redo_place slots = c.redo_place-redo.ensures.value in
    let room = length-set slots (redo_place slots) (unmarked (get_or slots (redo_place slots) [])) in
    ap (λ (r : ℕ). is_end (get_or slots r [])) redo ∙ c.requires.legal.shape.kinds (redo_place slots) (omega (arith, lies, room))

pub returns-clause-may : goal.returns-clause-may
returns-clause-may c =
    let slots = map slot_bytes c.args.slots.now.slots in
    let none : c.refusal_of.result ≡ None = none_by c.refusal_of.result c.in_default.not-Some in
    let free : (v : VolumeModel) → IsVolume c.args.size v → v.slots ≡ slots → None ≡ pack_refusal c.args.size (Some v) = λ v is same. sym none ∙ c.refusal_of.ensures.refusal v is same in
    let plain : (k : ℕ) → k < length slots → HasPlainStart (get_or slots k []) = λ k lt. c.refusal_of.ensures.plain none k (omega (arith, lt, length-map c.args.slots.now.slots slot_bytes)) in
    let listing = c.args.listing.now in
    let may = read_may c.args.size listing.start (listing.start + listing.length) (header_in listing) slots c.requires.legal free plain refl refl in
    let lies = redo_lies c.args.size listing.start (listing.start + listing.length) (redo_place slots) (set slots (redo_place slots) (unmarked (get_or slots (redo_place slots) []))) may in
    let redo : c.redo_place-redo.result ≡ redo_place slots = c.redo_place-redo.ensures.value in
    let room = length-set slots (redo_place slots) (unmarked (get_or slots (redo_place slots) [])) in
    let end : listing.start + listing.length ≡ c.from.result + c.from-2.result = omega (arith, c.from.ensures, c.from-2.ensures) in
    let held : set slots (redo_place slots) (unmarked (get_or slots (redo_place slots) [])) ≡ slots_held c.hold.new.self =
    sym (c.hold.ensures.slots ∙ ap (λ (r : ℕ). set slots r (unmarked (get_or slots r []))) redo) in
    let of : (v : VolumeModel) → IsVolume c.args.size v → v.slots ≡ slots → directory_start v.header ≡ listing.start → directory_end v.header ≡ listing.start + listing.length → IsTask c.args.size v c.task_of-task.result = c.task_of-task.ensures.task in
    let with_it = read_task c.args.size listing.start (listing.start + listing.length) (header_in listing) slots c.requires.legal free plain refl refl c.task_of-task.result of c.task_of-task.ensures.may in (
      coe 0 1 (i. MayPack c.args.size listing.start (end i) (sym redo i) (held i)) may,
      omega (arith, lies, redo, may.volume.room, may.starts, may.ends, end_below c.args.size listing.start (listing.start + listing.length) (redo_place slots) (set slots (redo_place slots) (unmarked (get_or slots (redo_place slots) []))) may, c.requires.small),
      coe 0 1 (i. IsTaskWith c.args.size (end i) (sym redo i) (held i) c.task_of-task.result) with_it,
    )

pub returns-clause-those : goal.returns-clause-those
returns-clause-those c v is same starts ends =
    let slots = map slot_bytes c.args.slots.now.slots in
    let none : c.refusal_of.result ≡ None = none_by c.refusal_of.result c.in_default.not-Some in
    let free : (v : VolumeModel) → IsVolume c.args.size v → v.slots ≡ slots → None ≡ pack_refusal c.args.size (Some v) = λ v is same. sym none ∙ c.refusal_of.ensures.refusal v is same in
    let plain : (k : ℕ) → k < length slots → HasPlainStart (get_or slots k []) = λ k lt. c.refusal_of.ensures.plain none k (omega (arith, lt, length-map c.args.slots.now.slots slot_bytes)) in
    let listing = c.args.listing.now in
    let may = read_may c.args.size listing.start (listing.start + listing.length) (header_in listing) slots c.requires.legal free plain refl refl in
    let lies = redo_lies c.args.size listing.start (listing.start + listing.length) (redo_place slots) (set slots (redo_place slots) (unmarked (get_or slots (redo_place slots) []))) may in
    let redo : c.redo_place-redo.result ≡ redo_place slots = c.redo_place-redo.ensures.value in
    let room = length-set slots (redo_place slots) (unmarked (get_or slots (redo_place slots) [])) in
    let end : listing.start + listing.length ≡ c.from.result + c.from-2.result = omega (arith, c.from.ensures, c.from-2.ensures) in
    let held : set slots (redo_place slots) (unmarked (get_or slots (redo_place slots) [])) ≡ slots_held c.hold.new.self =
    sym (c.hold.ensures.slots ∙ ap (λ (r : ℕ). set slots r (unmarked (get_or slots r []))) redo) in
    let of : (v : VolumeModel) → IsVolume c.args.size v → v.slots ≡ slots → directory_start v.header ≡ listing.start → directory_end v.header ≡ listing.start + listing.length → IsTask c.args.size v c.task_of-task.result = c.task_of-task.ensures.task in
    let those = read_those c.args.size listing.start (listing.start + listing.length) (header_in listing) slots c.requires.legal free plain refl refl c.task_of-task.result of v is same starts (ends ∙ sym end) in
    coe 0 1 (i. AreThoseOf c.args.size listing.start (end i) (sym redo i) c.task_of-task.result (held i) v) those
