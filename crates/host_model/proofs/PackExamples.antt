-- Worked examples of `pack`, computed by the checker: on a tape of forty records, whose redo file of version 2 begins at record 6, a file of
-- one record stands in record 5, after a purged one.
use Rattle.std.proofs.Common.{◌≡◌, ◌++◌, ℕ, List, [], ◌∷◌, Option, Some, None, true, false, inr, refl, sym, ap, arith, codes, replicate}
use Rattle.std.specs.Fmt.{digits}
use Rattle.std.specs.Prelude.{get_or}
use Rattle.lif_model.specs.Numbers.{two_at, four_at}
use Rattle.lif_model.specs.Tape.{Tape}
use Rattle.lif_model.specs.Gate.{is_open}
use Rattle.lif_model.specs.Directory.{name_of, entry_at, entries_of, start_of}
use Rattle.lif_model.specs.Made.{in_two, new_entry, with_type}
use Rattle.lif_model.specs.declared.version.Version.TheVariants.{Two}
use Rattle.lif_model.specs.Volume.{Volume, redo_name, redo_type, redo_entry, volume_of}
use Rattle.lif_model.proofs.Examples as base
use Rattle.lif_model.proofs.VolumeExamples.{file, a_name, b_name, numbered}
use Rattle.lif_model.proofs.VolumeExamples as slot
use Rattle.lif_model.specs.Fit.{redo_place}
use Rattle.lif_model.specs.Packing.{Shown, packed_start, unmarked, with_start, without_start}
use Rattle.lif_model.specs.Writing.{with_entry}
use Rattle.il_script.specs.declared.reply.Code.TheVariants as code
use Rattle.il_script.specs.declared.reply.Reply.TheVariants as reply
use Rattle.lif_model.specs.declared.refusal.Refusal.{Refusal}
use Rattle.lif_model.specs.Apply as volume
use Rattle.host_model.specs.Requests.{Pack, Asks, OfVolume}
use Rattle.host_model.specs.HostStates.{HostState, volume_at}
use Rattle.host_model.specs.Replies.{packed_text, reply_of, reply_text, volume_behind}
use Rattle.host_model.specs.Steps.{EitherVolume, LeavesOnTape, event}
use Rattle.host_model.specs.Stops.{MayBeLeft}
use Rattle.host_model.proofs.Small.{host_on, not_foreign, numbers_differ, false_is_not_true}

abbrev tape : List ℕ → List ℕ → List ℕ → Tape
tape directory fourth fifth = base.header ∷ base.blank ∷ base.filled directory ∷ base.blank ∷ fourth ∷ fifth ∷ replicate 34 base.blank

abbrev host : Tape → HostState
host t = host_on t 40

abbrev redo : List ℕ
redo = redo_entry Two 40

-- with a gap before the file B, and once that is moved
abbrev gap : Tape
gap = tape (slot.purged (file a_name 4 1) ++ file b_name 5 1 ++ redo ++ base.end_entry) (numbered 4) (numbered 5)

abbrev closed : Tape
closed = tape (file b_name 4 1 ++ redo ++ base.end_entry) (numbered 5) (numbered 5)

packs : (reply_of (Asks Pack) (host gap) ≡ reply.Ok) × (volume_behind (Asks Pack) (host gap) ≡ volume_at (host closed))
unfolding two_at four_at entries_of entry_at name_of is_open with_type new_entry with_start unmarked
packs = (refl, refl)

told : reply_text (Asks Pack) (host gap) [] reply.Ok ≡ codes "packed 1 1" ++ 10 ∷ codes "ok" ++ 10 ∷ []
unfolding two_at four_at entries_of entry_at name_of is_open with_type new_entry digits packed_text
told = refl

-- where nothing is to be moved, that is told; a volume that is none, one of version 1 and one out of order are refused and stay
abbrev out_of_order : Tape
out_of_order = tape (file a_name 5 1 ++ file b_name 4 1 ++ redo ++ base.end_entry) (numbered 4) (numbered 5)

told_closed : reply_text (Asks Pack) (host closed) [] reply.Ok ≡ codes "packed 0 1" ++ 10 ∷ codes "ok" ++ 10 ∷ []
unfolding two_at four_at entries_of entry_at name_of is_open with_type new_entry digits packed_text
told_closed = refl

refused : (reply_of (Asks Pack) (host (replicate 40 base.blank)) ≡ reply.No code.NotLif) × (reply_of (Asks Pack) (host out_of_order) ≡ reply.No code.OutOfOrder)
    × (volume_behind (Asks Pack) (host out_of_order) ≡ volume_at (host out_of_order))
unfolding two_at four_at entries_of entry_at name_of is_open with_type new_entry
refused = (refl, refl, refl)

-- ---- after a fault or a stop

-- the same files, at other places
either : EitherVolume (Asks Pack) (host gap) (host closed) × MayBeLeft (Asks Pack) (host gap) closed
unfolding two_at four_at entries_of entry_at name_of is_open with_type new_entry without_start with_start unmarked
either = (refl, record { own = λ gate. (refl, refl); foreign = λ t same held. absurd (not_foreign gap t refl same held) })

-- not with another name
abbrev other_name : Tape
other_name = tape (file a_name 4 1 ++ redo ++ base.end_entry) (numbered 5) (numbered 5)

abbrev letter_shown : Option Shown → ℕ
letter_shown None = 0
letter_shown (Some x) = get_or (get_or x.slots 0 []) 0 0

not_either : EitherVolume (Asks Pack) (host gap) (host other_name) → ⊥
unfolding two_at four_at entries_of entry_at name_of is_open with_type new_entry without_start
not_either same = numbers_differ 65 66 refl (ap (λ p. letter_shown p.0) same)

-- not without the redo file, which packing needs
abbrev pub no_redo : Tape
no_redo = tape (file b_name 4 1 ++ base.end_entry) (numbered 5) (numbered 5)

abbrev refused_count : Option Refusal → ℕ
refused_count None = 0
refused_count (Some why) = 1

redo_lost : EitherVolume (Asks Pack) (host gap) (host no_redo) → ⊥
unfolding two_at four_at entries_of entry_at name_of is_open with_type new_entry without_start with_start unmarked
redo_lost same = numbers_differ 1 0 refl (ap (λ p. refused_count p.1.0) same)

-- ---- the records of the tape

-- not with the record that becomes free written over
abbrev wrote_free : Tape
wrote_free = tape (file b_name 4 1 ++ redo ++ base.end_entry) (numbered 5) base.blank

abbrev packed_end : Option Volume → ℕ
packed_end None = 0
packed_end (Some v) = packed_start v (redo_place v.slots)

free_written : LeavesOnTape (event (Asks Pack) reply.Ok [] (host gap) (host wrote_free)) → ⊥
unfolding two_at four_at entries_of entry_at name_of is_open with_type new_entry with_start unmarked
free_written so =
    let is = so.written gap wrote_free refl refl in
    let end : 5 ≡ packed_start is.volume (redo_place is.volume.slots) = ap packed_end is.shown in
    numbers_differ 0 5 refl (ap (λ (r : List ℕ). get_or r 0 0) (is.outside.same 5 (omega arith) (inr (omega (arith, end)))))

-- ---- a mark

-- B has two records, of which one stands at its place; what is shown is the file at its place, whatever the tape has
abbrev marked : List ℕ → Tape
marked field = base.header ∷ base.blank ∷ base.filled (slot.purged (file a_name 4 1) ++ file b_name 5 2 ++ new_entry redo_name redo_type 10 34 field ++ base.end_entry) ∷ base.blank
    ∷ numbered 5 ∷ numbered 5 ∷ numbered 6 ∷ numbered 7 ∷ numbered 8 ∷ numbered 9 ∷ replicate 34 base.blank

abbrev start_shown : Option Volume → ℕ
start_shown None = 0
start_shown (Some v) = start_of (get_or v.slots 1 [])

shown : (start_shown (volume_of (marked (in_two 2 ++ in_two 1))) ≡ 5) × (start_shown (volume_at (host_on (marked (in_two 2 ++ in_two 1)) 44)) ≡ 4)
unfolding two_at four_at entries_of entry_at name_of is_open with_type new_entry with_entry with_start unmarked
shown = (refl, refl)

-- a command that is ok leaves none
abbrev marked_tape : Tape
marked_tape = marked (in_two 2 ++ in_two 1)

mark_left : LeavesOnTape (event (Asks (OfVolume volume.Dir)) reply.Ok [] (host_on marked_tape 44) (host_on marked_tape 44)) → ⊥
unfolding two_at four_at entries_of entry_at name_of is_open with_type new_entry with_entry with_start unmarked
mark_left so = let clash : true ≡ false = (so.plain refl refl marked_tape marked_tape refl refl).clear in absurd (false_is_not_true (sym clash))
