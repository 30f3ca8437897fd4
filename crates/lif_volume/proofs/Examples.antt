-- Worked examples, computed by the checker: slots by the LIF directory format, on a tape of twelve records.
use Rattle.std.proofs.Common.{◌≡◌, ◌≢◌, ◌++◌, ℕ, List, [], ◌∷◌, true, false, get_or, set, length, Option, inl, refl, sym, ap, subst, arith, get_or-set_other}
use Rattle.std.specs.Prelude.{Some, None, Ok, Err, codes, replicate}
use Rattle.lif_model.specs.Tape.{Tape}
use Rattle.lif_model.specs.Numbers.{two_at, four_at}
use Rattle.lif_model.specs.Header.{HeaderParts}
use Rattle.lif_model.specs.Directory.{name_of, entry_at, entries_of}
use Rattle.lif_model.specs.Gate.{is_open}
use Rattle.lif_model.specs.Made.{with_type}
use Rattle.lif_model.specs.Shelf.{piece}
use Rattle.lif_model.specs.Redo.{zeros, is_valid, targets_record, settled}
use Rattle.lif_model.specs.Commit.{SettlesAs}
use Rattle.lif_model.specs.Volume.{is_gate_held, is_foreign_gated}
use Rattle.lif_model.proofs.Examples as base
use Rattle.lif_model.proofs.RedoExamples.{opened}
use Rattle.lif_model.proofs.VolumeExamples.{file, purged, a_name, b_name, numbered}
use Rattle.lif_model.specs.declared.refusal.Refusal.TheVariants as refusal
use Rattle.lif_volume.specs.declared.fault.VolumeFault.TheVariants.{Refused}
use Rattle.il_ports.specs.Stores.{RecordsView}
use Rattle.lif_volume.specs.Views.{VolumeView}
use Rattle.lif_volume.specs.Answers.{keeps}
use Rattle.lif_volume.specs.Commands.{calls_needed, directory_records, records_named, mounting, mounting_on, fetching, fetching_on}
use Rattle.lif_volume.specs.Changing.{SettlesForeign}

-- a purged file has no records for a name
named_records : (records_named (purged (file b_name 4 1) ∷ file a_name 5 2 ∷ []) a_name ≡ 2) × (records_named (purged (file b_name 4 1) ∷ file a_name 5 2 ∷ []) b_name ≡ 0)
unfolding four_at two_at with_type name_of
named_records = (refl, refl)

-- the directory of a formatted tape, and of one that has no header
directories : (directory_records base.formatted ≡ 2) × (directory_records (replicate 12 base.blank) ≡ 0)
unfolding four_at two_at
directories = (refl, refl)

abbrev header : HeaderParts
header = record { label = []; start = 2; length = 2 }

-- how many records are read at most on a cassette
counts : (calls_needed 512 ≡ 1064) × (mounting 512 None None ≡ 578) × (mounting 512 None (Some header) ≡ 73) × (mounting 512 (Some header) (Some header) ≡ 0)
    × (mounting_on base.formatted None ≡ 73) × (mounting_on base.formatted (Some header) ≡ 0)
    × (fetching {T = ℕ} 512 a_name None [] (Ok 0) ≡ 582) × (fetching {T = ℕ} 512 a_name (Some header) (file a_name 5 2 ∷ []) (Ok 0) ≡ 2)
    × (fetching {T = ℕ} 512 a_name (Some header) (file a_name 5 2 ∷ []) (Err (Refused refusal.Protected)) ≡ 0) × (fetching_on {T = ℕ} base.formatted a_name (Some header) (Ok 0) ≡ 0)
unfolding four_at two_at name_of entry_at entries_of is_open
counts = (refl, refl, refl, refl, refl, refl, refl, refl, refl, refl)

-- after which answers the directory is kept
kept : (keeps {T = ℕ} (Err (Refused refusal.NotLif)) ≡ false) × (keeps {T = ℕ} (Err (Refused refusal.NoFile)) ≡ true) × (keeps {T = ℕ} (Ok 0) ≡ true)
kept = (refl, refl, refl)

-- ---- what is left of a tape whose open gate a file holds

abbrev foreign : Tape
foreign = base.header ∷ base.blank ∷ base.filled (file a_name 4 6 ++ base.end_entry) ∷ base.blank ∷ numbered 4 ∷ numbered 5 ∷ numbered 6 ∷ numbered 7 ∷ opened
    ∷ base.filled (codes "LIFREDO1" ++ 0 ∷ 1 ∷ 0 ∷ 4 ∷ []) ∷ numbered 10 ∷ numbered 11 ∷ []

is_foreign : is_foreign_gated foreign ≡ true
unfolding four_at two_at entries_of entry_at name_of is_open is_valid targets_record piece zeros
is_foreign = refl

-- a stop while the gate record is closed, when the target stands
stopped : SettlesAs (settled foreign) (set (settled foreign) 8 (numbered 3))
unfolding four_at two_at entries_of entry_at name_of is_open is_valid targets_record piece zeros
stopped = record { records = refl; same = λ k other. get_or-set_other (settled foreign) 8 k (numbered 3) [] other }

not_eight : ◌≢◌ {A = ℕ} 0 8
not_eight e = cc

not_first : ◌≡◌ {A = ℕ} 0 128 → ⊥
not_first e = cc

-- but record 0 is not written over
header_stays : SettlesAs (settled foreign) (set foreign 0 base.blank) → ⊥
unfolding four_at two_at entries_of entry_at name_of is_open is_valid targets_record piece zeros
header_stays settles = not_first (ap (λ (bytes : List ℕ). get_or bytes 0 0) (settles.same 0 not_eight))

-- ---- and of one whose gate is closed: a file holds its gate record, and no redo is open

abbrev held : Tape
held = set foreign 8 (numbered 8)

is_held : (is_gate_held (settled held) ≡ true) × (is_foreign_gated held ≡ false)
unfolding four_at two_at entries_of entry_at name_of is_open
is_held = (refl, refl)

-- a volume over a store that has this tape, and of which nothing else is asked
abbrev stored : Tape → RecordsView Tape
stored t = record {
  valid = Unit {0};
  tape = Some t;
  record_count = 12;
  ready = true;
  sound = true;
  calls_left = 9;
  room = 9;
  frame_faults = 0;
  medium_faults = 0;
  moment = 0;
  left_since = λ m c. c ≡ t;
  transferred = λ list. list ≡ [];
  present = t;
  emptied = λ s u. Unit {0};
  stood = λ s. Unit {0};
  failed = λ trouble. Unit {0};
  resumed = λ k. Unit {0};
}

abbrev over : Tape → VolumeView Tape
over t = record { records = t; kept = None; is_open = false; last = []; slots = []; room = 0 }

held_size : length (settled held) ≡ length held
unfolding is_open
held_size = refl

-- a command may leave it as it is
may_stay : SettlesForeign stored (over held) (over held)
may_stay t told on =
    let same : held ≡ t = cc in
    let here : SettlesAs (settled held) held = record { records = sym held_size; same = λ k other. refl } in
    let at : SettlesAs (settled t) held = subst (λ (x : Tape). SettlesAs (settled x) held) same here in
    record {
      stops = record { later = omega arith; each = λ c left. subst (SettlesAs (settled t)) (sym left) at; earlier = λ m c le left. inl left };
      after = (held, refl, at);
    }

-- and not with another record 0
may_not_change : SettlesForeign stored (over held) (over (set held 0 base.blank)) → ⊥
unfolding four_at two_at entries_of entry_at name_of is_open
may_not_change settles =
    let left = settles held refl is_held.0 in
    let told : ◌≡◌ {A = Option Tape} (Some (set held 0 base.blank)) (Some left.after.0) = left.after.1 in
    let same : set held 0 base.blank ≡ left.after.0 = cc in
    let is : SettlesAs (settled held) (set held 0 base.blank) = subst (SettlesAs (settled held)) (sym same) left.after.2 in
    not_first (ap (λ (bytes : List ℕ). get_or bytes 0 0) (is.same 0 not_eight))
