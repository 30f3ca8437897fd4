-- What settles as a tape below the redo file of its volume is shown as that tape is.
use Rattle.std.proofs.Common.{◌≡◌, ◌<◌, ◌≤◌, ◌+◌, ◌-◌, if◌then◌else◌, ℕ, zero, suc, List, [], ◌∷◌, Bool, true, false, Option, Some, None, length, get_or, inl, inr, refl, sym, ◌∙◌, ap, arith}
use Rattle.std.proofs.lemmas.Bool.{cases_lt}
use Rattle.lif_model.specs.Tape.{Tape, IsTape, record_at}
use Rattle.lif_model.specs.Gate.{gate_of}
use Rattle.lif_model.specs.Header.{directory_start, directory_length, directory_end, capacity_of}
use Rattle.lif_model.specs.Directory.{start_of, length_of, slots_of}
use Rattle.lif_model.specs.declared.version.Version.TheVariants.{Two}
use Rattle.lif_model.specs.Redo.{redo_start, targets_place, settled, IsSettled}
use Rattle.lif_model.specs.Commit.{SettlesBelow}
use Rattle.lif_model.specs.Legal.{is_legal}
use Rattle.lif_model.specs.Volume.{Volume, is_adopted_with, volume_in, volume_of}
use Rattle.lif_model.specs.Fit.{redo_place}
use Rattle.lif_model.specs.Apply.{is_upgraded}
use Rattle.lif_model.specs.Writing.{SlotWrites, with_slots, with_records}
use Rattle.lif_model.proofs.Redo.{settled_none, settled_twice, length_settled, redo_places}
use Rattle.lif_model.proofs.Volume.{quiet_agree}
use Rattle.lif_model.proofs.Directory.{volume_tells}
use Rattle.lif_model.proofs.Adopted.{is_file_tells, ends_before_redo, settles_below_adopted}
use Rattle.lif_model.proofs.Recorded.{length_records, records_before, records_behind, records_replaced}
use Rattle.lif_model.proofs.Slotted.{IsOn, is_on}
use Rattle.lif_model.proofs.Writing.{AreEntries, rewritten, untouched, length_slots, slots_record, slots_elsewhere}
use Rattle.lif_model.specs.Packing.{records_from, redo_slot, bears_mark, has_mark, move_of, packed_start, finishing_slots, with_moved, finished_with, finished_by, finished, finished_volume_of}
use Rattle.lif_pack.specs.Tasks.{IsShownAs}
use Rattle.lif_pack.proofs.Entries.{unmarked_size}
use Rattle.lif_pack.proofs.Pointwise.{length_from}
use Rattle.lif_pack.proofs.Order.{CanMove, move_is}
use Rattle.lif_pack.proofs.Order as order
use Rattle.lif_pack.proofs.Finishing.{redo_here, other_is_file}
use Rattle.lif_pack.proofs.FinishedVolume as moved
use Rattle.lif_pack.proofs.Finishes.{finishes, finished_shape, unmarked_volume}

-- ---- record by record

records_agree : (x z : Tape) (k count : ℕ) → ((i : ℕ) → k ≤ i → i < k + count → record_at x i ≡ record_at z i) → records_from x k count ≡ records_from z k count
records_agree x z k zero same = refl
records_agree x z k (suc count) same = λ i. same k (omega arith) (omega arith) i ∷ records_agree x z (suc k) count (λ j le lt. same j (omega (arith, le)) (omega (arith, lt))) i

placed_agree : (first : ℕ) (rs : List (List ℕ)) (x z : Tape) (k : ℕ) → first + length rs ≤ length x → length x ≡ length z → record_at x k ≡ record_at z k
    → record_at (with_records first rs x) k ≡ record_at (with_records first rs z) k
placed_agree first rs x z k fits size same = elim (cases_lt k first) [
  | inl under ↦ records_before first rs x k under ∙ same ∙ sym (records_before first rs z k under)
  | inr over ↦ elim (cases_lt k (first + length rs)) [
    | inl within ↦
        let i : ℕ = k - first in
        let at : k ≡ first + i = omega (arith, over) in
        ap (record_at (with_records first rs x)) at ∙ (records_replaced first rs x fits).within i (omega (arith, over, within))
        ∙ sym ((records_replaced first rs z (omega (arith, fits, size))).within i (omega (arith, over, within))) ∙ sym (ap (record_at (with_records first rs z)) at)
    | inr past ↦ records_behind first rs x k past ∙ same ∙ sym (records_behind first rs z k past)
  ]
]

slots_agree_at : (start : ℕ) (ws : SlotWrites) (x z : Tape) (k : ℕ) → k < length x → length x ≡ length z → record_at x k ≡ record_at z k
    → record_at (with_slots start ws x) k ≡ record_at (with_slots start ws z) k
slots_agree_at start ws x z k lt size same =
    slots_record start ws x k lt ∙ ap (rewritten start ws k) same ∙ sym (slots_record start ws z k (omega (arith, lt, size)))

-- a tape that settles as it is settled is finished as it is
pub settles_finished : (y : Tape) → finished (settled y) ≡ finished y
settles_finished y = λ i. finished_by (volume_in (settled_twice y i)) (settled_twice y i)

-- ---- below a redo file of version 2

module _ (n : ℕ) (z : Tape) (v : Volume) (is : IsTape n z) (some : volume_of z ≡ Some v) (quiet : IsSettled z) (up : is_upgraded n v ≡ true) where
  some_in : volume_in z ≡ Some v
  some_in = ap volume_in (sym quiet) ∙ some

  abbrev on : IsOn n z v
  on = is_on n z v is some_in

  abbrev r : ℕ
  r = redo_place v.slots

  within : r < length v.slots
  within = redo_here n v on.volume up

  legal : is_legal z ≡ true
  legal = (volume_tells z v some_in).0

  adopted : is_adopted_with (length z) Two (slots_of z) ≡ true
  adopted = (λ i. is_adopted_with (is.records i) Two (sym (volume_tells z v some_in).2 i)) ∙ up

  low : directory_end v.header ≤ redo_start Two n
  low = (ends_before_redo Two n v on.volume up).0

  -- a file that moves ends before it
  file_below : (i j : ℕ) → CanMove v i j → start_of (get_or v.slots i []) + length_of (get_or v.slots i []) ≤ redo_start Two n
  file_below i j can =
      let here : i < length v.slots = order.here n v i j on.volume within can in
      let file = other_is_file n v on.volume up i here (λ e. absurd (omega (arith, e, can.before_redo))) can.live in
      (ends_before_redo Two n v on.volume up).1 i here (order.takes n v i j on.volume within can) (is_file_tells n (get_or v.slots i []) file).1

  entries : (move : Option (ℕ × ℕ)) → move_of v ≡ move → AreEntries (capacity_of v.header) (finishing_slots v move)
  entries None none = (omega (arith, within, on.volume.room), unmarked_size (redo_slot v) (on.volume.entries r within), tt)
  entries (Some move) named = moved.are_writes n z v is some_in up move.0 move.1 (move_is v move.0 move.1 named)

  module _ (x : Tape) (size : length x ≡ n) (quiet_x : IsSettled x) (same : (k : ℕ) → k < redo_start Two n → record_at x k ≡ record_at z k) where
    placed_size : (move : ℕ × ℕ) (q : Tape) → length (with_moved v (Some move) q) ≡ length q
    placed_size move q = length_records (packed_start v move.0 + move.1)
        (records_from q (start_of (get_or v.slots move.0 []) + move.1) (length_of (get_or v.slots move.0 []) - move.1)) q

    moved_size : (move : Option (ℕ × ℕ)) → length (with_moved v move x) ≡ n
    moved_size None = size
    moved_size (Some move) = placed_size move x ∙ size

    sizes : (move : Option (ℕ × ℕ)) → length (with_moved v move x) ≡ length (with_moved v move z)
    sizes None = size ∙ sym is.records
    sizes (Some move) = moved_size (Some move) ∙ sym (placed_size move z ∙ is.records)

    moved_agree : (move : Option (ℕ × ℕ)) → move_of v ≡ move → (k : ℕ) → k < redo_start Two n → record_at (with_moved v move x) k ≡ record_at (with_moved v move z) k
    moved_agree None none k lt = same k lt
    moved_agree (Some move) named k lt =
        let slot : List ℕ = get_or v.slots move.0 [] in
        let can = move_is v move.0 move.1 named in
        let end = file_below move.0 move.1 can in
        let to : ℕ = packed_start v move.0 + move.1 in
        let left : ℕ = length_of slot - move.1 in
        let read : records_from x (start_of slot + move.1) left ≡ records_from z (start_of slot + move.1) left =
        records_agree x z (start_of slot + move.1) left (λ i le lt_i. same i (omega (arith, lt_i, end, can.fewer))) in
        ap (λ (rs : List (List ℕ)). record_at (with_records to rs x) k) read
        ∙ placed_agree to (records_from z (start_of slot + move.1) left) x z k (omega (arith, length_from z (start_of slot + move.1) left, end, can.down, can.fewer, size)) (size ∙ sym is.records) (same k lt)

    moved_above : (move : Option (ℕ × ℕ)) → move_of v ≡ move → (k : ℕ) → redo_start Two n ≤ k → record_at (with_moved v move x) k ≡ record_at x k
    moved_above None none k le = refl
    moved_above (Some move) named k le =
        let slot : List ℕ = get_or v.slots move.0 [] in
        let can = move_is v move.0 move.1 named in
        records_behind (packed_start v move.0 + move.1) (records_from x (start_of slot + move.1) (length_of slot - move.1)) x k
        (omega (arith, le, length_from x (start_of slot + move.1) (length_of slot - move.1), file_below move.0 move.1 can, can.down, can.fewer))

    abbrev fx : Tape
    fx = finished_with v (move_of v) x

    fx_size : length fx ≡ n
    fx_size = length_slots (directory_start v.header) (finishing_slots v (move_of v)) (with_moved v (move_of v) x) ∙ moved_size (move_of v)

    fx_below : (k : ℕ) → k < redo_start Two n → record_at fx k ≡ record_at (finished_with v (move_of v) z) k
    fx_below k lt = slots_agree_at (directory_start v.header) (finishing_slots v (move_of v)) (with_moved v (move_of v) x) (with_moved v (move_of v) z) k
        (omega (arith, lt, moved_size (move_of v))) (sizes (move_of v)) (moved_agree (move_of v) refl k lt)

    fx_above : (k : ℕ) → redo_start Two n ≤ k → record_at fx k ≡ record_at x k
    fx_above k le =
        slots_elsewhere (directory_start v.header) (finishing_slots v (move_of v)) (with_moved v (move_of v) x) k
        (untouched (directory_start v.header) (directory_length v.header) (finishing_slots v (move_of v)) k (entries (move_of v) refl) (inr (omega (arith, low, le))))
        ∙ moved_above (move_of v) refl k le

    fx_quiet : settled fx ≡ fx
    fx_quiet =
        let places = redo_places Two n in
        settled_none fx (quiet_agree x fx quiet_x (fx_size ∙ sym size) (fx_above (gate_of (length x)) (omega (arith, places.0, size))) (fx_above (targets_place (length x)) (omega (arith, places.1, size))))

    volume_x : volume_of x ≡ Some v
    volume_x = (settles_below_adopted Two z x legal adopted (record {
      records = size ∙ sym is.records;
      same = λ k lt. ap (λ (q : Tape). record_at q k) quiet_x ∙ same k (omega (arith, lt, is.records));
    })).0 ∙ some_in

    finished_is : (b : Bool) → bears_mark n v ≡ b → (q : Tape) → length q ≡ n → volume_of q ≡ Some v → IsSettled q → finished q ≡ (if b then finished_with v (move_of v) q else q)
    finished_is b e q size_q some_q quiet_q =
        (λ i. finished_by (some_q i) (quiet_q i)) ∙ ap (λ (m : Bool). if m then finished_with v (move_of v) q else q) (ap (λ (m : ℕ). bears_mark m v) size_q ∙ e)

    shown : finished_volume_of x ≡ finished_volume_of z
    shown = by (bears_mark n v) refl
      where
        by : (b : Bool) → bears_mark n v ≡ b → finished_volume_of x ≡ finished_volume_of z
        by false off =
            unmarked_volume x ((λ i. has_mark (size i) (volume_x i)) ∙ off) ∙ volume_x
            ∙ sym (unmarked_volume z ((λ i. has_mark (is.records i) (some i)) ∙ off) ∙ some)
        by true on_mark =
            let at_x : finished x ≡ fx = finished_is true on_mark x size volume_x quiet_x in
            let at_z : finished z ≡ finished_with v (move_of v) z = finished_is true on_mark z is.records some quiet in
            let done = finishes n z v is some in
            let tells = volume_tells (finished z) _ done.volume in
            let shape : IsTape n (finished z) = finished_shape n z is in
            let legal_z : is_legal (finished z) ≡ true = tells.0 in
            let adopted_z : is_adopted_with (length (finished z)) Two (slots_of (finished z)) ≡ true =
            (λ i. is_adopted_with (shape.records i) Two (sym tells.2 i)) ∙ done.upgraded ∙ up in
            let agrees = (settles_below_adopted Two (finished z) fx legal_z adopted_z (record {
              records = fx_size ∙ sym shape.records;
              same = λ k lt. ap (λ (q : Tape). record_at q k) fx_quiet ∙ fx_below k (omega (arith, lt, shape.records)) ∙ sym (ap (λ (q : Tape). record_at q k) at_z);
            })).0 in
            ap volume_in at_x ∙ sym (ap volume_in fx_quiet) ∙ agrees

  pub settles_shown : (y : Tape) → SettlesBelow Two z y → IsShownAs z y
  settles_shown y settles = record {
    volume = sym (ap volume_in (settles_finished y))
        ∙ shown (settled y) (length_settled y ∙ settles.records ∙ is.records) (settled_twice y) (λ k lt. settles.same k (omega (arith, lt, is.records)));
    own_gate = (settles_below_adopted Two z y legal adopted settles).1;
  }
