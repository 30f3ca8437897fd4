-- The records that are set aside for a commit, as slots are put into them.
use Rattle.std.proofs.Common.{◌≡◌, ◌≢◌, ◌⊎◌, ◌<◌, ◌≤◌, ◌+◌, ◌-◌, ◌*◌, ◌%◌, ◌++◌, ◌==◌, ℕ, zero, suc, List, [], ◌∷◌, Bool, true, false, if◌then◌else◌, not, nat_eq, nat_lt, ◌/◌, filter, Option, Some, inl, inr, max, length, length-append, length-set, get_or, set, map, replicate, refl, sym, ap, subst, ◌∙◌, append-nil, arith}
use Rattle.std.proofs.lemmas.Bool.{ne_eqb, eq-eqb, eqb-true, cases_lt}
use Rattle.std.proofs.Math.Nat.{max-eq_left, max-eq_right, max-le, le-max_right}
use Rattle.std.specs.Prelude.{None, IfSome, Result, Ok, Err, OnOk}
use Rattle.std.proofs.lemmas.List.{length-map, length-replicate, get_or_push}
use Rattle.std.proofs.Math.Seq.{set-append_seam}
use Rattle.lif_model.specs.Tape.{Tape, IsTape, record_at}
use Rattle.lif_model.specs.Directory.{entry_at}
use Rattle.lif_model.specs.Made.{with_type}
use Rattle.lif_model.specs.declared.version.Version.{Version}
use Rattle.lif_model.specs.Redo.{most_targets, redo_start, are_targets, Changes, targets_in}
use Rattle.lif_model.specs.Commit.{SettlesBelow}
use Rattle.lif_model.specs.Redo.{IsSettled}
use Rattle.lif_model.specs.Writing.{with_entry, slot_record, entry_from, SlotWrites, with_slots, touched, changes_by}
use Rattle.lif_model.proofs.Writing.{AreEntries, AreOther, last_written, touches_two, changes_are, targets_are, slot_written, slots_elsewhere, others_untouched}
use Rattle.lif_model.proofs.Growing.{changes_again, changes_new}
use Rattle.lif_model.proofs.Directory.{entry_size}
use Rattle.lif_model.proofs.Made.{typed_size}
use Rattle.lif_model.specs.Gate.{has_open_gate}
use Rattle.lif_model.specs.Commit.{IsCommitted, IsOldOrNew, commit_writes}
use Rattle.lif_model.proofs.Moments.{after_still}
use Rattle.il_ports.specs.declared.records.Trouble.{Trouble}
use Rattle.il_ports.specs.Stores.{RecordsView, GoesOn, IsQuiet, IsStore, RunLeaves}
use Rattle.il_ports.proofs.Stores.{goes_within, quiet_run}
use Rattle.lif_redo.specs.Writing.{AddsWrites}
use Rattle.lif_redo.specs.Atomic.{commit_calls}
use Rattle.lif_redo.proofs.Writes.{then_writes, same_writes}
use Rattle.lif_dir.specs.Entries.{entry_bytes}
use Rattle.lif_dir.specs.declared.change.Change.{Change}
use Rattle.lif_dir.specs.declared.entries.FileEntry.{FileEntry}
use Rattle.lif_dir.specs.Changes.{FitsIn, put_slot, put_next, put_change, after_next, slot_after, next_write, end_write, entry_writes, change_writes, count_with}
use Rattle.lif_commit.specs.Staged.{BroughtIn, there, read, IsStagedAs, AreBefore, CommitsSlots, touched_by, past_end, calls_of, most_commit_calls}

-- the slots that change, of a directory that begins at record `start`, lie in records below that one
pub record LiesBelow (start limit : ℕ) (change : Change) : Type 0 where
  pub slot : slot_record start change.slot < limit
  pub next : IfSome change.next (λ next. slot_record start (suc change.slot) < limit)
  pub end : change.ended ≡ true → slot_record start (slot_after change) < limit

pub fits_below : (start size count limit : ℕ) (change : Change) → FitsIn (8 * size) count change → start + size ≤ limit → LiesBelow start limit change
fits_below start size count limit change fits le = record { slot = omega (arith, fits.within, le); next = by change.next fits.next; end = λ on. omega (arith, fits.end_within on, le) }
  where
    by : (next : Option FileEntry) → IfSome next (λ e. (suc change.slot < 8 * size) × (e.kind ≢ 0xFFFF)) → IfSome next (λ e. slot_record start (suc change.slot) < limit)
    by None lt = tt
    by (Some e) lt = omega (arith, lt.0, le)

pub fits_after : (room count : ℕ) (change : Change) → FitsIn room count change → slot_after change ≤ room
fits_after room count change fits = by change.next fits.next
  where
    by : (next : Option FileEntry) → IfSome next (λ e. (suc change.slot < room) × (e.kind ≢ 0xFFFF)) → after_next change.slot next ≤ room
    by None lt = omega (arith, fits.within)
    by (Some e) lt = omega (arith, lt.0)

pub targets_count : (cs : Changes) → length (targets_in cs) ≡ length cs
targets_count cs = length-map cs (λ c. c.0)

number_at : (cs : Changes) (p : ℕ) → p < length cs → get_or (targets_in cs) p 0 ≡ (get_or cs p (0, [])).0
number_at [] p lt = absurd (omega (arith, lt))
number_at (c ∷ cs) zero lt = refl
number_at (c ∷ cs) (suc p) lt = number_at cs p (omega (arith, lt))

targets_set : (cs : Changes) (p : ℕ) (c : ℕ × List ℕ) → (get_or cs p (0, [])).0 ≡ c.0 → targets_in (set cs p c) ≡ targets_in cs
targets_set [] p c same = refl
targets_set (b ∷ cs) zero c same = λ i. sym same i ∷ targets_in cs
targets_set (b ∷ cs) (suc p) c same = ap (λ (ks : List ℕ). b.0 ∷ ks) (targets_set cs p c same)

targets_push : (cs : Changes) (c : ℕ × List ℕ) → targets_in (cs ++ c ∷ []) ≡ targets_in cs ++ c.0 ∷ []
targets_push [] c = refl
targets_push (b ∷ cs) c = ap (λ (ks : List ℕ). b.0 ∷ ks) (targets_push cs c)

-- ---- which records they are

module _ (start : ℕ) (ws : SlotWrites) (w : ℕ × List ℕ) (cs : Changes) (same : targets_in cs ≡ touched start ws) where
  abbrev r : ℕ
  r = slot_record start w.0

  -- any tape that has the record
  abbrev some : Tape
  some = replicate (suc r) []

  within : r < length some
  within = omega (arith, length-replicate {A = List ℕ} (suc r) [])

  on_some : targets_in (changes_by start ws some) ≡ targets_in cs
  on_some = targets_are (touched start ws) (with_slots start ws some) ∙ sym same

  count : length (changes_by start ws some) ≡ length cs
  count = sym (targets_count (changes_by start ws some)) ∙ ap length on_some ∙ targets_count cs

  number_same : (p : ℕ) → p < length cs → (get_or (changes_by start ws some) p (0, [])).0 ≡ (get_or cs p (0, [])).0
  number_same p lt = sym (number_at (changes_by start ws some) p (omega (arith, lt, count))) ∙ ap (λ (ks : List ℕ). get_or ks p 0) on_some ∙ number_at cs p lt

  after_is : targets_in (changes_by start (ws ++ w ∷ []) some) ≡ touched start (ws ++ w ∷ [])
  after_is = targets_are (touched start (ws ++ w ∷ [])) (with_slots start (ws ++ w ∷ []) some)

  again : (p : ℕ) → p < length cs → (get_or cs p (0, [])).0 ≡ r → targets_in cs ≡ touched start (ws ++ w ∷ [])
  again p lt at =
      let here : (get_or (changes_by start ws some) p (0, [])).0 ≡ r = number_same p lt ∙ at in
      sym (sym after_is ∙ ap targets_in (changes_again start ws w some within p (omega (arith, lt, count)) here)
      ∙ targets_set (changes_by start ws some) p (r, with_entry (get_or (changes_by start ws some) p (0, [])).1 (w.0 % 8) w.1) here ∙ on_some)

  one_more : ((p : ℕ) → p < length cs → (get_or cs p (0, [])).0 ≢ r) → targets_in cs ++ r ∷ [] ≡ touched start (ws ++ w ∷ [])
  one_more off =
      sym (sym after_is ∙ ap targets_in (changes_new start ws w some within (λ p lt e. off p (omega (arith, lt, count)) (sym (number_same p (omega (arith, lt, count))) ∙ e)))
      ∙ targets_push (changes_by start ws some) (r, with_entry (record_at some r) (w.0 % 8) w.1) ∙ ap (λ (ks : List ℕ). ks ++ r ∷ []) on_some)

-- ---- a slot that is put into them

module _ (start slot : ℕ) (tape : Option Tape) (writes : Tape → SlotWrites) (e : Tape → List ℕ) (old : Changes)
    (staged : IsStagedAs start tape writes old) (within : (t : Tape) → tape ≡ Some t → slot_record start slot < length t) where
  abbrev row : ℕ
  row = slot_record start slot

  put_there : (place : ℕ) (entry : List ℕ) → ((t : Tape) → tape ≡ Some t → entry ≡ e t) → place < length old → (get_or old place (0, [])).0 ≡ row
      → IsStagedAs start tape (λ x. writes x ++ (slot, e x) ∷ []) (set old place (row, with_entry (get_or old place (0, [])).1 (slot % 8) entry))
  put_there place entry is lt at = record {
    targets = λ x. targets_set old place (row, with_entry (get_or old place (0, [])).1 (slot % 8) entry) at ∙ again start (writes x) (slot, e x) old (staged.targets x) place lt at;
    contents = λ t told.
        let now : old ≡ changes_by start (writes t) t = staged.contents t told in
        (λ i. set (now i) place (row, with_entry (get_or (now i) place (0, [])).1 (slot % 8) (is t told i)))
        ∙ sym (changes_again start (writes t) (slot, e t) t (within t told) place (omega (arith, lt, ap length now)) (sym (ap (λ (cs : Changes). (get_or cs place (0, [])).0) now) ∙ at));
  }

  put_new : (bytes entry : List ℕ) → ((t : Tape) → tape ≡ Some t → entry ≡ e t) → ((p : ℕ) → p < length old → (get_or old p (0, [])).0 ≢ row)
      → ((t : Tape) → tape ≡ Some t → bytes ≡ record_at t row)
      → IsStagedAs start tape (λ x. writes x ++ (slot, e x) ∷ []) (old ++ (row, with_entry bytes (slot % 8) entry) ∷ [])
  put_new bytes entry is off read_as = record {
    targets = λ x. targets_push old (row, with_entry bytes (slot % 8) entry) ∙ one_more start (writes x) (slot, e x) old (staged.targets x) off;
    contents = λ t told.
        let now : old ≡ changes_by start (writes t) t = staged.contents t told in
        (λ i. now i ++ (row, with_entry (read_as t told i) (slot % 8) (is t told i)) ∷ [])
        ∙ sym (changes_new start (writes t) (slot, e t) t (within t told) (λ p lt at. off p (omega (arith, lt, ap length now)) (ap (λ (cs : Changes). (get_or cs p (0, [])).0) now ∙ at)));
  }

  pub put_brought : (place : ℕ) (mid new : Changes) (entry : List ℕ) → BroughtIn row place tape old mid
      → ((t : Tape) → tape ≡ Some t → entry ≡ e t)
      → new ≡ set mid place ((get_or mid place (0, [])).0, with_entry (get_or mid place (0, [])).1 (slot % 8) entry)
      → IsStagedAs start tape (λ x. writes x ++ (slot, e x) ∷ []) new
  put_brought place mid new entry (there lt at same) is new_is =
      subst (IsStagedAs start tape (λ x. writes x ++ (slot, e x) ∷ []))
      (sym (new_is ∙ (λ i. set (same i) place ((get_or (same i) place (0, [])).0, with_entry (get_or (same i) place (0, [])).1 (slot % 8) entry))
      ∙ ap (λ (k : ℕ). set old place (k, with_entry (get_or old place (0, [])).1 (slot % 8) entry)) at))
      (put_there place entry is lt at)
  put_brought place mid new entry (read off last bytes same read_as) is new_is =
      let here : get_or mid place (0, []) ≡ (row, bytes) = (λ i. get_or (same i) (last i) (0, [])) ∙ get_or_push old (row, bytes) (0, []) (length old) refl in
      subst (IsStagedAs start tape (λ x. writes x ++ (slot, e x) ∷ []))
      (sym (new_is ∙ (λ i. set (same i) (last i) ((here i).0, with_entry (here i).1 (slot % 8) entry))
      ∙ set-append_seam old (row, bytes) [] (row, with_entry bytes (slot % 8) entry)))
      (put_new bytes entry is off read_as)

  -- the record that was brought in is that of the tape with the slots so far
  others_from : (ks : List ℕ) (k : ℕ) → ((p : ℕ) → p < length ks → get_or ks p 0 ≢ k) → AreOther ks k
  others_from [] k off = tt
  others_from (j ∷ js) k off = ((λ e. off 0 (omega arith) (sym e)), others_from js k (λ p lt. off (suc p) (omega (arith, lt))))

  pub brought_record : (place : ℕ) (mid : Changes) → BroughtIn row place tape old mid → (t : Tape) → tape ≡ Some t
      → (get_or mid place (0, [])).1 ≡ record_at (with_slots start (writes t) t) row
  brought_record place mid (there lt at same) t told =
      let now : old ≡ changes_by start (writes t) t = staged.contents t told in
      let less : place < length (touched start (writes t)) = omega (arith, lt, ap length (staged.targets t), targets_count old) in
      let number : get_or (touched start (writes t)) place 0 ≡ row = sym (ap (λ (ks : List ℕ). get_or ks place 0) (staged.targets t)) ∙ number_at old place lt ∙ at in
      ap (λ (cs : Changes). (get_or cs place (0, [])).1) (same ∙ now) ∙ content_at (touched start (writes t)) place (with_slots start (writes t) t) less ∙ ap (record_at (with_slots start (writes t) t)) number
    where
      content_at : (ks : List ℕ) (p : ℕ) (y : Tape) → p < length ks → (get_or (map {A = ℕ} {B = ℕ × List ℕ} (λ k. (k, record_at y k)) ks) p (0, [])).1 ≡ record_at y (get_or ks p 0)
      content_at [] p y lt = absurd (omega (arith, lt))
      content_at (k ∷ ks) zero y lt = refl
      content_at (k ∷ ks) (suc p) y lt = content_at ks p y (omega (arith, lt))
  brought_record place mid (read off last bytes same read_as) t told =
      let here : get_or mid place (0, []) ≡ (row, bytes) = (λ i. get_or (same i) (last i) (0, [])) ∙ get_or_push old (row, bytes) (0, []) (length old) refl in
      let others : AreOther (touched start (writes t)) row = others_from (touched start (writes t)) row (λ p lt at.
      let less : p < length old = omega (arith, lt, ap length (staged.targets t), targets_count old) in
      off p less (sym (number_at old p less) ∙ ap (λ (ks : List ℕ). get_or ks p 0) (staged.targets t) ∙ at)) in
      ap (λ (c : ℕ × List ℕ). c.1) here ∙ read_as t told ∙ sym (slots_elsewhere start (writes t) t row (others_untouched start (writes t) row others))

-- ---- a slot that was not written

entries_before : (room k : ℕ) (ws : SlotWrites) → AreBefore room k ws → AreEntries room ws
entries_before room k [] are = tt
entries_before room k (w ∷ ws) are = (are.0, are.2, entries_before room k ws are.3)

last_of_before : (room k : ℕ) (ws : SlotWrites) (old : List ℕ) → AreBefore room k ws → last_written ws k old ≡ old
last_of_before room k [] old are = refl
last_of_before room k (w ∷ ws) old are =
    last_of_before room k ws (if w.0 == k then w.1 else old) are.3 ∙ ap (λ (b : Bool). if b then w.1 else old) (ne_eqb w.0 k (λ e. absurd (omega (arith, e, are.1))))

pub before_leave : (start n slot : ℕ) (ws : SlotWrites) (t : Tape) → IsTape n t → slot_record start slot < n → AreBefore (8 * (n - start)) slot ws
    → entry_at (record_at (with_slots start ws t) (slot_record start slot)) (slot % 8) ≡ entry_from t start slot
before_leave start n slot ws t is lt are =
    slot_written start n (n - start) ws t slot is (omega (arith, lt)) (entries_before (8 * (n - start)) slot ws are) (omega (arith, lt))
    ∙ last_of_before (8 * (n - start)) slot ws (entry_from t start slot) are

pub before_more : (room k m : ℕ) (ws : SlotWrites) → k ≤ m → AreBefore room k ws → AreBefore room m ws
before_more room k m [] le are = tt
before_more room k m (w ∷ ws) le are = (are.0, omega (arith, are.1, le), are.2, before_more room k m ws le are.3)

pub before_append : (room k : ℕ) (ws more : SlotWrites) → AreBefore room k ws → AreBefore room k more → AreBefore room k (ws ++ more)
before_append room k [] more are others = others
before_append room k (w ∷ ws) more are others = (are.0, are.1, are.2, before_append room k ws more are.3 others)

-- an element that is there, whatever stands for those that are not
pub value_at : (cs : Changes) (p : ℕ) (c : ℕ × List ℕ) → c ≡ get_or cs p c → p < length cs → c ≡ get_or cs p (0, [])
value_at cs p c is lt = is ∙ there_is cs p lt
  where
    there_is : (cs : Changes) (p : ℕ) → p < length cs → get_or cs p c ≡ get_or cs p (0, [])
    there_is [] p lt = absurd (omega (arith, lt))
    there_is (b ∷ cs) zero lt = refl
    there_is (b ∷ cs) (suc p) lt = there_is cs p (omega (arith, lt))

-- ---- the slots of a change

pub none_staged : (start : ℕ) (tape : Option Tape) (cs : Changes) → cs ≡ [] → IsStagedAs start tape (λ x. []) cs
none_staged start tape cs none = record { targets = λ x. ap targets_in none; contents = λ t told. none }

-- the same writes, by another form, on the same tape
pub staged_as : (start : ℕ) (tape mid : Option Tape) (writes other : Tape → SlotWrites) (cs : Changes) → mid ≡ tape → ((x : Tape) → writes x ≡ other x)
    → IsStagedAs start tape writes cs → IsStagedAs start mid other cs
staged_as start tape mid writes other cs same path staged = record {
  targets = λ x. staged.targets x ∙ ap (touched start) (path x);
  contents = λ t told. staged.contents t (sym same ∙ told) ∙ ap (λ (ws : SlotWrites). changes_by start ws t) (path t);
}

pub entry_alone : (change : Change) (bytes : List ℕ) → bytes ≡ entry_bytes change.entry → change.next ≡ None → (change.slot, bytes) ∷ [] ≡ entry_writes change
entry_alone change bytes is none = λ i. (change.slot, is i) ∷ next_write (suc change.slot) (sym none i)

pub entry_and_next : (change : Change) (next : FileEntry) (bytes more : List ℕ) (k : ℕ) → bytes ≡ entry_bytes change.entry → more ≡ entry_bytes next → k ≡ suc change.slot
    → change.next ≡ Some next → (change.slot, bytes) ∷ (k, more) ∷ [] ≡ entry_writes change
entry_and_next change next bytes more k is more_is at some =
    (λ i. (change.slot, is i) ∷ (at i, more_is i) ∷ []) ∙ (λ i. (change.slot, entry_bytes change.entry) ∷ next_write (suc change.slot) (sym some i))

pub none_ended : (start : ℕ) (change : Change) (x : Tape) → change.ended ≡ false → entry_writes change ≡ change_writes start change x
none_ended start change x off = sym (append-nil (entry_writes change)) ∙ (λ i. entry_writes change ++ end_write (sym off i) start (slot_after change) x)

pub ended_too : (start k : ℕ) (change : Change) (x : Tape) → k ≡ slot_after change → change.ended ≡ true
    → entry_writes change ++ (k, with_type 0xFFFF (entry_from x start k)) ∷ [] ≡ change_writes start change x
ended_too start k change x at on = (λ i. entry_writes change ++ (at i, with_type 0xFFFF (entry_from x start (at i))) ∷ [])
    ∙ (λ i. entry_writes change ++ end_write (sym on i) start (slot_after change) x)

-- the end is put after the entries
pub entries_are_before : (start limit : ℕ) (change : Change) → LiesBelow start limit change → length (entry_bytes change.entry) ≡ 32 → IfSome change.next (λ e. length (entry_bytes e) ≡ 32)
    → AreBefore (8 * (limit - start)) (slot_after change) (entry_writes change)
entries_are_before start limit change below one two = by change.next below.next two
  where
    by : (next : Option FileEntry) → IfSome next (λ e. slot_record start (suc change.slot) < limit) → IfSome next (λ e. length (entry_bytes e) ≡ 32)
        → AreBefore (8 * (limit - start)) (after_next change.slot next) ((change.slot, entry_bytes change.entry) ∷ next_write (suc change.slot) next)
    by None lt more = (omega (arith, below.slot), omega arith, one, tt)
    by (Some e) lt more = (omega (arith, below.slot), omega arith, one, (omega (arith, lt), omega arith, more, tt))

-- and all of it before the place after the end
pub change_is_before : (start limit : ℕ) (change : Change) (t : Tape) → IsTape limit t → LiesBelow start limit change
    → AreBefore (8 * (limit - start)) (slot_after change) (entry_writes change) → AreBefore (8 * (limit - start)) (suc (slot_after change)) (change_writes start change t)
change_is_before start limit change t is below entries =
    before_append (8 * (limit - start)) (suc (slot_after change)) (entry_writes change) (end_write change.ended start (slot_after change) t)
    (before_more (8 * (limit - start)) (slot_after change) (suc (slot_after change)) (entry_writes change) (omega arith) entries) (by change.ended below.end)
  where
    by : (ended : Bool) → (ended ≡ true → slot_record start (slot_after change) < limit) → AreBefore (8 * (limit - start)) (suc (slot_after change)) (end_write ended start (slot_after change) t)
    by false lt = tt
    by true lt =
        let whole : length (entry_from t start (slot_after change)) ≡ 32 =
        entry_size (record_at t (slot_record start (slot_after change))) (slot_after change % 8) (is.bytes (slot_record start (slot_after change)) (lt refl)) (omega arith) in
        (omega (arith, lt refl), omega arith, typed_size 0xFFFF (entry_from t start (slot_after change)) ∙ whole, tt)

-- ---- one commit takes them

-- the same slots, with other bytes
blank : List ℕ
blank = replicate 32 0

blank_size : length blank ≡ 32
unfolding blank
blank_size = refl

blanked : SlotWrites → SlotWrites
blanked [] = []
blanked (w ∷ ws) = (w.0, blank) ∷ blanked ws

-- which records are touched, the bytes do not say
touched_blank : (start : ℕ) (ws : SlotWrites) → touched start (blanked ws) ≡ touched start ws
unfolding blanked
touched_blank start [] = refl
touched_blank start (w ∷ ws) = ap (λ (ks : List ℕ). slot_record start w.0 ∷ filter (λ k. not (nat_eq k (slot_record start w.0))) ks) (touched_blank start ws)

-- each slot is one of so many
abbrev pub AreWithin : ℕ → SlotWrites → Type 0
AreWithin room [] = Unit {0}
AreWithin room (w ∷ ws) = (w.0 < room) × AreWithin room ws

blank_entries : (room : ℕ) (ws : SlotWrites) → AreWithin room ws → AreEntries room (blanked ws)
unfolding blanked
blank_entries room [] are = tt
blank_entries room (w ∷ ws) are = (are.0, blank_size, blank_entries room ws are.1)

blank_some : (ws : SlotWrites) → 0 < length ws → 0 < length (blanked ws)
unfolding blanked
blank_some [] some = absurd (omega (arith, some))
blank_some (w ∷ ws) some = omega arith

pub within_append : (room : ℕ) (ws more : SlotWrites) → AreWithin room ws → AreWithin room more → AreWithin room (ws ++ more)
within_append room [] more are others = others
within_append room (w ∷ ws) more are others = (are.0, within_append room ws more are.1 others)

pub writes_taken : (version : Version) (n start size : ℕ) (ws : SlotWrites) → start + size ≤ redo_start version n → AreWithin (8 * size) ws → 0 < length ws
    → length (touched start ws) ≤ most_targets version → are_targets version n (touched start ws) ≡ true
writes_taken version n start size ws below are some few =
    ap (are_targets version n) (sym (touched_blank start ws))
    ∙ sym (ap (are_targets version n) (targets_are (touched start (blanked ws)) (with_slots start (blanked ws) [])))
    ∙ changes_are start size (blanked ws) (blank_entries (8 * size) ws are) version n [] (blank_some ws some) (omega (arith, few, ap length (touched_blank start ws))) below

-- ---- before the commit

pub settles_here : (version : Version) (t : Tape) → IsSettled t → SettlesBelow version t t
settles_here version t settled = record { records = refl; same = λ k lt. ap (λ (s : Tape). record_at s k) settled }

-- ---- one commit of slots

-- they were set aside, and then committed
module _ {S : Type 0} (version : Version) (start : ℕ) (slots : Tape → SlotWrites) (v m w : RecordsView S) (items now : Changes) (is : now ≡ items)
    (size : m.record_count ≡ v.record_count) (quiet : IsQuiet v m) (staged : IsStagedAs start v.tape slots items) (reads : AddsWrites [] v.transferred m.transferred) where
  are : (t : Tape) → v.tape ≡ Some t → now ≡ changes_by start (slots t) t
  are t told = is ∙ staged.contents t told

  pub slots_commit : (calls : ℕ) (r : Result (Unit {0}) Trouble) → GoesOn calls v w r
      → OnOk r ((t : Tape) → m.tape ≡ Some t → (u : Tape) × (w.tape ≡ Some u) × IsCommitted version now t u)
      → ((t : Tape) → m.tape ≡ Some t → RunLeaves m w (IsOldOrNew version now t))
      → ((t : Tape) → m.tape ≡ Some t → (u : Tape) × (w.tape ≡ Some u) × IsOldOrNew version now t u)
      → OnOk r ((was_open : Bool) × ((t : Tape) → m.tape ≡ Some t → was_open ≡ has_open_gate t) × AddsWrites (commit_writes version m.record_count was_open now) m.transferred w.transferred)
      → CommitsSlots calls version start slots v w r
  slots_commit calls r goes done moments after writes = record {
    goes_on = goes;
    done = stand r done;
    any_moment = λ t told. after_still _ _ _ _ _ _ (IsOldOrNew version (changes_by start (slots t) t) t) quiet.moment quiet.since
        (subst (λ (cs : Changes). RunLeaves m w (IsOldOrNew version cs t)) (are t told) (moments t (quiet.tape ∙ told)));
    after = λ t told. let left = after t (quiet.tape ∙ told) in (left.0, left.1, subst (λ (cs : Changes). IsOldOrNew version cs t left.0) (are t told) left.2);
    writes = adds r writes;
  }
    where
      stand : (r : Result (Unit {0}) Trouble) → OnOk r ((t : Tape) → m.tape ≡ Some t → (u : Tape) × (w.tape ≡ Some u) × IsCommitted version now t u)
          → OnOk r ((t : Tape) → v.tape ≡ Some t → (u : Tape) × (w.tape ≡ Some u) × IsCommitted version (changes_by start (slots t) t) t u)
      stand (Ok x) done = λ t told. let left = done t (quiet.tape ∙ told) in (left.0, left.1, subst (λ (cs : Changes). IsCommitted version cs t left.0) (are t told) left.2)
      stand (Err e) done = tt

      adds : (r : Result (Unit {0}) Trouble) → OnOk r ((was_open : Bool) × ((t : Tape) → m.tape ≡ Some t → was_open ≡ has_open_gate t) × AddsWrites (commit_writes version m.record_count was_open now) m.transferred w.transferred)
          → OnOk r ((t : Tape) → v.tape ≡ Some t → AddsWrites (commit_writes version v.record_count (has_open_gate t) (changes_by start (slots t) t)) v.transferred w.transferred)
      adds (Ok x) given = λ t told.
          same_writes ([] ++ commit_writes version m.record_count given.0 now) (commit_writes version v.record_count (has_open_gate t) (changes_by start (slots t) t)) v.transferred w.transferred
          (λ i. commit_writes version (size i) (given.1 t (quiet.tape ∙ told) i) (are t told i)) (then_writes [] (commit_writes version m.record_count given.0 now) v.transferred m.transferred w.transferred reads given.2)
      adds (Err e) given = tt

-- the store failed while they were set aside
pub slots_fail : {S : Type 0} (version : Version) (start : ℕ) (slots : Tape → SlotWrites) (v w : RecordsView S) (most calls : ℕ) (e : Trouble) → calls ≤ most → IsStore v → ((t : Tape) → v.tape ≡ Some t → IsSettled t)
    → IsQuiet v w → GoesOn {T = Unit {0}} calls v w (Err e) → CommitsSlots {T = Unit {0}} most version start slots v w (Err e)
slots_fail version start slots v w most calls e few store settled quiet goes = record {
  goes_on = goes_within calls most v w (Err e) few goes;
  done = tt;
  any_moment = λ t told. quiet_run v w (IsOldOrNew version (changes_by start (slots t) t) t) t store quiet told (inl (settles_here version t (settled t told)));
  after = λ t told. (t, quiet.tape ∙ told, inl (settles_here version t (settled t told)));
  writes = tt;
}

-- ---- how many calls

-- where fewer calls were made than was known
pub goes_fewer : {S T : Type 0} (j k : ℕ) (v w : RecordsView S) (r : Result T Trouble) → v.calls_left ≤ w.calls_left + k → GoesOn j v w r → GoesOn k v w r
goes_fewer j k v w r left goes =
    let c = goes.continues in
    record {
      continues = record { valid = c.valid; told = c.told; size = c.size; sound = c.sound; ready = c.ready; left = left; room = c.room; failed = c.failed; cause = c.cause };
      stood = goes.stood;
      resumed = goes.resumed;
    }

-- with another value after an Ok
pub goes_told : {S T U : Type 0} (j : ℕ) (v w : RecordsView S) (x : T) (y : U) → GoesOn j v w (Ok x) → GoesOn j v w (Ok y)
goes_told j v w x y goes =
    let c = goes.continues in
    record {
      continues = record { valid = c.valid; told = c.told; size = c.size; sound = c.sound; ready = c.ready; left = c.left; room = c.room; failed = c.failed; cause = c.cause };
      stood = goes.stood;
      resumed = goes.resumed;
    }

-- and after a failure, whatever is told else
pub goes_failed : {S T U : Type 0} (j : ℕ) (v w : RecordsView S) (e : Trouble) → GoesOn {T = T} j v w (Err e) → GoesOn {T = U} j v w (Err e)
goes_failed j v w e goes =
    let c = goes.continues in
    record {
      continues = record { valid = c.valid; told = c.told; size = c.size; sound = c.sound; ready = c.ready; left = c.left; room = c.room; failed = c.failed; cause = c.cause };
      stood = goes.stood;
      resumed = goes.resumed;
    }

-- ---- how many are read

filter_fewer : (p : ℕ → Bool) (ks : List ℕ) → length (filter p ks) ≤ length ks
filter_fewer p [] = omega arith
filter_fewer p (k ∷ ks) = go (p k) (filter_fewer p ks)
  where
    go : (b : Bool) → length (filter p ks) ≤ length ks → length (if b then k ∷ filter p ks else filter p ks) ≤ suc (length ks)
    go true le = omega (arith, le)
    go false le = omega (arith, le)

filter_push : (p : ℕ → Bool) (ks : List ℕ) (k : ℕ) → length (filter p (ks ++ k ∷ [])) ≡ length (filter p ks) + (if p k then 1 else 0)
filter_push p [] k = go (p k)
  where
    go : (b : Bool) → length (if b then k ∷ [] else []) ≡ 0 + (if b then 1 else 0)
    go true = refl
    go false = refl
filter_push p (j ∷ ks) k = go (p j) (filter_push p ks k)
  where
    go : (b : Bool) → length (filter p (ks ++ k ∷ [])) ≡ length (filter p ks) + (if p k then 1 else 0)
        → length (if b then j ∷ filter p (ks ++ k ∷ []) else filter p (ks ++ k ∷ [])) ≡ length (if b then j ∷ filter p ks else filter p ks) + (if p k then 1 else 0)
    go true is = omega (arith, is)
    go false is = is

-- a record that was not among them comes last: it counts where it is past the end
pub past_more : (start count n : ℕ) (bytes : List ℕ) (old : Changes)
    → past_end start count (targets_in (old ++ (n, bytes) ∷ [])) ≡ past_end start count (targets_in old) + (if nat_lt (start + count / 8) n then 1 else 0)
past_more start count n bytes old =
    ap (past_end start count) (targets_push old (n, bytes)) ∙ filter_push (λ k. nat_lt (start + count / 8) k) (targets_in old) n

-- nor do they count otherwise, whatever they hold
pub past_set : (start count place : ℕ) (cs : Changes) (c : ℕ × List ℕ) → (get_or cs place (0, [])).0 ≡ c.0
    → past_end start count (targets_in (set cs place c)) ≡ past_end start count (targets_in cs)
past_set start count place cs c same = ap (past_end start count) (targets_set cs place c same)

pub past_push : (start count : ℕ) (ks : List ℕ) (k : ℕ) → past_end start count (ks ++ k ∷ []) ≡ past_end start count ks + (if nat_lt (start + count / 8) k then 1 else 0)
past_push start count ks k = filter_push (λ k. nat_lt (start + count / 8) k) ks k

-- no more than are touched
pub past_few : (start count : ℕ) (ks : List ℕ) → past_end start count ks ≤ length ks
past_few start count ks = filter_fewer (λ k. nat_lt (start + count / 8) k) ks

pub touched_is : (start : ℕ) (tape : Option Tape) (writes : Tape → SlotWrites) (cs : Changes) → IsStagedAs start tape writes cs
    → (targets_in cs ≡ touched start (writes [])) × (length cs ≡ length (touched start (writes [])))
touched_is start tape writes cs staged = (staged.targets [], sym (targets_count cs) ∙ ap length (staged.targets []))

-- ---- which records a change touches

-- the bytes of a tape do not say which
pub touched_same : (start : ℕ) (change : Change) (x : Tape) → touched start (change_writes start change x) ≡ touched_by start change
touched_same start change x = by change.next change.ended
  where
    by : (next : Option FileEntry) (ended : Bool)
        → touched start ((change.slot, entry_bytes change.entry) ∷ (next_write (suc change.slot) next ++ end_write ended start (after_next change.slot next) x))
        ≡ touched start ((change.slot, entry_bytes change.entry) ∷ (next_write (suc change.slot) next ++ end_write ended start (after_next change.slot next) []))
    by None false = refl
    by None true = refl
    by (Some e) false = refl
    by (Some e) true = refl

-- one at least, and two at most
pub touched_few : (start : ℕ) (change : Change) → (0 < length (touched_by start change)) × (length (touched_by start change) ≤ 2)
touched_few start change = (omega arith, by change.next change.ended)
  where
    slot : ℕ
    slot = change.slot

    low : ℕ
    low = slot_record start change.slot

    by : (next : Option FileEntry) (ended : Bool)
        → length (touched start ((slot, entry_bytes change.entry) ∷ (next_write (suc slot) next ++ end_write ended start (after_next slot next) []))) ≤ 2
    by None false = omega arith
    by None true = touches_two start low ((slot, entry_bytes change.entry) ∷ (suc slot, with_type 0xFFFF (entry_from [] start (suc slot))) ∷ []) (omega arith, omega arith, (omega arith, omega arith, tt))
    by (Some e) false = touches_two start low ((slot, entry_bytes change.entry) ∷ (suc slot, entry_bytes e) ∷ []) (omega arith, omega arith, (omega arith, omega arith, tt))
    by (Some e) true = touches_two start low ((slot, entry_bytes change.entry) ∷ (suc slot, entry_bytes e) ∷ (suc (suc slot), with_type 0xFFFF (entry_from [] start (suc (suc slot)))) ∷ [])
        (omega arith, omega arith, (omega arith, omega arith, (omega arith, omega arith, tt)))

pub calls_most : (start count : ℕ) (is_open : Bool) (change : Change) → calls_of start count is_open change ≤ most_commit_calls
calls_most start count is_open change = omega (arith, touched_few start change, past_few start count (touched_by start change), few is_open (length (touched_by start change)))
  where
    few : (b : Bool) (k : ℕ) → commit_calls b k ≤ 2 * k + 4
    few true k = omega arith
    few false k = omega arith

-- ---- how many slots there are then

length_put : {X : Type 0} (xs : List X) (k : ℕ) (x : X) → k ≤ length xs → length (put_slot xs k x) ≡ max (length xs) (suc k)
length_put xs k x le = go (k == length xs) refl
  where
    go : (b : Bool) → (k == length xs) ≡ b → length (if b then xs ++ x ∷ [] else set xs k x) ≡ max (length xs) (suc k)
    go true e = length-append xs (x ∷ []) ∙ omega (arith, eqb-true k (length xs) e) ∙ sym (max-eq_right {n = length xs} {m = suc k} (omega (arith, eqb-true k (length xs) e)))
    go false e = length-set xs k x ∙ sym (max-eq_left {n = length xs} {m = suc k} (omega (arith, le, other)))
      where
        other : k ≢ length xs
        other same = let no : false ≡ true = sym e ∙ eq-eqb k (length xs) same in cc

pub count_is : {X : Type 0} (f : FileEntry → X) (change : Change) (xs : List X) → change.slot ≤ length xs → length (put_change f change xs) ≡ count_with (length xs) change
count_is f change xs le = by change.next
  where
    k : ℕ
    k = change.slot

    first : length (put_slot xs change.slot (f change.entry)) ≡ max (length xs) (suc change.slot)
    first = length_put xs change.slot (f change.entry) le

    by : (next : Option FileEntry) → length (put_next f (suc change.slot) next (put_slot xs change.slot (f change.entry))) ≡ max (length xs) (after_next change.slot next)
    by None = first
    by (Some e) =
        length_put (put_slot xs k (f change.entry)) (suc k) (f e) (omega (arith, first, le-max_right (length xs) (suc k)))
        ∙ ap (λ (m : ℕ). max m (suc (suc k))) first ∙ most (cases_lt (length xs) (suc (suc k)))
      where
        most : (length xs < suc (suc k)) ⊎ (suc (suc k) ≤ length xs) → max (max (length xs) (suc k)) (suc (suc k)) ≡ max (length xs) (suc (suc k))
        most (inl less) = max-eq_right {n = max (length xs) (suc k)} {m = suc (suc k)} (max-le (omega (arith, less)) (omega arith)) ∙ sym (max-eq_right {n = length xs} {m = suc (suc k)} (omega (arith, less)))
        most (inr more) = ap (λ (m : ℕ). max m (suc (suc k))) (max-eq_left {n = length xs} {m = suc k} (omega (arith, more)))
