-- A command that changes the volume: it mounts, and carries out what is planned.
use Rattle.std.proofs.Common.{◌≡◌, ◌⊎◌, ◌≤◌, ◌<◌, ◌+◌, ◌*◌, ◌++◌, ◌∷◌, [], ℕ, List, Bool, true, false, if◌then◌else◌, inl, inr, map, refl, sym, ap, subst, ◌∙◌, arith, append_assoc}
use Rattle.std.specs.Prelude.{Option, Some, None, Result, Ok, Err, IfErr, is_some}
use Rattle.std.proofs.Math.Nat.{le-max_right}
use Rattle.lif_model.specs.Tape.{Tape}
use Rattle.lif_model.specs.Header.{HeaderParts}
use Rattle.lif_model.specs.Redo.{redo_of, settled}
use Rattle.lif_model.specs.Commit.{IsSettleWrite}
use Rattle.lif_model.specs.Volume.{Volume, volume_in, volume_of, is_gate_held}
use Rattle.lif_model.specs.Apply.{VolumeCommand, Dir, Label, Fetch, Store, Rename, Purge, Adopt, Upgrade, Batch, Format, IsWellFormed, refusal_of, apply}
use Rattle.lif_model.specs.Transfers.{Transfer}
use Rattle.lif_model.proofs.Moments.{follows, weaker}
use Rattle.lif_model.proofs.Redo.{length_settled, settled_twice}
use Rattle.lif_model.proofs.Legal.{legal_tells}
use Rattle.lif_model.proofs.Slots.{readable_tells}
use Rattle.il_ports.specs.Stores.{RecordsView, IsReady, GoesOn}
use Rattle.il_ports.specs.Transfers.{WritesOnly, GoesOnBy, AddsOnly}
use Rattle.il_ports.proofs.Stores.{goes_further, goes_within}
use Rattle.il_ports.proofs.Transfers.{wider, then_more}
use Rattle.lif_dir.specs.Entries.{slot_bytes}
use Rattle.lif_model.specs.declared.refusal.Refusal.{Refusal}
use Rattle.lif_model.specs.declared.refusal.Refusal.TheVariants as refusal
use Rattle.lif_plan.specs.Directories.{IsLegalDirectory}
use Rattle.lif_model.specs.Changing.{version_for, files_when, file_when, changes_filed, IsChanged}
use Rattle.lif_plan.specs.Refusals.{IsAmong, keeps_behind}
use Rattle.lif_model.specs.Parts.{Part}
use Rattle.lif_volume.specs.declared.fault.VolumeFault.{VolumeFault}
use Rattle.lif_volume.specs.declared.fault.VolumeFault.TheVariants.{Refused, Trouble as Troubled}
use Rattle.lif_volume.specs.Views.{VolumeView, IsOpen}
use Rattle.lif_volume.specs.Answers.{store_answer, keeps, Answers, IsNotLif, IsLegalAs, IsSettledAs, HasVolumeOf}
use Rattle.lif_volume.specs.Commands.{batch_calls_needed, fetching, Consults, mounting, mounting_on, AnswersTo, KeepsVolume, OnlySettles}
use Rattle.lif_volume.specs.Changing.{IsWrittenIfOk, refused_tape, IsWrittenAs, keeps_behind_command, committing, filing, with_mounting, storing, batching, batching_all, carrying, carrying_on, changing, HasEitherVolume, VolumeTurns, AddsAsAnswered, Writes, TurnsVolume, WritesByCommit}
use Rattle.lif_volume.specs.Carrying.{CarriesOutOn, CarriesOut, carry_room, batch_room}
use Rattle.lif_volume.specs.Did.{IsOneOf, refusals_of, Alters}
use Rattle.lif_volume.proofs.Mounting.{behind, answers_fault, nothing_mounted, mounted_as_kept, FirstBy, first_by}
use Rattle.lif_volume.proofs.Fetching.{legal_of}
use Rattle.lif_volume.proofs.Gated.{settles_foreign}
use Rattle.lif_volume.proofs.Batched.{batch_refusals}

-- ---- every command of one change mounts first, and is refused of a tape that is not legal; `format` is not

abbrev pub Mounts : VolumeCommand → Type 0
Mounts (Format label slots) = ⊥
Mounts (Batch parts) = ⊥
Mounts command = Unit {0}

refused_is : (command : VolumeCommand) (why : Refusal) (t : Tape) → Mounts command → refused_tape command why t ≡ settled t
refused_is Dir why t mounts = refl
refused_is Label why t mounts = refl
refused_is (Fetch name) why t mounts = refl
refused_is (Store name kind implementation bytes) why t mounts = refl
refused_is (Rename old later) why t mounts = refl
refused_is (Purge name) why t mounts = refl
refused_is Adopt why t mounts = refl
refused_is Upgrade why t mounts = refl
refused_is (Batch parts) why t mounts = absurd mounts
refused_is (Format label slots) why t mounts = absurd mounts

keeps_is : {T : Type 0} (command : VolumeCommand) (was : Bool) (answer : Result T VolumeFault) → Mounts command → keeps_behind_command command was answer ≡ keeps answer
keeps_is Dir was answer mounts = refl
keeps_is Label was answer mounts = refl
keeps_is (Fetch name) was answer mounts = refl
keeps_is (Store name kind implementation bytes) was answer mounts = refl
keeps_is (Rename old later) was answer mounts = refl
keeps_is (Purge name) was answer mounts = refl
keeps_is Adopt was answer mounts = refl
keeps_is Upgrade was answer mounts = refl
keeps_is (Batch parts) was answer mounts = absurd mounts
keeps_is (Format label slots) was answer mounts = absurd mounts

not_lif : (n : ℕ) (command : VolumeCommand) → Mounts command → refusal_of n command None ≡ Some refusal.NotLif
not_lif n Dir mounts = refl
not_lif n Label mounts = refl
not_lif n (Fetch name) mounts = refl
not_lif n (Store name kind implementation bytes) mounts = refl
not_lif n (Rename old later) mounts = refl
not_lif n (Purge name) mounts = refl
not_lif n Adopt mounts = refl
not_lif n Upgrade mounts = refl
not_lif n (Batch parts) mounts = absurd mounts
not_lif n (Format label slots) mounts = absurd mounts

-- ---- by cases on the answer

pub answers_from : {T : Type 0} (n : ℕ) (command : VolumeCommand) (s t u : Tape) (a : Result T VolumeFault) → volume_of s ≡ volume_of t → Answers n command s u a → Answers n command t u a
answers_from n command s t u (Ok x) same is = subst (λ (v : Option Volume). apply n command v ≡ (None, volume_of u)) same is
answers_from n command s t u (Err (Refused why)) same is = subst (λ (v : Option Volume). apply n command v ≡ (Some why, volume_of u)) same is
answers_from n command s t u (Err (Troubled trouble)) same is = tt

pub written_from : {T : Type 0} (n : ℕ) (command : VolumeCommand) (t u : Tape) (a : Result T VolumeFault) → ((why : Refusal) → a ≡ Err (Refused why) → refused_tape command why t ≡ settled t)
    → volume_of (settled t) ≡ volume_of t → IsWrittenIfOk n command (volume_of (settled t)) (settled t) u a → IsWrittenAs n command t u a
written_from n command t u (Ok x) tape same is =
    subst (λ (v : Option Volume). IsChanged (version_for n command v) (changes_filed n command v (settled t)) (file_when n command v (settled t)) u) same is
written_from n command t u (Err (Refused why)) tape same is = is ∙ sym (tape why refl)
written_from n command t u (Err (Troubled trouble)) tape same is = tt

none_only : (P : ℕ → Type 0) (list : List Transfer) → WritesOnly (λ k. ⊥) list → WritesOnly P list
none_only P [] only = tt
none_only P (x ∷ xs) only = (λ writes. let c = only.0 writes in record { count = c.count; whole = c.whole; each = λ k lt. absurd (c.each k lt) }, none_only P xs only.1)

only_then : (P : ℕ → Type 0) (xs ys : List Transfer) → WritesOnly P xs → WritesOnly (λ k. ⊥) ys → WritesOnly P (xs ++ ys)
only_then P [] ys first next = none_only P ys next
only_then P (x ∷ xs) ys first next = (first.0, only_then P xs ys first.1 next)

added_from : {T : Type 0} (P : ℕ → Type 0) (kept : Bool) (n : ℕ) (command : VolumeCommand) (volume : Option Volume) (t : Tape) (old mid new : List Transfer → Type 0) (a : Result T VolumeFault)
    → FirstBy P kept old mid → AddsAsAnswered (λ k. ⊥) true n command volume t mid new a → AddsAsAnswered P kept n command volume t old new a
added_from P kept n command volume t old mid new (Ok x) first is = record {
  goes_on = λ list was.
      let a = first list was in
      let b = is.goes_on (list ++ a.0) a.1 in (
        a.0 ++ b.0,
        b.1,
        subst new (append_assoc list a.0 (b.0 ++ b.1) ∙ ap (λ (more : List Transfer). list ++ more) (sym (append_assoc a.0 b.0 b.1))) b.2,
        only_then P a.0 b.0 a.2 b.3,
        λ on. (λ i. a.3 on i ++ b.4 refl i),
        b.5,
      );
}
added_from P kept n command volume t old mid new (Err (Refused why)) first is =
    then_more P old mid new (record { goes_on = λ list was. let a = first list was in (a.0, a.1, a.2) }) (wider (λ k. ⊥) P mid new (λ k no. absurd no) is)
added_from P kept n command volume t old mid new (Err (Troubled trouble)) first is = tt

-- ---- how many records

-- beside a directory no more than beside any
carrying_beside : {T : Type 0} (n : ℕ) (command : VolumeCommand) (header : HeaderParts) (a : Result T VolumeFault) → carrying n command (Some header) a ≤ carrying n command None a
carrying_beside n Dir header a = omega arith
carrying_beside n Label header a = omega arith
carrying_beside n (Fetch name) header a = omega arith
carrying_beside n (Store name kind implementation bytes) header (Ok x) = omega arith
carrying_beside n (Store name kind implementation bytes) header (Err (Refused why)) = omega arith
carrying_beside n (Store name kind implementation bytes) header (Err (Troubled trouble)) = omega arith
carrying_beside n (Rename old later) header a = omega arith
carrying_beside n (Purge name) header a = omega arith
carrying_beside n Adopt header a = omega arith
carrying_beside n Upgrade header a = omega arith
carrying_beside n (Batch parts) header (Ok x) = omega arith
carrying_beside n (Batch parts) header (Err (Refused why)) = omega arith
carrying_beside n (Batch parts) header (Err (Troubled trouble)) = omega arith
carrying_beside n (Format label slots) header a = omega arith

-- with what is kept after the answer
module _ {T : Type 0} (n : ℕ) (header : HeaderParts) (long : header.length + 5 ≤ n) (a : Result T VolumeFault) where
  few_bound : (old after : Option HeaderParts) → after ≡ (if keeps a then Some header else None) → mounting n old (Some header) + committing a ≤ mounting n old after + committing a
  few_bound old after is = go (keeps a) refl old
    where
      go : (b : Bool) → keeps a ≡ b → (o : Option HeaderParts) → mounting n o (Some header) + committing a ≤ mounting n o after + committing a
      go true e o = let same : after ≡ Some header = is ∙ ap (λ (b : Bool). if b then Some header else None) e in subst (λ (w : Option HeaderParts). mounting n o (Some header) + committing a ≤ mounting n o w + committing a) (sym same) (omega arith)
      go false e None = let same : after ≡ None = is ∙ ap (λ (b : Bool). if b then Some header else None) e in subst (λ (w : Option HeaderParts). 71 + header.length + committing a ≤ mounting n None w + committing a) (sym same) (omega (arith, long))
      go false e (Some h) = omega arith

  -- none where it is refused
  mounted_bound : (calls : Option HeaderParts → ℕ) (most : ℕ) → calls (Some header) ≤ calls None → ((why : Refusal) → a ≡ Err (Refused why) → calls (Some header) ≡ 0) → 71 + header.length + calls (Some header) ≤ most
      → (old after : Option HeaderParts) → after ≡ (if keeps a then Some header else None) → mounting n old (Some header) + calls (Some header) ≤ with_mounting n old after calls most a
  mounted_bound calls most any none all (Some h) after is = omega (arith, any)
  mounted_bound calls most any none all None after is = subst (λ (w : Option HeaderParts). mounting n None (Some header) + calls (Some header) ≤ with_mounting n None w calls most a) (sym is) (by a none)
    where
      refused : (why : Refusal) → calls (Some header) ≡ 0 → (b : Bool) → mounting n None (Some header) + calls (Some header) ≤ with_mounting {T = T} n None (if b then Some header else None) calls most (Err (Refused why))
      refused why zero true = omega arith
      refused why zero false = omega (arith, long, zero)

      by : (a : Result T VolumeFault) → ((why : Refusal) → a ≡ Err (Refused why) → calls (Some header) ≡ 0) → mounting n None (Some header) + calls (Some header) ≤ with_mounting n None (if keeps a then Some header else None) calls most a
      by (Ok x) none = omega arith
      by (Err (Refused why)) none = refused why (none why refl) (keeps {T = T} (Err (Refused why)))
      by (Err (Troubled trouble)) none = omega (arith, all)

  storing_bound : (old after : Option HeaderParts) (bytes : List ℕ) → after ≡ (if keeps a then Some header else None) → mounting n old (Some header) + (filing n (Some header) bytes a + committing a) ≤ storing n old after bytes a
  storing_bound old after bytes is = mounted_bound (λ kept. filing n kept bytes a + committing a) (n + 76) (any a) (none a) (all a) old after is
    where
      any : (b : Result T VolumeFault) → filing n (Some header) bytes b + committing b ≤ filing n None bytes b + committing b
      any (Ok x) = omega arith
      any (Err (Refused why)) = omega arith
      any (Err (Troubled trouble)) = omega arith

      none : (b : Result T VolumeFault) (why : Refusal) → b ≡ Err (Refused why) → filing n (Some header) bytes b + committing b ≡ 0
      none b why is = ap (λ (c : Result T VolumeFault). filing n (Some header) bytes c + committing c) is

      all : (b : Result T VolumeFault) → 71 + header.length + (filing n (Some header) bytes b + committing b) ≤ n + 76
      all (Ok x) = omega (arith, long)
      all (Err (Refused why)) = omega (arith, long)
      all (Err (Troubled trouble)) = omega (arith, long)

  batching_bound : (old after : Option HeaderParts) (parts : List Part) → after ≡ (if keeps a then Some header else None) → mounting n old (Some header) + batching n (Some header) parts a ≤ batching_all n old after parts a
  batching_bound old after parts is = mounted_bound (λ kept. batching n kept parts a) (n + 138) (any a) (none a) (all a) old after is
    where
      any : (b : Result T VolumeFault) → batching n (Some header) parts b ≤ batching n None parts b
      any (Ok x) = omega arith
      any (Err (Refused why)) = omega arith
      any (Err (Troubled trouble)) = omega arith

      none : (b : Result T VolumeFault) (why : Refusal) → b ≡ Err (Refused why) → batching n (Some header) parts b ≡ 0
      none b why is = ap (λ (c : Result T VolumeFault). batching n (Some header) parts c) is

      all : (b : Result T VolumeFault) → 71 + header.length + batching n (Some header) parts b ≤ n + 138
      all (Ok x) = omega (arith, long)
      all (Err (Refused why)) = omega (arith, long)
      all (Err (Troubled trouble)) = omega (arith, long)

  changing_bound : (command : VolumeCommand) (old after : Option HeaderParts) → Mounts command → after ≡ (if keeps a then Some header else None)
      → mounting n old (Some header) + carrying n command (Some header) a ≤ changing n command old after a
  changing_bound Dir old after mounts is = few_bound old after is
  changing_bound Label old after mounts is = few_bound old after is
  changing_bound (Fetch name) old after mounts is = few_bound old after is
  changing_bound (Store name kind implementation bytes) old after mounts is = storing_bound old after bytes is
  changing_bound (Rename old_name later) old after mounts is = few_bound old after is
  changing_bound (Purge name) old after mounts is = few_bound old after is
  changing_bound Adopt old after mounts is = few_bound old after is
  changing_bound Upgrade old after mounts is = few_bound old after is
  changing_bound (Batch parts) old after mounts is = absurd mounts
  changing_bound (Format label slots) old after mounts is = absurd mounts

-- on a told tape, of a directory that is read or not
batching_any : {T : Type 0} (n : ℕ) (parts : List Part) (old new : Option HeaderParts) (a : Result T VolumeFault) → mounting n old new ≤ changing n (Batch parts) old new a
batching_any n parts (Some header) new a = omega arith
batching_any n parts None (Some header) a = omega arith
batching_any n parts None None (Ok x) = omega arith
batching_any n parts None None (Err (Refused why)) = omega arith
batching_any n parts None None (Err (Troubled trouble)) = omega arith

carrying_any : {T : Type 0} (n : ℕ) (command : VolumeCommand) (old new : Option HeaderParts) (a : Result T VolumeFault) → Mounts command → mounting n old new ≤ changing n command old new a
carrying_any n Dir old new a mounts = omega arith
carrying_any n Label old new a mounts = omega arith
carrying_any n (Fetch name) old new a mounts = omega arith
carrying_any n (Store name kind implementation bytes) (Some header) new a mounts = omega arith
carrying_any n (Store name kind implementation bytes) None (Some header) a mounts = omega arith
carrying_any n (Store name kind implementation bytes) None None (Ok x) mounts = omega arith
carrying_any n (Store name kind implementation bytes) None None (Err (Refused why)) mounts = omega arith
carrying_any n (Store name kind implementation bytes) None None (Err (Troubled trouble)) mounts = omega arith
carrying_any n (Rename old_name later) old new a mounts = omega arith
carrying_any n (Purge name) old new a mounts = omega arith
carrying_any n Adopt old new a mounts = omega arith
carrying_any n Upgrade old new a mounts = omega arith
carrying_any n (Batch parts) old new a mounts = absurd mounts
carrying_any n (Format label slots) old new a mounts = absurd mounts

-- ---- refusals

pub not_lif_only : (names : List Refusal) (f : VolumeFault) → IsNotLif f → IsOneOf (refusal.NotLif ∷ names) f
not_lif_only names (Refused why) is = inl is
not_lif_only names (Troubled trouble) is = tt

one_more : (one : Refusal) (names : List Refusal) (f : VolumeFault) → IsOneOf names f → IsOneOf (one ∷ names) f
one_more one names (Refused why) is = inr is
one_more one names (Troubled trouble) is = tt

pub among_more : (one : Refusal) (names : List Refusal) (r : Result (Unit {0}) VolumeFault) → IfErr r (IsOneOf names) → IfErr r (IsOneOf (one ∷ names))
among_more one names (Ok x) is = tt
among_more one names (Err f) is = one_more one names f is

-- ---- joined

-- the stops of both parts
pub joined_turns : {R S : Type 0} (view : R → RecordsView S) (x y z : VolumeView R) (command : VolumeCommand) → (view y.records).record_count ≡ (view x.records).record_count
    → ((t : Tape) → (view x.records).tape ≡ Some t → (view y.records).tape ≡ Some (settled t))
    → ((t : Tape) → (view y.records).tape ≡ Some t → VolumeTurns (view y.records).record_count command (view y.records) (view z.records) t)
    → KeepsVolume view x y → TurnsVolume command view x z
joined_turns view x y z command size settles turns stays t told own =
    let first = stays t told own in
    let next = subst (λ (n : ℕ). VolumeTurns n command (view y.records) (view z.records) (settled t)) size (turns (settled t) (settles t told)) in
    record {
      stops = follows _ _ _ _ _ _ (HasEitherVolume n command t) (HasEitherVolume n command (settled t)) (weaker _ _ _ _ (HasEitherVolume n command t) (HasVolumeOf t) first.stops (λ c is. record { records = is.records; volume = inl is.volume; own_gate = is.own_gate }))
          next.stops (λ c is. again c is);
      after = (next.after.0, next.after.1, again next.after.0 next.after.2);
    }
  where
    n : ℕ
    n = (view x.records).record_count

    again : (c : Tape) → HasEitherVolume (view x.records).record_count command (settled t) c → HasEitherVolume (view x.records).record_count command t c
    again c is = record {
      records = is.records ∙ length_settled t;
      volume = subst (λ (v : Option Volume). (volume_of c ≡ v) ⊎ (IsWellFormed command × (volume_of c ≡ (apply (view x.records).record_count command v).1))) (ap volume_in (settled_twice t)) is.volume;
      own_gate = is.own_gate;
    }

-- the second part begins on the settled tape
module _ {R S : Type 0} (view : R → RecordsView S) (x y z : VolumeView R) (command : VolumeCommand) (a : Result (Unit {0}) VolumeFault)
    (size : (view y.records).record_count ≡ (view x.records).record_count) (settles : (t : Tape) → (view x.records).tape ≡ Some t → (view y.records).tape ≡ Some (settled t))
    (carried : (t : Tape) → (view y.records).tape ≡ Some t → CarriesOutOn (view y.records).record_count command (view y.records) (view z.records) t a) where
  module _ (t : Tape) (told : (view x.records).tape ≡ Some t) where
    pub settled_same : volume_of (settled t) ≡ volume_of t
    settled_same = ap volume_in (settled_twice t)

    pub carried_on : CarriesOutOn (view x.records).record_count command (view y.records) (view z.records) (settled t) a
    carried_on = subst (λ (n : ℕ). CarriesOutOn n command (view y.records) (view z.records) (settled t) a) size (carried (settled t) (settles t told))

  pub parts_answers : AnswersTo command view x z a
  parts_answers t u told now = answers_from (view x.records).record_count command (settled t) t u a (settled_same t told) ((carried_on t told).answers u now)

  pub parts_stops : KeepsVolume view x y → TurnsVolume command view x z
  parts_stops = joined_turns view x y z command size settles (λ t told. (carried t told).stops)

  pub parts_transfers : (is_some x.kept ≡ true → y.records ≡ x.records)
      → ((t : Tape) → (view x.records).tape ≡ Some t → GoesOnBy (IsSettleWrite (view x.records).record_count (redo_of t)) (view x.records).transferred (view y.records).transferred)
      → WritesByCommit command view x z a
  parts_transfers still first t told =
      added_from (IsSettleWrite (view x.records).record_count (redo_of t)) (is_some x.kept) (view x.records).record_count command (volume_of t) (settled t) _ _ _ a
      (first_by (IsSettleWrite (view x.records).record_count (redo_of t)) (is_some x.kept) (view x.records).transferred (view y.records).transferred
      (λ on. ap (λ (r : R). (view r).transferred) (still on)) (first t told))
      (subst (λ (v : Option Volume). AddsAsAnswered (λ k. ⊥) true (view x.records).record_count command v (settled t) (view y.records).transferred (view z.records).transferred a) (settled_same t told) (carried_on t told).added)

module _ {R S : Type 0} (view : R → RecordsView S) (x y z : VolumeView R) (header : HeaderParts) (command : VolumeCommand) (settled_first : (why : Refusal) (t : Tape) → refused_tape command why t ≡ settled t) (a : Result (Unit {0}) VolumeFault)
    (mounted : Consults {T = HeaderParts} (mounting (view x.records).record_count x.kept y.kept) (λ t. mounting_on t x.kept) view x y (Ok header)) (kept : y.kept ≡ Some header)
    (carries : GoesOn (carrying (view y.records).record_count command y.kept a) (view y.records) (view z.records) (store_answer a))
    (rests : carrying (view y.records).record_count command y.kept a ≡ 0 → z.records ≡ y.records)
    (rests_on : (t : Tape) → (view y.records).tape ≡ Some t → files_when (view y.records).record_count command (volume_of t) ≡ []
    → changes_filed (view y.records).record_count command (volume_of t) t ≡ [] → z.records ≡ y.records)
    (held : (t : Tape) → (view y.records).tape ≡ Some t → is_gate_held t ≡ true → z.records ≡ y.records)
    (carried : (t : Tape) → (view y.records).tape ≡ Some t → CarriesOutOn (view y.records).record_count command (view y.records) (view z.records) t a) where
  size : (view y.records).record_count ≡ (view x.records).record_count
  size = mounted.goes_on.continues.size

  carries_on : GoesOn (carrying (view x.records).record_count command (Some header) a) (view y.records) (view z.records) (store_answer a)
  carries_on = subst (λ (n : ℕ). GoesOn (carrying n command (Some header) a) (view y.records) (view z.records) (store_answer a)) size
      (subst (λ (k : Option HeaderParts). GoesOn (carrying (view y.records).record_count command k a) (view y.records) (view z.records) (store_answer a)) kept carries)

  module _ (t : Tape) (told : (view x.records).tape ≡ Some t) where
    same : volume_of (settled t) ≡ volume_of t
    same = settled_same view x y z command a size mounted.settles carried t told

    on : CarriesOutOn (view x.records).record_count command (view y.records) (view z.records) (settled t) a
    on = carried_on view x y z command a size mounted.settles carried t told

  -- with what is kept then
  pub altered_as : mounting (view x.records).record_count x.kept (Some header) + carrying (view x.records).record_count command (Some header) a ≤ changing (view x.records).record_count command x.kept z.kept a
      → is_some z.kept ≡ keeps_behind_command command (is_some x.kept) a
      → (names : List Refusal) → refusals_of command ≡ refusal.NotLif ∷ names → IfErr a (IsOneOf names) → OnlySettles view x y → KeepsVolume view x y
      → ((t : Tape) → (view x.records).tape ≡ Some t → GoesOnBy (IsSettleWrite (view x.records).record_count (redo_of t)) (view x.records).transferred (view y.records).transferred)
      → Alters command view x z a
  altered_as bound after names list only settling stays first =
      let n = (view x.records).record_count in
      record {
        goes_on = goes_within (mounting n x.kept (Some header) + carrying n command (Some header) a) (changing n command x.kept z.kept a) (view x.records) (view z.records) (store_answer a) bound
            (goes_further (mounting n x.kept (Some header)) (carrying n command (Some header) a) (view x.records) (view y.records) (view z.records) tt (store_answer a)
            (subst (λ (o : Option HeaderParts). GoesOn {T = Unit {0}} (mounting n x.kept o) (view x.records) (view y.records) (Ok tt)) kept mounted.goes_on) carries_on);
        few = λ t told.
            omega (arith, mounted.few t told, (on t told).few, ap (λ (v : Option Volume). carrying_on n command (settled t) (changes_filed n command v (settled t)) a) (same t told));
        most = λ t told. omega (arith, mounted.few t told, carries_on.continues.left, carrying_beside n command header a);
        idle = λ none.
            let carried_none : carrying n command (Some header) a ≡ 0 = omega (arith, bound, none) in
            let mounted_none : mounting n x.kept (Some header) ≡ 0 = omega (arith, bound, none) in
            rests ((λ i. carrying (size i) command (kept i) a) ∙ carried_none) ∙ mounted.idle (ap (mounting n x.kept) kept ∙ mounted_none);
        idle_on = λ t told none files changes.
            rests_on (settled t) (mounted.settles t told) ((λ i. files_when (size i) command (same t told i)) ∙ files)
            ((λ i. changes_filed (size i) command (same t told i) (settled t)) ∙ changes)
            ∙ mounted.idle (nothing_mounted n x.kept y.kept (mounted_as_kept t x.kept none));
        kept = after;
        only = subst (λ (all : List Refusal). IfErr a (IsOneOf all)) (sym list) (among_more refusal.NotLif names a only);
        answers = parts_answers view x y z command a size mounted.settles carried;
        written = λ t u told now. written_from n command t u a (λ why is. settled_first why t) (same t told) ((on t told).written u now);
        stops = parts_stops view x y z command a size mounted.settles carried stays;
        foreign = settles_foreign view x y z settling (λ t told. held (settled t) (mounted.settles t told));
        transfers = parts_transfers view x y z command a size mounted.settles carried (λ on. mounted.idle (nothing_mounted (view x.records).record_count x.kept y.kept on)) first;
      }

module _ {R S : Type 0} (view : R → RecordsView S) (x y z : VolumeView R) (header : HeaderParts) (command : VolumeCommand) (mounts : Mounts command) (a : Result (Unit {0}) VolumeFault)
    (mounted : Consults {T = HeaderParts} (mounting (view x.records).record_count x.kept y.kept) (λ t. mounting_on t x.kept) view x y (Ok header)) (kept : y.kept ≡ Some header)
    (long : header.length + 5 ≤ (view x.records).record_count) (carried : CarriesOut command view y z a) where
  is_kept : (b : Bool) → keeps a ≡ b → is_some z.kept ≡ keeps a
  is_kept true e = ap is_some (carried.kept ∙ ap (λ (b : Bool). if b then y.kept else None) e ∙ kept) ∙ sym e
  is_kept false e = ap is_some (carried.kept ∙ ap (λ (b : Bool). if b then y.kept else None) e) ∙ sym e

  pub altered : (names : List Refusal) → refusals_of command ≡ refusal.NotLif ∷ names → IfErr a (IsOneOf names) → OnlySettles view x y → KeepsVolume view x y
      → ((t : Tape) → (view x.records).tape ≡ Some t → GoesOnBy (IsSettleWrite (view x.records).record_count (redo_of t)) (view x.records).transferred (view y.records).transferred)
      → Alters command view x z a
  altered = altered_as view x y z header command (λ why t. refused_is command why t mounts) a mounted kept carried.goes_on carried.idle carried.idle_on carried.held carried.on_tape
      (changing_bound (view x.records).record_count header long a command x.kept z.kept mounts (carried.kept ∙ ap (λ (o : Option HeaderParts). if keeps a then o else None) kept))
      (is_kept (keeps a) refl ∙ sym (keeps_is command (is_some x.kept) a mounts))

-- ---- where mounting is refused, or the store fails in it

module _ {R S : Type 0} (view : R → RecordsView S) (x y : VolumeView R) (command : VolumeCommand) (settled_first : (why : Refusal) (t : Tape) → refused_tape command why t ≡ settled t)
    (lacks : refusal_of (view x.records).record_count command None ≡ Some refusal.NotLif)
    (more : (a : Result (Unit {0}) VolumeFault) → mounting (view x.records).record_count x.kept y.kept ≤ changing (view x.records).record_count command x.kept y.kept a) (fault : VolumeFault)
    (mounted : Consults {T = HeaderParts} (mounting (view x.records).record_count x.kept y.kept) (λ t. mounting_on t x.kept) view x y (Err fault))
    (only : IsNotLif fault) (exactly : (t : Tape) → (view x.records).tape ≡ Some t → IsLegalAs {T = HeaderParts} (settled t) (Err fault)) where
  fault_goes_on : (f : VolumeFault) → GoesOn (mounting (view x.records).record_count x.kept y.kept) (view x.records) (view y.records) (store_answer {T = HeaderParts} (Err f))
      → GoesOn (changing {T = Unit {0}} (view x.records).record_count command x.kept y.kept (Err f)) (view x.records) (view y.records) (store_answer {T = Unit {0}} (Err f))
  fault_goes_on (Refused why) is = goes_within _ _ _ _ _ (more (Err (Refused why))) is
  fault_goes_on (Troubled trouble) is = goes_within _ _ _ _ _ (more (Err (Troubled trouble))) is

  fault_kept : (f : VolumeFault) → is_some y.kept ≡ keeps {T = HeaderParts} (Err f) → is_some y.kept ≡ keeps {T = Unit {0}} (Err f)
  fault_kept (Refused why) is = is
  fault_kept (Troubled trouble) is = is

  fault_answers : AnswersTo {T = Unit {0}} command view x y (Err fault)
  fault_answers t u told now = by fault only (exactly t told) (mounted.settles t told)
    where
      by : (f : VolumeFault) → IsNotLif f → IsLegalAs {T = HeaderParts} (settled t) (Err f) → IsSettledAs t (view y.records).tape (store_answer {T = HeaderParts} (Err f)) → Answers {T = Unit {0}} (view x.records).record_count command t u (Err f)
      by (Refused why) names off settles = answers_fault (view x.records).record_count t u _ command (Refused why) lacks now names off settles
      by (Troubled trouble) names off settles = tt

  fault_written : Writes {T = Unit {0}} command view x y (Err fault)
  fault_written t u told now = by fault (mounted.settles t told)
    where
      by : (f : VolumeFault) → IsSettledAs t (view y.records).tape (store_answer {T = HeaderParts} (Err f)) → IsWrittenAs {T = Unit {0}} (view x.records).record_count command t u (Err f)
      by (Refused why) settles = behind t u _ now settles ∙ sym (settled_first why t)
      by (Troubled trouble) settles = tt

  fault_stops : KeepsVolume view x y → TurnsVolume command view x y
  fault_stops stays t told own =
      let first = stays t told own in
      record {
        stops = weaker _ _ _ _ (HasEitherVolume (view x.records).record_count command t) (HasVolumeOf t) first.stops (λ c is. record { records = is.records; volume = inl is.volume; own_gate = is.own_gate });
        after = (first.after.0, first.after.1, record { records = first.after.2.records; volume = inl first.after.2.volume; own_gate = first.after.2.own_gate });
      }

  fault_transfers : ((t : Tape) → (view x.records).tape ≡ Some t → AddsOnly (IsSettleWrite (view x.records).record_count (redo_of t)) (view x.records).transferred (view y.records).transferred (store_answer {T = HeaderParts} (Err fault)))
      → WritesByCommit {T = Unit {0}} command view x y (Err fault)
  fault_transfers first t told = by fault (first t told)
    where
      by : (f : VolumeFault) → AddsOnly (IsSettleWrite (view x.records).record_count (redo_of t)) (view x.records).transferred (view y.records).transferred (store_answer {T = HeaderParts} (Err f))
          → AddsAsAnswered {T = Unit {0}} (IsSettleWrite (view x.records).record_count (redo_of t)) (is_some x.kept) (view x.records).record_count command (volume_of t) (settled t) (view x.records).transferred (view y.records).transferred (Err f)
      by (Refused why) adds = adds
      by (Troubled trouble) adds = tt

  pub not_altered_as : keeps_behind_command {T = Unit {0}} command (is_some x.kept) (Err fault) ≡ keeps {T = Unit {0}} (Err fault) → (names : List Refusal) → refusals_of command ≡ refusal.NotLif ∷ names → OnlySettles view x y → KeepsVolume view x y
      → ((t : Tape) → (view x.records).tape ≡ Some t → AddsOnly (IsSettleWrite (view x.records).record_count (redo_of t)) (view x.records).transferred (view y.records).transferred (store_answer {T = HeaderParts} (Err fault)))
      → Alters {T = Unit {0}} command view x y (Err fault)
  not_altered_as after names list settling stays first = record {
    goes_on = fault_goes_on fault mounted.goes_on;
    few = λ t told. omega (arith, mounted.few t told);
    most = λ t told. omega (arith, mounted.few t told);
    idle = λ none. mounted.idle (omega (arith, more (Err fault), none));
    idle_on = λ t told none files changes. mounted.idle (nothing_mounted (view x.records).record_count x.kept y.kept (mounted_as_kept t x.kept none));
    kept = fault_kept fault mounted.kept ∙ sym after;
    only = subst (λ (all : List Refusal). IsOneOf all fault) (sym list) (not_lif_only names fault only);
    answers = fault_answers;
    written = fault_written;
    stops = fault_stops stays;
    foreign = λ t told on. settling t told;
    transfers = fault_transfers first;
  }

module _ {R S : Type 0} (view : R → RecordsView S) (x y : VolumeView R) (command : VolumeCommand) (mounts : Mounts command) (fault : VolumeFault)
    (mounted : Consults {T = HeaderParts} (mounting (view x.records).record_count x.kept y.kept) (λ t. mounting_on t x.kept) view x y (Err fault))
    (only : IsNotLif fault) (exactly : (t : Tape) → (view x.records).tape ≡ Some t → IsLegalAs {T = HeaderParts} (settled t) (Err fault)) where
  pub not_altered : (names : List Refusal) → refusals_of command ≡ refusal.NotLif ∷ names → OnlySettles view x y → KeepsVolume view x y
      → ((t : Tape) → (view x.records).tape ≡ Some t → AddsOnly (IsSettleWrite (view x.records).record_count (redo_of t)) (view x.records).transferred (view y.records).transferred (store_answer {T = HeaderParts} (Err fault)))
      → Alters {T = Unit {0}} command view x y (Err fault)
  not_altered = not_altered_as view x y command (λ why t. refused_is command why t mounts) (not_lif (view x.records).record_count command mounts)
      (λ a. carrying_any {T = Unit {0}} (view x.records).record_count command x.kept y.kept a mounts) fault mounted only exactly (keeps_is {T = Unit {0}} command (is_some x.kept) (Err fault) mounts)

-- ---- a batch

module _ {R S : Type 0} (view : R → RecordsView S) (x y : VolumeView R) (parts : List Part) where
  abbrev all_names : List Refusal
  all_names = batch_refusals

  -- mounting is refused, or the store fails in it
  pub batch_not_altered : (fault : VolumeFault) → Consults {T = HeaderParts} (mounting (view x.records).record_count x.kept y.kept) (λ t. mounting_on t x.kept) view x y (Err fault) → IsNotLif fault
      → ((t : Tape) → (view x.records).tape ≡ Some t → IsLegalAs {T = HeaderParts} (settled t) (Err fault)) → OnlySettles view x y → KeepsVolume view x y
      → ((t : Tape) → (view x.records).tape ≡ Some t → AddsOnly (IsSettleWrite (view x.records).record_count (redo_of t)) (view x.records).transferred (view y.records).transferred (store_answer {T = HeaderParts} (Err fault)))
      → Alters {T = Unit {0}} (Batch parts) view x y (Err fault)
  batch_not_altered fault mounted only exactly settling stays first =
      not_altered_as view x y (Batch parts) (λ why t. refl) refl (λ a. batching_any (view x.records).record_count parts x.kept y.kept a) fault mounted only exactly (by fault only) all_names refl settling stays first
    where
      by : (f : VolumeFault) → IsNotLif f → keeps_behind_command {T = Unit {0}} (Batch parts) (is_some x.kept) (Err f) ≡ keeps {T = Unit {0}} (Err f)
      by (Refused why) is = sym (ap keeps_behind is)
      by (Troubled trouble) is = refl

  module _ (z : VolumeView R) (header : HeaderParts)
      (mounted : Consults {T = HeaderParts} (mounting (view x.records).record_count x.kept y.kept) (λ t. mounting_on t x.kept) view x y (Ok header)) (kept : y.kept ≡ Some header)
      (long : header.length + 5 ≤ (view x.records).record_count) (settling : OnlySettles view x y) (stays : KeepsVolume view x y)
      (first : (t : Tape) → (view x.records).tape ≡ Some t → GoesOnBy (IsSettleWrite (view x.records).record_count (redo_of t)) (view x.records).transferred (view y.records).transferred) where
    -- it is refused, and the directory is read anew by the next command
    pub batch_refused : (why : Refusal) → GoesOn {T = Unit {0}} 0 (view y.records) (view z.records) (Ok tt) → z.records ≡ y.records
        → ((t : Tape) → (view y.records).tape ≡ Some t → CarriesOutOn {T = Unit {0}} (view y.records).record_count (Batch parts) (view y.records) (view z.records) t (Err (Refused why)))
        → z.kept ≡ None → IsAmong all_names why → Alters {T = Unit {0}} (Batch parts) view x z (Err (Refused why))
    batch_refused why goes same carried none among =
        altered_as view x y z header (Batch parts) (λ w t. refl) (Err (Refused why)) mounted kept goes (λ idle. same) (λ t told files changes. same) (λ t told on. same) carried
        (subst (λ (o : Option HeaderParts). mounting n x.kept (Some header) + 0 ≤ batching_all {T = Unit {0}} n x.kept o parts (Err (Refused why))) (sym none) (fewer x.kept))
        (ap is_some none) all_names refl among settling stays first
      where
        n : ℕ
        n = (view x.records).record_count

        fewer : (o : Option HeaderParts) → mounting n o (Some header) + 0 ≤ batching_all {T = Unit {0}} n o None parts (Err (Refused why))
        fewer None = omega (arith, long)
        fewer (Some h) = omega arith

    -- it is carried out, or the store fails
    pub batch_altered : (a : Result (Unit {0}) VolumeFault) → CarriesOut (Batch parts) view y z a → IfErr a (IsOneOf []) → Alters (Batch parts) view x z a
    batch_altered a carried only =
        altered_as view x y z header (Batch parts) (λ w t. refl) a mounted kept carried.goes_on carried.idle carried.idle_on carried.held carried.on_tape
        (batching_bound n header long a x.kept z.kept parts (carried.kept ∙ ap (λ (o : Option HeaderParts). if keeps a then o else None) kept))
        (after a carried.kept only) all_names refl (none_refused a only) settling stays first
      where
        n : ℕ
        n = (view x.records).record_count

        after : (b : Result (Unit {0}) VolumeFault) → z.kept ≡ (if keeps b then y.kept else None) → IfErr b (IsOneOf []) → is_some z.kept ≡ keeps_behind_command (Batch parts) (is_some x.kept) b
        after (Ok w) is none = ap is_some (is ∙ kept)
        after (Err (Refused why)) is none = absurd none
        after (Err (Troubled trouble)) is none = ap is_some is

        none_refused : (b : Result (Unit {0}) VolumeFault) → IfErr b (IsOneOf []) → IfErr b (IsOneOf all_names)
        none_refused (Ok w) none = tt
        none_refused (Err (Refused why)) none = absurd none
        none_refused (Err (Troubled trouble)) none = tt

-- ---- after mounting

pub few_mounted : (n : ℕ) (old : Option HeaderParts) (new : HeaderParts) → mounting n old (Some new) ≤ 71 + new.length
few_mounted n None new = omega arith
few_mounted n (Some old) new = omega arith

module _ {R S : Type 0} (view : R → RecordsView S) (x y : VolumeView R) (header : HeaderParts) (kept : y.kept ≡ Some header)
    (mounted : Consults {T = HeaderParts} (mounting (view x.records).record_count x.kept y.kept) (λ t. mounting_on t x.kept) view x y (Ok header)) (opened : IsOpen view y) where
  pub legal_there : IsLegalDirectory (view y.records).record_count header (map slot_bytes y.slots)
  legal_there = legal_of view y header (view y.records).record_count opened kept refl

  pub long_there : header.length + 5 ≤ (view x.records).record_count
  long_there =
      let is = legal_tells (view y.records).record_count legal_there.bytes (map slot_bytes y.slots) legal_there.legal in
      let readable = readable_tells (view y.records).record_count legal_there.bytes is.readable in
      omega (arith, readable.0, readable.2, mounted.goes_on.continues.size, ap (λ (h : HeaderParts). h.length) legal_there.told, opened.size)

  pub ready_there : 37 < (view x.records).record_count → 2 * (view x.records).record_count + 40 ≤ (view x.records).calls_left → IsReady (carry_room (view y.records).record_count header) (view y.records)
  ready_there size left =
      let goes = subst (λ (o : Option HeaderParts). GoesOn {T = Unit {0}} (mounting (view x.records).record_count x.kept o) (view x.records) (view y.records) (Ok tt)) kept mounted.goes_on in
      record { valid = goes.continues.valid; sound = goes.continues.sound; left = omega (arith, left, size, goes.continues.left, few_mounted (view x.records).record_count x.kept header, long_there, goes.continues.size) }

  -- for a batch
  pub batch_ready_there : batch_calls_needed (view x.records).record_count ≤ (view x.records).calls_left → IsReady (batch_room (view y.records).record_count header) (view y.records)
  batch_ready_there left =
      let n = (view x.records).record_count in
      let goes = subst (λ (o : Option HeaderParts). GoesOn {T = Unit {0}} (mounting n x.kept o) (view x.records) (view y.records) (Ok tt)) kept mounted.goes_on in
      record { valid = goes.continues.valid; sound = goes.continues.sound; left = omega (arith, left, le-max_right (2 * n + 40) (n + 138), goes.continues.left, few_mounted n x.kept header, long_there, goes.continues.size) }

-- `fetch` may ask for more than mounting does
pub fetch_bound : {T : Type 0} (n : ℕ) (name : List ℕ) (old : Option HeaderParts) (header : HeaderParts) (slots : List (List ℕ)) (a : Result T VolumeFault) → header.length + 5 ≤ n
    → mounting n old (Some header) ≤ fetching n name old slots a
fetch_bound n name None header slots a long = omega (arith, long)
fetch_bound n name (Some h) header slots a long = omega arith
