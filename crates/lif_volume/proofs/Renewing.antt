-- `format`: any tape becomes an empty volume.
use Rattle.std.proofs.Common.{◌≡◌, ◌<◌, ◌≤◌, ◌+◌, ◌-◌, ◌*◌, ◌/◌, ◌&&◌, ℕ, List, [], ◌∷◌, Bool, true, false, if◌then◌else◌, length, length-set, get_or-set_same, set, map, inl, inr, ⊎_elim, refl, sym, ap, subst, ◌∙◌, arith}
use Rattle.std.specs.Prelude.{Option, Some, None, Result, Ok, Err, IfErr, IfSome, is_some, filter, not}
use Rattle.std.proofs.lemmas.List.{append-nil}
use Rattle.lif_model.specs.Tape.{Tape, IsTape, record_at}
use Rattle.lif_model.specs.Gate.{is_open, has_open_gate}
use Rattle.lif_model.specs.Header.{HeaderParts, header_of, is_readable, directory_end}
use Rattle.lif_model.specs.Made.{fresh_header, first_directory_record, records_for_slots}
use Rattle.lif_model.specs.declared.version.Version.TheVariants.{One}
use Rattle.lif_model.specs.Redo.{Changes, redo_of, settled, IsSettled}
use Rattle.lif_model.specs.Commit.{IsSettleWrite, IsOldOrNew, IsCommitted, commit_writes}
use Rattle.lif_model.specs.Pairs.{all_pairs}
use Rattle.std.specs.List.{list_all}
use Rattle.lif_model.specs.Legal.{is_legal, is_live, occupies, lies_between, are_apart, have_other_names}
use Rattle.std.proofs.lemmas.Bool.{and_parts}
use Rattle.lif_model.specs.Volume.{Volume, IsVolume, redo_entry, volume_if, volume_in, volume_of, is_gate_held}
use Rattle.lif_model.specs.Apply.{VolumeCommand, Format, is_too_long, lacks_redo, runs_past_gate, refusal_of, fresh_volume, next_unless, apply}
use Rattle.lif_model.specs.declared.refusal.Refusal.{Refusal}
use Rattle.lif_model.specs.Writing.{format_changes}
use Rattle.lif_model.proofs.Moments.{weaker}
use Rattle.lif_model.proofs.Redo.{zeros_are_shut, gate_at, settled_twice}
use Rattle.lif_model.proofs.Made.{fresh_start}
use Rattle.lif_model.proofs.Legal.{legal_from}
use Rattle.lif_model.proofs.Apply.{refused_stays, format_is_adopted}
use Rattle.lif_model.proofs.Directory.{volume_tells, volume_from}
use Rattle.lif_model.proofs.Outcomes.{committed_settled}
use Rattle.lif_model.proofs.Commands.{format_stops, format_commits}
use Rattle.il_ports.specs.declared.records.Trouble.{Trouble}
use Rattle.il_ports.specs.Stores.{RecordsView, IsStore, IsReady, GoesOn, RunLeaves}
use Rattle.il_ports.specs.Transfers.{GoesOnBy, AddsOnly}
use Rattle.il_ports.proofs.Stores.{goes_nowhere, goes_within, goes_further, quiet_run, quiet_nowhere}
use Rattle.lif_redo.specs.Atomic.{commit_calls}
use Rattle.lif_commit.specs.Staged.{EndsWith, most_commit_calls}
use Rattle.lif_redo.specs.Writing.{AddsWrites}
use Rattle.lif_redo.proofs.Told.{was_told}
use Rattle.lif_dir.specs.Entries.{slot_from, slot_bytes}
use Rattle.lif_model.specs.declared.refusal.Refusal.TheVariants as refusal
use Rattle.lif_plan.specs.Directories.{IsLegalDirectory}
use Rattle.lif_plan.specs.Refusals.{keeps_behind}
use Rattle.lif_volume.specs.declared.fault.VolumeFault.{VolumeFault}
use Rattle.lif_volume.specs.declared.fault.VolumeFault.TheVariants.{Refused, Trouble as Troubled}
use Rattle.lif_volume.specs.Views.{VolumeView, IsOpen, IsDirectoryOf}
use Rattle.lif_volume.specs.Answers.{store_answer, keeps, IsNotLif, IsLegalAs, IsSettledAs, HasVolumeOf}
use Rattle.lif_volume.specs.Commands.{Consults, mounting, mounting_on, AnswersTo, KeepsVolume, OnlySettles}
use Rattle.lif_volume.specs.Changing.{refused_tape, IsWrittenAs, keeps_behind_command, committing, committing_on, carrying_on, HasEitherVolume, VolumeTurns, writes_if_any, AddsAsAnswered, TurnsVolume}
use Rattle.lif_model.specs.Changing.{changes_when, changes_filed, IsChanged}
use Rattle.lif_volume.specs.Formatting.{Clears, Renews}
use Rattle.lif_volume.specs.Did.{IsOneOf, refusals_of, Alters}
use Rattle.lif_volume.proofs.Mounting.{settles_here, behind, volume_on, kept_is_of, nothing_mounted, mounted_as_kept}
use Rattle.lif_volume.proofs.Making.{old_or_new_length}
use Rattle.lif_volume.proofs.Gated.{rests_held, settles_foreign}
use Rattle.lif_volume.proofs.Joining.{long_there, legal_there, carried_on, settled_same, written_from, parts_answers, parts_stops, parts_transfers}

-- ---- what is tested

in_use_is : (n : ℕ) (v : Volume) (label : List ℕ) (slots : ℕ) (b : Bool) → is_too_long n slots ≡ false → (lacks_redo n v && runs_past_gate n v) ≡ b
    → refusal_of n (Format label slots) (Some v) ≡ (if b then Some refusal.InUse else None)
in_use_is n v label slots b fits is = λ i. if fits i then Some refusal.NoRoom else if is i then Some refusal.InUse else None

-- by the test that the code makes
pub room_is : (n size slots : ℕ) (b : Bool) → size ≡ n → b ≡ not (is_too_long size slots) → b ≡ true → is_too_long n slots ≡ false
room_is n size slots b same is on = ap (λ (k : ℕ). is_too_long k slots) (sym same) ∙ go (is_too_long size slots) (sym on ∙ is)
  where
    go : (x : Bool) → true ≡ not x → x ≡ false
    go true e = cc
    go false e = refl

-- ---- after mounting

-- more than mounting may ask for
mounting_any : (n : ℕ) (old : Option HeaderParts) (header : HeaderParts) → header.length + 5 ≤ n → mounting n old (Some header) ≤ mounting n old None
mounting_any n None header long = omega (arith, long)
mounting_any n (Some h) header long = omega arith

module _ {R S : Type 0} (view : R → RecordsView S) (x y : VolumeView R) (header : HeaderParts) (opened : IsOpen view y) (kept : y.kept ≡ Some header)
    (mounted : Consults {T = HeaderParts} (mounting (view x.records).record_count x.kept y.kept) (λ t. mounting_on t x.kept) view x y (Ok header)) where
  goes : GoesOn {T = Unit {0}} (mounting (view x.records).record_count x.kept None) (view x.records) (view y.records) (Ok tt)
  goes = goes_within (mounting (view x.records).record_count x.kept y.kept) (mounting (view x.records).record_count x.kept None) _ _ _
      (subst (λ (k : Option HeaderParts). mounting (view x.records).record_count x.kept k ≤ mounting (view x.records).record_count x.kept None) (sym kept)
      (mounting_any (view x.records).record_count x.kept header (long_there view x y header kept mounted opened))) mounted.goes_on

  is_kept : is_some y.kept ≡ true
  is_kept = ap is_some kept

  still : mounting (view x.records).record_count x.kept None ≡ 0 → y.records ≡ x.records
  still none = mounted.idle (omega (arith, none, ap (mounting (view x.records).record_count x.kept) kept, mounting_any (view x.records).record_count x.kept header (long_there view x y header kept mounted opened)))

  -- live names are distinct
  pub names_there : all_pairs have_other_names (filter is_live (map slot_bytes y.slots)) ≡ true
  names_there =
      let legal = legal_there view x y header kept mounted opened in
      let slots : List (List ℕ) = map slot_bytes y.slots in
      let names : Bool = all_pairs have_other_names (filter is_live slots) in
      let apart : Bool = all_pairs are_apart (filter occupies slots) in
      let between : Bool = list_all (lies_between (directory_end legal.bytes) (view y.records).record_count) (filter occupies slots) in
      (and_parts apart names (and_parts between (apart && names) (and_parts (is_readable (view y.records).record_count legal.bytes) (between && (apart && names)) legal.legal).1).1).1

  -- the tape has a volume, whose slots are kept
  module _ (size : ℕ) (is : size ≡ (view y.records).record_count) (b : Bool)
      (tested : (v : Volume) → v.slots ≡ map slot_bytes y.slots → b ≡ (lacks_redo size v && runs_past_gate size v)) (t : Tape) (told : (view x.records).tape ≡ Some t) (label : List ℕ) (slots : ℕ)
      (fits : is_too_long (view x.records).record_count slots ≡ false) where
    answer_is : refusal_of (view x.records).record_count (Format label slots) (volume_in (settled t)) ≡ (if b then Some refusal.InUse else None)
    answer_is =
        let on : IsDirectoryOf (settled t) header y.slots = kept_is_of y header (settled t) kept (opened.known (settled t) (mounted.settles t told)) in
        let same : size ≡ (view x.records).record_count = is ∙ mounted.goes_on.continues.size in
        ap (refusal_of (view x.records).record_count (Format label slots)) (volume_from (settled t) on.directory.legal)
        ∙ in_use_is (view x.records).record_count (volume_on (settled t)) label slots b fits
        (sym (tested (volume_on (settled t)) (sym on.directory.bytes) ∙ ap (λ (k : ℕ). lacks_redo k (volume_on (settled t)) && runs_past_gate k (volume_on (settled t))) same))

  pub clears_used : (size : ℕ) → size ≡ (view y.records).record_count → ((v : Volume) → v.slots ≡ map slot_bytes y.slots → true ≡ (lacks_redo size v && runs_past_gate size v))
      → Clears {T = Unit {0}} view x y (Err (Refused refusal.InUse))
  clears_used size is tested = record {
    goes_on = goes;
    few = mounted.few;
    idle = still;
    settles = mounted.settles;
    kept = is_kept;
    free = λ t told label slots fits. answer_is size is true tested t told label slots fits;
  }

  pub clears_free : (size : ℕ) → size ≡ (view y.records).record_count → ((v : Volume) → v.slots ≡ map slot_bytes y.slots → false ≡ (lacks_redo size v && runs_past_gate size v))
      → Clears {T = Unit {0}} view x y (Ok tt)
  clears_free size is tested = record {
    goes_on = goes;
    few = mounted.few;
    idle = still;
    settles = mounted.settles;
    kept = tt;
    free = λ t told label slots fits. answer_is size is false tested t told label slots fits;
  }

-- the tape has no volume
module _ {R S : Type 0} (view : R → RecordsView S) (x y : VolumeView R) where
  no_volume : (why : Refusal) → Consults {T = HeaderParts} (mounting (view x.records).record_count x.kept y.kept) (λ t. mounting_on t x.kept) view x y (Err (Refused why))
      → why ≡ refusal.NotLif → ((t : Tape) → (view x.records).tape ≡ Some t → is_legal (settled t) ≡ false) → Clears {T = Unit {0}} view x y (Ok tt)
  no_volume why mounted names off = record {
    goes_on = subst (λ (k : Option HeaderParts). GoesOn {T = Unit {0}} (mounting (view x.records).record_count x.kept k) (view x.records) (view y.records) (Ok tt)) (none y.kept forgotten) mounted.goes_on;
    few = mounted.few;
    idle = λ idle. mounted.idle (ap (mounting (view x.records).record_count x.kept) (none y.kept forgotten) ∙ idle);
    settles = mounted.settles;
    kept = tt;
    free = λ t told label slots fits.
        ap (refusal_of (view x.records).record_count (Format label slots)) (ap (λ (b : Bool). volume_if b (settled t)) (off t told))
        ∙ ap (λ (b : Bool). if b then Some refusal.NoRoom else None) fits;
  }
    where
      forgotten : is_some y.kept ≡ false
      forgotten = mounted.kept ∙ ap keeps_behind names

      none : (o : Option HeaderParts) → is_some o ≡ false → o ≡ None
      none None e = refl
      none (Some h) e = cc

  pub clears_none : (fault : VolumeFault) (why : Refusal) → fault ≡ Refused why
      → Consults {T = HeaderParts} (mounting (view x.records).record_count x.kept y.kept) (λ t. mounting_on t x.kept) view x y (Err fault)
      → IsNotLif fault → ((t : Tape) → (view x.records).tape ≡ Some t → IsLegalAs {T = HeaderParts} (settled t) (Err fault)) → Clears {T = Unit {0}} view x y (Ok tt)
  clears_none fault why is mounted only exactly =
      no_volume why
      (subst (λ (f : VolumeFault). Consults {T = HeaderParts} (mounting (view x.records).record_count x.kept y.kept) (λ t. mounting_on t x.kept) view x y (Err f)) is mounted)
      (subst (λ (f : VolumeFault). IsNotLif f) is only) (λ t told. subst (λ (f : VolumeFault). IsLegalAs {T = HeaderParts} (settled t) (Err f)) is (exactly t told))

-- ---- from a settled tape that may be formatted

same_tape : (t u : Tape) (tape : Option Tape) → tape ≡ Some t → tape ≡ Some u → u ≡ t
same_tape t u tape first second = let both : Some t ≡ Some u = sym first ∙ second in cc

module _ {R S : Type 0} (view : R → RecordsView S) (x : VolumeView R) (label : List ℕ) (slots : ℕ) (opened : IsOpen view x) (store : IsStore (view x.records)) (six : length label ≡ 6) (some : 0 < slots)
    (fits : is_too_long (view x.records).record_count slots ≡ false) (settled_here : (t : Tape) → (view x.records).tape ≡ Some t → IsSettled t)
    (free : (t : Tape) → (view x.records).tape ≡ Some t → refusal_of (view x.records).record_count (Format label slots) (volume_in t) ≡ None) where
  abbrev n : ℕ
  n = (view x.records).record_count

  abbrev command : VolumeCommand
  command = Format label slots

  abbrev changes : Changes
  changes = format_changes (view x.records).record_count label slots

  abbrev made : Volume
  made = fresh_volume (view x.records).record_count label slots

  module _ (t : Tape) (told : (view x.records).tape ≡ Some t) where
    tape : IsTape (view x.records).record_count t
    tape = store.is_tape t told

    volume_is : volume_of t ≡ volume_in t
    volume_is = ap volume_in (settled_here t told)

    refusal_is : refusal_of n command (volume_of t) ≡ None
    refusal_is = ap (refusal_of n command) volume_is ∙ free t told

    applied : apply n command (volume_of t) ≡ (None, Some made)
    applied = λ i. (refusal_is i, next_unless n command (volume_of t) (refusal_is i))

    -- no file that is not ours holds the gate record
    not_held : is_gate_held t ≡ true → ⊥
    not_held on =
        let within : volume_in t ≡ Some (volume_on t) = volume_from t (and_parts (is_legal t) _ on).0 in
        let unrefused : refusal_of n command (Some (volume_on t)) ≡ None = ap (refusal_of n command) (sym within) ∙ free t told in
        ⊎_elim (λ refused. let no : Some refused.0 ≡ None = sym refused.1 ∙ unrefused in cc) (λ idle. let no : changes_filed n command (Some (volume_on t)) t ≡ [] = idle.1 in cc)
        (rests_held n t command tape.records on)

    changes_is : changes_when n command (volume_of t) t ≡ changes
    changes_is = of (volume_of t)
      where
        of : (v : Option Volume) → changes_when (view x.records).record_count (Format label slots) v t ≡ format_changes (view x.records).record_count label slots
        of None = refl
        of (Some v) = refl

    either : (c : Tape) → IsOldOrNew One changes t c → HasEitherVolume n command t c
    either c left =
        let both = format_stops n t label slots tape (six, some) (free t told) c left in
        record {
          records = old_or_new_length One changes t c left;
          volume = elim both.0 [
            | inl e ↦ inl (e ∙ sym volume_is)
            | inr e ↦ inr ((six, some), e ∙ sym (ap (λ (p : Option Refusal × Option Volume). p.1) applied))
          ];
          own_gate = both.1;
        }

    now_is : (u : Tape) → IsCommitted One changes t u → volume_of u ≡ Some made
    now_is u done = (format_commits n t label slots tape (six, some) (free t told) u done).0

  module _ (y : VolumeView R) (cs : Changes) (is : cs ≡ format_changes (view x.records).record_count label slots)
      (any_moment : (t : Tape) → (view x.records).tape ≡ Some t → RunLeaves (view x.records) (view y.records) (IsOldOrNew One cs t))
      (after : (t : Tape) → (view x.records).tape ≡ Some t → (u : Tape) × ((view y.records).tape ≡ Some u) × IsOldOrNew One cs t u)
      (gate : (t : Tape) → (view x.records).tape ≡ Some t → x.is_open ≡ has_open_gate t) where
    few : (b : Bool) → commit_calls b (length cs) ≤ most_commit_calls
    few true = omega (arith, ap length is)
    few false = omega (arith, ap length is)

    calls_are : (t : Tape) → (view x.records).tape ≡ Some t → commit_calls x.is_open (length cs) ≡ commit_calls (has_open_gate t) (length (format_changes (view x.records).record_count label slots))
    calls_are t told = λ i. commit_calls (gate t told i) (length (is i))

    turns : (t : Tape) → (view x.records).tape ≡ Some t → VolumeTurns n command (view x.records) (view y.records) t
    turns t told =
        let left = after t told in
        let each : (c : Tape) → IsOldOrNew One cs t c → HasEitherVolume n command t c = λ c old_or_new. either t told c (subst (λ (ds : Changes). IsOldOrNew One ds t c) is old_or_new) in
        record { stops = weaker _ _ _ _ _ _ (any_moment t told) each; after = (left.0, left.1, each left.0 left.2) }

    -- the store failed
    pub renewing_fails : (trouble : Trouble) → GoesOn {T = Unit {0}} (commit_calls x.is_open (length cs)) (view x.records) (view y.records) (Err trouble) → y.kept ≡ None
        → Renews {T = Unit {0}} command view x y (Err (Troubled trouble))
    renewing_fails trouble goes none =
        let within : GoesOn {T = Unit {0}} most_commit_calls (view x.records) (view y.records) (Err trouble) = goes_within (commit_calls x.is_open (length cs)) most_commit_calls _ _ _ (few x.is_open) goes in
        record {
          goes_on = within;
          kept = ap is_some none;
          held = λ t told on. absurd (not_held t told on);
          on_tape = λ t told. record {
            few = subst (λ (ds : Changes). (view x.records).calls_left ≤ (view y.records).calls_left + committing_on {T = Unit {0}} (Format label slots) t ds (Err (Troubled trouble))) (sym (changes_is t told)) (omega (arith, goes.continues.left, calls_are t told));
            written = λ u now. tt;
            answers = λ u now. tt;
            stops = turns t told;
            added = tt;
          };
        }

    module _ (goes : GoesOn {T = Unit {0}} (commit_calls x.is_open (length cs)) (view x.records) (view y.records) (Ok tt))
        (done : (t : Tape) → (view x.records).tape ≡ Some t → (u : Tape) × ((view y.records).tape ≡ Some u) × IsCommitted One cs t u)
        (header : HeaderParts) (kept : y.kept ≡ Some header) where
      within : GoesOn {T = Unit {0}} most_commit_calls (view x.records) (view y.records) (Ok tt)
      within = goes_within (commit_calls x.is_open (length cs)) most_commit_calls _ _ _ (few x.is_open) goes

      made_there : (t : Tape) (told : (view x.records).tape ≡ Some t) → (u : Tape) → (view y.records).tape ≡ Some u → IsCommitted One changes t u
      made_there t told u now =
          let left = done t told in
          subst (IsCommitted One changes t) (sym (same_tape left.0 u _ left.1 now)) (subst (λ (ds : Changes). IsCommitted One ds t left.0) is left.2)

      pub renewed : ((was_open : Bool) × ((t : Tape) → (view x.records).tape ≡ Some t → was_open ≡ has_open_gate t)
          × AddsWrites (commit_writes One (view x.records).record_count was_open cs) (view x.records).transferred (view y.records).transferred)
          → Renews {T = Unit {0}} command view x y (Ok tt)
      renewed writes = record {
        goes_on = within;
        kept = ap is_some kept;
        held = λ t told on. absurd (not_held t told on);
        on_tape = λ t told. record {
          few = subst (λ (ds : Changes). (view x.records).calls_left ≤ (view y.records).calls_left + committing_on {T = Unit {0}} (Format label slots) t ds (Ok tt)) (sym (changes_is t told)) (omega (arith, goes.continues.left, calls_are t told));
          written = λ u now. subst (λ (ds : Changes). IsChanged One ds t u) (sym (changes_is t told)) (made_there t told u now);
          answers = λ u now. applied t told ∙ ap (λ (v : Option Volume). (None, v)) (sym (now_is t told u (made_there t told u now)));
          stops = turns t told;
          added = record {
            goes_on = λ list was.
                let more = writes.2.goes_on list was in (
                  [],
                  more.0,
                  more.1,
                  tt,
                  λ on. refl,
                  record {
                    more = more.0;
                    are = refl;
                    writes = more.2 ∙ (λ i. commit_writes One n (writes.1 t told i) (is i)) ∙ sym (ap (writes_if_any One n (has_open_gate t)) (changes_is t told));
                    single = more.3;
                  },
                );
          };
        };
      }

      -- and the slots in memory are those of the tape
      module _ (header_is : header ≡ header_of (fresh_header (view x.records).record_count label (records_for_slots slots)))
          (slots_are : y.slots ≡ slot_from (redo_entry One (view x.records).record_count) ∷ []) (bytes_are : map slot_bytes y.slots ≡ redo_entry One (view x.records).record_count ∷ []) where
        whole : IsVolume n made
        whole = (format_is_adopted n label slots (six, some) fits).volume

        legal_now : IsLegalDirectory n header (map slot_bytes y.slots)
        legal_now = subst (IsLegalDirectory n header) (sym bytes_are) (record {
          bytes = made.header;
          told = header_is;
          legal = legal_from n made.header made.slots whole.legal;
          whole = whole.header;
          shape = record { few = omega (arith, whole.room, ap (λ (h : HeaderParts). h.length) header_is); entries = whole.entries; kinds = whole.kinds };
        })

        directory_now : (u : Tape) → (view y.records).tape ≡ Some u → IsDirectoryOf u header y.slots
        directory_now u now =
            let was = was_told _ _ goes.continues.told u now in
            let there = made_there was.0 was.1 u now in
            let settles : IsSettled u = committed_settled One changes was.0 u there in
            let told : volume_in u ≡ Some made = ap volume_in (sym settles) ∙ now_is was.0 was.1 u there in
            let tells = volume_tells u made told in
            record {
              settled = settles;
              directory = record {
                legal = tells.0;
                header = header_is ∙ ap header_of tells.1;
                slots = slots_are ∙ ap (map slot_from) tells.2;
                bytes = bytes_are ∙ tells.2;
              };
            }

        -- the gate reads closed
        shut_now : (u : Tape) → (view y.records).tape ≡ Some u → has_open_gate u ≡ false
        shut_now u now =
            let was = was_told _ _ goes.continues.told u now in
            let there = made_there was.0 was.1 u now in
            gate_at (length was.0) u there.records ∙ ap is_open there.gate ∙ zeros_are_shut

        -- and the directory's first record holds its end
        ends_now : y.last ≡ first_directory_record (redo_entry One (view x.records).record_count) → (u : Tape) → (view y.records).tape ≡ Some u
            → EndsWith header.start header.length (length y.slots) y.last u
        ends_now last u now short =
            let was = was_told _ _ goes.continues.told u now in
            let there = made_there was.0 was.1 u now in
            let first : List ℕ = fresh_header (view x.records).record_count label (records_for_slots slots) in
            let entry : List ℕ = first_directory_record (redo_entry One (view x.records).record_count) in
            let long : length was.0 ≡ n = (tape was.0 was.1).records in
            let at : header.start ≡ 2 = ap (λ (h : HeaderParts). h.start) header_is ∙ fresh_start n label (records_for_slots slots) six in
            let place : header.start + length y.slots / 8 ≡ 2 = omega (arith, at, ap length slots_are) in
            last ∙ sym (get_or-set_same (set was.0 0 first) 2 entry [] (omega (arith, length-set was.0 0 first, long, opened.size)))
            ∙ sym (there.below 2 (omega (arith, long, opened.size))) ∙ ap (record_at u) (sym place)

        pub renewed_open : y.room ≡ x.room → y.is_open ≡ false → y.last ≡ first_directory_record (redo_entry One (view x.records).record_count) → IsOpen view y
        renewed_open room shut last = record {
          valid = goes.continues.valid;
          size = omega (arith, opened.size, goes.continues.size);
          small = omega (arith, opened.small, goes.continues.size);
          room = room ∙ opened.room ∙ ap (λ (k : ℕ). 8 * (k - 5)) (sym goes.continues.size);
          legal = subst (λ (k : Option HeaderParts). IfSome k (λ h. IsLegalDirectory (view y.records).record_count h (map slot_bytes y.slots))) (sym kept)
              (subst (λ (m : ℕ). IsLegalDirectory m header (map slot_bytes y.slots)) (sym goes.continues.size) legal_now);
          known = λ u now. subst (λ (k : Option HeaderParts). IfSome k (λ h. IsDirectoryOf u h y.slots)) (sym kept) (directory_now u now);
          gate = λ u now. subst (λ (k : Option HeaderParts). IfSome k (λ h. y.is_open ≡ has_open_gate u)) (sym kept) (shut ∙ sym (shut_now u now));
          end = λ u now. subst (λ (k : Option HeaderParts). IfSome k (λ h. EndsWith h.start h.length (length y.slots) y.last u)) (sym kept) (ends_now last u now);
        }

-- ---- both parts

module _ {R S : Type 0} (view : R → RecordsView S) (x y z : VolumeView R) (label : List ℕ) (slots : ℕ) (cleared : Clears {T = Unit {0}} view x y (Ok tt)) where
  pub settled_there : (u : Tape) → (view y.records).tape ≡ Some u → IsSettled u
  settled_there u now =
      let was = was_told _ _ cleared.goes_on.continues.told u now in
      let same : u ≡ settled was.0 = same_tape (settled was.0) u _ (cleared.settles was.0 was.1) now in
      subst (λ (c : Tape). IsSettled c) (sym same) (settled_twice was.0)

  pub free_there : is_too_long (view x.records).record_count slots ≡ false → (u : Tape) → (view y.records).tape ≡ Some u
      → refusal_of (view y.records).record_count (Format label slots) (volume_in u) ≡ None
  free_there fits u now =
      let was = was_told _ _ cleared.goes_on.continues.told u now in
      let same : u ≡ settled was.0 = same_tape (settled was.0) u _ (cleared.settles was.0 was.1) now in
      (λ i. refusal_of (cleared.goes_on.continues.size i) (Format label slots) (volume_in (same i))) ∙ cleared.free was.0 was.1 label slots fits

  module _ (a : Result (Unit {0}) VolumeFault) (renews : Renews (Format label slots) view y z a) (only : IfErr a (IsOneOf [])) where
    as_kept : (a : Result (Unit {0}) VolumeFault) → IfErr a (IsOneOf []) → keeps_behind_command (Format label slots) (is_some x.kept) a ≡ keeps a
    as_kept (Ok v) only = refl
    as_kept (Err (Refused why)) only = absurd only
    as_kept (Err (Troubled trouble)) only = refl

    one_of : (a : Result (Unit {0}) VolumeFault) → IfErr a (IsOneOf []) → IfErr a (IsOneOf (refusals_of (Format label slots)))
    one_of (Ok v) only = tt
    one_of (Err (Refused why)) only = absurd only
    one_of (Err (Troubled trouble)) only = tt

    -- its commit makes calls
    commits_some : (a : Result (Unit {0}) VolumeFault) → IfErr a (IsOneOf []) → committing a ≡ 0 → ⊥
    commits_some (Ok v) only none = cc
    commits_some (Err (Refused why)) only none = absurd only
    commits_some (Err (Troubled trouble)) only none = cc

    changes_some : (volume : Option Volume) (t : Tape) → changes_filed (view x.records).record_count (Format label slots) volume t ≡ [] → ⊥
    changes_some (Some v) t none = cc
    changes_some None t none = cc

    settled_tape : (t : Tape) (a : Result (Unit {0}) VolumeFault) → IfErr a (IsOneOf []) → (why : Refusal) → a ≡ Err (Refused why) → refused_tape (Format label slots) why t ≡ settled t
    settled_tape t (Ok v) only why is = cc
    settled_tape t (Err (Refused other)) only why is = absurd only
    settled_tape t (Err (Troubled trouble)) only why is = cc

    pub formatted : OnlySettles view x y → KeepsVolume view x y → ((t : Tape) → (view x.records).tape ≡ Some t → GoesOnBy (IsSettleWrite (view x.records).record_count (redo_of t)) (view x.records).transferred (view y.records).transferred)
        → Alters (Format label slots) view x z a
    formatted settling stays first =
        let n = (view x.records).record_count in
        let size = cleared.goes_on.continues.size in
        record {
          goes_on = goes_further (mounting n x.kept None) (committing a) (view x.records) (view y.records) (view z.records) tt (store_answer a) cleared.goes_on renews.goes_on;
          few = λ t told.
              let on = carried_on view x y z (Format label slots) a size cleared.settles renews.on_tape t told in
              let same = settled_same view x y z (Format label slots) a size cleared.settles renews.on_tape t told in
              omega (arith, cleared.few t told, on.few, ap (λ (v : Option Volume). carrying_on n (Format label slots) (settled t) (changes_filed n (Format label slots) v (settled t)) a) same);
          most = λ t told. omega (arith, cleared.few t told, renews.goes_on.continues.left);
          idle = λ none. absurd (commits_some a only (omega (arith, none)));
          idle_on = λ t told none files changes. absurd (changes_some (volume_of t) (settled t) changes);
          kept = renews.kept ∙ sym (as_kept a only);
          only = one_of a only;
          answers = parts_answers view x y z (Format label slots) a size cleared.settles renews.on_tape;
          written = λ t u told now.
              written_from n (Format label slots) t u a (settled_tape t a only) (settled_same view x y z (Format label slots) a size cleared.settles renews.on_tape t told)
              ((carried_on view x y z (Format label slots) a size cleared.settles renews.on_tape t told).written u now);
          stops = parts_stops view x y z (Format label slots) a size cleared.settles renews.on_tape stays;
          foreign = settles_foreign view x y z settling (λ t told. renews.held (settled t) (cleared.settles t told));
          transfers = parts_transfers view x y z (Format label slots) a size cleared.settles renews.on_tape (λ on. cleared.idle (nothing_mounted n x.kept None on)) first;
        }

-- ---- refused, or the store failed before

module _ {R S : Type 0} (view : R → RecordsView S) (x y : VolumeView R) (label : List ℕ) (slots : ℕ) where
  refused_answers : (fault : VolumeFault) → Clears {T = Unit {0}} view x y (Err fault) → is_too_long (view x.records).record_count slots ≡ false → AnswersTo {T = Unit {0}} (Format label slots) view x y (Err fault)
  refused_answers (Refused why) cleared fits t u told now =
      let n = (view x.records).record_count in
      let same : u ≡ settled t = behind t u (view y.records).tape now (cleared.settles t told) in
      refused_stays n (Format label slots) (volume_of t) why (cleared.free t told label slots fits)
      ∙ ap (λ (v : Option Volume). (Some why, v)) (sym (ap volume_of same ∙ ap volume_in (settled_twice t)))
  refused_answers (Troubled trouble) cleared fits t u told now = tt

  refused_stops : KeepsVolume view x y → TurnsVolume (Format label slots) view x y
  refused_stops stays t told own =
      let first = stays t told own in
      record {
        stops = weaker _ _ _ _ (HasEitherVolume (view x.records).record_count (Format label slots) t) (HasVolumeOf t) first.stops (λ c is. record { records = is.records; volume = inl is.volume; own_gate = is.own_gate });
        after = (first.after.0, first.after.1, record { records = first.after.2.records; volume = inl first.after.2.volume; own_gate = first.after.2.own_gate });
      }

  keeps_of : (fault : VolumeFault) → IsOneOf (refusal.InUse ∷ []) fault → is_some y.kept ≡ keeps {T = Unit {0}} (Err fault) → is_some y.kept ≡ keeps_behind_command {T = Unit {0}} (Format label slots) (is_some x.kept) (Err fault)
  keeps_of (Refused why) (inl in_use) is = is ∙ sym (ap (λ (r : Refusal). keeps_behind_command {T = Unit {0}} (Format label slots) (is_some x.kept) (Err (Refused r))) in_use ∙ sym (ap (λ (r : Refusal). keeps {T = Unit {0}} (Err (Refused r))) in_use))
  keeps_of (Refused why) (inr never) is = absurd never
  keeps_of (Troubled trouble) only is = is

  one_of_both : (fault : VolumeFault) → IsOneOf (refusal.InUse ∷ []) fault → IsOneOf (refusals_of (Format label slots)) fault
  one_of_both (Refused why) only = inr only
  one_of_both (Troubled trouble) only = tt

  pub not_cleared : (fault : VolumeFault) → Clears {T = Unit {0}} view x y (Err fault) → is_too_long (view x.records).record_count slots ≡ false → IsOneOf (refusal.InUse ∷ []) fault → OnlySettles view x y → KeepsVolume view x y
      → ((t : Tape) → (view x.records).tape ≡ Some t → AddsOnly (IsSettleWrite (view x.records).record_count (redo_of t)) (view x.records).transferred (view y.records).transferred (store_answer {T = Unit {0}} (Err fault)))
      → Alters {T = Unit {0}} (Format label slots) view x y (Err fault)
  not_cleared fault cleared fits only settling stays first = record {
    goes_on = goes_within (mounting n x.kept None) (mounting n x.kept None + committing {T = Unit {0}} (Err fault)) _ _ _ (omega arith) cleared.goes_on;
    few = λ t told. omega (arith, cleared.few t told);
    most = λ t told. omega (arith, cleared.few t told);
    idle = λ none. cleared.idle (omega (arith, none));
    idle_on = λ t told none files changes. cleared.idle (nothing_mounted n x.kept None (mounted_as_kept t x.kept none));
    kept = keeps_of fault only cleared.kept;
    only = one_of_both fault only;
    answers = refused_answers fault cleared fits;
    written = λ t u told now. written_by fault only t u told now (cleared.settles t told);
    stops = refused_stops stays;
    foreign = λ t told on. settling t told;
    transfers = λ t told. transfers_by fault t (first t told);
  }
    where
      n : ℕ
      n = (view x.records).record_count

      written_by : (fault : VolumeFault) → IsOneOf (refusal.InUse ∷ []) fault → (t u : Tape) → (view x.records).tape ≡ Some t → (view y.records).tape ≡ Some u
          → IsSettledAs t (view y.records).tape (store_answer {T = Unit {0}} (Err fault)) → IsWrittenAs {T = Unit {0}} n (Format label slots) t u (Err fault)
      written_by (Refused why) (inl in_use) t u told now settles = behind t u _ now settles ∙ sym (ap (λ (r : Refusal). refused_tape (Format label slots) r t) in_use)
      written_by (Refused why) (inr never) t u told now settles = absurd never
      written_by (Troubled trouble) only t u told now settles = tt

      transfers_by : (fault : VolumeFault) (t : Tape) → AddsOnly (IsSettleWrite n (redo_of t)) (view x.records).transferred (view y.records).transferred (store_answer {T = Unit {0}} (Err fault))
          → AddsAsAnswered {T = Unit {0}} (IsSettleWrite n (redo_of t)) (is_some x.kept) n (Format label slots) (volume_of t) (settled t) (view x.records).transferred (view y.records).transferred (Err fault)
      transfers_by (Refused why) t adds = adds
      transfers_by (Troubled trouble) t adds = tt

-- nothing is done
nothing_stops : {R S : Type 0} (view : R → RecordsView S) (x : VolumeView R) (command : VolumeCommand) → IsStore (view x.records) → TurnsVolume command view x x
nothing_stops view x command store t told own =
    let here : HasEitherVolume (view x.records).record_count command t t = record { records = refl; volume = inl refl; own_gate = own } in
    record { stops = quiet_run (view x.records) (view x.records) _ t store (quiet_nowhere (view x.records)) told here; after = (t, told, here) }

-- the medium has no room for the directory
module _ {R S : Type 0} (view : R → RecordsView S) (x : VolumeView R) (label : List ℕ) (slots : ℕ) (calls : ℕ) (ready : IsReady calls (view x.records)) (store : IsStore (view x.records)) (long : is_too_long (view x.records).record_count slots ≡ true) where
  no_room_is : (volume : Option Volume) → refusal_of (view x.records).record_count (Format label slots) volume ≡ Some refusal.NoRoom
  no_room_is None = λ i. if long i then Some refusal.NoRoom else None
  no_room_is (Some v) = λ i. if long i then Some refusal.NoRoom else if lacks_redo (view x.records).record_count v && runs_past_gate (view x.records).record_count v then Some refusal.InUse else None

  pub no_room : Alters {T = Unit {0}} (Format label slots) view x x (Err (Refused refusal.NoRoom))
  no_room = record {
    goes_on = goes_within 0 (mounting (view x.records).record_count x.kept None + committing {T = Unit {0}} (Err (Refused refusal.NoRoom))) _ _ _ (omega arith) (goes_nowhere calls (view x.records) ready);
    few = λ t told. omega arith;
    most = λ t told. omega arith;
    idle = λ none. refl;
    idle_on = λ t told none files changes. refl;
    kept = refl;
    only = inl refl;
    answers = λ t u told now. refused_stays (view x.records).record_count (Format label slots) (volume_of t) refusal.NoRoom (no_room_is (volume_of t))
        ∙ ap (λ (w : Tape). (Some refusal.NoRoom, volume_of w)) (sym (same_tape t u _ told now));
    written = λ t u told now. same_tape t u _ told now;
    stops = nothing_stops view x (Format label slots) store;
    foreign = λ t told on. settles_here (view x.records) t store told;
    transfers = λ t told. record { goes_on = λ list was. ([], subst (view x.records).transferred (sym (append-nil list)) was, tt) };
  }

-- by the test that the code makes
pub long_is : (n size slots : ℕ) (b : Bool) → size ≡ n → b ≡ not (is_too_long size slots) → b ≡ false → is_too_long n slots ≡ true
long_is n size slots b same is off = ap (λ (k : ℕ). is_too_long k slots) (sym same) ∙ go (is_too_long size slots) (sym off ∙ is)
  where
    go : (x : Bool) → false ≡ not x → x ≡ true
    go true e = refl
    go false e = cc
